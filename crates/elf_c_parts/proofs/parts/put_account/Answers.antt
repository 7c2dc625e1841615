-- The parts that are written account for all bytes of the file. Each member adds the gap up to it, if any, and its own part
-- (`walk_pushed`); after the last one there is a gap or nothing (`walk_ends`). No end overflows, because the extents lie in the file.
use Rattle.std.proofs.Common.{◌<◌, ◌≤◌, ◌+◌, ◌∷◌, ◌++◌, ℕ, List, [], ap, arith, get_or, length, map, subst, sym, take, ◌∙◌}
use Rattle.std.specs.Prelude.{slice_set}
use Rattle.std.proofs.lemmas.List.{length-map}
use Rattle.elf_extent.specs.declared.extent.Piece.{Piece}
use Rattle.elf_extent.specs.declared.sorted.Member.{Member}
use Rattle.elf_extent.specs.Account.{Accounts, gap_between}
use Rattle.elf_extent.proofs.Public.{AccountsBelow, member_end, member_piece, member_start, walk_ends, walk_pushed}
use Rattle.elf_image_rules.specs.Rules.{extents_of_file}
use Rattle.elf_image_rules.specs.ValidatedRecords.{file_of}
use Rattle.elf_c_parts.specs.declared.parts.Part.{Part}
use Rattle.elf_c_parts.specs.Slots.{member_of_part, piece_of_part}
use Rattle.elf_c_parts.proofs.Slots.{few_extents, inside_file, short_file, ascending_members, map_more, member_at, no_member, owned_piece}
use Rattle.elf_c_parts.proofs.parts.put_account.Goals as goal

abbrev no_part : Part
no_part = record { start = 0; len = 0; owner = 0 }

pub overflow_add-at : goal.overflow_add-at
overflow_add-at c =
    let b = file_of c.args.records.now in
    let es = extents_of_file b in
    let at = member_at es c.args.members.now c.loop-member.member-index no_part c.requires.members c.loop-member-test.true in
    let inside = inside_file b c.requires.kept _ _ at.here at.nonempty in
    let short = short_file b c.requires.kept in
    omega arith

pub loop-member-preserved : goal.loop-member-preserved
loop-member-preserved c =
    let b = file_of c.args.records.now in
    let es = extents_of_file b in
    let members = c.args.members.now in
    let ms = map member_of_part members in
    let i = c.loop-member.member-index in
    let at = member_at es members i no_part c.requires.members c.loop-member-test.true in
    let few = few_extents b c.requires.kept in
    let parts = c.put_gap-count.new.parts in
    let k = c.put_gap-count.result in
    let gapped = map piece_of_part (take k parts) in
    let m = get_or members i no_part in
    let room : k < length parts = omega arith in
    let pushed = map piece_of_part (take (k + 1) (slice_set parts k m)) in
    let walked =
    walk_pushed es (length b) ms i c.loop-member.at _ gapped pushed no_member c.requires.disjoint
    (inside_file b c.requires.kept) c.requires.members
    (ascending_members members c.requires.ascending) at.within c.loop-member.invariant.walk
    (c.put_gap-count.ensures.gap ∙
    ap (λ (m : Member). map piece_of_part (take c.loop-member.count c.loop-member.parts) ++ gap_between c.loop-member.at (member_start m))
    (sym at.read))
    (map_more piece_of_part parts k m room ∙
    ap (λ (p : Piece). gapped ++ p ∷ []) (owned_piece m (omega (arith, at.below)) ∙ ap member_piece (sym at.read))) in
    record {
      few = omega arith;
      walk = subst (λ (m : Member). AccountsBelow es (length b) ms (i + 1) (member_end m) pushed) at.read walked;
    }

pub returns-clause-account : goal.returns-clause-account
returns-clause-account c =
    let b = file_of c.args.records.now in
    let es = extents_of_file b in
    let so_far = map piece_of_part (take c.loop-member.count c.loop-member.parts) in
    let end : length (map member_of_part c.args.members.now) ≤ c.loop-member.member-index =
    omega (arith, length-map c.args.members.now member_of_part) in
    let whole = walk_ends es
    (length b) _ c.loop-member.member-index c.loop-member.at so_far c.requires.members end c.loop-member.invariant.walk in
    subst (Accounts es (length b) 0)
    (sym (c.put_gap.ensures.gap ∙ ap (λ (bytes : List ℕ). so_far ++ gap_between c.loop-member.at (length bytes)) c.bytes.ensures)) whole
