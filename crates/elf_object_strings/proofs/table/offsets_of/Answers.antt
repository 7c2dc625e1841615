-- Each owner is its own (`owners_own`), so each name gets the end of its owner (`ends_of_owners`).
use Rattle.std.proofs.Common.{◌≡◌, Bor, List, length, subst, sym, ℕ}
use Rattle.std.proofs.lemmas.List.{length-map}
use Rattle.elf_object_strings.specs.StringTable.{HasEnds, HaveZeros, texts}
use Rattle.elf_object_strings.proofs.Written.{ends_of_owners, owners_own}
use Rattle.elf_object_strings.proofs.table.offsets_of.Goals as goal

abbrev now_of : Bor (List ℕ) → List ℕ
now_of name = name.now

pub share_ends-requires-clause-own : goal.share_ends-requires-clause-own
share_ends-requires-clause-own c = owners_own _ _ c.requires.owners

pub begin_names-requires : goal.begin_names-requires
begin_names-requires c =
    let names = c.args.names.now in
    let many : length (texts names) ≡ length names = length-map names now_of in
    let has = subst (λ k. HasEnds (texts names) k c.args.zeros.items) (sym many) c.requires.zeros in
    subst (HaveZeros (texts names)) (sym c.share_ends.ensures)
    (ends_of_owners (texts names) c.args.owners.now c.args.zeros.items c.requires.owners has)
