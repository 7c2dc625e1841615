-- The section read is a group, so its members are those that the loop goes over, and each is a position among the object's sections.
use Rattle.std.proofs.Common.{◌≡◌, ℕ, ◌<◌, List, length, get_or, ap, sym, subst, ◌∙◌, arith, rules, vec_len}
use Rattle.elf_object_type.specs.Object.{SectionValue, section_at, members_of}
use Rattle.elf_object_type.specs.ObjectView.{body_value}
use Rattle.elf_object_type.specs.declared.parts.Body.{Body}
use Rattle.elf_link_files.specs.Files.{AreMembersMarked}
use Rattle.elf_object_type.proofs.Public.{member_there}
use Rattle.elf_link_files.proofs.MarkedFiles.{marked_none, marked_next}
use Rattle.elf_link_files.proofs.discarded.mark_members.Goals as goal

pub index_mut-requires : goal.index_mut-requires
index_mut-requires c =
    let o = c.args.object.now in
    let ms = c.deref-member-items.result.now in
    let k = c.loop-member.member-index in
    let body = ap (λ (b : Body). members_of (body_value b)) c.in-Group.is in
    let section = ap (λ (s : SectionValue). members_of s.body) c.section_at.ensures in
    let same : members_of (section_at o c.args.index).body ≡ ms = sym section ∙ body ∙ sym c.deref-member-items.ensures.value in
    let below : k < length (members_of (section_at o c.args.index).body) = rw same c.loop-member-test.true in
    let there : get_or ms k 0 < length o.sections =
    subst (λ (xs : List ℕ). get_or xs k 0 < length o.sections) same
    (member_there o c.args.index k c.prove_rules.ensures.kept c.requires.section below) in
    let wide : length c.loop-member.marks.items ≡ vec_len c.loop-member.marks = search rules in
    let long = c.loop-member.invariant.long in
    let rows = c.requires.marks in
    omega arith

pub loop-member-init : goal.loop-member-init
loop-member-init c = marked_none c.args.marks.now.items c.deref-member-items.result.now

pub loop-member-preserved : goal.loop-member-preserved
loop-member-preserved c =
    let o = c.args.object.now in
    let ms = c.deref-member-items.result.now in
    let k = c.loop-member.member-index in
    let body = ap (λ (b : Body). members_of (body_value b)) c.in-Group.is in
    let section = ap (λ (s : SectionValue). members_of s.body) c.section_at.ensures in
    let same : members_of (section_at o c.args.index).body ≡ ms = sym section ∙ body ∙ sym c.deref-member-items.ensures.value in
    let below : k < length (members_of (section_at o c.args.index).body) = rw same c.loop-member-test.true in
    let there : get_or ms k 0 < length o.sections =
    subst (λ (xs : List ℕ). get_or xs k 0 < length o.sections) same
    (member_there o c.args.index k c.prove_rules.ensures.kept c.requires.section below) in
    let long = c.loop-member.invariant.long in
    let rows = c.requires.marks in
    marked_next c.args.marks.now.items ms k c.loop-member.marks.items c.loop-member.invariant (omega arith)

pub returns : goal.returns
returns c =
    let ms = c.deref-member-items.result.now in
    let body = ap (λ (b : Body). members_of (body_value b)) c.in-Group.is in
    let section = ap (λ (s : SectionValue). members_of s.body) c.section_at.ensures in
    let same : ms ≡ members_of (section_at c.args.object.now c.args.index).body = c.deref-member-items.ensures.value ∙ sym body ∙ section in
    let end : c.loop-member.member-index ≡ length ms = omega arith in
    subst (λ (xs : List ℕ). AreMembersMarked c.args.marks.now.items xs (length xs) c.loop-member.marks.items) same
    (subst (λ (n : ℕ). AreMembersMarked c.args.marks.now.items ms n c.loop-member.marks.items) end c.loop-member.invariant)
