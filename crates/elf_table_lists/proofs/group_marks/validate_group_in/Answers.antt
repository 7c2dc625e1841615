use Rattle.std.proofs.Common.{refl, inl}
use Rattle.elf_image_rules.proofs.Public.{FirstIn-later, FirstIn-stop}
use Rattle.elf_table_symbols.specs.Sections.{sections_seen}
use Rattle.elf_table_lists.specs.Groups.{group_member_rules, group_rules}
use Rattle.elf_table_lists.proofs.EntryLists.{no_wrong_member, wrong_member_row}
use Rattle.elf_table_lists.proofs.group_marks.validate_group_in.Goals as goal

pub returns-in_err-validate_group_front-clause-fault : goal.returns-in_err-validate_group_front-clause-fault
unfolding group_rules
returns-in_err-validate_group_front-clause-fault c = FirstIn-stop _ _ _ _ c.in_err-validate_group_front.ensures c.from_residual.ensures.1

pub returns-in-Some-clause-fault : goal.returns-in-Some-clause-fault
unfolding group_rules group_member_rules
returns-in-Some-clause-fault c =
    let f = sections_seen c.args.linked.table.sections in
    let least = wrong_member_row f c.args.linked.table.index c.in-Some.j (rw c.in-Some.is at c.lowest_unfit_or_marked.ensures.found) in
    rw (c.new.ensures, c.member_offset.ensures) (FirstIn-later _ _ _ c.in_ok-validate_group_front.ensures (inl (refl, least)))

pub returns-in-None-clause-fault : goal.returns-in-None-clause-fault
unfolding group_rules group_member_rules
returns-in-None-clause-fault c =
    let f = sections_seen c.args.linked.table.sections in
    let never = no_wrong_member f c.args.linked.table.index (rw c.in-None.is at c.lowest_unfit_or_marked.ensures.found) in
    FirstIn-later _ _ _ c.in_ok-validate_group_front.ensures (never, tt)
