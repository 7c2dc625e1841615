use Rattle.std.proofs.Common.{refl, inl}
use Rattle.elf_image_rules.proofs.Public.{FirstIn-later, FirstIn-sooner}
use Rattle.elf_table_symbols.specs.Sections.{sections_seen}
use Rattle.elf_table_symbols.proofs.Public.{tested_handed}
use Rattle.elf_table_lists.specs.Groups.{group_member_rules, group_rules}
use Rattle.elf_table_lists.proofs.EntryLists.{no_wrong_member, wrong_member_row}
use Rattle.elf_table_lists.proofs.group.validate_group.Goals as goal

pub returns-in_err-validate_group_front-clause-validated : goal.returns-in_err-validate_group_front-clause-validated
unfolding group_rules
returns-in_err-validate_group_front-clause-validated c =
    tested_handed _ _ _ _ _ (FirstIn-sooner _ _ _ c.in_err-validate_group_front.ensures) c.from_residual.ensures.1

pub returns-in-Some-clause-validated : goal.returns-in-Some-clause-validated
unfolding group_rules group_member_rules
returns-in-Some-clause-validated c =
    let f = sections_seen c.args.linked.table.sections in
    let least = wrong_member_row f c.args.linked.table.index c.in-Some.j (rw c.in-Some.is at c.in_ok-wrong.ensures.found) in
    rw (c.from.ensures, c.new.ensures, c.member_offset.ensures)
    (FirstIn-later _ _ _ c.in_ok-validate_group_front.ensures (inl (refl, least)))

pub returns-in-None-clause-validated : goal.returns-in-None-clause-validated
unfolding group_rules group_member_rules
returns-in-None-clause-validated c =
    let f = sections_seen c.args.linked.table.sections in
    let never = no_wrong_member f c.args.linked.table.index (rw c.in-None.is at c.in_ok-wrong.ensures.found) in
    (FirstIn-later _ _ _ c.in_ok-validate_group_front.ensures (never, tt), tt)
