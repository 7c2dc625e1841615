use Rattle.std.proofs.Common.{◌≤◌, arith}
use Rattle.elf_object_type.specs.ObjectView.{value_of}
use Rattle.elf_object_type.proofs.KeepsObjectRules.{fault_in_groups, fault_in_sections, found_in_symbols}
use Rattle.elf_object_type.proofs.object_rules.validate.Goals as goal

pub returns-in-Err-clause-err : goal.returns-in-Err-clause-err
returns-in-Err-clause-err c =
    let number : c.in-Err.broken.rule ≤ 5 = c.in-Err.ensures.number in
    (omega arith, fault_in_sections (value_of c.args.parts.now) _ c.in-Err.ensures.fault)

pub returns-in-Some-clause-err : goal.returns-in-Some-clause-err
returns-in-Some-clause-err c =
    let least = rw c.in-Some.is at c.in_ok-position.ensures in
    (omega arith, fault_in_groups (value_of c.args.parts.now) c.in-Some.position c.in_default.ensures.fault least)

pub returns-in-Err-validate_symbols-clause-err : goal.returns-in-Err-validate_symbols-clause-err
returns-in-Err-validate_symbols-clause-err c =
    let never = rw c.in_default-2.is at c.in_ok-position.ensures in (
      c.in-Err-validate_symbols.ensures.number,
      found_in_symbols (value_of c.args.parts.now) _ c.in_default.ensures.fault never c.in-Err-validate_symbols.ensures.fault,
    )

pub returns-clause-ok : goal.returns-clause-ok
returns-clause-ok c =
    let never = rw c.in_default-2.is at c.in_ok-position.ensures in
    found_in_symbols (value_of c.args.parts.now) _ c.in_default.ensures.fault never c.in_default-validate_symbols.ensures.fault
