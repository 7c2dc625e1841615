use Rattle.std.proofs.Common.{◌-◌, ◌≡◌, ◌≤◌, false, drop, length}
use Rattle.std.specs.Fmt.{digits, digits_onto}
use Rattle.elf_tool_text.proofs.digits.put_wide_digits.Given as goal

-- with the digits of the rest in front, those that are put are all
abbrev pub invariant-loop-start : goal.invariant-loop-start
invariant-loop-start l = record {
  least : 3 ≤ l.start;
  inside : l.start ≤ 67;
  room : length l.out ≡ 67;
  put : digits_onto (l.start - 3) 16 false l.rest (drop l.start l.out) ≡ digits 16 false l.number;
}

abbrev pub decreases-loop-start : goal.decreases-loop-start
decreases-loop-start l = l.start
