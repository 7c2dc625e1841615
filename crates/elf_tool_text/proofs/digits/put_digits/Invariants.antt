use Rattle.std.proofs.Common.{◌≡◌, ◌<◌, ◌≤◌, ◌+◌, ◌-◌, ◌++◌, ◌^◌, false, drop, length}
use Rattle.std.specs.Fmt.{digits, digits_onto}
use Rattle.elf_tool_text.proofs.digits.put_digits.Given as goal

-- with the digits of the rest in front, those that are put are all; places for them are left
abbrev pub invariant-loop-rest : goal.invariant-loop-rest
invariant-loop-rest l = record {
  before : l.start ≤ l.end;
  kept : length l.out ≡ length l.initial.out;
  places : l.end < 64 + l.start;
  small : l.rest < 2 ^ (64 + l.start - l.end);
  put : digits_onto (64 + l.start - l.end) l.base false l.rest (drop l.start l.out) ≡ digits l.base false l.number ++
      drop l.end l.initial.out;
}

abbrev pub decreases-loop-rest : goal.decreases-loop-rest
decreases-loop-rest l = l.rest
