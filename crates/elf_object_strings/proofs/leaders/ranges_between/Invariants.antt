use Rattle.std.proofs.Common.{◌≡◌, length}
use Rattle.elf_object_strings.specs.Leaders.{AreBetween}
use Rattle.elf_object_strings.proofs.leaders.ranges_between.Given as goal

abbrev pub invariant-loop-i : goal.invariant-loop-i
invariant-loop-i l = record {
  all : length l.ranges.items ≡ l.i;
  each : AreBetween l.firsts l.lasts l.count l.ranges.items;
}
