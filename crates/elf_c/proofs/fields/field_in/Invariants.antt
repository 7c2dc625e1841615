use Rattle.std.proofs.Common.{◌≡◌, ◌≤◌, ◌<◌, ◌-◌, length, take}
use Rattle.elf_field.specs.Record.{width_of}
use Rattle.elf_c.proofs.fields.field_in.Given as goal

-- the fields so far end before the byte, or at it, so they are not all
abbrev pub invariant-loop-start : goal.invariant-loop-start
invariant-loop-start l = record {
  there : l.k < length l.widths;
  ends : l.start ≡ width_of (take l.k l.widths);
  before : l.start ≤ l.at;
}

abbrev pub decreases-loop-start : goal.decreases-loop-start
decreases-loop-start l = length l.widths - l.k
