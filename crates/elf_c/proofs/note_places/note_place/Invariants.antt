use Rattle.std.proofs.Common.{◌≡◌, ◌≤◌, length}
use Rattle.elf_table_lists.specs.Notes.{note_offset}
use Rattle.elf_c.proofs.note_places.note_place.Given as goal

-- note `entry` begins at `at`, at the byte or before it
abbrev pub invariant-loop-entry : goal.invariant-loop-entry
invariant-loop-entry l = record {
  place : l.at ≡ note_offset l.order l.content 0 l.entry;
  begins : l.at ≤ l.inner;
  few : l.entry ≤ l.at;
  within : l.at ≤ length l.content;
}
