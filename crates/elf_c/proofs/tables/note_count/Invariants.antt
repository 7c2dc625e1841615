use Rattle.std.proofs.Common.{◌≡◌, ◌<◌, ◌≤◌, ◌-◌, ℕ, length}
use Rattle.elf_table_lists.specs.Notes.{note_end, note_offset}
use Rattle.elf_c.proofs.tables.note_count.Given as goal

-- note `count` begins at `at`, and each one before it is whole
abbrev pub invariant-loop-end : goal.invariant-loop-end
invariant-loop-end l = record {
  place : l.at ≡ note_offset l.order l.content 0 l.count;
  whole : (k : ℕ) → k < l.count → note_end l.order l.content (note_offset l.order l.content 0 k) ≤ length l.content;
  few : l.count ≤ l.at;
  within : l.at ≤ length l.content;
}

abbrev pub decreases-loop-end : goal.decreases-loop-end
decreases-loop-end l = length l.content - l.at
