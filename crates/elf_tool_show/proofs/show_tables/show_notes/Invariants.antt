use Rattle.std.proofs.Common.{◌≡◌, ℕ, drop, take}
use Rattle.std.specs.List.{flat_map}
use Rattle.elf_tool_text.specs.Buffered.{Buffers}
use Rattle.elf_tool_show.specs.Show.{note_line}
use Rattle.elf_tool_show.proofs.show_tables.show_notes.Given as goal

-- the lines of the first notes are sent, and the others are left
abbrev pub invariant-loop-note : goal.invariant-loop-note
invariant-loop-note g l =
    (count : ℕ) ×
    Buffers (g.W.Write.contents l.initial.writer) (g.W.Write.contents l.writer) l.initial.output l.output
    (flat_map (note_line l.i) (take count l.notes))
    × (l.note-iterator ≡ drop count l.notes)
