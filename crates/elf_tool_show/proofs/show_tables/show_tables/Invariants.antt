use Rattle.std.proofs.Common.{length, take}
use Rattle.std.specs.List.{flat_map, range_with_len}
use Rattle.elf_tool_text.specs.Buffered.{Buffers}
use Rattle.elf_tool_show.specs.Show.{table_text}
use Rattle.elf_tool_show.proofs.show_tables.show_tables.Given as goal

-- the lines of the tables in the first sections are sent
abbrev pub invariant-loop-i : goal.invariant-loop-i
invariant-loop-i g l =
    Buffers (g.W.Write.contents l.initial.writer) (g.W.Write.contents l.writer) l.initial.output l.output
    (flat_map (table_text l.tables) (take l.i (range_with_len 0 (length l.tables.image.sections))))
