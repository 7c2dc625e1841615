use Rattle.std.proofs.Common.{take}
use Rattle.std.specs.List.{flat_map, range_with_len}
use Rattle.elf_tool_text.specs.Buffered.{Buffers}
use Rattle.elf_tool_text.proofs.lines.show_lines.Given as goal

-- the first lines are sent
abbrev pub invariant-loop-j : goal.invariant-loop-j
invariant-loop-j g l =
    Buffers (g.W.Write.contents l.initial.writer) (g.W.Write.contents l.writer) l.initial.output l.output
    (flat_map (g.L.Lines.line l.lines) (take l.j (range_with_len 0 (g.L.Lines.count l.lines))))
