use Rattle.std.proofs.Common.{take}
use Rattle.std.specs.List.{flat_map, range_with_len}
use Rattle.elf_tool_text.specs.Buffered.{Buffers}
use Rattle.elf_tool_text.proofs.passed.pass_lines.Given as goal

-- the first lines are passed on
abbrev pub invariant-loop-j : goal.invariant-loop-j
invariant-loop-j g l =
    Buffers (g.W.Write.contents l.initial.writer) (g.W.Write.contents l.writer) l.initial.output l.output
    (flat_map (g.L.PassedLines.line l.lines) (take l.j (range_with_len 0 (g.L.PassedLines.count l.lines))))
