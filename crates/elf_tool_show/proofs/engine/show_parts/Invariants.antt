use Rattle.std.proofs.Common.{take}
use Rattle.std.specs.List.{flat_map}
use Rattle.elf_tool_text.specs.Buffered.{Buffers}
use Rattle.elf_tool_show.specs.Show.{part_line}
use Rattle.elf_tool_show.proofs.engine.show_parts.Given as goal

-- the lines of the first parts are sent
abbrev pub invariant-loop-part : goal.invariant-loop-part
invariant-loop-part g l =
    Buffers (g.W.Write.contents l.initial.writer) (g.W.Write.contents l.writer) l.initial.output l.output
    (flat_map (part_line l.bytes) (take l.part-index l.parts))
