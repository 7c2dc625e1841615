use Rattle.std.proofs.Common.{◌≡◌, take}
use Rattle.std.specs.List.{list_all}
use Rattle.elf_tool_text.specs.Line.{is_graphic}
use Rattle.elf_tool_text.proofs.line.is_graphic.Given as goal

-- the first bytes are tested
abbrev pub invariant-loop-b : goal.invariant-loop-b
invariant-loop-b l = l.all ≡ list_all is_graphic (take l.b-index l.name)
