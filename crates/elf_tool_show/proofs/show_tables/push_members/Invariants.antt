use Rattle.std.proofs.Common.{◌≡◌, ◌++◌, map}
use Rattle.std.specs.Fmt.{decimal}
use Rattle.elf_tool_check.specs.FileLines.{further_words}
use Rattle.elf_tool_show.proofs.show_tables.push_members.Given as goal

abbrev pub invariant-loop-member : goal.invariant-loop-member
invariant-loop-member l = l.text.items ≡ l.initial.text.items ++ further_words (map decimal l.yielded)
