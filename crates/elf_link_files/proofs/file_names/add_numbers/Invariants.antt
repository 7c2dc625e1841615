use Rattle.std.proofs.Common.{◌≡◌, ◌++◌, map, take}
use Rattle.elf_link_files.specs.FileNames.{numbered_end}
use Rattle.elf_link_files.proofs.file_names.add_numbers.Given as goal

abbrev pub invariant-loop-end : goal.invariant-loop-end
invariant-loop-end l = l.numbers.items ≡ l.fn.numbers.items ++ map (numbered_end l.file l.count) (take l.end-index l.ends)
