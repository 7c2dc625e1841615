use Rattle.std.proofs.Common.{◌≡◌, map, take}
use Rattle.elf_object_reader.specs.Denotes.{position_of}
use Rattle.elf_object_reader.specs.FileRules.{sections_of_file}
use Rattle.elf_object_reader.proofs.reading.ObjectReader.read_members.Given as goal

abbrev pub invariant-loop-j : goal.invariant-loop-j
invariant-loop-j l = l.members.items ≡ map (position_of l.self.file.left (sections_of_file l.self.file)) (take l.j l.group.members)
