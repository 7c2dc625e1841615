use Rattle.elf_link_files.specs.Rows.{UpTo}
use Rattle.elf_link_names.specs.Resolution.{AreChosenIn}
use Rattle.elf_link_names.specs.Binds.{chosen_commons}
use Rattle.elf_link_names.proofs.name_table.NameTable.chosen_commons.Given as goal

abbrev pub invariant-loop-file : goal.invariant-loop-file
invariant-loop-file l = AreChosenIn (UpTo (chosen_commons l.self) l.file 0) l.self l.commons.items
