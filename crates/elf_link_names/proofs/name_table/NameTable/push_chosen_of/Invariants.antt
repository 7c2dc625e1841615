use Rattle.elf_link_files.specs.Rows.{UpTo}
use Rattle.elf_link_names.specs.Resolution.{AreChosenIn}
use Rattle.elf_link_names.specs.Binds.{chosen_commons}
use Rattle.elf_link_names.proofs.name_table.NameTable.push_chosen_of.Given as goal

abbrev pub invariant-loop-index : goal.invariant-loop-index
invariant-loop-index l = AreChosenIn (UpTo (chosen_commons l.self) l.file l.index) l.self l.commons.items
