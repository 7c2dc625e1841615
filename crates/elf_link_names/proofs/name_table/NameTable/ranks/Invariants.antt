use Rattle.std.proofs.Common.{List}
use Rattle.elf_link_files.specs.declared.site.Site.{Site}
use Rattle.elf_link_files.specs.Rows.{Lists}
use Rattle.elf_link_names.specs.Binds.{first_entries}
use Rattle.elf_link_names.specs.Resolution.{AreRanks}
use Rattle.elf_link_names.proofs.name_table.NameTable.ranks.Given as goal

abbrev pub invariant-loop-k : goal.invariant-loop-k
invariant-loop-k l = (firsts : List Site) → Lists (first_entries l.self) firsts → AreRanks l.self firsts l.commons l.k l.ranks.items
