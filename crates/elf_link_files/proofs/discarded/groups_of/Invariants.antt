use Rattle.elf_link_files.specs.Discarded.{comdat_groups}
use Rattle.elf_link_files.specs.Rows.{Lists, UpTo}
use Rattle.elf_link_files.proofs.discarded.groups_of.Given as goal

abbrev pub invariant-loop-file : goal.invariant-loop-file
invariant-loop-file l = Lists (UpTo (comdat_groups l.objects) l.file 0) l.groups.items
