use Rattle.elf_link_files.specs.Discarded.{comdat_groups}
use Rattle.elf_link_files.specs.Rows.{Lists, UpTo}
use Rattle.elf_link_files.proofs.discarded.push_groups.Given as goal

abbrev pub invariant-loop-index : goal.invariant-loop-index
invariant-loop-index l = Lists (UpTo (comdat_groups l.objects) l.file l.index) l.groups.items
