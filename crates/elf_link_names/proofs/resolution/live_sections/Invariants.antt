use Rattle.elf_link_files.specs.Rows.{Lists, UpTo}
use Rattle.elf_link_names.specs.Binds.{live_sections}
use Rattle.elf_link_names.proofs.resolution.live_sections.Given as goal

abbrev pub invariant-loop-file : goal.invariant-loop-file
invariant-loop-file l = Lists (UpTo (live_sections l.inputs) l.file 0) l.sites.items
