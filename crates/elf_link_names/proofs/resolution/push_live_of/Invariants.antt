use Rattle.elf_link_files.specs.Rows.{Lists, UpTo}
use Rattle.elf_link_names.specs.Binds.{live_sections}
use Rattle.elf_link_names.proofs.resolution.push_live_of.Given as goal

abbrev pub invariant-loop-index : goal.invariant-loop-index
invariant-loop-index l = Lists (UpTo (live_sections l.inputs) l.file l.index) l.sites.items
