use Rattle.elf_link_relocate.specs.Passes.{entry_site, AreFoundBefore}
use Rattle.elf_link_relocate.proofs.collecting.pass_over_entries.Given as goal

abbrev pub invariant-loop-file : goal.invariant-loop-file
invariant-loop-file l = AreFoundBefore l.values.objects l.values.map l.values.rules l.listing (entry_site l.file 0 0) l.found
