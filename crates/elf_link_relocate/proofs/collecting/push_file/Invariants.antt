use Rattle.elf_link_relocate.specs.Passes.{entry_site, AreFoundBefore}
use Rattle.elf_link_relocate.proofs.collecting.push_file.Given as goal

abbrev pub invariant-loop-index : goal.invariant-loop-index
invariant-loop-index l = AreFoundBefore l.values.objects l.values.map l.values.rules l.listing (entry_site l.file l.index 0) l.found
