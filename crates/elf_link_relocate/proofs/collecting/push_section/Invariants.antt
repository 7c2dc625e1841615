use Rattle.elf_link_relocate.specs.Passes.{entry_site, AreFoundBefore}
use Rattle.elf_link_relocate.proofs.collecting.push_section.Given as goal

abbrev pub invariant-loop-entry : goal.invariant-loop-entry
invariant-loop-entry l = AreFoundBefore l.values.objects l.values.map l.values.rules l.listing (entry_site l.file l.index l.entry) l.found
