use Rattle.elf_link_relocate.specs.Passes.{copies_view}
use Rattle.elf_link_relocate.specs.Passes.{AreAllCopies}
use Rattle.elf_link_relocate.proofs.copies.all_copies.Given as goal

abbrev pub invariant-loop-file : goal.invariant-loop-file
invariant-loop-file l = AreAllCopies l.linking.objects l.file (copies_view l.rows.items)
