use Rattle.std.proofs.Common.{map}
use Rattle.elf_link_relocate.specs.Passes.{copy_view}
use Rattle.elf_link_relocate.specs.Passes.{AreCopies}
use Rattle.elf_link_relocate.proofs.copies.file_copies.Given as goal

abbrev pub invariant-loop-section : goal.invariant-loop-section
invariant-loop-section l = AreCopies l.linking.objects l.file l.section (map copy_view l.row.items)
