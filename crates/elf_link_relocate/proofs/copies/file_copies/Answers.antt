use Rattle.std.proofs.Common.{None, map}
use Rattle.std.proofs.lemmas.List.{map_push}
use Rattle.elf_link_files.proofs.Public.{each_more}
use Rattle.elf_link_relocate.specs.Passes.{copy_view}
use Rattle.elf_link_relocate.proofs.copies.file_copies.Goals as goal

pub loop-section-preserved : goal.loop-section-preserved
loop-section-preserved c =
    rw c.in_ok-push.ensures.items (rw map_push
    (each_more None _ c.loop-section.section (map copy_view c.loop-section.row.items)
    (copy_view c.in_ok-copy_of.field-0) c.in_ok-copy_of.ensures c.loop-section.invariant))
