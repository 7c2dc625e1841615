use Rattle.std.proofs.Common.{map, []}
use Rattle.std.proofs.lemmas.List.{map_push}
use Rattle.elf_link_files.proofs.Public.{each_more}
use Rattle.elf_link_relocate.specs.Passes.{copies_view, copy_view}
use Rattle.elf_link_relocate.proofs.copies.all_copies.Goals as goal

pub loop-file-preserved : goal.loop-file-preserved
loop-file-preserved c =
    rw c.in_ok-push.ensures.items (rw map_push
    (each_more [] _ c.loop-file.file (copies_view c.loop-file.rows.items)
    (map copy_view c.in_ok-file_copies.field-0.items) c.in_ok-file_copies.ensures c.loop-file.invariant))
