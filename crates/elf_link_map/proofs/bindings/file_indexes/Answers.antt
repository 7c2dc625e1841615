use Rattle.elf_link_files.proofs.Public.{each_more}
use Rattle.elf_link_map.proofs.bindings.file_indexes.Goals as goal

pub loop-index-preserved : goal.loop-index-preserved
loop-index-preserved c =
    rw c.in_ok-push.ensures.items
    (each_more 0 _ c.loop-index.index c.loop-index.row.items c.name_index.result c.name_index.ensures c.loop-index.invariant)
