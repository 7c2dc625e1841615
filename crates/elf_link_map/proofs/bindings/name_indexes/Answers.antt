use Rattle.std.proofs.Common.{[], map}
use Rattle.std.proofs.lemmas.List.{map-append}
use Rattle.elf_link_files.proofs.Public.{each_more}
use Rattle.elf_link_map.proofs.bindings.name_indexes.Goals as goal

pub loop-file-preserved : goal.loop-file-preserved
loop-file-preserved c =
    rw (c.in_ok-push.ensures.items, map-append)
    (each_more [] _ c.loop-file.file
    (map (λ row. row.items) c.loop-file.rows.items) c.in_ok-file_indexes.field-0.items c.in_ok-file_indexes.ensures
    c.loop-file.invariant)
