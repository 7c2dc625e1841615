use Rattle.std.proofs.Common.{◌%◌, ap, get_or, ◌∙◌}
use Rattle.elf_image_type.proofs.ImageLemmas.{in_table}
use Rattle.elf_image_type.proofs.loading.table_byte.Goals as goal

pub returns : goal.returns
returns g c =
    let size = g.T.Record.SIZE in
    let bytes = g.T.Record.bytes c.args.order in
    let record_is = rw c.SIZE.ensures at c.index-records-k.is in
    let byte_is = rw c.SIZE-2.ensures at c.record_byte.ensures in
    byte_is ∙ ap (λ (r : _). get_or (bytes r) (c.args.k % size) 0) record_is
    ∙ in_table g.met.T.Record.laws c.args.order c.args.records.now c.args.k c.index-records-k.result c.requires.some c.requires.within
