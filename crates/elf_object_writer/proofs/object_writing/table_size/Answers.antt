use Rattle.std.proofs.Common.{arith}
use Rattle.elf_object_writer.proofs.Going.{length-header_table}
use Rattle.elf_object_layout.proofs.Public.{table_end}
use Rattle.elf_object_writer.proofs.object_writing.table_size.Goals as goal

pub returns : goal.returns
returns c =
    let p = c.args.placed.now in
    let end = table_end p.object p.layout c.prove_placed.ensures.layout in
    let size = length-header_table p c.prove_placed.ensures in
    let count = c.header_count.ensures.value in
    record { value = omega arith; within = omega arith }
