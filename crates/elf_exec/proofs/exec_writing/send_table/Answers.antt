use Rattle.std.proofs.Common.{arith}
use Rattle.elf_exec.proofs.ExecText.{length-table_bytes, many_places}
use Rattle.elf_exec.proofs.exec_writing.send_table.Goals as goal

pub after-requires : goal.after-requires
after-requires g c =
    let p = c.args.placed.now in
    let few = c.count.ensures.placed.few in
    let below = c.in-Err.ensures.0 in
    let all = length-table_bytes p.linked.objects p.linked.map p.places (many_places p.linked.map p.places c.count.ensures.placed.least) in
    omega arith

pub returns-in-Ok : goal.returns-in-Ok
returns-in-Ok g c =
    let p = c.args.placed.now in
    let from = rw c.count.ensures.value at c.table_end-end.ensures in
    let all = length-table_bytes p.linked.objects p.linked.map p.places (many_places p.linked.map p.places c.count.ensures.placed.least) in
    (omega arith, c.in-Ok.ensures)
