use Rattle.std.proofs.Common.{arith}
use Rattle.elf_link_relocate.specs.Loads.{loads}
use Rattle.elf_exec.proofs.ExecText.{length-program_headers, many_places}
use Rattle.elf_exec.proofs.exec_writing.write_table.Goals as goal

pub write_entries-requires-clause-short : goal.write_entries-requires-clause-short
write_entries-requires-clause-short g c =
    let p = c.args.placed.now in
    let m = p.linked.map in
    let few = c.linked.ensures.placed.few in
    let all = length-program_headers m.page (loads m) p.places (many_places m p.places c.linked.ensures.placed.least) in
    omega arith
