use Rattle.std.proofs.Common.{arith}
use Rattle.std.proofs.lemmas.List.{length-map}
use Rattle.elf_object_layout.specs.Laid.{rel_entry, rela_entry}
use Rattle.elf_object_layout.proofs.Public.{length-relas, length-rels}
use Rattle.elf_object_writer.proofs.contents.write_each_relocation.Goals as goal

pub write_entries-requires-clause-short : goal.write_entries-requires-clause-short
write_entries-requires-clause-short g c =
    let short = rw (c.if-rela.true) at c.requires.short in
    let long = length-relas c.args.order c.args.entries.now in
    let same = length-map c.args.entries.now rela_entry in
    omega arith

pub write_entries-requires-else-rela-clause-short :
    goal.write_entries-requires-else-rela-clause-short
write_entries-requires-else-rela-clause-short g c =
    let short = rw (c.if-rela.false) at c.requires.short in
    let long = length-rels c.args.order c.args.entries.now in
    let same = length-map c.args.entries.now rel_entry in
    omega arith
