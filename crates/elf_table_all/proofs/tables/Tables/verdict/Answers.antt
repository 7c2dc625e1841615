use Rattle.elf_image_rules.proofs.Public.{one_fault}
use Rattle.elf_table_all.specs.Tables.{table_rules}
use Rattle.elf_table_symbols.proofs.Public.{its_file}
use Rattle.elf_table_symbols.specs.Sections.{sections_of}
use Rattle.std.proofs.Common.{rules}
use Rattle.elf_table_all.proofs.tables.Tables.verdict.Goals as goal

pub returns-clause-fault : goal.returns-clause-fault
returns-clause-fault c = search rules

pub returns-clause-file : goal.returns-clause-file
returns-clause-file c =
    let v = c.self.inside.image.now in
    let f = sections_of v in
    let known = rw (← c.self.view_is) at (returns-clause-fault c) in
    rw (← c.self.view_is) (f, its_file v c.prove_stands.ensures, (one_fault (table_rules f c.args.i), known))
