use Rattle.elf_c.proofs.Listed.{relocation_listed_as, put_there, put_value}
use Rattle.elf_c.proofs.entries.elfmap_relocation.Goals as goal

pub returns-clause-there : goal.returns-clause-there
returns-clause-there c i is =
    put_there _ _ _ _
    (relocation_listed_as c.args.table.now c.args.bytes.now i c.args.index _ is c.relocation_of.ensures) c.put.ensures.there

pub returns-clause-value : goal.returns-clause-value
returns-clause-value c i is =
    put_value _ _ _ _ _
    (relocation_listed_as c.args.table.now c.args.bytes.now i c.args.index _ is c.relocation_of.ensures) c.put.ensures.there
    c.put.ensures.value

pub returns-clause-lies : goal.returns-clause-lies
returns-clause-lies c = put_there _ _ _ _ c.relocation_of.ensures c.put.ensures.there

pub returns-clause-read : goal.returns-clause-read
returns-clause-read c = put_value _ _ _ _ _ c.relocation_of.ensures c.put.ensures.there c.put.ensures.value
