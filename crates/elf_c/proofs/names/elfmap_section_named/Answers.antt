use Rattle.elf_c.proofs.ReadNames.{lowest_same, named_listed, put_least, put_never}
use Rattle.elf_c.proofs.names.elfmap_section_named.Goals as goal

pub returns-clause-first : goal.returns-clause-first
returns-clause-first c is =
    put_least _ _ _ _ (lowest_same _ _ _ (λ i. named_listed c.args.file.now c.args.bytes.now c.args.name.now i is) c.first_named.ensures)
    c.put.ensures.there c.put.ensures.value

pub returns-clause-none : goal.returns-clause-none
returns-clause-none c is =
    put_never _ _ _ (lowest_same _ _ _ (λ i. named_listed c.args.file.now c.args.bytes.now c.args.name.now i is) c.first_named.ensures)
    c.put.ensures.there

pub returns-clause-first_read : goal.returns-clause-first_read
returns-clause-first_read c = put_least _ _ _ _ c.first_named.ensures c.put.ensures.there c.put.ensures.value

pub returns-clause-none_read : goal.returns-clause-none_read
returns-clause-none_read c = put_never _ _ _ c.first_named.ensures c.put.ensures.there
