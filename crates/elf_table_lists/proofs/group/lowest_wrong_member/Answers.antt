use Rattle.elf_table_symbols.specs.Sections.{sections_seen}
use Rattle.elf_table_lists.proofs.EntryLists.{ascending_lowest}
use Rattle.elf_table_lists.proofs.group.lowest_wrong_member.Goals as goal

pub returns-then-is_ascending-clause-found : goal.returns-then-is_ascending-clause-found
returns-then-is_ascending-clause-found c =
    let above = rw (c.order.ensures, c.content-words.ensures.bytes) at (c.is_ascending.ensures.0 c.if-is_ascending.true) in
    ascending_lowest (sections_seen c.args.table.sections) c.args.table.index _ above c.lowest_unfit.ensures
