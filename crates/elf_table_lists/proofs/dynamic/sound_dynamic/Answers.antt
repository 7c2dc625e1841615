use Rattle.elf_table_lists.proofs.EntryLists.{dynamic_array_is}
use Rattle.elf_table_lists.proofs.dynamic.sound_dynamic.Goals as goal

pub returns : goal.returns
returns c =
    dynamic_array_is _ c.args.i _ _ _ c.order-order.ensures c.content-table.ensures.bytes
    (record {
      within = c.first_null_entry-end.ensures.within;
      before = c.first_null_entry-end.ensures.before;
      found =
          c.first_null_entry-end.ensures.found;
    })
