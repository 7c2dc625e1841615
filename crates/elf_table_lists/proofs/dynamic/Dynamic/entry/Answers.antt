use Rattle.std.proofs.Common.{sym, arith}
use Rattle.elf_table_lists.proofs.EntryLists.{dynamic_get, length_dynamic}
use Rattle.elf_table_lists.proofs.dynamic.Dynamic.entry.Goals as goal

pub dynamic_entry-requires : goal.dynamic_entry-requires
dynamic_entry-requires c =
    let within = rw (← c.self.view_is) at c.requires in
    let below = rw (length_dynamic c.self.inside.order c.self.inside.table.now c.self.inside.end) at within in
    let inside = c.self.invariant in
    omega arith

pub returns : goal.returns
returns c =
    let within = rw (← c.self.view_is) at c.requires in
    let below = rw (length_dynamic c.self.inside.order c.self.inside.table.now c.self.inside.end) at within in
    rw (← c.self.view_is) (rw c.dynamic_entry.ensures (sym (dynamic_get _ _ _ c.args.j below)))
