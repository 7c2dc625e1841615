-- If the row leads to a large one of this name, the item is that (`read_own`). Else the row itself has all of it (`read_small`).
use Rattle.std.proofs.Common.{true, false, rules, ◌∙◌, arith}
use Rattle.elf_link_names.proofs.Tables.{has_large, has_row, is_here, length-known_from, read_own, read_small}
use Rattle.elf_link_names.proofs.known_table.KnownTable.item.Goals as goal

pub index-row-requires : goal.index-row-requires
index-row-requires c =
    let t = c.self.inside in
    has_row t.large.items t.rows.items c.args.k _ (rw (← c.self.view_is) at c.requires) (search rules)

pub index-requires : goal.index-requires
index-requires c =
    let t = c.self.inside in
    let row = c.index-row.result.now in
    let own = is_here _ t.large.items row.large c.args.k _ true c.deref.ensures.value c.is_own.ensures c.if-is_own.true in
    has_large t.large.items row.large c.args.k _ own (search rules)

pub returns-then-is_own : goal.returns-then-is_own
returns-then-is_own c =
    let t = c.self.inside in
    let row = c.index-row.result.now in
    let asked = rw (← c.self.view_is) at c.requires in
    let many = length-known_from t.large.items 0 t.rows.items in
    let own = is_here _ t.large.items row.large c.args.k _ true c.deref.ensures.value c.is_own.ensures c.if-is_own.true in
    rw (← c.self.view_is)
    (read_own t.large.items t.rows.items c.args.k row c.index.result.now (omega arith) c.index-row.ensures own c.index.ensures)

pub returns : goal.returns
returns c =
    let t = c.self.inside in
    let row = c.index-row.result.now in
    let asked = rw (← c.self.view_is) at c.requires in
    let many = length-known_from t.large.items 0 t.rows.items in
    let other = is_here _ t.large.items row.large c.args.k _ false c.deref.ensures.value c.is_own.ensures c.if-is_own.false in
    rw (← c.self.view_is)
    (c.small_item.ensures ∙ read_small t.large.items t.rows.items c.args.k row (omega arith) c.index-row.ensures other)
