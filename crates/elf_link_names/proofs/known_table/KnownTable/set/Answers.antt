-- If the row leads to a large one of this name, that is replaced (`set_own`). Else the name gets a new row, perhaps with one more large
-- one, and no other row is read otherwise (`from_set`).
use Rattle.std.proofs.Common.{true, refl, rules, arith}
use Rattle.elf_link_names.proofs.Tables.{from_set, has_large, has_row, is_here, length-known_from, set_own}
use Rattle.elf_link_names.proofs.known_table.KnownTable.set.Goals as goal

pub index-requires : goal.index-requires
index-requires c =
    let t = c.self.inside in
    has_row t.large.items t.rows.items c.args.k _ (rw (← c.self.view_is) at c.requires) (search rules)

pub index_mut-requires : goal.index_mut-requires
index_mut-requires c =
    let t = c.self.inside in
    let row = c.index.result.now in
    let own = is_here _ t.large.items row.large c.args.k _ true c.deref.ensures.value c.is_own.ensures c.if-is_own.true in
    has_large t.large.items row.large c.args.k _ own (search rules)

pub returns-then-is_own : goal.returns-then-is_own
returns-then-is_own c =
    let t = c.self.inside in
    let row = c.index.result.now in
    let asked = rw (← c.self.view_is) at c.requires in
    let many = length-known_from t.large.items 0 t.rows.items in
    let own = is_here _ t.large.items row.large c.args.k _ true c.deref.ensures.value c.is_own.ensures c.if-is_own.true in
    rw (← c.self.view_is)
    (set_own t.large.items t.rows.items c.args.k row (record { name = c.args.k; known = c.args.known }) refl
    (omega arith) c.index.ensures own)

pub index_mut-requires-2 : goal.index_mut-requires-2
index_mut-requires-2 c =
    let t = c.self.inside in
    has_row t.large.items t.rows.items c.args.k _ (rw (← c.self.view_is) at c.requires) (search rules)

pub returns : goal.returns
returns c =
    let t = c.self.inside in
    let asked = rw (← c.self.view_is) at c.requires in
    let many = length-known_from t.large.items 0 t.rows.items in
    rw (← c.self.view_is)
    (from_set t.large.items c.row_of.new.large.items 0 c.args.k c.args.k t.rows.items c.in_ok-self-inside.field-0 c.args.known
    (omega arith) (omega arith) c.in_ok-self-inside.ensures.others c.in_ok-self-inside.ensures.row)
