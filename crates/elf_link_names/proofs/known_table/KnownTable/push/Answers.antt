use Rattle.std.proofs.Common.{◌≡◌, length, rules, arith}
use Rattle.elf_link_names.proofs.Tables.{from_push}
use Rattle.elf_link_names.proofs.known_table.KnownTable.push.Goals as goal

pub returns : goal.returns
returns c =
    let t = c.self.inside in
    let old = t.large.items in
    let new = c.row_of.new.large.items in
    let row = c.in_ok-row.row in
    let long : c.len.result ≡ length t.rows.items = search rules in
    rw (← c.self.view_is) (rw c.in_ok-push.ensures.items (from_push old new 0 c.len.result t.rows.items row c.args.known (omega arith)
    c.in_ok-row.ensures.others c.in_ok-row.ensures.row))
