use Rattle.std.proofs.Common.{◌≡◌, length, rules, sym, ◌∙◌}
use Rattle.elf_link_names.proofs.Tables.{length-known_from}
use Rattle.elf_link_names.proofs.known_table.KnownTable.len.Goals as goal

pub returns : goal.returns
returns c =
    let t = c.self.inside in
    let long : c.len.result ≡ length t.rows.items = search rules in
    rw (← c.self.view_is) (long ∙ sym (length-known_from t.large.items 0 t.rows.items))
