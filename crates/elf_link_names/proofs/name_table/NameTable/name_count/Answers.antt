use Rattle.std.proofs.Common.{◌≡◌, length, rules}
use Rattle.elf_link_names.specs.Tables.{name_position}
use Rattle.elf_link_names.proofs.ChosenCommons.{count_is}
use Rattle.elf_link_names.proofs.name_table.NameTable.name_count.Goals as goal

pub returns : goal.returns
returns c =
    let t = c.self.inside in
    let long : c.len.result ≡ length t.names.known = search rules in
    rw (← c.self.view_is) (count_is t.inputs (name_position t.names.positions) t.names.known c.len.result c.self.invariant.names long)
