use Rattle.std.proofs.Common.{◌≡◌, length, rules, arith}
use Rattle.std.specs.Prelude.{vec_len}
use Rattle.std.proofs.lemmas.List.{length-map}
use Rattle.elf_link_map.specs.LinkMap.{named_value}
use Rattle.elf_link_map.proofs.bindings.Names.binding.Goals as goal

pub index-requires : goal.index-requires
index-requires c =
    let list = c.self.inside.list in
    let found = rw (← c.self.view_is) at c.in-Some.ensures in
    let below = found.0 in
    let many = length-map list.items named_value in
    let wide : length list.items ≡ vec_len list = search rules in
    omega arith
