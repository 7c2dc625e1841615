-- The index of a name is the position of its first entry in the list of these. What is known is in the order of that list. So the index
-- is below its count, and the item there is what is known of the name (`whole_at`).
use Rattle.std.proofs.Common.{ℕ, ◌<◌, List, length, map, sym, subst, arith}
use Rattle.std.proofs.lemmas.List.{length-map}
use Rattle.elf_link_files.specs.Files.{symbol_in}
use Rattle.elf_link_names.specs.KnownNames.{IsKnownWhole, first_site, known_at}
use Rattle.elf_link_names.specs.Tables.{name_position}
use Rattle.elf_link_names.proofs.ChosenCommons.{index_by}
use Rattle.elf_link_names.proofs.KnownNames.{whole_at, whole_firsts}
use Rattle.elf_link_names.proofs.name_table.NameTable.known_of.Goals as goal

pub item-requires : goal.item-requires
item-requires c =
    let t = c.self.inside in
    let ks = t.names.known in
    let indexed = rw (← c.self.view_is) at c.index_of.ensures in
    let (lt, named) =
    index_by t.inputs _ c.index_of.result (map first_site ks)
    (whole_firsts t.inputs (name_position t.names.positions) ks c.self.invariant.names) indexed in
    let many = length-map ks first_site in
    omega arith

pub returns : goal.returns
returns c =
    let t = c.self.inside in
    let fs = t.inputs in
    let ks = t.names.known in
    let position = name_position t.names.positions in
    let indexed = rw (← c.self.view_is) at c.index_of.ensures in
    let (lt, named) = index_by fs _ c.index_of.result (map first_site ks) (whole_firsts fs position ks c.self.invariant.names) indexed in
    let many = length-map ks first_site in
    let within : c.index_of.result < length ks = omega arith in
    rw (← c.self.view_is) (subst (IsKnownWhole fs (symbol_in fs c.args.id.file c.args.id.index).name)
    (sym c.item.ensures)
    (subst (λ (n : List ℕ). IsKnownWhole fs n (known_at ks c.index_of.result)) named
    (whole_at fs position ks c.index_of.result within c.self.invariant.names)))
