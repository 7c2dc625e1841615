-- The names are in the order of their first entries, so the position of each there is where its binding is, and its index too.
use Rattle.std.proofs.Common.{map, sym, subst}
use Rattle.elf_link_names.specs.Tables.{name_position}
use Rattle.elf_link_outputs.specs.Placed.{common_value}
use Rattle.elf_link_map.specs.LinkMap.{AreBindings, AreNames, named_value}
use Rattle.elf_link_map.proofs.OneMap.{indexes_in, bindings_are, names_are, positions_are}
use Rattle.elf_link_map.proofs.bindings.all_bindings.Goals as goal

pub new-requires : goal.new-requires
new-requires c =
    let r = c.args.resolution in
    let parts = c.into_parts-parts in
    positions_are r.objects (map common_value c.args.commons.now) r.firsts (map named_value c.in_ok-list.list.items)
    (name_position parts.result.positions)
    parts.ensures.firsts c.in_ok-list.ensures parts.ensures.positions

pub returns-clause-bindings : goal.returns-clause-bindings
returns-clause-bindings c =
    let r = c.args.resolution in
    let cs = map common_value c.args.commons.now in
    let parts = c.into_parts-parts in
    subst (AreBindings r.objects cs) (sym c.new.ensures)
    (bindings_are r.objects cs r.firsts (map named_value c.in_ok-list.list.items) (name_position parts.result.positions)
    parts.ensures.firsts c.in_ok-list.ensures parts.ensures.positions)

pub returns-clause-names : goal.returns-clause-names
returns-clause-names c =
    let r = c.args.resolution in
    let cs = map common_value c.args.commons.now in
    subst (AreNames r.objects) (sym c.new.ensures)
    (names_are r.objects cs r.firsts (map named_value c.in_ok-list.list.items) c.into_parts-parts.ensures.firsts c.in_ok-list.ensures)

pub returns-clause-indexes : goal.returns-clause-indexes
returns-clause-indexes c =
    let r = c.args.resolution in
    let parts = c.into_parts-parts in
    indexes_in r.objects (map common_value c.args.commons.now) r.firsts (map named_value c.in_ok-list.list.items) _
    (name_position parts.result.positions) _
    parts.ensures.firsts c.in_ok-list.ensures parts.ensures.positions parts.ensures.indexes c.new.ensures
