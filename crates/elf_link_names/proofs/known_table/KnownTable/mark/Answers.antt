-- A mark changes what is known of one name. If its row leads to a large one of this name, that changes (`set_own`), else the row
-- (`set_small`).
use Rattle.std.proofs.Common.{◌≡◌, ◌<◌, true, false, length, refl, rules, set, sym, ◌∙◌, ap, subst, arith}
use Rattle.std.specs.Prelude.{slice_get}
use Rattle.std.proofs.lemmas.List.{get_or_default}
use Rattle.elf_link_files.specs.declared.known.Known.{Known}
use Rattle.elf_link_names.specs.declared.known_table.Row.{Row}
use Rattle.elf_link_files.specs.KnownBefore.{marked_known}
use Rattle.elf_link_names.specs.Tables.{is_of, known_from}
use Rattle.elf_link_names.proofs.Tables.{has_large, has_row, is_here, length-known_from, own_named, read_own, read_small, set_own}
use Rattle.elf_link_names.proofs.Tables.{set_small}
use Rattle.elf_link_names.proofs.known_table.KnownTable.mark.Goals as goal

pub index-requires : goal.index-requires
index-requires c =
    let t = c.self.inside in
    has_row t.large.items t.rows.items c.args.k _ (rw (← c.self.view_is) at c.requires) (search rules)

pub index_mut-requires : goal.index_mut-requires
index_mut-requires c =
    let t = c.self.inside in
    let row = c.index.result.now in
    let own = is_here _ t.large.items row.large c.args.k _ true c.deref.ensures.value c.is_own.ensures c.if-is_own.true in
    has_large t.large.items row.large c.args.k _ own (search rules)

pub returns-then-is_own : goal.returns-then-is_own
returns-then-is_own c =
    let t = c.self.inside in
    let row = c.index.result.now in
    let l = c.index_mut.result.now in
    let asked = rw (← c.self.view_is) at c.requires in
    let many = length-known_from t.large.items 0 t.rows.items in
    let own = is_here _ t.large.items row.large c.args.k _ true c.deref.ensures.value c.is_own.ensures c.if-is_own.true in
    let read = read_own t.large.items t.rows.items c.args.k row l (omega arith) c.index.ensures own c.index_mut.ensures.value in
    let named = own_named t.large.items row.large c.args.k l own c.index_mut.ensures.value in
    rw (← c.self.view_is)
    (set_own t.large.items t.rows.items c.args.k row (record { name = l.name; known = marked_known l.known }) named
    (omega arith) c.index.ensures own
    ∙ ap (λ (k : Known). set (known_from t.large.items 0 t.rows.items) c.args.k (marked_known k)) read)

pub index_mut-requires-2 : goal.index_mut-requires-2
index_mut-requires-2 c =
    let t = c.self.inside in
    has_row t.large.items t.rows.items c.args.k _ (rw (← c.self.view_is) at c.requires) (search rules)

pub returns : goal.returns
returns c =
    let t = c.self.inside in
    let row = c.index.result.now in
    let asked = rw (← c.self.view_is) at c.requires in
    let many = length-known_from t.large.items 0 t.rows.items in
    let other = is_here _ t.large.items row.large c.args.k _ false c.deref.ensures.value c.is_own.ensures c.if-is_own.false in
    let within : c.args.k < length t.rows.items = omega arith in
    let same = c.index_mut-2.ensures.value ∙ get_or_default t.rows.items c.args.k c.index_mut-2.result.now row within ∙
    sym c.index.ensures in
    let here = c.index_mut-2.result.now in
    let still = subst (λ (r : Row). is_of c.args.k (slice_get t.large.items r.large) ≡ false) (sym same) other in
    let read = read_small t.large.items t.rows.items c.args.k here within c.index_mut-2.ensures.value still in
    rw (← c.self.view_is)
    (set_small t.large.items t.rows.items c.args.k here (record {
      first = here.first;
      definition = here.definition;
      large = here.large;
      strong = here.strong;
      weak = here.weak;
      not_weak = true;
    }) refl within c.index_mut-2.ensures.value still
    ∙ ap (λ (k : Known). set (known_from t.large.items 0 t.rows.items) c.args.k (marked_known k)) read)
