-- The first rule of the entry's kind decides: without one rule 12 is broken here first, one without a field adds nothing, and any other
-- makes a field with its entry.
use Rattle.std.proofs.Common.{◌∙◌, refl, rules, ◌≡◌, ap}
use Rattle.elf_object_type.specs.declared.relocations.Relocation.{Relocation}
use Rattle.elf_link_relocate.specs.Passes.{LinkingValue}
use Rattle.elf_link_relocate.proofs.Collected.{fields_past, first_unruled, found_on, before_more, before_next}
use Rattle.elf_link_relocate.proofs.collecting.push_entry.Goals as goal

pub returns-in_default-clause-err : goal.returns-in_default-clause-err
returns-in_default-clause-err c =
    let same_rules : c.linking.inside.rules.now ≡ c.args.values.now.rules =
    ap (λ (l : LinkingValue). l.rules) (c.linking.view_is ∙ c.linking-linking.ensures) in
    let l = c.args.values.now in
    let p = c.args.entry.site in
    let none = rw same_rules at (rw c.requires.entry.relocation at c.in_default.ensures) in
    rw (c.into.ensures, c.new.ensures)
    (refl, first_unruled l.objects l.rules p c.requires.before.0 c.requires.entry.applied none c.requires.before.1)

pub returns-then-eq-clause-ok : goal.returns-then-eq-clause-ok
returns-then-eq-clause-ok c =
    let same_rules : c.linking.inside.rules.now ≡ c.args.values.now.rules =
    ap (λ (l : LinkingValue). l.rules) (c.linking.view_is ∙ c.linking-linking.ensures) in
    let l = c.args.values.now in
    let p = c.args.entry.site in
    let first = rw same_rules at (rw c.requires.entry.relocation at c.in-Some.ensures) in
    found_on l.objects l.map l.rules c.args.listing _ _ c.args.found.now
    (λ ds is. fields_past l.objects l.rules p _ c.in-Some.rule ds
    (λ q. before_more q p.file p.index p.entry) (λ q. before_next q p.file p.index p.entry) first is (search rules))
    c.requires.before

pub invariant_of-field_of : goal.invariant_of-field_of
invariant_of-field_of c =
    let same_rules : c.linking.inside.rules.now ≡ c.args.values.now.rules =
    ap (λ (l : LinkingValue). l.rules) (c.linking.view_is ∙ c.linking-linking.ensures) in
    let first = rw same_rules at (rw c.requires.entry.relocation at c.in-Some.ensures) in
    record {
      site = refl;
      entry = c.requires.entry;
      has = record { applied = c.requires.entry.applied; rule = first; form = search rules };
      place = record { target = c.requires.entry.target; offset = ap (λ (r : Relocation). r.offset) c.requires.entry.relocation };
    }
