-- The marks are those of the definition. If no reference is broken, what stays keeps the rules of objects (`edited_kept`).
use Rattle.std.proofs.Common.{◌≡◌, Bool, List, ap, false, get_or, length, subst, sym, ◌∙◌}
use Rattle.std.specs.Prelude.{not}
use Rattle.std.proofs.lemmas.List.{length-map}
use Rattle.std.proofs.lemmas.List.FromFn.{length-map-range_with_len}
use Rattle.elf_object_type.proofs.Public.{object_rules_kept, object_rules_unbroken}
use Rattle.elf_object_type.specs.Object.{ObjectValue}
use Rattle.elf_object_type.specs.ObjectRules.{IsObject}
use Rattle.elf_object_edit.specs.Without.{object_without, staying_sections, staying_symbols, with_staying}
use Rattle.elf_object_edit.proofs.Edited.{edited_kept}
use Rattle.elf_object_edit.proofs.Ends.{HaveEnds, moved_name_ends}
use Rattle.elf_object_edit.proofs.editing.without.Goals as goal

pub invariant_of-edit-clause-each_section : goal.invariant_of-edit-clause-each_section
invariant_of-edit-clause-each_section c =
    let o = c.args.object.now in
    ap (λ (ms : List Bool). length ms) (c.in_ok-new.ensures ∙ c.in_ok-sections.ensures) ∙
    length-map-range_with_len (λ p. not (get_or c.args.left_out.now p false)) 0 (length o.sections)

pub invariant_of-edit-clause-each_symbol : goal.invariant_of-edit-clause-each_symbol
invariant_of-edit-clause-each_symbol c =
    ap (λ (ms : List Bool). length ms) (c.in_ok-new-2.ensures ∙ c.in_ok-symbols.ensures) ∙ length-map c.args.object.now.symbols _

pub kept_object-requires-clause-rules : goal.kept_object-requires-clause-rules
kept_object-requires-clause-rules c =
    let o = c.args.object.now in
    let S = c.in_ok-new.field-0.marks.items in
    let Y = c.in_ok-new-2.field-0.marks.items in
    let own : Y ≡ staying_symbols o S =
    c.in_ok-new-2.ensures ∙ c.in_ok-symbols.ensures ∙ ap (staying_symbols o) (c.deref.ensures.value ∙ sym c.in_ok-new.ensures) in
    let long : length S ≡ length o.sections =
    ap (λ (ms : List Bool). length ms) (c.in_ok-new.ensures ∙ c.in_ok-sections.ensures) ∙
    length-map-range_with_len (λ p. not (get_or c.args.left_out.now p false)) 0 (length o.sections) in
    subst IsObject (sym c.in_ok-parts.ensures)
    (object_rules_unbroken (with_staying o S Y)
    (edited_kept o S Y long own c.in_default.ensures (object_rules_kept o c.prove_rules.ensures.kept)))

pub kept_object-requires-clause-ends : goal.kept_object-requires-clause-ends
kept_object-requires-clause-ends c =
    let o = c.args.object.now in
    let S = c.in_ok-new.field-0.marks.items in
    let Y = c.in_ok-new-2.field-0.marks.items in
    let symbols = c.in_ok-ends.field-0.items in
    let sections = c.in_ok-ends-2.field-0.items in
    let have = subst (λ (v : ObjectValue). HaveEnds v symbols sections) (sym c.in_ok-parts.ensures)
    (moved_name_ends o S Y c.symbol_ends.result.now c.section_ends.result.now symbols sections c.symbol_ends.ensures
    c.section_ends.ensures.tails c.in_ok-ends.ensures c.in_ok-ends-2.ensures) in
    record { symbols = have.symbols_are; sections = have.sections_are; fits = have.fits }

pub returns-clause-object : goal.returns-clause-object
unfolding object_without
returns-clause-object c =
    let o = c.args.object.now in
    let sections = staying_sections o c.args.left_out.now in
    let S_is = c.in_ok-new.ensures ∙ c.in_ok-sections.ensures in
    let own = c.in_ok-new-2.ensures ∙ c.in_ok-symbols.ensures ∙ ap (staying_symbols o) (c.deref.ensures.value ∙ c.in_ok-sections.ensures) in
    c.kept_object.ensures ∙ c.in_ok-parts.ensures ∙
    ap (λ (S : List Bool). with_staying o S c.in_ok-new-2.field-0.marks.items) S_is ∙
    ap (λ (Y : List Bool). with_staying o sections Y) own
