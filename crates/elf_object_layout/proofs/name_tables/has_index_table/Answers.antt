use Rattle.std.proofs.Common.{◌≡◌, ◌<◌, ◌∙◌, List, length, ap, sym, arith}
use Rattle.std.specs.List.{list_any}
use Rattle.std.proofs.lemmas.Bool.{lt-leb}
use Rattle.std.proofs.lemmas.List.{length-map}
use Rattle.elf_field.specs.Abi.{SHN_LORESERVE}
use Rattle.elf_object_type.specs.ObjectView.{section_value}
use Rattle.elf_object_type.specs.Object.{SectionValue, SymbolValue}
use Rattle.elf_object_layout.specs.Laid.{is_far}
use Rattle.elf_object_layout.proofs.PlainSections.{none_far, far_symbols}
use Rattle.elf_object_layout.proofs.name_tables.has_index_table.Goals as goal

pub returns-then-sections : goal.returns-then-sections
returns-then-sections c =
    c.has_far_symbol.ensures ∙ far_symbols c.symbols.result.now ∙
    ap (λ (ss : List SymbolValue). list_any (λ s. is_far s.place) ss) c.symbols.ensures

pub returns-else-sections : goal.returns-else-sections
returns-else-sections c =
    let o = c.args.object.now in
    let many : length c.sections.result.now ≡ length o.sections =
    sym (length-map c.sections.result.now section_value) ∙ ap (λ (ss : List SectionValue). length ss) c.sections.ensures in
    let few : length o.sections < SHN_LORESERVE = (let below = c.if-sections.false in omega arith) in
    lt-leb SHN_LORESERVE (length c.sections.result.now) c.if-sections.false ∙ sym (none_far o c.prove_rules.ensures.kept few)
