-- The two lists of names that the code collects are those of the object's symbols and of its sections. So the known ends are those of the
-- names in these lists, and the two tables are the tables of the object's names.
use Rattle.std.proofs.Common.{◌≡◌, ℕ, List, map, ap, sym, subst, ◌∙◌}
use Rattle.elf_object_type.specs.Object.{SymbolValue}
use Rattle.elf_object_layout.specs.Laid.{section_names, symbol_names}
use Rattle.elf_object_strings.specs.StringTable.{AreTails, name_offset, string_table}
use Rattle.elf_object_layout.proofs.NameEnds.{section_tails}
use Rattle.elf_object_layout.proofs.PlainSections.{names_of_symbols, now_of}
use Rattle.elf_object_layout.proofs.name_tables.NameTables.new.Goals as goal

pub shared_table_at-requires : goal.shared_table_at-requires
shared_table_at-requires c =
    let symbols : map now_of c.deref.result.now ≡ symbol_names c.args.object.now =
    ap (map now_of) (c.deref.ensures.value ∙ c.in_ok-symbol_names.ensures) ∙ names_of_symbols c.symbols.result.now
    ∙ ap (map (λ (s : SymbolValue). s.name)) c.symbols.ensures in
    subst (λ (names : List (List ℕ)). AreTails names c.symbol_ends.result.now) (sym symbols) c.symbol_ends.ensures

pub shared_table_at-requires-2 : goal.shared_table_at-requires-2
shared_table_at-requires-2 c =
    let sections : map now_of c.deref-2.result.now ≡ section_names c.args.object.now =
    ap (map now_of) c.deref-2.ensures.value ∙ c.in_ok-section_names.ensures in
    subst (λ (names : List (List ℕ)). AreTails names c.section_ends.result.now) (sym sections)
    (section_tails c.args.object.now c.section_ends.result.now c.section_ends.ensures.tails c.section_ends.ensures.fits)

pub returns-clause-ok : goal.returns-clause-ok
returns-clause-ok c =
    let o = c.args.object.now in
    let symbols : map now_of c.deref.result.now ≡ symbol_names o =
    ap (map now_of) (c.deref.ensures.value ∙ c.in_ok-symbol_names.ensures) ∙ names_of_symbols c.symbols.result.now
    ∙ ap (map (λ (s : SymbolValue). s.name)) c.symbols.ensures in
    let sections : map now_of c.deref-2.result.now ≡ section_names o =
    ap (map now_of) c.deref-2.ensures.value ∙ c.in_ok-section_names.ensures in
    record {
      strings = c.in_ok-strings.ensures.bytes ∙ ap string_table symbols;
      string_offsets = c.in_ok-strings.ensures.offsets ∙ ap (λ (names : List (List ℕ)). map (name_offset names) names) symbols;
      names = c.in_ok-names.ensures.bytes ∙ ap string_table sections;
      name_offsets = c.in_ok-names.ensures.offsets ∙ ap (λ (names : List (List ℕ)). map (name_offset names) names) sections;
    }
