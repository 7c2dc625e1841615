-- The runs of rules are tested one after the other: after runs that found nothing, what the next one finds is what all find. The first of
-- the index tables that are handed in is that of the table's parts (`first_index_table`).
use Rattle.std.proofs.Common.{◌≡◌, ℕ, Option, Some, length, ap, sym, ◌∙◌}
use Rattle.elf_image_rules.proofs.Public.{FirstIn-later, FirstIn-stop}
use Rattle.elf_table_symbols.specs.Symbols.{AreIndexTables, index_table, index_words, SymbolPartsValue, symbol_parts, rest_rules}
use Rattle.elf_table_symbols.specs.Sections.{Sections, content, count}
use Rattle.elf_table_symbols.specs.declared.index_tables.IndexTables.{IndexTables}
use Rattle.elf_table_symbols.proofs.IndexTableLemmas.{first_index_table}
use Rattle.elf_table_symbols.proofs.symbol_rules.validate_rest.Goals as goal

-- the first of the index tables is that of the parts
found : (f : Sections) (i : ℕ) (tables : IndexTables) (p : SymbolPartsValue) → AreIndexTables f i (count f) tables → p ≡ symbol_parts f i →
    tables.first ≡ p.index_table
found f i tables p are same = first_index_table f i tables are ∙ sym (ap (λ (q : SymbolPartsValue). q.index_table) same)

-- the parts' words are its content
words : (f : Sections) (i j : ℕ) (p : SymbolPartsValue) → p ≡ symbol_parts f i → p.index_table ≡ Some j →
    length p.words ≡ length (content f j)
words f i j p same is =
    let here : index_table f i ≡ Some j = sym (ap (λ (q : SymbolPartsValue). q.index_table) same) ∙ is in
    ap (λ (q : SymbolPartsValue). length q.words) same ∙ ap (λ (t : Option ℕ). length (index_words f t)) here

pub returns-in_err-validate_linked_strings : goal.returns-in_err-validate_linked_strings
unfolding rest_rules
returns-in_err-validate_linked_strings c = FirstIn-stop _ _ _ _ c.in_err-validate_linked_strings.ensures c.from_residual.ensures.1

pub returns-in_err-validate_entries : goal.returns-in_err-validate_entries
unfolding rest_rules
returns-in_err-validate_entries c =
    FirstIn-later _ _ _ c.in_ok-validate_linked_strings.ensures
    (FirstIn-stop _ _ _ _ c.in_err-validate_entries.ensures c.from_residual-in_err-validate_entries.ensures.1)

pub returns-in_err-validate_index_table : goal.returns-in_err-validate_index_table
unfolding rest_rules
returns-in_err-validate_index_table c =
    let same = found _ c.args.table.index c.args.tables _ c.requires.tables c.requires.parts in
    let run = rw (c.len.ensures, same) at c.in_err-validate_index_table.ensures.fault in
    FirstIn-later _ _ _ c.in_ok-validate_linked_strings.ensures
    (FirstIn-later _ _ _ c.in_ok-validate_entries.ensures
    (FirstIn-stop _ _ _ _ run c.from_residual-in_err-validate_index_table.ensures.1))

pub validate_places-requires : goal.validate_places-requires
validate_places-requires c = λ j is.
    (let same = found _ c.args.table.index c.args.tables _ c.requires.tables c.requires.parts in
    let sized = rw c.len.ensures at c.in_ok-validate_index_table.ensures.sized in
    words _ c.args.table.index j _ c.requires.parts is ∙ sized j (same ∙ is))

pub returns : goal.returns
unfolding rest_rules
returns c =
    let same = found _ c.args.table.index c.args.tables _ c.requires.tables c.requires.parts in
    let run = rw (c.len.ensures, same) at c.in_ok-validate_index_table.ensures.fault in
    FirstIn-later _ _ _ c.in_ok-validate_linked_strings.ensures
    (FirstIn-later _ _ _ c.in_ok-validate_entries.ensures
    (FirstIn-later _ _ _ run c.validate_places.ensures))
