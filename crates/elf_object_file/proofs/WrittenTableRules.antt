-- A written object keeps the rules of symbol tables and of relocation sections.
use Rattle.std.proofs.Common.{◌≡◌, ◌≢◌, ◌<◌, ◌≤◌, ◌+◌, ◌^◌, ◌⊎◌, ℕ, zero, suc, Bool, true, false, Option, None, Some, List, [], ◌∷◌, length}
use Rattle.std.proofs.Common.{map, get_or, replicate, inl, inr, refl, sym, ap, ap₂, subst, ◌∙◌, arith}
use Rattle.std.specs.Prelude.{◌*◌, ◌-◌, filter, slice_index, ◌%◌, if◌then◌else◌, ◌==◌}
use Rattle.std.specs.List.{flat_map}
use Rattle.std.proofs.lemmas.Bool.{cases_Bool, cases_lt, eq-eqb, eqb-true, le-leb, le-ltb, lt-ltb, true≢false, cases_eq}
use Rattle.std.proofs.lemmas.List.{get_or-replicate, get_or_append_left}
use Rattle.std.proofs.lemmas.List.Folds.{list_any_at}
use Rattle.elf_extent.specs.Extent.{Never}
use Rattle.elf_field.specs.Abi.{SHN_LORESERVE, SHN_XINDEX, WORD_SIZE, relocation_size}
use Rattle.elf_field.specs.Bytes.{bytes_of}
use Rattle.elf_field.specs.Entries.{sym_bytes}
use Rattle.elf_field.specs.declared.number.Order.TheVariants.{Little, Big}
use Rattle.elf_field.specs.declared.number.Order.{Order}
use Rattle.elf_field.specs.declared.sym.Sym.{Sym}
use Rattle.elf_image_rules.proofs.Public.{FirstIn-later}
use Rattle.elf_image_rules.specs.Rows.{AtEntry, FirstIn, OfSome}
use Rattle.elf_image_type.specs.WrittenFile.{long_number, short_index}
use Rattle.elf_object_file.proofs.WrittenDenotes.{name_within, null_entry, null_word, symbol_entry_count, symbol_entry_read, symbol_word}
use Rattle.elf_object_file.proofs.WrittenDenotes.{AreRelocations, relocation_count_is, relocation_read}
use Rattle.elf_object_file.proofs.WrittenFile.{HasSectionAt, indexes_at, symbol_strings_at, symbols_at, written_order, type_says}
use Rattle.elf_object_file.proofs.WrittenFile.{index_short, own_at}
use Rattle.elf_object_file.proofs.WrittenSections.{own_short, strings_short, written_index_table, symbols_short}
use Rattle.elf_object_file.specs.ObjectFile.{IsWrittenAt, written_sections}
use Rattle.elf_object_strings.proofs.Public.{holds_names}
use Rattle.elf_object_strings.specs.StringTable.{string_table}
use Rattle.elf_object_type.proofs.Public.{no_misplaced_local, no_wrong_place, each_of_all, no_wrong_field, no_wrong_position, none_of_any}
use Rattle.elf_object_type.specs.Object.{ObjectValue, SymbolValue, no_symbol, symbol_at, IsPast, BodyValue, relocs, SectionValue}
use Rattle.elf_object_type.specs.Object.{no_relocation, no_section, section_at, BodyFits, SectionFits}
use Rattle.elf_object_type.specs.ObjectRules.{place_position, HasWrongField, HasWrongReference}
use Rattle.elf_object_type.specs.declared.parts.Place.TheVariants.{Undef, Abs, Common, In}
use Rattle.elf_object_type.specs.declared.parts.Place.{Place}
use Rattle.elf_object_type.specs.declared.relocations.Relocation.{Relocation}
use Rattle.elf_object_layout.proofs.Public.{length-index_table_section, length-symbol_table_section, length-relocations}
use Rattle.elf_object_layout.specs.Laid.{has_index_table, index_table_section, index_word, is_far, is_local, null_symbol, shndx}
use Rattle.elf_object_layout.specs.Laid.{symbol_entry, symbol_names, symbol_table_section, symbol_table_at, body_bytes, body_info}
use Rattle.elf_object_layout.specs.Laid.{body_link, body_space, body_type, own_section, relocation_bytes, relocation_section_type}
use Rattle.elf_table_lists.specs.Relocations.{relocation_entry_rules, relocation_section_rules, has_addends, relocation_count}
use Rattle.elf_table_lists.specs.Relocations.{relocation_in}
use Rattle.elf_table_symbols.specs.Sections.{own_rules, content, section, order, entry_size, kind_of}
use Rattle.elf_table_symbols.specs.Symbols.{linked_string_rules, unclosed_string_table, SymbolPartsValue, IsMisplacedBinding}
use Rattle.elf_table_symbols.specs.Symbols.{IsSymbolNamePastEnd, IsWrongSymbolSection, IsWrongIndexWord, entry, entry_count}
use Rattle.elf_table_symbols.specs.Symbols.{symbol_entry_rules, misplaced_binding, place_rules, symbol_0_not_null, symbol_name_past_end}
use Rattle.elf_table_symbols.specs.Symbols.{word, wrong_local_count, wrong_symbol_section, index_table, index_words, symbol_parts}
use Rattle.elf_table_symbols.specs.Symbols.{index_table_rules, rest_rules, second_index_table, symbol_table_rules, wrong_index_table_size}
use Rattle.elf_table_symbols.specs.declared.table_section.TableKind.TheVariants.{SymbolTable, RelocationTable}
use Rattle.elf_table_lists.specs.declared.relocations.Relocation as table

-- The symbol table of an object as it is written breaks none of rules 41, 45 to 48, 51 and 52. Each goes by entry: the null symbol, or
-- entry k + 1 for symbol k (`by_entry`). Local symbols come first by rule 9 of objects, and places are there by rule 8. (gABI chapter 4,
-- Symbol Table; Sections: sh_info, SHT_SYMTAB_SHNDX.)

-- ---- local symbols come first

count_none : {A : Type 0} (test : A → Bool) (xs : List A) (d : A) → ((k : ℕ) → k < length xs → test (get_or xs k d) ≡ false) →
    length (filter test xs) ≡ 0
count_none test [] d none = refl
count_none test (x ∷ xs) d none = rw (none 0 (omega arith)) (count_none test xs d (λ k lt. none (suc k) (omega arith)))

count_at_most : {A : Type 0} (test : A → Bool) (xs : List A) → length (filter test xs) ≤ length xs
count_at_most test [] = omega arith
count_at_most test (x ∷ xs) =
    let rest = count_at_most test xs in
    elim (cases_Bool (test x)) [ inl passes ↦ rw passes (omega arith) | inr fails ↦ rw fails (omega arith) ]

-- the elements that pass a test are before those that do not
abbrev ArePassingFirst : {A : Type 0} → (A → Bool) → List A → A → Type 0
ArePassingFirst test xs d = (i k : ℕ) → k < i → i < length xs → test (get_or xs i d) ≡ true → test (get_or xs k d) ≡ true

none_after : {A : Type 0} (test : A → Bool) (x : A) (xs : List A) (d : A) → ArePassingFirst test (x ∷ xs) d → test x ≡ false → (k : ℕ) →
    k < length xs → test (get_or xs k d) ≡ false
none_after test x xs d first fails k lt = elim (cases_Bool (test (get_or xs k d))) [
  | inl passes ↦ absurd (true≢false (sym (first (suc k) 0 (omega arith) (omega arith) passes) ∙ fails))
  | inr other ↦ other
]

-- so the first so many pass, as many as pass at all
passing_first : {A : Type 0} (test : A → Bool) (xs : List A) (d : A) → ArePassingFirst test xs d → (k : ℕ) → k < length xs →
    (k < length (filter test xs) → test (get_or xs k d) ≡ true) × (length (filter test xs) ≤ k → test (get_or xs k d) ≡ false)
passing_first test [] d first k lt = absurd (omega arith)
passing_first test (x ∷ xs) d first zero lt = elim (cases_Bool (test x)) [
  | inl passes ↦
      (let more : length (filter test (x ∷ xs)) ≡ suc (length (filter test xs)) = rw passes refl in
      ((λ below. passes), (λ past. absurd (omega arith))))
  | inr fails ↦ (
      let none : length (filter test (x ∷ xs)) ≡ 0 = rw fails (count_none test xs d (none_after test x xs d first fails)) in
      ((λ below. absurd (omega arith)), (λ past. fails)))
]
passing_first test (x ∷ xs) d first (suc k) lt = elim (cases_Bool (test x)) [
  | inl passes ↦ (
      let more : length (filter test (x ∷ xs)) ≡ suc (length (filter test xs)) = rw passes refl in
      let rest = passing_first test xs d (λ i j below within is. first (suc i) (suc j) (omega arith) (omega arith) is) k (omega arith) in
      ((λ below. rest.0 (omega arith)), (λ past. rest.1 (omega arith))))
  | inr fails ↦ (
      let none : length (filter test (x ∷ xs)) ≡ 0 = rw fails (count_none test xs d (none_after test x xs d first fails)) in
      ((λ below. absurd (omega arith)), (λ past. none_after test x xs d first fails k (omega arith))))
]

locals_first : (o : ObjectValue) (places : List ℕ) → IsWrittenAt o places → ArePassingFirst is_local o.symbols no_symbol
locals_first o places written i k lt within is = elim (cases_Bool (is_local (symbol_at o k))) [
  | inl local ↦ local
  | inr other ↦
      absurd (no_misplaced_local o written.object i within
      (eqb-true _ _ is, (k, lt, (λ bound. true≢false (sym (eq-eqb _ _ bound) ∙ other)))))
]

-- ---- places in sections, of which there are more than n

module _ (n count : ℕ) (there : n < count) where
  -- rule 51
  section_right : (table : Option ℕ) (place : Place) → (IsPast n (place_position place) → ⊥) → (is_far place ≡ true → table ≡ None → ⊥) →
      ((shndx place ≡ SHN_XINDEX) × (table ≡ None)) ⊎ ((shndx place < SHN_LORESERVE) × (count ≤ shndx place)) → ⊥
  section_right table Undef right far (inl (is, none)) = absurd (omega arith)
  section_right table Undef right far (inr (low, past)) = omega arith
  section_right table Abs right far (inl (is, none)) = absurd (omega arith)
  section_right table Abs right far (inr (low, past)) = omega arith
  section_right table Common right far (inl (is, none)) = absurd (omega arith)
  section_right table Common right far (inr (low, past)) = omega arith
  section_right table (In position) right far (inl (is, none)) = elim (cases_lt (position + 1) SHN_LORESERVE) [
    | inl low ↦ (let same : short_index (position + 1) ≡ position + 1 = rw (lt-ltb (position + 1) SHN_LORESERVE low) refl in
        absurd (omega arith))
    | inr high ↦ far (le-leb SHN_LORESERVE (position + 1) high) none
  ]
  section_right table (In position) right far (inr (low, past)) = elim (cases_lt (position + 1) SHN_LORESERVE) [
    | inl below ↦
        (let same : short_index (position + 1) ≡ position + 1 = rw (lt-ltb (position + 1) SHN_LORESERVE below) refl in right (omega arith))
    | inr high ↦
        (let same : short_index (position + 1) ≡ SHN_XINDEX = rw (le-ltb (position + 1) SHN_LORESERVE high) refl in absurd (omega arith))
  ]

  -- rule 52
  word_right : (place : Place) → (IsPast n (place_position place) → ⊥) →
      ((shndx place ≢ SHN_XINDEX) × (index_word place ≢ 0)) ⊎
      ((shndx place ≡ SHN_XINDEX) × ((index_word place < SHN_LORESERVE) ⊎ (count ≤ index_word place))) → ⊥
  word_right Undef right (inl (other, some)) = some refl
  word_right Undef right (inr (is, wrong)) = absurd (omega arith)
  word_right Abs right (inl (other, some)) = some refl
  word_right Abs right (inr (is, wrong)) = absurd (omega arith)
  word_right Common right (inl (other, some)) = some refl
  word_right Common right (inr (is, wrong)) = absurd (omega arith)
  word_right (In position) right (inl (other, some)) = elim (cases_lt (position + 1) SHN_LORESERVE) [
    | inl low ↦ some (rw (lt-ltb (position + 1) SHN_LORESERVE low) refl)
    | inr high ↦ other (rw (le-ltb (position + 1) SHN_LORESERVE high) refl)
  ]
  word_right (In position) right (inr (is, wrong)) = elim (cases_lt (position + 1) SHN_LORESERVE) [
    | inl low ↦ (let same : short_index (position + 1) ≡ position + 1 = rw (lt-ltb (position + 1) SHN_LORESERVE low) refl in
        absurd (omega arith))
    | inr high ↦ (
        let same : long_number (position + 1) ≡ position + 1 = rw (le-ltb (position + 1) SHN_LORESERVE high) refl in
        elim wrong [ inl low ↦ absurd (omega arith) | inr past ↦ right (omega arith) ])
  ]

-- ---- the parts that the rules look at

pub record AreSymbolParts (o : ObjectValue) (p : SymbolPartsValue) : Type 0 where
  pub order_is : p.order ≡ o.order
  pub info_is : p.info ≡ 1 + length (filter is_local o.symbols)
  pub table_is : p.table ≡ (symbol_table_section o).content
  pub names_are : p.names ≡ string_table (symbol_names o)
  pub sections_there : length o.sections < p.sections
  -- there is an index table exactly where a symbol needs one
  pub index_there : has_index_table o ≡ true → p.index_table ≡ None → ⊥
  pub words_are : (j : ℕ) → p.index_table ≡ Some j → p.words ≡ (index_table_section o).content

zero_bytes : (order : Order) → sym_bytes order null_symbol ≡ replicate 24 0
unfolding bytes_of
zero_bytes Little = refl
zero_bytes Big = refl

null_bytes : (o : ObjectValue) (k : ℕ) → k < 24 → slice_index (symbol_table_section o).content k ≡ 0
null_bytes o k lt =
    let zeros = zero_bytes o.order in
    let long : length (sym_bytes o.order null_symbol) ≡ 24 = ap length zeros in
    get_or_append_left (sym_bytes o.order null_symbol) (flat_map (sym_bytes o.order) (map (symbol_entry o) o.symbols)) 0 k (omega arith)
    ∙ ap (λ (b : List ℕ). get_or b k 0) zeros ∙ get_or-replicate 24 k 0 0 lt

module _ (o : ObjectValue) (places : List ℕ) (written : IsWrittenAt o places) (p : SymbolPartsValue) (are : AreSymbolParts o p) where
  strings_below : length (string_table (symbol_names o)) < 2 ^ 32
  strings_below = let short = strings_short o places written in omega arith

  sections_below : length o.sections < 2 ^ 30
  sections_below = let short = own_short o places written in omega arith

  count_is : entry_count p.table ≡ length o.symbols + 1
  count_is = ap (λ (table : List ℕ). entry_count table) are.table_is ∙ symbol_entry_count o

  first_is : entry p.order p.table 0 ≡ null_symbol
  first_is = ap₂ (λ (b : Order) (table : List ℕ). entry b table 0) are.order_is are.table_is ∙ null_entry o written.widths strings_below

  symbol_is : (k : ℕ) → k < length o.symbols → entry p.order p.table (suc k) ≡ symbol_entry o (symbol_at o k)
  symbol_is k lt =
      ap₂ (λ (b : Order) (table : List ℕ). entry b table (suc k)) are.order_is are.table_is ∙
      symbol_entry_read o written.widths strings_below k lt

  -- what holds of the null symbol and of each symbol's entry holds of each entry
  pub by_entry : (P : ℕ → Sym → Type 0) → P 0 null_symbol → ((k : ℕ) → k < length o.symbols → P (suc k) (symbol_entry o (symbol_at o k))) →
      (j : ℕ) → j < entry_count p.table → P j (entry p.order p.table j)
  by_entry P first others zero lt = subst (P 0) (sym first_is) first
  by_entry P first others (suc k) lt =
      let many = count_is in
      let below : k < length o.symbols = omega arith in
      subst (P (suc k)) (sym (symbol_is k below)) (others k below)

  -- rule 41
  pub strings_closed : (start : ℕ) → FirstIn (linked_string_rules p.names start) None
  unfolding linked_string_rules
  strings_closed start = (no_unclosed_string_table p.names are.names_are, tt) where
    no_unclosed_string_table : (names : List ℕ) → names ≡ string_table (symbol_names o) → Never (unclosed_string_table names start)
    no_unclosed_string_table names is x (inl ((some, other), here)) =
        other (ap (λ (t : List ℕ). slice_index t 0) is ∙ (holds_names (symbol_names o)).first)
    no_unclosed_string_table names is x (inr (inl ((some, other), here))) =
        other (ap (λ (t : List ℕ). slice_index t (length t - 1)) is ∙ (holds_names (symbol_names o)).last)
    no_unclosed_string_table names is x (inr (inr broken)) = broken

  -- rule 45
  no_symbol_0_not_null : Never (symbol_0_not_null p)
  no_symbol_0_not_null x (inl (none, here)) = let many = count_is in omega arith
  no_symbol_0_not_null x (inr (inl (k, below, (some, other), here))) =
      other (ap (λ (table : List ℕ). slice_index table k) are.table_is ∙ null_bytes o k below)
  no_symbol_0_not_null x (inr (inr broken)) = broken

  -- rule 46
  no_wrong_local_count : Never (wrong_local_count p)
  no_wrong_local_count x (inl none, here) = let info = are.info_is in omega arith
  no_wrong_local_count x (inr past, here) =
      let info = are.info_is in
      let many = count_is in
      let locals = count_at_most is_local o.symbols in
      omega arith

  -- rule 47
  no_misplaced_binding : Never (misplaced_binding p)
  no_misplaced_binding x (j, below, broken, here) =
      by_entry (λ j symbol. IsMisplacedBinding p.info symbol j → ⊥) null_right symbol_right j below broken where
        null_right : IsMisplacedBinding p.info null_symbol 0 → ⊥
        null_right (inl (lt, other)) = other refl
        null_right (inr (le, is)) = let info = are.info_is in omega arith

        symbol_right : (k : ℕ) → k < length o.symbols → IsMisplacedBinding p.info (symbol_entry o (symbol_at o k)) (suc k) → ⊥
        symbol_right k lt (inl (before, other)) =
            let info = are.info_is in
            other (eqb-true _ _ ((passing_first is_local o.symbols no_symbol (locals_first o places written) k lt).0 (omega arith)))
        symbol_right k lt (inr (following, is)) =
            let info = are.info_is in
            true≢false (sym (eq-eqb _ _ is) ∙
            (passing_first is_local o.symbols no_symbol (locals_first o places written) k lt).1 (omega arith))

  -- rule 48
  no_symbol_name_past_end : Never (symbol_name_past_end p)
  no_symbol_name_past_end x (j, below, broken, here) =
      by_entry (λ j symbol. IsSymbolNamePastEnd (length p.names) symbol → ⊥) (λ wrong. wrong.0 refl) symbol_right j below broken where
        symbol_right : (k : ℕ) → k < length o.symbols → IsSymbolNamePastEnd (length p.names) (symbol_entry o (symbol_at o k)) → ⊥
        symbol_right k lt (some, past) =
            let within = name_within o k lt in
            let long = ap (λ (names : List ℕ). length names) are.names_are in
            omega arith

  pub entries_kept : FirstIn (symbol_entry_rules p) None
  unfolding symbol_entry_rules
  entries_kept = (no_symbol_0_not_null, (no_wrong_local_count, (no_misplaced_binding, (no_symbol_name_past_end, tt))))

  -- rule 51
  no_wrong_symbol_section : Never (wrong_symbol_section p)
  no_wrong_symbol_section x (j, below, broken, here) =
      by_entry (λ j symbol. IsWrongSymbolSection p.index_table p.sections symbol → ⊥) null_right symbol_right j below broken where
        null_right : IsWrongSymbolSection p.index_table p.sections null_symbol → ⊥
        null_right =
            section_right (length o.sections) p.sections are.sections_there p.index_table Undef (λ past. past)
            (λ far. absurd (true≢false (sym far)))

        symbol_right : (k : ℕ) → k < length o.symbols → IsWrongSymbolSection p.index_table p.sections (symbol_entry o (symbol_at o k)) → ⊥
        symbol_right k lt =
            section_right (length o.sections) p.sections are.sections_there p.index_table (symbol_at o k).place
            (no_wrong_place o written.object k lt)
            (λ far none. are.index_there (list_any_at (λ (s : SymbolValue). is_far s.place) o.symbols k no_symbol lt far) none)

  -- rule 52
  word_in : (t j : ℕ) → p.index_table ≡ Some t → word p.order p.words j ≡ word o.order (index_table_section o).content j
  word_in t j is = ap₂ (λ (b : Order) (words : List ℕ). word b words j) are.order_is (are.words_are t is)

  no_wrong_index_word : (table : Option ℕ) → p.index_table ≡ table → Never (OfSome table (λ _. AtEntry (entry_count p.table)
      (λ j. IsWrongIndexWord p.sections (entry p.order p.table j) (word p.order p.words j)) (λ j. p.words_start + WORD_SIZE * j)))
  no_wrong_index_word None is x broken = broken
  no_wrong_index_word (Some t) is x (j, below, broken, here) =
      by_entry (λ j symbol. IsWrongIndexWord p.sections symbol (word p.order p.words j) → ⊥) null_right symbol_right j below broken where
        null_right : IsWrongIndexWord p.sections null_symbol (word p.order p.words 0) → ⊥
        null_right wrong =
            word_right (length o.sections) p.sections are.sections_there Undef (λ past. past)
            (subst (λ (w : ℕ). IsWrongIndexWord p.sections null_symbol w)
            (word_in t 0 is ∙ null_word o written.object sections_below) wrong)

        symbol_right : (k : ℕ) → k < length o.symbols →
            IsWrongIndexWord p.sections (symbol_entry o (symbol_at o k)) (word p.order p.words (suc k)) → ⊥
        symbol_right k lt wrong =
            word_right (length o.sections) p.sections are.sections_there (symbol_at o k).place (no_wrong_place o written.object k lt)
            (subst (λ (w : ℕ). IsWrongIndexWord p.sections (symbol_entry o (symbol_at o k)) w)
            (word_in t (suc k) is ∙ symbol_word o written.object sections_below k lt) wrong)

  pub places_kept : FirstIn (place_rules p) None
  unfolding place_rules
  places_kept = (no_wrong_symbol_section, (no_wrong_index_word p.index_table refl, tt))

  -- the word of a symbol whose index its st_shndx can't hold
  pub far_word : (k : ℕ) → k < length o.symbols → is_far (symbol_at o k).place ≡ true →
      word p.order p.words (suc k) ≡ index_word (symbol_at o k).place
  far_word k lt far = found p.index_table refl where
    found : (table : Option ℕ) → p.index_table ≡ table → word p.order p.words (suc k) ≡ index_word (symbol_at o k).place
    found None is = absurd (are.index_there (list_any_at (λ (s : SymbolValue). is_far s.place) o.symbols k no_symbol lt far) is)
    found (Some t) is = word_in t (suc k) is ∙ symbol_word o written.object sections_below k lt

-- The symbol table of the file that an object is written as breaks none of its rules, 40 to 52. Its sizes and links are those that are
-- written, and rule 49 follows from the types of sections. The rules on entries are proved in `WrittenSymbols`.

-- ---- the parts of the symbol table

which_index : (far : Bool) (t j : ℕ) → (if far then Some (t + 1) else None) ≡ Some j → (far ≡ true) × (t + 1 ≡ j)
which_index true t j is = (refl, (let same : t + 1 ≡ j = cc in same))
which_index false t j is = cc

-- the index table is the section after the symbol table
index_at : (o : ObjectValue) (places : List ℕ) → IsWrittenAt o places → (j : ℕ) →
    index_table (written_sections o places) (symbol_table_at o) ≡ Some j →
    HasSectionAt (written_sections o places) j (index_table_section o)
index_at o places written j is =
    let which = which_index (has_index_table o) (symbol_table_at o) j (sym (written_index_table o places written) ∙ is) in
    subst (λ (k : ℕ). HasSectionAt (written_sections o places) k (index_table_section o)) which.1 (indexes_at o places written which.0)

some_index : (far : Bool) (t : ℕ) → far ≡ true → (if far then Some (t + 1) else None) ≡ None → ⊥
some_index true t is none = cc
some_index false t is none = true≢false (sym is)

pub written_parts : (o : ObjectValue) (places : List ℕ) → IsWrittenAt o places →
    AreSymbolParts o (symbol_parts (written_sections o places) (symbol_table_at o))
written_parts o places written =
    let f = written_sections o places in
    let t = symbol_table_at o in
    let table = symbols_at o places written in
    let there = table.there in
    record {
      order_is = written_order o places;
      info_is = table.sh_info;
      table_is = table.bytes;
      names_are = ap (content f) table.sh_link ∙ (symbol_strings_at o places written).bytes;
      sections_there = omega arith;
      index_there = λ is none. some_index (has_index_table o) t is (sym (written_index_table o places written) ∙ none);
      words_are = λ j is. ap (index_words f) is ∙ (index_at o places written j is).bytes;
    }

-- ---- the rules

module _ (o : ObjectValue) (places : List ℕ) (written : IsWrittenAt o places) where
  -- the content is whole entries
  whole_entries : (section (written_sections o places) (symbol_table_at o)).sh_size % 24 ≡ 0
  whole_entries =
      let size = (symbols_at o places written).sh_size in
      let long = length-symbol_table_section o in
      omega arith

  -- rules 40 and 42 to 44
  own_symbols_kept : FirstIn (own_rules SymbolTable (written_sections o places) (symbol_table_at o)) None
  unfolding own_rules
  own_symbols_kept =
      let f = written_sections o places in
      let table = symbols_at o places written in
      let names = symbol_strings_at o places written in (
        (λ x (wrong, here). wrong (rw table.sh_type refl)),
        (
          (λ x (wrong, here). wrong table.sh_entsize),
          (
            (λ x (wrong, here). wrong whole_entries),
            (
              (λ x (wrong, here). elim wrong [
                | inl past ↦ (let there = names.there in let link = table.sh_link in omega arith)
                | inr other ↦ other (ap (λ (i : ℕ). (section f i).sh_type) table.sh_link ∙ names.sh_type)
              ]),
              tt,
            ),
          ),
        ),
      )

  -- rule 49
  no_second_index_table : Never (second_index_table (written_sections o places) (symbol_table_at o))
  no_second_index_table x (j, lt, (is, (k, below, other)), here) =
      let last = ((type_says o places written j lt).indexes is.0).1 in
      let first = ((type_says o places written k (omega arith)).indexes other.0).1 in
      omega arith

  -- rule 50
  no_wrong_index_table_size : (found : Option ℕ) → index_table (written_sections o places) (symbol_table_at o) ≡ found →
      Never (OfSome found
      (wrong_index_table_size (written_sections o places)
      (entry_count (symbol_parts (written_sections o places) (symbol_table_at o)).table)))
  no_wrong_index_table_size None is x broken = broken
  no_wrong_index_table_size (Some j) is x (inl (wrong, here)) =
      let at = index_at o places written j is in
      let size = at.sh_size in
      let long = length-index_table_section o in
      let many = ap (λ (table : List ℕ). entry_count table) (symbols_at o places written).bytes ∙ symbol_entry_count o in
      wrong (omega arith)
  no_wrong_index_table_size (Some j) is x (inr (inl (wrong, here))) = wrong (index_at o places written j is).sh_entsize
  no_wrong_index_table_size (Some j) is x (inr (inr broken)) = broken

  index_table_kept : FirstIn
      (index_table_rules (written_sections o places) (symbol_table_at o) (index_table (written_sections o places) (symbol_table_at o))
      (entry_count (symbol_parts (written_sections o places) (symbol_table_at o)).table)) None
  unfolding index_table_rules
  index_table_kept = (no_second_index_table, (no_wrong_index_table_size _ refl, tt))

  rest_kept : FirstIn
      (rest_rules (written_sections o places) (symbol_table_at o) (symbol_parts (written_sections o places) (symbol_table_at o))) None
  unfolding rest_rules
  rest_kept =
      let f = written_sections o places in
      let p = symbol_parts f (symbol_table_at o) in
      let are = written_parts o places written in
      FirstIn-later (linked_string_rules p.names p.names_start) _ None (strings_closed o places written p are p.names_start)
      (FirstIn-later (symbol_entry_rules p) _ None (entries_kept o places written p are)
      (FirstIn-later (index_table_rules f (symbol_table_at o) p.index_table (entry_count p.table)) _ None index_table_kept
      (places_kept o places written p are)))

  pub symbol_rules_kept : FirstIn (symbol_table_rules (written_sections o places) (symbol_table_at o)) None
  unfolding symbol_table_rules
  symbol_rules_kept =
      FirstIn-later (own_rules SymbolTable (written_sections o places) (symbol_table_at o)) _ None own_symbols_kept rest_kept

-- A relocation section of the file that an object is written as breaks none of its rules, 40 to 54. Its entry size is right by rule 5 of
-- objects; its target and its symbols are there by rule 4. Its link is the symbol table, which breaks no rule.

-- ---- the two types of relocation sections

kind_of_relocations : (rela : Bool) (type : ℕ) → type ≡ relocation_section_type rela → kind_of type ≡ Some RelocationTable
kind_of_relocations true type is = rw is refl
kind_of_relocations false type is = rw is refl

size_of_relocations : (rela : Bool) (type : ℕ) → type ≡ relocation_section_type rela →
    entry_size RelocationTable type ≡ relocation_size rela
size_of_relocations true type is = rw is refl
size_of_relocations false type is = rw is refl

addends_of_type : (rela : Bool) (type : ℕ) → type ≡ relocation_section_type rela → has_addends type ≡ rela
addends_of_type true type is = rw is refl
addends_of_type false type is = rw is refl

in_file : (rela : Bool) → (relocation_section_type rela == 8) ≡ false
in_file true = refl
in_file false = refl

whole_relocations : (rela : Bool) (n : ℕ) → (relocation_size rela * n) % relocation_size rela ≡ 0
whole_relocations true n = omega arith
whole_relocations false n = omega arith

-- ---- what the object's rules say of relocations

-- rule 5 of objects
relocation_entsize : (s : SectionValue) (rela : Bool) (target : ℕ) (entries : List Relocation) →
    (HasWrongField s (relocs rela target entries) → ⊥) → s.entsize ≡ relocation_size rela
relocation_entsize s rela target entries right = elim (cases_eq s.entsize (relocation_size rela)) [
  | inl same ↦ same
  | inr other ↦ absurd (right (inr (inl other)))
]

-- rule 4 of objects
target_below : (o : ObjectValue) (rela : Bool) (target : ℕ) (entries : List Relocation) →
    (HasWrongReference o (relocs rela target entries) → ⊥) → target < length o.sections
target_below o rela target entries right = elim (cases_lt target (length o.sections)) [
  | inl below ↦ below
  | inr past ↦ absurd (right (inl (inl past)))
]

-- a relocation that is read names no symbol after the last one
symbol_there : (n : ℕ) (rela : Bool) (byte_order : Order) (entries : List Relocation) → AreRelocations n entries → (j : ℕ) →
    j < relocation_count rela (relocation_bytes byte_order rela entries) →
    (relocation_in rela byte_order (relocation_bytes byte_order rela entries) j).symbol ≤ n
symbol_there n rela byte_order entries are j lt =
    let many = relocation_count_is rela byte_order entries in
    let within : j < length entries = omega arith in
    let read = ap (λ (r : table.Relocation). r.symbol) (relocation_read n rela byte_order entries are j within) in
    let named = index_short n (get_or entries j no_relocation).symbol
    (none_of_any (λ (entry : Relocation). IsPast n entry.symbol) entries no_relocation are.there j within) in
    omega arith

-- ---- the section

module _ (o : ObjectValue) (places : List ℕ) (written : IsWrittenAt o places) (p : ℕ) (below : p < length o.sections)
    (rela : Bool) (target : ℕ) (entries : List Relocation) (is : (section_at o p).body ≡ relocs rela target entries) where
  at : HasSectionAt (written_sections o places) (suc p) (own_section o (section_at o p))
  at = own_at o places written p below

  type_is : (section (written_sections o places) (suc p)).sh_type ≡ relocation_section_type rela
  type_is = at.sh_type ∙ ap body_type is

  relocation_link : (section (written_sections o places) (suc p)).sh_link ≡ symbol_table_at o
  relocation_link = at.sh_link ∙ ap (body_link o (section_at o p)) is

  pub relocation_target : (section (written_sections o places) (suc p)).sh_info ≡ target + 1
  relocation_target = at.sh_info ∙ ap (body_info (section_at o p)) is

  bytes_are : content (written_sections o places) (suc p) ≡ relocation_bytes o.order rela entries
  bytes_are = at.bytes ∙ ap (body_bytes o.order) is

  fields_right : HasWrongField (section_at o p) (relocs rela target entries) → ⊥
  fields_right = subst (λ (b : BodyValue). HasWrongField (section_at o p) b → ⊥) is (no_wrong_field o written.object p below)

  references_right : HasWrongReference o (relocs rela target entries) → ⊥
  references_right =
      subst (λ (b : BodyValue). HasWrongReference o b → ⊥) is (λ wrong. no_wrong_position o written.object p below (inr (inr wrong)))

  are : AreRelocations (length o.symbols) entries
  are = record {
    few = (let short = symbols_short o places written in omega arith);
    fit = subst BodyFits is (each_of_all SectionFits o.sections no_section written.widths.sections p below).body;
    there = λ past. references_right (inr past);
  }

  entsize_is : (section (written_sections o places) (suc p)).sh_entsize ≡
      entry_size RelocationTable (section (written_sections o places) (suc p)).sh_type
  entsize_is =
      at.sh_entsize ∙ relocation_entsize (section_at o p) rela target entries fields_right ∙ sym (size_of_relocations rela _ type_is)

  size_is : (section (written_sections o places) (suc p)).sh_size ≡ relocation_size rela * length entries
  size_is =
      at.sh_size ∙ ap (λ (b : BodyValue). if body_type b == 8 then body_space b else length (body_bytes o.order b)) is
      ∙ rw (in_file rela) refl ∙ length-relocations o.order rela entries

  whole : (section (written_sections o places) (suc p)).sh_size % entry_size RelocationTable
      (section (written_sections o places) (suc p)).sh_type ≡ 0
  whole = ap₂ (λ (size entry : ℕ). size % entry) size_is (size_of_relocations rela _ type_is) ∙ whole_relocations rela (length entries)

  own_kept : FirstIn (own_rules RelocationTable (written_sections o places) (suc p)) None
  unfolding own_rules
  own_kept = (
    (λ x (wrong, here). wrong (kind_of_relocations rela _ type_is)),
    (
      (λ x (wrong, here). wrong entsize_is),
      (
        (λ x (wrong, here). wrong whole),
        (
          (λ x (wrong, here). elim wrong [
            | inl past ↦ (let there = (symbols_at o places written).there in let link = relocation_link in omega arith)
            | inr other ↦
                other (inl (ap (λ (i : ℕ). (section (written_sections o places) i).sh_type) relocation_link ∙
                (symbols_at o places written).sh_type))
          ]),
          tt,
        ),
      ),
    ),
  )

  symbols_counted : entry_count (content (written_sections o places) (section (written_sections o places) (suc p)).sh_link) ≡
      length o.symbols + 1
  symbols_counted =
      ap (λ (i : ℕ). entry_count (content (written_sections o places) i)) relocation_link
      ∙ ap (λ (table : List ℕ). entry_count table) (symbols_at o places written).bytes ∙ symbol_entry_count o

  -- rules 53 and 54
  targets_and_symbols : FirstIn (relocation_entry_rules (written_sections o places) (suc p)) None
  unfolding relocation_entry_rules
  targets_and_symbols = (
    (λ x (past, here). (
        let there = (symbols_at o places written).there in
        let info = relocation_target in
        let lt = target_below o rela target entries references_right in
        omega arith)),
    (
      (λ x (j, lt, past, here). (
          let f = written_sections o places in
          let addends = addends_of_type rela _ type_is in
          let counted = symbols_counted in
          let many =
          ap (λ (a : Bool). relocation_count a (content f (suc p))) addends ∙
          ap (λ (bytes : List ℕ). relocation_count rela bytes) bytes_are in
          let named =
          ap (λ (a : Bool). (relocation_in a (order f) (content f (suc p)) j).symbol) addends
          ∙ ap₂ (λ (b : Order) (bytes : List ℕ). (relocation_in rela b bytes j).symbol) (written_order o places) bytes_are in
          let there = symbol_there (length o.symbols) rela o.order entries are j (omega arith) in
          omega arith)),
      tt,
    ),
  )

  pub relocation_rules_kept : FirstIn (relocation_section_rules (written_sections o places) (suc p)) None
  unfolding relocation_section_rules
  relocation_rules_kept =
      let f = written_sections o places in
      let symbols = subst (λ (t : ℕ). FirstIn (symbol_table_rules f t) None) (sym relocation_link) (symbol_rules_kept o places written) in
      FirstIn-later (own_rules RelocationTable f (suc p)) _ None own_kept
      (FirstIn-later (symbol_table_rules f (section f (suc p)).sh_link) _ None symbols targets_and_symbols)
