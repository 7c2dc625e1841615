-- The symbols of the object that a file denotes keep rules 7 to 9 of objects: symbol q is entry q + 1. Its name is a string. If the file
-- breaks no rule, the section it is in is kept by rule 75, and local symbols come first by rule 47.
use Rattle.std.proofs.Common.{◌≡◌, ℕ, ◌+◌, ◌*◌, ◌<◌, ◌≤◌, List, get_or, length, ap, ◌∙◌, arith, ◌-◌, zero, suc, Bool, true, false, not}
use Rattle.std.proofs.Common.{cond, min, [], ◌∷◌, drop, take, map, refl, sym, Option, None, Some, inl, inr, subst, ◌⊎◌}
use Rattle.std.specs.Prelude.{◌/◌, ◌%◌, ◌==◌, slice_range, Contains}
use Rattle.std.specs.List.{before_first, prefix_len, range_with_len}
use Rattle.std.proofs.lemmas.List.{drop-drop, drop-take, length-drop, take-take, get_or-drop, get_or-map, length-map}
use Rattle.std.proofs.lemmas.List.Folds.{length-prefix_len}
use Rattle.std.proofs.lemmas.List.FromFn.{get_or-map-range_with_len, length-map-range_with_len}
use Rattle.std.proofs.lemmas.List.Sums.{prefix_len-le-length}
use Rattle.std.proofs.lemmas.Bool.{cases_lt}
use Rattle.elf_extent.specs.Extent.{Never}
use Rattle.elf_field.specs.Abi.{STB_LOCAL}
use Rattle.elf_field.specs.Entries.{sym_at}
use Rattle.elf_field.specs.declared.number.Order.{Order}
use Rattle.elf_field.specs.declared.sym.Sym.{Sym}
use Rattle.elf_image_rules.proofs.Public.{FirstIn-after, FirstIn-front}
use Rattle.elf_image_rules.specs.Rows.{FirstIn}
use Rattle.elf_field.specs.Strings.{string}
use Rattle.elf_object_reader.proofs.FileRules.{places_sound, symbols_sound}
use Rattle.elf_object_layout.proofs.Public.{not_kept_past}
use Rattle.elf_object_reader.proofs.KeptTypes.{no_zero_in_string, position_there}
use Rattle.elf_object_layout.specs.SectionsLeftOut.{left_out, symbol_table, is_kept}
use Rattle.elf_object_reader.specs.Denotes.{Denotes, symbol_denoted, symbols_denoted, place_denoted, relocation_denoted}
use Rattle.elf_object_reader.specs.FileRules.{block_end, IsSymbolOutside, file_rules, rules_of_symbols, symbol_outside_rules}
use Rattle.elf_object_layout.specs.declared.left_out.LeftOut.{LeftOut}
use Rattle.elf_object_type.proofs.Public.{cases_bool}
use Rattle.elf_object_type.specs.Object.{SymbolValue, ObjectValue, IsPast, no_symbol, symbol_at, table_count, table_relocation}
use Rattle.elf_object_type.specs.Object.{table_relocations}
use Rattle.elf_object_type.specs.ObjectRules.{misplaced_local, place_position, wrong_place, zero_in_symbol_name}
use Rattle.elf_object_type.specs.ObjectView.{symbol_value}
use Rattle.elf_object_type.specs.declared.parts.Place.{Place}
use Rattle.elf_object_type.specs.declared.parts.Symbol.{Symbol}
use Rattle.elf_table_lists.specs.Relocations.{relocation_count, relocation_in, relocations_in}
use Rattle.elf_table_symbols.proofs.Public.{length_symbols, symbol_get}
use Rattle.elf_table_symbols.specs.Sections.{Sections, content, order, count, section, own_rules}
use Rattle.elf_table_symbols.specs.SymbolView.{no_symbol_entry}
use Rattle.elf_table_symbols.specs.Symbols.{symbol_parts, entry, entry_count, symbol_entry_in, symbols_of, SymbolEntryValue}
use Rattle.elf_table_symbols.specs.Symbols.{linked_string_rules, entry_binding, misplaced_binding, rest_rules, symbol_entry_rules}
use Rattle.elf_table_symbols.specs.Symbols.{symbol_table_rules}
use Rattle.elf_table_symbols.specs.declared.symbols.Place.TheVariants.{Undefined, Absolute, Common, Reserved, Section}
use Rattle.elf_table_symbols.specs.declared.table_section.TableKind.TheVariants.{SymbolTable}
use Rattle.elf_table_symbols.specs.Symbols as table_symbols
use Rattle.elf_table_symbols.specs.declared.symbols.Place as table_place
use Rattle.elf_table_symbols.specs.SymbolView as table_view

-- A symbol table has as many symbols as whole entries fit its content, 24 bytes each. So symbol j lies in the content, and its `st_info` is
-- put together again from its two halves. Last, symbols with equal fields are equal.

pub length_symbols_of : (f : Sections) (t : ℕ) → length (symbols_of f t) ≡ entry_count (content f t)
unfolding symbols_of
length_symbols_of f t = (let p = symbol_parts f t in length_symbols p.order p.table p.names p.words)

pub symbol_within : (f : Sections) (t j : ℕ) → j < length (symbols_of f t) → 24 * j + 24 ≤ length (content f t)
symbol_within f t j lt = omega (arith, length_symbols_of f t)

-- binding and type are the halves of st_info
pub halves : (x : ℕ) → 16 * (x / 16) + x % 16 ≡ x
halves x = omega arith

pub symbol_info : (f : Sections) (t j : ℕ) → j < length (symbols_of f t) →
    (let s = get_or (symbols_of f t) j no_symbol_entry in
    16 * s.binding + s.symbol_type ≡ (sym_at (order f) (content f t) (24 * j)).st_info)
unfolding symbols_of symbol_entry_in entry
symbol_info f t j lt =
    let p = symbol_parts f t in
    let within : j < entry_count p.table = omega (arith, length_symbols p.order p.table p.names p.words) in
    ap (λ (s : table_symbols.SymbolEntryValue). 16 * s.binding + s.symbol_type) (symbol_get p.order p.table p.names p.words j within) ∙
    halves (sym_at (order f) (content f t) (24 * j)).st_info

-- a symbol is made of its entry
abbrev IsOf : table_symbols.SymbolEntryValue → Sym → Type 0
IsOf s e = (s.other ≡ e.st_other) × (s.value ≡ e.st_value) × (s.size ≡ e.st_size)

pub symbol_fields : (f : Sections) (t j : ℕ) → j < length (symbols_of f t) →
    IsOf (get_or (symbols_of f t) j no_symbol_entry) (sym_at (order f) (content f t) (24 * j))
unfolding symbols_of symbol_entry_in entry
symbol_fields f t j lt =
    let p = symbol_parts f t in
    let within : j < entry_count p.table = omega (arith, length_symbols p.order p.table p.names p.words) in
    let is = symbol_get p.order p.table p.names p.words j within in (
      ap (λ (s : table_symbols.SymbolEntryValue). s.other) is,
      ap (λ (s : table_symbols.SymbolEntryValue). s.value) is,
      ap (λ (s : table_symbols.SymbolEntryValue). s.size) is,
    )

-- the name is a string of the table that the symbol table links to
pub symbol_name : (f : Sections) (t j : ℕ) → j < length (symbols_of f t) →
    (get_or (symbols_of f t) j no_symbol_entry).name ≡ string (symbol_parts f t).names (sym_at (order f) (content f t) (24 * j)).st_name
unfolding symbols_of symbol_entry_in entry
symbol_name f t j lt =
    let p = symbol_parts f t in
    let within : j < entry_count p.table = omega (arith, length_symbols p.order p.table p.names p.words) in
    ap (λ (s : table_symbols.SymbolEntryValue). s.name) (symbol_get p.order p.table p.names p.words j within)

-- a symbol of these fields
abbrev made : List ℕ → ℕ → ℕ → Place → ℕ → ℕ → SymbolValue
made name info other place value size = record { name = name; info = info; other = other; place = place; value = value; size = size }

-- symbols are the same where their fields are
pub same_symbol : (a b : SymbolValue) → a.name ≡ b.name → a.info ≡ b.info → a.other ≡ b.other → a.place ≡ b.place → a.value ≡ b.value →
    a.size ≡ b.size → a ≡ b
same_symbol a b name info other place value size =
    ap (λ (x : List ℕ). made x a.info a.other a.place a.value a.size) name ∙
    ap (λ (x : ℕ). made b.name x a.other a.place a.value a.size) info ∙
    ap (λ (x : ℕ). made b.name b.info x a.place a.value a.size) other ∙
    ap (λ (x : Place). made b.name b.info b.other x a.value a.size) place ∙
    ap (λ (x : ℕ). made b.name b.info b.other b.place x a.size) value ∙
    ap (λ (x : ℕ). made b.name b.info b.other b.place b.value x) size

-- A string that starts within another one ends where that ends (`end_kept`): by induction on how far within it starts, as many bytes less
-- are not zero from there on. And a string of the first bytes of a table is one of the table, or goes on to the last of them
-- (`string_near`, `end_far`).

-- what is asked of a list with one more element in front
one_more : {X : Type 0} (p : X → Bool) (k : ℕ) (x : X) (xs : List X) (b : Bool) → p x ≡ b → suc k ≤ prefix_len p (x ∷ xs) →
    (k ≤ prefix_len p xs → prefix_len p (drop k xs) ≡ prefix_len p xs - k) → prefix_len p (drop k xs) ≡ prefix_len p (x ∷ xs) - suc k
one_more p k x xs true is le rest =
    let long : prefix_len p (x ∷ xs) ≡ 1 + prefix_len p xs = ap (λ (c : Bool). cond c (1 + prefix_len p xs) 0) is in
    let less = rest (omega arith) in
    omega arith
one_more p k x xs false is le rest =
    let none : prefix_len p (x ∷ xs) ≡ 0 = ap (λ (c : Bool). cond c (1 + prefix_len p xs) 0) is in
    absurd (omega arith)

prefix_within : {X : Type 0} (p : X → Bool) (k : ℕ) (xs : List X) → k ≤ prefix_len p xs →
    prefix_len p (drop k xs) ≡ prefix_len p xs - k
prefix_within p zero xs le = omega arith
prefix_within p (suc k) [] le = absurd (omega arith)
prefix_within p (suc k) (x ∷ xs) le = one_more p k x xs (p x) refl le (prefix_within p k xs)

cut_more : {X : Type 0} (p : X → Bool) (k : ℕ) (x : X) (xs : List X) (b : Bool) → p x ≡ b →
    prefix_len p (take k xs) ≡ min k (prefix_len p xs) → prefix_len p (x ∷ take k xs) ≡ min (suc k) (prefix_len p (x ∷ xs))
cut_more p k x xs true is rest =
    let long : prefix_len p (x ∷ xs) ≡ 1 + prefix_len p xs = ap (λ (c : Bool). cond c (1 + prefix_len p xs) 0) is in
    let cut : prefix_len p (x ∷ take k xs) ≡ 1 + prefix_len p (take k xs) = ap (λ (c : Bool). cond c (1 + prefix_len p (take k xs)) 0) is in
    omega arith
cut_more p k x xs false is rest =
    let long : prefix_len p (x ∷ xs) ≡ 0 = ap (λ (c : Bool). cond c (1 + prefix_len p xs) 0) is in
    let cut : prefix_len p (x ∷ take k xs) ≡ 0 = ap (λ (c : Bool). cond c (1 + prefix_len p (take k xs)) 0) is in
    omega arith

prefix_cut : {X : Type 0} (p : X → Bool) (k : ℕ) (xs : List X) → prefix_len p (take k xs) ≡ min k (prefix_len p xs)
prefix_cut p zero xs = omega arith
prefix_cut p (suc k) [] = omega arith
prefix_cut p (suc k) (x ∷ xs) = cut_more p k x xs (p x) refl (prefix_cut p k xs)

abbrev is_inside : ℕ → Bool
is_inside byte = not (byte == 0)

string_length : (table : List ℕ) (at : ℕ) → length (string table at) ≡ prefix_len is_inside (drop at table)
string_length table at = length-prefix_len is_inside (drop at table)

pub string_to : (table : List ℕ) (at end : ℕ) → at + length (string table at) ≡ end → slice_range table at end ≡ string table at
string_to table at end is =
    let count : end - at ≡ prefix_len is_inside (drop at table) = omega (arith, string_length table at) in
    ap (λ (n : ℕ). take n (drop at table)) count

-- ---- by a string before it

pub end_kept : (table : List ℕ) (start at end : ℕ) → start + length (string table start) ≡ end → start ≤ at → at ≤ end →
    end ≡ at + length (string table at)
end_kept table start at end is low high =
    let rest : List ℕ = drop start table in
    let k = at - start in
    let place : start + k ≡ at = omega arith in
    let tail : drop k rest ≡ drop at table = drop-drop k start table ∙ ap (λ (n : ℕ). drop n table) place in
    let one = string_length table start in
    let left = prefix_within is_inside k rest (omega arith) in
    let other : length (string table at) ≡ prefix_len is_inside (drop k rest) =
    string_length table at ∙ ap (prefix_len is_inside) (sym tail) in
    omega arith

-- ---- by the first bytes of the table

cut_at : (table : List ℕ) (at next : ℕ) → at ≤ next → drop at (take next table) ≡ take (next - at) (drop at table)
cut_at table at next low =
    let place : next ≡ at + (next - at) = omega arith in
    ap (λ (n : ℕ). drop at (take n table)) place ∙ drop-take at (next - at) table

near_length : (table : List ℕ) (at next : ℕ) → at ≤ next →
    length (string (take next table) at) ≡ min (next - at) (prefix_len is_inside (drop at table))
near_length table at next low =
    string_length (take next table) at ∙ ap (prefix_len is_inside) (cut_at table at next low) ∙
    prefix_cut is_inside (next - at) (drop at table)

pub string_near : (table : List ℕ) (at next : ℕ) → at ≤ next → at + length (string (take next table) at) < next →
    string (take next table) at ≡ string table at
string_near table at next low within =
    let rest : List ℕ = drop at table in
    let k = next - at in
    let cut = prefix_cut is_inside k rest in
    let long = near_length table at next low in
    let same : prefix_len is_inside (take k rest) ≡ prefix_len is_inside rest = omega arith in
    ap (before_first (λ byte. byte == 0)) (cut_at table at next low)
    ∙ take-take (prefix_len is_inside (take k rest)) k rest (omega arith)
    ∙ ap (λ (n : ℕ). take n rest) same

pub end_far : (table : List ℕ) (at next end : ℕ) → at ≤ next → next ≤ at + length (string (take next table) at) →
    end ≡ next + length (string table next) → at + length (string table at) ≡ end
end_far table at next end low beyond is =
    let rest : List ℕ = drop at table in
    let k = next - at in
    let place : at + k ≡ next = omega arith in
    let tail : drop k rest ≡ drop next table = drop-drop k at table ∙ ap (λ (n : ℕ). drop n table) place in
    let long = near_length table at next low in
    let left = prefix_within is_inside k rest (omega arith) in
    let one = string_length table at in
    let other : length (string table next) ≡ prefix_len is_inside (drop k rest) =
    string_length table next ∙ ap (prefix_len is_inside) (sym tail) in
    omega arith

-- ---- of each block of the table

-- where a block ends for which an end is known
pub block_there : (table ends : List ℕ) (block : ℕ) → ends ≡ map (block_end table) (range_with_len 1 (length table / 4096)) →
    block < length ends → 4096 * (block + 1) ≤ length table
block_there table ends block are lt =
    let many : length ends ≡ length table / 4096 =
    ap (λ (es : List ℕ). length es) are ∙ length-map-range_with_len (block_end table) 1 (length table / 4096) in
    omega arith

pub end_there : (table ends : List ℕ) (block d : ℕ) → ends ≡ map (block_end table) (range_with_len 1 (length table / 4096)) →
    block < length ends → get_or ends block d ≡ block_end table (block + 1)
end_there table ends block d are lt =
    let many : length ends ≡ length table / 4096 =
    ap (λ (es : List ℕ). length es) are ∙ length-map-range_with_len (block_end table) 1 (length table / 4096) in
    let below : block < length table / 4096 = omega arith in
    ap (λ (es : List ℕ). get_or es block d) are
    ∙ get_or-map-range_with_len (block_end table) 1 (length table / 4096) block (block + 1) d below (omega arith)

pub end_within : (table : List ℕ) (at : ℕ) → at ≤ length table → at + length (string table at) ≤ length table
end_within table at le =
    let inside = prefix_len-le-length is_inside (drop at table) in
    let rest = length-drop at table in
    let own = string_length table at in
    omega arith

-- The name of symbol j of an object is the string at the `st_name` of entry j + 1 of the symbol table.

abbrev pub names_of : List SymbolValue → List (List ℕ)
names_of symbols = map (λ (s : SymbolValue). s.name) symbols

-- one symbol of the table is not read, the first one
pub all_but_one : (left : LeftOut) (f : Sections) (t : ℕ) → length (symbols_denoted left f (Some t)) ≡ length (symbols_of f t) - 1
all_but_one left f t = length-map (drop 1 (symbols_of f t)) (symbol_denoted left f) ∙ length-drop 1 (symbols_of f t)

-- the name of a symbol is that of the next entry
pub name_denoted : (left : LeftOut) (f : Sections) (t j : ℕ) → j < length (symbols_of f t) - 1 →
    get_or (names_of (symbols_denoted left f (Some t))) j [] ≡
    string (symbol_parts f t).names (sym_at (order f) (content f t) (24 * (1 + j))).st_name
name_denoted left f t j lt =
    let entries = symbols_of f t in
    let denoted = symbol_denoted left f in
    let many : length (drop 1 entries) ≡ length entries - 1 = length-drop 1 entries in
    let within : j < length (drop 1 entries) = omega arith in
    let long : j < length (map denoted (drop 1 entries)) = omega (arith, length-map (drop 1 entries) denoted) in
    get_or-map (λ (s : SymbolValue). s.name) (map denoted (drop 1 entries)) j (denoted no_symbol_entry) [] long
    ∙ ap (λ (s : SymbolValue). s.name) (get_or-map denoted (drop 1 entries) j no_symbol_entry (denoted no_symbol_entry) within)
    ∙ ap (λ (s : SymbolEntryValue). s.name) (get_or-drop 1 entries j no_symbol_entry)
    ∙ symbol_name f t (1 + j) (omega arith)

-- the symbols that were read
pub next_there : (left : LeftOut) (f : Sections) (t j : ℕ) (read : List Symbol) → map symbol_value read ≡ symbols_denoted left f (Some t) →
    j < length read → j + 1 < length (symbols_of f t)
next_there left f t j read are lt =
    let many : length read ≡ length (symbols_of f t) - 1 =
    sym (length-map read symbol_value) ∙ ap (λ (symbols : List SymbolValue). length symbols) are ∙ all_but_one left f t in
    omega arith

pub name_read : (left : LeftOut) (f : Sections) (t j : ℕ) (read : List Symbol) (d : Symbol) →
    map symbol_value read ≡ symbols_denoted left f (Some t) →
    j < length read → (get_or read j d).name.now ≡ string (symbol_parts f t).names (sym_at (order f) (content f t) (24 * (j + 1))).st_name
name_read left f t j read d are lt =
    let next : 1 + j ≡ j + 1 = omega arith in
    let there = next_there left f t j read are lt in
    let long : j < length (map symbol_value read) = omega (arith, length-map read symbol_value) in
    sym (get_or-map (λ (s : SymbolValue). s.name) (map symbol_value read) j (symbol_value d) [] long
    ∙ ap (λ (s : SymbolValue). s.name) (get_or-map symbol_value read j d (symbol_value d) lt))
    ∙ ap (λ (symbols : List SymbolValue). get_or (names_of symbols) j []) are
    ∙ name_denoted left f t j (omega arith)
    ∙ ap (λ (k : ℕ). string (symbol_parts f t).names (sym_at (order f) (content f t) (24 * k)).st_name) next

-- symbol q of the object is symbol q + 1 of the symbol table in section t
pub record IsSymbolOf (f : Sections) (o : ObjectValue) (q t : ℕ) : Type 0 where
  pub table : symbol_table f ≡ Some t
  pub there : q + 1 < length (symbols_of f t)
  pub symbol : symbol_at o q ≡ symbol_denoted (left_out f) f (get_or (symbols_of f t) (q + 1) table_view.no_symbol_entry)

symbol_in_table : (f : Sections) (o : ObjectValue) (q : ℕ) (table : Option ℕ) → symbol_table f ≡ table →
    o.symbols ≡ symbols_denoted (left_out f) f table →
    q < length o.symbols → (t : ℕ) × IsSymbolOf f o q t
symbol_in_table f o q None is same lt = absurd (let none = ap (λ (ss : List SymbolValue). length ss) same in omega arith)
symbol_in_table f o q (Some t) is same lt =
    let all = symbols_of f t in
    let D = symbol_denoted (left_out f) f in
    let long = ap (λ (ss : List SymbolValue). length ss) same ∙ length-map (drop 1 all) D ∙ length-drop 1 all in
    let within : q < length (drop 1 all) = omega (arith, length-drop 1 all) in
    let next : 1 + q ≡ q + 1 = omega arith in (
      t,
      record {
        table = is;
        there = omega arith;
        symbol =
            ap (λ (ss : List SymbolValue). get_or ss q no_symbol) same ∙
            get_or-map D (drop 1 all) q table_view.no_symbol_entry no_symbol within ∙
            ap D (get_or-drop 1 all q table_view.no_symbol_entry ∙ ap (λ (k : ℕ). get_or all k table_view.no_symbol_entry) next);
      },
    )

pub symbol_at_position : (f : Sections) (o : ObjectValue) (q : ℕ) → Denotes f o → q < length o.symbols → (t : ℕ) × IsSymbolOf f o q t
symbol_at_position f o q denotes lt = symbol_in_table f o q (symbol_table f) refl denotes.symbols lt

-- the name of a symbol of a table is a string
table_name : (f : Sections) (t j : ℕ) → j < length (symbols_of f t) →
    Contains (get_or (symbols_of f t) j table_view.no_symbol_entry).name 0 → ⊥
unfolding symbols_of symbol_entry_in
table_name f t j lt has =
    let p = symbol_parts f t in
    let within : j < entry_count p.table = omega (arith, length_symbols p.order p.table p.names p.words) in
    let got = symbol_get p.order p.table p.names p.words j within in
    no_zero_in_string p.names (entry p.order p.table j).st_name (subst (λ (s : table_symbols.SymbolEntryValue). Contains s.name 0) got has)

-- rule 7 of objects
pub no_zero_in_symbol_name : (f : Sections) (o : ObjectValue) → Denotes f o → Never (zero_in_symbol_name o)
no_zero_in_symbol_name f o denotes x (q, within, broken, here) =
    let (t, is) = symbol_at_position f o q denotes within in
    table_name f t (q + 1) is.there (subst (λ (s : SymbolValue). Contains s.name 0) is.symbol broken)

-- ---- rule 8 of objects

-- a section that is kept is there
pub kept_there : (left : LeftOut) (f : Sections) (k : ℕ) → is_kept left f k ≡ true → k < count f
kept_there left f k is = elim (cases_lt k (count f)) [
  | inl there ↦ there
  | inr past ↦ absurd (let other : true ≡ false = sym is ∙ not_kept_past left f k past in cc)
]

-- a place that rule 75 lets pass is one of an object
place_kept : (f : Sections) (o : ObjectValue) (place : table_place.Place) → Denotes f o → (IsSymbolOutside (left_out f) f place → ⊥) →
    IsPast (length o.sections) (place_position (place_denoted (left_out f) f place)) → ⊥
place_kept f o Undefined denotes inside past = past
place_kept f o Absolute denotes inside past = past
place_kept f o Common denotes inside past = past
place_kept f o (Reserved index) denotes inside past = inside tt
place_kept f o (Section k) denotes inside past = elim (cases_bool (is_kept (left_out f) f k)) [
  | inl is ↦ (let below = position_there f o k denotes (kept_there (left_out f) f k is) is in omega arith)
  | inr other ↦ inside other
]

no_place_outside : (f : Sections) (t j : ℕ) → FirstIn (symbol_outside_rules (left_out f) f (Some t)) None → j < length (symbols_of f t) →
    IsSymbolOutside (left_out f) f (get_or (symbols_of f t) j table_view.no_symbol_entry).place → ⊥
unfolding symbol_outside_rules
no_place_outside f t j clean lt outside = clean.0 _ (j, lt, outside, refl)

pub no_wrong_place : (f : Sections) (o : ObjectValue) → FirstIn (file_rules f) None → Denotes f o → Never (wrong_place o)
no_wrong_place f o clean denotes x (q, within, broken, here) =
    let (t, is) = symbol_at_position f o q denotes within in
    let places = subst (λ (table : Option ℕ). FirstIn (symbol_outside_rules (left_out f) f table) None) is.table (places_sound f clean) in
    place_kept f o (get_or (symbols_of f t) (q + 1) table_view.no_symbol_entry).place denotes (no_place_outside f t (q + 1) places is.there)
    (subst (λ (s : SymbolValue). IsPast (length o.sections) (place_position s.place)) is.symbol broken)

-- ---- rule 9 of objects

-- a symbol of the object has the binding of the entry that it is read from
local_info : (f : Sections) (o : ObjectValue) (q t : ℕ) → IsSymbolOf f o q t →
    (symbol_at o q).info / 16 ≡ entry_binding (entry (order f) (content f t) (q + 1))
unfolding entry
local_info f o q t is =
    ap (λ (s : SymbolValue). s.info / 16) is.symbol ∙ ap (λ (x : ℕ). x / 16) (symbol_info f t (q + 1) is.there)

-- rule 47: those below sh_info are local, and no other
no_misplaced_binding : (f : Sections) (t : ℕ) → FirstIn (symbol_table_rules f t) None → Never (misplaced_binding (symbol_parts f t))
unfolding symbol_table_rules rest_rules symbol_entry_rules
no_misplaced_binding f t clean =
    let p = symbol_parts f t in
    let later = FirstIn-after (linked_string_rules p.names p.names_start) _ (FirstIn-after (own_rules SymbolTable f t) _ clean) in
    (FirstIn-front (symbol_entry_rules p) _ later).1.1.0

locals_first : (f : Sections) (t i k : ℕ) → Never (misplaced_binding (symbol_parts f t)) → k < i → i < entry_count (content f t) →
    entry_binding (entry (order f) (content f t) i) ≡ STB_LOCAL → (entry_binding (entry (order f) (content f t) k) ≡ STB_LOCAL → ⊥) → ⊥
locals_first f t i k never lt within local other = elim (cases_lt i (section f t).sh_info) [
  | inl below ↦ never _ (k, omega arith, inl (omega arith, other), refl)
  | inr above ↦ never _ (i, within, inr (above, local), refl)
]

pub no_misplaced_local : (f : Sections) (o : ObjectValue) → FirstIn (file_rules f) None → Denotes f o → Never (misplaced_local o)
no_misplaced_local f o clean denotes x (i, within, (local, (k, lt, other)), here) =
    let (t, is) = symbol_at_position f o i denotes within in
    let (u, before) = symbol_at_position f o k denotes (omega arith) in
    let one : Some u ≡ Some t = sym before.table ∙ is.table in
    let same : u ≡ t = cc in
    let first = subst (λ (t : ℕ). IsSymbolOf f o k t) same before in
    let sound = subst (λ (table : Option ℕ). FirstIn (rules_of_symbols f table) None) is.table (symbols_sound f clean) in
    let there = is.there in
    let counted = length_symbols_of f t in
    locals_first f t (i + 1) (k + 1) (no_misplaced_binding f t sound) (omega arith) (omega arith) (sym (local_info f o i t is) ∙ local)
    (λ bound. other (local_info f o k t first ∙ bound))

-- The relocations of a table are denoted by its bytes.

denoted_is : (rela : Bool) (order : Order) (bytes : List ℕ) (j : ℕ) →
    table_relocation rela order bytes j ≡ relocation_denoted (relocation_in rela order bytes j)
unfolding table_relocation relocation_in
denoted_is true order bytes j = refl
denoted_is false order bytes j = refl

count_is : (rela : Bool) (bytes : List ℕ) → table_count rela bytes ≡ relocation_count rela bytes
count_is true bytes = refl
count_is false bytes = refl

each_denoted : (rela : Bool) (order : Order) (bytes js : List ℕ) →
    map (table_relocation rela order bytes) js ≡ map relocation_denoted (map (relocation_in rela order bytes) js)
each_denoted rela order bytes [] = refl
each_denoted rela order bytes (j ∷ js) = λ i. denoted_is rela order bytes j i ∷ each_denoted rela order bytes js i

pub relocations_denoted : (rela : Bool) (order : Order) (bytes : List ℕ) →
    table_relocations rela order bytes ≡ map relocation_denoted (relocations_in rela order bytes)
unfolding table_relocations relocations_in
relocations_denoted rela order bytes =
    ap (λ n. map (table_relocation rela order bytes) (range_with_len 0 n)) (count_is rela bytes)
    ∙ each_denoted rela order bytes (range_with_len 0 (relocation_count rela bytes))
