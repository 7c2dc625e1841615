-- What is written for an object is read back as that object.
use Rattle.std.proofs.Common.{◌≡◌, ◌<◌, ◌+◌, ℕ, zero, suc, List, [], ◌∷◌, length, map, get_or, refl, sym, ap, ap₂, ◌∙◌, arith, ◌≤◌, ◌*◌}
use Rattle.std.proofs.Common.{◌^◌, Bool, true, false, None, Some, subst, inl, inr, ◌-◌, ◌≢◌}
use Rattle.std.specs.List.{range_with_len, AllByRecursion, Any, flat_map}
use Rattle.std.specs.Prelude.{◌/◌, ◌%◌, if◌then◌else◌, ℤ, Option, bit_and, ◌==◌, pos, unwrap_or, drop}
use Rattle.std.proofs.lemmas.Bool.{cases_lt, le-ltb, lt-ltb, cases_eq, ne_eqb, le-leb}
use Rattle.std.proofs.lemmas.List.{get_or-map, length-map}
use Rattle.std.proofs.lemmas.List.Folds.{list_any_at}
use Rattle.elf_field.proofs.RecordTableLaws.{length-table, record_at}
use Rattle.elf_field.specs.Abi.{GRP_COMDAT, SHN_LORESERVE, SHF_INFO_LINK, SHT_GROUP, SHT_NOBITS, SHT_REL, SHT_RELA, SHN_ABS, SHN_COMMON}
use Rattle.elf_field.specs.Abi.{SHN_UNDEF, SHN_XINDEX}
use Rattle.elf_field.specs.Entries.{IsRel, IsRela, IsSym, IsWord, word_bytes}
use Rattle.elf_field.specs.laws.Entries.{rel_laws, rela_laws, sym_laws, word_laws}
use Rattle.elf_field.specs.declared.number.Order.{Order}
use Rattle.elf_field.specs.declared.rel.Rel.{Rel}
use Rattle.elf_field.specs.declared.rela.Rela.{Rela}
use Rattle.elf_field.specs.declared.shdr.Shdr.{Shdr}
use Rattle.elf_field.specs.declared.sym.Sym.{Sym}
use Rattle.elf_field.specs.Strings.{string}
use Rattle.elf_image_type.specs.WrittenFile.{long_number, short_index}
use Rattle.elf_object_file.proofs.WrittenFile.{own_content, written_name, written_order, indexes_content, name_read, strings_content}
use Rattle.elf_object_file.proofs.WrittenFile.{symbols_content, written_abi, written_flags, written_machine, written_osabi}
use Rattle.elf_object_file.proofs.WrittenSections.{written_kept, written_own, written_position, own_short, symbols_short}
use Rattle.elf_object_file.proofs.WrittenSections.{written_index_table, written_strings, written_symbol_table, strings_short}
use Rattle.elf_object_file.specs.ObjectFile.{IsWrittenAt, written_sections}
use Rattle.elf_object_reader.proofs.Public.{denoted_with, section_with, halves, same_symbol}
use Rattle.elf_object_layout.specs.SectionsLeftOut.{left_out}
use Rattle.elf_object_reader.specs.Denotes.{info_denoted, link_denoted, plain_info, section_reference, position_of, body_denoted}
use Rattle.elf_object_reader.specs.Denotes.{relocation_denoted, body_kind, section_denoted, kept, place_denoted, symbol_denoted}
use Rattle.elf_object_reader.specs.Denotes.{symbols_denoted, Denotes}
use Rattle.elf_object_reader.specs.declared.object_file.BodyKind.TheVariants.{Bits, NoBits, Relocs, Group}
use Rattle.elf_object_reader.specs.declared.object_file.BodyKind.{BodyKind}
use Rattle.elf_object_layout.specs.declared.left_out.LeftOut.{LeftOut}
use Rattle.elf_object_strings.proofs.Public.{holds_names}
use Rattle.elf_object_strings.specs.StringTable.{name_offset, string_table, HasNoZero}
use Rattle.elf_object_type.proofs.Public.{all_of_map, each_of_all, no_wrong_place, none_of_any, no_info, no_link, zero_addend}
use Rattle.elf_object_type.proofs.Public.{no_wrong_bits_type, no_wrong_field, no_wrong_position, no_zero_in_symbol_name}
use Rattle.elf_object_type.specs.Object.{ObjectValue, SymbolValue, no_relocation, no_symbol, symbol_at, IsPast, ObjectFits, RelocationFits}
use Rattle.elf_object_type.specs.Object.{SymbolFits, symbol_reference, BodyValue, bits, no_bits, relocs, group, SectionValue, info_position}
use Rattle.elf_object_type.specs.Object.{BodyFits, no_section, section_at, SectionFits}
use Rattle.elf_object_type.specs.ObjectRules.{IsObject, place_position, HasWrongField, IsAgainstFlag, HasWrongReference, IsWrongBitsType}
use Rattle.elf_object_type.specs.ObjectRules.{types_without_bits}
use Rattle.elf_object_type.specs.declared.parts.Info.{Info}
use Rattle.elf_object_type.specs.declared.parts.Place.TheVariants.{Undef, Abs, Common, In}
use Rattle.elf_object_type.specs.declared.parts.Place.{Place}
use Rattle.elf_object_type.specs.declared.relocations.Relocation.{Relocation}
use Rattle.elf_object_layout.proofs.Public.{length-relas, length-rels, length-symbol_table_section}
use Rattle.elf_object_layout.specs.Laid.{group_words, index_of, index_table_section, index_word, null_symbol, rel_entry, rela_entry}
use Rattle.elf_object_layout.specs.Laid.{relocation_bytes, relocation_info, shndx, symbol_entry, symbol_names, symbol_table_section}
use Rattle.elf_object_layout.specs.Laid.{body_info, body_link, own_info, body_bytes, body_space, body_type, relocation_section_type}
use Rattle.elf_object_layout.specs.Laid.{has_index_table, is_far, symbol_table_at}
use Rattle.elf_table_lists.specs.Groups.{group_flags, member, member_count, GroupValue, group_in, group_of, members_in}
use Rattle.elf_table_lists.specs.Relocations.{relocation_count, relocation_in, has_addends, relocations_in, relocations_of}
use Rattle.elf_table_symbols.specs.Sections.{Sections, content, order, section}
use Rattle.elf_table_symbols.specs.Symbols.{entry, entry_count, word, index_table, index_words, entry_binding, place_of, symbol_entry_in}
use Rattle.elf_table_symbols.specs.Symbols.{symbols_in, symbols_of}
use Rattle.elf_table_lists.specs.declared.relocations.Relocation as table
use Rattle.elf_object_type.specs.declared.parts.Info.TheVariants as info
use Rattle.elf_table_symbols.specs.Symbols as table_symbols
use Rattle.elf_object_layout.specs.SectionsLeftOut as left
use Rattle.elf_object_layout.specs.Laid as plain

-- A list is what is read of each of its elements, by index.

pub read_list : {A : Type 0} (read : ℕ → A) (a n : ℕ) (xs : List A) (d : A) → n ≡ length xs →
    ((i : ℕ) → i < length xs → read (a + i) ≡ get_or xs i d) →
    map read (range_with_len a n) ≡ xs
read_list read a zero [] d long each = refl
read_list read a (suc n) [] d long each = absurd (omega arith)
read_list read a zero (x ∷ xs) d long each = absurd (omega arith)
read_list read a (suc n) (x ∷ xs) d long each =
    let here : a + 0 ≡ a = omega arith in
    let next : (i : ℕ) → a + 1 + i ≡ a + suc i = λ i. omega arith in
    ap₂ (λ (y : _) (ys : List _). y ∷ ys) (sym (ap read here) ∙ each 0 (omega arith))
    (read_list read (a + 1) n xs d (omega arith) (λ i lt. ap read (next i) ∙ each (suc i) (omega arith)))

-- what is read and then viewed is read as it is viewed
pub map_twice : {A B : Type 0} (view : A → B) (read : ℕ → A) (is : List ℕ) → map view (map read is) ≡ map (λ i. view (read i)) is
map_twice view read [] = refl
map_twice view read (i ∷ is) = ap (λ (ys : List _). view (read i) ∷ ys) (map_twice view read is)

-- The tables of an object are read as what they were made of: symbols, index words, relocations and members. Each number fits its field, so
-- entry j of a table is read back as the record that was written (`record_at`). (gABI chapter 4: Symbol Table, Relocation, Section Groups;
-- Sections: SHT_SYMTAB_SHNDX.)

-- ---- numbers that fit

short_fits : (index : ℕ) → short_index index < 2 ^ 16
short_fits index = elim (cases_lt index SHN_LORESERVE) [
  | inl low ↦ rw (lt-ltb index SHN_LORESERVE low) (omega arith)
  | inr high ↦ rw (le-ltb index SHN_LORESERVE high) (omega arith)
]

long_fits : (number : ℕ) → number < 2 ^ 32 → long_number number < 2 ^ 32
long_fits number fits = elim (cases_lt number SHN_LORESERVE) [
  | inl low ↦ rw (lt-ltb number SHN_LORESERVE low) (omega arith)
  | inr high ↦ rw (le-ltb number SHN_LORESERVE high) fits
]

shndx_fits : (place : Place) → shndx place < 2 ^ 16
shndx_fits Undef = omega arith
shndx_fits Abs = omega arith
shndx_fits Common = omega arith
shndx_fits (In position) = short_fits (position + 1)

index_word_fits : (count : ℕ) (place : Place) → count < 2 ^ 30 → (IsPast count (place_position place) → ⊥) → index_word place < 2 ^ 32
index_word_fits count Undef few right = omega arith
index_word_fits count Abs few right = omega arith
index_word_fits count Common few right = omega arith
index_word_fits count (In position) few right = elim (cases_lt position count) [
  | inl there ↦ long_fits (position + 1) (omega arith)
  | inr past ↦ absurd (right past)
]

-- a symbol's name begins in the string table
pub name_within : (o : ObjectValue) (k : ℕ) → k < length o.symbols →
    name_offset (symbol_names o) (symbol_at o k).name < length (string_table (symbol_names o))
name_within o k lt =
    let names = symbol_names o in
    let many = length-map o.symbols (λ s. s.name) in
    let same : get_or names k [] ≡ (symbol_at o k).name = get_or-map (λ (s : SymbolValue). s.name) o.symbols k no_symbol [] lt in
    subst (λ (name : List ℕ). name_offset names name < length (string_table names)) same ((holds_names names).within k (omega arith))

-- ---- the symbol table

module _ (o : ObjectValue) (widths : ObjectFits o) (strings_short : length (string_table (symbol_names o)) < 2 ^ 32) where
  symbol_fits : (k : ℕ) → k < length o.symbols → IsSym (symbol_entry o (symbol_at o k))
  symbol_fits k lt =
      let fits = each_of_all SymbolFits o.symbols no_symbol widths.symbols k lt in
      let within = name_within o k lt in
      record {
        st_name = omega arith;
        st_info = fits.info;
        st_other = fits.other;
        st_shndx = shndx_fits (symbol_at o k).place;
        st_value = fits.value;
        st_size = fits.size;
      }

  null_fits : IsSym null_symbol
  null_fits = record {
    st_name = omega arith;
    st_info = omega arith;
    st_other = omega arith;
    st_shndx = omega arith;
    st_value = omega arith;
    st_size =
        omega arith;
  }

  -- entry j, with the null symbol as entry 0
  entry_read : (j : ℕ) → j < length o.symbols + 1 →
      entry o.order (symbol_table_section o).content j ≡ get_or (null_symbol ∷ map (symbol_entry o) o.symbols) j null_symbol
  unfolding entry
  entry_read j lt =
      let many = length-map o.symbols (symbol_entry o) in
      let all = all_of_map IsSym (symbol_entry o) o.symbols no_symbol null_symbol symbol_fits in
      record_at sym_laws o.order (null_symbol ∷ map (symbol_entry o) o.symbols) j null_symbol (null_fits, all) (omega arith)

  pub null_entry : entry o.order (symbol_table_section o).content 0 ≡ null_symbol
  null_entry = entry_read 0 (omega arith)

  pub symbol_entry_read : (k : ℕ) → k < length o.symbols →
      entry o.order (symbol_table_section o).content (suc k) ≡ symbol_entry o (symbol_at o k)
  symbol_entry_read k lt = entry_read (suc k) (omega arith) ∙ get_or-map (symbol_entry o) o.symbols k no_symbol null_symbol lt

pub symbol_entry_count : (o : ObjectValue) → entry_count (symbol_table_section o).content ≡ length o.symbols + 1
symbol_entry_count o = let long = length-symbol_table_section o in omega arith

-- ---- its index table

module _ (o : ObjectValue) (sound : IsObject o) (few : length o.sections < 2 ^ 30) where
  word_fits : (k : ℕ) → k < length o.symbols → IsWord (index_word (symbol_at o k).place)
  word_fits k lt = index_word_fits (length o.sections) (symbol_at o k).place few (no_wrong_place o sound k lt)

  word_read : (j : ℕ) → j < length o.symbols + 1 →
      word o.order (index_table_section o).content j ≡ get_or (0 ∷ map (λ s. index_word s.place) o.symbols) j 0
  unfolding word
  word_read j lt =
      let of_symbol = λ (s : SymbolValue). index_word s.place in
      let many = length-map o.symbols of_symbol in
      let all = all_of_map IsWord of_symbol o.symbols no_symbol 0 word_fits in
      record_at word_laws o.order (0 ∷ map of_symbol o.symbols) j 0 (omega arith, all) (omega arith)

  pub null_word : word o.order (index_table_section o).content 0 ≡ 0
  null_word = word_read 0 (omega arith)

  pub symbol_word : (k : ℕ) → k < length o.symbols → word o.order (index_table_section o).content (suc k) ≡ index_word (symbol_at o k).place
  symbol_word k lt = word_read (suc k) (omega arith) ∙ get_or-map (λ (s : SymbolValue). index_word s.place) o.symbols k no_symbol 0 lt

-- ---- relocations

pub relocation_count_is : (rela : Bool) (order : Order) (entries : List Relocation) →
    relocation_count rela (relocation_bytes order rela entries) ≡ length entries
relocation_count_is true order entries = let long = length-relas order entries in omega arith
relocation_count_is false order entries = let long = length-rels order entries in omega arith

-- as the table has it: symbols by their indexes
abbrev pub table_relocation : Bool → Relocation → table.Relocation
table_relocation rela r =
    record { offset = r.offset; symbol = index_of r.symbol; relocation_type = r.kind; addend = if rela then Some r.addend else None }

index_fits : (count : ℕ) (symbol : Option ℕ) → count < 2 ^ 30 → (IsPast count symbol → ⊥) → index_of symbol < 2 ^ 32
index_fits count None few right = omega arith
index_fits count (Some position) few right = elim (cases_lt position count) [ inl there ↦ omega arith | inr past ↦ absurd (right past) ]

-- each relocation fits, and none names a symbol that isn't there
pub record AreRelocations (count : ℕ) (entries : List Relocation) : Type 0 where
  pub few : count < 2 ^ 30
  pub fit : AllByRecursion RelocationFits entries
  pub there : Any (λ entry. IsPast count entry.symbol) entries → ⊥

module _ (count : ℕ) (entries : List Relocation) (are : AreRelocations count entries) where
  index_at_fits : (j : ℕ) → j < length entries → index_of (get_or entries j no_relocation).symbol < 2 ^ 32
  index_at_fits j lt =
      let r = get_or entries j no_relocation in
      index_fits count r.symbol are.few
      (none_of_any (λ (entry : Relocation). IsPast count entry.symbol) entries no_relocation are.there j lt)

  rela_fits : (j : ℕ) → j < length entries → IsRela (rela_entry (get_or entries j no_relocation))
  rela_fits j lt =
      let fits = each_of_all RelocationFits entries no_relocation are.fit j lt in
      let index = index_at_fits j lt in
      let kind = fits.kind in
      record { r_offset = fits.offset; r_info = omega arith; r_addend = fits.addend }

  rel_fits : (j : ℕ) → j < length entries → IsRel (rel_entry (get_or entries j no_relocation))
  rel_fits j lt =
      let fits = each_of_all RelocationFits entries no_relocation are.fit j lt in
      let index = index_at_fits j lt in
      let kind = fits.kind in
      record { r_offset = fits.offset; r_info = omega arith }

-- the two halves of r_info
symbol_half : (index kind : ℕ) → kind < 2 ^ 32 → (index * 2 ^ 32 + kind) / 2 ^ 32 ≡ index
symbol_half index kind fits = omega arith

type_half : (index kind : ℕ) → kind < 2 ^ 32 → (index * 2 ^ 32 + kind) % 2 ^ 32 ≡ kind
type_half index kind fits = omega arith

abbrev of_halves : ℕ → Option ℤ → ℕ → ℕ → table.Relocation
of_halves offset addend symbol type = record { offset = offset; symbol = symbol; relocation_type = type; addend = addend }

same_halves : (r : Relocation) (addend : Option ℤ) → r.kind < 2 ^ 32 →
    of_halves r.offset addend (relocation_info r / 2 ^ 32) (relocation_info r % 2 ^ 32) ≡
    of_halves r.offset addend (index_of r.symbol) r.kind
same_halves r addend fits =
    ap₂ (of_halves r.offset addend) (symbol_half (index_of r.symbol) r.kind fits) (type_half (index_of r.symbol) r.kind fits)

pub relocation_read : (count : ℕ) (rela : Bool) (order : Order) (entries : List Relocation) → AreRelocations count entries → (j : ℕ) →
    j < length entries →
    relocation_in rela order (relocation_bytes order rela entries) j ≡ table_relocation rela (get_or entries j no_relocation)
unfolding relocation_in
relocation_read count true order entries are j lt =
    let r = get_or entries j no_relocation in
    let many = length-map entries rela_entry in
    let all = all_of_map IsRela rela_entry entries no_relocation (rela_entry no_relocation) (rela_fits count entries are) in
    let read = record_at rela_laws order (map rela_entry entries) j (rela_entry no_relocation) all (omega arith) ∙
    get_or-map rela_entry entries j no_relocation (rela_entry no_relocation) lt in
    ap (λ (e : Rela). of_halves e.r_offset (Some e.r_addend) (e.r_info / 2 ^ 32) (e.r_info % 2 ^ 32)) read
    ∙ same_halves r (Some r.addend) (each_of_all RelocationFits entries no_relocation are.fit j lt).kind
relocation_read count false order entries are j lt =
    let r = get_or entries j no_relocation in
    let many = length-map entries rel_entry in
    let all = all_of_map IsRel rel_entry entries no_relocation (rel_entry no_relocation) (rel_fits count entries are) in
    let read = record_at rel_laws order (map rel_entry entries) j (rel_entry no_relocation) all (omega arith) ∙
    get_or-map rel_entry entries j no_relocation (rel_entry no_relocation) lt in
    ap (λ (e : Rel). of_halves e.r_offset None (e.r_info / 2 ^ 32) (e.r_info % 2 ^ 32)) read
    ∙ same_halves r None (each_of_all RelocationFits entries no_relocation are.fit j lt).kind

-- ---- groups

pub length-group_words : (order : Order) (comdat : Bool) (members : List ℕ) →
    length (flat_map (word_bytes order) (group_words comdat members)) ≡ 4 * (length members + 1)
length-group_words order comdat members =
    let long = length-table word_laws order (group_words comdat members) in
    let many = length-map members (λ (m : ℕ). m + 1) in
    omega arith

pub member_count_is : (order : Order) (comdat : Bool) (members : List ℕ) →
    member_count (flat_map (word_bytes order) (group_words comdat members)) ≡ length members
member_count_is order comdat members = let long = length-group_words order comdat members in omega arith

abbrev pub flags_word : Bool → ℕ
flags_word comdat = if comdat then GRP_COMDAT else 0

flags_fit : (comdat : Bool) → flags_word comdat < 2 ^ 32
flags_fit true = omega arith
flags_fit false = omega arith

module _ (count : ℕ) (order : Order) (comdat : Bool) (members : List ℕ) (few : count < 2 ^ 30)
    (there : Any (λ member. count ≤ member) members → ⊥) where
  -- each member is the position of a section that is there
  pub member_below : (j : ℕ) → j < length members → get_or members j 0 < count
  member_below j lt = elim (cases_lt (get_or members j 0) count) [
    | inl below ↦ below
    | inr past ↦ absurd (none_of_any (λ (member : ℕ). count ≤ member) members 0 there j lt past)
  ]

  member_fits : (j : ℕ) → j < length members → IsWord (get_or members j 0 + 1)
  member_fits j lt = let below = member_below j lt in omega arith

  group_word_read : (j : ℕ) → j < length members + 1 →
      word order (flat_map (word_bytes order) (group_words comdat members)) j ≡ get_or (group_words comdat members) j 0
  unfolding word
  group_word_read j lt =
      let many = length-map members (λ (m : ℕ). m + 1) in
      let all = all_of_map IsWord (λ (m : ℕ). m + 1) members 0 0 member_fits in
      record_at word_laws order (group_words comdat members) j 0 (flags_fit comdat, all) (omega arith)

  pub group_flags_read : group_flags order (flat_map (word_bytes order) (group_words comdat members)) ≡ flags_word comdat
  group_flags_read = group_word_read 0 (omega arith)

  pub member_read : (j : ℕ) → j < length members →
      member order (flat_map (word_bytes order) (group_words comdat members)) j ≡ get_or members j 0 + 1
  member_read j lt =
      let next : j + 1 ≡ suc j = omega arith in
      ap (word order (flat_map (word_bytes order) (group_words comdat members))) next ∙ group_word_read (suc j) (omega arith)
      ∙ get_or-map (λ (m : ℕ). m + 1) members j 0 0 lt

-- The references of an object that is written are read back: to sections, to symbols, and link and info of a section. An index is a
-- position plus one, so reading it back gives the position, and index 0 gives none. Link and info go by the kind of body and need rule 5 of
-- objects.

-- section p + 1 of the file is at position p
abbrev pub HasPositions : ObjectValue → LeftOut → Sections → Type 0
HasPositions o left f = (p : ℕ) → p < length o.sections → position_of left f (suc p) ≡ p

pub position_back : (o : ObjectValue) (left : LeftOut) (f : Sections) (p : ℕ) → HasPositions o left f → (length o.sections ≤ p → ⊥) →
    position_of left f (p + 1) ≡ p
position_back o left f p positions there = elim (cases_lt p (length o.sections)) [
  | inl below ↦ (let next : p + 1 ≡ suc p = omega arith in ap (position_of left f) next ∙ positions p below)
  | inr past ↦ absurd (there past)
]

pub reference_back : (o : ObjectValue) (left : LeftOut) (f : Sections) (link : Option ℕ) → HasPositions o left f →
    (IsPast (length o.sections) link → ⊥) →
    section_reference left f (index_of link) ≡ link
reference_back o left f None positions there = refl
reference_back o left f (Some p) positions there =
    rw (ne_eqb (p + 1) 0 (λ same. omega arith)) (ap (λ (q : ℕ). Some q) (position_back o left f p positions there))

pub symbol_back : (symbol : Option ℕ) → symbol_reference (index_of symbol) ≡ symbol
symbol_back None = refl
symbol_back (Some k) =
    let same : k + 1 - 1 ≡ k = omega arith in
    rw (ne_eqb (k + 1) 0 (λ is. omega arith)) (ap (λ (j : ℕ). Some j) same)

-- ---- a section's link and info

-- what the section with this body is read as
abbrev pub kind_of_body : BodyValue → BodyKind
kind_of_body (bits type content) = Bits
kind_of_body (no_bits size) = NoBits
kind_of_body (relocs rela target entries) = Relocs
kind_of_body (group comdat signature members) = Group

pub link_back : (o : ObjectValue) (left : LeftOut) (f : Sections) (s : SectionValue) (h : Shdr) (b : BodyValue) → HasPositions o left f →
    (IsPast (length o.sections) s.link → ⊥) → (HasWrongField s b → ⊥) → h.sh_link ≡ body_link o s b →
    link_denoted left f h (kind_of_body b) ≡ s.link
link_back o left f s h (bits type content) positions there right is =
    ap (section_reference left f) is ∙ reference_back o left f s.link positions there
link_back o left f s h (no_bits size) positions there right is =
    ap (section_reference left f) is ∙ reference_back o left f s.link positions there
link_back o left f s h (relocs rela target entries) positions there right is = no_link s.link (λ other. right (inl (inl other)))
link_back o left f s h (group comdat signature members) positions there right is = no_link s.link (λ other. right (inl (inl other)))

plain_info_back : (o : ObjectValue) (left : LeftOut) (f : Sections) (h : Shdr) (flags : ℕ) (own : Info) → HasPositions o left f →
    (IsPast (length o.sections) (info_position own) → ⊥) → (IsAgainstFlag flags own → ⊥) → h.sh_flags ≡ flags → h.sh_info ≡ own_info own →
    plain_info left f h ≡ own
plain_info_back o left f h flags (info.Number number) positions there right is_flags is = elim (cases_eq (bit_and flags SHF_INFO_LINK) 0) [
  | inl none ↦ rw (is_flags, none) (ap (λ (n : ℕ). info.Number n) is)
  | inr has ↦ absurd (right has)
]
plain_info_back o left f h flags (info.Section p) positions there right is_flags is = elim (cases_eq (bit_and flags SHF_INFO_LINK) 0) [
  | inl none ↦ absurd (right none)
  | inr has ↦ rw (is_flags, ne_eqb (bit_and flags SHF_INFO_LINK) 0 has)
      (ap (λ (k : ℕ). info.Section (position_of left f k)) is ∙ ap (λ (q : ℕ). info.Section q) (position_back o left f p positions there))
]

pub info_back : (o : ObjectValue) (left : LeftOut) (f : Sections) (s : SectionValue) (h : Shdr) (b : BodyValue) → HasPositions o left f →
    (IsPast (length o.sections) (info_position s.info) → ⊥) → (HasWrongField s b → ⊥) → h.sh_flags ≡ s.flags → h.sh_info ≡ body_info s b →
    info_denoted left f h (kind_of_body b) ≡ s.info
info_back o left f s h (bits type content) positions there right flags is =
    plain_info_back o left f h s.flags s.info positions there right flags is
info_back o left f s h (no_bits size) positions there right flags is =
    plain_info_back o left f h s.flags s.info positions there right flags is
info_back o left f s h (relocs rela target entries) positions there right flags is = no_info s.info (λ other. right (inl (inr other)))
info_back o left f s h (group comdat signature members) positions there right flags is = no_info s.info (λ other. right (inl (inr other)))

-- The body of a section of an object that is written is read back as itself. This needs an object that breaks no rule and has few sections
-- and symbols (`IsBody`). By cases on the body (`body_back`): an entry is read from its own place in the table, and its index leads back to
-- the position.

-- ---- relocations

addend_back : (rela : Bool) (addend : ℤ) → (rela ≡ false → addend ≢ pos 0 → ⊥) →
    unwrap_or (if rela then Some addend else None) (pos 0) ≡ addend
addend_back true addend zeros = refl
addend_back false addend zeros = zero_addend addend (zeros refl)

relocation_back : (rela : Bool) (r : Relocation) → (rela ≡ false → r.addend ≢ pos 0 → ⊥) → relocation_denoted (table_relocation rela r) ≡ r
relocation_back rela r zeros =
    ap₂ (λ (s : Option ℕ) (a : ℤ). let x : Relocation = record { offset = r.offset; symbol = s; kind = r.kind; addend = a } in x)
    (symbol_back r.symbol) (addend_back rela r.addend zeros)

relocations_back : (count : ℕ) (rela : Bool) (named : Order) (entries : List Relocation) → AreRelocations count entries →
    (rela ≡ false → Any (λ entry. entry.addend ≢ pos 0) entries → ⊥) →
    map relocation_denoted (relocations_in rela named (relocation_bytes named rela entries)) ≡ entries
unfolding relocations_in
relocations_back count rela named entries are zeros =
    let bytes = relocation_bytes named rela entries in
    map_twice relocation_denoted (relocation_in rela named bytes) (range_with_len 0 (relocation_count rela bytes))
    ∙ read_list (λ (j : ℕ). relocation_denoted (relocation_in rela named bytes j)) 0 (relocation_count rela bytes) entries no_relocation
    (relocation_count_is rela named entries) (each count rela named entries are zeros)
  where
    each : (count : ℕ) (rela : Bool) (named : Order) (entries : List Relocation) → AreRelocations count entries →
        (rela ≡ false → Any (λ entry. entry.addend ≢ pos 0) entries → ⊥) → (i : ℕ) → i < length entries →
        relocation_denoted (relocation_in rela named (relocation_bytes named rela entries) (0 + i)) ≡ get_or entries i no_relocation
    each count rela named entries are zeros i lt =
        let at : 0 + i ≡ i = omega arith in
        ap (λ (j : ℕ). relocation_denoted (relocation_in rela named (relocation_bytes named rela entries) j)) at
        ∙ ap relocation_denoted (relocation_read count rela named entries are i lt)
        ∙ relocation_back rela (get_or entries i no_relocation)
        (λ rel other. none_of_any (λ (entry : Relocation). entry.addend ≢ pos 0) entries no_relocation (zeros rel) i lt other)

-- ---- groups

flag_back : (comdat : Bool) → (flags_word comdat == GRP_COMDAT) ≡ comdat
flag_back true = refl
flag_back false = refl

members_back : (o : ObjectValue) (left : LeftOut) (f : Sections) (named : Order) (comdat : Bool) (members : List ℕ) →
    HasPositions o left f → length o.sections < 2 ^ 30 →
    (Any (λ member. length o.sections ≤ member) members → ⊥) →
    map (position_of left f) (members_in named (body_bytes named (group comdat 0 members))) ≡ members
unfolding members_in
members_back o left f named comdat members positions few there =
    let bytes = body_bytes named (group comdat 0 members) in
    map_twice (position_of left f) (member named bytes) (range_with_len 0 (member_count bytes))
    ∙ read_list (λ (j : ℕ). position_of left f (member named bytes j)) 0 (member_count bytes) members 0
    (member_count_is named comdat members) (λ i lt. (
    let at : 0 + i ≡ i = omega arith in
    let below = member_below (length o.sections) named comdat members few there i lt in
    ap (λ (j : ℕ). position_of left f (member named bytes j)) at
    ∙ ap (position_of left f) (member_read (length o.sections) named comdat members few there i lt)
    ∙ position_back o left f (get_or members i 0) positions (λ past. omega arith)))

-- ---- each body

-- a type that goes with bits is that of no other body
not_among : (type : ℕ) (bytes : List ℕ) (k other : ℕ) → (IsWrongBitsType (bits type bytes) → ⊥) → k < 11 →
    get_or types_without_bits k type ≡ other → type ≢ other
not_among type bytes k other right lt at = λ same. right (k, lt, at ∙ sym same)

pub kind_back : (b : BodyValue) → (IsWrongBitsType b → ⊥) → body_kind (body_type b) ≡ kind_of_body b
kind_back (bits type bytes) right =
    rw (
      ne_eqb type SHT_NOBITS (not_among type bytes 5 SHT_NOBITS right (omega arith) refl),
      ne_eqb type SHT_RELA (not_among type bytes 2 SHT_RELA right (omega arith) refl),
      ne_eqb type SHT_REL (not_among type bytes 6 SHT_REL right (omega arith) refl),
      ne_eqb type SHT_GROUP (not_among type bytes 9 SHT_GROUP right (omega arith) refl),
    ) refl
kind_back (no_bits size) right = refl
kind_back (relocs true target entries) right = refl
kind_back (relocs false target entries) right = refl
kind_back (group comdat signature members) right = refl

addends_back : (rela : Bool) → has_addends (relocation_section_type rela) ≡ rela
addends_back true = refl
addends_back false = refl

-- what is known of the file's section i that holds the body b
pub record HoldsBody (o : ObjectValue) (f : Sections) (i : ℕ) (s : SectionValue) (b : BodyValue) : Type 0 where
  pub type : (section f i).sh_type ≡ body_type b
  pub size : (section f i).sh_size ≡ (if body_type b == SHT_NOBITS then body_space b else length (body_bytes o.order b))
  pub info : (section f i).sh_info ≡ body_info s b
  pub content : content f i ≡ body_bytes o.order b
  pub order : order f ≡ o.order

-- and of the body, in an object that breaks no rule and is not too long
pub record IsBody (o : ObjectValue) (s : SectionValue) (b : BodyValue) : Type 0 where
  pub fits : BodyFits b
  pub references : HasWrongReference o b → ⊥
  pub fields : HasWrongField s b → ⊥
  pub few_sections : length o.sections < 2 ^ 30
  pub few_symbols : length o.symbols < 2 ^ 30

relocations_of_body : (o : ObjectValue) (f : Sections) (i : ℕ) (s : SectionValue) (rela : Bool) (target : ℕ) (entries : List Relocation) →
    HoldsBody o f i s (relocs rela target entries) →
    relocations_of f i ≡ relocations_in rela o.order (relocation_bytes o.order rela entries)
unfolding relocations_of
relocations_of_body o f i s rela target entries holds =
    ap (λ (addends : Bool). relocations_in addends (order f) (content f i)) (ap has_addends holds.type ∙ addends_back rela)
    ∙ ap₂ (relocations_in rela) holds.order holds.content

group_of_body : (o : ObjectValue) (f : Sections) (i : ℕ) (s : SectionValue) (comdat : Bool) (signature : ℕ) (members : List ℕ) →
    HoldsBody o f i s (group comdat signature members) →
    group_of f i ≡ group_in o.order (signature + 1) (body_bytes o.order (group comdat 0 members))
unfolding group_of
group_of_body o f i s comdat signature members holds =
    ap (λ (named : Order). group_in named (section f i).sh_info (content f i)) holds.order ∙ ap₂ (group_in o.order) holds.info holds.content

pub body_back : (o : ObjectValue) (left : LeftOut) (f : Sections) (i : ℕ) (s : SectionValue) (b : BodyValue) → HasPositions o left f →
    HoldsBody o f i s b → IsBody o s b →
    body_denoted left f i (kind_of_body b) ≡ b
body_back o left f i s (bits type bytes) positions holds is = ap₂ bits holds.type holds.content
body_back o left f i s (no_bits size) positions holds is = ap no_bits holds.size
body_back o left f i s (relocs rela target entries) positions holds is =
    let are : AreRelocations (length o.symbols) entries =
    record { few = is.few_symbols; fit = is.fits; there = λ past. is.references (inr past) } in
    let back = relocations_back (length o.symbols) rela o.order entries are (λ rel some. is.fields (inr (inr (rel, some)))) in
    ap (λ (addends : Bool). relocs addends (position_of left f (section f i).sh_info) (map relocation_denoted (relocations_of f i)))
    (ap has_addends holds.type ∙ addends_back rela)
    ∙ ap₂ (relocs rela)
    (ap (position_of left f) holds.info ∙ position_back o left f target positions (λ past. is.references (inl (inl past))))
    (ap (map relocation_denoted) (relocations_of_body o f i s rela target entries holds) ∙ back)
body_back o left f i s (group comdat signature members) positions holds is =
    let there : Any (λ member. length o.sections ≤ member) members → ⊥ = λ past. is.references (inr past) in
    let bytes = body_bytes o.order (group comdat 0 members) in
    let same : signature + 1 - 1 ≡ signature = omega arith in
    let flags = group_flags_read (length o.sections) o.order comdat members is.few_sections there in
    ap (λ (g : GroupValue). group (g.flags == GRP_COMDAT) (g.signature - 1) (map (position_of left f) g.members))
    (group_of_body o f i s comdat signature members holds)
    ∙ ap (λ (word : ℕ). group (word == GRP_COMDAT) (signature + 1 - 1) (map (position_of left f) (members_in o.order bytes))) flags
    ∙ ap₂ (λ (c : Bool) (k : ℕ). group c k (map (position_of left f) (members_in o.order bytes))) (flag_back comdat) same
    ∙ ap (group comdat signature) (members_back o left f o.order comdat members positions is.few_sections there)

-- An own section of an object that is written is read back as itself: name, flags, address, alignment and entry size are in its header,
-- link and info lead back to positions, and the body is read back (`WrittenBodies`).

-- a section of these fields
abbrev made : List ℕ → ℕ → ℕ → ℕ → ℕ → Option ℕ → Info → BodyValue → SectionValue
made name flags addr align entsize link info body =
    record { name = name; flags = flags; addr = addr; align = align; entsize = entsize; link = link; info = info; body = body }

-- sections are the same where their fields are
same_section : (a b : SectionValue) → a.name ≡ b.name → a.flags ≡ b.flags → a.addr ≡ b.addr → a.align ≡ b.align → a.entsize ≡ b.entsize →
    a.link ≡ b.link → a.info ≡ b.info → a.body ≡ b.body → a ≡ b
same_section a b name flags addr align entsize link info body =
    ap (λ (x : List ℕ). made x a.flags a.addr a.align a.entsize a.link a.info a.body) name
    ∙ ap (λ (x : ℕ). made b.name x a.addr a.align a.entsize a.link a.info a.body) flags
    ∙ ap (λ (x : ℕ). made b.name b.flags x a.align a.entsize a.link a.info a.body) addr
    ∙ ap (λ (x : ℕ). made b.name b.flags b.addr x a.entsize a.link a.info a.body) align
    ∙ ap (λ (x : ℕ). made b.name b.flags b.addr b.align x a.link a.info a.body) entsize
    ∙ ap (λ (x : Option ℕ). made b.name b.flags b.addr b.align b.entsize x a.info a.body) link
    ∙ ap (λ (x : Info). made b.name b.flags b.addr b.align b.entsize b.link x a.body) info
    ∙ ap (λ (x : BodyValue). made b.name b.flags b.addr b.align b.entsize b.link b.info x) body

module _ (o : ObjectValue) (places : List ℕ) (written : IsWrittenAt o places) where
  positions : HasPositions o (left_out (written_sections o places)) (written_sections o places)
  positions p lt = written_position o places written p (omega arith)

  holds_body : (p : ℕ) → p < length o.sections → HoldsBody o (written_sections o places) (suc p) (section_at o p) (section_at o p).body
  holds_body p lt =
      let own = written_own o places written p lt in
      record {
        type = ap (λ (h : Shdr). h.sh_type) own;
        size = ap (λ (h : Shdr). h.sh_size) own;
        info = ap (λ (h : Shdr). h.sh_info) own;
        content = own_content o places p lt;
        order = written_order o places;
      }

  is_body : (p : ℕ) → p < length o.sections → IsBody o (section_at o p) (section_at o p).body
  is_body p lt =
      let fits = each_of_all SectionFits o.sections no_section written.widths.sections p lt in
      let sections = own_short o places written in
      let symbols = symbols_short o places written in
      record {
        fits = fits.body;
        references = λ broken. no_wrong_position o written.object p lt (inr (inr broken));
        fields = no_wrong_field o written.object p lt;
        few_sections = omega arith;
        few_symbols = omega arith;
      }

  pub own_back : (p : ℕ) → p < length o.sections →
      (let f = written_sections o places in section_denoted (left_out f) f (suc p) ≡ section_at o p)
  own_back p lt =
      let f = written_sections o places in
      let left = left_out f in
      let s = section_at o p in
      let own = written_own o places written p lt in
      let kind : body_kind (section f (suc p)).sh_type ≡ kind_of_body s.body =
      ap (λ (h : Shdr). body_kind h.sh_type) own ∙ kind_back s.body (no_wrong_bits_type o written.object p lt) in
      let fields = no_wrong_field o written.object p lt in
      let position = no_wrong_position o written.object p lt in
      denoted_with left f (suc p)
      ∙ ap (section_with left f (suc p)) kind
      ∙ same_section (section_with left f (suc p) (kind_of_body s.body)) s
      (written_name o places written p lt)
      (ap (λ (h : Shdr). h.sh_flags) own) (ap (λ (h : Shdr). h.sh_addr) own) (ap (λ (h : Shdr). h.sh_addralign) own)
      (ap (λ (h : Shdr). h.sh_entsize) own)
      (link_back o left f s (section f (suc p)) s.body positions (λ past. position (inl past)) fields (ap (λ (h : Shdr). h.sh_link) own))
      (info_back o left f s (section f (suc p)) s.body positions (λ past. position (inr (inl past))) fields
      (ap (λ (h : Shdr). h.sh_flags) own) (ap (λ (h : Shdr). h.sh_info) own))
      (body_back o left f (suc p) s s.body positions (holds_body p lt) (is_body p lt))

  -- so are all of them
  pub sections_back : (let f = written_sections o places in map (section_denoted (left_out f) f) (kept (left_out f) f) ≡ o.sections)
  sections_back =
      let f = written_sections o places in
      ap (map (section_denoted (left_out f) f)) (written_kept o places written)
      ∙ read_list (section_denoted (left_out f) f) 1 (length o.sections) o.sections no_section refl
      (λ p lt. (let next : 1 + p ≡ suc p = omega arith in ap (section_denoted (left_out f) f) next ∙ own_back p lt))

-- The symbols of an object that is written are read back as themselves: symbol q is entry q + 1, its name is in the string table, and its
-- place comes from st_shndx or from the index table.

-- ---- where a symbol is defined

-- in a section whose index st_shndx holds, or in one whose index is in the index table
in_section : (o : ObjectValue) (left : LeftOut) (f : Sections) (p word : ℕ) → HasPositions o left f → (length o.sections ≤ p → ⊥) →
    (SHN_LORESERVE ≤ p + 1 → word ≡ long_number (p + 1)) → place_denoted left f (place_of (short_index (p + 1)) word) ≡ In p
in_section o left f p word positions there extended = elim (cases_lt (p + 1) SHN_LORESERVE) [
  | inl below ↦ rw (
    lt-ltb (p + 1) SHN_LORESERVE below,
    ne_eqb (p + 1) SHN_UNDEF (λ same. omega arith),
    ne_eqb (p + 1) SHN_ABS (λ same. omega arith),
    ne_eqb (p + 1) SHN_COMMON (λ same. omega arith),
    ne_eqb (p + 1) SHN_XINDEX (λ same. omega arith),
    lt-ltb (p + 1) SHN_LORESERVE below,
  )
      (ap (λ (q : ℕ). In q) (position_back o left f p positions there))
  | inr above ↦ rw (le-ltb (p + 1) SHN_LORESERVE above)
      (ap (λ (k : ℕ). In (position_of left f k)) (extended above ∙ rw (le-ltb (p + 1) SHN_LORESERVE above) refl)
      ∙ ap (λ (q : ℕ). In q) (position_back o left f p positions there))
]

place_back : (o : ObjectValue) (left : LeftOut) (f : Sections) (place : Place) (word : ℕ) → HasPositions o left f →
    (IsPast (length o.sections) (place_position place) → ⊥) →
    (is_far place ≡ true → word ≡ index_word place) → place_denoted left f (place_of (shndx place) word) ≡ place
place_back o left f Undef word positions there extended = refl
place_back o left f Abs word positions there extended = refl
place_back o left f Common word positions there extended = refl
place_back o left f (In p) word positions there extended =
    in_section o left f p word positions there (λ above. extended (le-leb SHN_LORESERVE (p + 1) above))

-- ---- each symbol

name_back : (o : ObjectValue) (k : ℕ) → k < length o.symbols → HasNoZero (symbol_at o k).name →
    string (string_table (symbol_names o)) (name_offset (symbol_names o) (symbol_at o k).name) ≡ (symbol_at o k).name
name_back o k lt named =
    let many = length-map o.symbols (λ (s : SymbolValue). s.name) in
    let same = get_or-map (λ (s : SymbolValue). s.name) o.symbols k no_symbol [] lt in
    name_read (symbol_names o) k (symbol_at o k).name (omega arith) same named

-- what is read of an entry
abbrev symbol_of : List ℕ → ℕ → Sym → table_symbols.SymbolEntryValue
symbol_of names word e = record {
  name = string names e.st_name;
  binding = entry_binding e;
  symbol_type = e.st_info % 16;
  other = e.st_other;
  place = place_of e.st_shndx word;
  value = e.st_value;
  size = e.st_size;
}

entry_back : (o : ObjectValue) (left : LeftOut) (f : Sections) (k word : ℕ) → IsObject o → k < length o.symbols → HasPositions o left f →
    (is_far (symbol_at o k).place ≡ true → word ≡ index_word (symbol_at o k).place) →
    symbol_denoted left f (symbol_of (string_table (symbol_names o)) word (symbol_entry o (symbol_at o k))) ≡ symbol_at o k
entry_back o left f k word sound lt positions extended =
    let s = symbol_at o k in
    same_symbol (symbol_denoted left f (symbol_of (string_table (symbol_names o)) word (symbol_entry o s))) s
    (name_back o k lt (no_zero_in_symbol_name o sound k lt)) (halves s.info) refl
    (place_back o left f s.place word positions (no_wrong_place o sound k lt) extended) refl refl

-- ---- the words of the index table

-- where a symbol is far, there is an index table
far_symbol : (o : ObjectValue) (k : ℕ) → k < length o.symbols → is_far (symbol_at o k).place ≡ true → has_index_table o ≡ true
far_symbol o k lt is = list_any_at (λ (s : SymbolValue). is_far s.place) o.symbols k no_symbol lt is

module _ (o : ObjectValue) (places : List ℕ) (written : IsWrittenAt o places) where
  words : List ℕ
  words = index_words (written_sections o places) (index_table (written_sections o places) (symbol_table_at o))

  words_are : has_index_table o ≡ true → words ≡ (plain.index_table_section o).content
  unfolding words
  words_are is =
      let f = written_sections o places in
      let there : index_table f (symbol_table_at o) ≡ Some (symbol_table_at o + 1) =
      written_index_table o places written ∙ ap (λ (far : Bool). if far then Some (symbol_table_at o + 1) else None) is in
      ap (index_words f) there ∙ indexes_content o places is

  word_back : (k : ℕ) → k < length o.symbols → is_far (symbol_at o k).place ≡ true →
      word o.order words (suc k) ≡ index_word (symbol_at o k).place
  word_back k lt is =
      let few = own_short o places written in
      ap (λ (ws : List ℕ). word o.order ws (suc k)) (words_are (far_symbol o k lt is)) ∙ symbol_word o written.object (omega arith) k lt

  -- ---- all symbols

  symbol_at_back : (k : ℕ) → k < length o.symbols →
      (let f = written_sections o places in
      symbol_denoted (left_out f) f
      (symbol_entry_in o.order (plain.symbol_table_section o).content (string_table (symbol_names o)) words (suc k)) ≡ symbol_at o k)
  unfolding symbol_entry_in
  symbol_at_back k lt =
      let f = written_sections o places in
      let strings = strings_short o places written in
      ap (λ (e : Sym). symbol_denoted (left_out f) f (symbol_of (string_table (symbol_names o)) (word o.order words (suc k)) e))
      (symbol_entry_read o written.widths (omega arith) k lt)
      ∙ entry_back o (left_out f) f k (word o.order words (suc k)) written.object lt
      (λ p below. written_position o places written p (omega arith)) (word_back k lt)

  table_is : (let f = written_sections o places in
      symbols_of f (symbol_table_at o) ≡ symbols_in o.order (plain.symbol_table_section o).content (string_table (symbol_names o)) words)
  unfolding symbols_of words
  table_is =
      let f = written_sections o places in
      let t = symbol_table_at o in
      ap (λ (named : Order). symbols_in named (content f t) (content f (section f t).sh_link) words) (written_order o places)
      ∙ ap (λ (k : ℕ). symbols_in o.order (content f t) (content f k) words) (written_strings o places written)
      ∙ ap₂ (λ (entries names : List ℕ). symbols_in o.order entries names words) (symbols_content o places) (strings_content o places)

  pub symbols_back : (let f = written_sections o places in symbols_denoted (left_out f) f (left.symbol_table f) ≡ o.symbols)
  unfolding symbols_in
  symbols_back =
      let f = written_sections o places in
      let entries = (plain.symbol_table_section o).content in
      let names = string_table (symbol_names o) in
      let many : entry_count entries ≡ suc (length o.symbols) = (let all = symbol_entry_count o in omega arith) in
      ap (symbols_denoted (left_out f) f) (written_symbol_table o places written)
      ∙ ap (λ (all : List table_symbols.SymbolEntryValue). map (symbol_denoted (left_out f) f) (drop 1 all)) table_is
      ∙ ap (λ (n : ℕ). map (symbol_denoted (left_out f) f)
      (drop 1 (map (symbol_entry_in o.order entries names words) (range_with_len 0 n)))) many
      ∙ map_twice (symbol_denoted (left_out f) f) (symbol_entry_in o.order entries names words) (range_with_len 1 (length o.symbols))
      ∙ read_list (λ (j : ℕ). symbol_denoted (left_out f) f (symbol_entry_in o.order entries names words j)) 1
      (length o.symbols) o.symbols no_symbol refl
      (λ k lt. (let next : 1 + k ≡ suc k = omega arith in
      ap (λ (j : ℕ). symbol_denoted (left_out f) f (symbol_entry_in o.order entries names words j)) next ∙ symbol_at_back k lt))

pub written_denotes : (o : ObjectValue) (places : List ℕ) → IsWrittenAt o places → Denotes (written_sections o places) o
written_denotes o places written = record {
  order = sym (written_order o places);
  osabi = sym (written_osabi o places);
  abi = sym (written_abi o places);
  machine = sym (written_machine o places);
  flags = sym (written_flags o places);
  sections = sym (sections_back o places written);
  symbols = sym (symbols_back o places written);
}
