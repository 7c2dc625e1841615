-- The sections of a layout by position: the object's own, and the three or four after them. The list is one appended to the other, so a
-- position is in the first or in the second part.
use Rattle.std.proofs.Common.{◌≡◌, ◌≢◌, ◌<◌, ◌+◌, ◌*◌, ◌^◌, min, ℕ, Bool, true, false, List, [], ◌∷◌, length, map, get_or, refl, sym, ap}
use Rattle.std.proofs.Common.{subst, ◌∙◌, arith, ◌++◌, ap₂, append_assoc, length-append, ◌≤◌, ◌⊎◌, inl, inr, zero, suc}
use Rattle.std.specs.Prelude.{◌==◌, if◌then◌else◌, codes, ◌||◌, IfSome}
use Rattle.std.proofs.lemmas.Bool.{ne_eqb, lt-leb}
use Rattle.std.proofs.lemmas.List.{get_or-map, length-map, map-append, get_or-append-add, get_or_append_left, get_or_default}
use Rattle.std.proofs.Math.Nat.{min-eq_left}
use Rattle.std.specs.List.{flat_map, list_any, AllByRecursion}
use Rattle.std.specs.Borrow.{Bor}
use Rattle.std.proofs.lemmas.List.Folds.{list_any_none}
use Rattle.elf_field.proofs.RecordTableLaws.{length-table}
use Rattle.elf_field.specs.Abi.{SHT_NOBITS, relocation_size, SHN_LORESERVE}
use Rattle.elf_field.specs.Entries.{word_bytes, sym_bytes}
use Rattle.elf_field.specs.laws.Entries.{rel_laws, rela_laws, word_laws, sym_laws}
use Rattle.elf_field.specs.declared.number.Order.{Order}
use Rattle.elf_object_strings.proofs.Public.{shares_tails}
use Rattle.elf_object_strings.specs.StringTable.{string_table, AreZeroFree}
use Rattle.elf_object_type.proofs.Public.{all_of_map, no_zero_in_section_name, no_zero_in_symbol_name, place_there}
use Rattle.elf_object_type.specs.Object.{BodyValue, bits, relocs, group, ObjectValue, SectionValue, no_section, section_at, SymbolValue}
use Rattle.elf_object_type.specs.Object.{no_symbol, symbol_at, HasZero}
use Rattle.elf_object_type.specs.ObjectRules.{IsWrongBitsType, IsObject, place_position}
use Rattle.elf_object_type.specs.ObjectView.{section_value, symbol_value}
use Rattle.elf_object_type.specs.declared.parts.Place.TheVariants.{Undef, Abs, Common, In}
use Rattle.elf_object_type.specs.declared.parts.Place.{Place}
use Rattle.elf_object_type.specs.declared.parts.Section.{Section}
use Rattle.elf_object_type.specs.declared.parts.Symbol.{Symbol}
use Rattle.elf_object_type.specs.declared.relocations.Relocation.{Relocation}
use Rattle.elf_object_layout.specs.Laid.{content_part, LARGEST, saturated, group_words, own_section, rel_entry, rela_entry}
use Rattle.elf_object_layout.specs.Laid.{relocation_bytes, relocation_section_type, layout_parts, PlainSection, has_index_table}
use Rattle.elf_object_layout.specs.Laid.{index_table_section, index_word, null_symbol, plain_sections, section_names, sections_before_names}
use Rattle.elf_object_layout.specs.Laid.{strings, symbol_entry, symbol_names, symbol_table_section, is_far}
use Rattle.elf_object_layout.specs.StringTables.{HasSharedNames, last_names}

-- The parts of an object's own sections, as code counts them: entries times their size, saturated at the largest number of 64 bits. For
-- bits, relocations and groups this is the saturated part of the definition, because entries have a fixed size.

-- ---- bits have no type of another body

pub bits_in_file : (type : ℕ) (content : List ℕ) → (IsWrongBitsType (bits type content) → ⊥) → type ≢ SHT_NOBITS
bits_in_file type content right same = right (5, omega arith, sym same)

-- ---- a size that fits

pub fits_largest : (n : ℕ) → n < 2 ^ 64 → min n LARGEST ≡ n
fits_largest n lt = min-eq_left (omega arith)

-- ---- the part of each kind of body

pub bits_part : (o : ObjectValue) (s : SectionValue) (type : ℕ) (content : List ℕ) (x : ℕ) → s.body ≡ bits type content →
    (IsWrongBitsType s.body → ⊥) → x ≡ length content → x < 2 ^ 64 →
    (x, s.align) ≡ saturated (content_part (own_section o s))
bits_part o s type content x is right long lt =
    let other = bits_in_file type content (subst (λ (b : BodyValue). IsWrongBitsType b → ⊥) is right) in
    let size : x ≡ min (length content) LARGEST = long ∙ sym (fits_largest (length content) (omega arith)) in
    rw (is, ne_eqb type SHT_NOBITS other) (ap (λ (n : ℕ). let p : ℕ × ℕ = (n, s.align) in p) size)

pub length-relas : (order : Order) (entries : List Relocation) → length (relocation_bytes order true entries) ≡ 24 * length entries
length-relas order entries = let all = length-table rela_laws order (map rela_entry entries) in let same = length-map entries rela_entry in
    omega arith

pub length-rels : (order : Order) (entries : List Relocation) → length (relocation_bytes order false entries) ≡ 16 * length entries
length-rels order entries = let all = length-table rel_laws order (map rel_entry entries) in let same = length-map entries rel_entry in
    omega arith

pub length-relocations : (order : Order) (rela : Bool) (entries : List Relocation) →
    length (relocation_bytes order rela entries) ≡ relocation_size rela * length entries
length-relocations order true entries = length-relas order entries
length-relocations order false entries = length-rels order entries

in_file : (rela : Bool) → (relocation_section_type rela == SHT_NOBITS) ≡ false
in_file true = refl
in_file false = refl

pub relocs_part : (o : ObjectValue) (s : SectionValue) (rela : Bool) (target : ℕ) (entries : List Relocation) (count x : ℕ) →
    s.body ≡ relocs rela target entries →
    count ≡ length entries → x ≡ min (relocation_size rela * count) LARGEST → (x, s.align) ≡ saturated (content_part (own_section o s))
relocs_part o s rela target entries count x is counted size =
    rw (is, in_file rela)
    (ap (λ (n : ℕ). let p : ℕ × ℕ = (n, s.align) in p)
    (size ∙ ap (λ (n : ℕ). min (relocation_size rela * n) LARGEST) counted ∙
    ap (λ (n : ℕ). min n LARGEST) (sym (length-relocations o.order rela entries))))

pub group_part : (o : ObjectValue) (s : SectionValue) (comdat : Bool) (signature : ℕ) (members : List ℕ) (count x : ℕ) →
    s.body ≡ group comdat signature members →
    count ≡ length members → x ≡ min (4 * (count + 1)) LARGEST → (x, s.align) ≡ saturated (content_part (own_section o s))
group_part o s comdat signature members count x is counted size =
    let all = length-table word_laws o.order (group_words comdat members) in
    let same = length-map members (λ (m : ℕ). m + 1) in
    rw is (ap (λ (n : ℕ). let p : ℕ × ℕ = (n, s.align) in p)
    (size ∙ ap (λ (n : ℕ). min n LARGEST)
    (let whole : 4 * (count + 1) ≡ length (flat_map (word_bytes o.order) (group_words comdat members)) = omega arith in whole)))

-- ---- the parts of the object's own sections

pub own_parts_are : (o : ObjectValue) (sections : List Section) →
    map (λ (s : Section). saturated (content_part (own_section o (section_value s)))) sections ≡
    map saturated (map content_part (map (own_section o) (map section_value sections)))
own_parts_are o [] = refl
own_parts_are o (s ∷ sections) =
    ap (λ (ps : List (ℕ × ℕ)). saturated (content_part (own_section o (section_value s))) ∷ ps) (own_parts_are o sections)

-- section i, as the code reads it, is that of the object
pub section_read : (o : ObjectValue) (sections : List Section) (i : ℕ) (s : Section) → map section_value sections ≡ o.sections →
    i < length sections → s ≡ get_or sections i s →
    (section_value s ≡ section_at o i) × (i < length o.sections)
section_read o sections i s values lt is =
    let there = get_or-map section_value sections i s no_section lt in
    let many = length-map sections section_value in
    let same = ap length values in
    (ap section_value is ∙ sym there ∙ ap (λ (ss : List SectionValue). get_or ss i no_section) values, omega arith)

-- All parts of an object, in order: its own sections, the sections after them, and the section header table. If the parts of the own
-- sections are right, pushing the others one by one gives the list of the definition, with saturated sizes. There is one lemma with an
-- index table and one without, each by the associativity of append.

-- ---- the sections after the object's own

unfoldable pub last_sections : ObjectValue → Bool → List PlainSection
last_sections o true =
    symbol_table_section o ∷ index_table_section o ∷ strings (codes ".strtab") (symbol_names o) ∷ strings (codes ".shstrtab")
    (section_names o) ∷ []
last_sections o false =
    symbol_table_section o ∷ strings (codes ".strtab") (symbol_names o) ∷ strings (codes ".shstrtab") (section_names o) ∷ []

sections_after : (o : ObjectValue) (far : Bool) →
    (symbol_table_section o ∷ ((if far then index_table_section o ∷ [] else []) ++ (strings (codes ".strtab") (symbol_names o) ∷ []))) ++
    (strings (codes ".shstrtab") (section_names o) ∷ [])
    ≡ last_sections o far
unfolding last_sections
sections_after o true = refl
sections_after o false = refl

pub plain_sections_are : (o : ObjectValue) (far : Bool) → has_index_table o ≡ far →
    plain_sections o ≡ map (own_section o) o.sections ++ last_sections o far
unfolding plain_sections sections_before_names
plain_sections_are o far is =
    append_assoc (map (own_section o) o.sections) _ (strings (codes ".shstrtab") (section_names o) ∷ [])
    ∙ ap (λ (ss : List PlainSection). map (own_section o) o.sections ++ ss)
    (sections_after o (has_index_table o) ∙ ap (last_sections o) is)

-- ---- their parts

own_parts : ObjectValue → List (ℕ × ℕ)
own_parts o = map saturated (map content_part (map (own_section o) o.sections))

parts_are : (o : ObjectValue) (last : List PlainSection) → plain_sections o ≡ map (own_section o) o.sections ++ last →
    map saturated (layout_parts (plain_sections o)) ≡
    own_parts o ++ (map saturated (map content_part last) ++ (saturated (64 * (length o.sections + length last + 1), 8) ∷ []))
unfolding layout_parts own_parts
parts_are o last is =
    let own = map (own_section o) o.sections in
    let long : length (plain_sections o) ≡ length o.sections + length last =
    (let all = ap length is in let both = length-append own last in let same = length-map o.sections (own_section o) in omega arith) in
    map-append saturated (map content_part (plain_sections o)) ((64 * (length (plain_sections o) + 1), 8) ∷ [])
    ∙ ap₂ (λ (ss : List PlainSection) (n : ℕ). map saturated (map content_part ss) ++ (saturated (64 * (n + 1), 8) ∷ [])) is long
    ∙ ap (λ (ps : List (ℕ × ℕ)). map saturated ps ++ (saturated (64 * (length o.sections + length last + 1), 8) ∷ []))
    (map-append content_part own last)
    ∙ ap (λ (ps : List (ℕ × ℕ)). ps ++ (saturated (64 * (length o.sections + length last + 1), 8) ∷ []))
    (map-append saturated (map content_part own) (map content_part last))
    ∙ append_assoc (map saturated (map content_part own)) (map saturated (map content_part last))
    (saturated (64 * (length o.sections + length last + 1), 8) ∷ [])

-- ---- their sizes

pair : (a b align : ℕ) → a ≡ b → let p : ℕ × ℕ = (a, align) in let q : ℕ × ℕ = (b, align) in p ≡ q
pair a b align same = cc

symbols_part : (o : ObjectValue) (count x : ℕ) → count ≡ length o.symbols → x ≡ min (24 * (count + 1)) LARGEST → let p : ℕ × ℕ = (x, 8) in
    p ≡ saturated (content_part (symbol_table_section o))
symbols_part o count x counted size =
    let all = length-table sym_laws o.order (null_symbol ∷ map (symbol_entry o) o.symbols) in
    let same = length-map o.symbols (symbol_entry o) in
    let whole : 24 * (count + 1) ≡ length (flat_map (sym_bytes o.order) (null_symbol ∷ map (symbol_entry o) o.symbols)) = omega arith in
    pair x _ 8 (size ∙ ap (λ (n : ℕ). min n LARGEST) whole)

index_part : (o : ObjectValue) (count x : ℕ) → count ≡ length o.symbols → x ≡ min (4 * (count + 1)) LARGEST → let p : ℕ × ℕ = (x, 4) in
    p ≡ saturated (content_part (index_table_section o))
index_part o count x counted size =
    let words = λ (s : SymbolValue). index_word s.place in
    let all = length-table word_laws o.order (0 ∷ map words o.symbols) in
    let same = length-map o.symbols words in
    let whole : 4 * (count + 1) ≡ length (flat_map (word_bytes o.order) (0 ∷ map words o.symbols)) = omega arith in
    pair x _ 4 (size ∙ ap (λ (n : ℕ). min n LARGEST) whole)

strings_part : (name : List ℕ) (names : List (List ℕ)) (x : ℕ) → x ≡ length (string_table names) → x < 2 ^ 64 → let p : ℕ × ℕ = (x, 1) in
    p ≡ saturated (content_part (strings name names))
strings_part name names x size lt = pair x _ 1 (size ∙ sym (fits_largest (length (string_table names)) (omega arith)))

-- ---- put down one by one

pushes_four : (t : List (ℕ × ℕ)) (a b c d : ℕ × ℕ) → (((t ++ (a ∷ [])) ++ (b ∷ [])) ++ (c ∷ [])) ++ (d ∷ []) ≡ t ++ (a ∷ b ∷ c ∷ d ∷ [])
pushes_four t a b c d =
    append_assoc ((t ++ (a ∷ [])) ++ (b ∷ [])) (c ∷ []) (d ∷ []) ∙ append_assoc (t ++ (a ∷ [])) (b ∷ []) (c ∷ d ∷ []) ∙
    append_assoc t (a ∷ []) (b ∷ c ∷ d ∷ [])

length-own_parts : (o : ObjectValue) → length (own_parts o) ≡ length o.sections
unfolding own_parts
length-own_parts o =
    let own = map (own_section o) o.sections in
    let a = length-map (map content_part own) saturated in
    let b = length-map own content_part in
    let c = length-map o.sections (own_section o) in
    omega arith

pushed_long : (ps qs : List (ℕ × ℕ)) (p : ℕ × ℕ) → qs ≡ ps ++ (p ∷ []) → length qs ≡ length ps + 1
pushed_long ps qs p is = let all = ap length is in let both = length-append ps (p ∷ []) in omega arith

table_part : (o : ObjectValue) (last : ℕ) (sections x : ℕ) → sections ≡ length o.sections + last → x ≡ min (64 * (sections + 1)) LARGEST →
    let p : ℕ × ℕ = (x, 8) in p ≡ saturated (64 * (length o.sections + last + 1), 8)
table_part o last sections x counted size = pair x _ 8 (size ∙ ap (λ (n : ℕ). min (64 * (n + 1)) LARGEST) counted)

-- without an index table
pub parts_without_index_table : (o : ObjectValue) (p0 p1 p2 p3 p4 : List (ℕ × ℕ)) (count a c d sections e : ℕ) →
    p0 ≡ map saturated (map content_part (map (own_section o) o.sections)) → count ≡ length o.symbols → has_index_table o ≡ false →
    a ≡ min (24 * (count + 1)) LARGEST → p1 ≡ p0 ++ ((a, 8) ∷ []) →
    c ≡ length (string_table (symbol_names o)) → c < 2 ^ 64 → p2 ≡ p1 ++ ((c, 1) ∷ []) →
    d ≡ length (string_table (section_names o)) → d < 2 ^ 64 → p3 ≡ p2 ++ ((d, 1) ∷ []) →
    sections ≡ length p3 → e ≡ min (64 * (sections + 1)) LARGEST → p4 ≡ p3 ++ ((e, 8) ∷ []) →
    p4 ≡ map saturated (layout_parts (plain_sections o))
unfolding last_sections own_parts
parts_without_index_table o p0 p1 p2 p3 p4 count a c d sections e is0 counted near is_a is1 is_c c_lt is2 is_d d_lt is3 all is_e is4 =
    let l0 = ap length is0 in
    let l = length-own_parts o in
    let l1 = pushed_long p0 p1 _ is1 in
    let l2 = pushed_long p1 p2 _ is2 in
    let l3 = pushed_long p2 p3 _ is3 in
    let many : sections ≡ length o.sections + 3 = omega arith in
    let built : p4 ≡ (((own_parts o ++ ((a, 8) ∷ [])) ++ ((c, 1) ∷ [])) ++ ((d, 1) ∷ [])) ++ ((e, 8) ∷ []) =
    is4 ∙ ap (λ (ps : List (ℕ × ℕ)). ps ++ ((e, 8) ∷ []))
    (is3 ∙ ap (λ (ps : List (ℕ × ℕ)). ps ++ ((d, 1) ∷ []))
    (is2 ∙ ap (λ (ps : List (ℕ × ℕ)). ps ++ ((c, 1) ∷ [])) (is1 ∙ ap (λ (ps : List (ℕ × ℕ)). ps ++ ((a, 8) ∷ [])) is0))) in
    built ∙ pushes_four (own_parts o) (a, 8) (c, 1) (d, 1) (e, 8)
    ∙ ap₂ (λ (x y : ℕ × ℕ). own_parts o ++ (x ∷ y ∷ (d, 1) ∷ (e, 8) ∷ [])) (symbols_part o count a counted is_a)
    (strings_part (codes ".strtab") (symbol_names o) c is_c c_lt)
    ∙ ap₂ (λ (x y : ℕ × ℕ). own_parts o ++
    (saturated (content_part (symbol_table_section o)) ∷ saturated
    (content_part (strings (codes ".strtab") (symbol_names o))) ∷ x ∷ y ∷ []))
    (strings_part (codes ".shstrtab") (section_names o) d is_d d_lt) (table_part o 3 sections e many is_e)
    ∙ sym (parts_are o (last_sections o false) (plain_sections_are o false near))

-- and with one
pub parts_with_index_table : (o : ObjectValue) (p0 p1 p2 p3 p4 p5 : List (ℕ × ℕ)) (count a b c d sections e : ℕ) →
    p0 ≡ map saturated (map content_part (map (own_section o) o.sections)) → count ≡ length o.symbols → has_index_table o ≡ true →
    a ≡ min (24 * (count + 1)) LARGEST → p1 ≡ p0 ++ ((a, 8) ∷ []) →
    b ≡ min (4 * (count + 1)) LARGEST → p2 ≡ p1 ++ ((b, 4) ∷ []) →
    c ≡ length (string_table (symbol_names o)) → c < 2 ^ 64 → p3 ≡ p2 ++ ((c, 1) ∷ []) →
    d ≡ length (string_table (section_names o)) → d < 2 ^ 64 → p4 ≡ p3 ++ ((d, 1) ∷ []) →
    sections ≡ length p4 → e ≡ min (64 * (sections + 1)) LARGEST → p5 ≡ p4 ++ ((e, 8) ∷ []) →
    p5 ≡ map saturated (layout_parts (plain_sections o))
unfolding last_sections own_parts
parts_with_index_table o p0 p1 p2 p3 p4 p5 count a b c d sections e is0 counted far is_a is1 is_b is2 is_c c_lt is3 is_d d_lt is4 all is_e
    is5 =
    let l0 = ap length is0 in
    let l = length-own_parts o in
    let l1 = pushed_long p0 p1 _ is1 in
    let l2 = pushed_long p1 p2 _ is2 in
    let l3 = pushed_long p2 p3 _ is3 in
    let l4 = pushed_long p3 p4 _ is4 in
    let many : sections ≡ length o.sections + 4 = omega arith in
    let base = own_parts o ++ ((a, 8) ∷ []) in
    let built : p5 ≡ (((base ++ ((b, 4) ∷ [])) ++ ((c, 1) ∷ [])) ++ ((d, 1) ∷ [])) ++ ((e, 8) ∷ []) =
    is5 ∙ ap (λ (ps : List (ℕ × ℕ)). ps ++ ((e, 8) ∷ []))
    (is4 ∙ ap (λ (ps : List (ℕ × ℕ)). ps ++ ((d, 1) ∷ []))
    (is3 ∙ ap (λ (ps : List (ℕ × ℕ)). ps ++ ((c, 1) ∷ []))
    (is2 ∙ ap (λ (ps : List (ℕ × ℕ)). ps ++ ((b, 4) ∷ [])) (is1 ∙ ap (λ (ps : List (ℕ × ℕ)). ps ++ ((a, 8) ∷ [])) is0)))) in
    built ∙ pushes_four base (b, 4) (c, 1) (d, 1) (e, 8) ∙ append_assoc (own_parts o) ((a, 8) ∷ []) ((b, 4) ∷ (c, 1) ∷ (d, 1) ∷ (e, 8) ∷ [])
    ∙ ap₂ (λ (x y : ℕ × ℕ). own_parts o ++ (x ∷ y ∷ (c, 1) ∷ (d, 1) ∷ (e, 8) ∷ [])) (symbols_part o count a counted is_a)
    (index_part o count b counted is_b)
    ∙ ap (λ (x : ℕ × ℕ). own_parts o ++
    (saturated (content_part (symbol_table_section o)) ∷ saturated (content_part (index_table_section o)) ∷ x ∷ (d, 1) ∷ (e, 8) ∷ []))
    (strings_part (codes ".strtab") (symbol_names o) c is_c c_lt)
    ∙ ap₂ (λ (x y : ℕ × ℕ). own_parts o ++
    (saturated (content_part (symbol_table_section o)) ∷ saturated (content_part (index_table_section o)) ∷ saturated
    (content_part (strings (codes ".strtab") (symbol_names o))) ∷ x ∷ y ∷ []))
    (strings_part (codes ".shstrtab") (section_names o) d is_d d_lt) (table_part o 4 sections e many is_e)
    ∙ sym (parts_are o (last_sections o true) (plain_sections_are o true far))

-- ---- how many there are

length-own : (o : ObjectValue) → length (map (own_section o) o.sections) ≡ length o.sections
length-own o = length-map o.sections (own_section o)

abbrev pub last_count : Bool → ℕ
last_count far = if far then 4 else 3

length-last : (o : ObjectValue) (far : Bool) → length (last_sections o far) ≡ last_count far
unfolding last_sections
length-last o true = refl
length-last o false = refl

pub length-plain : (o : ObjectValue) (far : Bool) → has_index_table o ≡ far → length (plain_sections o) ≡ length o.sections + last_count far
length-plain o far is =
    ap length (plain_sections_are o far is) ∙ length-append (map (own_section o) o.sections) (last_sections o far)
    ∙ (let own = length-own o in let last = length-last o far in omega arith)

-- with an index table or without one
pub either_way : (o : ObjectValue) → (has_index_table o ≡ false) ⊎ (has_index_table o ≡ true)
either_way o = which (has_index_table o) refl
  where
    which : (far : Bool) → has_index_table o ≡ far → (has_index_table o ≡ false) ⊎ (has_index_table o ≡ true)
    which false is = inl is
    which true is = inr is

pub count_near : (o : ObjectValue) → has_index_table o ≡ false → length (plain_sections o) ≡ length o.sections + 3
count_near o near = length-plain o false near

pub count_far : (o : ObjectValue) → has_index_table o ≡ true → length (plain_sections o) ≡ length o.sections + 4
count_far o far = length-plain o true far

pub own_below : (o : ObjectValue) → length o.sections + 3 ≤ length (plain_sections o)
own_below o = elim (either_way o) [
  | inl near ↦ (let count = count_near o near in omega arith)
  | inr far ↦ (let count = count_far o far in omega arith)
]

-- ---- which they are

-- one of the object's own
pub own_found : (o : ObjectValue) (p : ℕ) (d : PlainSection) → p < length o.sections →
    get_or (plain_sections o) p d ≡ own_section o (section_at o p)
own_found o p d lt =
    let long = length-own o in
    ap (λ (ss : List PlainSection). get_or ss p d) (plain_sections_are o (has_index_table o) refl)
    ∙ get_or_append_left (map (own_section o) o.sections) (last_sections o (has_index_table o)) d p (omega arith)
    ∙ get_or-map (own_section o) o.sections p no_section d lt

-- one after them
pub last_found : (o : ObjectValue) (far : Bool) → has_index_table o ≡ far → (k : ℕ) (d : PlainSection) →
    get_or (plain_sections o) (length o.sections + k) d ≡ get_or (last_sections o far) k d
last_found o far is k d =
    let long = length-own o in
    ap (λ (ss : List PlainSection). get_or ss (length o.sections + k) d) (plain_sections_are o far is)
    ∙ ap (λ (n : ℕ). get_or (map (own_section o) o.sections ++ last_sections o far) (n + k) d) (sym long)
    ∙ get_or-append-add (map (own_section o) o.sections) (last_sections o far) k d

-- ---- the same of the section at a position, which is an empty one where there is none

abbrev pub no_plain : PlainSection
no_plain = record { name = []; type = 0; flags = 0; addr = 0; link = 0; info = 0; align = 0; entsize = 0; space = 0; content = [] }

abbrev pub plain_at : ObjectValue → ℕ → PlainSection
plain_at o p = get_or (plain_sections o) p no_plain

pub plain_own : (o : ObjectValue) (p : ℕ) → p < length o.sections → plain_at o p ≡ own_section o (section_at o p)
plain_own o p lt = own_found o p no_plain lt

pub plain_last : (o : ObjectValue) (far : Bool) → has_index_table o ≡ far → (k : ℕ) →
    plain_at o (length o.sections + k) ≡ get_or (last_sections o far) k no_plain
plain_last o far is k = last_found o far is k no_plain

-- The section at each position of the canonical layout: below the count of own sections it is one of these; then come the symbol table,
-- the index table if there is one, the string table and the name table.

-- a section after the object's own
after_own : (o : ObjectValue) (far : Bool) (position k : ℕ) (d : PlainSection) → has_index_table o ≡ far →
    position ≡ length o.sections + k →
    get_or (plain_sections o) position d ≡ get_or (last_sections o far) k d
after_own o far position k d is at = ap (λ (x : ℕ). get_or (plain_sections o) x d) at ∙ last_found o far is k d

pub symbols_found : (o : ObjectValue) (position : ℕ) (d : PlainSection) → position ≡ length o.sections →
    get_or (plain_sections o) position d ≡ symbol_table_section o
unfolding last_sections
symbols_found o position d at = elim (either_way o) [
  | inl near ↦ after_own o false position 0 d near (omega arith)
  | inr far ↦ after_own o true position 0 d far (omega arith)
]

pub names_found : (o : ObjectValue) (position : ℕ) (d : PlainSection) → position + 1 ≡ length (plain_sections o) →
    get_or (plain_sections o) position d ≡ strings (codes ".shstrtab") (section_names o)
unfolding last_sections
names_found o position d last = elim (either_way o) [
  | inl near ↦ (let count = count_near o near in after_own o false position 2 d near (omega arith))
  | inr far ↦ (let count = count_far o far in after_own o true position 3 d far (omega arith))
]

pub strings_found : (o : ObjectValue) (position : ℕ) (d : PlainSection) → position + 2 ≡ length (plain_sections o) →
    get_or (plain_sections o) position d ≡ strings (codes ".strtab") (symbol_names o)
unfolding last_sections
strings_found o position d last = elim (either_way o) [
  | inl near ↦ (let count = count_near o near in after_own o false position 1 d near (omega arith))
  | inr far ↦ (let count = count_far o far in after_own o true position 2 d far (omega arith))
]

pub index_table_found : (o : ObjectValue) (position : ℕ) (d : PlainSection) → length o.sections < position →
    position + 2 < length (plain_sections o) →
    get_or (plain_sections o) position d ≡ index_table_section o
unfolding last_sections
index_table_found o position d above below = elim (either_way o) [
  | inl near ↦ (let count = count_near o near in absurd (omega arith))
  | inr far ↦ (let count = count_far o far in after_own o true position 1 d far (omega arith))
]

-- The names of an object's sections and symbols, in the code and in the object's value, are the same. So is the test whether a symbol needs
-- the index table. These go by induction on the list. The names of the last sections are pushed one by one, with or without that of the
-- index table.

abbrev pub now_of : Bor (List ℕ) → List ℕ
now_of name = name.now

pub names_of_symbols : (symbols : List Symbol) →
    map now_of (map (λ (s : Symbol). s.name) symbols) ≡ map (λ s. s.name) (map symbol_value symbols)
names_of_symbols [] = refl
names_of_symbols (s ∷ symbols) = ap (λ (names : List (List ℕ)). s.name.now ∷ names) (names_of_symbols symbols)

pub names_of_sections : (sections : List Section) →
    map now_of (map (λ (s : Section). s.name) sections) ≡ map (λ s. s.name) (map section_value sections)
names_of_sections [] = refl
names_of_sections (s ∷ sections) = ap (λ (names : List (List ℕ)). s.name.now ∷ names) (names_of_sections sections)

pub far_symbols : (symbols : List Symbol) →
    list_any (λ (s : Symbol). is_far s.place) symbols ≡ list_any (λ s. is_far s.place) (map symbol_value symbols)
far_symbols [] = refl
far_symbols (s ∷ symbols) = ap (λ (b : Bool). is_far s.place || b) (far_symbols symbols)

-- ---- the names of all sections, put down one by one

own_names : (o : ObjectValue) (sections : List SectionValue) → map (λ s. s.name) (map (own_section o) sections) ≡ map (λ s. s.name) sections
own_names o [] = refl
own_names o (s ∷ sections) = ap (λ (names : List (List ℕ)). s.name ∷ names) (own_names o sections)

names_after : (o : ObjectValue) (far : Bool) →
    map (λ (s : PlainSection). s.name)
    (symbol_table_section o ∷ ((if far then index_table_section o ∷ [] else []) ++ (strings (codes ".strtab") (symbol_names o) ∷ [])))
    ++ (codes ".shstrtab" ∷ []) ≡ last_names far
names_after o true = refl
names_after o false = refl

pub section_names_are : (o : ObjectValue) (far : Bool) → has_index_table o ≡ far →
    section_names o ≡ map (λ s. s.name) o.sections ++ last_names far
unfolding section_names sections_before_names
section_names_are o far is =
    let later =
    symbol_table_section
    o ∷ ((if has_index_table o then index_table_section o ∷ [] else []) ++ (strings (codes ".strtab") (symbol_names o) ∷ [])) in
    ap (λ (names : List (List ℕ)). names ++ (codes ".shstrtab" ∷ []))
    (map-append (λ (s : PlainSection). s.name) (map (own_section o) o.sections) later)
    ∙ append_assoc (map (λ s. s.name) (map (own_section o) o.sections)) (map (λ (s : PlainSection). s.name) later) (codes ".shstrtab" ∷ [])
    ∙ ap₂ (λ (front rest : List (List ℕ)). front ++ rest) (own_names o o.sections) (names_after o (has_index_table o) ∙ ap last_names is)

own_texts : (o : ObjectValue) (sections : List Section) (names : List (Bor (List ℕ))) → map section_value sections ≡ o.sections →
    names ≡ map (λ (s : Section). s.name) sections →
    map now_of names ≡ map (λ s. s.name) o.sections
own_texts o sections names values own = ap (map now_of) own ∙ names_of_sections sections ∙ ap (map (λ (s : SectionValue). s.name)) values

pub section_names_pushed : (o : ObjectValue) (sections : List Section) (own names : List (Bor (List ℕ))) (far : Bool) →
    map section_value sections ≡ o.sections →
    own ≡ map (λ (s : Section). s.name) sections → has_index_table o ≡ far → map now_of names ≡ map now_of own ++ last_names far →
    map now_of names ≡ section_names o
section_names_pushed o sections own names far values own_is is pushed =
    pushed ∙ ap (λ (texts : List (List ℕ)). texts ++ last_names far) (own_texts o sections own values own_is) ∙
    sym (section_names_are o far is)

name_pushed : (texts : List (List ℕ)) (before after : List (Bor (List ℕ))) (name : Bor (List ℕ)) → map now_of before ≡ texts →
    after ≡ before ++ (name ∷ []) →
    map now_of after ≡ texts ++ (name.now ∷ [])
name_pushed texts before after name is more =
    ap (map now_of) more ∙ map-append now_of before (name ∷ []) ∙ ap (λ (ts : List (List ℕ)). ts ++ (name.now ∷ [])) is

pub names_with_index_table : (n0 n1 n2 n3 n4 : List (Bor (List ℕ))) (a b c d : Bor (List ℕ)) →
    n1 ≡ n0 ++ (a ∷ []) → n2 ≡ n1 ++ (b ∷ []) → n3 ≡ n2 ++ (c ∷ []) → n4 ≡ n3 ++ (d ∷ []) →
    a.now ≡ codes ".symtab" → b.now ≡ codes ".symtab_shndx" → c.now ≡ codes ".strtab" → d.now ≡ codes ".shstrtab" →
    map now_of n4 ≡ map now_of n0 ++ last_names true
names_with_index_table n0 n1 n2 n3 n4 a b c d e1 e2 e3 e4 is_a is_b is_c is_d =
    let t = map now_of n0 in
    let all = name_pushed _ n3 n4 d (name_pushed _ n2 n3 c (name_pushed _ n1 n2 b (name_pushed t n0 n1 a refl e1) e2) e3) e4 in
    all ∙ four t a.now b.now c.now d.now is_a is_b is_c is_d
  where
    four : (t : List (List ℕ)) (a b c d : List ℕ) → a ≡ codes ".symtab" → b ≡ codes ".symtab_shndx" → c ≡ codes ".strtab" →
        d ≡ codes ".shstrtab" →
        (((t ++ (a ∷ [])) ++ (b ∷ [])) ++ (c ∷ [])) ++ (d ∷ []) ≡ t ++ last_names true
    four t a b c d is_a is_b is_c is_d =
        append_assoc ((t ++ (a ∷ [])) ++ (b ∷ [])) (c ∷ []) (d ∷ []) ∙ append_assoc (t ++ (a ∷ [])) (b ∷ []) (c ∷ d ∷ []) ∙
        append_assoc t (a ∷ []) (b ∷ c ∷ d ∷ [])
        ∙ ap (λ (r : List (List ℕ)). t ++ r)
        (ap₂ (λ (x y : List ℕ). x ∷ y ∷ c ∷ d ∷ []) is_a is_b ∙
        ap₂ (λ (x y : List ℕ). codes ".symtab" ∷ codes ".symtab_shndx" ∷ x ∷ y ∷ []) is_c is_d)

pub names_without_index_table : (n0 n1 n2 n3 : List (Bor (List ℕ))) (a c d : Bor (List ℕ)) →
    n1 ≡ n0 ++ (a ∷ []) → n2 ≡ n1 ++ (c ∷ []) → n3 ≡ n2 ++ (d ∷ []) → a.now ≡ codes ".symtab" → c.now ≡ codes ".strtab" →
    d.now ≡ codes ".shstrtab" →
    map now_of n3 ≡ map now_of n0 ++ last_names false
names_without_index_table n0 n1 n2 n3 a c d e1 e2 e3 is_a is_c is_d =
    let t = map now_of n0 in
    let all = name_pushed _ n2 n3 d (name_pushed _ n1 n2 c (name_pushed t n0 n1 a refl e1) e2) e3 in
    all ∙ three t a.now c.now d.now is_a is_c is_d
  where
    three : (t : List (List ℕ)) (a c d : List ℕ) → a ≡ codes ".symtab" → c ≡ codes ".strtab" → d ≡ codes ".shstrtab" →
        ((t ++ (a ∷ [])) ++ (c ∷ [])) ++ (d ∷ []) ≡ t ++ last_names false
    three t a c d is_a is_c is_d =
        append_assoc (t ++ (a ∷ [])) (c ∷ []) (d ∷ []) ∙ append_assoc t (a ∷ []) (c ∷ d ∷ [])
        ∙ ap (λ (r : List (List ℕ)). t ++ r)
        (ap (λ (x : List ℕ). x ∷ c ∷ d ∷ []) is_a ∙ ap₂ (λ (x y : List ℕ). codes ".symtab" ∷ x ∷ y ∷ []) is_c is_d)

-- No name of an object has a zero byte, by rules 1 and 7 of objects, and none of the names of the four sections after its own has one; so
-- both string tables share tails.

abbrev IsZeroFree : List ℕ → Type 0
IsZeroFree name = AllByRecursion (λ byte. 0 < byte) name

zero_free : (name : List ℕ) → ¬ HasZero name → IsZeroFree name
zero_free [] none = tt
zero_free (zero ∷ name) none = absurd (none (0, omega arith, refl))
zero_free (suc byte ∷ name) none = (omega arith, zero_free name (λ (k, lt, is). none (suc k, omega arith, is)))

all_append : {A : Type 0} (P : A → Type 0) (xs ys : List A) → AllByRecursion P xs → AllByRecursion P ys → AllByRecursion P (xs ++ ys)
all_append P [] ys front back = back
all_append P (x ∷ xs) ys front back = (front.0, all_append P xs ys front.1 back)

all_named : (sections : List PlainSection) → AllByRecursion (λ s. IsZeroFree s.name) sections → AreZeroFree (map (λ s. s.name) sections)
all_named [] all = tt
all_named (s ∷ sections) all = (all.0, all_named sections all.1)

module _ (o : ObjectValue) (object : IsObject o) where
  later : (far : Bool) → AllByRecursion (λ s. IsZeroFree s.name) (if far then index_table_section o ∷ [] else [])
  later true = (zero_free (codes ".symtab_shndx") (search arith), tt)
  later false = tt

  before_names : AllByRecursion (λ s. IsZeroFree s.name) (sections_before_names o)
  unfolding sections_before_names
  before_names =
      all_append (λ s. IsZeroFree s.name) (map (own_section o) o.sections) _
      (all_of_map (λ s. IsZeroFree s.name) (own_section o) o.sections no_section (own_section o no_section)
      (λ p lt. zero_free (section_at o p).name (no_zero_in_section_name o object p lt))) (
        zero_free (codes ".symtab") (search arith),
        all_append (λ s. IsZeroFree s.name) (if has_index_table o then index_table_section o ∷ [] else []) _ (later (has_index_table o))
            (zero_free (codes ".strtab") (search arith), tt),
      )

  section_names_free : AreZeroFree (section_names o)
  unfolding section_names
  section_names_free =
      all_append IsZeroFree (map (λ s. s.name) (sections_before_names o)) _ (all_named (sections_before_names o) before_names)
      (zero_free (codes ".shstrtab") (search arith), tt)

  symbol_names_free : AreZeroFree (symbol_names o)
  symbol_names_free =
      all_of_map IsZeroFree (λ s. s.name) o.symbols no_symbol []
      (λ k lt. zero_free (symbol_at o k).name (no_zero_in_symbol_name o object k lt))

  pub shared_names : HasSharedNames o
  shared_names =
      record { sections = shares_tails (section_names o) section_names_free; symbols = shares_tails (symbol_names o) symbol_names_free }

-- Where sections are few, no symbol lies in one whose index its st_shndx can't hold.

near : (n : ℕ) (place : Place) → n < SHN_LORESERVE → IfSome (place_position place) (λ p. p < n) → is_far place ≡ false
near n Undef few there = refl
near n Abs few there = refl
near n Common few there = refl
near n (In position) few there =
    let below : position + 1 < SHN_LORESERVE = omega arith in
    lt-leb SHN_LORESERVE (position + 1) below

pub none_far : (o : ObjectValue) → IsObject o → length o.sections < SHN_LORESERVE → has_index_table o ≡ false
none_far o is few =
    list_any_none (λ s. is_far s.place) o.symbols
    (λ k d lt. near (length o.sections) (get_or o.symbols k d).place few
    (subst (λ (s : SymbolValue). IfSome (place_position s.place) (λ p. p < length o.sections)) (get_or_default o.symbols k no_symbol d lt)
    (place_there o k is lt)))
