-- Parts of an object: its elements, its relocation tables, and when two are equal.
use Rattle.std.proofs.Common.{◌<◌, ℕ, zero, suc, List, [], ◌∷◌, get_or, length, map, subst, sym, arith, ◌≡◌, ◌*◌, ◌^◌, Bool, true, false}
use Rattle.std.proofs.Common.{zero-add, refl, ap₂, ◌∙◌, ◌&&◌, nat_eq}
use Rattle.std.specs.List.{AllByRecursion, Any}
use Rattle.std.proofs.lemmas.List.{get_or-map, get_or_default, length-map}
use Rattle.std.specs.Int.{w64}
use Rattle.std.specs.Prelude.{◌%◌, FitsSigned, pos}
use Rattle.std.proofs.lemmas.List.FromFn.{get_or-map-range_with_len, length-map-range_with_len}
use Rattle.std.specs.Cmp.Derive.Mapped.{pointwise-map}
use Rattle.std.specs.Cmp.Lexicographic.{pointwise}
use Rattle.elf_field.specs.Abi.{relocation_size}
use Rattle.elf_field.specs.Bytes.{IsBytes}
use Rattle.elf_field.specs.Entries.{rel_at, rela_at}
use Rattle.elf_field.specs.laws.Entries.{rel_laws, rela_laws}
use Rattle.elf_field.specs.declared.number.Order.TheVariants.{Little, Big}
use Rattle.elf_field.specs.declared.number.Order.{Order}
use Rattle.elf_object_type.specs.Equality.{is_same_body, is_same_info, is_same_object, is_same_order, is_same_place, is_same_position}
use Rattle.elf_object_type.specs.Equality.{is_same_section, is_same_symbol}
use Rattle.elf_object_type.specs.Object.{no_relocation, IsRelocationTable, listed_in, table_count, table_relocation, table_relocations}
use Rattle.elf_object_type.specs.Object.{RelocationFits}
use Rattle.elf_object_type.specs.ObjectView.{body_value, section_value, symbol_value, value_of}
use Rattle.elf_object_type.specs.declared.parts.Body.TheVariants.{Bits, NoBits, Relocs, Group}
use Rattle.elf_object_type.specs.declared.parts.Body.{Body}
use Rattle.elf_object_type.specs.declared.parts.Info.TheVariants.{Number, Section as InSection}
use Rattle.elf_object_type.specs.declared.parts.Info.{Info}
use Rattle.elf_object_type.specs.declared.parts.ObjectParts.{ObjectParts}
use Rattle.elf_object_type.specs.declared.parts.Place.TheVariants.{Undef, Abs, Common, In}
use Rattle.elf_object_type.specs.declared.parts.Place.{Place}
use Rattle.elf_object_type.specs.declared.parts.Section.{Section}
use Rattle.elf_object_type.specs.declared.parts.Symbol.{Symbol}
use Rattle.elf_object_type.specs.declared.relocations.RelocationTable.{RelocationTable}
use Rattle.elf_field.specs.contracts.number.OrderPartialEq.TheImpl as order_eq
use Rattle.elf_object_type.specs.contracts.parts.ObjectPartsPartialEq.TheImpl as parts_eq
use Rattle.elf_object_type.specs.contracts.parts.BodyPartialEq.TheImpl as body_eq
use Rattle.elf_object_type.specs.contracts.parts.InfoPartialEq.TheImpl as info_eq
use Rattle.elf_object_type.specs.contracts.parts.SectionPartialEq.TheImpl as section_eq
use Rattle.elf_object_type.specs.contracts.parts.PlacePartialEq.TheImpl as place_eq
use Rattle.elf_object_type.specs.contracts.parts.SymbolPartialEq.TheImpl as symbol_eq

-- What holds of each element of a list, by index.

pub all_of_each : {A : Type 0} (P : A → Type 0) (xs : List A) (d : A) → ((i : ℕ) → i < length xs → P (get_or xs i d)) → AllByRecursion P xs
all_of_each P [] d each = tt
all_of_each P (x ∷ xs) d each = (each 0 (omega arith), all_of_each P xs d (λ i lt. each (suc i) (omega arith)))

pub each_of_all : {A : Type 0} (P : A → Type 0) (xs : List A) (d : A) → AllByRecursion P xs → (i : ℕ) → i < length xs → P (get_or xs i d)
each_of_all P [] d all i lt = absurd (omega arith)
each_of_all P (x ∷ xs) d all zero lt = all.0
each_of_all P (x ∷ xs) d all (suc i) lt = each_of_all P xs d all.1 i (omega arith)

pub all_of_map : {A B : Type 0} (P : B → Type 0) (f : A → B) (xs : List A) (d : A) (e : B) →
    ((i : ℕ) → i < length xs → P (f (get_or xs i d))) →
    AllByRecursion P (map f xs)
all_of_map P f xs d e each =
    all_of_each P (map f xs) e (λ i lt. (
    let many = length-map xs f in
    let within : i < length xs = omega arith in
    subst P (sym (get_or-map f xs i d e within)) (each i within)))

pub none_of_any : {A : Type 0} (P : A → Type 0) (xs : List A) (d : A) → (Any P xs → ⊥) → (i : ℕ) → i < length xs → P (get_or xs i d) → ⊥
none_of_any P xs d none i lt broken = none (i, get_or xs i d, lt, get_or_default xs i (get_or xs i d) d lt, broken)

-- The list of a table's relocations has `table_count` entries, and entry j is `table_relocation` of j. The numbers of the relocations in a
-- list of bytes fit their fields, by the laws of the records. Bytes that are whole entries long are a table of the relocations in them
-- (`table_is_of`).

pub length_table_relocations : (rela : Bool) (order : Order) (bytes : List ℕ) →
    length (table_relocations rela order bytes) ≡ table_count rela bytes
unfolding table_relocations
length_table_relocations rela order bytes = length-map-range_with_len (table_relocation rela order bytes) 0 (table_count rela bytes)

pub table_relocation_get : (rela : Bool) (order : Order) (bytes : List ℕ) (j : ℕ) → j < table_count rela bytes →
    get_or (table_relocations rela order bytes) j no_relocation ≡ table_relocation rela order bytes j
unfolding table_relocations
table_relocation_get rela order bytes j within =
    get_or-map-range_with_len (table_relocation rela order bytes) 0 (table_count rela bytes) j j no_relocation within (zero-add j)

no_addend : FitsSigned w64 (pos 0)
no_addend = search arith

relocation_fits : (rela : Bool) (order : Order) (bytes : List ℕ) (j : ℕ) → IsBytes bytes →
    RelocationFits (table_relocation rela order bytes j)
unfolding table_relocation
relocation_fits true order bytes j are =
    let fits = rela_laws.valid order bytes (24 * j) are in
    let e = rela_at order bytes (24 * j) in
    let kind : e.r_info % 2 ^ 32 < 2 ^ 32 = omega arith in
    record { offset = fits.r_offset; kind = kind; addend = fits.r_addend }
relocation_fits false order bytes j are =
    let fits = rel_laws.valid order bytes (16 * j) are in
    let e = rel_at order bytes (16 * j) in
    let kind : e.r_info % 2 ^ 32 < 2 ^ 32 = omega arith in
    record { offset = fits.r_offset; kind = kind; addend = no_addend }

pub relocations_fit : (rela : Bool) (order : Order) (bytes : List ℕ) → IsBytes bytes →
    AllByRecursion RelocationFits (table_relocations rela order bytes)
relocations_fit rela order bytes are =
    all_of_each RelocationFits (table_relocations rela order bytes) no_relocation
    (λ j lt. subst RelocationFits
    (sym (table_relocation_get rela order bytes j (subst (λ (n : ℕ). j < n) (length_table_relocations rela order bytes) lt)))
    (relocation_fits rela order bytes j are))

-- bytes that end with a relocation are a table of the relocations in them
whole_table : (rela : Bool) (order : Order) (bytes : List ℕ) → IsBytes bytes → length bytes % relocation_size rela ≡ 0 →
    IsRelocationTable rela order bytes (table_relocations rela order bytes)
whole_table true order bytes are even =
    let long = length_table_relocations true order bytes in
    record { are_bytes = are; relocations_are = refl; whole = omega arith }
whole_table false order bytes are even =
    let long = length_table_relocations false order bytes in
    record { are_bytes = are; relocations_are = refl; whole = omega arith }

pub table_is_of : (t : RelocationTable) (rela : Bool) (order : Order) → IsBytes t.bytes.now → t.rela ≡ rela → t.order ≡ order →
    length t.bytes.now % relocation_size rela ≡ 0 →
    IsRelocationTable rela order t.bytes.now (listed_in t)
table_is_of t rela order are is_rela is_order even =
    subst (IsRelocationTable rela order t.bytes.now) (sym (ap₂ (λ r o. table_relocations r o t.bytes.now) is_rela is_order))
    (whole_table rela order t.bytes.now are even)

-- The derived `==` of object parts is `is_same_object` of their values. By cases on the variants and field by field, each comparison of the
-- code is the comparison of the values.

info_same : (a b : Info) → (info_eq.ghosts).eq a b ≡ is_same_info a b
info_same (Number n) (Number m) = refl
info_same (Number n) (InSection j) = refl
info_same (InSection i) (Number m) = refl
info_same (InSection i) (InSection j) = refl

place_same : (a b : Place) → (place_eq.ghosts).eq a b ≡ is_same_place a b
place_same Undef Undef = refl
place_same Undef Abs = refl
place_same Undef Common = refl
place_same Undef (In j) = refl
place_same Abs Undef = refl
place_same Abs Abs = refl
place_same Abs Common = refl
place_same Abs (In j) = refl
place_same Common Undef = refl
place_same Common Abs = refl
place_same Common Common = refl
place_same Common (In j) = refl
place_same (In i) Undef = refl
place_same (In i) Abs = refl
place_same (In i) Common = refl
place_same (In i) (In j) = refl

body_same : (a b : Body) → (body_eq.ghosts).eq a b ≡ is_same_body (body_value a) (body_value b)
body_same (Bits t b) (Bits u c) = refl
body_same (Bits t b) (NoBits m) = refl
body_same (Bits t b) (Relocs r j es) = refl
body_same (Bits t b) (Group d j ns) = refl
body_same (NoBits n) (Bits u c) = refl
body_same (NoBits n) (NoBits m) = refl
body_same (NoBits n) (Relocs r j es) = refl
body_same (NoBits n) (Group d j ns) = refl
body_same (Relocs q i ds) (Bits u c) = refl
body_same (Relocs q i ds) (NoBits m) = refl
body_same (Relocs q i ds) (Relocs r j es) = refl
body_same (Relocs q i ds) (Group d j ns) = refl
body_same (Group c i ms) (Bits u b) = refl
body_same (Group c i ms) (NoBits m) = refl
body_same (Group c i ms) (Relocs r j es) = refl
body_same (Group c i ms) (Group d j ns) = refl

section_same : (s t : Section) → (section_eq.ghosts).eq s t ≡ is_same_section (section_value s) (section_value t)
section_same s t = λ i.
    pointwise nat_eq s.name.now
    t.name.now && (nat_eq s.flags t.flags && (nat_eq s.addr t.addr && (nat_eq s.align t.align && (nat_eq s.entsize t.entsize
    && (is_same_position s.link t.link && (info_same s.info t.info i && body_same s.body t.body i))))))

symbol_same : (s t : Symbol) → (symbol_eq.ghosts).eq s t ≡ is_same_symbol (symbol_value s) (symbol_value t)
symbol_same s t = λ i.
    pointwise nat_eq s.name.now t.name.now && (nat_eq s.info t.info && (nat_eq s.other t.other
    && (place_same s.place t.place i && (nat_eq s.value t.value && nat_eq s.size t.size))))

pub order_same : (a b : Order) → (order_eq.ghosts).eq a b ≡ is_same_order a b
order_same Little Little = refl
order_same Little Big = refl
order_same Big Little = refl
order_same Big Big = refl

sections_same : (ss ts : List Section) →
    pointwise (section_eq.ghosts).eq ss ts ≡ pointwise is_same_section (map section_value ss) (map section_value ts)
sections_same ss ts = (λ i. pointwise (λ s t. section_same s t i) ss ts) ∙ sym (pointwise-map section_value is_same_section ss ts)

symbols_same : (ss ts : List Symbol) →
    pointwise (symbol_eq.ghosts).eq ss ts ≡ pointwise is_same_symbol (map symbol_value ss) (map symbol_value ts)
symbols_same ss ts = (λ i. pointwise (λ s t. symbol_same s t i) ss ts) ∙ sym (pointwise-map symbol_value is_same_symbol ss ts)

pub parts_same : (p q : ObjectParts) → (parts_eq.ghosts).eq p q ≡ is_same_object (value_of p) (value_of q)
parts_same p q = λ i.
    order_same p.order q.order i && (nat_eq p.osabi q.osabi && (nat_eq p.abi q.abi && (nat_eq p.machine q.machine && (nat_eq p.flags q.flags
    && (sections_same p.sections.items q.sections.items i && symbols_same p.symbols.items q.symbols.items i)))))
