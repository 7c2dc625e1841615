-- The sections that an object keeps of a file that breaks no rule. By rules 49, 73 and 74 the symbol table and index table left out are the
-- only ones of their types. Rule 72 excludes foreign types, so rule 2 of objects is kept. The own table of a kept section breaks no rule,
-- by induction on the list of kept sections.
use Rattle.std.proofs.Common.{◌≡◌, ℕ, ◌<◌, Bool, List, [], false, true, get_or, length, sym, ap, subst, ◌∙◌, arith, ◌≢◌, zero, suc, ◌||◌}
use Rattle.std.proofs.Common.{Option, None, Some, ◌∷◌, inl, inr, refl, ◌⊎◌, ◌≤◌, map}
use Rattle.std.specs.Prelude.{◌==◌, Contains, drop, if◌then◌else◌, ◌&&◌, not, bit_and, pos, Any, unwrap_or}
use Rattle.std.specs.List.{position_or_len, AllByRecursion}
use Rattle.std.proofs.lemmas.Bool.{eq-eqb, cases_eq, eqb-true}
use Rattle.std.proofs.lemmas.List.{get_or-map, get_or-take, length-map, length-take}
use Rattle.std.proofs.lemmas.List.Sums.{fails_before_first}
use Rattle.std.specs.Cmp.Derive.{both_true}
use Rattle.std.proofs.Math.Logic.{∥∥₁_elim}
use Rattle.std.specs.Coded.{Coded-set, coded_option, coded×, coded_ℕ}
use Rattle.elf_extent.specs.Extent.{Never}
use Rattle.elf_field.specs.Abi.{SHT_NULL, SHT_SYMTAB, SHT_SYMTAB_SHNDX, SHT_GROUP, SHT_NOBITS, SHT_REL, SHT_RELA, RELA_SIZE, REL_SIZE}
use Rattle.elf_field.specs.Abi.{SHF_INFO_LINK, relocation_size}
use Rattle.elf_field.specs.declared.shdr.Shdr.{Shdr}
use Rattle.elf_image_outline.specs.Image.{value_names, ImageValue, IsSoundImage, program_header_of, section_header_of}
use Rattle.elf_image_rules.proofs.Public.{FirstIn-after, FirstIn-front, rules_kept}
use Rattle.elf_image_rules.specs.KeepsRules.{KeepsSectionRules}
use Rattle.elf_image_rules.specs.Rows.{FirstIn}
use Rattle.elf_field.specs.Strings.{string}
use Rattle.elf_object_reader.proofs.FileRules.{all_bodies_sound, front_sound, symbols_sound}
use Rattle.elf_object_layout.proofs.Public.{and_true, first_found, symbol_table_there}
use Rattle.elf_object_type.proofs.Public.{listed, stands_at}
use Rattle.elf_object_layout.specs.SectionsLeftOut.{is_kept, left_out, is_at, symbol_indexes, symbol_table}
use Rattle.elf_object_reader.specs.Denotes.{Denotes, section_denoted, kept, position_of, body_denoted, body_kind, info_denoted}
use Rattle.elf_object_reader.specs.Denotes.{link_denoted, relocation_denoted, section_name_of}
use Rattle.elf_object_reader.specs.FileRules.{IsForeignType, file_rules, foreign_section, front_rules, rules_of_bodies, rules_of_body}
use Rattle.elf_object_reader.specs.FileRules.{rules_of_symbols, second_symbol_table, stray_index_table, sections_of_file}
use Rattle.elf_object_reader.specs.declared.object_file.BodyKind.TheVariants.{Bits, NoBits, Relocs, Group}
use Rattle.elf_object_reader.specs.declared.object_file.BodyKind.{BodyKind}
use Rattle.elf_object_reader.specs.declared.object_file.FileSection.{FileSection}
use Rattle.elf_object_layout.specs.declared.left_out.LeftOut.{LeftOut}
use Rattle.elf_object_reader.specs.declared.object_file.ObjectFile.{ObjectFile}
use Rattle.elf_object_reader.specs.declared.reading.KeptSection.{KeptSection}
use Rattle.elf_object_reader.specs.declared.reading.ObjectReader.{ObjectReader}
use Rattle.elf_object_type.proofs.Public.{aligned}
use Rattle.elf_object_type.specs.Object.{ObjectValue, SectionValue, no_section, section_at}
use Rattle.elf_object_type.specs.ObjectRules.{zero_in_section_name, IsWrongBitsType, types_without_bits, wrong_bits_type, HasWrongAlignment}
use Rattle.elf_object_type.specs.ObjectRules.{HasWrongField, IsAgainstFlag, wrong_alignment, wrong_field}
use Rattle.elf_object_type.specs.declared.relocations.Relocation.{Relocation}
use Rattle.elf_table_all.proofs.Public.{kind_asked, none_kept}
use Rattle.elf_table_all.specs.Tables.{rules_of_kind, table_rules, HasSoundTable}
use Rattle.elf_table_lists.proofs.Public.{length_relocations, relocation_get}
use Rattle.elf_table_lists.specs.Groups.{group_section_rules}
use Rattle.elf_table_lists.specs.Relocations.{relocation_section_rules, has_addends, no_relocation_entry, relocation_count, relocation_in}
use Rattle.elf_table_lists.specs.Relocations.{relocations_of}
use Rattle.elf_table_symbols.proofs.Public.{symbols_kind}
use Rattle.elf_table_symbols.specs.Sections.{Sections, count, section, own_rules, sections_of, kind_of, content, order, entry_size}
use Rattle.elf_table_symbols.specs.Symbols.{IsIndexTable, index_table, linked_string_rules, symbol_parts, entry_count, index_table_rules}
use Rattle.elf_table_symbols.specs.Symbols.{rest_rules, second_index_table, symbol_entry_rules, symbol_table_rules}
use Rattle.elf_table_symbols.specs.declared.table_section.TableKind.TheVariants.{SymbolTable, RelocationTable, SectionGroup}
use Rattle.elf_table_symbols.specs.declared.table_section.TableKind.{TableKind}
use Rattle.elf_object_type.specs.declared.parts.Info.TheVariants as info
use Rattle.elf_table_lists.specs.declared.relocations.Relocation as table_relocation

-- The object that a file denotes, by position. The section at position q is the kept section that has q kept ones of lower index, and each
-- kept section is at its position. Section names are strings, so they have no zero byte: rule 1 of objects.

-- the section at a position is one of the file that is kept
pub record IsSectionOf (f : Sections) (o : ObjectValue) (q i : ℕ) : Type 0 where
  pub there : i < count f
  pub is_kept : is_kept (left_out f) f i ≡ true
  pub position : position_of (left_out f) f i ≡ q
  pub section : section_at o q ≡ section_denoted (left_out f) f i

section_get : (f : Sections) (o : ObjectValue) (q i : ℕ) → Denotes f o → q < length (kept (left_out f) f) →
    get_or (kept (left_out f) f) q 0 ≡ i → section_at o q ≡ section_denoted (left_out f) f i
section_get f o q i denotes lt is =
    ap (λ (ss : List SectionValue). get_or ss q no_section) denotes.sections ∙
    get_or-map (section_denoted (left_out f) f) (kept (left_out f) f) q 0 no_section lt ∙ ap (section_denoted (left_out f) f) is

pub section_count : (f : Sections) (o : ObjectValue) → Denotes f o → length o.sections ≡ length (kept (left_out f) f)
section_count f o denotes =
    ap (λ (ss : List SectionValue). length ss) denotes.sections ∙ length-map (kept (left_out f) f) (section_denoted (left_out f) f)

pub section_at_position : (f : Sections) (o : ObjectValue) (q : ℕ) → Denotes f o → q < length o.sections → (i : ℕ) × IsSectionOf f o q i
section_at_position f o q denotes lt =
    let within : q < length (kept (left_out f) f) = omega (arith, section_count f o denotes) in
    let (i, found) = listed (is_kept (left_out f) f) (count f) q within in (
      i,
      record {
        there = found.there;
        is_kept = found.passes;
        position = found.place_is;
        section =
            section_get f o q i denotes within found.at;
      },
    )

-- and each section of the file that is kept is at its position
pub position_there : (f : Sections) (o : ObjectValue) (i : ℕ) → Denotes f o → i < count f → is_kept (left_out f) f i ≡ true →
    position_of (left_out f) f i < length o.sections
position_there f o i denotes lt is =
    let stands = stands_at (is_kept (left_out f) f) (count f) i lt is in
    let below = stands.below in
    omega (arith, section_count f o denotes)

pub section_at_index : (f : Sections) (o : ObjectValue) (i : ℕ) → Denotes f o → i < count f → is_kept (left_out f) f i ≡ true →
    section_at o (position_of (left_out f) f i) ≡ section_denoted (left_out f) f i
section_at_index f o i denotes lt is =
    let stands = stands_at (is_kept (left_out f) f) (count f) i lt is in
    section_get f o (position_of (left_out f) f i) i denotes stands.below stands.at

-- ---- names

-- a string has no zero byte
pub no_zero_in_string : (table : List ℕ) (x : ℕ) → Contains (string table x) 0 → ⊥
no_zero_in_string table x (k, within, has_zero) =
    let rest = drop x table in
    let first = position_or_len (λ (byte : ℕ). byte == 0) rest in
    let below : k < first = omega (arith, length-take first rest) in
    let other = fails_before_first (λ (byte : ℕ). byte == 0) rest k 0 below in
    let is = eq-eqb (get_or rest k 0) 0 (sym (get_or-take first rest k 0 below) ∙ has_zero) in
    let both : false ≡ true = sym other ∙ is in
    cc

zero_in_either : (b : Bool) (s : List ℕ) → (Contains s 0 → ⊥) → Contains (if b then [] else s) 0 → ⊥
zero_in_either true s never (k, within, has_zero) = absurd (omega arith)
zero_in_either false s never has = never has

no_zero_in_name : (f : Sections) (i : ℕ) → Contains (section_denoted (left_out f) f i).name 0 → ⊥
unfolding section_denoted
no_zero_in_name f i has =
    let names = value_names f.header f.headers f.contents in
    let s = section f i in
    zero_in_either (s.sh_type == SHT_NULL) (string names s.sh_name) (no_zero_in_string names s.sh_name) has

-- so rule 1 of objects is kept
pub no_zero_in_section_name : (f : Sections) (o : ObjectValue) → Denotes f o → Never (zero_in_section_name o)
no_zero_in_section_name f o denotes x (q, within, broken, here) =
    let (i, is) = section_at_position f o q denotes within in
    no_zero_in_name f i (subst (λ (s : SectionValue). Contains s.name 0) is.section broken)

-- ---- what is known of a section that is kept

neither : (x y : Bool) → not (x || y) ≡ true → (x ≡ false) × (not y ≡ true)
neither false y is = (refl, is)
neither true y is = cc

pub differs : (x y : ℕ) → (x == y) ≡ false → x ≡ y → ⊥
differs x y test same = let both : true ≡ false = sym (eq-eqb x y same) ∙ test in cc

-- it has a type
pub kept_not_null : (left : LeftOut) (f : Sections) (i : ℕ) → is_kept left f i ≡ true → ((section f i).sh_type == SHT_NULL) ≡ false
unfolding is_kept
kept_not_null left f i is = (neither ((section f i).sh_type == SHT_NULL) _ is).0

pub record IsKeptSection (left : LeftOut) (f : Sections) (i : ℕ) : Type 0 where
  pub typed : (section f i).sh_type ≡ SHT_NULL → ⊥
  pub above : i ≡ 0 → ⊥
  pub no_symbols : is_at left.symbol_table i ≡ false
  pub no_indexes : is_at left.index_table i ≡ false

pub kept_section : (left : LeftOut) (f : Sections) (i : ℕ) → is_kept left f i ≡ true → IsKeptSection left f i
unfolding is_kept
kept_section left f i is =
    let null = neither ((section f i).sh_type == SHT_NULL) _ is in
    let first = neither (i == 0) _ null.1 in
    let symbols = neither (is_at left.symbol_table i) _ first.1 in
    let strings = neither (is_at left.strings i) _ symbols.1 in
    let indexes = neither (is_at left.index_table i) _ strings.1 in
    record {
      typed = differs (section f i).sh_type SHT_NULL null.0;
      above = differs i 0 first.0;
      no_symbols = symbols.0;
      no_indexes = indexes.0;
    }

-- ---- rules 72 to 74

pub no_foreign_section : (f : Sections) → FirstIn (file_rules f) None → Never (foreign_section f)
unfolding front_rules
no_foreign_section f clean = (front_sound f clean).1.1.0

no_second_symbol_table : (f : Sections) → FirstIn (file_rules f) None → Never (second_symbol_table f)
unfolding front_rules
no_second_symbol_table f clean = (front_sound f clean).1.1.1.0

no_stray_index_table : (f : Sections) → FirstIn (file_rules f) None → Never (stray_index_table f)
unfolding front_rules
no_stray_index_table f clean = (front_sound f clean).1.1.1.1.0

-- a symbol table is the one symbol table
pub symbol_table_at : (f : Sections) (i : ℕ) → FirstIn (file_rules f) None → i < count f → (section f i).sh_type ≡ SHT_SYMTAB →
    symbol_table f ≡ Some i
unfolding symbol_table
symbol_table_at f i clean lt typed =
    sym (first_found (λ (s : Shdr). s.sh_type == SHT_SYMTAB) f (λ k. (section f k).sh_type ≡ SHT_SYMTAB) i (λ k is. eq-eqb _ _ is)
    (λ k test. eqb-true _ _ test)
    lt (λ k below other. no_second_symbol_table f clean _ (i, lt, (typed, (k, below, other)), refl)) typed)

at_itself : (i : ℕ) (found : Option ℕ) → found ≡ Some i → is_at found i ≡ false → ⊥
at_itself i found same other =
    let there : is_at (Some i) i ≡ false = subst (λ (o : Option ℕ). is_at o i ≡ false) same other in
    differs i i there refl

no_symbol_table : (f : Sections) (i : ℕ) → FirstIn (file_rules f) None → i < count f → IsKeptSection (left_out f) f i →
    (section f i).sh_type ≡ SHT_SYMTAB → ⊥
no_symbol_table f i clean lt is typed = at_itself i (symbol_table f) (symbol_table_at f i clean lt typed) is.no_symbols

-- an index table is linked to it
linked : (found : Option ℕ) (link : ℕ) → (found ≢ Some link → ⊥) → found ≡ Some link
linked None link other = absurd (other (λ same. cc))
linked (Some t) link other = elim (cases_eq t link) [
  | inl same ↦ ap (λ (k : ℕ). Some k) same
  | inr differs ↦ absurd (other (λ same. (let t_is : t ≡ link = cc in differs t_is)))
]

pub symbols_of_table : (f : Sections) (t : ℕ) → FirstIn (file_rules f) None → symbol_table f ≡ Some t →
    FirstIn (symbol_table_rules f t) None
symbols_of_table f t clean is = subst (λ (table : Option ℕ). FirstIn (rules_of_symbols f table) None) is (symbols_sound f clean)

no_second_index_table : (f : Sections) (t : ℕ) → FirstIn (symbol_table_rules f t) None → Never (second_index_table f t)
unfolding symbol_table_rules rest_rules index_table_rules
no_second_index_table f t clean =
    let p = symbol_parts f t in
    let later =
    FirstIn-after (symbol_entry_rules p) _
    (FirstIn-after (linked_string_rules p.names p.names_start) _ (FirstIn-after (own_rules SymbolTable f t) _ clean)) in
    (FirstIn-front (index_table_rules f t p.index_table (entry_count p.table)) _ later).0

index_table_at : (f : Sections) (t i : ℕ) → Never (second_index_table f t) → i < count f → IsIndexTable f t i → index_table f t ≡ Some i
unfolding index_table
index_table_at f t i never lt is =
    sym (first_found (λ (s : Shdr). (s.sh_type == SHT_SYMTAB_SHNDX) && (s.sh_link == t)) f (IsIndexTable f t) i
    (λ k is. both_true (eq-eqb _ _ is.0) (eq-eqb _ _ is.1))
    (λ k test. (let parts = and_true _ _ test in (eqb-true _ _ parts.0, eqb-true _ _ parts.1)))
    lt (λ k below other. never _ (i, lt, (is, (k, below, other)), refl)) is)

no_index_table : (f : Sections) (i : ℕ) → FirstIn (file_rules f) None → i < count f → IsKeptSection (left_out f) f i →
    (section f i).sh_type ≡ SHT_SYMTAB_SHNDX → ⊥
no_index_table f i clean lt is typed =
    let link = (section f i).sh_link in
    let table = linked (symbol_table f) link (λ other. no_stray_index_table f clean _ (i, lt, (typed, other), refl)) in
    let first = index_table_at f link i (no_second_index_table f link (symbols_of_table f link clean table)) lt (typed, refl) in
    at_itself i (symbol_indexes f (symbol_table f)) (ap (symbol_indexes f) table ∙ first) is.no_indexes

-- ---- rule 2 of objects is kept

none_of : (xs : List ℕ) (y : ℕ) → AllByRecursion (λ x. x ≡ y → ⊥) xs → Contains xs y → ⊥
none_of [] y all (k, within, at) = absurd (omega arith)
none_of (x ∷ xs) y all (zero, within, at) = all.0 at
none_of (x ∷ xs) y all (suc k, within, at) = none_of xs y all.1 (k, omega arith, at)

other_kind : (type other : ℕ) (kind : BodyKind) → body_kind type ≡ Bits → body_kind other ≡ kind → (kind ≡ Bits → ⊥) → other ≡ type → ⊥
other_kind type other kind bits is differs same = differs (sym is ∙ ap (λ (t : ℕ). body_kind t) same ∙ bits)

no_bits_differ : NoBits ≡ Bits → ⊥
no_bits_differ same = cc

relocs_differ : Relocs ≡ Bits → ⊥
relocs_differ same = cc

group_differs : Group ≡ Bits → ⊥
group_differs same = cc

type_of_bits : (f : Sections) (i : ℕ) → FirstIn (file_rules f) None → i < count f → IsKeptSection (left_out f) f i →
    body_kind (section f i).sh_type ≡ Bits →
    Contains types_without_bits (section f i).sh_type → ⊥
type_of_bits f i clean lt is bits =
    let type = (section f i).sh_type in
    let foreign : IsForeignType type → ⊥ = λ broken. no_foreign_section f clean _ (i, lt, broken, refl) in
    none_of types_without_bits type (
      (λ same. is.typed (sym same)),
      (
        (λ same. no_symbol_table f i clean lt is (sym same)),
        (
          (λ same. other_kind type _ Relocs bits refl relocs_differ same),
          (
            (λ same. foreign (inl (sym same))),
            (
              (λ same. foreign (inr (inl (sym same)))),
              (
                (λ same. other_kind type _ NoBits bits refl no_bits_differ same),
                (
                  (λ same. other_kind type _ Relocs bits refl relocs_differ same),
                  (
                    (λ same. foreign (inr (inr (inl (sym same))))),
                    (
                      (λ same. foreign (inr (inr (inr (sym same))))),
                      (
                        (λ same. other_kind type _ Group bits refl group_differs same),
                        (
                          (λ same. no_index_table f i clean lt is (sym same)),
                          tt,
                        ),
                      ),
                    ),
                  ),
                ),
              ),
            ),
          ),
        ),
      ),
    )

body_of_type : (f : Sections) (i : ℕ) (kind : BodyKind) → body_kind (section f i).sh_type ≡ kind →
    (kind ≡ Bits → Contains types_without_bits (section f i).sh_type → ⊥) →
    IsWrongBitsType (body_denoted (left_out f) f i kind) → ⊥
body_of_type f i Bits is never broken = never refl broken
body_of_type f i NoBits is never broken = broken
body_of_type f i Relocs is never broken = broken
body_of_type f i Group is never broken = broken

bits_of_section : (f : Sections) (i : ℕ) → FirstIn (file_rules f) None → i < count f → is_kept (left_out f) f i ≡ true →
    IsWrongBitsType (section_denoted (left_out f) f i).body → ⊥
unfolding section_denoted
bits_of_section f i clean lt is broken =
    body_of_type f i (body_kind (section f i).sh_type) refl
    (λ bits. type_of_bits f i clean lt (kept_section (left_out f) f i is) bits) broken

pub no_wrong_bits_type : (f : Sections) (o : ObjectValue) → FirstIn (file_rules f) None → Denotes f o → Never (wrong_bits_type o)
no_wrong_bits_type f o clean denotes x (q, within, broken, here) =
    let (i, is) = section_at_position f o q denotes within in
    bits_of_section f i clean is.there is.is_kept (subst (λ (s : SectionValue). IsWrongBitsType s.body) is.section broken)

-- ---- the rules of the tables that are kept

body_in : (f : Sections) (is : List ℕ) (q : ℕ) → q < length is → FirstIn (rules_of_bodies f is) None →
    let i = get_or is q 0 in FirstIn (rules_of_body (body_kind (section f i).sh_type) f i) None
body_in f [] q lt clean = absurd (omega arith)
body_in f (i ∷ is) zero lt clean = FirstIn-front (rules_of_body (body_kind (section f i).sh_type) f i) _ clean
body_in f (i ∷ is) (suc q) lt clean =
    body_in f is q (omega arith) (FirstIn-after (rules_of_body (body_kind (section f i).sh_type) f i) _ clean)

pub table_sound : (f : Sections) (i : ℕ) → FirstIn (file_rules f) None → i < count f → is_kept (left_out f) f i ≡ true →
    FirstIn (rules_of_body (body_kind (section f i).sh_type) f i) None
table_sound f i clean lt is =
    let stands = stands_at (is_kept (left_out f) f) (count f) i lt is in
    subst (λ (k : ℕ). FirstIn (rules_of_body (body_kind (section f k).sh_type) f k) None) stands.at
    (body_in f (kept (left_out f) f) _ stands.below (all_bodies_sound f clean))

-- The tables of an object file, and their verdicts. The type of a section gives the kind of its table, and the verdict on it is that of the
-- kind's rules. So a table without a fault can be read: the group in a kept section, and the symbol table.

-- ---- the kind of table in a section with such a body

relocs_tested : (a b c : Bool) → (if a then NoBits else (if b then Relocs else (if c then Group else Bits))) ≡ Relocs → b ≡ true
relocs_tested true b c is = cc
relocs_tested false true c is = refl
relocs_tested false false true is = cc
relocs_tested false false false is = cc

group_tested : (a b c : Bool) → (if a then NoBits else (if b then Relocs else (if c then Group else Bits))) ≡ Group → c ≡ true
group_tested true b c is = cc
group_tested false true c is = cc
group_tested false false true is = refl
group_tested false false false is = cc

either_true : (a b : Bool) → (a || b) ≡ true → (a ≡ true) ⊎ (b ≡ true)
either_true true b is = inl refl
either_true false b is = inr is

pub relocs_kind : (type : ℕ) → body_kind type ≡ Relocs → kind_of type ≡ Some RelocationTable
relocs_kind type is =
    elim (either_true (type == SHT_RELA) (type == SHT_REL)
    (relocs_tested (type == SHT_NOBITS) ((type == SHT_RELA) || (type == SHT_REL)) (type == SHT_GROUP) is)) [
      | inl rela ↦ rw (eqb-true _ _ rela) refl
      | inr rel ↦ rw (eqb-true _ _ rel) refl
    ]

pub group_kind : (type : ℕ) → body_kind type ≡ Group → kind_of type ≡ Some SectionGroup
group_kind type is =
    rw (eqb-true _ _ (group_tested (type == SHT_NOBITS) ((type == SHT_RELA) || (type == SHT_REL)) (type == SHT_GROUP) is)) refl

-- ---- what the tables ask before they are handed out

ready : (file : ObjectFile) (i : ℕ) (kind : TableKind) → i < count (sections_of_file file) →
    kind_of (section (sections_of_file file) i).sh_type ≡ Some kind →
    FirstIn (rules_of_kind (Some kind) (sections_of_file file) i) None → HasSoundTable file.tables i kind
ready file i kind lt typed sound = record {
  there = subst (λ (v : ImageValue). i < length v.sections) (sym file.own_tables) lt;
  typed = subst (λ (v : ImageValue). kind_of (section (sections_of v) i).sh_type ≡ Some kind) (sym file.own_tables) typed;
  sound = ∥∥₁_elim file.validated (Coded-set (coded_option (coded× coded_ℕ coded_ℕ)) _ _)
      (λ are. none_kept (sections_of_file file) i (Some kind) file.tables.verdicts are lt typed sound);
}

-- the verdict on a table is that of its kind's rules
asked : (file : ObjectFile) (i : ℕ) (kind : TableKind) (found : Option (ℕ × ℕ)) →
    kind_of (section (sections_of_file file) i).sh_type ≡ Some kind →
    FirstIn (table_rules (sections_of file.tables.image) i) found → FirstIn (rules_of_kind (Some kind) (sections_of_file file) i) found
asked file i kind found typed run =
    kind_asked (sections_of_file file) i (Some kind) found typed
    (subst (λ (v : ImageValue). FirstIn (table_rules (sections_of v) i) found) file.own_tables run)

-- so are the rules of a section, by the kind of its body
body_found : (s : FileSection) (body : BodyKind) (kind : TableKind) (found : Option (ℕ × ℕ)) → body_kind s.header.sh_type ≡ body →
    kind_of s.header.sh_type ≡ Some kind →
    (FirstIn (rules_of_kind (Some kind) (sections_of_file s.file.now) s.index) found →
    FirstIn (rules_of_body body (sections_of_file s.file.now) s.index) found) →
    FirstIn (table_rules (sections_of s.file.now.tables.image) s.index) found →
    (let f = sections_of_file s.file.now in FirstIn (rules_of_body (body_kind (section f s.index).sh_type) f s.index) found)
body_found s body kind found is typed same run =
    let own = subst (λ (h : Shdr). kind_of h.sh_type ≡ Some kind) s.own_header typed in
    let here = subst (λ (h : Shdr). body_kind h.sh_type ≡ body) s.own_header is in
    subst (λ (k : BodyKind). FirstIn (rules_of_body k (sections_of_file s.file.now) s.index) found) (sym here)
    (same (asked s.file.now s.index kind found own run))

pub relocs_found : (s : FileSection) (found : Option (ℕ × ℕ)) → body_kind s.header.sh_type ≡ Relocs →
    FirstIn (table_rules (sections_of s.file.now.tables.image) s.index) found →
    (let f = sections_of_file s.file.now in FirstIn (rules_of_body (body_kind (section f s.index).sh_type) f s.index) found)
relocs_found s found is run = body_found s Relocs RelocationTable found is (relocs_kind s.header.sh_type is) (λ said. said) run

pub group_found : (s : FileSection) (found : Option (ℕ × ℕ)) → body_kind s.header.sh_type ≡ Group →
    FirstIn (table_rules (sections_of s.file.now.tables.image) s.index) found →
    (let f = sections_of_file s.file.now in FirstIn (rules_of_body (body_kind (section f s.index).sh_type) f s.index) found)
group_found s found is run = body_found s Group SectionGroup found is (group_kind s.header.sh_type is) (λ said. said) run

-- ---- of a section that is kept

-- its table breaks no rule
kept_table : (s : KeptSection) (kind : BodyKind) → body_kind s.header.sh_type ≡ kind →
    (let f = sections_of_file s.reader.now.file in
    (body_kind (section f s.index).sh_type ≡ kind) × FirstIn (rules_of_body kind f s.index) None)
kept_table s kind is =
    let f = sections_of_file s.reader.now.file in
    let typed = subst (λ (h : Shdr). body_kind h.sh_type ≡ kind) s.own_header is in
    let kept = subst (λ (left : LeftOut). is_kept left f s.index ≡ true) s.reader.now.file.own_left s.kept in (
      typed,
      subst (λ (k : BodyKind). FirstIn (rules_of_body k f s.index) None) typed
          (table_sound f s.index s.reader.now.sound s.there kept),
    )

pub group_ready : (s : KeptSection) → body_kind s.header.sh_type ≡ Group → HasSoundTable s.reader.now.file.tables s.index SectionGroup
group_ready s is =
    let (typed, sound) = kept_table s Group is in
    ready s.reader.now.file s.index SectionGroup s.there
    (group_kind (section (sections_of_file s.reader.now.file) s.index).sh_type typed) sound

-- ---- the symbol table

pub record AreSymbolsThere (file : ObjectFile) (t : ℕ) : Type 0 where
  pub here : t < count (sections_of_file file)
  pub kind : kind_of (section (sections_of_file file) t).sh_type ≡ Some SymbolTable
  pub there : t < length file.tables.image.sections

pub symbols_there : (file : ObjectFile) (t : ℕ) → file.left.symbol_table ≡ Some t → AreSymbolsThere file t
symbols_there file t is =
    let (here, typed) = symbol_table_there (sections_of_file file) t (sym (ap (λ (l : LeftOut). l.symbol_table) file.own_left) ∙ is) in
    record {
      here = here;
      kind = symbols_kind (section (sections_of_file file) t).sh_type (inl typed);
      there = subst (λ (v : ImageValue). t < length v.sections) (sym file.own_tables) here;
    }

-- the verdict on it
pub symbol_run_found : (file : ObjectFile) (t : ℕ) (found : Option (ℕ × ℕ)) → file.left.symbol_table ≡ Some t →
    FirstIn (table_rules (sections_of file.tables.image) t) found → FirstIn (symbol_table_rules (sections_of_file file) t) found
symbol_run_found file t found is run = asked file t SymbolTable found (symbols_there file t is).kind run

pub symbols_ready : (file : ObjectFile) (t : ℕ) → file.left.symbol_table ≡ Some t →
    FirstIn (symbol_table_rules (sections_of_file file) t) None →
    HasSoundTable file.tables t SymbolTable
symbols_ready file t is sound = (let there = symbols_there file t is in ready file t SymbolTable there.here there.kind sound)

pub sound_symbols : (reader : ObjectReader) (t : ℕ) → reader.file.left.symbol_table ≡ Some t →
    HasSoundTable reader.file.tables t SymbolTable
sound_symbols reader t is =
    let own = sym (ap (λ (l : LeftOut). l.symbol_table) reader.file.own_left) in
    symbols_ready reader.file t is (symbols_of_table (sections_of_file reader.file) t reader.sound (own ∙ is))

-- The sections of the object that a file denotes keep rules 3 and 5 of objects. Rule 3 follows from rules 22 and 23, if the image is sound.
-- Rule 5 goes by the kind of body, if the file breaks no rule. Entries have their size by rule 42 of files, and the other fields are right
-- by the definition of the object.

-- ---- rule 3 of objects

-- what the rules of the image say of its sections
sections_kept : (v : ImageValue) → IsSoundImage v → KeepsSectionRules v.len (length v.sections) (section_header_of v.sections)
sections_kept v sound =
    let names = value_names v.header v.sections v.contents in
    let rules = rules_kept v.len v.header (section_header_of v.sections) (program_header_of v.segments) names sound.clean in
    subst (λ (n : ℕ). KeepsSectionRules v.len n (section_header_of v.sections)) (sym sound.section_count) rules.records.sections

section_aligned : (v : ImageValue) (i : ℕ) → IsSoundImage v → i < length v.sections →
    is_kept (left_out (sections_of v)) (sections_of v) i ≡ true →
    HasWrongAlignment (section_denoted (left_out (sections_of v)) (sections_of v) i) → ⊥
unfolding section_denoted
section_aligned v i sound lt is broken =
    let f = sections_of v in
    let kept = kept_section (left_out f) f i is in
    let rules = sections_kept v sound in
    let above : 1 ≤ i = (let other = kept.above in omega arith) in
    aligned (section f i).sh_addralign (section f i).sh_addr (rules.alignment i above lt kept.typed)
    (rules.address i above lt kept.typed) broken

pub no_wrong_alignment : (v : ImageValue) (o : ObjectValue) → IsSoundImage v → Denotes (sections_of v) o → Never (wrong_alignment o)
no_wrong_alignment v o sound denotes x (q, within, broken, here) =
    let (i, is) = section_at_position (sections_of v) o q denotes within in
    section_aligned v i sound is.there is.is_kept (subst HasWrongAlignment is.section broken)

-- ---- rule 5 of objects

-- section i, with a body of this kind
abbrev pub section_with : LeftOut → Sections → ℕ → BodyKind → SectionValue
section_with left f i kind =
    let s = section f i in
    record {
      name = section_name_of f i;
      flags = s.sh_flags;
      addr = s.sh_addr;
      align = s.sh_addralign;
      entsize = s.sh_entsize;
      link = link_denoted left f s kind;
      info = info_denoted left f s kind;
      body = body_denoted left f i kind;
    }

pub denoted_with : (left : LeftOut) (f : Sections) (i : ℕ) →
    section_denoted left f i ≡ section_with left f i (body_kind (section f i).sh_type)
unfolding section_denoted
denoted_with left f i = refl

flag_agrees : (flags number position : ℕ) (b : Bool) → (bit_and flags SHF_INFO_LINK == 0) ≡ b →
    IsAgainstFlag flags (if b then info.Number number else info.Section position) → ⊥
flag_agrees flags number position true is against = against (eqb-true _ _ is)
flag_agrees flags number position false is lacks = let none : true ≡ false = sym (rw lacks refl) ∙ is in cc

-- the entries have their size
entries_sized : (kind : TableKind) (f : Sections) (i : ℕ) → FirstIn (own_rules kind f i) None →
    (section f i).sh_entsize ≡ entry_size kind (section f i).sh_type
unfolding own_rules
entries_sized kind f i own = elim (cases_eq (section f i).sh_entsize (entry_size kind (section f i).sh_type)) [
  | inl same ↦ same
  | inr other ↦ absurd (own.1.0 _ (other, refl))
]

size_of : (b : Bool) → (if b then RELA_SIZE else REL_SIZE) ≡ relocation_size b
size_of true = refl
size_of false = refl

-- a relocation without an addend adds 0
no_addend : (f : Sections) (i k : ℕ) → has_addends (section f i).sh_type ≡ false → k < length (relocations_of f i) →
    (get_or (relocations_of f i) k no_relocation_entry).addend ≡ None
unfolding relocations_of relocation_in
no_addend f i k rel lt =
    let addends = has_addends (section f i).sh_type in
    let within : k < relocation_count addends (content f i) = omega (arith, length_relocations addends (order f) (content f i)) in
    ap (λ (r : table_relocation.Relocation). r.addend) (relocation_get addends (order f) (content f i) k within) ∙ without addends rel where
      without : (b : Bool) → b ≡ false → (relocation_in b (order f) (content f i) k).addend ≡ None
      without true is = cc
      without false is = refl

no_addends : (f : Sections) (i : ℕ) → has_addends (section f i).sh_type ≡ false →
    Any (λ (entry : Relocation). entry.addend ≢ pos 0) (map relocation_denoted (relocations_of f i)) → ⊥
no_addends f i rel (k, x, lt, at, other) =
    let rs = relocations_of f i in
    let within : k < length rs = omega (arith, length-map rs relocation_denoted) in
    let is : x ≡ relocation_denoted (get_or rs k no_relocation_entry) =
    sym at ∙ get_or-map relocation_denoted rs k no_relocation_entry x within in
    other (ap (λ (r : Relocation). r.addend) is ∙ ap (λ (a : Option _). unwrap_or a (pos 0)) (no_addend f i k rel within))

fields_of : (left : LeftOut) (f : Sections) (i : ℕ) (kind : BodyKind) → FirstIn (rules_of_body kind f i) None →
    HasWrongField (section_with left f i kind) (section_with left f i kind).body → ⊥
unfolding relocation_section_rules group_section_rules
fields_of left f i Bits sound broken =
    flag_agrees (section f i).sh_flags (section f i).sh_info _ (bit_and (section f i).sh_flags SHF_INFO_LINK == 0) refl broken
fields_of left f i NoBits sound broken =
    flag_agrees (section f i).sh_flags (section f i).sh_info _ (bit_and (section f i).sh_flags SHF_INFO_LINK == 0) refl broken
fields_of left f i Relocs sound (inl (inl linked)) = linked refl
fields_of left f i Relocs sound (inl (inr said)) = said refl
fields_of left f i Relocs sound (inr (inl sized)) =
    sized (entries_sized RelocationTable f i (FirstIn-front (own_rules RelocationTable f i) _ sound) ∙
    size_of (has_addends (section f i).sh_type))
fields_of left f i Relocs sound (inr (inr (rel, some))) = no_addends f i rel some
fields_of left f i Group sound (inl (inl linked)) = linked refl
fields_of left f i Group sound (inl (inr said)) = said refl
fields_of left f i Group sound (inr sized) = sized (entries_sized SectionGroup f i (FirstIn-front (own_rules SectionGroup f i) _ sound))

pub no_wrong_field : (f : Sections) (o : ObjectValue) → FirstIn (file_rules f) None → Denotes f o → Never (wrong_field o)
no_wrong_field f o clean denotes x (q, within, broken, here) =
    let (i, is) = section_at_position f o q denotes within in
    fields_of (left_out f) f i (body_kind (section f i).sh_type) (table_sound f i clean is.there is.is_kept)
    (subst (λ (s : SectionValue). HasWrongField s s.body) (is.section ∙ denoted_with (left_out f) f i) broken)
