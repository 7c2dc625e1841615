-- The object that a file denotes is an object, if the image is sound and the file breaks no rule. The nine rules are joined one by one,
-- each from the file that proves it.
use Rattle.std.proofs.Common.{◌≡◌, ℕ, ◌-◌, ◌<◌, ◌⊎◌, Bool, true, false, Option, None, Some, List, get_or, length, map, inl, inr, refl, ap}
use Rattle.std.proofs.Common.{◌∙◌, arith, ◌≢◌, ◌≤◌, sym, subst}
use Rattle.std.specs.Prelude.{bit_and, drop, ◌==◌, if◌then◌else◌, Any, ◌||◌, SomeIndex, slice_index}
use Rattle.std.proofs.lemmas.Bool.{cases_eq, cases_lt, eqb-true, false_from_ne_true}
use Rattle.std.proofs.lemmas.List.{get_or-map, length-drop, length-map, get_or_default}
use Rattle.elf_extent.specs.Extent.{Never}
use Rattle.elf_field.specs.Abi.{SHF_GROUP, SHT_DYNSYM, SHT_GROUP, SHT_SYMTAB, SHF_INFO_LINK, SHT_NOBITS, SHT_REL, SHT_RELA, EI_ABIVERSION}
use Rattle.elf_field.specs.Abi.{EI_OSABI}
use Rattle.elf_field.specs.declared.number.Order.{Order}
use Rattle.elf_image_outline.specs.Image.{ImageValue, IsSoundImage}
use Rattle.elf_image_rules.proofs.Public.{FirstIn-after, FirstIn-front}
use Rattle.elf_image_rules.specs.Rows.{FirstIn}
use Rattle.elf_object_reader.proofs.DenotedSymbols.{length_symbols_of, kept_there, no_misplaced_local, no_wrong_place}
use Rattle.elf_object_reader.proofs.DenotedSymbols.{no_zero_in_symbol_name}
use Rattle.elf_object_reader.proofs.FileRules.{references_sound}
use Rattle.elf_object_reader.proofs.KeptTypes.{no_foreign_section, symbol_table_at, denoted_with, section_with, position_there}
use Rattle.elf_object_reader.proofs.KeptTypes.{section_at_index, section_at_position, differs, table_sound, no_wrong_alignment}
use Rattle.elf_object_reader.proofs.KeptTypes.{no_wrong_field, no_zero_in_section_name, no_wrong_bits_type}
use Rattle.elf_object_layout.specs.SectionsLeftOut.{is_kept, left_out, symbol_table}
use Rattle.elf_object_reader.specs.Denotes.{Denotes, symbol_denoted, symbols_denoted, position_of, body_denoted, plain_info}
use Rattle.elf_object_reader.specs.Denotes.{relocation_denoted, section_reference, body_kind, section_denoted, kept}
use Rattle.elf_object_reader.specs.FileRules.{file_rules, reference_rules, wrong_group_member, IsKeptBits, IsPlain, rules_of_body}
use Rattle.elf_object_reader.specs.FileRules.{wrong_kept_info, wrong_kept_link, wrong_relocation_target, NamesFirst}
use Rattle.elf_object_reader.specs.declared.object_file.BodyKind.TheVariants.{Bits, NoBits, Relocs, Group}
use Rattle.elf_object_reader.specs.declared.object_file.BodyKind.{BodyKind}
use Rattle.elf_object_layout.specs.declared.left_out.LeftOut.{LeftOut}
use Rattle.elf_object_type.proofs.Public.{cases_bool, found_in_symbols, one_place, places_ascend}
use Rattle.elf_object_type.specs.Object.{ObjectValue, SymbolValue, symbol_reference, SectionValue, IsPast, info_position, is_bits}
use Rattle.elf_object_type.specs.Object.{section_at, LacksFlag, is_group, members_of}
use Rattle.elf_object_type.specs.ObjectRules.{HasWrongPosition, IsNoTarget, wrong_position, IsInEarlierGroup, IsWrongMembership}
use Rattle.elf_object_type.specs.ObjectRules.{NamesMember, wrong_membership, IsObject, object_section_rules, object_symbol_rules}
use Rattle.elf_object_type.specs.declared.relocations.Relocation.{Relocation}
use Rattle.elf_table_lists.proofs.Public.{length_members, member_get, sound_group, length_relocations, relocation_get}
use Rattle.elf_table_lists.specs.Groups.{IsUnfit, group_front_rules, group_member_rules, group_rules, group_section_rules, wrong_member}
use Rattle.elf_table_lists.specs.Groups.{group_of, member, member_count, members_in, wrong_signature}
use Rattle.elf_table_lists.specs.Relocations.{relocation_section_rules, relocation_entry_rules, wrong_relocation_symbol, has_addends}
use Rattle.elf_table_lists.specs.Relocations.{no_relocation_entry, relocation_count, relocation_in, relocations_of}
use Rattle.elf_table_symbols.proofs.Public.{link_there}
use Rattle.elf_table_symbols.specs.Sections.{own_rules, Sections, content, count, order, section, IsLinkOf, IsSymbolType, sections_of}
use Rattle.elf_table_symbols.specs.Symbols.{entry_count, symbol_table_rules, symbols_of}
use Rattle.elf_table_symbols.specs.declared.table_section.TableKind.TheVariants.{RelocationTable, SectionGroup}
use Rattle.elf_table_symbols.specs.declared.table_section.TableKind.{TableKind}
use Rattle.elf_object_reader.specs.FileRules as file
use Rattle.elf_table_lists.specs.Groups as table
use Rattle.elf_object_type.specs.declared.parts.Info.TheVariants as info
use Rattle.elf_table_lists.specs.declared.relocations.Relocation as table_relocation

-- The symbol table and the groups of a file that breaks none of its rules. By rules 44, 72 and 73 relocation sections and groups link to
-- the one symbol table. The object has one symbol less than this table has entries. Rules 58 and 77 give what is needed of each member
-- (`IsMember`).

-- ---- the symbol table that tables link to

link_of : (kind : TableKind) (f : Sections) (i : ℕ) → FirstIn (own_rules kind f i) None →
    (let type = (section f (section f i).sh_link).sh_type in IsLinkOf kind type ⊎ (IsLinkOf kind type → ⊥)) →
    ((section f i).sh_link < count f) × IsLinkOf kind (section f (section f i).sh_link).sh_type
unfolding own_rules
link_of kind f i own decided =
    (link_there kind f i own, elim decided [ inl is ↦ is | inr other ↦ absurd (own.1.1.1.0 _ (inr other, refl)) ])

symbol_type : (type : ℕ) → IsSymbolType type ⊎ (IsSymbolType type → ⊥)
symbol_type type = elim (cases_eq type SHT_SYMTAB) [
  | inl same ↦ inl (inl same)
  | inr other ↦ elim (cases_eq type SHT_DYNSYM) [
    | inl same ↦ inl (inr same)
    | inr neither ↦ inr (λ either. elim either [ inl is ↦ other is | inr is ↦ neither is ])
  ]
]

-- it is the one symbol table of the file
symbols_at : (f : Sections) (k : ℕ) → FirstIn (file_rules f) None → k < count f → IsSymbolType (section f k).sh_type →
    symbol_table f ≡ Some k
symbols_at f k clean lt (inl typed) = symbol_table_at f k clean lt typed
symbols_at f k clean lt (inr typed) = absurd (no_foreign_section f clean _ (k, lt, inr (inr (inr typed)), refl))

pub symbols_of_relocations : (f : Sections) (i : ℕ) → FirstIn (file_rules f) None → FirstIn (relocation_section_rules f i) None →
    symbol_table f ≡ Some (section f i).sh_link
unfolding relocation_section_rules
symbols_of_relocations f i clean sound =
    let own = FirstIn-front (own_rules RelocationTable f i) _ sound in
    let (there, typed) = link_of RelocationTable f i own (symbol_type _) in
    symbols_at f (section f i).sh_link clean there typed

pub symbols_of_group : (f : Sections) (i : ℕ) → FirstIn (file_rules f) None → FirstIn (group_section_rules f i) None →
    symbol_table f ≡ Some (section f i).sh_link
unfolding group_section_rules
symbols_of_group f i clean sound =
    let own = FirstIn-front (own_rules SectionGroup f i) _ sound in
    let (there, typed) = link_of SectionGroup f i own (cases_eq _ SHT_SYMTAB) in
    symbols_at f (section f i).sh_link clean there (inl typed)

-- and the object has its symbols but symbol 0
pub symbol_count : (f : Sections) (o : ObjectValue) (t : ℕ) → Denotes f o → symbol_table f ≡ Some t →
    length o.symbols ≡ entry_count (content f t) - 1
symbol_count f o t denotes is =
    let all = symbols_of f t in
    ap (λ (ss : List SymbolValue). length ss) denotes.symbols ∙
    ap (λ (table : Option ℕ). length (symbols_denoted (left_out f) f table)) is ∙
    length-map (drop 1 all) (symbol_denoted (left_out f) f) ∙ length-drop 1 all ∙ ap (λ (n : ℕ). n - 1) (length_symbols_of f t)

-- ---- members

-- member j of the group in section i, section m, can be one of an object's
pub record IsMember (f : Sections) (i j m : ℕ) : Type 0 where
  pub above : i < m
  pub flagged : bit_and (section f m).sh_flags SHF_GROUP ≡ 0 → ⊥
  pub once : table.IsNamedBefore (order f) (content f i) j m → ⊥
  pub is_kept : is_kept (left_out f) f m ≡ true
  pub no_group : (section f m).sh_type ≡ SHT_GROUP → ⊥
  pub alone : file.IsMemberBefore f i m → ⊥

-- rules 58 and 77
no_wrong_member : (f : Sections) (i : ℕ) → FirstIn (group_section_rules f i) None → Never (wrong_member f i)
unfolding group_section_rules group_rules group_member_rules
no_wrong_member f i sound =
    let rest = FirstIn-after (symbol_table_rules f (section f i).sh_link) _ (FirstIn-after (own_rules SectionGroup f i) _ sound) in
    (FirstIn-after (group_front_rules f i) _ rest).0

no_wrong_group_member : (f : Sections) → FirstIn (file_rules f) None → Never (wrong_group_member (left_out f) f)
unfolding reference_rules
no_wrong_group_member f clean = (references_sound f clean).1.0

pub member_sound : (f : Sections) (i j : ℕ) → FirstIn (file_rules f) None → i < count f → FirstIn (group_section_rules f i) None →
    j < member_count (content f i) → IsMember f i j (member (order f) (content f i) j)
member_sound f i j clean lt sound within =
    let m = member (order f) (content f i) j in
    let unfit : IsUnfit f i m → ⊥ = λ unfit. no_wrong_member f i sound _ (j, within, inl unfit, refl) in
    let wrong : file.IsWrongGroupMember (left_out f) f i m → ⊥ =
    λ wrong. no_wrong_group_member f clean _ (i, lt, ((sound_group f i sound).typed, (j, within, wrong, refl))) in
    record {
      above = elim (cases_lt i m) [ inl below ↦ below | inr past ↦ absurd (unfit (inl past)) ];
      flagged = λ none. unfit (inr (inr none));
      once = λ named. no_wrong_member f i sound _ (j, within, inr named, refl);
      is_kept = elim (cases_bool (is_kept (left_out f) f m)) [ inl is ↦ is | inr other ↦ absurd (wrong (inl other)) ];
      no_group = λ typed. wrong (inr (inl typed));
      alone = λ named. wrong (inr (inr named));
    }

-- the members as the object has them: their positions
abbrev pub member_positions : Sections → ℕ → List ℕ
member_positions f i = map (position_of (left_out f) f) (group_of f i).members

pub count_members : (f : Sections) (i : ℕ) → length (member_positions f i) ≡ member_count (content f i)
unfolding group_of
count_members f i = length-map (members_in (order f) (content f i)) (position_of (left_out f) f) ∙ length_members (order f) (content f i)

pub position_of_member : (f : Sections) (i j : ℕ) → j < member_count (content f i) →
    get_or (member_positions f i) j 0 ≡ position_of (left_out f) f (member (order f) (content f i) j)
unfolding group_of
position_of_member f i j within =
    let ms = members_in (order f) (content f i) in
    let inside : j < length ms = omega (arith, length_members (order f) (content f i)) in
    get_or-map (position_of (left_out f) f) ms j 0 0 inside ∙ ap (position_of (left_out f) f) (member_get (order f) (content f i) j within)

-- The sections of the object that a file denotes keep rule 4 of objects, if the file breaks no rule. By cases on the kind of body: links,
-- infos, targets and members are kept sections by rules 76 to 79, so they have a position. Rules 54 and 57 say that the symbols of
-- relocations and the signatures are symbols of the table.

-- ---- rules 76, 78 and 79

no_wrong_relocation_target : (f : Sections) → FirstIn (file_rules f) None → Never (wrong_relocation_target (left_out f) f)
unfolding reference_rules
no_wrong_relocation_target f clean = (references_sound f clean).0

no_wrong_kept_link : (f : Sections) → FirstIn (file_rules f) None → Never (wrong_kept_link (left_out f) f)
unfolding reference_rules
no_wrong_kept_link f clean = (references_sound f clean).1.1.0

no_wrong_kept_info : (f : Sections) → FirstIn (file_rules f) None → Never (wrong_kept_info (left_out f) f)
unfolding reference_rules
no_wrong_kept_info f clean = (references_sound f clean).1.1.1.0

-- a section that is not left out is kept
kept_unless : (b : Bool) → (b ≡ false → ⊥) → b ≡ true
kept_unless true never = refl
kept_unless false never = absurd (never refl)

-- ---- link and info

kept_position : (f : Sections) (o : ObjectValue) (k : ℕ) → Denotes f o → is_kept (left_out f) f k ≡ true →
    length o.sections ≤ position_of (left_out f) f k → ⊥
kept_position f o k denotes is past = let below = position_there f o k denotes (kept_there (left_out f) f k is) is in absurd (omega arith)

reference_kept : (f : Sections) (o : ObjectValue) (k : ℕ) (b : Bool) → Denotes f o → (k == 0) ≡ b →
    (k ≢ 0 → is_kept (left_out f) f k ≡ true) →
    IsPast (length o.sections) (if b then None else Some (position_of (left_out f) f k)) → ⊥
reference_kept f o k true denotes is kept past = past
reference_kept f o k false denotes is kept past = kept_position f o k denotes (kept (differs k 0 is)) past

info_kept : (f : Sections) (o : ObjectValue) (flags k : ℕ) (b : Bool) → Denotes f o → (bit_and flags SHF_INFO_LINK == 0) ≡ b →
    (bit_and flags SHF_INFO_LINK ≢ 0 → is_kept (left_out f) f k ≡ true) →
    IsPast (length o.sections) (info_position (if b then info.Number k else info.Section (position_of (left_out f) f k))) → ⊥
info_kept f o flags k true denotes is kept past = past
info_kept f o flags k false denotes is kept past = kept_position f o k denotes (kept (differs (bit_and flags SHF_INFO_LINK) 0 is)) past

-- of a section that has neither relocations nor members
link_kept : (f : Sections) (o : ObjectValue) (i : ℕ) → FirstIn (file_rules f) None → Denotes f o → i < count f → IsPlain (left_out f) f i →
    IsPast (length o.sections) (section_reference (left_out f) f (section f i).sh_link) → ⊥
link_kept f o i clean denotes lt plain past =
    let link = (section f i).sh_link in
    reference_kept f o link (link == 0) denotes refl
    (λ some. kept_unless (is_kept (left_out f) f link) (λ out. no_wrong_kept_link f clean _ (i, lt, (plain, (some, out)), refl))) past

plain_info_kept : (f : Sections) (o : ObjectValue) (i : ℕ) → FirstIn (file_rules f) None → Denotes f o → i < count f →
    IsPlain (left_out f) f i →
    IsPast (length o.sections) (info_position (plain_info (left_out f) f (section f i))) → ⊥
plain_info_kept f o i clean denotes lt plain past =
    let s = section f i in
    info_kept f o s.sh_flags s.sh_info (bit_and s.sh_flags SHF_INFO_LINK == 0) denotes refl
    (λ some. kept_unless (is_kept (left_out f) f s.sh_info) (λ out. no_wrong_kept_info f clean _ (i, lt, (plain, (some, out)), refl))) past

-- ---- relocations

kind_is_bits : (kind : BodyKind) → (kind ≡ Bits) ⊎ (kind ≡ Bits → ⊥)
kind_is_bits Bits = inl refl
kind_is_bits NoBits = inr (λ same. cc)
kind_is_bits Relocs = inr (λ same. cc)
kind_is_bits Group = inr (λ same. cc)

target_sound : (f : Sections) (i : ℕ) → FirstIn (file_rules f) None → i < count f → body_kind (section f i).sh_type ≡ Relocs →
    IsKeptBits (left_out f) f (section f i).sh_info
target_sound f i clean lt kind =
    let k = (section f i).sh_info in
    let wrong : (IsKeptBits (left_out f) f k → ⊥) → ⊥ = λ other. no_wrong_relocation_target f clean _ (i, lt, (kind, other), refl) in (
      kept_unless (is_kept (left_out f) f k) (λ out. wrong (λ is. (let both : true ≡ false = sym is.0 ∙ out in cc))),
      elim (kind_is_bits (body_kind (section f k).sh_type)) [ inl is ↦ is | inr other ↦ absurd (wrong (λ is. other is.1)) ],
    )

target_kept : (f : Sections) (o : ObjectValue) (k : ℕ) → Denotes f o → IsKeptBits (left_out f) f k →
    IsNoTarget o (position_of (left_out f) f k) → ⊥
target_kept f o k denotes is (inl past) = kept_position f o k denotes is.0 past
target_kept f o k denotes is (inr other) =
    let at = section_at_index f o k denotes (kept_there (left_out f) f k is.0) is.0 ∙ denoted_with (left_out f) f k in
    let bits = ap (λ (s : SectionValue). is_bits s.body) at ∙ ap (λ (kind : BodyKind). is_bits (body_denoted (left_out f) f k kind)) is.1 in
    let both : true ≡ false = sym bits ∙ other in
    cc

-- rule 54
symbol_there : (symbols entries k : ℕ) (b : Bool) → symbols ≡ entries - 1 → k < entries → (k == 0) ≡ b →
    IsPast symbols (if b then None else Some (k - 1)) → ⊥
symbol_there symbols entries k true count lt is past = past
symbol_there symbols entries k false count lt is past = (let some = differs k 0 is in absurd (omega arith))

no_wrong_relocation_symbol : (f : Sections) (i : ℕ) → FirstIn (relocation_section_rules f i) None → Never (wrong_relocation_symbol f i)
unfolding relocation_section_rules relocation_entry_rules
no_wrong_relocation_symbol f i sound =
    (FirstIn-after (symbol_table_rules f (section f i).sh_link) _ (FirstIn-after (own_rules RelocationTable f i) _ sound)).1.0

entry_kept : (f : Sections) (o : ObjectValue) (i k : ℕ) → FirstIn (file_rules f) None → Denotes f o →
    FirstIn (relocation_section_rules f i) None →
    k < length (relocations_of f i) →
    IsPast (length o.symbols) (symbol_reference (get_or (relocations_of f i) k no_relocation_entry).symbol) → ⊥
unfolding relocations_of
entry_kept f o i k clean denotes sound lt past =
    let s = section f i in
    let addends = has_addends s.sh_type in
    let within : k < relocation_count addends (content f i) = omega (arith, length_relocations addends (order f) (content f i)) in
    let symbol = (relocation_in addends (order f) (content f i) k).symbol in
    let got = ap (λ (r : table_relocation.Relocation). r.symbol) (relocation_get addends (order f) (content f i) k within) in
    let there : symbol < entry_count (content f s.sh_link) = elim (cases_lt symbol (entry_count (content f s.sh_link))) [
      | inl below ↦ below
      | inr above ↦ absurd (no_wrong_relocation_symbol f i sound _ (k, within, above, refl))
    ] in
    symbol_there (length o.symbols) (entry_count (content f s.sh_link)) symbol (symbol == 0)
    (symbol_count f o s.sh_link denotes (symbols_of_relocations f i clean sound)) there refl
    (subst (λ (n : ℕ). IsPast (length o.symbols) (symbol_reference n)) got past)

entries_kept : (f : Sections) (o : ObjectValue) (i : ℕ) → FirstIn (file_rules f) None → Denotes f o →
    FirstIn (relocation_section_rules f i) None →
    Any (λ (entry : Relocation). IsPast (length o.symbols) entry.symbol) (map relocation_denoted (relocations_of f i)) → ⊥
entries_kept f o i clean denotes sound (k, x, lt, at, past) =
    let rs = relocations_of f i in
    let within : k < length rs = omega (arith, length-map rs relocation_denoted) in
    let is : x ≡ relocation_denoted (get_or rs k no_relocation_entry) =
    sym at ∙ get_or-map relocation_denoted rs k no_relocation_entry x within in
    entry_kept f o i k clean denotes sound within (subst (λ (r : Relocation). IsPast (length o.symbols) r.symbol) is past)

-- ---- groups

no_wrong_signature : (f : Sections) (i : ℕ) → FirstIn (group_section_rules f i) None → Never (wrong_signature f i)
unfolding group_section_rules group_rules group_front_rules
no_wrong_signature f i sound =
    let rest = FirstIn-after (symbol_table_rules f (section f i).sh_link) _ (FirstIn-after (own_rules SectionGroup f i) _ sound) in
    (FirstIn-front (group_front_rules f i) _ rest).1.1.0

signature_kept : (f : Sections) (o : ObjectValue) (i : ℕ) → FirstIn (file_rules f) None → Denotes f o →
    FirstIn (group_section_rules f i) None →
    length o.symbols ≤ (group_of f i).signature - 1 → ⊥
unfolding group_of
signature_kept f o i clean denotes sound past =
    let s = section f i in
    let many = symbol_count f o s.sh_link denotes (symbols_of_group f i clean sound) in
    elim (cases_eq s.sh_info 0) [
      | inl none ↦ no_wrong_signature f i sound _ (inl none, refl)
      | inr some ↦ no_wrong_signature f i sound _ (inr (omega arith), refl)
    ]

members_kept : (f : Sections) (o : ObjectValue) (i : ℕ) → FirstIn (file_rules f) None → Denotes f o → i < count f →
    FirstIn (group_section_rules f i) None →
    Any (λ (position : ℕ). length o.sections ≤ position) (member_positions f i) → ⊥
members_kept f o i clean denotes lt sound (j, x, within, at, past) =
    let inside : j < member_count (content f i) = omega (arith, count_members f i) in
    let is : x ≡ position_of (left_out f) f (member (order f) (content f i) j) =
    sym at ∙ get_or_default (member_positions f i) j x 0 within ∙ position_of_member f i j inside in
    kept_position f o _ denotes (member_sound f i j clean lt sound inside).is_kept (subst (λ (n : ℕ). length o.sections ≤ n) is past)

-- ---- all bodies

positions_of : (f : Sections) (o : ObjectValue) (i : ℕ) (kind : BodyKind) → FirstIn (file_rules f) None → Denotes f o → i < count f →
    is_kept (left_out f) f i ≡ true → body_kind (section f i).sh_type ≡ kind → FirstIn (rules_of_body kind f i) None →
    HasWrongPosition o (section_with (left_out f) f i kind) → ⊥
positions_of f o i Bits clean denotes lt is kind sound (inl past) = link_kept f o i clean denotes lt (is, inl kind) past
positions_of f o i Bits clean denotes lt is kind sound (inr (inl past)) = plain_info_kept f o i clean denotes lt (is, inl kind) past
positions_of f o i Bits clean denotes lt is kind sound (inr (inr wrong)) = wrong
positions_of f o i NoBits clean denotes lt is kind sound (inl past) = link_kept f o i clean denotes lt (is, inr kind) past
positions_of f o i NoBits clean denotes lt is kind sound (inr (inl past)) = plain_info_kept f o i clean denotes lt (is, inr kind) past
positions_of f o i NoBits clean denotes lt is kind sound (inr (inr wrong)) = wrong
positions_of f o i Relocs clean denotes lt is kind sound (inl past) = past
positions_of f o i Relocs clean denotes lt is kind sound (inr (inl past)) = past
positions_of f o i Relocs clean denotes lt is kind sound (inr (inr (inl target))) =
    target_kept f o (section f i).sh_info denotes (target_sound f i clean lt kind) target
positions_of f o i Relocs clean denotes lt is kind sound (inr (inr (inr entries))) = entries_kept f o i clean denotes sound entries
positions_of f o i Group clean denotes lt is kind sound (inl past) = past
positions_of f o i Group clean denotes lt is kind sound (inr (inl past)) = past
positions_of f o i Group clean denotes lt is kind sound (inr (inr (inl signature))) = signature_kept f o i clean denotes sound signature
positions_of f o i Group clean denotes lt is kind sound (inr (inr (inr members))) = members_kept f o i clean denotes lt sound members

pub no_wrong_position : (f : Sections) (o : ObjectValue) → FirstIn (file_rules f) None → Denotes f o → Never (wrong_position o)
no_wrong_position f o clean denotes x (q, within, broken, here) =
    let (i, is) = section_at_position f o q denotes within in
    positions_of f o i (body_kind (section f i).sh_type) clean denotes is.there is.is_kept refl (table_sound f i clean is.there is.is_kept)
    (subst (λ (s : SectionValue). HasWrongPosition o s) (is.section ∙ denoted_with (left_out f) f i) broken)

-- The groups of the object that a file denotes keep rule 6 of objects, if the file breaks no rule. By cases on what makes a member wrong:
-- rules 58 and 77 of files exclude each case for indexes (`member_sound`). Positions ascend with the indexes of kept sections.

-- where a section of the object names the position of section m as a member, it is a group of the file that names m
named_in_file : (f : Sections) (h m : ℕ) (kind : BodyKind) → FirstIn (file_rules f) None → h < count f →
    FirstIn (rules_of_body kind f h) None →
    is_kept (left_out f) f m ≡ true →
    (let members = members_of (section_with (left_out f) f h kind).body in
    NamesMember members (length members) (position_of (left_out f) f m)) →
    ((section f h).sh_type ≡ SHT_GROUP) × NamesFirst f h (member_count (content f h)) m
named_in_file f h m Bits clean lt sound is (k, within, same) = absurd (omega arith)
named_in_file f h m NoBits clean lt sound is (k, within, same) = absurd (omega arith)
named_in_file f h m Relocs clean lt sound is (k, within, same) = absurd (omega arith)
named_in_file f h m Group clean lt sound is (k, within, same) =
    let inside : k < member_count (content f h) = omega (arith, count_members f h) in
    let named = (member_sound f h k clean lt sound inside).is_kept in (
      (sound_group f h sound).typed,
      (
        k,
        inside,
        one_place (is_kept (left_out f) f) (member (order f) (content f h) k) m named is
            (sym (position_of_member f h k inside) ∙ same),
      ),
    )

-- ---- what rule 6 of objects asks of member j, section m, of the group in section i

after_group : (f : Sections) (i j m q : ℕ) → IsMember f i j m → is_kept (left_out f) f i ≡ true → position_of (left_out f) f i ≡ q →
    position_of (left_out f) f m ≤ q → ⊥
after_group f i j m q fact is at le = (let below = places_ascend (is_kept (left_out f) f) i m fact.above is in absurd (omega arith))

named_once : (f : Sections) (i j m : ℕ) → FirstIn (file_rules f) None → i < count f → FirstIn (group_section_rules f i) None →
    j < member_count (content f i) →
    IsMember f i j m → NamesMember (member_positions f i) j (position_of (left_out f) f m) → ⊥
named_once f i j m clean lt sound within fact (k, before, same) =
    let inside : k < member_count (content f i) = omega arith in
    let named = (member_sound f i k clean lt sound inside).is_kept in
    fact.once (
      k,
      before,
      one_place (is_kept (left_out f) f) (member (order f) (content f i) k) m named fact.is_kept
          (sym (position_of_member f i k inside) ∙ same),
    )

-- a section at a position before that of section i is before it in the file
before_in_file : (f : Sections) (h i p q : ℕ) → is_kept (left_out f) f i ≡ true → position_of (left_out f) f h ≡ p →
    position_of (left_out f) f i ≡ q → p < q → h < i
before_in_file f h i p q is at_p at_q lt = elim (cases_lt h i) [
  | inl below ↦ below
  | inr above ↦ elim (cases_lt i h) [
    | inl beyond ↦ absurd (let more = places_ascend (is_kept (left_out f) f) i h beyond is in omega arith)
    | inr le ↦ absurd (let same : h ≡ i = omega arith in let place = ap (position_of (left_out f) f) same in omega arith)
  ]
]

named_alone : (f : Sections) (o : ObjectValue) (i j m q : ℕ) → FirstIn (file_rules f) None → Denotes f o → is_kept (left_out f) f i ≡ true →
    position_of (left_out f) f i ≡ q → q < length o.sections → IsMember f i j m → IsInEarlierGroup o q (position_of (left_out f) f m) → ⊥
named_alone f o i j m q clean denotes is at within fact (p, before, named) =
    let (h, there) = section_at_position f o p denotes (omega arith) in
    let section_is = there.section ∙ denoted_with (left_out f) f h in
    let names = subst
    (λ (s : SectionValue). NamesMember (members_of s.body) (length (members_of s.body)) (position_of (left_out f) f m)) section_is named in
    fact.alone (
      h,
      before_in_file f h i p q is there.position at before,
      named_in_file f h m (body_kind (section f h).sh_type) clean there.there
          (table_sound f h clean there.there there.is_kept) fact.is_kept names,
    )

-- a section of another type is no group
group_kind : (left : LeftOut) (f : Sections) (m : ℕ) (a b c : Bool) → c ≡ false →
    is_group (body_denoted left f m (if a then NoBits else (if b then Relocs else (if c then Group else Bits)))) ≡ true → ⊥
group_kind left f m true b c other is = cc
group_kind left f m false true c other is = cc
group_kind left f m false false false other is = cc
group_kind left f m false false true other is = cc

no_group_among : (f : Sections) (o : ObjectValue) (i j m : ℕ) → Denotes f o → IsMember f i j m →
    is_group (section_at o (position_of (left_out f) f m)).body ≡ true → ⊥
no_group_among f o i j m denotes fact is =
    let type = (section f m).sh_type in
    let at = section_at_index f o m denotes (kept_there (left_out f) f m fact.is_kept) fact.is_kept ∙ denoted_with (left_out f) f m in
    group_kind (left_out f) f m (type == SHT_NOBITS) ((type == SHT_RELA) || (type == SHT_REL)) (type == SHT_GROUP)
    (test_fails type fact.no_group)
    (subst (λ (s : SectionValue). is_group s.body ≡ true) at is)
  where
    test_fails : (type : ℕ) → (type ≡ SHT_GROUP → ⊥) → (type == SHT_GROUP) ≡ false
    test_fails type other = false_from_ne_true (type == SHT_GROUP) (λ test. other (eqb-true _ _ test))

has_flag : (f : Sections) (o : ObjectValue) (i j m : ℕ) → Denotes f o → IsMember f i j m →
    LacksFlag (section_at o (position_of (left_out f) f m)).flags SHF_GROUP → ⊥
has_flag f o i j m denotes fact lacks =
    let at = section_at_index f o m denotes (kept_there (left_out f) f m fact.is_kept) fact.is_kept ∙ denoted_with (left_out f) f m in
    fact.flagged (subst (λ (s : SectionValue). LacksFlag s.flags SHF_GROUP) at lacks)

-- ---- each member, and each section

-- what makes a member at position m wrong
abbrev IsWrongAt : ObjectValue → ℕ → List ℕ → ℕ → ℕ → Type 0
IsWrongAt o q members j m =
    let s = section_at o m in
    (m ≤ q) ⊎ ((NamesMember members j m ⊎ IsInEarlierGroup o q m) ⊎ ((is_group s.body ≡ true) ⊎ LacksFlag s.flags SHF_GROUP))

member_right : (f : Sections) (o : ObjectValue) (i j m q : ℕ) → FirstIn (file_rules f) None → Denotes f o → i < count f →
    is_kept (left_out f) f i ≡ true →
    position_of (left_out f) f i ≡ q → q < length o.sections → FirstIn (group_section_rules f i) None → j < member_count (content f i) →
    IsMember f i j m → IsWrongAt o q (member_positions f i) j (position_of (left_out f) f m) → ⊥
member_right f o i j m q clean denotes lt is at within sound inside fact (inl le) = after_group f i j m q fact is at le
member_right f o i j m q clean denotes lt is at within sound inside fact (inr (inl (inl named))) =
    named_once f i j m clean lt sound inside fact named
member_right f o i j m q clean denotes lt is at within sound inside fact (inr (inl (inr named))) =
    named_alone f o i j m q clean denotes is at within fact named
member_right f o i j m q clean denotes lt is at within sound inside fact (inr (inr (inl group))) =
    no_group_among f o i j m denotes fact group
member_right f o i j m q clean denotes lt is at within sound inside fact (inr (inr (inr lacks))) = has_flag f o i j m denotes fact lacks

members_right : (f : Sections) (o : ObjectValue) (i q : ℕ) (kind : BodyKind) → FirstIn (file_rules f) None → Denotes f o → i < count f →
    is_kept (left_out f) f i ≡ true → position_of (left_out f) f i ≡ q → q < length o.sections → FirstIn (rules_of_body kind f i) None →
    (let members = members_of (section_with (left_out f) f i kind).body in SomeIndex members (IsWrongMembership o q members)) → ⊥
members_right f o i q Bits clean denotes lt is at within sound (j, inside, wrong) = absurd (omega arith)
members_right f o i q NoBits clean denotes lt is at within sound (j, inside, wrong) = absurd (omega arith)
members_right f o i q Relocs clean denotes lt is at within sound (j, inside, wrong) = absurd (omega arith)
members_right f o i q Group clean denotes lt is at within sound (j, inside, wrong) =
    let there : j < member_count (content f i) = omega (arith, count_members f i) in
    member_right f o i j (member (order f) (content f i) j) q clean denotes lt is at
    within sound there (member_sound f i j clean lt sound there)
    (subst (IsWrongAt o q (member_positions f i) j) (position_of_member f i j there) wrong)

pub no_wrong_membership : (f : Sections) (o : ObjectValue) → FirstIn (file_rules f) None → Denotes f o → Never (wrong_membership o)
no_wrong_membership f o clean denotes x (q, within, broken, here) =
    let (i, is) = section_at_position f o q denotes within in
    members_right f o i q (body_kind (section f i).sh_type) clean denotes is.there is.is_kept is.position within
    (table_sound f i clean is.there is.is_kept)
    (subst (λ (s : SectionValue). SomeIndex (members_of s.body) (IsWrongMembership o q (members_of s.body)))
    (is.section ∙ denoted_with (left_out f) f i) broken)

own_sections_kept : (v : ImageValue) (o : ObjectValue) → IsSoundImage v → FirstIn (file_rules (sections_of v)) None →
    Denotes (sections_of v) o →
    FirstIn (object_section_rules o) None
unfolding object_section_rules
own_sections_kept v o sound clean denotes =
    let f = sections_of v in (
      no_zero_in_section_name f o denotes,
      (
        no_wrong_bits_type f o clean denotes,
        (no_wrong_alignment v o sound denotes, (no_wrong_position f o clean denotes, (no_wrong_field f o clean denotes, tt))),
      ),
    )

symbols_kept : (v : ImageValue) (o : ObjectValue) → FirstIn (file_rules (sections_of v)) None → Denotes (sections_of v) o →
    FirstIn (object_symbol_rules o) None
unfolding object_symbol_rules
symbols_kept v o clean denotes =
    let f = sections_of v in
    (no_zero_in_symbol_name f o denotes, (no_wrong_place f o clean denotes, (no_misplaced_local f o clean denotes, tt)))

pub object_kept : (v : ImageValue) (o : ObjectValue) → IsSoundImage v → FirstIn (file_rules (sections_of v)) None →
    Denotes (sections_of v) o → IsObject o
object_kept v o sound clean denotes =
    found_in_symbols o None (own_sections_kept v o sound clean denotes) (no_wrong_membership (sections_of v) o clean denotes)
    (symbols_kept v o clean denotes)

-- A file denotes one object: `Denotes` gives each field of the object as a function of the file, so two such objects agree, and the object
-- with these fields is one.

-- an object of these fields
abbrev made : Order → ℕ → ℕ → ℕ → ℕ → List SectionValue → List SymbolValue → ObjectValue
made order osabi abi machine flags sections symbols =
    record { order = order; osabi = osabi; abi = abi; machine = machine; flags = flags; sections = sections; symbols = symbols }

pub one_object : (f : Sections) (o p : ObjectValue) → Denotes f o → Denotes f p → o ≡ p
one_object f o p one other =
    ap (λ (x : Order). made x o.osabi o.abi o.machine o.flags o.sections o.symbols) (one.order ∙ sym other.order) ∙
    ap (λ (x : ℕ). made p.order x o.abi o.machine o.flags o.sections o.symbols) (one.osabi ∙ sym other.osabi) ∙
    ap (λ (x : ℕ). made p.order p.osabi x o.machine o.flags o.sections o.symbols) (one.abi ∙ sym other.abi) ∙
    ap (λ (x : ℕ). made p.order p.osabi p.abi x o.flags o.sections o.symbols) (one.machine ∙ sym other.machine) ∙
    ap (λ (x : ℕ). made p.order p.osabi p.abi p.machine x o.sections o.symbols) (one.flags ∙ sym other.flags) ∙
    ap (λ (x : List SectionValue). made p.order p.osabi p.abi p.machine p.flags x o.symbols) (one.sections ∙ sym other.sections) ∙
    ap (λ (x : List SymbolValue). made p.order p.osabi p.abi p.machine p.flags p.sections x) (one.symbols ∙ sym other.symbols)

-- it is made of what the file's parts denote
pub some_object : (f : Sections) → (o : ObjectValue) × Denotes f o
some_object f = (
  made (order f) (slice_index f.header.e_ident EI_OSABI) (slice_index f.header.e_ident EI_ABIVERSION) f.header.e_machine f.header.e_flags
      (map (section_denoted (left_out f) f) (kept (left_out f) f)) (symbols_denoted (left_out f) f (symbol_table f)),
  record { order = refl; osabi = refl; abi = refl; machine = refl; flags = refl; sections = refl; symbols = refl },
)
