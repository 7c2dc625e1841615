-- The file that an object is written as breaks none of its rules, neither its tables' own nor 70 to 79. Rules 70 to 74 follow here from its
-- header and the types of its sections (`type_says`). The other runs of rules are from the files that prove them; tables go by induction
-- on the sections.
use Rattle.std.proofs.Common.{◌≡◌, ◌≢◌, ◌<◌, ◌≤◌, ◌+◌, ◌*◌, ◌^◌, ℕ, suc, Bool, true, false, None, List, length, get_or, inl, inr, refl, sym}
use Rattle.std.proofs.Common.{ap, ap₂, subst, ◌∙◌, arith, ◌⊎◌, zero, Option, Some}
use Rattle.std.specs.Prelude.{◌==◌, bit_and, if◌then◌else◌}
use Rattle.std.specs.List.{Any, flat_map, range_with_len}
use Rattle.std.proofs.lemmas.Bool.{cases_eq, cases_lt, cases_Bool, le-leb, le-ltb, lt-ltb, ne_eqb, true≢false}
use Rattle.elf_extent.specs.Extent.{Never}
use Rattle.elf_field.specs.Abi.{GRP_COMDAT, SHF_GROUP, SHT_GROUP, WORD_SIZE, SHF_INFO_LINK, SHN_ABS, SHN_COMMON, SHN_LORESERVE, SHN_UNDEF}
use Rattle.elf_field.specs.Abi.{SHN_XINDEX}
use Rattle.elf_field.specs.Entries.{word_bytes}
use Rattle.elf_field.specs.declared.number.Order.{Order}
use Rattle.elf_field.specs.declared.shdr.Shdr.{Shdr}
use Rattle.elf_image_rules.proofs.Public.{FirstIn-later}
use Rattle.elf_image_rules.specs.Rows.{FirstIn}
use Rattle.elf_image_type.specs.WrittenFile.{long_number, short_index}
use Rattle.elf_object_file.proofs.WrittenDenotes.{flags_word, group_flags_read, length-group_words, member_below, member_count_is}
use Rattle.elf_object_file.proofs.WrittenDenotes.{member_read, symbol_entry_count, kind_back, kind_of_body}
use Rattle.elf_object_file.proofs.WrittenFile.{HasSectionAt, own_at, symbols_at, written_order, by_section, last_at, indexes_at, type_says}
use Rattle.elf_object_file.proofs.WrittenSections.{own_short, own_is_kept, own_of_kept, written_first, written_kept, written_symbol_table}
use Rattle.elf_object_file.proofs.WrittenTableRules.{symbol_rules_kept, relocation_target, written_parts, by_entry, far_word}
use Rattle.elf_object_file.proofs.WrittenTableRules.{relocation_rules_kept}
use Rattle.elf_object_file.specs.ObjectFile.{IsWrittenAt, written_sections}
use Rattle.elf_object_reader.proofs.Public.{symbols_kept}
use Rattle.elf_object_layout.specs.SectionsLeftOut.{is_kept, left_out, symbol_table}
use Rattle.elf_object_reader.specs.Denotes.{body_kind, kept}
use Rattle.elf_object_reader.specs.FileRules.{HasWrongKeptInfo, HasWrongKeptLink, IsKeptBits, IsPlain, IsSymbolOutside, IsWrongGroupMember}
use Rattle.elf_object_reader.specs.FileRules.{reference_rules, symbol_outside, wrong_group_member, wrong_kept_info, wrong_kept_link}
use Rattle.elf_object_reader.specs.FileRules.{wrong_relocation_target, file_rules, foreign_section, front_rules, rules_after_front}
use Rattle.elf_object_reader.specs.FileRules.{rules_of_bodies, rules_of_body, second_symbol_table, stray_index_table, symbol_rules_in}
use Rattle.elf_object_reader.specs.declared.object_file.BodyKind.TheVariants.{Bits, NoBits, Relocs, Group}
use Rattle.elf_object_reader.specs.declared.object_file.BodyKind.{BodyKind}
use Rattle.elf_object_layout.specs.declared.left_out.LeftOut.{LeftOut}
use Rattle.elf_object_type.proofs.Public.{no_wrong_field, no_wrong_membership, no_wrong_position, no_wrong_bits_type, no_wrong_place}
use Rattle.elf_object_type.specs.Object.{BodyValue, group, ObjectValue, SectionValue, section_at, members_of, bits, no_bits, relocs}
use Rattle.elf_object_type.specs.Object.{symbol_at, HasFlag, IsPast, info_position, is_bits, is_group}
use Rattle.elf_object_type.specs.ObjectRules.{IsWrongMembership, HasWrongField, HasWrongReference, NamesMember, IsAgainstFlag}
use Rattle.elf_object_type.specs.ObjectRules.{IsWrongBitsType, place_position}
use Rattle.elf_object_type.specs.declared.parts.Info.TheVariants.{Number, Section}
use Rattle.elf_object_type.specs.declared.parts.Info.{Info}
use Rattle.elf_object_type.specs.declared.parts.Place.TheVariants.{Undef, Abs, Common, In}
use Rattle.elf_object_type.specs.declared.parts.Place.{Place}
use Rattle.elf_object_type.specs.declared.relocations.Relocation.{Relocation}
use Rattle.elf_object_layout.proofs.Public.{last_count, last_sections, no_plain}
use Rattle.elf_object_layout.specs.Laid.{body_bytes, body_info, body_link, body_space, body_type, group_words, own_section, symbol_table_at}
use Rattle.elf_object_layout.specs.Laid.{has_index_table, index_of, index_word, is_far, own_info, shndx}
use Rattle.elf_table_lists.specs.Groups.{group_front_rules, group_member_rules, group_rules, group_section_rules, wrong_member, group_flags}
use Rattle.elf_table_lists.specs.Groups.{member, member_count}
use Rattle.elf_table_symbols.proofs.Public.{length_symbols, symbol_get}
use Rattle.elf_table_symbols.specs.Sections.{own_rules, content, order, section, Sections, count}
use Rattle.elf_table_symbols.specs.Symbols.{entry_count, symbol_table_rules, symbol_parts, word, place_of, symbol_entry_in, symbols_of}
use Rattle.elf_table_symbols.specs.declared.table_section.TableKind.TheVariants.{SectionGroup}
use Rattle.elf_table_lists.specs.Groups as table
use Rattle.elf_table_symbols.specs.declared.symbols.Place.TheVariants as table_place
use Rattle.elf_table_symbols.specs.Symbols as table_symbols

-- A section group of the file that an object is written as breaks none of its rules: 40 to 52 and 55 to 58. Its entry size is right by rule
-- 5 of objects and its signature is there by rule 4. A member that broke rule 58 would break rule 6. (gABI chapter 4, Section Groups.)

-- ---- what the object's rules say of a group

-- rule 5 of objects
group_entsize : (s : SectionValue) (comdat : Bool) (signature : ℕ) (members : List ℕ) →
    (HasWrongField s (group comdat signature members) → ⊥) → s.entsize ≡ WORD_SIZE
group_entsize s comdat signature members right =
    elim (cases_eq s.entsize WORD_SIZE) [ inl same ↦ same | inr other ↦ absurd (right (inr other)) ]

-- rule 4 of objects
signature_below : (o : ObjectValue) (comdat : Bool) (signature : ℕ) (members : List ℕ) →
    (HasWrongReference o (group comdat signature members) → ⊥) → signature < length o.symbols
signature_below o comdat signature members right =
    elim (cases_lt signature (length o.symbols)) [ inl below ↦ below | inr past ↦ absurd (right (inl past)) ]

-- the flags that are written are a group's
flags_right : (comdat : Bool) (flags : ℕ) → flags ≡ flags_word comdat → flags ≢ 0 → flags ≢ GRP_COMDAT → ⊥
flags_right true flags is some other = other is
flags_right false flags is some other = some is

-- ---- the section

module _ (o : ObjectValue) (places : List ℕ) (written : IsWrittenAt o places) (p : ℕ) (below : p < length o.sections)
    (comdat : Bool) (signature : ℕ) (members : List ℕ) (is : (section_at o p).body ≡ group comdat signature members) where
  at : HasSectionAt (written_sections o places) (suc p) (own_section o (section_at o p))
  at = own_at o places written p below

  group_type : (section (written_sections o places) (suc p)).sh_type ≡ SHT_GROUP
  group_type = at.sh_type ∙ ap body_type is

  group_link : (section (written_sections o places) (suc p)).sh_link ≡ symbol_table_at o
  group_link = at.sh_link ∙ ap (body_link o (section_at o p)) is

  group_signature : (section (written_sections o places) (suc p)).sh_info ≡ signature + 1
  group_signature = at.sh_info ∙ ap (body_info (section_at o p)) is

  bytes_are : content (written_sections o places) (suc p) ≡ flat_map (word_bytes o.order) (group_words comdat members)
  bytes_are = at.bytes ∙ ap (body_bytes o.order) is

  fields_right : HasWrongField (section_at o p) (group comdat signature members) → ⊥
  fields_right = subst (λ (b : BodyValue). HasWrongField (section_at o p) b → ⊥) is (no_wrong_field o written.object p below)

  references_right : HasWrongReference o (group comdat signature members) → ⊥
  references_right =
      subst (λ (b : BodyValue). HasWrongReference o b → ⊥) is (λ wrong. no_wrong_position o written.object p below (inr (inr wrong)))

  -- rule 6 of objects
  pub members_right : (j : ℕ) → j < length members → IsWrongMembership o p members j → ⊥
  members_right j lt wrong =
      let right = no_wrong_membership o written.object p below in
      subst (λ (b : BodyValue). ((j : ℕ) × (j < length (members_of b)) × IsWrongMembership o p (members_of b) j) → ⊥) is right
      (j, lt, wrong)

  members_there : Any (λ member. length o.sections ≤ member) members → ⊥
  members_there past = references_right (inr past)

  sections_below : length o.sections < 2 ^ 30
  sections_below = let short = own_short o places written in omega arith

  size_is : (section (written_sections o places) (suc p)).sh_size ≡ 4 * (length members + 1)
  size_is =
      at.sh_size ∙ ap (λ (b : BodyValue). if body_type b == 8 then body_space b else length (body_bytes o.order b)) is
      ∙ length-group_words o.order comdat members

  own_group_kept : FirstIn (own_rules SectionGroup (written_sections o places) (suc p)) None
  unfolding own_rules
  own_group_kept = (
    (λ x (wrong, here). wrong (rw group_type refl)),
    (
      (λ x (wrong, here). wrong (at.sh_entsize ∙ group_entsize (section_at o p) comdat signature members fields_right)),
      (
        (λ x (wrong, here). (let size = size_is in wrong (omega arith))),
        (
          (λ x (wrong, here). elim wrong [
            | inl past ↦ (let there = (symbols_at o places written).there in let link = group_link in omega arith)
            | inr other ↦
                other (ap (λ (i : ℕ). (section (written_sections o places) i).sh_type) group_link ∙ (symbols_at o places written).sh_type)
          ]),
          tt,
        ),
      ),
    ),
  )

  -- ---- its words

  pub group_count : member_count (content (written_sections o places) (suc p)) ≡ length members
  group_count = ap (λ (bytes : List ℕ). member_count bytes) bytes_are ∙ member_count_is o.order comdat members

  flags_are : group_flags (order (written_sections o places)) (content (written_sections o places) (suc p)) ≡ flags_word comdat
  flags_are =
      ap₂ (λ (b : Order) (bytes : List ℕ). group_flags b bytes) (written_order o places) bytes_are
      ∙ group_flags_read (length o.sections) o.order comdat members sections_below members_there

  -- a member is the index of a section that is there
  pub group_member : (j : ℕ) → j < length members →
      member (order (written_sections o places)) (content (written_sections o places) (suc p)) j ≡ suc (get_or members j 0)
  group_member j lt =
      let next : get_or members j 0 + 1 ≡ suc (get_or members j 0) = omega arith in
      ap₂ (λ (b : Order) (bytes : List ℕ). member b bytes j) (written_order o places) bytes_are
      ∙ member_read (length o.sections) o.order comdat members sections_below members_there j lt ∙ next

  pub group_member_below : (j : ℕ) → j < length members → get_or members j 0 < length o.sections
  group_member_below j lt = member_below (length o.sections) o.order comdat members sections_below members_there j lt

  -- ---- rules 55 to 58

  symbols_counted : entry_count (content (written_sections o places) (section (written_sections o places) (suc p)).sh_link) ≡
      length o.symbols + 1
  symbols_counted =
      ap (λ (i : ℕ). entry_count (content (written_sections o places) i)) group_link
      ∙ ap (λ (bytes : List ℕ). entry_count bytes) (symbols_at o places written).bytes ∙ symbol_entry_count o

  group_front_kept : FirstIn (group_front_rules (written_sections o places) (suc p)) None
  unfolding group_front_rules
  group_front_kept = (
    (λ x (none, here). (let size = size_is in omega arith)),
    (
      (λ x ((some, other), here). flags_right comdat _ flags_are some other),
      (
        (λ x (wrong, here). (
            let info = group_signature in
            let counted = symbols_counted in
            let lt = signature_below o comdat signature members references_right in
            elim wrong [ inl none ↦ absurd (omega arith) | inr past ↦ absurd (omega arith) ])),
        tt,
      ),
    ),
  )

  -- a member that breaks rule 58 would break rule 6 of objects
  member_fits : (j : ℕ) → j < length members → (m : ℕ) → m ≡ suc (get_or members j 0) →
      table.IsUnfit (written_sections o places) (suc p) m → ⊥
  member_fits j lt m same (inl above) = members_right j lt (inl (omega arith))
  member_fits j lt m same (inr (inl past)) =
      let there = group_member_below j lt in
      let all = (symbols_at o places written).there in
      omega arith
  member_fits j lt m same (inr (inr none)) =
      let q = get_or members j 0 in
      let flags = ap (λ (i : ℕ). (section (written_sections o places) i).sh_flags) same ∙
      (own_at o places written q (group_member_below j lt)).sh_flags in
      members_right j lt (inr (inr (inr (sym (ap (λ (x : ℕ). bit_and x SHF_GROUP) flags) ∙ none))))

  member_once : (j : ℕ) → j < length members → (m : ℕ) → m ≡ suc (get_or members j 0) →
      table.IsNamedBefore (order (written_sections o places)) (content (written_sections o places) (suc p)) j m → ⊥
  member_once j lt m same (k, before, named) =
      let first = group_member k (omega arith) in
      members_right j lt (inr (inl (inl (k, before, (let equal : get_or members k 0 ≡ get_or members j 0 = omega arith in equal)))))

  no_wrong_member : Never (wrong_member (written_sections o places) (suc p))
  no_wrong_member x (j, lt, wrong, here) =
      let many = group_count in
      let within : j < length members = omega arith in
      elim wrong [
        | inl unfit ↦ member_fits j within _ (group_member j within) unfit
        | inr named ↦ member_once j within _ (group_member j within) named
      ]

  rules_kept : FirstIn (group_rules (written_sections o places) (suc p)) None
  unfolding group_rules group_member_rules
  rules_kept = FirstIn-later (group_front_rules (written_sections o places) (suc p)) _ None group_front_kept (no_wrong_member, tt)

  pub group_rules_kept : FirstIn (group_section_rules (written_sections o places) (suc p)) None
  unfolding group_section_rules
  group_rules_kept =
      let f = written_sections o places in
      let symbols = subst (λ (t : ℕ). FirstIn (symbol_table_rules f t) None) (sym group_link) (symbol_rules_kept o places written) in
      FirstIn-later (own_rules SectionGroup f (suc p)) _ None own_group_kept
      (FirstIn-later (symbol_table_rules f (section f (suc p)).sh_link) _ None symbols rules_kept)

-- The references of the file that an object is written as break none of rules 75 to 79. Each was made of a position that rule 4 or rule 8
-- of objects says is there, and the section at this position is kept. A member that broke rule 77 would break rule 6 of objects.

-- ---- rule 75: places of symbols

-- an index is read back, from st_shndx or from the index table
section_place : (index extended : ℕ) → 0 < index → (SHN_LORESERVE ≤ index → extended ≡ long_number index) →
    place_of (short_index index) extended ≡ table_place.Section index
section_place index extended some is = elim (cases_lt index SHN_LORESERVE) [
  | inl below ↦ rw (
    lt-ltb index SHN_LORESERVE below,
    ne_eqb index SHN_UNDEF (λ same. omega arith),
    ne_eqb index SHN_ABS (λ same. omega arith),
    ne_eqb index SHN_COMMON (λ same. omega arith),
    ne_eqb index SHN_XINDEX (λ same. omega arith),
    lt-ltb index SHN_LORESERVE below,
  )
      refl
  | inr above ↦
      rw (le-ltb index SHN_LORESERVE above) (ap (λ (k : ℕ). table_place.Section k) (is above ∙ rw (le-ltb index SHN_LORESERVE above) refl))
]

-- a place in one of the first n sections is not outside, where these are kept
place_inside : (left : LeftOut) (f : Sections) (n : ℕ) (place : Place) (extended : ℕ) → ((p : ℕ) → p < n → is_kept left f (suc p) ≡ true) →
    (IsPast n (place_position place) → ⊥) → (is_far place ≡ true → extended ≡ index_word place) →
    IsSymbolOutside left f (place_of (shndx place) extended) → ⊥
place_inside left f n Undef extended own there word outside = outside
place_inside left f n Abs extended own there word outside = outside
place_inside left f n Common extended own there word outside = outside
place_inside left f n (In p) extended own there word outside = elim (cases_lt p n) [
  | inr past ↦ there past
  | inl below ↦ (
      let at = section_place (p + 1) extended (omega arith) (λ above. word (le-leb SHN_LORESERVE (p + 1) above)) in
      let next : suc p ≡ p + 1 = omega arith in
      let out : is_kept left f (p + 1) ≡ false = subst (IsSymbolOutside left f) at outside in
      true≢false (sym (own p below) ∙ ap (is_kept left f) next ∙ out))
]

pub no_symbol_outside : (o : ObjectValue) (places : List ℕ) → IsWrittenAt o places →
    Never (symbol_outside (left_out (written_sections o places)) (written_sections o places) (symbol_table_at o))
unfolding symbols_of symbol_entry_in
no_symbol_outside o places written x (j, lt, outside, here) =
    let f = written_sections o places in
    let p = symbol_parts f (symbol_table_at o) in
    let are = written_parts o places written in
    let within : j < entry_count p.table = omega (arith, length_symbols p.order p.table p.names p.words) in
    let got = symbol_get p.order p.table p.names p.words j within in
    by_entry o places written p are (λ j symbol. IsSymbolOutside (left_out f) f (place_of symbol.st_shndx (word p.order p.words j)) → ⊥)
    (λ undefined. undefined)
    (λ k below. place_inside (left_out f) f (length o.sections) (symbol_at o k).place (word p.order p.words (suc k))
    (own_is_kept o places written)
    (no_wrong_place o written.object k below) (far_word o places written p are k below))
    j within (subst (λ (s : table_symbols.SymbolEntryValue). IsSymbolOutside (left_out f) f s.place) got outside)

-- ---- bodies by their kinds

pub own_kind : (o : ObjectValue) (places : List ℕ) → IsWrittenAt o places → (p : ℕ) → p < length o.sections →
    body_kind (section (written_sections o places) (suc p)).sh_type ≡ kind_of_body (section_at o p).body
own_kind o places written p lt =
    ap (λ (type : ℕ). body_kind type) (own_at o places written p lt).sh_type ∙
    kind_back (section_at o p).body (no_wrong_bits_type o written.object p lt)

is_relocations : (b : BodyValue) → kind_of_body b ≡ Relocs →
    (rela : Bool) × (target : ℕ) × (entries : List Relocation) × (b ≡ relocs rela target entries)
is_relocations (bits type bytes) is = cc
is_relocations (no_bits size) is = cc
is_relocations (relocs rela target entries) is = (rela, target, entries, refl)
is_relocations (group comdat signature members) is = cc

is_group_body : (b : BodyValue) → (IsWrongBitsType b → ⊥) → body_type b ≡ SHT_GROUP →
    (comdat : Bool) × (signature : ℕ) × (members : List ℕ) × (b ≡ group comdat signature members)
is_group_body (bits type bytes) right is = absurd (right (9, omega arith, sym is))
is_group_body (no_bits size) right is = absurd (omega arith)
is_group_body (relocs true target entries) right is = absurd (omega arith)
is_group_body (relocs false target entries) right is = absurd (omega arith)
is_group_body (group comdat signature members) right is = (comdat, signature, members, refl)

kind_of_bits : (b : BodyValue) → is_bits b ≡ true → kind_of_body b ≡ Bits
kind_of_bits (bits type bytes) is = refl
kind_of_bits (no_bits size) is = cc
kind_of_bits (relocs rela target entries) is = cc
kind_of_bits (group comdat signature members) is = cc

-- a section that is none of the object's own holds bits as far as its type says
last_is_bits : (o : ObjectValue) (far : Bool) (k : ℕ) → k < last_count far → body_kind (get_or (last_sections o far) k no_plain).type ≡ Bits
unfolding last_sections
last_is_bits o true zero lt = refl
last_is_bits o true (suc zero) lt = refl
last_is_bits o true (suc (suc zero)) lt = refl
last_is_bits o true (suc (suc (suc zero))) lt = refl
last_is_bits o true (suc (suc (suc (suc k)))) lt = absurd (omega arith)
last_is_bits o false zero lt = refl
last_is_bits o false (suc zero) lt = refl
last_is_bits o false (suc (suc zero)) lt = refl
last_is_bits o false (suc (suc (suc k))) lt = absurd (omega arith)

module _ (o : ObjectValue) (places : List ℕ) (written : IsWrittenAt o places) where
  -- a section of another kind is one of the object's own
  own_of_kind : (kind : BodyKind) → (Bits ≡ kind → ⊥) → (i : ℕ) → i < count (written_sections o places) →
      body_kind (section (written_sections o places) i).sh_type ≡ kind →
      (p : ℕ) × (p < length o.sections) × (i ≡ suc p) × (kind_of_body (section_at o p).body ≡ kind)
  own_of_kind kind other =
      by_section o places written (λ i. body_kind (section (written_sections o places) i).sh_type ≡ kind →
      (p : ℕ) × (p < length o.sections) × (i ≡ suc p) × (kind_of_body (section_at o p).body ≡ kind))
      (λ is. absurd (other (sym (ap (λ (s : Shdr). body_kind s.sh_type) (written_first o places written)) ∙ is)))
      (λ p lt is. (p, lt, refl, sym (own_kind o places written p lt) ∙ is))
      (λ k lt is. absurd (other
      (sym (last_is_bits o (has_index_table o) k lt) ∙
      sym (ap (λ (type : ℕ). body_kind type) (last_at o places written (has_index_table o) refl k lt).sh_type) ∙ is)))

  -- ---- rule 76

  target_kept : (target : ℕ) → target < length o.sections → is_bits (section_at o target).body ≡ true → (i : ℕ) → i ≡ target + 1 →
      IsKeptBits (left_out (written_sections o places)) (written_sections o places) i
  target_kept target below is i at =
      let f = written_sections o places in
      let next : suc target ≡ i = omega arith in
      subst (IsKeptBits (left_out f) f) next
      (own_is_kept o places written target below, own_kind o places written target below ∙ kind_of_bits (section_at o target).body is)

  target_of_reference : (p : ℕ) → p < length o.sections → (rela : Bool) (target : ℕ) (entries : List Relocation) →
      (section_at o p).body ≡ relocs rela target entries →
      IsKeptBits (left_out (written_sections o places)) (written_sections o places) (section (written_sections o places) (suc p)).sh_info
  target_of_reference p lt rela target entries is =
      let right = subst (λ (b : BodyValue). HasWrongReference o b → ⊥) is
      (λ wrong. no_wrong_position o written.object p lt (inr (inr wrong))) in
      elim (cases_lt target (length o.sections)) [
        | inr past ↦ absurd (right (inl (inl past)))
        | inl below ↦ elim (cases_Bool (is_bits (section_at o target).body)) [
          | inl holds ↦ target_kept target below holds _ (relocation_target o places written p lt rela target entries is)
          | inr other ↦ absurd (right (inl (inr other)))
        ]
      ]

  no_wrong_relocation_target : Never (wrong_relocation_target (left_out (written_sections o places)) (written_sections o places))
  no_wrong_relocation_target x (i, lt, (typed, wrong), here) =
      let f = written_sections o places in
      let (p, below, at, kind) = own_of_kind Relocs (λ same. cc) i lt typed in
      let (rela, target, entries, is) = is_relocations (section_at o p).body kind in
      wrong (subst (λ (k : ℕ). IsKeptBits (left_out f) f (section f k).sh_info) (sym at)
      (target_of_reference p below rela target entries is))

  -- ---- rule 77

  -- a section of type GROUP is a group of the object
  group_at : (i : ℕ) → i < count (written_sections o places) → (section (written_sections o places) i).sh_type ≡ SHT_GROUP →
      (p : ℕ) × (p < length o.sections) × (i ≡ suc p) × (comdat : Bool) × (signature : ℕ) × (members : List ℕ) ×
      ((section_at o p).body ≡ group comdat signature members)
  group_at i lt typed =
      let (p, below, at, kind) = own_of_kind Group (λ same. cc) i lt (ap (λ (type : ℕ). body_kind type) typed) in
      let own = sym (own_at o places written p below).sh_type ∙ ap (λ (k : ℕ). (section (written_sections o places) k).sh_type) (sym at) ∙
      typed in
      let (comdat, signature, members, is) = is_group_body (section_at o p).body (no_wrong_bits_type o written.object p below) own in
      (p, below, at, comdat, signature, members, is)

  -- a member that breaks rule 77 would break rule 6 of objects
  member_kept : (p : ℕ) (below : p < length o.sections) (comdat : Bool) (signature : ℕ) (members : List ℕ)
      (is : (section_at o p).body ≡ group comdat signature members) (j : ℕ) →
      j < length members →
      IsWrongGroupMember (left_out (written_sections o places)) (written_sections o places) (suc p) (suc (get_or members j 0)) → ⊥
  member_kept p below comdat signature members is j lt (inl out) =
      true≢false (sym
      (own_is_kept o places written (get_or members j 0) (group_member_below o places written p below comdat signature members is j lt)) ∙
      out)
  member_kept p below comdat signature members is j lt (inr (inl typed)) =
      let q = get_or members j 0 in
      let there = group_member_below o places written p below comdat signature members is j lt in
      let body = is_group_body (section_at o q).body (no_wrong_bits_type o written.object q there)
      (sym (own_at o places written q there).sh_type ∙ typed) in
      members_right o places written p below comdat signature members is j lt (inr (inr (inl (ap is_group body.3))))
  member_kept p below comdat signature members is j lt (inr (inr (h, before, (typed, (k, within, named))))) =
      let f = written_sections o places in
      let q = get_or members j 0 in
      let own = (own_at o places written p below).there in
      let (r, there, at, flag, name, others, has) = group_at h (omega arith) typed in
      let moved : (k < member_count (content f (suc r))) × (member (order f) (content f (suc r)) k ≡ suc q) =
      subst (λ (i : ℕ). (k < member_count (content f i)) × (member (order f) (content f i) k ≡ suc q)) at (within, named) in
      let many = group_count o places written r there flag name others has in
      let inside : k < length others = (let lt_k = moved.0 in omega arith) in
      let member_is = group_member o places written r there flag name others has k inside in
      let same : get_or others k 0 ≡ q = (let both = moved.1 in omega arith) in
      let earlier : NamesMember (members_of (section_at o r).body) (length (members_of (section_at o r).body)) q =
      subst (λ (b : BodyValue). NamesMember (members_of b) (length (members_of b)) q) (sym has) (k, inside, same) in
      members_right o places written p below comdat signature members is j lt (inr (inl (inr (r, omega arith, earlier))))

  no_wrong_group_member : Never (wrong_group_member (left_out (written_sections o places)) (written_sections o places))
  no_wrong_group_member x (i, lt, (typed, (j, within, wrong, here))) =
      let f = written_sections o places in
      let (p, below, at, comdat, signature, members, is) = group_at i lt typed in
      let moved : (j < member_count (content f (suc p))) ×
      IsWrongGroupMember (left_out f) f (suc p) (member (order f) (content f (suc p)) j) =
      subst (λ (k : ℕ). (j < member_count (content f k)) × IsWrongGroupMember (left_out f) f k (member (order f) (content f k) j)) at
      (within, wrong) in
      let many = group_count o places written p below comdat signature members is in
      let inside : j < length members = (let lt_j = moved.0 in omega arith) in
      member_kept p below comdat signature members is j inside
      (subst (IsWrongGroupMember (left_out f) f (suc p))
      (group_member o places written p below comdat signature members is j inside) moved.1)

  -- ---- rules 78 and 79

  -- the index of one of the object's sections is kept
  index_kept : (i p : ℕ) → i ≡ p + 1 → (length o.sections ≤ p → ⊥) →
      is_kept (left_out (written_sections o places)) (written_sections o places) i ≡ false → ⊥
  index_kept i p at there out = elim (cases_lt p (length o.sections)) [
    | inr past ↦ there past
    | inl below ↦ (
        let f = written_sections o places in
        let next : suc p ≡ i = omega arith in
        true≢false (sym (own_is_kept o places written p below) ∙ ap (is_kept (left_out f) f) next ∙ out))
  ]

  link_kept : (i : ℕ) (link : Option ℕ) → i ≡ index_of link → (IsPast (length o.sections) link → ⊥) → i ≢ 0 →
      is_kept (left_out (written_sections o places)) (written_sections o places) i ≡ false → ⊥
  link_kept i None at there some out = some at
  link_kept i (Some p) at there some out = index_kept i p at there out

  info_kept : (i flags : ℕ) (own : Info) → i ≡ own_info own → (IsAgainstFlag flags own → ⊥) →
      (IsPast (length o.sections) (info_position own) → ⊥) → HasFlag flags SHF_INFO_LINK →
      is_kept (left_out (written_sections o places)) (written_sections o places) i ≡ false → ⊥
  info_kept i flags (Number number) at right there has out = right has
  info_kept i flags (Section p) at right there has out = index_kept i p at there out

  -- what the rules of objects say of a section of bits, or without them
  plain_body : (p : ℕ) (b : BodyValue) → (section_at o p).body ≡ b → p < length o.sections →
      (kind_of_body b ≡ Bits) ⊎ (kind_of_body b ≡ NoBits) →
      ((section (written_sections o places) (suc p)).sh_link ≡ index_of (section_at o p).link) ×
      ((section (written_sections o places) (suc p)).sh_info ≡ own_info (section_at o p).info) ×
      (IsAgainstFlag (section_at o p).flags (section_at o p).info → ⊥)
  plain_body p (bits type bytes) is below kind =
      let at = own_at o places written p below in (
        at.sh_link ∙ ap (body_link o (section_at o p)) is,
        at.sh_info ∙ ap (body_info (section_at o p)) is,
        subst (λ (b : BodyValue). HasWrongField (section_at o p) b → ⊥) is (no_wrong_field o written.object p below),
      )
  plain_body p (no_bits size) is below kind =
      let at = own_at o places written p below in (
        at.sh_link ∙ ap (body_link o (section_at o p)) is,
        at.sh_info ∙ ap (body_info (section_at o p)) is,
        subst (λ (b : BodyValue). HasWrongField (section_at o p) b → ⊥) is (no_wrong_field o written.object p below),
      )
  plain_body p (relocs rela target entries) is below (inl kind) = cc
  plain_body p (relocs rela target entries) is below (inr kind) = cc
  plain_body p (group comdat signature members) is below (inl kind) = cc
  plain_body p (group comdat signature members) is below (inr kind) = cc

  plain_own : (p : ℕ) → p < length o.sections → IsPlain (left_out (written_sections o places)) (written_sections o places) (suc p) →
      ((section (written_sections o places) (suc p)).sh_link ≡ index_of (section_at o p).link) ×
      ((section (written_sections o places) (suc p)).sh_info ≡ own_info (section_at o p).info) ×
      (IsAgainstFlag (section_at o p).flags (section_at o p).info → ⊥)
  plain_own p below (kept, kind) =
      plain_body p (section_at o p).body refl below
      (subst (λ (k : BodyKind). (k ≡ Bits) ⊎ (k ≡ NoBits)) (own_kind o places written p below) kind)

  link_right : (p : ℕ) → p < length o.sections →
      HasWrongKeptLink (left_out (written_sections o places)) (written_sections o places) (suc p) → ⊥
  link_right p below (plain, (some, out)) =
      link_kept _ (section_at o p).link (plain_own p below plain).0 (λ past. no_wrong_position o written.object p below (inl past)) some out

  no_wrong_kept_link : Never (wrong_kept_link (left_out (written_sections o places)) (written_sections o places))
  no_wrong_kept_link x (i, lt, wrong, here) =
      let f = written_sections o places in
      let (p, below, at) = own_of_kept o places written i wrong.0.0 in
      link_right p below (subst (HasWrongKeptLink (left_out f) f) at wrong)

  info_right : (p : ℕ) → p < length o.sections →
      HasWrongKeptInfo (left_out (written_sections o places)) (written_sections o places) (suc p) → ⊥
  info_right p below (plain, (has, out)) =
      let own = plain_own p below plain in
      info_kept _ (section_at o p).flags (section_at o p).info own.1 own.2
      (λ past. no_wrong_position o written.object p below (inr (inl past)))
      (subst (λ (flags : ℕ). HasFlag flags SHF_INFO_LINK) (own_at o places written p below).sh_flags has) out

  no_wrong_kept_info : Never (wrong_kept_info (left_out (written_sections o places)) (written_sections o places))
  no_wrong_kept_info x (i, lt, wrong, here) =
      let f = written_sections o places in
      let (p, below, at) = own_of_kept o places written i wrong.0.0 in
      info_right p below (subst (HasWrongKeptInfo (left_out f) f) at wrong)

  pub references_kept : FirstIn (reference_rules (left_out (written_sections o places)) (written_sections o places)) None
  unfolding reference_rules
  references_kept = (no_wrong_relocation_target, (no_wrong_group_member, (no_wrong_kept_link, (no_wrong_kept_info, tt))))

-- the rules of tables in a run of sections
bodies_in : (f : Sections) (a n : ℕ) → ((i : ℕ) → a ≤ i → i < a + n → FirstIn (rules_of_body (body_kind (section f i).sh_type) f i) None) →
    FirstIn (rules_of_bodies f (range_with_len a n)) None
bodies_in f a zero each = tt
bodies_in f a (suc n) each =
    FirstIn-later (rules_of_body (body_kind (section f a).sh_type) f a) _ None (each a (omega arith) (omega arith))
    (bodies_in f (a + 1) n (λ i above below. each i (omega arith) (omega arith)))

module _ (o : ObjectValue) (places : List ℕ) (written : IsWrittenAt o places) where
  -- ---- rules 70 to 74

  no_foreign_section : Never (foreign_section (written_sections o places))
  no_foreign_section x (i, lt, foreign, here) = (type_says o places written i lt).not_foreign foreign

  no_second_symbol_table : Never (second_symbol_table (written_sections o places))
  no_second_symbol_table x (i, lt, (is, (k, before, other)), here) =
      let second = (type_says o places written i lt).symbols is in
      let first = (type_says o places written k (omega arith)).symbols other in
      omega arith

  no_stray_index_table : Never (stray_index_table (written_sections o places))
  no_stray_index_table x (i, lt, (is, stray), here) =
      let f = written_sections o places in
      let (far, at) = (type_says o places written i lt).indexes is in
      let link = ap (λ (k : ℕ). (section f k).sh_link) at ∙ (indexes_at o places written far).sh_link in
      stray (written_symbol_table o places written ∙ ap (λ (t : ℕ). Some t) (sym link))

  front_kept : FirstIn (front_rules (written_sections o places)) None
  unfolding front_rules written_sections
  front_kept = (
    (λ x (wrong, here). wrong refl),
    (
      (λ x wrong. elim wrong [
        | inl (some, here) ↦ some refl
        | inr (inl (some, here)) ↦ some refl
        | inr (inr none) ↦ none
      ]),
      (no_foreign_section, (no_second_symbol_table, (no_stray_index_table, tt))),
    ),
  )

  -- ---- the tables of the object's own sections

  own_tables_kept : (p : ℕ) → p < length o.sections → (b : BodyValue) → (section_at o p).body ≡ b →
      FirstIn (rules_of_body (kind_of_body b) (written_sections o places) (suc p)) None
  own_tables_kept p below (bits type bytes) is = tt
  own_tables_kept p below (no_bits size) is = tt
  own_tables_kept p below (relocs rela target entries) is = relocation_rules_kept o places written p below rela target entries is
  own_tables_kept p below (group comdat signature members) is = group_rules_kept o places written p below comdat signature members is

  tables_at : (i : ℕ) → 1 ≤ i → i < 1 + length o.sections →
      (let f = written_sections o places in FirstIn (rules_of_body (body_kind (section f i).sh_type) f i) None)
  tables_at zero above below = absurd (omega arith)
  tables_at (suc p) above below =
      let lt : p < length o.sections = omega arith in
      subst (λ (kind : BodyKind). FirstIn (rules_of_body kind (written_sections o places) (suc p)) None)
      (sym (own_kind o places written p lt))
      (own_tables_kept p lt (section_at o p).body refl)

  bodies_kept : (let f = written_sections o places in FirstIn (rules_of_bodies f (kept (left_out f) f)) None)
  bodies_kept =
      let f = written_sections o places in
      subst (λ (is : List ℕ). FirstIn (rules_of_bodies f is) None) (sym (written_kept o places written))
      (bodies_in f 1 (length o.sections) tables_at)

  -- ---- all rules

  after_kept : (let f = written_sections o places in FirstIn (rules_after_front (left_out f) f (symbol_table f)) None)
  unfolding rules_after_front
  after_kept =
      let f = written_sections o places in
      let left = left_out f in
      let symbols =
      symbols_kept left f (symbol_table f) (symbol_table_at o) (written_symbol_table o places written) (symbol_rules_kept o places written)
      (no_symbol_outside o places written) in
      FirstIn-later (symbol_rules_in left f (symbol_table f)) _ None symbols
      (FirstIn-later (rules_of_bodies f (kept left f)) (reference_rules left f) None bodies_kept (references_kept o places written))

  pub written_keeps_rules : FirstIn (file_rules (written_sections o places)) None
  unfolding file_rules
  written_keeps_rules = FirstIn-later (front_rules (written_sections o places)) _ None front_kept after_kept
