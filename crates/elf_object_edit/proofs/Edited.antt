-- An object without sections that nothing else refers to keeps the rules of objects. Each of its sections and symbols is one that stays,
-- with new positions. What a section that stays names stays too, so its new position is there and has what it named. New positions ascend,
-- so groups are before their members, and local symbols before the others.
use Rattle.std.proofs.Common.{◌≡◌, ℕ, ◌<◌, Bool, true, false, inl, inr, refl, List, get_or, length, Option, None, Some}
use Rattle.std.proofs.Common.{map, sym, ap, subst, ◌∙◌, arith}
use Rattle.std.specs.Prelude.{slice_index, IfSome}
use Rattle.std.specs.List.{slice_get}
use Rattle.std.specs.Option.{option_map}
use Rattle.std.proofs.lemmas.Bool.{cases_lt, true_from_ne_false}
use Rattle.std.proofs.lemmas.List.{get_or-map, get_or_past, length-map}
use Rattle.std.proofs.lemmas.Option.{slice_get-get_or}
use Rattle.elf_field.specs.Abi.{SHF_GROUP}
use Rattle.elf_object_edit.specs.Without.{IsLeftOut, NoneDangles, body_entries, has_staying_place, moved_body, moved_info, moved_place}
use Rattle.elf_object_edit.specs.Without.{moved_relocation, moved_section, moved_symbol, new_position, body_signature, staying}
use Rattle.elf_object_edit.specs.Without.{staying_symbols}
use Rattle.elf_object_edit.specs.Without.{stays, body_target, with_staying}
use Rattle.elf_object_edit.specs.declared.fault.Reference.TheVariants.{Link, Target, Signature, Member}
use Rattle.elf_object_edit.specs.declared.fault.Reference.TheVariants as reference
use Rattle.elf_object_type.proofs.Public.{IsListed, listed, one_place, places_ascend, stands_at}
use Rattle.elf_object_type.specs.Object.{BodyValue, bits, no_bits, relocs, group, ObjectValue, SectionValue, SymbolValue, section_at}
use Rattle.elf_object_type.specs.Object.{symbol_at}
use Rattle.elf_object_type.specs.Object.{HasZero, LacksFlag, info_position, is_bits, is_group, members_of, no_relocation, no_section}
use Rattle.elf_object_type.specs.Object.{no_symbol}
use Rattle.elf_object_type.specs.ObjectRules.{EachSection, EachSymbol, FollowsFlag, HasBitsType, HasEntryFields}
use Rattle.elf_object_type.specs.ObjectRules.{HasNoAddends, HasReferences, HasRightFields, HasRightMembers}
use Rattle.elf_object_type.specs.ObjectRules.{HasRightPositions, IsAligned, IsLocal, KeepsObjectRules, group_members, member_in}
use Rattle.elf_object_type.specs.ObjectRules.{place_position}
use Rattle.elf_object_type.specs.declared.parts.Info.TheVariants.{Number, Section}
use Rattle.elf_object_type.specs.declared.parts.Info.{Info}
use Rattle.elf_object_type.specs.declared.parts.Place.TheVariants.{Undef, Abs, Common, In}
use Rattle.elf_object_type.specs.declared.parts.Place.{Place}
use Rattle.elf_object_type.specs.declared.relocations.Relocation.{Relocation}

-- ---- the sections and symbols of the edited object

abbrev Moved : List Bool → List Bool → ObjectValue → ℕ → SectionValue
Moved S Y o p = moved_section S Y (section_at o p)

section_count : (o : ObjectValue) (S Y : List Bool) → length (with_staying o S Y).sections ≡ new_position S (length S)
section_count o S Y = length-map (staying S) (λ p. Moved S Y o p)

symbol_count : (o : ObjectValue) (S Y : List Bool) → length (with_staying o S Y).symbols ≡ new_position Y (length Y)
symbol_count o S Y = length-map (staying Y) (λ k. moved_symbol S (symbol_at o k))

-- the one at a new position that is there
section_of : (o : ObjectValue) (S Y : List Bool) (q : ℕ) → q < length (with_staying o S Y).sections →
    (p : ℕ) × IsListed (stays S) (length S) q p × (section_at (with_staying o S Y) q ≡ Moved S Y o p)
section_of o S Y q lt =
    let below : q < new_position S (length S) = omega (arith, section_count o S Y) in
    let (p, is) = listed (stays S) (length S) q below in
    (p, is, get_or-map (λ k. Moved S Y o k) (staying S) q 0 no_section below ∙ ap (λ k. Moved S Y o k) is.at)

symbol_of : (o : ObjectValue) (S Y : List Bool) (q : ℕ) → q < length (with_staying o S Y).symbols →
    (k : ℕ) × IsListed (stays Y) (length Y) q k × (symbol_at (with_staying o S Y) q ≡ moved_symbol S (symbol_at o k))
symbol_of o S Y q lt =
    let below : q < new_position Y (length Y) = omega (arith, symbol_count o S Y) in
    let (k, is) = listed (stays Y) (length Y) q below in
    let moved : ℕ → SymbolValue = λ k. moved_symbol S (symbol_at o k) in
    (k, is, get_or-map moved (staying Y) q 0 no_symbol below ∙ ap moved is.at)

stays_there : (marks : List Bool) (p : ℕ) → stays marks p ≡ true → p < length marks
stays_there marks p is = elim (cases_lt p (length marks)) [
  | inl below ↦ below
  | inr past ↦ (let both : true ≡ false = sym is ∙ get_or_past marks p false past in cc)
]

-- the new position of one that stays
position_there : (marks : List Bool) (p : ℕ) → stays marks p ≡ true → new_position marks p < new_position marks (length marks)
position_there marks p is = places_ascend (stays marks) p (length marks) (stays_there marks p is) is

moved_at : (o : ObjectValue) (S Y : List Bool) (p : ℕ) → stays S p ≡ true →
    section_at (with_staying o S Y) (new_position S p) ≡ Moved S Y o p
moved_at o S Y p is =
    get_or-map (λ k. Moved S Y o k) (staying S) (new_position S p) 0 no_section (position_there S p is) ∙
    ap (λ k. Moved S Y o k) (stands_at (stays S) (length S) p (stays_there S p is) is).at

-- what is named stays unless it is left
named_stays : (marks : List Bool) (p : ℕ) → (IsLeftOut marks (Some p) → ⊥) → stays marks p ≡ true
named_stays marks p never = true_from_ne_false (stays marks p) never

named_there : (marks : List Bool) (n : ℕ) (named : Option ℕ) → n ≡ new_position marks (length marks) → (IsLeftOut marks named → ⊥) →
    IfSome (option_map (new_position marks) named) (λ p. p < n)
named_there marks n None count never = tt
named_there marks n (Some p) count never =
    subst (λ (m : ℕ). new_position marks p < m) (sym count) (position_there marks p (named_stays marks p never))

-- ---- rules on each section

bits_type : (S Y : List Bool) (b : BodyValue) → HasBitsType b → HasBitsType (moved_body S Y b)
bits_type S Y (bits type content) is = is
bits_type S Y (no_bits size) is = is
bits_type S Y (relocs rela target entries) is = is
bits_type S Y (group comdat signature members) is = is

aligned : (S Y : List Bool) (s : SectionValue) → IsAligned s → IsAligned (moved_section S Y s)
aligned S Y s is = record { alignment = is.alignment; address = is.address }

follows : (S : List Bool) (flags : ℕ) (info : Info) → FollowsFlag flags info → FollowsFlag flags (moved_info S info)
follows S flags (Number number) is = is
follows S flags (Section p) is = is

entry_fields : (S Y : List Bool) (s : SectionValue) (size : ℕ) → HasEntryFields s size → HasEntryFields (moved_section S Y s) size
entry_fields S Y s size is = record {
  no_link = ap (option_map (new_position S)) is.no_link;
  no_info = ap (moved_info S) is.no_info;
  entry_size = is.entry_size;
}

no_addends : (Y : List Bool) (entries : List Relocation) → HasNoAddends entries → HasNoAddends (map (moved_relocation Y) entries)
no_addends Y entries is e lt =
    let within : e < length entries = omega (arith, length-map entries (moved_relocation Y)) in
    ap (λ (r : Relocation). r.addend) (get_or-map (moved_relocation Y) entries e no_relocation no_relocation within) ∙ is e within

right_fields : (S Y : List Bool) (s : SectionValue) (b : BodyValue) → HasRightFields s b →
    HasRightFields (moved_section S Y s) (moved_body S Y b)
right_fields S Y s (bits type content) is = follows S s.flags s.info is
right_fields S Y s (no_bits size) is = follows S s.flags s.info is
right_fields S Y s (relocs rela target entries) is = (entry_fields S Y s _ is.0, λ rel. no_addends Y entries (is.1 rel))
right_fields S Y s (group comdat signature members) is = entry_fields S Y s _ is

-- ---- rule 4

-- the body of a section that stays names only what stays
record NamesStaying (S Y : List Bool) (b : BodyValue) : Type 0 where
  target : IsLeftOut S (body_target b) → ⊥
  entries : (j : ℕ) → IsLeftOut Y (get_or (body_entries b) j no_relocation).symbol → ⊥
  signature : IsLeftOut Y (body_signature b) → ⊥
  members : (j : ℕ) → IsLeftOut S (slice_get (members_of b) j) → ⊥

names_staying : (o : ObjectValue) (S Y : List Bool) (p : ℕ) → NoneDangles o S Y → stays S p ≡ true → NamesStaying S Y (section_at o p).body
names_staying o S Y p none is = record {
  target = λ left. none p Target (is, inl left);
  entries = λ j left. none p (reference.Symbol j) (is, inr left);
  signature = λ left. none p Signature (is, inr left);
  members = λ j left. none p (Member j) (is, inl left);
}

still_bits : (S Y : List Bool) (b : BodyValue) → is_bits b ≡ true → is_bits (moved_body S Y b) ≡ true
still_bits S Y (bits type content) is = is
still_bits S Y (no_bits size) is = is
still_bits S Y (relocs rela target entries) is = is
still_bits S Y (group comdat signature members) is = is

member_stays : (S : List Bool) (members : List ℕ) (j : ℕ) → j < length members → (IsLeftOut S (slice_get members j) → ⊥) →
    stays S (get_or members j 0) ≡ true
member_stays S members j lt never =
    named_stays S (get_or members j 0) (λ left. never (subst (IsLeftOut S) (sym (slice_get-get_or members j 0 lt)) left))

references : (o : ObjectValue) (S Y : List Bool) (b : BodyValue) → NamesStaying S Y b → HasReferences o b →
    HasReferences (with_staying o S Y) (moved_body S Y b)
references o S Y (bits type content) names are = tt
references o S Y (no_bits size) names are = tt
references o S Y (relocs rela target entries) names are =
    let e = with_staying o S Y in
    let is = named_stays S target names.target in
    record {
      target_there = subst (λ (m : ℕ). new_position S target < m) (sym (section_count o S Y)) (position_there S target is);
      target_bits = ap (λ (s : SectionValue). is_bits s.body) (moved_at o S Y target is) ∙
          still_bits S Y (section_at o target).body are.target_bits;
      symbols_there = λ j lt. (
          let within : j < length entries = omega (arith, length-map entries (moved_relocation Y)) in
          subst (λ (r : Relocation). IfSome r.symbol (λ k. k < length e.symbols))
          (sym (get_or-map (moved_relocation Y) entries j no_relocation no_relocation within))
          (named_there Y (length e.symbols) (get_or entries j no_relocation).symbol (symbol_count o S Y) (names.entries j)));
    }
references o S Y (group comdat signature members) names are =
    let e = with_staying o S Y in
    record {
      signature_there = subst (λ (m : ℕ). new_position Y signature < m) (sym (symbol_count o S Y))
          (position_there Y signature (named_stays Y signature names.signature));
      members_there = λ j lt. (
          let within : j < length members = omega (arith, length-map members (new_position S)) in
          let there = position_there S (get_or members j 0) (member_stays S members j within (names.members j)) in
          let at = get_or-map (new_position S) members j 0 0 within in
          subst (λ (m : ℕ). m < length e.sections) (sym at)
          (subst (λ (m : ℕ). new_position S (get_or members j 0) < m) (sym (section_count o S Y)) there));
    }

info_moved : (S : List Bool) (info : Info) → info_position (moved_info S info) ≡ option_map (new_position S) (info_position info)
info_moved S (Number number) = refl
info_moved S (Section p) = refl

right_positions : (o : ObjectValue) (S Y : List Bool) (p : ℕ) → NoneDangles o S Y → stays S p ≡ true →
    HasRightPositions o (section_at o p) → HasRightPositions (with_staying o S Y) (Moved S Y o p)
right_positions o S Y p none is right =
    let s = section_at o p in
    let e = with_staying o S Y in
    record {
      link_there = named_there S (length e.sections) s.link (section_count o S Y) (λ left. none p Link (is, inl left));
      info_there = subst (λ (x : Option ℕ). IfSome x (λ q. q < length e.sections)) (sym (info_moved S s.info))
          (named_there S (length e.sections) (info_position s.info) (section_count o S Y) (λ left. none p reference.Info (is, inl left)));
      references = references o S Y s.body (names_staying o S Y p none is) right.references;
    }

-- each section of the edited object is one that stays
each_section : (o : ObjectValue) (S Y : List Bool) (P Q : SectionValue → Type 0) → length S ≡ length o.sections →
    ((p : ℕ) → stays S p ≡ true → P (section_at o p) → Q (Moved S Y o p)) →
    EachSection o P → EachSection (with_staying o S Y) Q
each_section o S Y P Q long step all q lt =
    let (p, is, at) = section_of o S Y q lt in
    let there = is.there in
    subst Q (sym at) (step p is.passes (all p (omega arith)))

each_symbol : (o : ObjectValue) (S Y : List Bool) (P Q : SymbolValue → Type 0) → length Y ≡ length o.symbols →
    ((k : ℕ) → stays Y k ≡ true → P (symbol_at o k) → Q (moved_symbol S (symbol_at o k))) →
    EachSymbol o P → EachSymbol (with_staying o S Y) Q
each_symbol o S Y P Q long step all q lt =
    let (k, is, at) = symbol_of o S Y q lt in
    let there = is.there in
    subst Q (sym at) (step k is.passes (all k (omega arith)))

-- ---- rule 6

members_moved : (S Y : List Bool) (b : BodyValue) → members_of (moved_body S Y b) ≡ map (new_position S) (members_of b)
members_moved S Y (bits type content) = refl
members_moved S Y (no_bits size) = refl
members_moved S Y (relocs rela target entries) = refl
members_moved S Y (group comdat signature members) = refl

group_moved : (S Y : List Bool) (b : BodyValue) → is_group (moved_body S Y b) ≡ is_group b
group_moved S Y (bits type content) = refl
group_moved S Y (no_bits size) = refl
group_moved S Y (relocs rela target entries) = refl
group_moved S Y (group comdat signature members) = refl

-- member j of the group at new position q is a member of the group at position p, which stays
record IsMovedMember (o : ObjectValue) (S Y : List Bool) (q p j : ℕ) : Type 0 where
  within : j < length (group_members o p)
  passes : stays S (member_in o p j) ≡ true
  moved : member_in (with_staying o S Y) q j ≡ new_position S (member_in o p j)

moved_member : (o : ObjectValue) (S Y : List Bool) (q p j : ℕ) → NoneDangles o S Y → stays S p ≡ true →
    section_at (with_staying o S Y) q ≡ Moved S Y o p → j < length (group_members (with_staying o S Y) q) → IsMovedMember o S Y q p j
moved_member o S Y q p j none is at lt =
    let members = group_members o p in
    let are : group_members (with_staying o S Y) q ≡ map (new_position S) members =
    ap (λ (s : SectionValue). members_of s.body) at ∙ members_moved S Y (section_at o p).body in
    let within : j < length members = subst (λ (n : ℕ). j < n)
    (ap (λ (ms : List ℕ). length ms) are ∙ length-map members (new_position S)) lt in
    record {
      within = within;
      passes = member_stays S members j within ((names_staying o S Y p none is).members j);
      moved = ap (λ (ms : List ℕ). slice_index ms j) are ∙ get_or-map (new_position S) members j 0 0 within;
    }

right_members : (o : ObjectValue) (S Y : List Bool) → length S ≡ length o.sections → NoneDangles o S Y → HasRightMembers o →
    HasRightMembers (with_staying o S Y)
right_members o S Y long none right = record {
  members_after = λ q j there lt. (
      let (p, is, at) = section_of o S Y q there in
      let below = is.there in
      let m = moved_member o S Y q p j none is.passes at lt in
      let after = right.members_after p j (omega arith) m.within in
      let ascend = places_ascend (stays S) p (member_in o p j) after is.passes in
      subst (λ (k : ℕ). q < k) (sym m.moved) (subst (λ (k : ℕ). k < new_position S (member_in o p j)) is.place_is ascend));
  flagged = λ q j there lt. (
      let (p, is, at) = section_of o S Y q there in
      let below = is.there in
      let m = moved_member o S Y q p j none is.passes at lt in
      let here = ap (λ (k : ℕ). section_at (with_staying o S Y) k) m.moved ∙ moved_at o S Y (member_in o p j) m.passes in
      λ lacks. right.flagged p j (omega arith) m.within (subst (λ (s : SectionValue). LacksFlag s.flags SHF_GROUP) here lacks));
  no_group = λ q j there lt. (
      let (p, is, at) = section_of o S Y q there in
      let below = is.there in
      let m = moved_member o S Y q p j none is.passes at lt in
      let here = ap (λ (k : ℕ). section_at (with_staying o S Y) k) m.moved ∙ moved_at o S Y (member_in o p j) m.passes in
      ap (λ (s : SectionValue). is_group s.body) here ∙ group_moved S Y (section_at o (member_in o p j)).body ∙
      right.no_group p j (omega arith) m.within);
  once = λ q j k there lt lu same. (
      let (p, is, at) = section_of o S Y q there in
      let below = is.there in
      let m = moved_member o S Y q p j none is.passes at lt in
      let n = moved_member o S Y q p k none is.passes at lu in
      right.once p j k (omega arith) m.within n.within
      (one_place (stays S) (member_in o p j) (member_in o p k) m.passes n.passes (sym m.moved ∙ same ∙ n.moved)));
  of_one = λ q r j k there this lt lu same. (
      let (p, is, at) = section_of o S Y q there in
      let (h, iz, au) = section_of o S Y r this in
      let below = is.there in
      let under = iz.there in
      let m = moved_member o S Y q p j none is.passes at lt in
      let n = moved_member o S Y r h k none iz.passes au lu in
      let one = right.of_one p h j k (omega arith) (omega arith) m.within n.within
      (one_place (stays S) (member_in o p j) (member_in o h k) m.passes n.passes (sym m.moved ∙ same ∙ n.moved)) in
      sym is.place_is ∙ ap (new_position S) one ∙ iz.place_is);
}

-- ---- rules 8 and 9

place_there : (S : List Bool) (n : ℕ) (place : Place) → n ≡ new_position S (length S) → has_staying_place S place ≡ true →
    IfSome (place_position (moved_place S place)) (λ p. p < n)
place_there S n Undef count is = tt
place_there S n Abs count is = tt
place_there S n Common count is = tt
place_there S n (In p) count is = subst (λ (m : ℕ). new_position S p < m) (sym count) (position_there S p is)

place_stays : (o : ObjectValue) (S Y : List Bool) (k : ℕ) → Y ≡ staying_symbols o S → stays Y k ≡ true →
    has_staying_place S (symbol_at o k).place ≡ true
place_stays o S Y k own is =
    let long : length Y ≡ length o.symbols =
    ap (λ (ms : List Bool). length ms) own ∙ length-map o.symbols (λ s. has_staying_place S s.place) in
    let there = stays_there Y k is in
    sym (ap (λ (ms : List Bool). get_or ms k false) own ∙
    get_or-map (λ (s : SymbolValue). has_staying_place S s.place) o.symbols k no_symbol false (omega arith)) ∙ is

locals_first : (o : ObjectValue) (S Y : List Bool) → length Y ≡ length o.symbols → KeepsObjectRules o → (k j : ℕ) → k < j →
    j < length (with_staying o S Y).symbols → IsLocal (symbol_at (with_staying o S Y) j) → IsLocal (symbol_at (with_staying o S Y) k)
locals_first o S Y long rules k j lt there local =
    let (h, is, at) = symbol_of o S Y k (omega arith) in
    let (i, iz, au) = symbol_of o S Y j there in
    let below = iz.there in
    let first = is.place_is in
    let second = iz.place_is in
    let order : h < i = elim (cases_lt h i) [
      | inl less ↦ less
      | inr above ↦ elim (cases_lt i h) [
        | inl less ↦ absurd (let wrong = places_ascend (stays Y) i h less iz.passes in omega arith)
        | inr le ↦ absurd (let same : h ≡ i = omega arith in let both = ap (new_position Y) same in omega arith)
      ]
    ] in
    subst IsLocal (sym at) (rules.locals_first h i order (omega arith) (subst IsLocal au local))

-- ---- all rules

pub edited_kept : (o : ObjectValue) (S Y : List Bool) → length S ≡ length o.sections → Y ≡ staying_symbols o S → NoneDangles o S Y →
    KeepsObjectRules o → KeepsObjectRules (with_staying o S Y)
edited_kept o S Y long own none rules =
    let many : length Y ≡ length o.symbols =
    ap (λ (ms : List Bool). length ms) own ∙ length-map o.symbols (λ s. has_staying_place S s.place) in
    let e = with_staying o S Y in
    record {
      section_names = each_section o S Y (λ s. HasZero s.name → ⊥) (λ s. HasZero s.name → ⊥) long (λ p is named. named) rules.section_names;
      bits_types = each_section o S Y (λ s. HasBitsType s.body) (λ s. HasBitsType s.body) long
          (λ p is typed. bits_type S Y (section_at o p).body typed) rules.bits_types;
      alignments = each_section o S Y IsAligned IsAligned long (λ p is. aligned S Y (section_at o p)) rules.alignments;
      positions = each_section o S Y (HasRightPositions o) (HasRightPositions e) long
          (λ p is. right_positions o S Y p none is) rules.positions;
      fields = each_section o S Y (λ s. HasRightFields s s.body) (λ s. HasRightFields s s.body) long
          (λ p is. right_fields S Y (section_at o p) (section_at o p).body) rules.fields;
      membership = right_members o S Y long none rules.membership;
      symbol_names = each_symbol o S Y (λ s. HasZero s.name → ⊥) (λ s. HasZero s.name → ⊥) many (λ k is named. named) rules.symbol_names;
      places_there = each_symbol o S Y (λ s. IfSome (place_position s.place) (λ p. p < length o.sections))
          (λ s. IfSome (place_position s.place) (λ p. p < length e.sections)) many
          (λ k is was. place_there S (length e.sections) (symbol_at o k).place (section_count o S Y) (place_stays o S Y k own is))
          rules.places_there;
      locals_first = locals_first o S Y many rules;
    }
