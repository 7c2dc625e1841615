-- No rule of objects is broken exactly if each rule's positive fact holds. A rule says that something is wrong and its fact that it is
-- right; each is made of tests of numbers and flags at each index, which are decidable. A section is a member only once, because of two
-- positions the later one would break rule 6.
use Rattle.std.proofs.Common.{ℕ, Option, None, Some, inl, refl, ◌≡◌, ◌≢◌, ◌<◌, ◌⊎◌, zero, suc, inr, sym, arith, ◌++◌, length, ◌≤◌, Bool}
use Rattle.std.proofs.Common.{true, false, subst, ◌∙◌, List, ◌+◌, [], get_or, set, get_or-set_other, get_or-set_same}
use Rattle.std.specs.Prelude.{ℤ, ◌%◌, pos, slice_index, IfSome}
use Rattle.std.proofs.Math.IntN.{negsuc, pos-ne-negsuc}
use Rattle.std.proofs.lemmas.Bool.{cases_order, cases_eq, cases_lt}
use Rattle.std.proofs.lemmas.List.{get_or_default, get_or_past, length-set}
use Rattle.elf_extent.specs.Extent.{IsLeast, Never}
use Rattle.elf_field.specs.Abi.{WORD_SIZE, relocation_size}
use Rattle.elf_image_rules.proofs.Public.{FirstIn-later, FirstIn-sooner, FirstIn-after, FirstIn-front, above, equal, is_alignment}
use Rattle.elf_image_rules.specs.KeepsRules.{IsAlignment}
use Rattle.elf_image_rules.specs.Rows.{FirstIn}
use Rattle.elf_image_rules.specs.Rules.{IsWrongAlignment}
use Rattle.elf_object_type.proofs.PartsOfObjects.{none_of_any}
use Rattle.elf_object_type.specs.Object.{ObjectValue, section_at, symbol_at, HasZero, IsPast, BodyValue, bits, no_bits, relocs, group}
use Rattle.elf_object_type.specs.Object.{SectionValue, no_relocation, members_of}
use Rattle.elf_object_type.specs.ObjectRules.{object_group_rules, wrong_membership, object_rules, object_section_rules, object_symbol_rules}
use Rattle.elf_object_type.specs.ObjectRules.{HasWrongMembership, IsObject, HasWrongAlignment, HasWrongField, HasWrongPosition}
use Rattle.elf_object_type.specs.ObjectRules.{IsWrongBitsType, IsMisplacedLocal, place_position, FollowsFlag, HasBitsType, HasEntryFields}
use Rattle.elf_object_type.specs.ObjectRules.{HasReferences, HasRightFields, HasRightMembers, HasRightPositions, IsAligned}
use Rattle.elf_object_type.specs.ObjectRules.{KeepsObjectRules, group_members, member_in, HasLinkOrInfo, HasWrongReference, IsAgainstFlag}
use Rattle.elf_object_type.specs.ObjectRules.{IsLocal, HasGroupReferences, HasRelocationReferences, AreMembershipMarks, CannotJoin}
use Rattle.elf_object_type.specs.ObjectRules.{IsWrongMembership, NamesMember}
use Rattle.elf_object_type.specs.declared.parts.Info.TheVariants.{Number, Section}
use Rattle.elf_object_type.specs.declared.parts.Info.{Info}
use Rattle.elf_object_type.specs.declared.relocations.Relocation.{Relocation}
use Rattle.elf_object_type.specs.declared.parts.Info.TheVariants as info

-- The nine rules as three runs: of sections, groups and symbols.

pub fault_in_sections : (o : ObjectValue) (fault : ℕ × ℕ) → FirstIn (object_section_rules o) (Some fault) →
    FirstIn (object_rules o) (Some fault)
unfolding object_rules
fault_in_sections o fault found = FirstIn-sooner (object_section_rules o) _ fault found

pub fault_in_groups : (o : ObjectValue) (position : ℕ) → FirstIn (object_section_rules o) None → IsLeast (wrong_membership o) position →
    FirstIn (object_rules o) (Some (6, position))
unfolding object_rules object_group_rules
fault_in_groups o position sections least = FirstIn-later (object_section_rules o) _ _ sections (inl (refl, least))

pub found_in_symbols : (o : ObjectValue) (found : Option (ℕ × ℕ)) → FirstIn (object_section_rules o) None → Never (wrong_membership o) →
    FirstIn (object_symbol_rules o) found → FirstIn (object_rules o) found
unfolding object_rules object_group_rules
found_in_symbols o found sections never symbols =
    FirstIn-later (object_section_rules o) _ found sections (FirstIn-later (object_group_rules o) _ found (never, tt) symbols)

-- The fields of a section that breaks no rule.

pub aligned : (align addr : ℕ) → IsAlignment align → (1 < align → addr % align ≡ 0) →
    IsWrongAlignment align ⊎ ((1 < align) × (addr % align ≢ 0)) → ⊥
aligned align addr (inl none) multiple (inl (other, never)) = other none
aligned align addr (inr power) multiple (inl (other, never)) = never power
aligned align addr is multiple (inr (above, other)) = other (multiple above)

-- what a section has where relocations and groups give them a meaning of their own
pub no_link : (link : Option ℕ) → (link ≢ None → ⊥) → None ≡ link
no_link None is = refl
no_link (Some p) is = absurd (is (λ same. cc))

pub no_info : (own : Info) → (own ≢ info.Number 0 → ⊥) → info.Number 0 ≡ own
no_info (info.Number zero) is = refl
no_info (info.Number (suc n)) is = absurd (is (λ same. (let zero_is : suc n ≡ 0 = cc in omega arith)))
no_info (info.Section p) is = absurd (is (λ same. cc))

pub zero_addend : (addend : ℤ) → (addend ≢ pos 0 → ⊥) → pos 0 ≡ addend
zero_addend (pos zero) is = refl
zero_addend (pos (suc n)) is = absurd (is (λ same. (let none : suc n ≡ 0 = cc in omega arith)))
zero_addend (negsuc n) is = absurd (is (λ same. pos-ne-negsuc 0 n (sym same)))

-- What the nine rules give, one by one, of an object that breaks none: no section or symbol at a position breaks a rule.

module _ (o : ObjectValue) (sound : IsObject o) where
  sections_kept : FirstIn (object_section_rules o) None
  unfolding object_rules
  sections_kept = FirstIn-front (object_section_rules o) _ sound

  groups_and_symbols : FirstIn (object_group_rules o ++ object_symbol_rules o) None
  unfolding object_rules
  groups_and_symbols = FirstIn-after (object_section_rules o) _ sound

  groups_kept : FirstIn (object_group_rules o) None
  groups_kept = FirstIn-front (object_group_rules o) _ groups_and_symbols

  symbols_kept : FirstIn (object_symbol_rules o) None
  symbols_kept = FirstIn-after (object_group_rules o) _ groups_and_symbols

  -- rules 1 to 5 of objects
  pub no_zero_in_section_name : (p : ℕ) → p < length o.sections → HasZero (section_at o p).name → ⊥
  unfolding object_section_rules
  no_zero_in_section_name p lt broken = sections_kept.0 p (p, lt, broken, refl)

  pub no_wrong_bits_type : (p : ℕ) → p < length o.sections → IsWrongBitsType (section_at o p).body → ⊥
  unfolding object_section_rules
  no_wrong_bits_type p lt broken = sections_kept.1.0 p (p, lt, broken, refl)

  pub no_wrong_alignment : (p : ℕ) → p < length o.sections → HasWrongAlignment (section_at o p) → ⊥
  unfolding object_section_rules
  no_wrong_alignment p lt broken = sections_kept.1.1.0 p (p, lt, broken, refl)

  pub no_wrong_position : (p : ℕ) → p < length o.sections → HasWrongPosition o (section_at o p) → ⊥
  unfolding object_section_rules
  no_wrong_position p lt broken = sections_kept.1.1.1.0 p (p, lt, broken, refl)

  pub no_wrong_field : (p : ℕ) → p < length o.sections → HasWrongField (section_at o p) (section_at o p).body → ⊥
  unfolding object_section_rules
  no_wrong_field p lt broken = sections_kept.1.1.1.1.0 p (p, lt, broken, refl)

  -- rule 6 of objects
  pub no_wrong_membership : (p : ℕ) → p < length o.sections → HasWrongMembership o p → ⊥
  unfolding object_group_rules
  no_wrong_membership p lt broken = groups_kept.0 p (p, lt, broken, refl)

  -- rules 7 to 9 of objects
  pub no_zero_in_symbol_name : (k : ℕ) → k < length o.symbols → HasZero (symbol_at o k).name → ⊥
  unfolding object_symbol_rules
  no_zero_in_symbol_name k lt broken = symbols_kept.0 k (k, lt, broken, refl)

  pub no_wrong_place : (k : ℕ) → k < length o.symbols → IsPast (length o.sections) (place_position (symbol_at o k).place) → ⊥
  unfolding object_symbol_rules
  no_wrong_place k lt broken = symbols_kept.1.0 k (k, lt, broken, refl)

  pub no_misplaced_local : (k : ℕ) → k < length o.symbols → IsMisplacedLocal o k → ⊥
  unfolding object_symbol_rules
  no_misplaced_local k lt broken = symbols_kept.1.1.0 k (k, lt, broken, refl)

-- ---- what isn't broken is kept

there : (n : ℕ) (position : Option ℕ) → (IsPast n position → ⊥) → IfSome position (λ p. p < n)
there n None never = tt
there n (Some p) never = above p n never

true_of : (b : Bool) → (b ≡ false → ⊥) → b ≡ true
true_of true never = refl
true_of false never = absurd (never refl)

false_of : (b : Bool) → (b ≡ true → ⊥) → b ≡ false
false_of true never = absurd (never refl)
false_of false never = refl

bits_type : (b : BodyValue) → (IsWrongBitsType b → ⊥) → HasBitsType b
bits_type (bits type content) never = never
bits_type (no_bits size) never = tt
bits_type (relocs rela target entries) never = tt
bits_type (group comdat signature members) never = tt

section_aligned : (s : SectionValue) → (HasWrongAlignment s → ⊥) → IsAligned s
section_aligned s never = record {
  alignment = is_alignment s.align (λ wrong. never (inl wrong));
  address = λ above_one. equal _ _ (λ other. never (inr (above_one, other)));
}

references : (o : ObjectValue) (b : BodyValue) → (HasWrongReference o b → ⊥) → HasReferences o b
references o (bits type content) never = tt
references o (no_bits size) never = tt
references o (relocs rela target entries) never = record {
  target_there = above _ _ (λ past. never (inl (inl past)));
  target_bits = true_of _ (λ other. never (inl (inr other)));
  symbols_there =
      λ e lt. there _ _
      (none_of_any (λ (r : Relocation). IsPast (length o.symbols) r.symbol) entries no_relocation (λ some. never (inr some)) e lt);
}
references o (group comdat signature members) never = record {
  signature_there = above _ _ (λ past. never (inl past));
  members_there = λ j lt. above _ _ (none_of_any (λ (m : ℕ). length o.sections ≤ m) members 0 (λ some. never (inr some)) j lt);
}

right_positions : (o : ObjectValue) (s : SectionValue) → (HasWrongPosition o s → ⊥) → HasRightPositions o s
right_positions o s never = record {
  link_there = there _ _ (λ past. never (inl past));
  info_there = there _ _ (λ past. never (inr (inl past)));
  references = references o s.body (λ wrong. never (inr (inr wrong)));
}

follows : (flags : ℕ) (info : Info) → (IsAgainstFlag flags info → ⊥) → FollowsFlag flags info
follows flags (Number number) never = equal _ _ never
follows flags (Section position) never = never

entry_fields : (s : SectionValue) (size : ℕ) → (HasLinkOrInfo s → ⊥) → (s.entsize ≢ size → ⊥) → HasEntryFields s size
entry_fields s size alone sized = record {
  no_link = sym (no_link s.link (λ other. alone (inl other)));
  no_info = sym (no_info s.info (λ other. alone (inr other)));
  entry_size = equal _ _ sized;
}

right_fields : (s : SectionValue) (b : BodyValue) → (HasWrongField s b → ⊥) → HasRightFields s b
right_fields s (bits type content) never = follows s.flags s.info never
right_fields s (no_bits size) never = follows s.flags s.info never
right_fields s (relocs rela target entries) never = (
  entry_fields s (relocation_size rela) (λ others. never (inl others)) (λ other. never (inr (inl other))),
  (λ rel e lt. sym
      (zero_addend _
      (none_of_any (λ (r : Relocation). r.addend ≢ pos 0) entries no_relocation (λ some. never (inr (inr (rel, some)))) e lt))),
)
right_fields s (group comdat signature members) never =
    entry_fields s WORD_SIZE (λ others. never (inl others)) (λ other. never (inr other))

module _ (o : ObjectValue) (never : (p : ℕ) → p < length o.sections → HasWrongMembership o p → ⊥) where
  once : (p j k : ℕ) → p < length o.sections → j < length (group_members o p) → k < length (group_members o p) →
      member_in o p j ≡ member_in o p k → j ≡ k
  once p j k within ltj ltk same = elim (cases_order j k) [
    | inl equal_places ↦ equal_places
    | inr (inl before) ↦ absurd (never p within (k, ltk, inr (inl (inl (j, before, same)))))
    | inr (inr after) ↦ absurd (never p within (j, ltj, inr (inl (inl (k, after, sym same)))))
  ]

  of_one : (p q j k : ℕ) → p < length o.sections → q < length o.sections → j < length (group_members o p) → k < length (group_members o q) →
      member_in o p j ≡ member_in o q k → p ≡ q
  of_one p q j k withinp withinq ltj ltk same = elim (cases_order p q) [
    | inl equal_groups ↦ equal_groups
    | inr (inl before) ↦ absurd (never q withinq (k, ltk, inr (inl (inr (p, before, (j, ltj, same))))))
    | inr (inr after) ↦ absurd (never p withinp (j, ltj, inr (inl (inr (q, after, (k, ltk, sym same))))))
  ]

  right_members : HasRightMembers o
  right_members = record {
    members_after = λ p j within lt. above _ _ (λ le. never p within (j, lt, inl le));
    flagged = λ p j within lt lacks. never p within (j, lt, inr (inr (inr lacks)));
    no_group = λ p j within lt. false_of _ (λ is. never p within (j, lt, inr (inr (inl is))));
    once = once;
    of_one = of_one;
  }

local_first : (o : ObjectValue) (k j : ℕ) → (IsMisplacedLocal o j → ⊥) → k < j → IsLocal (symbol_at o j) → IsLocal (symbol_at o k)
local_first o k j never before is_local = equal _ _ (λ other. never (is_local, (k, before, other)))

pub object_rules_kept : (o : ObjectValue) → IsObject o → KeepsObjectRules o
object_rules_kept o is = record {
  section_names = λ p lt. no_zero_in_section_name o is p lt;
  bits_types = λ p lt. bits_type (section_at o p).body (no_wrong_bits_type o is p lt);
  alignments = λ p lt. section_aligned _ (no_wrong_alignment o is p lt);
  positions = λ p lt. right_positions o _ (no_wrong_position o is p lt);
  fields = λ p lt. right_fields (section_at o p) (section_at o p).body (no_wrong_field o is p lt);
  membership = right_members o (no_wrong_membership o is);
  symbol_names = λ k lt. no_zero_in_symbol_name o is k lt;
  places_there = λ k lt. there _ _ (no_wrong_place o is k lt);
  locals_first = λ k j before lt. local_first o k j (no_misplaced_local o is j lt) before;
}

-- ---- what is kept isn't broken

not_past : (n : ℕ) (position : Option ℕ) → IfSome position (λ p. p < n) → IsPast n position → ⊥
not_past n None is past = past
not_past n (Some p) below past = omega arith

right_bits : (b : BodyValue) → HasBitsType b → IsWrongBitsType b → ⊥
right_bits (bits type content) right wrong = right wrong
right_bits (no_bits size) right wrong = wrong
right_bits (relocs rela target entries) right wrong = wrong
right_bits (group comdat signature members) right wrong = wrong

not_false : (b : Bool) → b ≡ true → b ≡ false → ⊥
not_false b is other = let same : true ≡ false = sym is ∙ other in cc

right_reference : (o : ObjectValue) (b : BodyValue) → HasReferences o b → HasWrongReference o b → ⊥
right_reference o (bits type content) has wrong = wrong
right_reference o (no_bits size) has wrong = wrong
right_reference o (relocs rela target entries) has (inl (inl past)) = let below = has.target_there in omega arith
right_reference o (relocs rela target entries) has (inl (inr other)) = not_false _ has.target_bits other
right_reference o (relocs rela target entries) has (inr (e, x, lt, at, past)) =
    not_past (length o.symbols) x.symbol
    (subst (λ (r : Relocation). IfSome r.symbol (λ k. k < length o.symbols)) (get_or_default entries e no_relocation x lt ∙ at)
    (has.symbols_there e lt)) past
right_reference o (group comdat signature members) has (inl past) = let below = has.signature_there in omega arith
right_reference o (group comdat signature members) has (inr (j, x, lt, at, past)) =
    let below = has.members_there j lt in
    let same : slice_index members j ≡ x = get_or_default members j 0 x lt ∙ at in
    omega arith

right_position : (o : ObjectValue) (s : SectionValue) → HasRightPositions o s → HasWrongPosition o s → ⊥
right_position o s has (inl past) = not_past _ _ has.link_there past
right_position o s has (inr (inl past)) = not_past _ _ has.info_there past
right_position o s has (inr (inr wrong)) = right_reference o s.body has.references wrong

not_against : (flags : ℕ) (info : Info) → FollowsFlag flags info → IsAgainstFlag flags info → ⊥
not_against flags (Number number) lacks has = has lacks
not_against flags (Section position) has lacks = has lacks

alone : (s : SectionValue) (size : ℕ) → HasEntryFields s size → HasLinkOrInfo s → ⊥
alone s size has (inl other) = other has.no_link
alone s size has (inr other) = other has.no_info

right_field : (s : SectionValue) (b : BodyValue) → HasRightFields s b → HasWrongField s b → ⊥
right_field s (bits type content) has wrong = not_against s.flags s.info has wrong
right_field s (no_bits size) has wrong = not_against s.flags s.info has wrong
right_field s (relocs rela target entries) has (inl others) = alone s (relocation_size rela) has.0 others
right_field s (relocs rela target entries) has (inr (inl other)) = other has.0.entry_size
right_field s (relocs rela target entries) has (inr (inr (rel, (e, x, lt, at, other)))) =
    other (subst (λ (r : Relocation). r.addend ≡ pos 0) (get_or_default entries e no_relocation x lt ∙ at) (has.1 rel e lt))
right_field s (group comdat signature members) has (inl others) = alone s WORD_SIZE has others
right_field s (group comdat signature members) has (inr other) = other has.entry_size

right_member : (o : ObjectValue) (p : ℕ) → HasRightMembers o → p < length o.sections → HasWrongMembership o p → ⊥
right_member o p has within (j, lt, inl le) = let before = has.members_after p j within lt in omega arith
right_member o p has within (j, lt, inr (inl (inl (k, before, same)))) =
    let one = has.once p k j within (omega arith) lt same in omega arith
right_member o p has within (j, lt, inr (inl (inr (q, before, (k, ltk, same))))) =
    let one = has.of_one q p k j (omega arith) within ltk lt same in omega arith
right_member o p has within (j, lt, inr (inr (inl is))) = not_false _ is (has.no_group p j within lt)
right_member o p has within (j, lt, inr (inr (inr lacks))) = has.flagged p j within lt lacks

sections_unbroken : (o : ObjectValue) → KeepsObjectRules o → FirstIn (object_section_rules o) None
unfolding object_section_rules
sections_unbroken o kept = (
  (λ x (p, lt, broken, at). kept.section_names p lt broken),
  (
    (λ x (p, lt, broken, at). right_bits (section_at o p).body (kept.bits_types p lt) broken),
    (
      (λ x (p, lt, broken, at). let is = kept.alignments p lt in aligned _ _ is.alignment is.address broken),
      (
        (λ x (p, lt, broken, at). right_position o _ (kept.positions p lt) broken),
        ((λ x (p, lt, broken, at). right_field (section_at o p) (section_at o p).body (kept.fields p lt) broken), tt),
      ),
    ),
  ),
)

symbols_unbroken : (o : ObjectValue) → KeepsObjectRules o → FirstIn (object_symbol_rules o) None
unfolding object_symbol_rules
symbols_unbroken o kept = (
  (λ x (k, lt, broken, at). kept.symbol_names k lt broken),
  (
    (λ x (k, lt, broken, at). not_past _ _ (kept.places_there k lt) broken),
    ((λ x (j, lt, (is_local, (k, before, other)), at). other (kept.locals_first k j before lt is_local)), tt),
  ),
)

pub object_rules_unbroken : (o : ObjectValue) → KeepsObjectRules o → IsObject o
object_rules_unbroken o kept =
    found_in_symbols o None (sections_unbroken o kept) (λ x (p, lt, broken, at). right_member o p kept.membership lt broken)
    (symbols_unbroken o kept)

-- If an object breaks no rule, what its relocation sections, groups and symbols refer to is there: positions below the counts. Each is a
-- field of `object_rules_kept`; a member of a group is found by cases on the body.

-- what the body of section p names
pub references_there : (o : ObjectValue) (p : ℕ) → IsObject o → p < length o.sections → HasReferences o (section_at o p).body
references_there o p is lt = ((object_rules_kept o is).positions p lt).references

pub relocations_there : (o : ObjectValue) (p : ℕ) (rela : Bool) (target : ℕ) (es : List Relocation) → IsObject o → p < length o.sections →
    (section_at o p).body ≡ relocs rela target es → HasRelocationReferences o target es
relocations_there o p rela target es is lt body = subst (λ (b : BodyValue). HasReferences o b) body (references_there o p is lt)

pub group_there : (o : ObjectValue) (p : ℕ) (comdat : Bool) (signature : ℕ) (members : List ℕ) → IsObject o → p < length o.sections →
    (section_at o p).body ≡ group comdat signature members → HasGroupReferences o signature members
group_there o p comdat signature members is lt body = subst (λ (b : BodyValue). HasReferences o b) body (references_there o p is lt)

members_in_body : (o : ObjectValue) (b : BodyValue) (j : ℕ) → HasReferences o b → j < length (members_of b) →
    slice_index (members_of b) j < length o.sections
members_in_body o (bits type content) j has lt = absurd (omega arith)
members_in_body o (no_bits size) j has lt = absurd (omega arith)
members_in_body o (relocs rela target entries) j has lt = absurd (omega arith)
members_in_body o (group comdat signature members) j has lt = has.members_there j lt

-- member j of the group in section p
pub member_there : (o : ObjectValue) (p j : ℕ) → IsObject o → p < length o.sections → j < length (members_of (section_at o p).body) →
    slice_index (members_of (section_at o p).body) j < length o.sections
member_there o p j is lt within = members_in_body o (section_at o p).body j (references_there o p is lt) within

-- the section that symbol k is defined in
pub place_there : (o : ObjectValue) (k : ℕ) → IsObject o → k < length o.symbols →
    IfSome (place_position (symbol_at o k).place) (λ p. p < length o.sections)
place_there o k is lt = (object_rules_kept o is).places_there k lt

-- The marks stay right (`AreMembershipMarks`) if each member that is passed is marked, and after its last member the group counts as an
-- earlier one. Each step splits on whether the section is the new member, or the group the new one. With right marks, a member that is
-- there breaks rule 6 exactly if its mark or its section forbids it.

-- before the first member it is all the same which members there are
pub marked_anew : (o : ObjectValue) (i : ℕ) (before members : List ℕ) (marks : List Bool) → AreMembershipMarks o i before 0 marks →
    AreMembershipMarks o i members 0 marks
marked_anew o i before members marks are = record {
  long = are.long;
  right = λ m within. (
    (λ is. elim ((are.right m within).0 is) [ inl (k, lt, here) ↦ absurd (omega arith) | inr earlier ↦ inr earlier ]),
    (λ named. elim named [ inl (k, lt, here) ↦ absurd (omega arith) | inr earlier ↦ (are.right m within).1 (inr earlier) ]),
  );
}

-- one more member is named
pub named_next : (members : List ℕ) (j m : ℕ) → NamesMember members (j + 1) m → NamesMember members j m ⊎ (get_or members j 0 ≡ m)
named_next members j m (k, lt, here) = elim (cases_lt k j) [
  | inl below ↦ inl (k, below, here)
  | inr above ↦ (let same : k ≡ j = omega arith in inr (subst (λ i. get_or members i 0 ≡ m) same here))
]

-- and marked
pub marked_next : (o : ObjectValue) (i : ℕ) (members : List ℕ) (j : ℕ) (marks : List Bool) → AreMembershipMarks o i members j marks →
    get_or members j 0 < length marks → AreMembershipMarks o i members (j + 1) (set marks (get_or members j 0) true)
marked_next o i members j marks are there = record {
  long = length-set marks (get_or members j 0) true ∙ are.long;
  right = λ m within. (
      let below : m < length marks = omega (arith, length-set marks (get_or members j 0) true) in
      elim (cases_eq m (get_or members j 0)) [
        | inl same ↦
            ((λ is. inl (j, omega arith, sym same)), (λ named. rw same (get_or-set_same marks (get_or members j 0) true false there)))
        | inr other ↦ (
          (λ is. elim ((are.right m below).0 (sym (get_or-set_other marks (get_or members j 0) m true false other) ∙ is)) [
            | inl (k, lt, here) ↦ inl (k, omega arith, here)
            | inr earlier ↦ inr earlier
          ]),
          (λ named. get_or-set_other marks (get_or members j 0) m true false other ∙ (are.right m below).1 (elim named [
            | inl first ↦ elim (named_next members j m first) [ inl before ↦ inl before | inr last ↦ absurd (other (sym last)) ]
            | inr earlier ↦ inr earlier
          ])),
        )
      ]);
}

-- after its last member the group is an earlier one
pub marked_group : (o : ObjectValue) (i : ℕ) (members : List ℕ) (marks : List Bool) → members_of (section_at o i).body ≡ members →
    AreMembershipMarks o i members (length members) marks → AreMembershipMarks o (i + 1) [] 0 marks
marked_group o i members marks is are = record {
  long = are.long;
  right = λ m within. (
    (λ marked. inr (elim ((are.right m within).0 marked) [
      | inl named ↦ (i, omega arith, subst (λ ms. NamesMember ms (length ms) m) (sym is) named)
      | inr (h, lt, named) ↦ (h, omega arith, named)
    ])),
    (λ named. elim named [
      | inl (k, lt, here) ↦ absurd (omega arith)
      | inr (h, lt, member) ↦ elim (cases_lt h i) [
        | inl below ↦ (are.right m within).1 (inr (h, below, member))
        | inr above ↦ (
            let same : h ≡ i = omega arith in
            let here = subst
            (λ k. NamesMember (members_of (section_at o k).body) (length (members_of (section_at o k).body)) m) same member in
            (are.right m within).1 (inl (subst (λ ms. NamesMember ms (length ms) m) is here)))
      ]
    ]),
  );
}

-- a mark is that of a section that is there
mark_there : (marks : List Bool) (m : ℕ) → get_or marks m false ≡ true → m < length marks
mark_there marks m is = elim (cases_lt m (length marks)) [
  | inl there ↦ there
  | inr past ↦ absurd (let none : get_or marks m false ≡ false = get_or_past marks m false past in cc)
]

-- what the marks forbid is wrong
pub wrong_member_found : (o : ObjectValue) (i : ℕ) (members : List ℕ) (j : ℕ) (marks : List Bool) → AreMembershipMarks o i members j marks →
    CannotJoin o i marks (get_or members j 0) → IsWrongMembership o i members j
wrong_member_found o i members j marks are (inl low) = inl low
wrong_member_found o i members j marks are (inr (inl marked)) =
    inr (inl ((are.right (get_or members j 0) (mark_there marks (get_or members j 0) marked)).0 marked))
wrong_member_found o i members j marks are (inr (inr other)) = inr (inr other)

-- and what they don't forbid isn't
pub member_passes : (o : ObjectValue) (i : ℕ) (members : List ℕ) (j : ℕ) (marks : List Bool) → AreMembershipMarks o i members j marks →
    get_or members j 0 < length marks → (CannotJoin o i marks (get_or members j 0) → ⊥) → IsWrongMembership o i members j → ⊥
member_passes o i members j marks are there passes (inl low) = passes (inl low)
member_passes o i members j marks are there passes (inr (inl named)) = passes (inr (inl ((are.right (get_or members j 0) there).1 named)))
member_passes o i members j marks are there passes (inr (inr other)) = passes (inr (inr other))
