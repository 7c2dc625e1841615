-- No rule is broken exactly if each rule's positive fact holds, run by run: a rule says that something is wrong, its fact that it is
-- right, and each test of numbers is decidable.
use Rattle.std.proofs.Common.{◌≡◌, ◌≢◌, ℕ, Bool, true, false, zero, suc, ◌+◌, ◌*◌, ◌/◌, ◌%◌, ◌^◌, ◌≤◌, ◌⊎◌, inl, inr, refl, sym, ◌∙◌, ap}
use Rattle.std.proofs.Common.{arith, ◌<◌, ◌-◌, None, List, ◌∷◌, length}
use Rattle.std.specs.Int.{IsPowerOfTwo}
use Rattle.std.specs.Int.Count.{ones, ones_step}
use Rattle.std.proofs.Math.Nat.{pow-suc}
use Rattle.std.proofs.lemmas.Nat.{zero_from_ones, ones_cat, ones_le_self, pow_pos}
use Rattle.std.specs.Prelude.{◌==◌, IsTrue, not, ◌↔◌, slice_index}
use Rattle.std.proofs.lemmas.Bool.{cases_lt, eq-eqb, eqb-true, cases_eq}
use Rattle.elf_extent.proofs.Public.{disjoint_from_never, never_from_disjoint}
use Rattle.elf_extent.specs.Extent.{Never}
use Rattle.elf_field.specs.Abi.{EHDR_SIZE, SHT_NULL}
use Rattle.elf_field.specs.declared.ehdr.Ehdr.{Ehdr}
use Rattle.elf_field.specs.declared.phdr.Phdr.{Phdr}
use Rattle.elf_field.specs.declared.shdr.Shdr.{Shdr}
use Rattle.elf_image_rules.proofs.ImageRules.{FirstIn-after, FirstIn-front, FirstIn-later}
use Rattle.elf_image_rules.specs.KeepsRules.{IsAlignment, IsNullHeader, KeepsEachRecordRule, KeepsHeaderRules, KeepsIdentRules}
use Rattle.elf_image_rules.specs.KeepsRules.{KeepsLengthRules, KeepsNameRules, KeepsProgramTableRules, KeepsRules, KeepsSectionRules}
use Rattle.elf_image_rules.specs.KeepsRules.{KeepsSectionTableRules, KeepsSegmentRules}
use Rattle.elf_image_rules.specs.Rows.{AtEntry, FirstIn}
use Rattle.elf_image_rules.specs.Rules.{IsWrongAlignment, MAX_LEN, count_without_section_table, header_rules, ident_rules, length_rules}
use Rattle.elf_image_rules.specs.Rules.{header_entry_rules, header_table_rules, image_rules, record_rules, section_name_rules}
use Rattle.elf_image_rules.specs.Rules.{program_table_rules, wrong_extended_segment_count, wrong_segment_count, IsMisalignedSection}
use Rattle.elf_image_rules.specs.Rules.{IsNamePastEnd, HasWrongSectionAlignment, IsContentPastEnd, SomeSectionHeader, section_header_rules}
use Rattle.elf_image_rules.specs.Rules.{first_section_header_not_null, section_table_rules, wrong_extended_name_table_index}
use Rattle.elf_image_rules.specs.Rules.{wrong_extended_section_count, wrong_name_table_index, IsIncongruentSegment}
use Rattle.elf_image_rules.specs.Rules.{HasFileSizeAboveMemorySize, HasWrongSegmentAlignment, IsSegmentPastEnd, SomeSegment, segment_rules}
use Rattle.elf_image_rules.specs.Rules.{UnclosedAt}
use Rattle.elf_image_rules.specs.Tables.{phdr_offset, program_header_count, section_header_count, shdr_offset}

-- A number is a power of two exactly if one bit of it is set. From one bit to a power: by induction on a bound, an even number is twice its
-- half, and an odd one is 1. From 2^k to one bit, its bits are counted (`ones_cat`); so the count decides whether an alignment that is not
-- 0 is wrong.

-- the lowest bit is set or not
low_bit : (n : ℕ) → (n % 2 ≡ 0) ⊎ (n % 2 ≡ 1)
low_bit n = elim (cases_lt (n % 2) 1) [ inl h ↦ inl (omega arith) | inr h ↦ inr (omega arith) ]

-- the power is that of half the number, doubled
double : (n k : ℕ) → n % 2 ≡ 0 → n / 2 ≡ 2 ^ k → n ≡ 2 ^ suc k
double n k even half = let e = pow-suc 2 k in omega arith

-- with one bit set a number is a power, by recursion on a number above it
one_bit : (limit n : ℕ) → n ≤ limit → ones n ≡ 1 → IsPowerOfTwo n
one_bit zero n le one = let le_self = ones_le_self n in absurd (omega arith)
one_bit (suc limit) n le one = elim (low_bit n) [
  | inl even ↦ (
      let step = ones_step n in
      let half : ones (n / 2) ≡ 1 = omega arith in
      let (k, e) = one_bit limit (n / 2) (omega arith) half in
      (suc k, double n k even e))
  | inr odd ↦ (
      let step = ones_step n in
      let rest = zero_from_ones (n / 2) (omega arith) in
      let is_one : n ≡ 1 = omega arith in
      (0, is_one))
]

pub is_power_of_two : (n : ℕ) → ones n ≡ 1 → IsPowerOfTwo n
is_power_of_two n one = one_bit n n (omega arith) one

pub ones-power : (n : ℕ) → IsPowerOfTwo n → ones n ≡ 1
ones-power n (k, e) =
    let cat = ones_cat k 1 0 (pow_pos k) in
    let none = ones_le_self 0 in
    let one = ones_step 1 in
    let same : 1 * 2 ^ k + 0 ≡ n = omega arith in
    let whole = sym (ap ones same) ∙ cat in
    omega arith

-- the test of one bit decides whether an alignment that isn't 0 is wrong
pub wrong_alignment : (align : ℕ) (one : Bool) → one ≡ (ones align == 1) → align ≢ 0 →
    IsTrue (not one) ↔ IsWrongAlignment align
wrong_alignment align true e some =
    (λ no. (let never : ⊥ = cc in absurd never), λ wrong. absurd (wrong.1 (is_power_of_two align (eqb-true (ones align) 1 (sym e)))))
wrong_alignment align false e some =
    (λ yes. (some, λ power. (let one = eq-eqb (ones align) 1 (ones-power align power) in absurd (cc))), λ wrong. refl)

-- If a comparison of numbers cannot hold, its opposite does: by cases, because two numbers can be compared. An alignment is 0 or a power of
-- two exactly if it is not wrong; for that its bits are counted.

pub at_most : (m n : ℕ) → (n < m → ⊥) → m ≤ n
at_most m n never = elim (cases_lt n m) [ inl lt ↦ absurd (never lt) | inr le ↦ le ]

pub above : (m n : ℕ) → (n ≤ m → ⊥) → m < n
above m n never = elim (cases_lt m n) [ inl lt ↦ lt | inr le ↦ absurd (never le) ]

pub equal : (m n : ℕ) → (m ≢ n → ⊥) → m ≡ n
equal m n never = elim (cases_eq m n) [ inl same ↦ same | inr other ↦ absurd (never other) ]

pub equal_to_either : (m a b : ℕ) → ((m ≢ a) × (m ≢ b) → ⊥) → (m ≡ a) ⊎ (m ≡ b)
equal_to_either m a b never = elim (cases_eq m a) [
  | inl same ↦ inl same
  | inr other ↦ inr (equal m b (λ different. never (other, different)))
]

pub is_alignment : (align : ℕ) → (IsWrongAlignment align → ⊥) → IsAlignment align
is_alignment align never = elim (cases_eq align 0) [
  | inl none ↦ inl none
  | inr some ↦ elim (cases_eq (ones align) 1) [
    | inl one ↦ inr (is_power_of_two align one)
    | inr more ↦ absurd (never (some, λ power. more (ones-power align power)))
  ]
]

pub not_wrong : (align : ℕ) → IsAlignment align → IsWrongAlignment align → ⊥
not_wrong align (inl none) (some, no_power) = some none
not_wrong align (inr power) (some, no_power) = no_power power

-- ---- a rule of each entry: it is broken nowhere exactly if what breaks it holds for no entry

entry_kept : (n : ℕ) (P : ℕ → Type 0) (place : ℕ → ℕ) → Never (AtEntry n P place) → (i : ℕ) → i < n → P i → ⊥
entry_kept n P place never i below broken = never (place i) (i, below, broken, refl)

entry_never : (n : ℕ) (P : ℕ → Type 0) (place : ℕ → ℕ) → ((i : ℕ) → i < n → P i → ⊥) → Never (AtEntry n P place)
entry_never n P place kept x (i, below, broken, here) = kept i below broken

-- ---- rules 1 and 2

length_kept : (len : ℕ) → FirstIn (length_rules len) None → KeepsLengthRules len
unfolding length_rules
length_kept len clean = record {
  not_too_long = at_most len MAX_LEN (λ lt. clean.0 _ (lt, refl));
  not_too_short = at_most EHDR_SIZE len (λ lt. clean.1.0 _ (lt, refl));
}

length_unbroken : (len : ℕ) → KeepsLengthRules len → FirstIn (length_rules len) None
unfolding length_rules
length_unbroken len kept =
    let long = kept.not_too_long in
    let short = kept.not_too_short in
    ((λ x (lt, at). absurd (omega arith)), ((λ x (lt, at). absurd (omega arith)), tt))

-- ---- rules 3 to 6

ident_kept : (ident : List ℕ) → FirstIn (ident_rules ident) None → KeepsIdentRules ident
unfolding ident_rules
ident_kept ident clean = record {
  magic = λ i lt. equal _ _ (λ other. clean.0 i (lt, other));
  class = equal _ _ (λ other. clean.1.0 _ (other, refl));
  encoding = equal_to_either _ _ _ (λ other. clean.1.1.0 _ (other, refl));
  ident_version = equal _ _ (λ other. clean.1.1.1.0 _ (other, refl));
}

ident_unbroken : (ident : List ℕ) → KeepsIdentRules ident → FirstIn (ident_rules ident) None
unfolding ident_rules
ident_unbroken ident kept = (
  (λ x (lt, other). other (kept.magic x lt)),
  (
    (λ x (other, at). other kept.class),
    (
      (λ x (other, at). elim kept.encoding [ inl little ↦ other.0 little | inr big ↦ other.1 big ]),
      ((λ x (other, at). other kept.ident_version), tt),
    ),
  ),
)

-- ---- rules 7 to 12

header_kept : (len : ℕ) (h : Ehdr) → FirstIn (header_rules len h) None → KeepsHeaderRules len h
unfolding header_rules
header_kept len h clean = record {
  version = equal _ _ (λ other. clean.0 _ (other, refl));
  header_size = equal _ _ (λ other. clean.1.0 _ (other, refl));
  no_sections = λ none. (
    equal _ _ (λ other. clean.1.1.0 _ (none, inl (other, refl))),
    equal _ _ (λ other. clean.1.1.0 _ (none, inr (other, refl))),
  );
  section_header_size = λ there. equal _ _ (λ other. clean.1.1.1.0 _ ((there, other), refl));
  unreserved_count = above _ _ (λ le. clean.1.1.1.1.0 _ (le, refl));
  first_section_header = λ there. at_most _ _ (λ lt. clean.1.1.1.1.1.0 _ ((there, lt), refl));
}

no_count : (h : Ehdr) → (h.e_shoff ≡ 0 → (h.e_shnum ≡ 0) × (h.e_shstrndx ≡ 0)) → Never (count_without_section_table h)
no_count h kept x (none, inl (other, at)) = other (kept none).0
no_count h kept x (none, inr (other, at)) = other (kept none).1

header_unbroken : (len : ℕ) (h : Ehdr) → KeepsHeaderRules len h → FirstIn (header_rules len h) None
unfolding header_rules
header_unbroken len h kept = (
  (λ x (other, at). other kept.version),
  (
    (λ x (other, at). other kept.header_size),
    (
      no_count h kept.no_sections,
      (
        (λ x ((there, other), at). other (kept.section_header_size there)),
        (
          (λ x (le, at). let lt = kept.unreserved_count in absurd (omega arith)),
          ((λ x ((there, lt), at). let le = kept.first_section_header there in absurd (omega arith)), tt),
        ),
      ),
    ),
  ),
)

-- ---- rules 13 to 17

section_table_kept : (len : ℕ) (h : Ehdr) (first : Shdr) → FirstIn (section_table_rules len h first) None →
    KeepsSectionTableRules len h first
unfolding section_table_rules
section_table_kept len h first clean = record {
  null = λ there. record {
    sh_name = equal _ _ (λ other. clean.0 _ (inl ((there, other), refl)));
    sh_type = equal _ _ (λ other. clean.0 _ (inr (inl ((there, other), refl))));
    sh_flags = equal _ _ (λ other. clean.0 _ (inr (inr (inl ((there, other), refl)))));
    sh_addr = equal _ _ (λ other. clean.0 _ (inr (inr (inr (inl ((there, other), refl))))));
    sh_offset = equal _ _ (λ other. clean.0 _ (inr (inr (inr (inr (inl ((there, other), refl)))))));
    sh_addralign = equal _ _ (λ other. clean.0 _ (inr (inr (inr (inr (inr (inl ((there, other), refl))))))));
    sh_entsize = equal _ _ (λ other. clean.0 _ (inr (inr (inr (inr (inr (inr (inl ((there, other), refl)))))))));
  };
  extended_section_count = λ there. (
    (λ some. equal _ _ (λ other. clean.1.0 _ ((there, inl (some, other)), refl))),
    (λ none. at_most _ _ (λ lt. clean.1.0 _ ((there, inr (none, lt)), refl))),
  );
  section_table = λ there. at_most _ _ (λ lt. clean.1.1.0 _ ((there, lt), refl));
  name_table_index = λ there plain. (
    above _ _ (λ le. clean.1.1.1.0 _ ((there, (plain, inl le)), refl)),
    above _ _ (λ le. clean.1.1.1.0 _ ((there, (plain, inr le)), refl)),
  );
  extended_name_table_index = λ there. (
    (λ escape. (
      at_most _ _ (λ lt. clean.1.1.1.1.0 _ ((there, inl (escape, inl lt)), refl)),
      above _ _ (λ le. clean.1.1.1.1.0 _ ((there, inl (escape, inr le)), refl)),
    )),
    (λ plain. equal _ _ (λ other. clean.1.1.1.1.0 _ ((there, inr (plain, other)), refl))),
  );
}

not_null : (h : Ehdr) (first : Shdr) → (h.e_shoff ≢ 0 → IsNullHeader first) → Never (first_section_header_not_null h first)
not_null h first kept x (inl ((there, other), at)) = other (kept there).sh_name
not_null h first kept x (inr (inl ((there, other), at))) = other (kept there).sh_type
not_null h first kept x (inr (inr (inl ((there, other), at)))) = other (kept there).sh_flags
not_null h first kept x (inr (inr (inr (inl ((there, other), at))))) = other (kept there).sh_addr
not_null h first kept x (inr (inr (inr (inr (inl ((there, other), at)))))) = other (kept there).sh_offset
not_null h first kept x (inr (inr (inr (inr (inr (inl ((there, other), at))))))) = other (kept there).sh_addralign
not_null h first kept x (inr (inr (inr (inr (inr (inr (inl ((there, other), at)))))))) = other (kept there).sh_entsize
not_null h first kept x (inr (inr (inr (inr (inr (inr (inr none))))))) = none

right_section_count : (len : ℕ) (h : Ehdr) (first : Shdr) → KeepsSectionTableRules len h first →
    Never (wrong_extended_section_count h first)
right_section_count len h first kept x ((there, inl (some, other)), at) = other ((kept.extended_section_count there).0 some)
right_section_count len h first kept x ((there, inr (none, lt)), at) =
    let le = (kept.extended_section_count there).1 none in absurd (omega arith)

right_name_table : (len : ℕ) (h : Ehdr) (first : Shdr) → KeepsSectionTableRules len h first → Never (wrong_name_table_index h first)
right_name_table len h first kept x ((there, (plain, inl le)), at) = let lt = (kept.name_table_index there plain).0 in absurd (omega arith)
right_name_table len h first kept x ((there, (plain, inr le)), at) = let lt = (kept.name_table_index there plain).1 in absurd (omega arith)

right_extended_name_table : (len : ℕ) (h : Ehdr) (first : Shdr) → KeepsSectionTableRules len h first →
    Never (wrong_extended_name_table_index h first)
right_extended_name_table len h first kept x ((there, inl (escape, inl lt)), at) =
    let le = ((kept.extended_name_table_index there).0 escape).0 in absurd (omega arith)
right_extended_name_table len h first kept x ((there, inl (escape, inr le)), at) =
    let lt = ((kept.extended_name_table_index there).0 escape).1 in absurd (omega arith)
right_extended_name_table len h first kept x ((there, inr (plain, other)), at) = other ((kept.extended_name_table_index there).1 plain)

section_table_unbroken : (len : ℕ) (h : Ehdr) (first : Shdr) → KeepsSectionTableRules len h first →
    FirstIn (section_table_rules len h first) None
unfolding section_table_rules
section_table_unbroken len h first kept = (
  not_null h first kept.null,
  (
    right_section_count len h first kept,
    (
      (λ x ((there, lt), at). let le = kept.section_table there in absurd (omega arith)),
      (right_name_table len h first kept, (right_extended_name_table len h first kept, tt)),
    ),
  ),
)

-- ---- rules 18 to 21

program_table_kept : (len : ℕ) (h : Ehdr) (first : Shdr) → FirstIn (program_table_rules len h first) None →
    KeepsProgramTableRules len h first
unfolding program_table_rules
program_table_kept len h first clean = record {
  table_and_count = (
    (λ none. equal _ _ (λ some. clean.0 _ (inl (none, some), refl))),
    (λ none. equal _ _ (λ some. clean.0 _ (inr (inl (some, none)), refl))),
    (λ escape none. clean.0 _ (inr (inr (escape, none)), refl)),
  );
  program_header_size = λ some. equal _ _ (λ other. clean.1.0 _ ((some, other), refl));
  extended_segment_count = λ there. (
    (λ escape. at_most _ _ (λ lt. clean.1.1.0 _ ((there, inl (escape, lt)), refl))),
    (λ plain. equal _ _ (λ other. clean.1.1.0 _ ((there, inr (plain, other)), refl))),
  );
  program_table = λ some. at_most _ _ (λ lt. clean.1.1.1.0 _ ((some, lt), refl));
}

right_segment_count : (len : ℕ) (h : Ehdr) (first : Shdr) → KeepsProgramTableRules len h first → Never (wrong_segment_count h)
right_segment_count len h first kept x (inl (none, some), at) = some (kept.table_and_count.0 none)
right_segment_count len h first kept x (inr (inl (some, none)), at) = some (kept.table_and_count.1 none)
right_segment_count len h first kept x (inr (inr (escape, none)), at) = kept.table_and_count.2 escape none

right_extended_count : (len : ℕ) (h : Ehdr) (first : Shdr) → KeepsProgramTableRules len h first →
    Never (wrong_extended_segment_count h first)
right_extended_count len h first kept x ((there, inl (escape, lt)), at) =
    let le = (kept.extended_segment_count there).0 escape in absurd (omega arith)
right_extended_count len h first kept x ((there, inr (plain, other)), at) = other ((kept.extended_segment_count there).1 plain)

program_table_unbroken : (len : ℕ) (h : Ehdr) (first : Shdr) → KeepsProgramTableRules len h first →
    FirstIn (program_table_rules len h first) None
unfolding program_table_rules
program_table_unbroken len h first kept = (
  right_segment_count len h first kept,
  (
    (λ x ((some, other), at). other (kept.program_header_size some)),
    (
      right_extended_count len h first kept,
      ((λ x ((some, lt), at). let le = kept.program_table some in absurd (omega arith)), tt),
    ),
  ),
)

-- ---- rules 22 to 24

section_kept : (h : Ehdr) (n : ℕ) (s : ℕ → Shdr) (P : Shdr → Type 0) (field : ℕ) → Never (SomeSectionHeader h n s P field) →
    (i : ℕ) → 1 ≤ i → i < n → (s i).sh_type ≢ SHT_NULL → P (s i) → ⊥
section_kept h n s P field never i above below typed broken =
    entry_kept n (λ k. (1 ≤ k) × ((s k).sh_type ≢ SHT_NULL) × P (s k)) (λ k. shdr_offset h k + field) never i below (above, typed, broken)

section_never : (h : Ehdr) (n : ℕ) (s : ℕ → Shdr) (P : Shdr → Type 0) (field : ℕ) →
    ((i : ℕ) → 1 ≤ i → i < n → (s i).sh_type ≢ SHT_NULL → P (s i) → ⊥) → Never (SomeSectionHeader h n s P field)
section_never h n s P field kept =
    entry_never n (λ k. (1 ≤ k) × ((s k).sh_type ≢ SHT_NULL) × P (s k)) (λ k. shdr_offset h k + field)
    (λ i below (above, typed, broken). kept i above below typed broken)

sections_kept : (len : ℕ) (h : Ehdr) (n : ℕ) (s : ℕ → Shdr) → FirstIn (section_header_rules len h n s) None → KeepsSectionRules len n s
unfolding section_header_rules
sections_kept len h n s clean = record {
  alignment = λ i low high typed. is_alignment _ (section_kept h n s HasWrongSectionAlignment _ clean.0 i low high typed);
  address = λ i low high typed some. equal _ _ (λ other. section_kept h n s IsMisalignedSection _ clean.1.0 i low high typed (some, other));
  content = λ i low high typed bits some. at_most _ _
      (λ lt. section_kept h n s (IsContentPastEnd len) _ clean.1.1.0 i low high typed (bits, some, lt));
}

sections_unbroken : (len : ℕ) (h : Ehdr) (n : ℕ) (s : ℕ → Shdr) → KeepsSectionRules len n s → FirstIn (section_header_rules len h n s) None
unfolding section_header_rules
sections_unbroken len h n s kept = (
  section_never h n s HasWrongSectionAlignment _ (λ i low high typed. not_wrong _ (kept.alignment i low high typed)),
  (
    section_never h n s IsMisalignedSection _ (λ i low high typed (some, other). other (kept.address i low high typed some)),
    (
      section_never h n s (IsContentPastEnd len) _
          (λ i low high typed (bits, some, lt). let le = kept.content i low high typed bits some in absurd (omega arith)),
      tt,
    ),
  ),
)

-- ---- rules 25 to 29

segment_kept : (h : Ehdr) (m : ℕ) (g : ℕ → Phdr) (P : Phdr → Type 0) (field : ℕ) → Never (SomeSegment h m g P field) →
    (j : ℕ) → j < m → P (g j) → ⊥
segment_kept h m g P field never j below broken = entry_kept m (λ k. P (g k)) (λ k. phdr_offset h k + field) never j below broken

segment_never : (h : Ehdr) (m : ℕ) (g : ℕ → Phdr) (P : Phdr → Type 0) (field : ℕ) → ((j : ℕ) → j < m → P (g j) → ⊥) →
    Never (SomeSegment h m g P field)
segment_never h m g P field kept = entry_never m (λ k. P (g k)) (λ k. phdr_offset h k + field) kept

segments_kept : (len : ℕ) (h : Ehdr) (m : ℕ) (g : ℕ → Phdr) → FirstIn (segment_rules len h m g) None → KeepsSegmentRules len m g
unfolding segment_rules
segments_kept len h m g clean = record {
  bytes = λ j below typed some. at_most _ _ (λ lt. segment_kept h m g (IsSegmentPastEnd len) _ clean.0 j below (typed, some, lt));
  sizes = λ j below load. at_most _ _ (λ lt. segment_kept h m g HasFileSizeAboveMemorySize _ clean.1.0 j below (load, lt));
  alignment = λ j below load. is_alignment _ (λ wrong. segment_kept h m g HasWrongSegmentAlignment _ clean.1.1.0 j below (load, wrong));
  congruence =
      λ j below load some. equal _ _ (λ other. segment_kept h m g IsIncongruentSegment _ clean.1.1.1.0 j below (load, some, other));
  order = λ k j below load before. at_most _ _ (λ lt. clean.1.1.1.1.0 _ (k, j, below, load, before, lt, refl));
}

segments_unbroken : (len : ℕ) (h : Ehdr) (m : ℕ) (g : ℕ → Phdr) → KeepsSegmentRules len m g → FirstIn (segment_rules len h m g) None
unfolding segment_rules
segments_unbroken len h m g kept = (
  segment_never h m g (IsSegmentPastEnd len) _
      (λ j below (typed, some, lt). let le = kept.bytes j below typed some in absurd (omega arith)),
  (
    segment_never h m g HasFileSizeAboveMemorySize _ (λ j below (load, lt). let le = kept.sizes j below load in absurd (omega arith)),
    (
      segment_never h m g HasWrongSegmentAlignment _ (λ j below (load, wrong). not_wrong _ (kept.alignment j below load) wrong),
      (
        segment_never h m g IsIncongruentSegment _ (λ j below (load, some, other). other (kept.congruence j below load some)),
        ((λ x (k, j, below, load, before, lt, at). let le = kept.order k j below load before in absurd (omega arith)), tt),
      ),
    ),
  ),
)

-- ---- rules 30 to 32

names_kept : (h : Ehdr) (n k : ℕ) (s : ℕ → Shdr) (names : List ℕ) → FirstIn (section_name_rules h n k s names) None →
    KeepsNameRules n k s names
unfolding section_name_rules
names_kept h n k s names clean = record {
  name_table_type = λ some. equal _ _ (λ other. clean.0 _ ((some, other), refl));
  closed = λ some. (
    equal _ _ (λ other. clean.1.0 _ (inl ((some, other), refl))),
    equal _ _ (λ other. clean.1.0 _ (inr (inl ((some, other), refl)))),
  );
  names_begin =
      λ i low high typed named. above _ _
      (λ le. section_kept h n s (IsNamePastEnd (length names)) _ clean.1.1.0 i low high typed (named, le));
}

closed_never : (names : List ℕ) (start : ℕ) → (0 < length names → (slice_index names 0 ≡ 0) × (slice_index names (length names - 1) ≡ 0)) →
    Never (UnclosedAt names start)
closed_never names start kept x (inl ((some, other), at)) = other (kept some).0
closed_never names start kept x (inr (inl ((some, other), at))) = other (kept some).1
closed_never names start kept x (inr (inr none)) = none

names_unbroken : (h : Ehdr) (n k : ℕ) (s : ℕ → Shdr) (names : List ℕ) → KeepsNameRules n k s names →
    FirstIn (section_name_rules h n k s names) None
unfolding section_name_rules
names_unbroken h n k s names kept = (
  (λ x ((some, other), at). other (kept.name_table_type some)),
  (
    closed_never names _ kept.closed,
    (
      section_never h n s (IsNamePastEnd (length names)) _
          (λ i low high typed (named, le). let lt = kept.names_begin i low high typed named in absurd (omega arith)),
      tt,
    ),
  ),
)

-- ---- rules 1 to 32

pub records_kept : (len : ℕ) (h : Ehdr) (s : ℕ → Shdr) (g : ℕ → Phdr) (names : List ℕ) →
    FirstIn (record_rules len h s g names) None → KeepsEachRecordRule len h s g names
unfolding record_rules header_table_rules header_entry_rules
records_kept len h s g names clean =
    let from_ident = FirstIn-after (length_rules len) _ clean in
    let from_header = FirstIn-after (ident_rules h.e_ident) _ from_ident in
    let from_section_table = FirstIn-after (header_rules len h) _ from_header in
    let from_program_table = FirstIn-after (section_table_rules len h (s 0)) _ from_section_table in
    let from_sections = FirstIn-after (program_table_rules len h (s 0)) _ from_program_table in
    let from_segments = FirstIn-after (section_header_rules len h (section_header_count h (s 0)) s) _ from_sections in
    let from_names = FirstIn-after (segment_rules len h (program_header_count h (s 0)) g) _ from_segments in
    record {
      file_length = length_kept len (FirstIn-front (length_rules len) _ clean);
      ident = ident_kept h.e_ident (FirstIn-front (ident_rules h.e_ident) _ from_ident);
      header = header_kept len h (FirstIn-front (header_rules len h) _ from_header);
      section_table = section_table_kept len h (s 0) (FirstIn-front (section_table_rules len h (s 0)) _ from_section_table);
      program_table = program_table_kept len h (s 0) (FirstIn-front (program_table_rules len h (s 0)) _ from_program_table);
      sections = sections_kept len h _ s (FirstIn-front (section_header_rules len h (section_header_count h (s 0)) s) _ from_sections);
      segments = segments_kept len h _ g (FirstIn-front (segment_rules len h (program_header_count h (s 0)) g) _ from_segments);
      section_names = names_kept h _ _ s names from_names;
    }

pub records_unbroken : (len : ℕ) (h : Ehdr) (s : ℕ → Shdr) (g : ℕ → Phdr) (names : List ℕ) →
    KeepsEachRecordRule len h s g names → FirstIn (record_rules len h s g names) None
unfolding record_rules header_table_rules header_entry_rules
records_unbroken len h s g names kept =
    FirstIn-later (length_rules len) _ None (length_unbroken len kept.file_length)
    (FirstIn-later (ident_rules h.e_ident) _ None (ident_unbroken h.e_ident kept.ident)
    (FirstIn-later (header_rules len h) _ None (header_unbroken len h kept.header)
    (FirstIn-later (section_table_rules len h (s 0)) _ None (section_table_unbroken len h (s 0) kept.section_table)
    (FirstIn-later (program_table_rules len h (s 0)) _ None (program_table_unbroken len h (s 0) kept.program_table)
    (FirstIn-later (section_header_rules len h (section_header_count h (s 0)) s) _ None (sections_unbroken len h _ s kept.sections)
    (FirstIn-later (segment_rules len h (program_header_count h (s 0)) g) _ None (segments_unbroken len h _ g kept.segments)
    (names_unbroken h _ _ s names kept.section_names)))))))

-- ---- all rules

pub rules_kept : (len : ℕ) (h : Ehdr) (s : ℕ → Shdr) (g : ℕ → Phdr) (names : List ℕ) →
    FirstIn (image_rules len h s g names) None → KeepsRules len h s g names
unfolding image_rules
rules_kept len h s g names clean = record {
  records = records_kept len h s g names (FirstIn-front (record_rules len h s g names) _ clean);
  disjoint = disjoint_from_never _ (FirstIn-after (record_rules len h s g names) _ clean).0;
}

pub rules_unbroken : (len : ℕ) (h : Ehdr) (s : ℕ → Shdr) (g : ℕ → Phdr) (names : List ℕ) →
    KeepsRules len h s g names → FirstIn (image_rules len h s g names) None
unfolding image_rules
rules_unbroken len h s g names kept =
    FirstIn-later (record_rules len h s g names) _ None (records_unbroken len h s g names kept.records)
    (never_from_disjoint _ kept.disjoint, tt)
