-- Each rule of objects is broken or not, for each value: it is made of comparisons of numbers and of searches below a bound, which are
-- decidable. So for each value there is a first rule that is broken, or none is.
use Rattle.std.proofs.Common.{◌≡◌, ◌≢◌, ◌^◌, ◌<◌, ◌≤◌, ◌⊎◌, ℕ, zero, suc, Bool, true, false, Option, None, Some, List, [], ◌∷◌, ◌++◌}
use Rattle.std.proofs.Common.{length, get_or, inl, inr, refl, sym, subst, ◌∙◌, arith}
use Rattle.std.specs.Prelude.{◌%◌, ◌/◌, bit_and, slice_index, slice_index_or, Any, Contains, ℤ, pos, negsuc}
use Rattle.std.specs.Int.{IsPowerOfTwo}
use Rattle.std.proofs.Math.Nat.{pow-suc}
use Rattle.std.proofs.lemmas.Bool.{cases_eq, cases_lt}
use Rattle.std.proofs.lemmas.List.{get_or_default}
use Rattle.elf_extent.specs.Extent.{IsLowest, Never}
use Rattle.elf_field.specs.Abi.{SHF_GROUP, SHF_INFO_LINK, STB_LOCAL, WORD_SIZE, relocation_size}
use Rattle.elf_image_rules.specs.Rows.{AtEntry, FirstIn, Ruled}
use Rattle.elf_object_type.specs.declared.relocations.Relocation.{Relocation}
use Rattle.elf_object_type.specs.declared.parts.Info.{Info}
use Rattle.elf_object_type.specs.declared.parts.Info.TheVariants.{Number, Section}
use Rattle.elf_object_type.specs.ObjectRules.{HasWrongMembership, IsInEarlierGroup, IsWrongMembership, NamesMember, object_group_rules}
use Rattle.elf_object_type.specs.ObjectRules.{object_rules, HasLinkOrInfo, HasWrongAlignment, HasWrongField, HasWrongPosition}
use Rattle.elf_object_type.specs.ObjectRules.{HasWrongReference, IsAgainstFlag, IsWrongBitsType, object_section_rules, types_without_bits}
use Rattle.elf_object_type.specs.ObjectRules.{IsLocal, IsMisplacedLocal, object_symbol_rules, place_position}
use Rattle.elf_object_type.specs.Object.{BodyValue, bits, no_bits, relocs, group, ObjectValue, SectionValue, no_relocation, section_at}
use Rattle.elf_object_type.specs.Object.{symbol_at, HasZero, IsPast, info_position, is_bits, is_group, members_of}

-- ---- what is decided

abbrev Decided : Type 0 → Type 0
Decided P = P ⊎ (P → ⊥)

either : {P Q : Type 0} → Decided P → Decided Q → Decided (P ⊎ Q)
either (inl p) q = inl (inl p)
either (inr fails) (inl q) = inl (inr q)
either {P} {Q} (inr fails) (inr never) = inr none where
  none : P ⊎ Q → ⊥
  none (inl p) = fails p
  none (inr q) = never q

both : {P Q : Type 0} → Decided P → Decided Q → Decided (P × Q)
both (inl p) (inl q) = inl (p, q)
both (inl p) (inr never) = inr (λ pq. never pq.1)
both (inr fails) q = inr (λ pq. fails pq.0)

not : {P : Type 0} → Decided P → Decided (P → ⊥)
not (inl p) = inr (λ fails. fails p)
not (inr fails) = inl fails

is : (b c : Bool) → Decided (b ≡ c)
is true true = inl refl
is true false = inr (λ same. cc)
is false true = inr (λ same. cc)
is false false = inl refl

at_most : (m n : ℕ) → Decided (m ≤ n)
at_most m n = elim (cases_lt n m) [ inl lt ↦ inr (λ le. omega arith) | inr le ↦ inl le ]

more_than : (m n : ℕ) → Decided (m < n)
more_than m n = elim (cases_lt m n) [ inl lt ↦ inl lt | inr le ↦ inr (λ lt. omega arith) ]

-- the least number below n of which P holds, or that it holds of none
least_below : (P : ℕ → Type 0) → ((i : ℕ) → Decided (P i)) → (n : ℕ) →
    ((x : ℕ) × (x < n) × P x × ((y : ℕ) → y < x → P y → ⊥)) ⊎ ((y : ℕ) → y < n → P y → ⊥)
least_below P decide zero = inr (λ y lt holds. omega arith)
least_below P decide (suc n) = elim (least_below P decide n) [
  | inl (x, lt, holds, none) ↦ inl (x, omega arith, holds, none)
  | inr none ↦ elim (decide n) [
    | inl holds ↦ inl (n, omega arith, holds, none)
    | inr never ↦ inr (λ y lt holds. elim (cases_lt y n) [
      | inl below ↦ none y below holds
      | inr above ↦ (let same : y ≡ n = omega arith in never (subst P same holds))
    ])
  ]
]

-- some number below n
some_below : (n : ℕ) (P : ℕ → Type 0) → ((i : ℕ) → Decided (P i)) → Decided ((i : ℕ) × (i < n) × P i)
some_below n P decide = elim (least_below P decide n) [
  | inl (x, lt, holds, none) ↦ inl (x, lt, holds)
  | inr none ↦ inr (λ (i, lt, holds). none i lt holds)
]

-- some element
any : {A : Type 0} (P : A → Type 0) (xs : List A) (d : A) → ((x : A) → Decided (P x)) → Decided (Any P xs)
any P xs d decide = elim (some_below (length xs) (λ i. P (get_or xs i d)) (λ i. decide (get_or xs i d))) [
  | inl (i, lt, holds) ↦ inl (i, get_or xs i d, lt, get_or_default xs i (get_or xs i d) d lt, holds)
  | inr none ↦ inr (λ (i, x, lt, at, holds). none (i, lt, subst P (sym (get_or_default xs i d x lt ∙ at)) holds))
]

contains : (xs : List ℕ) (x : ℕ) → Decided (Contains xs x)
contains xs x = some_below (length xs) (λ k. slice_index_or xs k x ≡ x) (λ k. cases_eq _ _)

-- ---- what breaks each rule

wrong_bits_type : (b : BodyValue) → Decided (IsWrongBitsType b)
wrong_bits_type (bits type content) = contains types_without_bits type
wrong_bits_type (no_bits size) = inr (λ wrong. wrong)
wrong_bits_type (relocs rela target entries) = inr (λ wrong. wrong)
wrong_bits_type (group comdat signature members) = inr (λ wrong. wrong)

below_power : (k : ℕ) → k < 2 ^ k
below_power zero = omega arith
below_power (suc k) = let below = below_power k in let double = pow-suc 2 k in omega arith

power_of_two : (n : ℕ) → Decided (IsPowerOfTwo n)
power_of_two n = elim (some_below n (λ k. n ≡ 2 ^ k) (λ k. cases_eq n (2 ^ k))) [
  | inl (k, lt, same) ↦ inl (k, same)
  | inr none ↦ inr (λ (k, same). none (k, (let below = below_power k in omega arith), same))
]

wrong_alignment : (s : SectionValue) → Decided (HasWrongAlignment s)
wrong_alignment s =
    either (both (not (cases_eq s.align 0)) (not (power_of_two s.align))) (both (more_than 1 s.align) (not (cases_eq (s.addr % s.align) 0)))

past : (n : ℕ) (position : Option ℕ) → Decided (IsPast n position)
past n None = inr (λ wrong. wrong)
past n (Some p) = at_most n p

wrong_reference : (o : ObjectValue) (b : BodyValue) → Decided (HasWrongReference o b)
wrong_reference o (bits type content) = inr (λ wrong. wrong)
wrong_reference o (no_bits size) = inr (λ wrong. wrong)
wrong_reference o (relocs rela target entries) =
    either (either (at_most (length o.sections) target) (is (is_bits (section_at o target).body) false))
    (any (λ (r : Relocation). IsPast (length o.symbols) r.symbol) entries no_relocation (λ r. past (length o.symbols) r.symbol))
wrong_reference o (group comdat signature members) =
    either (at_most (length o.symbols) signature) (any (λ (m : ℕ). length o.sections ≤ m) members 0 (λ m. at_most (length o.sections) m))

wrong_position : (o : ObjectValue) (s : SectionValue) → Decided (HasWrongPosition o s)
wrong_position o s =
    either (past (length o.sections) s.link) (either (past (length o.sections) (info_position s.info)) (wrong_reference o s.body))

against_flag : (flags : ℕ) (info : Info) → Decided (IsAgainstFlag flags info)
against_flag flags (Number number) = not (cases_eq (bit_and flags SHF_INFO_LINK) 0)
against_flag flags (Section position) = cases_eq (bit_and flags SHF_INFO_LINK) 0

no_link : (link : Option ℕ) → Decided (link ≡ None)
no_link None = inl refl
no_link (Some p) = inr (λ same. cc)

no_info : (info : Info) → Decided (info ≡ Number 0)
no_info (Number zero) = inl refl
no_info (Number (suc n)) = inr (λ same. (let none : suc n ≡ 0 = cc in omega arith))
no_info (Section p) = inr (λ same. cc)

no_addend : (addend : ℤ) → Decided (addend ≡ pos 0)
no_addend (pos zero) = inl refl
no_addend (pos (suc n)) = inr (λ same. (let none : suc n ≡ 0 = cc in omega arith))
no_addend (negsuc n) = inr (λ same. cc)

link_or_info : (s : SectionValue) → Decided (HasLinkOrInfo s)
link_or_info s = either (not (no_link s.link)) (not (no_info s.info))

wrong_field : (s : SectionValue) (b : BodyValue) → Decided (HasWrongField s b)
wrong_field s (bits type content) = against_flag s.flags s.info
wrong_field s (no_bits size) = against_flag s.flags s.info
wrong_field s (relocs rela target entries) =
    either (link_or_info s) (either (not (cases_eq s.entsize (relocation_size rela)))
    (both (is rela false) (any (λ (r : Relocation). r.addend ≢ pos 0) entries no_relocation (λ r. not (no_addend r.addend)))))
wrong_field s (group comdat signature members) = either (link_or_info s) (not (cases_eq s.entsize WORD_SIZE))

names : (members : List ℕ) (count m : ℕ) → Decided (NamesMember members count m)
names members count m = some_below count (λ k. slice_index members k ≡ m) (λ k. cases_eq (slice_index members k) m)

in_earlier_group : (o : ObjectValue) (i m : ℕ) → Decided (IsInEarlierGroup o i m)
in_earlier_group o i m =
    some_below i (λ h. NamesMember (members_of (section_at o h).body) (length (members_of (section_at o h).body)) m)
    (λ h. names (members_of (section_at o h).body) (length (members_of (section_at o h).body)) m)

wrong_membership : (o : ObjectValue) (i : ℕ) (members : List ℕ) (j : ℕ) → Decided (IsWrongMembership o i members j)
wrong_membership o i members j =
    let m = slice_index members j in
    let s = section_at o m in
    either (at_most m i) (either (either (names members j m) (in_earlier_group o i m))
    (either (is (is_group s.body) true) (cases_eq (bit_and s.flags SHF_GROUP) 0)))

has_wrong_membership : (o : ObjectValue) (i : ℕ) → Decided (HasWrongMembership o i)
has_wrong_membership o i =
    let members = members_of (section_at o i).body in
    some_below (length members) (IsWrongMembership o i members) (wrong_membership o i members)

local : (o : ObjectValue) (k : ℕ) → Decided (IsLocal (symbol_at o k))
local o k = cases_eq ((symbol_at o k).info / 16) STB_LOCAL

misplaced : (o : ObjectValue) (i : ℕ) → Decided (IsMisplacedLocal o i)
misplaced o i = both (local o i) (some_below i (λ k. IsLocal (symbol_at o k) → ⊥) (λ k. not (local o k)))

-- ---- the first rule that is broken

-- the lowest position that breaks a rule on each index below n
lowest : (n : ℕ) (P : ℕ → Type 0) → ((i : ℕ) → Decided (P i)) → (x : Option ℕ) × IsLowest (AtEntry n P (λ i. i)) x
lowest n P decide = elim (least_below P decide n) [
  | inl (x, lt, holds, none) ↦ (
    Some x,
    record {
      holds = (x, lt, holds, refl);
      lowest = λ y (i, below, broken, here). elim (cases_lt i x) [ inl less ↦ absurd (none i less broken) | inr more ↦ omega arith ];
    },
  )
  | inr none ↦ (None, (λ y (i, below, broken, here). none i below broken))
]

-- of each rule there is such a position or none
abbrev AreDecided : List {1} (Ruled ℕ) → Type 0
AreDecided [] = Unit {0}
AreDecided (r ∷ rules) = ((x : Option ℕ) × IsLowest r.row x) × AreDecided rules

all_decided : (xs ys : List {1} (Ruled ℕ)) → AreDecided xs → AreDecided ys → AreDecided (xs ++ ys)
all_decided [] ys front rest = rest
all_decided (r ∷ xs) ys front rest = (front.0, all_decided xs ys front.1 rest)

beyond : (r : Ruled ℕ) (rules : List {1} (Ruled ℕ)) (x : Option (ℕ × ℕ)) → Never r.row → FirstIn rules x → FirstIn (r ∷ rules) x
beyond r rules None never found = (never, found)
beyond r rules (Some fault) never found = inr (never, found)

first_of : (rules : List {1} (Ruled ℕ)) → AreDecided rules → (x : Option (ℕ × ℕ)) × FirstIn rules x
first_of [] decided = (None, tt)
first_of (r ∷ rules) ((Some x, least), rest) = (Some (r.number, x), inl (refl, least))
first_of (r ∷ rules) ((None, never), rest) = let (x, found) = first_of rules rest in (x, beyond r rules x never found)

of_sections : (o : ObjectValue) → AreDecided (object_section_rules o)
unfolding object_section_rules
of_sections o =
    let n = length o.sections in (
      lowest n (λ i. HasZero (section_at o i).name) (λ i. contains (section_at o i).name 0),
      (
        lowest n (λ i. IsWrongBitsType (section_at o i).body) (λ i. wrong_bits_type (section_at o i).body),
        (
          lowest n (λ i. HasWrongAlignment (section_at o i)) (λ i. wrong_alignment (section_at o i)),
          (
            lowest n (λ i. HasWrongPosition o (section_at o i)) (λ i. wrong_position o (section_at o i)),
            (
              lowest n (λ i. HasWrongField (section_at o i) (section_at o i).body)
                  (λ i. wrong_field (section_at o i) (section_at o i).body),
              tt,
            ),
          ),
        ),
      ),
    )

of_groups : (o : ObjectValue) → AreDecided (object_group_rules o)
unfolding object_group_rules
of_groups o = (lowest (length o.sections) (HasWrongMembership o) (has_wrong_membership o), tt)

of_symbols : (o : ObjectValue) → AreDecided (object_symbol_rules o)
unfolding object_symbol_rules
of_symbols o =
    let n = length o.symbols in (
      lowest n (λ i. HasZero (symbol_at o i).name) (λ i. contains (symbol_at o i).name 0),
      (
        lowest n (λ i. IsPast (length o.sections) (place_position (symbol_at o i).place))
            (λ i. past (length o.sections) (place_position (symbol_at o i).place)),
        (lowest n (IsMisplacedLocal o) (misplaced o), tt),
      ),
    )

pub object_fault : (o : ObjectValue) → (x : Option (ℕ × ℕ)) × FirstIn (object_rules o) x
unfolding object_rules
object_fault o =
    first_of (object_rules o)
    (all_decided (object_section_rules o) (object_group_rules o ++ object_symbol_rules o) (of_sections o)
    (all_decided (object_group_rules o) (object_symbol_rules o) (of_groups o) (of_symbols o)))
