-- Which names of a list are equal. Sorted by their ends equal names are one right after the other (`equal_between`): each has the index of
-- the
-- one before it, if that is equal, and else its own.
use Rattle.std.proofs.Common.{◌≡◌, ◌<◌, ◌≤◌, ◌+◌, ◌∙◌, ℕ, List, [], arith, ap, get_or, inl, inr, length, sym, subst, set, get_or-set_other}
use Rattle.std.proofs.Common.{get_or-set_same}
use Rattle.std.proofs.lemmas.Bool.{cases_lt}
use Rattle.std.proofs.lemmas.List.{length-set}
use Rattle.std.proofs.lemmas.List.FromFn.{get_or-range_with_len, length-range_with_len}
use Rattle.std.specs.List.{range_with_len}
use Rattle.elf_object_strings.proofs.EndsOrder.{Ends, ends_alike, ends_between, later_index, place_of}
use Rattle.elf_object_strings.specs.Sorting.{AreInEndsOrder, AreNumbered}
use Rattle.elf_object_strings.specs.StringTable.{AreEqualTo, IsSuffix}

-- of three names the one between two equal ones equals them
equal_between : (sorted : List (List ℕ)) (indexes : List ℕ) → AreInEndsOrder sorted indexes → (p q r : ℕ) → p ≤ q → q ≤ r →
    r < length sorted →
    get_or sorted p [] ≡ get_or sorted r [] → get_or sorted q [] ≡ get_or sorted r []
equal_between sorted indexes ordered p q r low high lt same =
    let ends : Ends sorted r q = ends_between sorted indexes ordered p q r low high lt ([], same) in
    ends_alike sorted indexes ordered p q low (omega arith) (subst (λ n. IsSuffix n (get_or sorted q [])) (sym same) ends) ∙ same

-- of the first sorted names those that are equal have one index, which is that of an equal name; each other one has its own
pub record HaveFirsts (names sorted : List (List ℕ)) (indexes firsts : List ℕ) (position : ℕ) : Type 0 where
  pub all : length firsts ≡ length names
  pub each : (q : ℕ) → q < position → q < length sorted →
      (get_or firsts (get_or indexes q 0) 0 < length names) × (get_or names (get_or firsts (get_or indexes q 0) 0) [] ≡ get_or sorted q [])
  pub only : (q r : ℕ) → q < position → r < position → q < length sorted → r < length sorted → get_or sorted q [] ≡ get_or sorted r [] →
      get_or firsts (get_or indexes q 0) 0 ≡ get_or firsts (get_or indexes r 0) 0
  pub least : (q : ℕ) → q < position → q < length sorted → get_or firsts (get_or indexes q 0) 0 ≤ get_or indexes q 0
  pub rest : (q : ℕ) → position ≤ q → q < length sorted → get_or firsts (get_or indexes q 0) 0 ≡ get_or indexes q 0

pub firsts_none : (names sorted : List (List ℕ)) (indexes : List ℕ) → AreNumbered names sorted indexes →
    HaveFirsts names sorted indexes (range_with_len 0 (length names)) 1
firsts_none names sorted indexes numbered = record {
  all = length-range_with_len 0 (length names);
  each = λ q first lt.
      (let below = numbered.below q lt in
      (subst (λ k. k < length names) (sym (own q lt)) below, ap (λ k. get_or names k []) (own q lt) ∙ numbered.named q lt));
  only = λ q r first_q first_r lt_q lt_r same.
      (let is : q ≡ r = omega arith in ap (λ k. get_or (range_with_len 0 (length names)) (get_or indexes k 0) 0) is);
  least = λ q first lt. (let is = own q lt in omega arith);
  rest = λ q from lt. own q lt;
} where
  own : (q : ℕ) → q < length sorted → get_or (range_with_len 0 (length names)) (get_or indexes q 0) 0 ≡ get_or indexes q 0
  own q lt = get_or-range_with_len 0 (length names) (get_or indexes q 0) 0 (numbered.below q lt) ∙ omega arith

-- the name at a position has another index than those before it
apart : (names sorted : List (List ℕ)) (indexes : List ℕ) → AreNumbered names sorted indexes → (q p : ℕ) → q < p → p < length sorted →
    get_or indexes q 0 ≡ get_or indexes p 0 → ⊥
apart names sorted indexes numbered q p lt p_lt same =
    let all = numbered.all in
    let many = numbered.as_many in
    numbered.once q p 0 lt (omega arith) same

-- the name at a position differs from the one before it
pub firsts_other : (names sorted : List (List ℕ)) (indexes firsts : List ℕ) (before : ℕ) → AreNumbered names sorted indexes →
    AreInEndsOrder sorted indexes → before + 1 < length sorted → (get_or sorted before [] ≡ get_or sorted (before + 1) [] → ⊥) →
    HaveFirsts names sorted indexes firsts (before + 1) → HaveFirsts names sorted indexes firsts (before + 1 + 1)
firsts_other names sorted indexes firsts before numbered ordered lt differs have = record {
  all = have.all;
  each = λ q first q_lt. elim (cases_lt q (before + 1)) [
    | inl old ↦ have.each q old q_lt
    | inr new ↦ (let own = have.rest q new q_lt in
        (subst (λ k. k < length names) (sym own) (numbered.below q q_lt), ap (λ k. get_or names k []) own ∙ numbered.named q q_lt))
  ];
  only = λ q r first_q first_r q_lt r_lt same. elim (cases_lt q (before + 1)) [
    | inl old_q ↦ elim (cases_lt r (before + 1)) [
      | inl old_r ↦ have.only q r old_q old_r q_lt r_lt same
      | inr new_r ↦ absurd (never q r old_q new_r r_lt (omega arith) same)
    ]
    | inr new_q ↦ elim (cases_lt r (before + 1)) [
      | inl old_r ↦ absurd (never r q old_r new_q q_lt (omega arith) (sym same))
      | inr new_r ↦ (let is : q ≡ r = omega arith in ap (λ k. get_or firsts (get_or indexes k 0) 0) is)
    ]
  ];
  least = λ q first q_lt. elim (cases_lt q (before + 1)) [
    | inl old ↦ have.least q old q_lt
    | inr new ↦ (let own = have.rest q new q_lt in omega arith)
  ];
  rest = λ q from q_lt. have.rest q (omega arith) q_lt;
} where
  never : (q r : ℕ) → q < before + 1 → before + 1 ≤ r → r < length sorted → r ≡ before + 1 → get_or sorted q [] ≡ get_or sorted r [] → ⊥
  never q r old new r_lt is same =
      let name : get_or sorted q [] ≡ get_or sorted (before + 1) [] = same ∙ ap (λ k. get_or sorted k []) is in
      differs (equal_between sorted indexes ordered q before (before + 1) (omega arith) (omega arith) lt name)

-- it equals the one before it, and gets that one's index
pub firsts_same : (names sorted : List (List ℕ)) (indexes firsts : List ℕ) (before : ℕ) → AreNumbered names sorted indexes →
    AreInEndsOrder sorted indexes → before + 1 < length sorted → get_or sorted before [] ≡ get_or sorted (before + 1) [] →
    HaveFirsts names sorted indexes firsts (before + 1) →
    HaveFirsts names sorted indexes (set firsts (get_or indexes (before + 1) 0) (get_or firsts (get_or indexes before 0) 0))
    (before + 1 + 1)
firsts_same names sorted indexes firsts before numbered ordered lt equal have = record {
  all = length-set firsts index first ∙ have.all;
  each = λ q passed q_lt. elim (cases_lt q (before + 1)) [
    | inl old ↦ (let (below, named) = have.each q old q_lt in (
      subst (λ k. k < length names) (sym (kept q (omega arith) q_lt)) below,
      ap (λ k. get_or names k []) (kept q (omega arith) q_lt) ∙ named,
    ))
    | inr new ↦ (let (below, named) = have.each before (omega arith) (omega arith) in
        let is : q ≡ before + 1 = omega arith in (
          subst (λ k. k < length names) (sym (written q is)) below,
          ap (λ k. get_or names k []) (written q is) ∙ named ∙ equal ∙ ap (λ k. get_or sorted k []) (sym is),
        ))
  ];
  only = λ q r passed_q passed_r q_lt r_lt same. elim (cases_lt q (before + 1)) [
    | inl old_q ↦ elim (cases_lt r (before + 1)) [
      | inl old_r ↦ kept q (omega arith) q_lt ∙ have.only q r old_q old_r q_lt r_lt same ∙ sym (kept r (omega arith) r_lt)
      | inr new_r ↦ joined q r old_q (omega arith) q_lt same
    ]
    | inr new_q ↦ elim (cases_lt r (before + 1)) [
      | inl old_r ↦ sym (joined r q old_r (omega arith) r_lt (sym same))
      | inr new_r ↦ (let is : q ≡ r = omega arith in ap (λ k. get_or (set firsts index first) (get_or indexes k 0) 0) is)
    ]
  ];
  least = λ q passed q_lt. elim (cases_lt q (before + 1)) [
    | inl old ↦ (let is = kept q (omega arith) q_lt in let low = have.least q old q_lt in omega arith)
    | inr new ↦ (let is : q ≡ before + 1 = omega arith in
        let at = written q is in
        let low = have.least before (omega arith) (omega arith) in
        let later = later_index sorted indexes ordered before (before + 1) (omega arith) lt (sym equal) in
        subst (λ k. get_or (set firsts index first) (get_or indexes q 0) 0 ≤ get_or indexes k 0) (sym is) (omega arith))
  ];
  rest = λ q from q_lt. kept q (omega arith) q_lt ∙ have.rest q (omega arith) q_lt;
} where
  index : ℕ
  index = get_or indexes (before + 1) 0

  first : ℕ
  first = get_or firsts (get_or indexes before 0) 0

  kept : (q : ℕ) → (q ≡ before + 1 → ⊥) → q < length sorted →
      get_or (set firsts index first) (get_or indexes q 0) 0 ≡ get_or firsts (get_or indexes q 0) 0
  kept q other q_lt = get_or-set_other firsts index (get_or indexes q 0) first 0 (λ same. elim (cases_lt q (before + 1)) [
    | inl less ↦ apart names sorted indexes numbered q (before + 1) less lt same
    | inr more ↦ apart names sorted indexes numbered (before + 1) q (omega arith) q_lt (sym same)
  ])

  written : (q : ℕ) → q ≡ before + 1 → get_or (set firsts index first) (get_or indexes q 0) 0 ≡ first
  written q is =
      let below = numbered.below (before + 1) lt in
      let all = have.all in
      ap (λ k. get_or (set firsts index first) (get_or indexes k 0) 0) is ∙ get_or-set_same firsts index first 0 (omega arith)

  joined : (q r : ℕ) → q < before + 1 → r ≡ before + 1 → q < length sorted → get_or sorted q [] ≡ get_or sorted r [] →
      get_or (set firsts index first) (get_or indexes q 0) 0 ≡ get_or (set firsts index first) (get_or indexes r 0) 0
  joined q r old is q_lt same =
      kept q (omega arith) q_lt ∙
      have.only q before old (omega arith) q_lt (omega arith) (same ∙ ap (λ k. get_or sorted k []) is ∙ sym equal) ∙ sym (written r is)

pub firsts_all : (names sorted : List (List ℕ)) (indexes firsts : List ℕ) (position : ℕ) → AreNumbered names sorted indexes →
    length sorted ≤ position → HaveFirsts names sorted indexes firsts position → AreEqualTo names firsts
firsts_all names sorted indexes firsts position numbered end have = record {
  all = have.all;
  each = λ i lt.
      (let (q, q_lt, q_is, q_name) = place_of names sorted indexes numbered i lt in
      let (below, named) = have.each q (omega arith) q_lt in (
        subst (λ k. get_or firsts k 0 < length names) q_is below,
        subst (λ k. get_or names (get_or firsts k 0) [] ≡ get_or names i []) q_is (named ∙ q_name),
      ));
  least = λ i j lt_i lt_j same.
      (let (q, q_lt, q_is, q_name) = place_of names sorted indexes numbered i lt_i in
      let (r, r_lt, r_is, r_name) = place_of names sorted indexes numbered j lt_j in
      let only = have.only q r (omega arith) (omega arith) q_lt r_lt (q_name ∙ same ∙ sym r_name) in
      let low : get_or firsts (get_or indexes q 0) 0 ≤ get_or indexes r 0 = (let least = have.least r (omega arith) r_lt in omega arith) in
      subst (λ k. get_or firsts k 0 ≤ j) q_is (subst (λ k. get_or firsts (get_or indexes q 0) 0 ≤ k) r_is low));
}
