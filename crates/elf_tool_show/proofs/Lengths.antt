-- Extents of which no two share a byte are together no longer than what they lie in. The bytes below n are counted one by one: an extent
-- that ends by n is counted once for each of its bytes, and a byte is counted at most once.
use Rattle.std.proofs.Common.{◌≡◌, ℕ, ◌+◌, ◌<◌, ◌≤◌, List, [], ◌∷◌, arith, inl, inr, refl, suc, zero}
use Rattle.std.specs.List.{sum_by}
use Rattle.std.proofs.lemmas.Bool.{cases_lt}
use Rattle.std.proofs.lemmas.Bool.Decides.{nat_tests}
use Rattle.std.proofs.lemmas.List.Sums.{sum_by-cons}
use Rattle.elf_extent.specs.Extent.{AreDisjoint, AreWithin}
use Rattle.elf_extent.specs.declared.extent.Extent.{Extent}
use Rattle.std.proofs.Common.{◌⊎◌, ap, cond, false, nat_le, nat_lt, true, ◌∙◌}
use Rattle.elf_extent.specs.Extent.{Doubly, Has, HasAt}

abbrev once_if_held : ℕ → Extent → ℕ
once_if_held x e = cond (nat_le e.start x) (cond (nat_lt x (e.start + e.len)) 1 0) 0

abbrev holders : List Extent → ℕ → ℕ
holders es x = sum_by (once_if_held x) es

held_cases : (x : ℕ) (e : Extent) → (Has e x × (once_if_held x e ≡ 1)) ⊎ ((Has e x → ⊥) × (once_if_held x e ≡ 0))
held_cases x e = elim (cases_lt x e.start) [
  | inl before ↦
      let test : nat_le e.start x ≡ false = grind (arith, nat_tests) in
      inr (λ has. omega arith, ap (λ b. cond b (cond (nat_lt x (e.start + e.len)) 1 0) 0) test)
  | inr from ↦
      let test : nat_le e.start x ≡ true = grind (arith, nat_tests) in
      let to : once_if_held x e ≡ cond (nat_lt x (e.start + e.len)) 1 0 =
      ap (λ b. cond b (cond (nat_lt x (e.start + e.len)) 1 0) 0) test in
      elim (cases_lt x (e.start + e.len)) [
        | inl below ↦
            let last : nat_lt x (e.start + e.len) ≡ true = grind (arith, nat_tests) in
            inl ((from, below), to ∙ ap (λ b. cond b 1 0) last)
        | inr past ↦
            let last : nat_lt x (e.start + e.len) ≡ false = grind (arith, nat_tests) in
            inr (λ has. omega arith, to ∙ ap (λ b. cond b 1 0) last)
      ]
]

held_once : (es : List Extent) (x : ℕ) → 1 ≤ holders es x → (i : ℕ) × HasAt es i x
held_once [] x counted = absurd (omega arith)
held_once (e ∷ es) x counted =
    let sum = sum_by-cons (once_if_held x) e es in
    elim (held_cases x e) [
      | inl (held, one) ↦ (0, (e, refl, held))
      | inr (not_held, none) ↦
          let rest = held_once es x (omega arith) in
          (suc rest.0, rest.1)
    ]

held_twice : (es : List Extent) (x : ℕ) → 2 ≤ holders es x → Doubly es x
held_twice [] x counted = absurd (omega arith)
held_twice (e ∷ es) x counted =
    let sum = sum_by-cons (once_if_held x) e es in
    elim (held_cases x e) [
      | inl (held, one) ↦
          let rest = held_once es x (omega arith) in
          (0, suc rest.0, omega arith, (e, refl, held), rest.1)
      | inr (not_held, none) ↦
          let (i, j, less, at_i, at_j) = held_twice es x (omega arith) in
          (suc i, suc j, omega arith, at_i, at_j)
    ]

-- how many of the first n bytes an extent holds
abbrev held_of : ℕ → Extent → ℕ
held_of zero e = 0
held_of (suc n) e = held_of n e + once_if_held n e

abbrev IsHeld : ℕ → Extent → Type 0
IsHeld n e =
    (n ≤ e.start → held_of n e ≡ 0) × (e.start ≤ n → n ≤ e.start + e.len → e.start + held_of n e ≡ n) ×
    (e.start + e.len ≤ n → held_of n e ≡ e.len)

is_held : (n : ℕ) (e : Extent) → IsHeld n e
is_held zero e = (λ before. refl, λ from below. omega arith, λ past. omega arith)
is_held (suc n) e =
    let (none_yet, some, all) = is_held n e in
    elim (held_cases n e) [
      | inl ((from, below), one) ↦
          let so_far = some from (omega arith) in
          (λ before. absurd (omega arith), λ from_next below_next. omega arith, λ past. omega arith)
      | inr (not_held, none) ↦ elim (cases_lt n e.start) [
        | inl before ↦
            let so_far = none_yet (omega arith) in
            (λ before_next. omega arith, λ from_next below_next. omega arith, λ past. omega arith)
        | inr from ↦ elim (cases_lt n (e.start + e.len)) [
          | inl below ↦ absurd (not_held (from, below))
          | inr past ↦
              let so_far = all past in
              (λ before. absurd (omega arith), λ from_next below_next. absurd (omega arith), λ past_next. omega arith)
        ]
      ]
    ]

one_more : (n : ℕ) (es : List Extent) → sum_by (held_of (suc n)) es ≡ sum_by (held_of n) es + holders es n
one_more n [] = refl
one_more n (e ∷ es) =
    let rest = one_more n es in
    let next = sum_by-cons (held_of (suc n)) e es in
    let before = sum_by-cons (held_of n) e es in
    let here = sum_by-cons (once_if_held n) e es in
    omega arith

none_held : (es : List Extent) → sum_by (held_of 0) es ≡ 0
none_held [] = refl
none_held (e ∷ es) = let rest = none_held es in let both = sum_by-cons (held_of 0) e es in omega arith

at_most : (n : ℕ) (es : List Extent) → ((x : ℕ) → holders es x ≤ 1) → sum_by (held_of n) es ≤ n
at_most zero es once = let none = none_held es in omega arith
at_most (suc n) es once =
    let before = at_most n es once in
    let more = one_more n es in
    let here = once n in
    omega arith

-- an extent that holds a byte ends by n; one that holds none has no length to count
held_whole : (n : ℕ) (e : Extent) → (0 < e.len → e.start + e.len ≤ n) → held_of n e ≡ e.len
held_whole n e within =
    let (none_yet, some, all) = is_held n e in
    elim (cases_lt 0 e.len) [
      | inl holds ↦ all (within holds)
      | inr empty ↦ elim (cases_lt n e.start) [
        | inl before ↦ (let none = none_yet (omega arith) in omega arith)
        | inr from ↦ all (omega arith)
      ]
    ]

all_held : (n : ℕ) (es : List Extent) → AreWithin es n → sum_by (λ (e : Extent). e.len) es ≡ sum_by (held_of n) es
all_held n [] within = refl
all_held n (e ∷ es) within =
    let rest = all_held n es (λ i f is. within (suc i) f is) in
    let whole = held_whole n e (within 0 e refl) in
    let lens = sum_by-cons (λ (x : Extent). x.len) e es in
    let helds = sum_by-cons (held_of n) e es in
    omega arith

held_at_most_once : (es : List Extent) → AreDisjoint es → (x : ℕ) → holders es x ≤ 1
held_at_most_once es disjoint x = elim (cases_lt 1 (holders es x)) [
  | inl twice ↦
      let (i, j, less, at_i, at_j) = held_twice es x (omega arith) in
      let same = disjoint i j x at_i at_j in
      absurd (omega arith)
  | inr once ↦ omega arith
]

pub lengths_within : (n : ℕ) (es : List Extent) → AreWithin es n → AreDisjoint es → sum_by (λ (e : Extent). e.len) es ≤ n
lengths_within n es within disjoint =
    let same = all_held n es within in
    let most = at_most n es (held_at_most_once es disjoint) in
    omega arith
