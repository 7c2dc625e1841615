-- Names in slots, and after them in a map. A name that is in none of its slots has no entry: an entry's slot comes after taken ones, so a
-- search meets it. Hence a new name in a free slot, or in the map, keeps the tables and all other positions.
use Rattle.std.proofs.Common.{◌≡◌, ℕ, zero, suc, ◌<◌, ◌+◌, ◌-◌, ◌⊎◌, Bool, true, false, List, [], ◌∷◌, ◌++◌, length, get_or, set, inl, inr}
use Rattle.std.proofs.Common.{refl, sym, ◌∙◌, ap, subst, arith, get_or-set_other, get_or-set_same, ◌≤◌}
use Rattle.std.specs.Prelude.{◌≢◌, ◌*◌, ◌%◌, ◌^◌, cond, if◌then◌else◌, is_some, MatchOption, Option, None, Some, slice_get}
use Rattle.std.specs.Str.{bytes_eq}
use Rattle.std.proofs.lemmas.Bool.{cases_eq, cases_lt, eq-eqb, eqb-true, ne_eqb}
use Rattle.std.proofs.Math.Nat.{mul-le-mul_right}
use Rattle.std.proofs.Math.Seq.{get_or-append_seam}
use Rattle.std.proofs.lemmas.Nat.{div_below}
use Rattle.std.proofs.lemmas.List.{get_or_append_left, length-append, length-set, set-get_or}
use Rattle.std.proofs.lemmas.Slice.Eq.{bytes_eq-Decides}
use Rattle.std.proofs.lemmas.Option.{slice_get_read}
use Rattle.elf_link_names.specs.KnownNames.{known_at, no_known}
use Rattle.elf_link_names.specs.Tables.{IsPlaced, AreTables, AreSlotsTaken, IsEnd, IsFound, IsInNone, LeadsTo, SlotsSay, ordinal_entry}
use Rattle.elf_link_names.specs.Tables.{entry_position, free_slot, home, entry_name, name_hash, no_name_entry, or_else, place_among}
use Rattle.elf_link_names.specs.Tables.{slot_from, upper_of, KeepsOthers, is_of, known_by, known_from, known_in, small_known}
use Rattle.elf_link_files.specs.declared.known.Known.{Known}
use Rattle.elf_link_names.specs.declared.known_table.Large.{Large}
use Rattle.elf_link_names.specs.declared.known_table.Row.{Row as KnownRow}
use Rattle.elf_link_names.specs.declared.slots.Entry.{Entry}
use Rattle.elf_link_names.specs.declared.slots.Seen.TheVariants.{Free, Here, Taken}
use Rattle.elf_link_names.specs.declared.slots.Slot.{Slot}
use Rattle.elf_link_names.specs.declared.slots.TheConstants.{MOST_NAMES, MOST_STEPS}

pub is_same : (n q : List ℕ) → n ≡ q → bytes_eq n q ≡ true
is_same n q same = (bytes_eq-Decides n q).1 same

pub not_same : (n q : List ℕ) → n ≢ q → bytes_eq n q ≡ false
not_same n q apart = said (bytes_eq n q) refl where
  said : (b : Bool) → bytes_eq n q ≡ b → bytes_eq n q ≡ false
  said true is = absurd (apart ((bytes_eq-Decides n q).0 is))
  said false is = is

-- ---- where the entries say that a name is

pub no_position : (es : List Entry) (q : List ℕ) → ((k : ℕ) → k < length es → entry_name es k ≢ q) → entry_position es q ≡ None
no_position [] q none = refl
no_position (e ∷ es) q none =
    rw (not_same e.name.now q (none 0 (omega arith))) (no_position es q (λ k lt. none (suc k) (omega arith)))

pub first_position : (es : List Entry) (q : List ℕ) (k : ℕ) → k < length es → entry_name es k ≡ q →
    ((j : ℕ) → j < k → entry_name es j ≢ q) →
    entry_position es q ≡ Some (get_or es k no_name_entry).position
first_position [] q k lt is first = absurd (omega arith)
first_position (e ∷ es) q zero lt is first = rw (is_same e.name.now q is) refl
first_position (e ∷ es) q (suc k) lt is first =
    rw (not_same e.name.now q (first 0 (omega arith))) (first_position es q k (omega arith) is (λ j below. first (suc j) (omega arith)))

by_first : (b : Bool) (p : ℕ) (old now more : Option ℕ) → now ≡ or_else old more →
    (if b then Some p else now) ≡ or_else (if b then Some p else old) more
by_first true p old now more is = refl
by_first false p old now more is = is

pub position_more : (es : List Entry) (e : Entry) (q : List ℕ) →
    entry_position (es ++ e ∷ []) q ≡ or_else (entry_position es q) (if bytes_eq e.name.now q then Some e.position else None)
position_more [] e q = refl
position_more (d ∷ es) e q = by_first (bytes_eq d.name.now q) d.position (entry_position es q) _ _ (position_more es e q)

-- ---- what its slots say about a name

absent : (slots : List Slot) (es : List Entry) (more : List ℕ → Option ℕ) → AreTables slots es more → (q : List ℕ) (n : ℕ) →
    IsEnd slots (home slots q) n →
    IsInNone slots es (home slots q) (upper_of (name_hash q)) q n → (k : ℕ) → k < length es → entry_name es k ≢ q
absent slots es more tables q n end none k lt same =
    let (s, few, taken, is) = subst (λ (m : List ℕ). IsFound slots m (k + 1)) same (tables.found k lt) in
    let ordinal : (slot_from slots (home slots q) s).ordinal ≡ k + 1 = ap (λ (x : Slot). x.ordinal) is in
    elim (cases_lt s n) [
      | inl below ↦ none s below (ap (λ (x : Slot). x.upper) is, rw ordinal (ap (λ (i : ℕ). entry_name es i) (omega arith) ∙ same))
      | inr from ↦ elim end [
        | inl last ↦ absurd (omega arith)
        | inr free ↦ elim (cases_lt n s) [
          | inl before ↦ (let some = taken n before in absurd (omega arith))
          | inr at ↦ (let here : n ≡ s = omega arith in let free_here =
              subst (λ (i : ℕ). (slot_from slots (home slots q) i).ordinal ≡ 0) here free in absurd (omega arith))
        ]
      ]
    ]

pub absent_free : (slots : List Slot) (es : List Entry) (more : List ℕ → Option ℕ) → AreTables slots es more → (q : List ℕ) (at : ℕ) →
    SlotsSay slots es q (Free at) →
    (k : ℕ) → k < length es → entry_name es k ≢ q
absent_free slots es more tables q at (few, (s, below, is, free, taken, none)) = absent slots es more tables q s (inr free) none

pub absent_taken : (slots : List Slot) (es : List Entry) (more : List ℕ → Option ℕ) → AreTables slots es more → (q : List ℕ) →
    SlotsSay slots es q Taken →
    (k : ℕ) → k < length es → entry_name es k ≢ q
absent_taken slots es more tables q (taken, (n, end, none)) = absent slots es more tables q n end none

pub here_position : (slots : List Slot) (es : List Entry) (more : List ℕ → Option ℕ) → AreTables slots es more →
    (q : List ℕ) (position : ℕ) →
    SlotsSay slots es q (Here position) → entry_position es q ≡ Some position
here_position slots es more tables q position (k, lt, is, at) =
    first_position es q k lt is (λ j below same. (let one = tables.once j k (omega arith) lt (same ∙ sym is) in omega arith)) ∙
    ap Some (sym at)

-- a slot that leads to a name's entry reports its position
pub looked_up : (slots : List Slot) (es : List Entry) (more : List ℕ → Option ℕ) → AreTables slots es more →
    (slot : Slot) (upper : ℕ) (q : List ℕ) (found : Option ℕ) →
    MatchOption found (¬ LeadsTo es slot upper q) (λ p. LeadsTo es slot upper q × (p ≡ (ordinal_entry es slot.ordinal).position)) →
    MatchOption found (¬ LeadsTo es slot upper q) (λ p. or_else (entry_position es q) (more q) ≡ Some p)
looked_up slots es more tables slot upper q None none = none
looked_up slots es more tables slot upper q (Some p) ((some, within, of_name), at) =
    ap (λ (found : Option ℕ). or_else found (more q))
    (here_position slots es more tables q p (slot.ordinal - 1, omega arith, of_name.1, at))

-- where a slot is free and ordinals last, the map has no such name
pub not_in_map : (slots : List Slot) (es : List Entry) (more : List ℕ → Option ℕ) → AreTables slots es more → (q : List ℕ) (at : ℕ) →
    SlotsSay slots es q (Free at) →
    more q ≡ None
not_in_map slots es more tables q at (few, (s, below, is, free, taken, none)) = said (more q) refl where
  said : (m : Option ℕ) → more q ≡ m → more q ≡ None
  said None same = same
  said (Some p) same = (let some = tables.overflow few q p same s below in absurd (omega arith))

-- ---- a name that finds a free slot takes it

-- the slots, where this one is taken by the next ordinal
abbrev pub with_ordinal : List Slot → List Entry → List ℕ → ℕ → List Slot
with_ordinal slots es n at = set slots at (record { upper = upper_of (name_hash n); ordinal = length es + 1 })

-- a slot that is taken stays so
stays_taken : (slots : List Slot) (es : List Entry) (n : List ℕ) (at i : ℕ) → at < length slots → 0 < (get_or slots i free_slot).ordinal →
    0 < (get_or (with_ordinal slots es n at) i free_slot).ordinal
stays_taken slots es n at i inside some = elim (cases_eq i at) [
  | inl same ↦
      rw (same, get_or-set_same slots at (record { upper = upper_of (name_hash n); ordinal = length es + 1 }) free_slot inside)
      (omega arith)
  | inr other ↦ rw (get_or-set_other slots at i (record { upper = upper_of (name_hash n); ordinal = length es + 1 }) free_slot other) some
]

-- the place of a hash among so many is one of them
pub place_below : (hash count : ℕ) → 0 < count → place_among hash count < count
place_below hash count some =
    let most : hash % 2 ^ 32 * count ≤ 4294967295 * count = mul-le-mul_right count (omega arith) in
    div_below (hash % 2 ^ 32 * count) (2 ^ 32) count (omega arith) (omega arith)

-- the place of the free slot is one of the slots
at_inside : (slots : List Slot) (q : List ℕ) (s : ℕ) → MOST_STEPS < length slots → s < MOST_STEPS → home slots q + s < length slots
at_inside slots q s room few = let below = place_below (name_hash q) (length slots - MOST_STEPS) (omega arith) in omega arith

module _ (slots : List Slot) (es : List Entry) (more : List ℕ → Option ℕ) (tables : AreTables slots es more) (e : Entry) (at : ℕ)
    (states : SlotsSay slots es e.name.now (Free at)) where
  inside : at < length slots
  inside = (let (last, (s, few, is, free, taken, none)) = states in rw is (at_inside slots e.name.now s tables.room few))

  has_none : (k : ℕ) → k < length es → entry_name es k ≢ e.name.now
  has_none = absent_free slots es more tables e.name.now at states

  old_name : (k : ℕ) → k < length es → entry_name (es ++ e ∷ []) k ≡ entry_name es k
  old_name k lt = ap (λ (x : Entry). x.name.now) (get_or_append_left es (e ∷ []) no_name_entry k lt)

  new_name : entry_name (es ++ e ∷ []) (length es) ≡ e.name.now
  new_name = ap (λ (x : Entry). x.name.now) (get_or-append_seam es e [] no_name_entry)

  -- each of a name's slots that was taken still is
  still_taken : (q : List ℕ) (m : ℕ) → AreSlotsTaken slots (home slots q) m →
      AreSlotsTaken (with_ordinal slots es e.name.now at) (home (with_ordinal slots es e.name.now at) q) m
  still_taken q m taken s lt =
      rw (length-set slots at (record { upper = upper_of (name_hash e.name.now); ordinal = length es + 1 }))
      (stays_taken slots es e.name.now at (home slots q + s) inside (taken s lt))

  -- the slot of an old name is another one, and of the new one this
  old_found : (k : ℕ) → k < length es → IsFound slots (entry_name es k) (k + 1) →
      IsFound (with_ordinal slots es e.name.now at) (entry_name es k) (k + 1)
  old_found k lt (s, few, taken, is) =
      let (last, (free_at, below, place, free, before, none)) = states in
      let ordinal : (slot_from slots (home slots (entry_name es k)) s).ordinal ≡ k + 1 = ap (λ (x : Slot). x.ordinal) is in
      let other : home slots (entry_name es k) + s ≢ at = (λ same.
      let here : (get_or slots (home slots (entry_name es k) + s) free_slot).ordinal ≡ 0 =
      ap (λ (i : ℕ). (get_or slots i free_slot).ordinal) (same ∙ place) ∙ free in
      absurd (omega arith)) in (
        s,
        few,
        still_taken (entry_name es k) s taken,
        rw (length-set slots at (record { upper = upper_of (name_hash e.name.now); ordinal = length es + 1 }))
            (get_or-set_other slots at
            (home slots (entry_name es k) + s)
            (record { upper = upper_of (name_hash e.name.now); ordinal = length es + 1 }) free_slot other ∙ is),
      )

  new_found : IsFound (with_ordinal slots es e.name.now at) e.name.now (length es + 1)
  new_found =
      let (last, (s, few, place, free, before, none)) = states in (
        s,
        few,
        still_taken e.name.now s before,
        rw (length-set slots at (record { upper = upper_of (name_hash e.name.now); ordinal = length es + 1 }), sym place)
            (get_or-set_same slots at (record { upper = upper_of (name_hash e.name.now); ordinal = length es + 1 }) free_slot inside),
      )

  -- an ordinal is that of an old entry or of the new one
  old_or_new : (k : ℕ) → k < length (es ++ e ∷ []) → (k < length es) ⊎ (k ≡ length es)
  old_or_new k lt =
      let long = length-append es (e ∷ []) in
      elim (cases_lt k (length es)) [ inl below ↦ inl below | inr from ↦ inr (omega arith) ]

  all_found : (k : ℕ) → k < length (es ++ e ∷ []) → IsFound (with_ordinal slots es e.name.now at) (entry_name (es ++ e ∷ []) k) (k + 1)
  all_found k lt = elim (old_or_new k lt) [
    | inl old ↦ subst (λ (m : List ℕ). IsFound (with_ordinal slots es e.name.now at) m (k + 1)) (sym (old_name k old))
        (old_found k old (tables.found k old))
    | inr new ↦ (
        let named : entry_name (es ++ e ∷ []) k ≡ e.name.now = ap (λ (i : ℕ). entry_name (es ++ e ∷ []) i) new ∙ new_name in
        subst (λ (i : ℕ). IsFound (with_ordinal slots es e.name.now at) (entry_name (es ++ e ∷ []) k) (i + 1)) (sym new)
        (subst (λ (m : List ℕ). IsFound (with_ordinal slots es e.name.now at) m (length es + 1)) (sym named) new_found)
        )
  ]

  all_once : (j k : ℕ) → j < length (es ++ e ∷ []) → k < length (es ++ e ∷ []) → entry_name (es ++ e ∷ []) j ≡ entry_name (es ++ e ∷ []) k →
      j ≡ k
  all_once j k in_j in_k same = elim (old_or_new j in_j) [
    | inl old_j ↦ elim (old_or_new k in_k) [
      | inl old_k ↦ tables.once j k old_j old_k (sym (old_name j old_j) ∙ same ∙ old_name k old_k)
      | inr new_k ↦ absurd (has_none j old_j (sym (old_name j old_j) ∙ same ∙ ap (λ (i : ℕ). entry_name (es ++ e ∷ []) i) new_k ∙ new_name))
    ]
    | inr new_j ↦ elim (old_or_new k in_k) [
      | inl old_k ↦
          absurd (has_none k old_k (sym (old_name k old_k) ∙ sym same ∙ ap (λ (i : ℕ). entry_name (es ++ e ∷ []) i) new_j ∙ new_name))
      | inr new_k ↦ new_j ∙ sym new_k
    ]
  ]

  pub entered : AreTables (with_ordinal slots es e.name.now at) (es ++ e ∷ []) more
  entered =
      let last = states.0 in
      let long = length-append es (e ∷ []) in
      let new : Slot = record { upper = upper_of (name_hash e.name.now); ordinal = length es + 1 } in record {
        room = rw (length-set slots at new) tables.room;
        known = λ i. elim (cases_eq i at) [
          | inl same ↦ rw (same, get_or-set_same slots at new free_slot inside) (omega arith)
          | inr other ↦ rw (get_or-set_other slots at i new free_slot other) (let old = tables.known i in omega arith)
        ];
        found = all_found;
        once = all_once;
        apart = λ q p k is lt same. elim (old_or_new k lt) [
          | inl old ↦ tables.apart q p k is old (sym (old_name k old) ∙ same)
          | inr k_new ↦ (
              let named : e.name.now ≡ q = sym new_name ∙ sym (ap (λ (i : ℕ). entry_name (es ++ e ∷ []) i) k_new) ∙ same in
              let none : more e.name.now ≡ None = not_in_map slots es more tables e.name.now at states in
              let never : None ≡ Some p = sym none ∙ ap more named ∙ is in
              cc
              )
        ];
        overflow = λ few q p is. still_taken q MOST_STEPS (tables.overflow last q p is);
      }

-- ---- where names are then

pub placed_free : (es : List Entry) (more : List ℕ → Option ℕ) (e : Entry) → ((k : ℕ) → k < length es → entry_name es k ≢ e.name.now) →
    IsPlaced None e.name.now e.position (λ q. or_else (entry_position es q) (more q))
    (λ q. or_else (entry_position (es ++ e ∷ []) q) (more q))
placed_free es more e none q = rw (position_more es e q) (by_name (bytes_eq e.name.now q) refl) where
  by_name : (b : Bool) → bytes_eq e.name.now q ≡ b →
      or_else (or_else (entry_position es q) (if b then Some e.position else None)) (more q) ≡
      cond b (Some e.position) (or_else (entry_position es q) (more q))
  by_name true is =
      let same = (bytes_eq-Decides e.name.now q).0 is in
      rw (no_position es q (λ k lt named. none k lt (named ∙ sym same))) refl
  by_name false is = either (entry_position es q) where
    either : (x : Option ℕ) → or_else (or_else x None) (more q) ≡ or_else x (more q)
    either None = refl
    either (Some p) = refl

-- a name that has no entry is placed in the map
either_way : (t : Bool) (x : Option ℕ) → x ≡ cond t x x
either_way true x = refl
either_way false x = refl

by_entry : (found there : Option ℕ) (n q : List ℕ) (next : ℕ) (old now : Option ℕ) → (n ≡ q → found ≡ None) →
    now ≡ cond (is_some there) old (cond (bytes_eq n q) (Some next) old) →
    or_else found now ≡ cond (is_some there) (or_else found old) (cond (bytes_eq n q) (Some next) (or_else found old))
by_entry None there n q next old now none is = is
by_entry (Some p) there n q next old now none is =
    rw (not_same n q (λ same. (let never : Some p ≡ None = none same in cc))) (either_way (is_some there) (Some p))

pub placed_in_map : (es : List Entry) (old now : List ℕ → Option ℕ) (there : Option ℕ) (n : List ℕ) (next : ℕ) →
    ((k : ℕ) → k < length es → entry_name es k ≢ n) →
    IsPlaced there n next old now →
    IsPlaced there n next (λ q. or_else (entry_position es q) (old q)) (λ q. or_else (entry_position es q) (now q))
placed_in_map es old now there n next none placed q =
    by_entry (entry_position es q) there n q next (old q) (now q) (λ same. no_position es q (λ k lt named. none k lt (named ∙ sym same)))
    (placed q)

-- a name of the map is an old one of it, or the one that was placed
old_or_placed : (old now : List ℕ → Option ℕ) (there : Option ℕ) (n q : List ℕ) (next p : ℕ) → IsPlaced there n next old now →
    now q ≡ Some p →
    (old q ≡ Some p) ⊎ (n ≡ q)
old_or_placed old now there n q next p placed is = by_there there (placed q) where
  by_name : (b : Bool) → bytes_eq n q ≡ b → now q ≡ cond b (Some next) (old q) → (old q ≡ Some p) ⊎ (n ≡ q)
  by_name true same at = inr ((bytes_eq-Decides n q).0 same)
  by_name false other at = inl (sym at ∙ is)

  by_there : (there : Option ℕ) → now q ≡ cond (is_some there) (old q) (cond (bytes_eq n q) (Some next) (old q)) →
      (old q ≡ Some p) ⊎ (n ≡ q)
  by_there None at = by_name (bytes_eq n q) refl at
  by_there (Some k) at = inl (sym at ∙ is)

pub tables_in_map : (slots : List Slot) (es : List Entry) (old now : List ℕ → Option ℕ) (there : Option ℕ) (n : List ℕ) (next : ℕ) →
    AreTables slots es old →
    ((k : ℕ) → k < length es → entry_name es k ≢ n) → (length es < MOST_NAMES → AreSlotsTaken slots (home slots n) MOST_STEPS) →
    IsPlaced there n next old now →
    AreTables slots es now
tables_in_map slots es old now there n next tables none taken placed = record {
  room = tables.room;
  known = tables.known;
  found = tables.found;
  once = tables.once;
  apart = λ q p k is lt named. elim (old_or_placed old now there n q next p placed is) [
    | inl before ↦ tables.apart q p k before lt named
    | inr same ↦ none k lt (named ∙ sym same)
  ];
  overflow = λ few q p is. elim (old_or_placed old now there n q next p placed is) [
    | inl before ↦ tables.overflow few q p before
    | inr same ↦ subst (λ (m : List ℕ). AreSlotsTaken slots (home slots m) MOST_STEPS) same (taken few)
  ];
}

pub tables_same : (slots : List Slot) (es : List Entry) (old now : List ℕ → Option ℕ) → AreTables slots es old →
    ((q : List ℕ) → now q ≡ old q) → AreTables slots es now
tables_same slots es old now tables same = record {
  room = tables.room;
  known = tables.known;
  found = tables.found;
  once = tables.once;
  apart = λ q p k is lt. tables.apart q p k (sym (same q) ∙ is) lt;
  overflow = λ few q p is. tables.overflow few q p (sym (same q) ∙ is);
}

-- Lookups of a block, symbol by symbol: each step of a loop writes one item, and those that it wrote before stay.

pub block_next : {A : Type 0} (none : A) (P : ℕ → A → Type 0) (start i : ℕ) (xs : List A) (x : A) → start ≤ i → i - start < length xs →
    P i x →
    ((s : ℕ) → s < i - start → P (start + s) (get_or xs s none)) → (s : ℕ) → s < i + 1 - start →
    P (start + s) (get_or (set xs (i - start) x) s none)
block_next none P start i xs x begun within next before s lt = elim (cases_eq s (i - start)) [
  | inl same ↦ (
      let here : start + s ≡ i = omega arith in
      rw (here, same, get_or-set_same xs (i - start) x none within) next)
  | inr other ↦ rw (get_or-set_other xs (i - start) s x none other) (before s (omega arith))
]

-- The list of what is known of names, read from their rows and the large ones. Changing or adding the row of one name changes its item
-- alone, since a large one is read for no other name. By induction on the rows.

-- one of another name changes
pub changed_other : (ls : List Large) (i : ℕ) (l : Large) (j n : ℕ) (small : Known) → j ≢ l.name → is_of l.name (slice_get ls i) ≡ true →
    known_by j (slice_get (set ls i l) n) small ≡ known_by j (slice_get ls n) small
changed_other [] i l j n small other own = absurd (cc)
changed_other (x ∷ xs) zero l j zero small other own =
    rw (ne_eqb l.name j (λ same. other (sym same)), ne_eqb x.name j (λ same. other (sym same ∙ eqb-true x.name l.name own))) refl
changed_other (x ∷ xs) zero l j (suc n) small other own = refl
changed_other (x ∷ xs) (suc i) l j zero small other own = refl
changed_other (x ∷ xs) (suc i) l j (suc n) small other own = changed_other xs i l j n small other own

pub length-known_from : (ls : List Large) (k : ℕ) (rs : List KnownRow) → length (known_from ls k rs) ≡ length rs
length-known_from ls k [] = refl
length-known_from ls k (r ∷ rs) = ap (λ (n : ℕ). suc n) (length-known_from ls (k + 1) rs)

pub known_from_at : (ls : List Large) (k i n : ℕ) (rs : List KnownRow) (none : Known) (no_row : KnownRow) → n ≡ k + i → i < length rs →
    get_or (known_from ls k rs) i none ≡ known_in ls n (get_or rs i no_row)
known_from_at ls k i n [] none no_row at within = absurd (omega arith)
known_from_at ls k zero n (r ∷ rs) none no_row at within = (let same : k ≡ n = omega arith in ap (λ (m : ℕ). known_in ls m r) same)
known_from_at ls k (suc i) n (r ∷ rs) none no_row at within = known_from_at ls (k + 1) i n rs none no_row (omega arith) (omega arith)

-- the names from one on, where none of them is name k
kept_from : (old new : List Large) (k start : ℕ) (rs : List KnownRow) → ((j : ℕ) → start ≤ j → j < start + length rs → j ≢ k) →
    KeepsOthers k old new →
    known_from new start rs ≡ known_from old start rs
kept_from old new k start [] apart keeps = refl
kept_from old new k start (r ∷ rs) apart keeps =
    rw (
      keeps start r (apart start (omega arith) (omega arith)),
      kept_from old new k (start + 1) rs (λ j low high. apart j (omega arith) (omega arith)) keeps,
    ) refl

pub from_set : (old new : List Large) (start i n : ℕ) (rs : List KnownRow) (r : KnownRow) (known : Known) → n ≡ start + i → i < length rs →
    KeepsOthers n old new → known_in new n r ≡ known → known_from new start (set rs i r) ≡ set (known_from old start rs) i known
from_set old new start i n [] r known at within keeps is = absurd (omega arith)
from_set old new start zero n (x ∷ rs) r known at within keeps is =
    let same : n ≡ start = omega arith in
    rw (subst (λ (m : ℕ). known_in new m r ≡ known) same is, kept_from old new n (start + 1) rs (λ j low high equal. omega arith) keeps)
    refl
from_set old new start (suc i) n (x ∷ rs) r known at within keeps is =
    rw (keeps start x (λ never. omega arith), from_set old new (start + 1) i n rs r known (omega arith) (omega arith) keeps is) refl

pub from_push : (old new : List Large) (start n : ℕ) (rs : List KnownRow) (r : KnownRow) (known : Known) → n ≡ start + length rs →
    KeepsOthers n old new →
    known_in new n r ≡ known → known_from new start (rs ++ r ∷ []) ≡ known_from old start rs ++ known ∷ []
from_push old new start n [] r known at keeps is =
    let same : n ≡ start = omega arith in
    ap (λ (k : Known). k ∷ []) (subst (λ (m : ℕ). known_in new m r ≡ known) same is)
from_push old new start n (x ∷ rs) r known at keeps is =
    rw (keeps start x (λ never. omega arith), from_push old new (start + 1) n rs r known (omega arith) keeps is) refl

-- ---- one name

pub own_within : (ls : List Large) (i k : ℕ) → is_of k (slice_get ls i) ≡ true → i < length ls
own_within [] i k own = absurd (cc)
own_within (x ∷ xs) zero k own = omega arith
own_within (x ∷ xs) (suc i) k own = (let within = own_within xs i k own in omega arith)

pub own_named : (ls : List Large) (i k : ℕ) (l : Large) → is_of k (slice_get ls i) ≡ true → l ≡ get_or ls i l → l.name ≡ k
own_named ls i k l own read =
    let some = slice_get_read ls (length ls) i l refl (own_within ls i k own) read in
    eqb-true l.name k (subst (λ (o : Option Large). is_of k o ≡ true) some own)

-- of what an answer says, after it was read through a reference
pub is_here : (read ls : List Large) (i k : ℕ) (said answer : Bool) → read ≡ ls → said ≡ is_of k (slice_get read i) → said ≡ answer →
    is_of k (slice_get ls i) ≡ answer
is_here read ls i k said answer same is now = subst (λ (l : List Large). is_of k (slice_get l i) ≡ answer) same (sym is ∙ now)

-- a name of the list has a row, and one that has a large one leads to it, both within the vectors
pub has_row : (ls : List Large) (rs : List KnownRow) (k wide : ℕ) → k < length (known_from ls 0 rs) → length rs ≡ wide → k < wide
has_row ls rs k wide within is = (let many = length-known_from ls 0 rs in omega arith)

pub has_large : (ls : List Large) (i k wide : ℕ) → is_of k (slice_get ls i) ≡ true → length ls ≡ wide → i < wide
has_large ls i k wide own is = (let within = own_within ls i k own in omega arith)

by_own : (k : ℕ) (found : Option Large) (l : Large) (small : Known) → found ≡ Some l → is_of k found ≡ true →
    known_by k found small ≡ l.known
by_own k found l small is own = (let named = subst (λ (o : Option Large). is_of k o ≡ true) is own in rw (is, named) refl)

by_row : (k : ℕ) (found : Option Large) (small : Known) → is_of k found ≡ false → known_by k found small ≡ small
by_row k None small none = refl
by_row k (Some l) small other = rw other refl

changed_own : (ls : List Large) (i : ℕ) (l : Large) (small : Known) → i < length ls →
    known_by l.name (slice_get (set ls i l) i) small ≡ l.known
changed_own [] i l small within = absurd (omega arith)
changed_own (x ∷ xs) zero l small within = rw (eq-eqb l.name l.name refl) refl
changed_own (x ∷ xs) (suc i) l small within = changed_own xs i l small (omega arith)

read_row : (ls : List Large) (rs : List KnownRow) (k : ℕ) (row : KnownRow) → k < length rs → row ≡ get_or rs k row →
    known_at (known_from ls 0 rs) k ≡ known_in ls k row
read_row ls rs k row within at =
    subst (λ (r : KnownRow). known_at (known_from ls 0 rs) k ≡ known_in ls k r) (sym at)
    (known_from_at ls 0 k k rs no_known row (omega arith) within)

pub read_own : (ls : List Large) (rs : List KnownRow) (k : ℕ) (row : KnownRow) (l : Large) → k < length rs → row ≡ get_or rs k row →
    is_of k (slice_get ls row.large) ≡ true → l ≡ get_or ls row.large l → l.known ≡ known_at (known_from ls 0 rs) k
read_own ls rs k row l within at own read =
    let some = slice_get_read ls (length ls) row.large l refl (own_within ls row.large k own) read in
    sym (read_row ls rs k row within at ∙ by_own k (slice_get ls row.large) l (small_known row) some own)

pub read_small : (ls : List Large) (rs : List KnownRow) (k : ℕ) (row : KnownRow) → k < length rs → row ≡ get_or rs k row →
    is_of k (slice_get ls row.large) ≡ false → small_known row ≡ known_at (known_from ls 0 rs) k
read_small ls rs k row within at other =
    sym (read_row ls rs k row within at ∙ by_row k (slice_get ls row.large) (small_known row) other)

pub set_own : (ls : List Large) (rs : List KnownRow) (k : ℕ) (row : KnownRow) (l : Large) → l.name ≡ k → k < length rs →
    row ≡ get_or rs k row →
    is_of k (slice_get ls row.large) ≡ true → known_from (set ls row.large l) 0 rs ≡ set (known_from ls 0 rs) k l.known
set_own ls rs k row l name within at own =
    let named = subst (λ (n : ℕ). is_of n (slice_get ls row.large) ≡ true) (sym name) own in
    let same : set rs k row ≡ rs = subst (λ (r : KnownRow). set rs k r ≡ rs) (sym at) (set-get_or rs k row) in
    subst (λ (rows : List KnownRow). known_from (set ls row.large l) 0 rows ≡ set (known_from ls 0 rs) k l.known) same
    (from_set ls (set ls row.large l) 0 k k rs row l.known (omega arith) within
    (λ j r other. changed_other ls row.large l j r.large (small_known r) (λ equal. other (equal ∙ name)) named)
    (subst (λ (n : ℕ). known_by n (slice_get (set ls row.large l) row.large) (small_known row) ≡ l.known) name
    (changed_own ls row.large l (small_known row) (own_within ls row.large k own))))

pub set_small : (ls : List Large) (rs : List KnownRow) (k : ℕ) (row now : KnownRow) → now.large ≡ row.large → k < length rs →
    row ≡ get_or rs k row →
    is_of k (slice_get ls row.large) ≡ false → known_from ls 0 (set rs k now) ≡ set (known_from ls 0 rs) k (small_known now)
set_small ls rs k row now large within at other =
    from_set ls ls 0 k k rs now (small_known now) (omega arith) within (λ j r apart. refl)
    (by_row k (slice_get ls now.large) (small_known now) (subst (λ (n : ℕ). is_of k (slice_get ls n) ≡ false) (sym large) other))
