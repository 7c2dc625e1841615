-- The loads of an executable: they are in order, and apart in the file and in memory.
use Rattle.std.proofs.Common.{◌≡◌, ◌<◌, ◌≤◌, ◌+◌, ℕ, zero, suc, Bool, true, cond, List, [], ◌∷◌, length, map, get_or, refl, sym, ◌∙◌, subst}
use Rattle.std.proofs.Common.{arith, ◌⊎◌, false, ◌++◌, ap, ap₂, inl, inr, ◌-◌, ◌^◌, ◌%◌}
use Rattle.std.specs.List.{filter, range_with_len, All}
use Rattle.std.proofs.lemmas.Bool.{cond_both, lt-ltb, cases_lt, le-ltb}
use Rattle.std.proofs.lemmas.List.FromFn.{get_or-map-range_with_len, length-map-range_with_len, filter_of_map_range_with_len_more}
use Rattle.std.specs.Prelude.{nat_lt, bit_and, ◌==◌, if◌then◌else◌}
use Rattle.std.proofs.lemmas.List.Elements.{All-filter, All-from_get_or, All-get_or, filter_passes}
use Rattle.std.proofs.lemmas.List.{append-nil}
use Rattle.elf_link_relocate.specs.Loads.{has_memory, load_at, load_in, loads, no_load, commons_load, output_load, segment_flags}
use Rattle.elf_link_relocate.specs.declared.load.Load.{Load}
use Rattle.elf_field.specs.Abi.{PF_W, PF_X, SHF_EXECINSTR, SHF_WRITE}
use Rattle.elf_link_map.specs.LinkMap.{LinkMapValue}
use Rattle.elf_link_map.specs.Standing.{output_at, ArePlacedApart, ArePaged, OutputsStand}
use Rattle.elf_link_outputs.specs.Placed.{CommonValue, common_at}
use Rattle.elf_object_type.specs.Object.{ObjectValue}

-- The segments of an executable are in the order of the outputs, the commons last, and each of these that takes memory has one. They are
-- what a filter leaves, which keeps the order: by induction on the list.

-- ---- what passes a test is in the same order

-- each item of ys is one of xs
abbrev ArePicked : {A : Type 0} → A → List A → List A → Type 0
ArePicked none xs ys = (j : ℕ) → j < length ys → (l : ℕ) × (l < length xs) × (get_or ys j none ≡ get_or xs l none)

-- of two of them the earlier one is before the other
abbrev AreInOrder : {A : Type 0} → A → List A → List A → Type 0
AreInOrder none xs ys = (i j : ℕ) → i < j → j < length ys →
    (k l : ℕ) × (k < l) × (l < length xs) × (get_or ys i none ≡ get_or xs k none) × (get_or ys j none ≡ get_or xs l none)

picked_here : {A : Type 0} (none x : A) (xs ys : List A) → ArePicked none xs ys → ArePicked none (x ∷ xs) (x ∷ ys)
picked_here none x xs ys are zero lt = (0, omega arith, refl)
picked_here none x xs ys are (suc j) lt = (let (l, l_in, is) = are j (omega arith) in (suc l, omega arith, is))

picked_later : {A : Type 0} (none x : A) (xs ys : List A) → ArePicked none xs ys → ArePicked none (x ∷ xs) ys
picked_later none x xs ys are j lt = (let (l, l_in, is) = are j lt in (suc l, omega arith, is))

order_here : {A : Type 0} (none x : A) (xs ys : List A) → ArePicked none xs ys → AreInOrder none xs ys → AreInOrder none (x ∷ xs) (x ∷ ys)
order_here none x xs ys are order i zero before lt = absurd (omega arith)
order_here none x xs ys are order zero (suc j) before lt =
    (let (l, l_in, is) = are j (omega arith) in (0, suc l, omega arith, omega arith, refl, is))
order_here none x xs ys are order (suc i) (suc j) before lt =
    (let (k, l, ordered, l_in, first, second) = order i j (omega arith) (omega arith) in
    (suc k, suc l, omega arith, omega arith, first, second))

order_later : {A : Type 0} (none x : A) (xs ys : List A) → AreInOrder none xs ys → AreInOrder none (x ∷ xs) ys
order_later none x xs ys order i j before lt =
    (let (k, l, ordered, l_in, first, second) = order i j before lt in (suc k, suc l, omega arith, omega arith, first, second))

filter_picks : {A : Type 0} (f : A → Bool) (none : A) (xs : List A) → ArePicked none xs (filter f xs)
filter_picks f none [] = λ j lt. absurd (omega arith)
filter_picks f none (x ∷ xs) =
    cond_both (f x) (x ∷ filter f xs) (filter f xs) (ArePicked none (x ∷ xs))
    (λ passes. picked_here none x xs (filter f xs) (filter_picks f none xs))
    (λ fails. picked_later none x xs (filter f xs) (filter_picks f none xs))

filter_orders : {A : Type 0} (f : A → Bool) (none : A) (xs : List A) → AreInOrder none xs (filter f xs)
filter_orders f none [] = λ i j before lt. absurd (omega arith)
filter_orders f none (x ∷ xs) =
    cond_both (f x) (x ∷ filter f xs) (filter f xs) (AreInOrder none (x ∷ xs))
    (λ passes. order_here none x xs (filter f xs) (filter_picks f none xs) (filter_orders f none xs))
    (λ fails. order_later none x xs (filter f xs) (filter_orders f none xs))

-- an item that passes is one of those that do
filter_keeps : {A : Type 0} (f : A → Bool) (none : A) (xs : List A) (l : ℕ) → l < length xs → f (get_or xs l none) ≡ true →
    (j : ℕ) × (j < length (filter f xs)) × (get_or (filter f xs) j none ≡ get_or xs l none)
filter_keeps f none [] l lt passes = absurd (omega arith)
filter_keeps {A} f none (x ∷ xs) zero lt passes =
    let P : Bool → Type 0 =
    λ b. (j : ℕ) × (j < length (cond b (x ∷ filter f xs) (filter f xs))) × (get_or (cond b (x ∷ filter f xs) (filter f xs)) j none ≡ x) in
    subst P (sym passes) (0, omega arith, refl)
filter_keeps {A} f none (x ∷ xs) (suc l) lt passes =
    let (j, j_in, is) = filter_keeps f none xs l (omega arith) passes in
    cond_both (f x) (x ∷ filter f xs) (filter f xs) (λ (ys : List A). (j : ℕ) × (j < length ys) × (get_or ys j none ≡ get_or xs l none))
    (λ yes. (suc j, omega arith, is)) (λ no. (j, j_in, is))

-- ---- the segments

load_at_position : (m : LinkMapValue) (k : ℕ) → k ≤ length m.outputs →
    get_or (map (load_at m) (range_with_len 0 (length m.outputs + 1))) k no_load ≡ load_at m k
load_at_position m k le = get_or-map-range_with_len (load_at m) 0 (length m.outputs + 1) k k no_load (omega arith) (omega arith)

-- what takes memory has one
pub load_there : (m : LinkMapValue) (k : ℕ) → k ≤ length m.outputs → 0 < (load_at m k).size →
    (j : ℕ) × (j < length (loads m)) × (load_in m j ≡ load_at m k)
unfolding loads
load_there m k le some =
    let n = length m.outputs + 1 in
    let all = map (load_at m) (range_with_len 0 n) in
    let long = length-map-range_with_len (load_at m) 0 n in
    let is = load_at_position m k le in
    let passes = lt-ltb 0 (load_at m k).size some in
    let (j, j_in, same) = filter_keeps has_memory no_load all k (omega arith) (rw is passes) in
    (j, j_in, same ∙ is)

-- of two segments the earlier one is that of an earlier output
pub loads_ordered : (m : LinkMapValue) (i j : ℕ) → i < j → j < length (loads m) →
    (k l : ℕ) × (k < l) × (l ≤ length m.outputs) × (load_in m i ≡ load_at m k) × (load_in m j ≡ load_at m l)
unfolding loads
loads_ordered m i j before lt =
    let n = length m.outputs + 1 in
    let all = map (load_at m) (range_with_len 0 n) in
    let long = length-map-range_with_len (load_at m) 0 n in
    let (k, l, ordered, l_in, first, second) = filter_orders has_memory no_load all i j before lt in
    (k, l, ordered, omega arith, first ∙ load_at_position m k (omega arith), second ∙ load_at_position m l (omega arith))

-- Each segment is that of an output, or of the commons, and takes memory. The list is built output by output: one of size 0 is passed
-- over, any other is one segment more.

-- a load of some position up to that of the commons
abbrev IsSome : LinkMapValue → Load → Type 0
IsSome m load = (k : ℕ) × (k < length m.outputs + 1) × (load ≡ load_at m k)

all_some : (m : LinkMapValue) → All (IsSome m) (loads m)
unfolding loads
all_some m =
    let n = length m.outputs + 1 in
    let whole = map (load_at m) (range_with_len 0 n) in
    All-filter has_memory (IsSome m) whole (All-from_get_or (IsSome m) whole no_load
    (λ k lt. (
      k,
      (let long = length-map-range_with_len (load_at m) 0 n in omega arith),
      get_or-map-range_with_len (load_at m) 0 n k k no_load (let long = length-map-range_with_len (load_at m) 0 n in omega arith)
          (omega arith),
    )))

all_with_memory : (m : LinkMapValue) → All (λ load. has_memory load ≡ true) (loads m)
unfolding loads
all_with_memory m = filter_passes has_memory (map (load_at m) (range_with_len 0 (length m.outputs + 1)))

-- it is that of an output, at its position, or of the commons
pub load_of : (m : LinkMapValue) (j : ℕ) → j < length (loads m) →
    ((k : ℕ) × (k < length m.outputs) × (load_in m j ≡ output_load k (output_at m k))) ⊎
    (load_in m j ≡ commons_load (length m.outputs) m.commons)
load_of m j lt =
    let (k, within, is) = All-get_or (IsSome m) (loads m) j no_load lt (all_some m) in
    elim (cases_lt k (length m.outputs)) [
      | inl output ↦ inl (k, output, is ∙ rw (lt-ltb k (length m.outputs) output) refl)
      | inr past ↦ inr (is ∙ (let same : k ≡ length m.outputs = omega arith in
          ap (load_at m) same ∙ rw (le-ltb (length m.outputs) (length m.outputs) (omega arith)) refl))
    ]

-- its size is above 0
pub load_some : (m : LinkMapValue) (j : ℕ) → j < length (loads m) → 0 < (load_in m j).size
load_some m j lt = elim (cases_lt 0 (load_in m j).size) [
  | inl some ↦ some
  | inr none ↦ (
      let passes : nat_lt 0 (load_in m j).size ≡ true =
      All-get_or (λ (load : Load). has_memory load ≡ true) (loads m) j no_load lt (all_with_memory m) in
      let fails : nat_lt 0 (load_in m j).size ≡ false = le-ltb 0 (load_in m j).size none in
      let never : true ≡ false = sym passes ∙ fails in
      absurd (cc))
]

-- ---- one position more

pub load_kept : (m : LinkMapValue) (n : ℕ) (all new : List Load) (load : Load) →
    all ≡ filter has_memory (map (load_at m) (range_with_len 0 n)) → load ≡ load_at m n →
    0 < load.size → new ≡ all ++ load ∷ [] → new ≡ filter has_memory (map (load_at m) (range_with_len 0 (n + 1)))
load_kept m n all new load before is some after =
    let more = filter_of_map_range_with_len_more has_memory (load_at m) 0 n n (omega arith) in
    let passes : nat_lt 0 (load_at m n).size ≡ true = subst (λ (l : Load). nat_lt 0 l.size ≡ true) is (lt-ltb 0 load.size some) in
    after ∙ ap₂ (λ (ls : List Load) (l : Load). ls ++ l ∷ []) before is
    ∙ ap (λ (b : Bool). filter has_memory (map (load_at m) (range_with_len 0 n)) ++ cond b (load_at m n ∷ []) []) (sym passes) ∙ sym more

pub load_passed : (m : LinkMapValue) (n : ℕ) (all : List Load) (load : Load) →
    all ≡ filter has_memory (map (load_at m) (range_with_len 0 n)) → load ≡ load_at m n →
    load.size ≤ 0 → all ≡ filter has_memory (map (load_at m) (range_with_len 0 (n + 1)))
load_passed m n all load before is none =
    let more = filter_of_map_range_with_len_more has_memory (load_at m) 0 n n (omega arith) in
    let fails : nat_lt 0 (load_at m n).size ≡ false = subst (λ (l : Load). nat_lt 0 l.size ≡ false) is (le-ltb 0 load.size none) in
    before ∙ sym (append-nil (filter has_memory (map (load_at m) (range_with_len 0 n))))
    ∙ ap (λ (b : Bool). filter has_memory (map (load_at m) (range_with_len 0 n)) ++ cond b (load_at m n ∷ []) []) (sym fails) ∙ sym more

-- Each segment of an executable begins at a multiple of the page, ends below 2^64, and begins no lower than those before it. By cases: it
-- is that of an output, or of the commons, which are after all outputs.

if_below : (b : Bool) (x : ℕ) → (if b then 0 else x) ≤ x
if_below true x = omega arith
if_below false x = omega arith

flags_fit : (flags : ℕ) → segment_flags flags < 2 ^ 32
flags_fit flags =
    let write = if_below (bit_and flags SHF_WRITE == 0) PF_W in
    let execute = if_below (bit_and flags SHF_EXECINSTR == 0) PF_X in
    omega arith

-- ---- the commons

pub commons_some : (k : ℕ) (cs : List CommonValue) → 0 < (commons_load k cs).size → 0 < length cs
commons_some k [] some = absurd (omega arith)
commons_some k (c ∷ cs) some = omega arith

-- a common begins where an earlier one begins, or after that
pub commons_ascend : (fs : List ObjectValue) (m : LinkMapValue) (j k : ℕ) → ArePlacedApart fs m → j ≤ k → k < length m.commons →
    (common_at m.commons j).address ≤ (common_at m.commons k).address
commons_ascend fs m j k stand le lt = elim (cases_lt j k) [
  | inl before ↦ (let apart = stand.commons_apart j k before lt in omega arith)
  | inr past ↦ (let same : j ≡ k = omega arith in let equal = ap (λ (i : ℕ). (common_at m.commons i).address) same in omega arith)
]

-- and ends where a later one ends, or before
pub commons_end : (fs : List ObjectValue) (m : LinkMapValue) (j k : ℕ) → ArePlacedApart fs m → j ≤ k → k < length m.commons →
    (common_at m.commons j).address + (common_at m.commons j).size ≤ (common_at m.commons k).address + (common_at m.commons k).size
commons_end fs m j k stand le lt = elim (cases_lt j k) [
  | inl before ↦ (let apart = stand.commons_apart j k before lt in omega arith)
  | inr past ↦ (let same : j ≡ k = omega arith in
      let equal = ap (λ (i : ℕ). (common_at m.commons i).address + (common_at m.commons i).size) same in omega arith)
]

-- ---- the segments

pub record LoadStands (m : LinkMapValue) (load : Load) : Type 0 where
  pub end : load.address + load.size < 2 ^ 64
  pub flags : load.flags < 2 ^ 32
  pub paged : load.address % m.page ≡ 0

-- output k, or the commons as position after all outputs
pub at_output : (m : LinkMapValue) (k : ℕ) → k < length m.outputs → load_at m k ≡ output_load k (output_at m k)
at_output m k lt = rw (lt-ltb k (length m.outputs) lt) refl

pub at_commons : (m : LinkMapValue) (k : ℕ) → length m.outputs ≤ k → load_at m k ≡ commons_load k m.commons
at_commons m k le = rw (le-ltb k (length m.outputs) le) refl

module _ (fs : List ObjectValue) (m : LinkMapValue) (stand : ArePlacedApart fs m) (outputs : OutputsStand fs m) where
  -- of what takes memory, an output begins where each output before it ends, or after that, and so do the commons
  loads_apart_at : (k l : ℕ) → k < l → l ≤ length m.outputs → 0 < (load_at m l).size →
      (load_at m k).address + (load_at m k).size ≤ (load_at m l).address
  loads_apart_at k l before le some =
      let here = at_output m k (omega arith) in
      elim (cases_lt l (length m.outputs)) [
        | inl lt ↦
            (let there = at_output m l lt in
            let apart = outputs.apart k l before lt in
            rw (here, there) (omega arith))
        | inr ge ↦
            (let there = at_commons m l ge in
            let past =
            outputs.commons_after k 0 (omega arith) (commons_some l m.commons (subst (λ (load : Load). 0 < load.size) there some)) in
            rw (here, there) (omega arith))
      ]

  pub loads_apart : (i j : ℕ) → i < j → j < length (loads m) → (load_in m i).address + (load_in m i).size ≤ (load_in m j).address
  loads_apart i j before lt =
      let (k, l, ordered, le, first, second) = loads_ordered m i j before lt in
      let some = subst (λ (load : Load). 0 < load.size) second (load_some m j lt) in
      rw (first, second) (loads_apart_at k l ordered le some)

  module _ (paged : ArePaged m) where
    output_stands : (k : ℕ) → k < length m.outputs → LoadStands m (output_load k (output_at m k))
    output_stands k lt = record { end = outputs.within k lt; flags = flags_fit (output_at m k).flags; paged = paged.outputs k lt }

    commons_stand : (k : ℕ) → 0 < (commons_load k m.commons).size → LoadStands m (commons_load k m.commons)
    commons_stand k some =
        let last = length m.commons - 1 in
        let there = commons_some k m.commons some in
        let within = stand.commons_within last (omega arith) in
        let from = commons_ascend fs m 0 last stand (omega arith) (omega arith) in
        record { end = omega arith; flags = omega arith; paged = paged.commons there }

    pub load_stands : (j : ℕ) → j < length (loads m) → LoadStands m (load_in m j)
    load_stands j lt = elim (load_of m j lt) [
      | inl found ↦ (let (k, k_in, is) = found in subst (LoadStands m) (sym is) (output_stands k k_in))
      | inr is ↦ subst (LoadStands m) (sym is)
          (commons_stand (length m.outputs) (subst (λ (load : Load). 0 < load.size) is (load_some m j lt)))
    ]
