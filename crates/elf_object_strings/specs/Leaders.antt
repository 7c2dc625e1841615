-- Long names that may share bytes. Of those that end at one place of a string table the longest is a leader; the leaders that end with a
-- name
-- are one after the other, where they are sorted. By the first and the last of them two names are compared, and neither has to be read.
-- (gABI chapter 4, String Table.)
use Rattle.std.specs.Prelude.{◌≡◌, ◌<◌, ◌≤◌, ◌-◌, ◌+◌, ◌⊎◌, ◌++◌, ◌∷◌, ℕ, List, [], get_or, length, reverse, take}
use Rattle.std.specs.Cmp.Lexicographic.{slice_cmp}
use Rattle.std.specs.Ordering.{nat_cmp, ordering_then}
use Rattle.std.specs.List.Sorted.{IsNonDecreasingBy}
use Rattle.elf_object_strings.specs.StringTable.{IsSuffix}
use Rattle.elf_object_strings.specs.declared.bounds.Bound.{Bound}
use Rattle.elf_object_strings.specs.declared.name_list.LeaderRange.{LeaderRange}

-- no leader is known
abbrev pub no_range : LeaderRange
no_range = record { first = 0; last = 0 }

abbrev pub range_of : List LeaderRange → ℕ → LeaderRange
range_of ranges i = get_or ranges i no_range

-- the last leader of the other name is one of this one's, which is no longer
pub record IsTailByLeaders (name : List ℕ) (range : LeaderRange) (other : List ℕ) (other_range : LeaderRange) : Type 0 where
  pub first : range.first ≤ other_range.last
  pub last : other_range.last ≤ range.last
  pub fits : length name ≤ length other

-- Names whose ranges are known are in the order of their last leaders, the later one first, and of their lengths, read from their last
-- bytes
-- on. One ends with another one exactly if its last leader is one of that one's, and it is not shorter.
pub record AreLed (names : List (List ℕ)) (ranges : List LeaderRange) : Type 0 where
  pub order : (i j : ℕ) → 0 < (range_of ranges i).last → 0 < (range_of ranges j).last →
      slice_cmp nat_cmp (reverse (get_or names i [])) (reverse (get_or names j [])) ≡
      ordering_then (nat_cmp (range_of ranges j).last (range_of ranges i).last)
      (nat_cmp (length (get_or names i [])) (length (get_or names j [])))
  pub tails : (i j : ℕ) → 0 < (range_of ranges i).last → 0 < (range_of ranges j).last →
      IsTailByLeaders (get_or names i []) (range_of ranges i) (get_or names j []) (range_of ranges j) →
      IsSuffix (get_or names i []) (get_or names j [])
  pub only : (i j : ℕ) → 0 < (range_of ranges i).last → 0 < (range_of ranges j).last →
      IsSuffix (get_or names i []) (get_or names j []) →
      IsTailByLeaders (get_or names i []) (range_of ranges i) (get_or names j []) (range_of ranges j)

-- the length of the longest name that two names end with
pub record IsCommonEnd (name other : List ℕ) (n : ℕ) : Type 0 where
  pub end : List ℕ
  pub own : IsSuffix end name
  pub others : IsSuffix end other
  pub long : length end ≡ n
  pub most : (tail : List ℕ) → IsSuffix tail name → IsSuffix tail other → length tail ≤ n

-- Leaders, and bounds of the lengths of the names that one of them ends with.

-- those that end with one name are one after the other
abbrev pub StandTogether : List (List ℕ) → Type 0
StandTogether leaders =
    (name : List ℕ) (p q r : ℕ) → p ≤ q → q ≤ r → r < length leaders →
    IsSuffix name (get_or leaders p []) → IsSuffix name (get_or leaders r []) → IsSuffix name (get_or leaders q [])

-- the last of them that ends with a name
pub record IsLastWith (leaders : List (List ℕ)) (name : List ℕ) (q : ℕ) : Type 0 where
  pub within : q < length leaders
  pub ends : IsSuffix name (get_or leaders q [])
  pub none : (r : ℕ) → q < r → r < length leaders → ¬ IsSuffix name (get_or leaders r [])

-- what is read past the end
abbrev pub no_bound : Bound
no_bound = record { limit = 0; last = 0 }

-- the first bound that is at least a length
pub record IsBoundOf (bounds : List Bound) (n k : ℕ) : Type 0 where
  pub within : k < length bounds
  pub reaches : n ≤ (get_or bounds k no_bound).limit
  pub first : (k ≡ 0) ⊎ ((get_or bounds (k - 1) no_bound).limit < n)

-- the bounds do not fall, and the last one is the length of the longest name
pub record ReachUpTo (bounds : List Bound) (n : ℕ) : Type 0 where
  pub ascend : IsNonDecreasingBy (λ it. it.limit) bounds
  pub some : 0 < length bounds
  pub top : (get_or bounds (length bounds - 1) no_bound).limit ≡ n

-- the bounds of the names of up to n bytes
abbrev pub AreCutAt : List Bound → List Bound → ℕ → Type 0
AreCutAt bounds cut n =
    (k : ℕ) × IsBoundOf bounds n k × (cut ≡ take k bounds ++ (record { limit = n; last = (get_or bounds k no_bound).last } ∷ []))

-- of each name that the leader at a position ends with, its bound has the last leader that ends with it
pub record AreBounds (leaders : List (List ℕ)) (bounds : List Bound) (position : ℕ) : Type 0 where
  pub reach : ReachUpTo bounds (length (get_or leaders position []))
  pub last : (k : ℕ) (name : List ℕ) → IsSuffix name (get_or leaders position []) → IsBoundOf bounds (length name) k →
      IsLastWith leaders name (get_or bounds k no_bound).last

-- a number that is not 0 is the position of the last leader that ends with a name, plus 1
abbrev pub AreLasts : List (List ℕ) → List (List ℕ) → List ℕ → Type 0
AreLasts leaders names lasts = (i : ℕ) → 0 < get_or lasts i 0 → IsLastWith leaders (get_or names i []) (get_or lasts i 0 - 1)

-- a range from the first leader, which is counted from the other side, to the last one, of so many
pub record IsBetween (first last count : ℕ) (range : LeaderRange) : Type 0 where
  pub some : 0 < first
  pub first_is : range.first ≡ count - first + 1
  pub last_is : range.last ≡ last

-- each range that is known
abbrev pub AreBetween : List ℕ → List ℕ → ℕ → List LeaderRange → Type 0
AreBetween firsts lasts count ranges =
    (i : ℕ) → 0 < (range_of ranges i).last → IsBetween (get_or firsts i 0) (get_or lasts i 0) count (range_of ranges i)
