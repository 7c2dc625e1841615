-- Names sorted by what they end with.
use Rattle.std.specs.Prelude.{◌≡◌, ◌≢◌, AllPairs, ◌+◌, ◌*◌, ◌%◌, ◌^◌, ◌<◌, ◌≤◌, Bool, ℕ, zero, suc, false, if◌then◌else◌, nat_lt, List, []}
use Rattle.std.specs.Prelude.{◌∷◌, ◌++◌, get_or, length, map, min, reverse}
use Rattle.std.specs.Cmp.Lexicographic.{slice_cmp}
use Rattle.std.specs.declared.cmp.Ordering.{Ordering}
use Rattle.std.specs.Ordering.{is_lt, nat_cmp, ordering_then}
use Rattle.elf_field.specs.Bytes.{IsBytes}
use Rattle.elf_object_strings.specs.StringTable.{IsFirstOfHeld, IsOwner, IsSuffix}
use Rattle.elf_object_strings.specs.declared.sorting.Numbered.{Numbered}

-- the names of a list at the indexes of the sorted ones
abbrev pub names_by_ends : List (List ℕ) → List Numbered → List (List ℕ)
names_by_ends names sorted = map (λ it. get_or names it.index []) sorted

abbrev pub indexes_in : List Numbered → List ℕ
indexes_in sorted = map (λ it. it.index) sorted

-- read from their last bytes on, the greatest name comes first; equal ones in the order of their indexes
abbrev pub ends_order : List ℕ → ℕ → List ℕ → ℕ → Ordering
ends_order name index other other_index =
    ordering_then (slice_cmp nat_cmp (reverse other) (reverse name)) (nat_cmp index other_index)

-- each name of a list, with an index at which the list has it, and each index once
pub record AreNumbered (names : List (List ℕ)) (sorted : List (List ℕ)) (indexes : List ℕ) : Type 0 where
  pub as_many : length sorted ≡ length names
  pub all : length indexes ≡ length names
  pub below : (q : ℕ) → q < length sorted → get_or indexes q 0 < length names
  pub named : (q : ℕ) → q < length sorted → get_or names (get_or indexes q 0) [] ≡ get_or sorted q []
  pub each : (i : ℕ) → i < length names → (q : ℕ) × (q < length sorted) × (get_or indexes q 0 ≡ i)
  pub once : AllPairs (λ i j. i ≢ j) indexes

-- none is before one that comes first
abbrev pub AreInEndsOrder : List (List ℕ) → List ℕ → Type 0
AreInEndsOrder sorted indexes =
    (q r : ℕ) → q ≤ r → r < length sorted →
    is_lt (ends_order (get_or sorted r []) (get_or indexes r 0) (get_or sorted q []) (get_or indexes q 0)) ≡ false

-- the number that the first n bytes represent, the first of them the most significant; those past the end count as zeros
unfoldable pub leading : ℕ → List ℕ → ℕ
leading zero bytes = 0
leading (suc n) [] = 0
leading (suc n) (byte ∷ bytes) = byte * 256 ^ n + leading n bytes

-- the number of a name: its last seven bytes, the last of them the most significant, and then its length, or 8 if it is longer than that
abbrev pub end_number : List ℕ → ℕ
end_number name = leading 7 (reverse name) * 256 + min (length name) 8

-- the number of a name of fewer than eight bytes: no other name has it
abbrev pub is_whole : ℕ → Bool
is_whole number = nat_lt (number % 256) 8

-- the index of a name of bytes in a list, beside its number
pub record HasEnd (names : List (List ℕ)) (it : Numbered) : Type 0 where
  pub bytes : IsBytes (get_or names it.index [])
  pub number : it.end ≡ end_number (get_or names it.index [])

-- what is left to be compared of a name, if its number is equal: nothing, if that is the number of the whole name
abbrev pub left_of : List (List ℕ) → Numbered → List ℕ
left_of names it = if is_whole it.end then [] else get_or names it.index []

-- the order by the numbers first, and then by what is left of the names of a list at the two indexes
abbrev pub numbered_order : List (List ℕ) → Numbered → Numbered → Ordering
numbered_order names it other =
    ordering_then (nat_cmp other.end it.end) (ends_order (left_of names it) it.index (left_of names other) other.index)

-- two names without the last bytes, which they have in common
pub record AreWithoutEqualEnds (name : List ℕ) (other : List ℕ) (rest : List ℕ) (other_rest : List ℕ) : Type 0 where
  pub ending : List ℕ
  pub name_is : name ≡ rest ++ ending
  pub other_is : other ≡ other_rest ++ ending

-- Names sorted by what they end with: those that end with one name are one after the other, and it last.

-- from its start on all names up to a position end with the one there, and none before
pub record IsRun (sorted : List (List ℕ)) (position start : ℕ) : Type 0 where
  pub low : start ≤ position
  pub ends : (r : ℕ) → start ≤ r → r ≤ position → IsSuffix (get_or sorted position []) (get_or sorted r [])
  pub none : (r : ℕ) → r < start → ¬ IsSuffix (get_or sorted position []) (get_or sorted r [])

-- the starts of the runs of the first names
pub record AreRuns (sorted : List (List ℕ)) (starts : List ℕ) (position : ℕ) : Type 0 where
  pub as_many : length starts ≡ position
  pub each : (q : ℕ) → q < position → IsRun sorted q (get_or starts q 0)

-- the first of the sorted names have their owners, by their indexes, and each other one is its own owner
pub record HaveOwners (names sorted : List (List ℕ)) (indexes owners : List ℕ) (position : ℕ) : Type 0 where
  pub all : length owners ≡ length names
  pub each : (q : ℕ) → q < position → IsOwner names (get_or sorted q []) (get_or owners (get_or indexes q 0) 0)
  pub rest : (q : ℕ) → position ≤ q → q < length sorted → get_or owners (get_or indexes q 0) 0 ≡ get_or indexes q 0

-- the owner of the name at a position, whichever names these are, where those before it have theirs
abbrev pub GivesOwner : List (List ℕ) → List ℕ → List ℕ → ℕ → ℕ → Type 0
GivesOwner sorted indexes owners position owner =
    (names : List (List ℕ)) → AreNumbered names sorted indexes → HaveOwners names sorted indexes owners position →
    IsOwner names (get_or sorted position []) owner

-- each index is below the count
abbrev pub AreBelow : List ℕ → ℕ → Type 0
AreBelow indexes count = (q : ℕ) → q < length indexes → get_or indexes q 0 < count

-- the least owner of the names from a start up to a position, but for the one there
pub record IsLeastOwner (names sorted : List (List ℕ)) (position start owner : ℕ) : Type 0 where
  pub first : IsFirstOfHeld names owner
  pub ends : IsSuffix (get_or sorted position []) (get_or names owner [])
  pub least : (r f : ℕ) → start ≤ r → r < position → IsFirstOfHeld names f →
      IsSuffix (get_or sorted r []) (get_or names f []) → owner ≤ f
