-- String tables as they are written: a zero, and after it each distinct name that is not empty and no proper suffix of another one, with
-- the zero that ends it, in the order in which the names first occur. (gABI chapter 4, String Table.)
use Rattle.std.specs.Prelude.{◌≡◌, ◌<◌, ◌≤◌, ℕ, List, [], ◌++◌, get_or, length, ◌+◌, ◌-◌, suc, Bool, true, false, not, ◌&&◌, if◌then◌else◌}
use Rattle.std.specs.Prelude.{◌∷◌, nat_eq, Contains, slice_index, drop, map, take}
use Rattle.std.specs.List.{ends_with, filter, flat_map, list_any, AllByRecursion}
use Rattle.std.specs.Str.{bytes_eq}
use Rattle.std.specs.Borrow.{Bor}
use Rattle.elf_field.specs.Bytes.{IsBytes}
use Rattle.elf_field.specs.Strings.{string}

-- For each name of a list the one whose bytes in the table it shares: its owner. (gABI chapter 4, String Table.)

-- the other name ends with this one
abbrev pub IsSuffix : List ℕ → List ℕ → Type 0
IsSuffix name other = (front : List ℕ) × (other ≡ front ++ name)

-- where a name first occurs that no other one ends with
pub record IsFirstOfHeld (names : List (List ℕ)) (i : ℕ) : Type 0 where
  pub below : i < length names
  pub kept : (j : ℕ) → j < length names → IsSuffix (get_or names i []) (get_or names j []) →
      (get_or names j [] ≡ get_or names i []) × (i ≤ j)

-- the first such name that ends with this one
pub record IsOwner (names : List (List ℕ)) (name : List ℕ) (i : ℕ) : Type 0 where
  pub first : IsFirstOfHeld names i
  pub ends : IsSuffix name (get_or names i [])
  pub least : (j : ℕ) → IsFirstOfHeld names j → IsSuffix name (get_or names j []) → i ≤ j

-- that of each name
pub record AreOwners (names : List (List ℕ)) (owners : List ℕ) : Type 0 where
  pub all : length owners ≡ length names
  pub each : (i : ℕ) → i < length names → IsOwner names (get_or names i []) (get_or owners i 0)

-- each owner is one of the names, and its own owner
abbrev pub AreTheirOwn : List ℕ → Type 0
AreTheirOwn owners =
    (i : ℕ) → i < length owners →
    (get_or owners i 0 < length owners) × (get_or owners (get_or owners i 0) 0 ≡ get_or owners i 0)

-- the name is not empty
abbrev pub is_named : List ℕ → Bool
is_named [] = false
is_named (byte ∷ bytes) = true

-- the other name ends with this one
abbrev pub is_suffix : List ℕ → List ℕ → Bool
is_suffix name other = ends_with nat_eq other name

-- the other name ends with this one, and is longer
abbrev pub is_proper_suffix : List ℕ → List ℕ → Bool
is_proper_suffix name other = is_suffix name other && not (bytes_eq name other)

-- not empty, and no proper suffix of another name
abbrev pub is_held : List (List ℕ) → List ℕ → Bool
is_held names name = is_named name && not (list_any (is_proper_suffix name) names)

-- each name once, where it first occurs
abbrev pub distinct : List (List ℕ) → List (List ℕ)
distinct [] = []
distinct (name ∷ names) = name ∷ filter (λ other. not (bytes_eq name other)) (distinct names)

-- the names that the table holds
unfoldable pub held : List (List ℕ) → List (List ℕ)
held names = filter (is_held names) (distinct names)

-- a name with the zero that ends it
abbrev pub closed : List ℕ → List ℕ
closed name = name ++ (0 ∷ [])

unfoldable pub string_table : List (List ℕ) → List ℕ
string_table names = 0 ∷ flat_map closed (held names)

-- where the first of the closed names that ends with a name has its zero, where the first of them begins at an offset
abbrev pub end_from : ℕ → List (List ℕ) → List ℕ → ℕ
end_from offset [] name = offset
end_from offset (first ∷ rest) name =
    if is_suffix name first then offset + length first else end_from (offset + suc (length first)) rest name

-- where a name begins in the table: at the end of the first held name that ends with it, the empty one at the first zero
unfoldable pub name_offset : List (List ℕ) → List ℕ → ℕ
name_offset names name = if is_named name then end_from 1 (held names) name - length name else 0

-- for each name that is not empty, the offset of the zero after it in the table
pub record HaveZeros (names : List (List ℕ)) (zeros : List ℕ) : Type 0 where
  pub all : length zeros ≡ length names
  pub each : (i : ℕ) → i < length names → is_named (get_or names i []) ≡ true →
      get_or zeros i 0 ≡ name_offset names (get_or names i []) + length (get_or names i [])

-- What is known of a string table that holds names, however it holds them. (gABI chapter 4, String Table.)

-- a zero would end the name
abbrev pub HasNoZero : List ℕ → Type 0
HasNoZero name = ¬ Contains name 0

-- the table begins and ends with a zero, and each name is read at its offset
pub record HoldsNames (names : List (List ℕ)) (table : List ℕ) (place : List ℕ → ℕ) : Type 0 where
  pub nonempty : 0 < length table
  pub first : slice_index table 0 ≡ 0
  pub last : slice_index table (length table - 1) ≡ 0
  -- the empty name is at offset 0
  pub empty_name : place [] ≡ 0
  pub within : (i : ℕ) → i < length names → place (get_or names i []) < length table
  pub read : (i : ℕ) → i < length names → HasNoZero (get_or names i []) → string table (place (get_or names i [])) ≡ get_or names i []
  pub bytes : AllByRecursion IsBytes names → IsBytes table

-- What a string table that shares tails promises, whatever its names. (gABI chapter 4, String Table.)

-- the bytes of the names of a slice
abbrev pub texts : List (Bor (List ℕ)) → List (List ℕ)
texts names = map (λ name. name.now) names

-- no name has a zero byte
abbrev pub AreZeroFree : List (List ℕ) → Type 0
AreZeroFree names = AllByRecursion (AllByRecursion (λ byte. 0 < byte)) names

-- the name is at the offset, with a zero after it
abbrev pub StandsClosedAt : List ℕ → List ℕ → ℕ → Type 0
StandsClosedAt table name offset = (later : List ℕ) × (drop offset table ≡ name ++ (0 ∷ later))

-- the table begins with a zero byte, and every name is somewhere in it with a zero after it
pub record HoldsEach (table : List ℕ) (names : List (List ℕ)) : Type 0 where
  pub rest : List ℕ
  pub begins : table ≡ 0 ∷ rest
  pub each : AllByRecursion (λ name. (offset : ℕ) × StandsClosedAt table name offset) names

-- the lowest offset at which the name is with a zero after it
pub record IsLowestAt (table : List ℕ) (name : List ℕ) (offset : ℕ) : Type 0 where
  pub here : StandsClosedAt table name offset
  pub lowest : (other : ℕ) → StandsClosedAt table name other → offset ≤ other

-- the table of the names, and the lowest offset of each, in their order
pub record Shares (names : List (List ℕ)) (table : List ℕ) (offsets : List ℕ) : Type 0 where
  pub bytes : table ≡ string_table names
  pub as_many : length offsets ≡ length names
  pub each : (i : ℕ) → i < length names → IsLowestAt table (get_or names i []) (get_or offsets i 0)

-- no table that holds these names is shorter
abbrev pub IsShortest : List (List ℕ) → List ℕ → Type 0
IsShortest names table = (other : List ℕ) → HoldsEach other names → length table ≤ length other

-- the string table of some names as a whole: each name at its lowest offset, and no table that holds them is shorter
pub record SharesTails (names : List (List ℕ)) : Type 0 where
  pub shares : Shares names (string_table names) (map (name_offset names) names)
  pub holds : HoldsEach (string_table names) names
  pub shortest : IsShortest names (string_table names)

-- Where names end in a string table that they were read from. (gABI chapter 4, String Table.)

-- names of up to so many bytes are short: it takes no longer to compare them than to look up their ends
abbrev pub SHORT_NAME : ℕ
SHORT_NAME = 64

-- the name at one index is longer than that at another, or ends it
abbrev pub IsTailOf : List (List ℕ) → ℕ → ℕ → Type 0
IsTailOf names i j = length (get_or names i []) ≤ length (get_or names j []) → IsSuffix (get_or names i []) (get_or names j [])

-- of two names with one end, unless that is 0, the longer one ends with the other
abbrev pub AreTails : List (List ℕ) → List ℕ → Type 0
AreTails names ends = (i j : ℕ) → 0 < get_or ends i 0 → get_or ends i 0 ≡ get_or ends j 0 → IsTailOf names i j

-- the name is a string of the table, and the end is the offset after it, plus 1
abbrev pub IsEndOf : List ℕ → List ℕ → ℕ → Type 0
IsEndOf table name end = (offset : ℕ) × (name ≡ string table offset) × (end ≡ offset + length name + 1)

-- each end that is not 0 is that of its name
abbrev pub AreEndsIn : List ℕ → List (List ℕ) → List ℕ → Type 0
AreEndsIn table names ends = (i : ℕ) → 0 < get_or ends i 0 → IsEndOf table (get_or names i []) (get_or ends i 0)

-- each index is that of the first name that is equal
pub record AreEqualTo (names : List (List ℕ)) (firsts : List ℕ) : Type 0 where
  pub all : length firsts ≡ length names
  pub each : (i : ℕ) → i < length names →
      (get_or firsts i 0 < length names) × (get_or names (get_or firsts i 0) [] ≡ get_or names i [])
  pub least : (i j : ℕ) → i < length names → j < length names → get_or names i [] ≡ get_or names j [] → get_or firsts i 0 ≤ j

-- A string table that is being written, name by name.

-- the held names among the first ones
abbrev pub held_to : List (List ℕ) → ℕ → List (List ℕ)
held_to names i = filter (is_held names) (distinct (take i names))

-- whether a name is held and first occurs here
abbrev pub is_written : List (List ℕ) → ℕ → Bool
is_written names i =
    let name = get_or names i [] in
    is_held names name && not (list_any (bytes_eq name) (take i names))

-- a table with a name and its zero after it, if the name is its own owner and not empty; else as it is
abbrev pub with_name : List ℕ → List ℕ → Bool → List ℕ
with_name bytes name is_owner = if is_owner && is_named name then bytes ++ closed name else bytes

-- where each of the first names that is written has its zero
pub record HasEnds (names : List (List ℕ)) (i : ℕ) (ends : List ℕ) : Type 0 where
  pub as_many : length ends ≡ i
  pub each : (q : ℕ) → q < i → is_written names q ≡ true →
      get_or ends q 0 ≡ 1 + length (flat_map closed (held_to names q)) + length (get_or names q [])
