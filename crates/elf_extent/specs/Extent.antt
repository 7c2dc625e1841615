-- Which bytes an extent, and a list of extents, holds.
use Rattle.std.specs.Prelude.{ℕ, ◌≤◌, min, Option, None, Some, ◌≡◌, ◌<◌, ◌+◌, Bool, List, nat_lt, slice_get, length, ◌≢◌, map, filter}
use Rattle.std.specs.List.{All, AllPairs, Contains}
use Rattle.std.specs.List.Sorted.{IsNonDecreasingBy, IsPermutation}
use Rattle.elf_extent.specs.declared.extent.Counted.{Counted}
use Rattle.elf_extent.specs.declared.extent.Extent.{Extent}
use Rattle.elf_extent.specs.declared.sorted.Member.{Member}
use Rattle.elf_extent.specs.declared.sorted.MemberRow.{MemberRow}
use Rattle.elf_extent.specs.declared.sorted.SortedExtents.TheInside.{Inside}

-- The lowest offset at which a predicate holds, or that it holds at none.

-- the predicate holds nowhere
abbrev pub Never : {A : Type 0} → (A → Type 0) → Type 0
Never {A} P = (x : A) → P x → ⊥

-- the predicate holds at x, and at no offset below x
pub record IsLeast (P : ℕ → Type 0) (x : ℕ) : Type 0 where
  pub holds : P x
  pub lowest : (y : ℕ) → P y → x ≤ y

-- what was found is the lowest offset at which the predicate holds, and None if there is none
abbrev pub IsLowest : (ℕ → Type 0) → Option ℕ → Type 0
IsLowest P None = Never P
IsLowest P (Some x) = IsLeast P x

-- the lower one of two offsets, each of which may be missing
abbrev pub lower_of : Option ℕ → Option ℕ → Option ℕ
lower_of None b = b
lower_of (Some x) None = Some x
lower_of (Some x) (Some y) = Some (min x y)

-- the extent holds the byte at offset x; one of length 0 holds none
abbrev pub Has : Extent → ℕ → Type 0
Has e x = (e.start ≤ x) × (x < e.start + e.len)

-- whether the extent holds any byte
abbrev pub holds_any : Extent → Bool
holds_any e = nat_lt 0 e.len

-- the member at position i of the list holds the byte at x
abbrev pub HasAt : List Extent → ℕ → ℕ → Type 0
HasAt es i x = (e : Extent) × (slice_get es i ≡ Some e) × Has e x

-- some member holds the byte at x
abbrev pub IsHeld : List Extent → ℕ → Type 0
IsHeld es x = (i : ℕ) × HasAt es i x

-- two members at different positions hold the byte at x, be they equal or not
abbrev pub Doubly : List Extent → ℕ → Type 0
Doubly es x = (i j : ℕ) × (i < j) × HasAt es i x × HasAt es j x

-- no byte is held by two members
abbrev pub AreDisjoint : List Extent → Type 0
AreDisjoint es = (i j x : ℕ) → HasAt es i x → HasAt es j x → i ≡ j

-- each member that holds a byte ends at or below total
abbrev pub AreWithin : List Extent → ℕ → Type 0
AreWithin es total =
    (i : ℕ) (e : Extent) → slice_get es i ≡ Some e → 0 < e.len → e.start + e.len ≤ total

-- A row of extents, and how many looks at it a sweep takes.

-- the extents that a counted row shows
abbrev pub shown : Counted → List Extent
shown row = row.extents.now

-- how many looks at it there were
abbrev pub looks_at : Counted → ℕ
looks_at row = row.looks

-- the member at position k shares a byte with an earlier one
abbrev pub OverlapsEarlier : List Extent → ℕ → Type 0
OverlapsEarlier es k = (i x : ℕ) × (i < k) × HasAt es i x × HasAt es k x

-- the place, counted from 1, of what was found in a list of this length; where nothing was, the length
abbrev pub looks_to : ℕ → Option ℕ → ℕ
looks_to len None = len
looks_to len (Some k) = k + 1

-- from old to new the looks are as many as lead to the first member that shares a byte with an earlier one, or past the last
-- member if none does
abbrev pub LooksToFirstShared : List Extent → ℕ → ℕ → Type 0
LooksToFirstShared es old new =
    (first : Option ℕ) × IsLowest (OverlapsEarlier es) first × (new ≡ old + looks_to (length es) first)

-- The members of a list of extents that hold a byte, with their indices, in any order.

-- m is the extent at its index, and holds a byte
pub record IsMember (es : List Extent) (m : Member) : Type 0 where
  pub here : slice_get es m.index ≡ Some m.extent
  pub nonempty : 0 < m.extent.len

-- ms are those of the first n extents that hold a byte, each once
pub record AreMembers (es : List Extent) (n : ℕ) (ms : List Member) : Type 0 where
  pub each : All (IsMember es) ms
  pub below : All (λ m. m.index < n) ms
  pub all : (i : ℕ) (e : Extent) → i < n → slice_get es i ≡ Some e → 0 < e.len →
      Contains ms (record { index = i; extent = e })
  pub once : AllPairs (λ i j. i ≢ j) (map (λ m. m.index) ms)

-- Extents sorted once: those that hold a byte, with their indices, ascending by start.

-- the list that was sorted
abbrev pub list_of : Inside → List Extent
list_of a = a.extents.now

pub record AreSortedMembers (es : List Extent) (ms : List Member) : Type 0 where
  pub members : AreMembers es (length es) ms
  pub held : IsPermutation (filter holds_any es) (map (λ m. m.extent) ms)
  pub ascending : IsNonDecreasingBy (λ m. m.extent.start) ms

-- the extents that a row of members shows, and how many looks at it there were
abbrev pub member_extents : MemberRow → List Extent
member_extents row = map (λ m. m.extent) row.members.now

abbrev pub member_looks : MemberRow → ℕ
member_looks row = row.looks
