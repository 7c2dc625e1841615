-- Least places: offsets of parts that are laid one after the other, as low as they can be.
-- Whole numbers here have no upper bound.
use Rattle.std.specs.Prelude.{ℕ, zero, suc, ◌≡◌, ◌<◌, ◌≤◌, ◌+◌, ◌%◌, ◌^◌, List, [], ◌∷◌, map, length, slice_index, ⊤}
use Rattle.elf_extent.specs.declared.placement.PlaceFault.{PlaceFault}
use Rattle.elf_extent.specs.declared.placement.PlaceFault.TheVariants.{Overflow, OutOfMemory}

-- the alignment 0 counts as 1
abbrev pub alignment : ℕ → ℕ
alignment zero = 1
alignment (suc n) = suc n

-- x is a multiple of the alignment
abbrev pub IsMultiple : ℕ → ℕ → Type 0
IsMultiple align x = x % alignment align ≡ 0

-- x is the least multiple of the alignment not below the cursor
pub record IsLeastPlace (cursor align x : ℕ) : Type 0 where
  pub multiple : IsMultiple align x
  pub from : cursor ≤ x
  pub least : (y : ℕ) → IsMultiple align y → cursor ≤ y → x ≤ y

-- no multiple of the alignment from the cursor on fits a u64
abbrev pub HasNoPlace : ℕ → ℕ → Type 0
HasNoPlace cursor align = (y : ℕ) → IsMultiple align y → cursor ≤ y → 2 ^ 64 ≤ y

-- the places give each part (size, alignment) a multiple of its alignment, the first one not below
-- from, and each other one not below the end of the part before it
abbrev pub Fits : List (ℕ × ℕ) → ℕ → List ℕ → Type 0
Fits [] from [] = ⊤
Fits [] from (x ∷ xs) = ⊥
Fits (p ∷ ps) from [] = ⊥
Fits (p ∷ ps) from (x ∷ xs) = IsMultiple p.1 x × (from ≤ x) × Fits ps (x + p.0) xs

-- the places fit, and no places that fit are below them at any part
pub record Least (parts : List (ℕ × ℕ)) (from : ℕ) (places : List ℕ) : Type 0 where
  pub fits : Fits parts from places
  pub least : (others : List ℕ) → Fits parts from others →
      (k : ℕ) → slice_index places k ≤ slice_index others k

-- where part k ends
abbrev pub end_of : List (ℕ × ℕ) → List ℕ → ℕ → ℕ
end_of parts places k = slice_index places k + slice_index (map (λ p. p.0) parts) k

-- each of the first n parts ends within a u64
abbrev pub EndsFit : List (ℕ × ℕ) → List ℕ → ℕ → Type 0
EndsFit parts places n = (k : ℕ) → k < n → end_of parts places k < 2 ^ 64

-- index is the first part that does not end within a u64 at its least place
pub record IsOverflowAt (parts : List (ℕ × ℕ)) (from index : ℕ) (places : List ℕ) : Type 0 where
  pub within : index < length parts
  pub least : Least parts from places
  pub earlier : EndsFit parts places index
  pub past : 2 ^ 64 ≤ end_of parts places index

-- all parts end within a u64 at their least places
abbrev pub AllFit : List (ℕ × ℕ) → ℕ → Type 0
AllFit parts from = (places : List ℕ) × Least parts from places × EndsFit parts places (length parts)

-- each fault with when it comes; out of memory is reported only of parts that all fit
abbrev pub IsPlaceFault : List (ℕ × ℕ) → ℕ → PlaceFault → Type 0
IsPlaceFault parts from (Overflow index) = (places : List ℕ) × IsOverflowAt parts from index places
IsPlaceFault parts from OutOfMemory = AllFit parts from
