-- An account of the offsets below a total: each lies in just one piece.
use Rattle.std.specs.Prelude.{ℕ, ◌≡◌, ◌<◌, ◌≤◌, ◌+◌, ◌-◌, ◌⊎◌, List, [], ◌∷◌, Option, None, Some, slice_get, nat_lt, if◌then◌else◌}
use Rattle.elf_extent.specs.declared.extent.Extent.{Extent}
use Rattle.elf_extent.specs.declared.extent.Piece.{Piece}
use Rattle.elf_extent.specs.Extent.{IsHeld}

-- no extent holds a byte of the gap, and it is as long as it can be: at either side is an end of
-- the whole or a byte that an extent holds
pub record IsGap (es : List Extent) (total start len : ℕ) : Type 0 where
  pub free : (x : ℕ) → start ≤ x → x < start + len → IsHeld es x → ⊥
  pub before : (start ≡ 0) ⊎ IsHeld es (start - 1)
  pub after : (start + len ≡ total) ⊎ IsHeld es (start + len)

-- a piece with an owner is that extent, and one with none is a gap
abbrev pub IsOwned : List Extent → ℕ → ℕ → ℕ → Option ℕ → Type 0
IsOwned es total start len None = IsGap es total start len
IsOwned es total start len (Some i) = slice_get es i ≡ Some (record { start = start; len = len })

-- the pieces are one after the other from at to total, none of them empty
abbrev pub Accounts : List Extent → ℕ → ℕ → List Piece → Type 0
Accounts es total at [] = at ≡ total
Accounts es total at (p ∷ ps) =
    (p.start ≡ at) × (0 < p.len) × IsOwned es total p.start p.len p.owner ×
    Accounts es total (at + p.len) ps

-- the gap from start to end, and no piece where there is none
abbrev pub gap_between : ℕ → ℕ → List Piece
gap_between start end =
    if nat_lt start end then record { owner = None; start = start; len = end - start } ∷ [] else []

-- piece k is p and holds the offset x, and no other piece does
pub record IsOnlyPieceAt (ps : List Piece) (x k : ℕ) (p : Piece) : Type 0 where
  pub here : slice_get ps k ≡ Some p
  pub from : p.start ≤ x
  pub below : x < p.start + p.len
  pub only : (j : ℕ) (q : Piece) → slice_get ps j ≡ Some q →
      q.start ≤ x → x < q.start + q.len → j ≡ k
