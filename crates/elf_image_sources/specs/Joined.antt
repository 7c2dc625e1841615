-- Lists of bytes, one after the other, as the content of a source.
use Rattle.std.specs.Prelude.{◌≡◌, ◌≤◌, ◌<◌, ◌+◌, ◌^◌, ◌++◌, ℕ, List, ⊤, drop, get_or, length, map, take}
use Rattle.std.specs.List.{concat}
use Rattle.std.specs.List.Sorted.{IsPartitionPoint}
use Rattle.std.specs.Borrow.{Bor}
use Rattle.elf_field.specs.Bytes.{IsBytes}
use Rattle.elf_image_sources.specs.declared.joined.JoinFault.{JoinFault}
use Rattle.elf_image_sources.specs.declared.joined.JoinFault.TheVariants.{OutOfMemory, TooLong}

-- the bytes of the lists, in order
abbrev pub bytes_of_lists : List (Bor (List ℕ)) → List ℕ
bytes_of_lists lists = concat (map (λ list. list.now) lists)

-- the offset after each list, where the lists are one after the other
pub record AreListEnds (lists : List (Bor (List ℕ))) (ends : List ℕ) : Type 0 where
  pub all : length ends ≡ length lists
  pub each : (i : ℕ) → i < length lists → get_or ends i 0 ≡ length (bytes_of_lists (take (i + 1) lists))
  pub bytes : IsBytes (bytes_of_lists lists)
  pub fits : length (bytes_of_lists lists) < 2 ^ 64

-- how many offsets are at most another one, where they do not fall
abbrev pub IsCountUpTo : ℕ → List ℕ → ℕ → Type 0
IsCountUpTo at ends count = IsPartitionPoint (λ (end : ℕ). end ≤ at) (λ (end : ℕ). at < end) ends count

-- why there is no source of these bytes: they are too long for an offset, or an allocation failed
abbrev pub IsJoinFault : List ℕ → JoinFault → Type 0
IsJoinFault bytes TooLong = 2 ^ 64 ≤ length bytes
IsJoinFault bytes OutOfMemory = ⊤

-- a list that is not empty, with which the bytes from an offset on begin
pub record IsFrom (bytes : List ℕ) (at : ℕ) (list : List ℕ) : Type 0 where
  pub some : 0 < length list
  pub rest : List ℕ
  pub begins : drop at bytes ≡ list ++ rest
