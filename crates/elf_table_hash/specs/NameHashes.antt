-- The hashes of strings that are kept, by the places of the strings.
use Rattle.std.specs.Prelude.{◌≡◌, ◌*◌, ◌+◌, ◌<◌, ◌^◌, ℕ, List, Some, fold, get_or}
use Rattle.std.specs.BTreeMap.{get}
use Rattle.std.specs.Ordering.{nat_cmp}
use Rattle.elf_field.specs.Strings.{string}
use Rattle.elf_table_hash.specs.HashTable.{hash_of, hash_step}
use Rattle.elf_table_hash.specs.declared.hash_lanes.Lanes.{Lanes}
use Rattle.elf_table_hash.specs.declared.name_hashes.NameHashes.TheInside.{Inside}
use Rattle.elf_table_symbols.specs.Sections.{content, sections_of}

-- an offset of 32 bits in the content of a section, as one number
abbrev pub place_key : ℕ → ℕ → ℕ
place_key section offset = 2 ^ 32 * section + offset

-- each hash that is kept is that of the string at its place in the image
pub record AreHashesKept (a : Inside) : Type 0 where
  pub right : (section offset hash : ℕ) → offset < 2 ^ 32 → get nat_cmp a.kept (place_key section offset) ≡ Some hash →
      hash ≡ hash_of (string (content (sections_of a.image.now) section) offset)

-- Strings that are hashed side by side. Each of them ends where the last of them ends.

abbrev pub LANES : ℕ
LANES = 16

-- with the string at the offset `last`, the hash of each lane becomes that of the lane's string
pub record AreLanesOf (strings : List ℕ) (last : ℕ) (lanes : Lanes) : Type 0 where
  pub right : (k : ℕ) → k < LANES →
      fold hash_step (get_or lanes.hashes k 0) (string strings last) ≡ hash_of (string strings (get_or lanes.offsets k 0))

-- the hash of each lane is that of the lane's string
pub record AreLanesRun (strings : List ℕ) (lanes : Lanes) : Type 0 where
  pub right : (k : ℕ) → k < LANES → get_or lanes.hashes k 0 ≡ hash_of (string strings (get_or lanes.offsets k 0))
