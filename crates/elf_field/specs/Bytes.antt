-- Numbers in a list of bytes (gABI chapter 4, Data Encoding). The laws hold for every list of bytes: a number past the end of a list reads
-- as if zeros followed, so no law needs a condition on the place. Code never reads there.
use Rattle.std.specs.Prelude.{◌≡◌, ◌≤◌, ◌<◌, ◌+◌, ℕ, zero, suc, List, [], ◌∷◌, length, drop, slice_index}
use Rattle.byteorder.specs.Endian.{little_number, big_number, little_bytes, big_bytes}
use Rattle.elf_field.specs.declared.number.Order.TheVariants.{Little, Big}
use Rattle.elf_field.specs.declared.number.Order.{Order}

-- every element is a byte
abbrev pub IsBytes : List ℕ → Type 0
IsBytes b = (i : ℕ) → slice_index b i < 256

-- the first n bytes, with zeros past the end
unfoldable pub first_bytes : ℕ → List ℕ → List ℕ
first_bytes zero s = []
first_bytes (suc n) [] = 0 ∷ first_bytes n []
first_bytes (suc n) (a ∷ s) = a ∷ first_bytes n s

-- the number that the first w bytes represent in an order
unfoldable pub num : Order → ℕ → List ℕ → ℕ
num Little = little_number
num Big = big_number

-- the w bytes that represent a number in an order
unfoldable pub bytes_of : Order → ℕ → ℕ → List ℕ
bytes_of Little = little_bytes
bytes_of Big = big_bytes

-- the number in the field of width w at offset x of b, by a way of reading numbers
abbrev pub from : (ℕ → List ℕ → ℕ) → List ℕ → ℕ → ℕ → ℕ
from number b x w = number w (drop x b)

-- the same in an order
abbrev pub field : Order → List ℕ → ℕ → ℕ → ℕ
field o = from (num o)

-- the field of width w at offset x lies within b, and its bytes represent v
abbrev pub At : Order → List ℕ → ℕ → ℕ → ℕ → Type 0
At o b x w v = (x + w ≤ length b) × (field o b x w ≡ v)
