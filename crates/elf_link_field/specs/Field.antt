-- The field that a relocation changes: its rule, its number and its bytes. (gABI chapter 4, Relocation.)
use Rattle.std.specs.Prelude.{◌≡◌, ℕ, ◌<◌, Some, List, slice_get, ◌*◌, ◌-◌, ◌^◌, ◌%◌, ℤ, pos, negsuc, neg_ℤ, ◌+ℤ◌, ◌-ℤ◌, ◌<ℤ◌, ◌≤ℤ◌, ◌+◌}
use Rattle.std.specs.Prelude.{◌≤◌, ◌⊎◌, ◌++◌, drop, length, slice_index, take}
use Rattle.byteorder.specs.Endian.{twos_complement}
use Rattle.elf_field.specs.Bytes.{from, num, bytes_of}
use Rattle.elf_field.specs.declared.number.Order.{Order}
use Rattle.elf_link_field.specs.declared.rule.Form.TheVariants.{Abs, Pc, None as NoForm}
use Rattle.elf_link_field.specs.declared.rule.Form.{Form}
use Rattle.elf_link_field.specs.declared.rule.Range.TheVariants.{Signed, Unsigned, Wrap}
use Rattle.elf_link_field.specs.declared.rule.Range.{Range}
use Rattle.elf_link_field.specs.declared.rule.RelocRule.{RelocRule}
use Rattle.elf_link_field.specs.declared.rule.Width.TheVariants.{W1, W2, W4, W8}
use Rattle.elf_link_field.specs.declared.rule.Width.{Width}

-- Relocation rules, and the sizes of fields.

-- the bytes of a field
abbrev pub size_of : Width → ℕ
size_of W1 = 1
size_of W2 = 2
size_of W4 = 4
size_of W8 = 8

-- the relocation rule at a position of a list is of this kind
abbrev pub IsOfKind : ℕ → List RelocRule → ℕ → RelocRule → Type 0
IsOfKind kind rules k rule = (slice_get rules k ≡ Some rule) × (rule.kind ≡ kind)

-- a list has no relocation rule of a kind; the rule is the first one
abbrev pub HasNoRelocationRule : ℕ → List RelocRule → Type 0
HasNoRelocationRule kind rules = (k : ℕ) (rule : RelocRule) → IsOfKind kind rules k rule → ⊥

abbrev pub IsFirstRelocationRule : ℕ → List RelocRule → RelocRule → Type 0
IsFirstRelocationRule kind rules rule =
    (k : ℕ) × IsOfKind kind rules k rule × ((j : ℕ) (other : RelocRule) → j < k → IsOfKind kind rules j other → ⊥)

-- The number of a relocation entry, exact, and the numbers that a field admits and holds.
-- (gABI chapter 4, Relocation: r_addend; forms and ranges are this project's profile.)

-- a symbol's value and an addend; of the form Pc less the address of the field
abbrev pub relocation_number : Form → ℕ → ℤ → ℕ → ℤ
relocation_number Abs value addend address = pos value +ℤ addend
relocation_number Pc value addend address = (pos value +ℤ addend) -ℤ pos address
relocation_number NoForm value addend address = pos value +ℤ addend

-- a field of n bytes admits the number
abbrev pub Admits : Range → ℕ → ℤ → Type 0
Admits Signed n z = (neg_ℤ (pos (2 ^ (8 * n - 1))) ≤ℤ z) × (z <ℤ pos (2 ^ (8 * n - 1)))
Admits Unsigned n z = (pos 0 ≤ℤ z) × (z <ℤ pos (2 ^ (8 * n)))
Admits Wrap n z = Unit {0}

-- the number modulo 2^(8 n), which a field of n bytes holds
abbrev pub modulo : ℕ → ℤ → ℕ
modulo n (pos a) = a % 2 ^ (8 * n)
modulo n (negsuc a) = 2 ^ (8 * n) - 1 - a % 2 ^ (8 * n)

-- the addend that is in the field of n bytes at offset x: two's complement, but from 0 on where the range is Unsigned
abbrev pub addend_from : (ℕ → List ℕ → ℕ) → Range → List ℕ → ℕ → ℕ → ℤ
addend_from number Signed b x n = twos_complement n (from number b x n)
addend_from number Unsigned b x n = pos (from number b x n)
addend_from number Wrap b x n = twos_complement n (from number b x n)

abbrev pub addend_at : Order → Range → List ℕ → ℕ → ℕ → ℤ
addend_at o = addend_from (num o)

-- Bytes with a number in a field.

-- the bytes of the number in the field of n bytes at offset x, the others as in b
abbrev pub patched_by : (ℕ → ℕ → List ℕ) → List ℕ → ℕ → ℕ → ℤ → List ℕ
patched_by bytes b x n z = take x b ++ (bytes n (modulo n z) ++ drop (x + n) b)

abbrev pub patched : Order → List ℕ → ℕ → ℕ → ℤ → List ℕ
patched o = patched_by (bytes_of o)

-- the same, byte by byte: those of the field are the number's, and the others are as in b
pub record IsPatched (o : Order) (b : List ℕ) (x n : ℕ) (z : ℤ) (after : List ℕ) : Type 0 where
  pub long : length after ≡ length b
  pub inside : (k : ℕ) → k < n → slice_index after (x + k) ≡ slice_index (bytes_of o n (modulo n z)) k
  pub outside : (k : ℕ) → (k < x) ⊎ (x + n ≤ k) → slice_index after k ≡ slice_index b k
