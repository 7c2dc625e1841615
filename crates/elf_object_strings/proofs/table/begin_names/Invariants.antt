use Rattle.std.proofs.Common.{◌≡◌, ◌≤◌, ℕ, List, get_or, length, map, take}
use Rattle.elf_object_strings.specs.StringTable.{name_offset, texts}
use Rattle.elf_object_strings.proofs.table.begin_names.Given as goal

-- the first names have their offsets, and the others still those of their zeros
pub record BegunTo (names : List (List ℕ)) (zeros offsets : List ℕ) (i : ℕ) : Type 0 where
  pub all : length offsets ≡ length zeros
  pub done : take i offsets ≡ map (name_offset names) (take i names)
  pub rest : (q : ℕ) → i ≤ q → get_or offsets q 0 ≡ get_or zeros q 0

abbrev pub invariant-loop-i : goal.invariant-loop-i
invariant-loop-i l = BegunTo (texts l.names) l.fn.zeros.items l.offsets.items l.i
