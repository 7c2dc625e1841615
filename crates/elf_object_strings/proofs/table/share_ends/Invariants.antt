use Rattle.std.proofs.Common.{◌≡◌, ◌<◌, ℕ, List, get_or, length, map, take}
use Rattle.elf_object_strings.proofs.table.share_ends.Given as goal

-- the first names have the ends of their owners, and each owner still its own
pub record SharedTo (owners old ends : List ℕ) (i : ℕ) : Type 0 where
  pub all : length ends ≡ length owners
  pub done : take i ends ≡ map (λ o. get_or old o 0) (take i owners)
  pub own : (o : ℕ) → o < length owners → get_or owners o 0 ≡ o → get_or ends o 0 ≡ get_or old o 0

abbrev pub invariant-loop-i : goal.invariant-loop-i
invariant-loop-i l = SharedTo l.owners l.fn.ends.items l.ends.items l.i
