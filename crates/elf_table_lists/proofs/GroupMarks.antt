-- Marks of a group's members, in words that a caller lends: a member of the group in section i has the mark i + 1, and no other section has
-- it. So a member that is marked is named before.
use Rattle.std.proofs.Common.{◌≡◌, ℕ, ◌+◌, ◌<◌, ◌≤◌, List, length, get_or}
use Rattle.elf_table_lists.specs.Groups.{AreMarksUpTo, IsNamedBefore, IsWrongMember, member}
use Rattle.elf_table_symbols.specs.Sections.{Sections, content, count, order}

-- the first j members are marked, and none of them is wrong
pub record AreMarked (f : Sections) (i j : ℕ) (marks : List ℕ) : Type 0 where
  pub long : count f ≤ length marks
  pub each : (k : ℕ) → k < j → get_or marks (member (order f) (content f i) k) 0 ≡ i + 1
  pub only : (m : ℕ) → get_or marks m 0 ≡ i + 1 → IsNamedBefore (order f) (content f i) j m
  pub most : AreMarksUpTo (i + 1) marks
  pub right : (k : ℕ) → k < j → IsWrongMember f i k → ⊥
