use Rattle.std.proofs.Common.{ℕ, ◌<◌}
use Rattle.elf_table_lists.specs.Groups.{member}
use Rattle.elf_table_lists.proofs.group.is_ascending.Given as goal

abbrev pub invariant-loop-j : goal.invariant-loop-j
invariant-loop-j l = (a b : ℕ) → a < b → b < l.j → member l.order l.words a < member l.order l.words b
