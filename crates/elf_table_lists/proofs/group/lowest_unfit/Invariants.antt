use Rattle.std.proofs.Common.{ℕ, ◌<◌}
use Rattle.elf_table_symbols.specs.Sections.{sections_seen}
use Rattle.elf_table_lists.specs.Groups.{IsUnfit, member}
use Rattle.elf_table_lists.proofs.group.lowest_unfit.Given as goal

abbrev pub invariant-loop-j : goal.invariant-loop-j
invariant-loop-j l = (k : ℕ) → k < l.j → IsUnfit (sections_seen l.table.sections) l.table.index (member l.order l.words k) → ⊥
