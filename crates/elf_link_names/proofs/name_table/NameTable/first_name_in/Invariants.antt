use Rattle.std.proofs.Common.{ℕ, ◌<◌}
use Rattle.elf_link_names.specs.Binds.{BreaksName}
use Rattle.elf_link_names.proofs.name_table.NameTable.first_name_in.Given as goal

abbrev pub invariant-loop-index : goal.invariant-loop-index
invariant-loop-index l = (k : ℕ) → k < l.index → BreaksName l.self l.rule l.file k → ⊥
