use Rattle.std.proofs.Common.{inl, refl}
use Rattle.elf_table_symbols.specs.Symbols.{place_rules}
use Rattle.elf_table_symbols.proofs.symbol_rules.validate_places.Goals as goal

pub returns-in-Some : goal.returns-in-Some
unfolding place_rules
returns-in-Some c = rw c.new.ensures (inl (refl, c.in-Some.ensures))
