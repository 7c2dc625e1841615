use Rattle.std.proofs.Common.{inl, refl}
use Rattle.elf_table_symbols.specs.Symbols.{linked_string_rules}
use Rattle.elf_table_symbols.proofs.strings.validate_linked_strings.Goals as goal

pub returns-in-Some : goal.returns-in-Some
unfolding linked_string_rules
returns-in-Some c = rw c.new.ensures (inl (refl, c.in-Some.ensures))
