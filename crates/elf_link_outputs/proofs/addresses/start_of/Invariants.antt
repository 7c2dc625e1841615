use Rattle.elf_link_outputs.specs.Addresses.{IsCursor}
use Rattle.elf_link_outputs.proofs.addresses.start_of.Given as goal

abbrev pub invariant-loop-i : goal.invariant-loop-i
invariant-loop-i l = IsCursor l.parts l.from l.i l.cursor
