use Rattle.elf_c_parts.proofs.Slots.{ascending_parts}
use Rattle.elf_c_parts.proofs.parts.lowest_double.Goals as goal

pub sweep-requires-clause-ascending : goal.sweep-requires-clause-ascending
sweep-requires-clause-ascending c = ascending_parts c.args.members.now c.requires.ascending
