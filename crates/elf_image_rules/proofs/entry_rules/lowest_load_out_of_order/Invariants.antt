use Rattle.elf_image_rules.proofs.ImageRules.{IsInOrder}
use Rattle.elf_image_rules.proofs.entry_rules.lowest_load_out_of_order.Given as goal

abbrev pub invariant-loop-i : goal.invariant-loop-i
invariant-loop-i g l = IsInOrder (g.T.Records.segments l.records) l.floor l.i
