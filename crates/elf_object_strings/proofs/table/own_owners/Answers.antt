use Rattle.std.proofs.Common.{arith, refl}
use Rattle.std.proofs.lemmas.Iterator.{items_from_collect, YieldsList-from_range}
use Rattle.elf_object_strings.proofs.table.own_owners.Goals as goal

pub returns : goal.returns
returns c = items_from_collect _ c.collect.ensures.ran (YieldsList-from_range 0 c.args.count c.args.count refl (omega arith))
