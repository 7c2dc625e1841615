use Rattle.std.proofs.Common.{arith, sym}
use Rattle.std.proofs.lemmas.List.{length-take-le}
use Rattle.elf_link_names.proofs.slots.hash_of_long.Goals as goal

pub slice_bounds-write-end : goal.slice_bounds-write-end
slice_bounds-write-end c = let long = c.requires in sym (length-take-le 512 c.args.name.now (omega arith))
