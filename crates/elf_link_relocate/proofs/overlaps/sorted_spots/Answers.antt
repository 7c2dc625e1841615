use Rattle.std.proofs.Common.{length}
use Rattle.elf_link_relocate.proofs.Spots.{spots_moved}
use Rattle.elf_link_relocate.proofs.overlaps.sorted_spots.Goals as goal

pub returns-clause-spots : goal.returns-clause-spots
returns-clause-spots c =
    spots_moved c.args.fields.now (length c.args.fields.now) c.in_ok-spots.spots.items c.sort_unstable.new.self.items
    c.sort_unstable.ensures.permutation c.in_ok-spots.ensures
