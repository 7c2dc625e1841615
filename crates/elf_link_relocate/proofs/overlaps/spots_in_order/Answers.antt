use Rattle.std.proofs.Common.{refl, arith}
use Rattle.elf_link_relocate.proofs.Spots.{spots_more}
use Rattle.elf_link_relocate.proofs.overlaps.spots_in_order.Goals as goal

pub loop-position-preserved : goal.loop-position-preserved
loop-position-preserved c =
    rw c.in_ok-push.ensures.items
    (spots_more c.args.fields.now c.loop-position.position c.loop-position.spots.items _
    (record { within = omega arith; file = refl; target = refl; offset = refl }) refl c.loop-position.invariant)
