use Rattle.elf_link_outputs.proofs.Placings.{filled_more}
use Rattle.elf_link_outputs.proofs.addresses.fill.Goals as goal

pub loop-k-preserved : goal.loop-k-preserved
loop-k-preserved c =
    rw c.set_address.ensures
    (filled_more c.args.objects.now c.args.sites.now c.args.places.now c.loop-k.k _ c.requires.live c.loop-k-test.true c.loop-k.invariant)
