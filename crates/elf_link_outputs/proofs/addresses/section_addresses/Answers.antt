use Rattle.elf_link_outputs.proofs.Placings.{addresses_are, filled_none}
use Rattle.elf_link_outputs.proofs.addresses.section_addresses.Goals as goal

pub fill-requires-clause-before : goal.fill-requires-clause-before
fill-requires-clause-before c =
    filled_none c.args.objects.now c.args.sites.now c.args.places.now _ c.in_ok-rows.ensures

pub returns : goal.returns
returns c = addresses_are c.args.objects.now c.args.sites.now c.args.places.now _ c.requires.live c.fill.ensures
