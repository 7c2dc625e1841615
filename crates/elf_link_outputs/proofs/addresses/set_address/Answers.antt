use Rattle.elf_link_outputs.proofs.Placings.{cell_set}
use Rattle.elf_link_outputs.proofs.addresses.set_address.Goals as goal

pub returns : goal.returns
returns c = cell_set c.args.rows.now.items c.index_mut.result.now c.args.site.file c.args.site.index c.args.address c.requires.file
    c.index_mut.ensures.value
