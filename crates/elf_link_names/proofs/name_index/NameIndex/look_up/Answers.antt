use Rattle.elf_link_names.specs.Tables.{position_by, name_position, upper_of as upper_of_hash}
use Rattle.elf_link_names.proofs.Tables.{looked_up}
use Rattle.elf_link_names.proofs.name_index.NameIndex.look_up.Goals as goal

pub returns-clause-position : goal.returns-clause-position
unfolding name_position
returns-clause-position c =
    let p = c.self.inside in
    let found = rw c.deref.ensures.value at c.position_of-position.ensures in
    rw (← c.self.view_is)
    (looked_up p.slots.items p.entries.items (position_by p.more) c.self.invariant c.args.slot (upper_of_hash c.args.hash) c.args.name.now
    c.position_of-position.result found)
