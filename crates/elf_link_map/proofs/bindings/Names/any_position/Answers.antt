use Rattle.elf_link_map.proofs.bindings.Names.any_position.Goals as goal

pub returns-in-Some : goal.returns-in-Some
returns-in-Some c = rw (← c.self.view_is, c.in-Some.ensures) (c.self.invariant c.args.name.now)
