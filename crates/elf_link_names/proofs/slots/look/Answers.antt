use Rattle.std.proofs.Common.{inl, refl}
use Rattle.elf_link_names.specs.declared.slots.TheConstants.{MOST_STEPS}
use Rattle.elf_link_names.proofs.slots.look.Goals as goal

pub returns-in-Taken : goal.returns-in-Taken
returns-in-Taken c =
    let sees = rw (c.home_of-home.ensures.place, c.upper_of.ensures, c.requires.hash, c.in-Taken.is) at c.look_from.ensures in
    (λ few. sees.0, (MOST_STEPS, inl refl, sees.1))
