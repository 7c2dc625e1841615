use Rattle.std.proofs.Common.{arith}
use Rattle.elf_link_outputs.proofs.Placings.{places_long}
use Rattle.elf_link_outputs.proofs.placing.placed_output.Goals as goal

pub bounds-places-start : goal.bounds-places-start
bounds-places-start c =
    let long = places_long c.args.parts.now c.args.places.now c.requires.placed in
    let some = c.requires.some in
    let parts = c.requires.parts in
    omega arith
