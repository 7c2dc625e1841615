-- There is a place for each part, places ascend, and each part ends below 2^64: so both are there, and neither difference nor sum wraps.
use Rattle.std.proofs.Common.{arith}
use Rattle.elf_link_outputs.proofs.Placings.{end_fits, place_order, places_long, size_is}
use Rattle.elf_link_outputs.proofs.placing.length_of.Goals as goal

pub bounds-places-last : goal.bounds-places-last
bounds-places-last c =
    let long = places_long c.args.parts.now c.args.places.now c.requires.placed in
    let last = c.requires.last in
    omega arith

pub bounds-places-first : goal.bounds-places-first
bounds-places-first c =
    let long = places_long c.args.parts.now c.args.places.now c.requires.placed in
    let last = c.requires.last in
    let order = c.requires.order in
    omega arith

pub overflow_sub-result : goal.overflow_sub-result
overflow_sub-result c =
    place_order c.args.parts.now c.args.places.now c.args.first c.args.last c.requires.placed c.requires.order c.requires.last

pub overflow_add-result : goal.overflow_add-result
overflow_add-result c =
    let order = place_order c.args.parts.now c.args.places.now c.args.first c.args.last c.requires.placed c.requires.order
    c.requires.last in
    let end = end_fits c.args.parts.now c.args.places.now c.args.last c.requires.placed c.requires.last in
    let size = size_is c.args.parts.now c.args.last c.requires.last in
    omega arith

pub returns : goal.returns
returns c =
    let order = place_order c.args.parts.now c.args.places.now c.args.first c.args.last c.requires.placed c.requires.order
    c.requires.last in
    let size = size_is c.args.parts.now c.args.last c.requires.last in
    omega arith
