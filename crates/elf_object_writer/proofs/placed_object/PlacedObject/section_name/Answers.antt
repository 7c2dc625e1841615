-- The name table has an offset for each section, and lies in a file of at most 2^30 bytes, so the offset fits 32 bits.
use Rattle.std.proofs.Common.{◌≡◌, length, rules, subst, arith}
use Rattle.std.specs.Prelude.{vec_len}
use Rattle.elf_object_writer.specs.PlacedObject.{IsPlacedWith}
use Rattle.elf_object_layout.specs.Laid.{section_names}
use Rattle.elf_object_layout.proofs.Public.{length-places, length-section_names, place_read, section_name_below}
use Rattle.elf_object_writer.proofs.placed_object.PlacedObject.section_name.Goals as goal

pub index-requires : goal.index-requires
index-requires c =
    let placed = subst (IsPlacedWith c.self.inside.tables) c.self.view_is c.self.invariant in
    let places = c.self.inside.tables.names.offsets in
    let wide : length places.items ≡ vec_len places = search rules in
    let all = length-places (section_names c.args.self.now.object) places.items placed.tables.name_offsets in
    let many = length-section_names c.args.self.now.object in
    omega arith

pub overflow_cast-result : goal.overflow_cast-result
overflow_cast-result c =
    let o = c.args.self.now.object in
    let placed = subst (IsPlacedWith c.self.inside.tables) c.self.view_is c.self.invariant in
    let many = length-section_names o in
    let is = place_read
    (section_names o) c.self.inside.tables.names.offsets.items c.args.position c.index.result.now placed.tables.name_offsets
    (omega arith) c.index.ensures in
    let below = section_name_below o c.args.self.now.layout c.args.position placed.placed.layout c.requires in
    omega arith

pub returns : goal.returns
returns c =
    let o = c.args.self.now.object in
    let placed = subst (IsPlacedWith c.self.inside.tables) c.self.view_is c.self.invariant in
    let many = length-section_names o in
    place_read (section_names o) c.self.inside.tables.names.offsets.items c.args.position c.index.result.now placed.tables.name_offsets
    (omega arith) c.index.ensures
