use Rattle.std.proofs.Common.{arith}
use Rattle.elf_object_writer.proofs.Going.{part_end}
use Rattle.elf_object_writer.proofs.gathering.NextPart.write.Goals as goal

pub write_padded-sent-requires : goal.write_padded-sent-requires
write_padded-sent-requires g c =
    let end = part_end c.args.self.now.placed.now c.args.self.now.position c.section-section.result c.prove_placed.ensures
    c.args.self.now.there c.section-section.ensures in
    let place = c.place.ensures in
    omega arith

pub overflow_add-padding : goal.overflow_add-padding
overflow_add-padding g c =
    let end = part_end c.args.self.now.placed.now c.args.self.now.position c.section-section.result c.prove_placed.ensures
    c.args.self.now.there c.section-section.ensures in
    let place = c.place.ensures in
    let size = c.content_size-size.ensures in
    omega arith

pub written_after-requires-clause-fits : goal.written_after-requires-clause-fits
written_after-requires-clause-fits g c =
    let end = part_end c.args.self.now.placed.now c.args.self.now.position c.section-section.result c.prove_placed.ensures
    c.args.self.now.there c.section-section.ensures in
    let place = c.place.ensures in
    let size = c.content_size-size.ensures in
    let before = c.args.self.now.ahead in
    omega arith
