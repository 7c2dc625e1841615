use Rattle.std.proofs.Common.{arith}
use Rattle.elf_image_outline.proofs.Edited.{len_short}
use Rattle.elf_image_type.proofs.ImageLemmas.{segment_at_within}
use Rattle.elf_image_type.proofs.loading.load.Goals as goal

pub byte_at-requires-clause-within : goal.byte_at-requires-clause-within
byte_at-requires-clause-within c =
    segment_at_within _ c.segments.result.now c.in-Some.j c.args.address c.segment-segment.result c.requires c.segments.ensures
    c.in-Some.ensures c.segment-segment.ensures c.if-k-segment.true

pub overflow_add-segment : goal.overflow_add-segment
overflow_add-segment c =
    let short = len_short _ c.requires in
    let within =
    segment_at_within _ c.segments.result.now c.in-Some.j c.args.address c.segment-segment.result c.requires c.segments.ensures
    c.in-Some.ensures c.segment-segment.ensures c.if-k-segment.true in
    omega arith
