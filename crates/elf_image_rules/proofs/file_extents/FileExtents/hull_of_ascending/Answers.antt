-- If a content starts lower than the end of `last`, the contents do not ascend. At the end of the loop they ascend, and each byte of a
-- content lies from the start of `first` to the end of `last`. Both follow from what the loop keeps (`HasAscended`), because the contents
-- are the extents from index 3 on.
use Rattle.std.proofs.Common.{rules, ◌<◌, length, arith}
use Rattle.std.proofs.lemmas.Option.{slice_get_within}
use Rattle.elf_image_rules.specs.ValidatedRecords.{file_extents}
use Rattle.elf_image_rules.proofs.Clean.{length-file_extents}
use Rattle.elf_image_rules.proofs.file_extents.FileExtents.hull_of_ascending.Goals as goal

pub content-extent-requires : goal.content-extent-requires
content-extent-requires c =
    let long = length-file_extents c.args.self.now in
    let count = c.section_count-section-end.ensures.count in
    omega arith

pub returns-then-begins_before_end-clause-otherwise : goal.returns-then-begins_before_end-clause-otherwise
returns-then-begins_before_end-clause-otherwise c =
    let long = length-file_extents c.args.self.now in
    let count = c.section_count-section-end.ensures.count in
    search rules

pub returns-clause-ascending : goal.returns-clause-ascending
returns-clause-ascending c =
    let long = length-file_extents c.args.self.now in
    let count = c.section_count-section-end.ensures.count in
    search rules

pub returns-clause-enclosed : goal.returns-clause-enclosed
returns-clause-enclosed c = λ i x low (a, at, has).
    let es = file_extents c.args.self.now in
    let long = length-file_extents c.args.self.now in
    let count = c.section_count-section-end.ensures.count in
    let walk = c.loop-section.invariant in
    let within : i < length es = slice_get_within es i a at in
    let least = walk.least i a low (omega arith) at (omega arith) in
    let most = walk.most i a low (omega arith) at (omega arith) in
    (omega arith, omega arith)
