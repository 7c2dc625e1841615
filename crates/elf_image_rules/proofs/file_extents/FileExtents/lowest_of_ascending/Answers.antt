-- Contents that ascend share no byte. If the header and the tables lie outside of the hull, they share none with a content either.
use Rattle.elf_image_rules.specs.ValidatedRecords.{file_extents}
use Rattle.elf_image_rules.proofs.Clean.{doubly_ascending, doubly_outside, three_first}
use Rattle.elf_image_rules.proofs.file_extents.FileExtents.lowest_of_ascending.Goals as goal

pub lowest_double-requires : goal.lowest_double-requires
lowest_double-requires c = three_first c.args.self.now

pub returns-then-meets_hull-clause-lowest : goal.returns-then-meets_hull-clause-lowest
returns-then-meets_hull-clause-lowest c =
    doubly_ascending (file_extents c.args.self.now) 3 _ c.in_ok-hull.ensures.ascending c.lowest_with_contents.ensures

pub returns-else-meets_hull-clause-lowest : goal.returns-else-meets_hull-clause-lowest
returns-else-meets_hull-clause-lowest c =
    let hull = c.in_ok-hull in
    doubly_outside (file_extents c.args.self.now) hull.hull.first hull.hull.last _ (three_first c.args.self.now)
    hull.ensures.ascending hull.ensures.enclosed (c.meets_hull.ensures c.if-meets_hull.false) c.lowest_double.ensures
