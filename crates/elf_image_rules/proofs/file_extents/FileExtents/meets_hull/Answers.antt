use Rattle.std.proofs.Common.{arith}
use Rattle.elf_image_rules.proofs.Clean.{three_first}
use Rattle.elf_image_rules.proofs.file_extents.FileExtents.meets_hull.Goals as goal

pub at-requires : goal.at-requires
at-requires c = let three = three_first c.args.self.now in omega arith

pub at-requires-else-reaches_into : goal.at-requires-else-reaches_into
at-requires-else-reaches_into c = let three = three_first c.args.self.now in omega arith

pub at-requires-else-reaches_into-2 : goal.at-requires-else-reaches_into-2
at-requires-else-reaches_into-2 c = let three = three_first c.args.self.now in omega arith
