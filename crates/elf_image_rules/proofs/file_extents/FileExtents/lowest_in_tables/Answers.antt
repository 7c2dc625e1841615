use Rattle.std.proofs.Common.{◌∙◌, ℕ, Option, ap, arith, subst, sym}
use Rattle.elf_extent.specs.Extent.{IsLowest, lower_of}
use Rattle.elf_image_rules.specs.ValidatedRecords.{file_extents}
use Rattle.elf_image_rules.specs.Rules.{SharedBelow}
use Rattle.elf_image_rules.proofs.Clean.{shared_with_three, three_first}
use Rattle.elf_image_rules.proofs.file_extents.FileExtents.lowest_in_tables.Goals as goal

pub at-requires : goal.at-requires
at-requires c = let three = three_first c.args.self.now in omega arith

pub at-requires-2 : goal.at-requires-2
at-requires-2 c = let three = three_first c.args.self.now in omega arith

pub at-requires-3 : goal.at-requires-3
at-requires-3 c = let three = three_first c.args.self.now in omega arith

pub returns : goal.returns
returns c =
    subst (IsLowest (SharedBelow (file_extents c.args.self.now) 3 c.args.index))
    (sym (c.lower-2.ensures ∙ ap (λ (l : Option ℕ). lower_of l c.shared-program_table.result) c.lower.ensures))
    (shared_with_three (file_extents c.args.self.now) c.args.index _ _ _ _ _ _ _ c.at.ensures c.at-2.ensures c.at-3.ensures c.requires
    c.shared-header.ensures c.shared-section_table.ensures c.shared-program_table.ensures)
