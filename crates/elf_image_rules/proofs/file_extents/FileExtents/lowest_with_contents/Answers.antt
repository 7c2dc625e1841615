use Rattle.std.proofs.Common.{◌+◌, ◌≡◌, ℕ, Option, length, arith, subst, sym}
use Rattle.elf_extent.specs.Extent.{IsLowest}
use Rattle.elf_image_rules.specs.ValidatedRecords.{file_extents}
use Rattle.elf_image_rules.specs.Rules.{DoublyBelow}
use Rattle.elf_image_rules.proofs.Clean.{doubly_on, three_first}
use Rattle.elf_image_rules.proofs.file_extents.FileExtents.lowest_with_contents.Goals as goal

pub lowest_double-lowest-requires : goal.lowest_double-lowest-requires
lowest_double-lowest-requires c = three_first c.args.self.now

pub loop-index-preserved : goal.loop-index-preserved
loop-index-preserved c =
    let es = file_extents c.args.self.now in
    let j = c.loop-index.index in
    subst (λ (found : Option ℕ). IsLowest (DoublyBelow es 3 (j + 1)) found) (sym c.lower-lowest.ensures)
    (doubly_on es j _ _ (omega arith) c.loop-index.invariant c.lowest_in_tables.ensures)

pub returns : goal.returns
returns c =
    let es = file_extents c.args.self.now in
    let three = three_first c.args.self.now in
    let long = c.len-index-end.ensures in
    let end : c.loop-index.index ≡ length es = omega arith in
    subst (λ (n : ℕ). IsLowest (DoublyBelow es 3 n) c.loop-index.lowest) end c.loop-index.invariant
