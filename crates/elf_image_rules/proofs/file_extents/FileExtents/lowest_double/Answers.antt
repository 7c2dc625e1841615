use Rattle.std.proofs.Common.{ℕ, Option, ◌+◌, ◌≡◌, arith, subst, sym}
use Rattle.elf_extent.specs.Extent.{IsLowest}
use Rattle.elf_image_rules.specs.ValidatedRecords.{file_extents}
use Rattle.elf_image_rules.specs.Rules.{DoublyBelow}
use Rattle.elf_image_rules.proofs.Clean.{doubly_next}
use Rattle.elf_image_rules.proofs.file_extents.FileExtents.lowest_double.Goals as goal

pub loop-index-preserved : goal.loop-index-preserved
loop-index-preserved c =
    let es = file_extents c.args.self.now in
    let j = c.loop-index.index in
    let within = c.loop-index-test.true in
    subst (λ (found : Option ℕ). IsLowest (DoublyBelow es c.args.end (j + 1)) found) (sym c.lower-lowest.ensures)
    (doubly_next es c.args.end j _ _ (omega arith) c.loop-index.invariant c.lowest_shared.ensures)

pub returns : goal.returns
returns c =
    let end : c.loop-index.index ≡ c.args.end = omega arith in
    subst (λ (n : ℕ). IsLowest (DoublyBelow (file_extents c.args.self.now) c.args.end n) c.loop-index.lowest) end c.loop-index.invariant
