use Rattle.std.proofs.Common.{ℕ, ◌+◌, Option, subst, sym, arith, ◌≡◌}
use Rattle.elf_extent.specs.Extent.{IsLowest}
use Rattle.elf_image_rules.specs.ValidatedRecords.{file_extents}
use Rattle.elf_image_rules.specs.Rules.{SharedBelow}
use Rattle.elf_image_rules.proofs.Clean.{shared_more}
use Rattle.elf_image_rules.proofs.file_extents.FileExtents.lowest_shared.Goals as goal

pub loop-other-preserved : goal.loop-other-preserved
loop-other-preserved c =
    let es = file_extents c.args.self.now in
    let i = c.loop-other.other in
    subst (λ (found : Option ℕ). IsLowest (SharedBelow es (i + 1) c.args.index) found) (sym c.lower-lowest.ensures)
    (shared_more es i c.args.index _ _ _ _ c.at.ensures c.at-extent.ensures c.loop-other.invariant c.shared.ensures)

pub returns : goal.returns
returns c =
    let es = file_extents c.args.self.now in
    let end : c.loop-other.other ≡ c.args.index = omega arith in
    subst (λ (n : ℕ). IsLowest (SharedBelow es n c.args.index) c.loop-other.lowest) end c.loop-other.invariant
