use Rattle.elf_extent.proofs.PlaceLemmas.{next_checked}
use Rattle.elf_extent.proofs.placement.next_place.Goals as goal

pub returns-else-past-eq0 : goal.returns-else-past-eq0
returns-else-past-eq0 c =
    next_checked c.args.cursor c.args.align _ _ c.max-align.ensures c.if-past-eq0.false
    c.checked_add.ensures
