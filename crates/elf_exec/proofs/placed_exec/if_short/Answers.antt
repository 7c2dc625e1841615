use Rattle.std.proofs.Common.{List, ℕ, length, ap, ◌∙◌}
use Rattle.elf_extent.proofs.Public.{fits_length}
use Rattle.elf_exec.proofs.placed_exec.if_short.Goals as goal

pub file_end-requires-clause-many : goal.file_end-requires-clause-many
file_end-requires-clause-many c =
    ap (λ (q : List ℕ). length q) c.deref.ensures.value ∙ fits_length c.args.parts.now c.args.from c.args.places.items c.requires.least.fits
