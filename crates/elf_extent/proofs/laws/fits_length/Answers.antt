use Rattle.elf_extent.proofs.Public.{fits_length}
use Rattle.elf_extent.proofs.laws.fits_length.Goals as goal

pub returns : goal.returns
returns c = fits_length
