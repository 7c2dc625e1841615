use Rattle.elf_extent.proofs.Public.{in_piece}
use Rattle.elf_extent.proofs.laws.in_piece.Goals as goal

pub returns : goal.returns
returns c = in_piece
