use Rattle.elf_extent.proofs.Public.{piece_for}
use Rattle.elf_extent.proofs.laws.piece_for.Goals as goal

pub returns : goal.returns
returns c = piece_for
