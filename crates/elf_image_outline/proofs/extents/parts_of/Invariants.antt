use Rattle.std.proofs.Common.{◌≡◌, map, take}
use Rattle.elf_image_outline.specs.Image.{part_piece}
use Rattle.elf_image_outline.proofs.extents.parts_of.Given as goal

abbrev pub invariant-loop-piece : goal.invariant-loop-piece
invariant-loop-piece l = map part_piece l.parts.items ≡ take l.piece-index l.pieces
