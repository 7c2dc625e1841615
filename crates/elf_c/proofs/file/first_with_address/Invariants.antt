use Rattle.elf_image_type.specs.ImageView.{HaveNoAddress}
use Rattle.elf_c.specs.Files.{IsFileOf, segments_listed}
use Rattle.elf_c.proofs.file.first_with_address.Given as goal

abbrev pub invariant-loop-index : goal.invariant-loop-index
invariant-loop-index l = IsFileOf l.file l.bytes → HaveNoAddress (segments_listed l.bytes) l.index l.address
