use Rattle.elf_image_type.specs.ImageView.{HaveNoAddress}
use Rattle.elf_image_type.proofs.loading.first_with_address.Given as goal

abbrev pub invariant-loop-j : goal.invariant-loop-j
invariant-loop-j l = HaveNoAddress l.segments l.j l.address
