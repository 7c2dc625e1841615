use Rattle.std.proofs.Common.{refl}
use Rattle.elf_table_lists.specs.Relocations.{relocations_of}
use Rattle.elf_table_lists.proofs.relocations.section_relocs.Goals as goal

pub returns : goal.returns
unfolding relocations_of
returns c = rw (c.order.ensures, c.header.ensures, c.content.ensures.bytes) refl
