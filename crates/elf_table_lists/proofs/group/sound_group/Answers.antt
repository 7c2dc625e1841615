use Rattle.std.proofs.Common.{refl, arith}
use Rattle.elf_table_symbols.specs.Sections.{sections_of}
use Rattle.elf_table_lists.specs.Groups.{group_of}
use Rattle.elf_table_lists.proofs.EntryLists.{sound_group}
use Rattle.elf_table_lists.proofs.group.sound_group.Goals as goal

pub invariant_of-result : goal.invariant_of-result
invariant_of-result c =
    let whole = sound_group (sections_of c.args.image.now) c.args.i c.requires.sound in
    let size = rw whole.typed at c.content.ensures.size in
    omega (arith, size, whole.sized, whole.some)

pub returns : goal.returns
unfolding group_of
returns c = rw (c.order.ensures, c.header.ensures, c.content.ensures.bytes) refl
