use Rattle.std.proofs.Common.{refl}
use Rattle.elf_table_symbols.specs.Sections.{sections_in}
use Rattle.elf_table_symbols.proofs.sections_of.order_of_file.Goals as goal

pub returns : goal.returns
unfolding sections_in
returns c = rw (c.order_in.ensures, c.header.ensures) refl
