use Rattle.elf_object_layout.proofs.Public.{one_layout, some_layout}
use Rattle.elf_object_file.proofs.laws.one_layout.Goals as goal

pub returns : goal.returns
returns c = record { some = some_layout; one = one_layout }
