use Rattle.elf_object_type.proofs.Public.{object_rules_kept}
use Rattle.elf_object_edit.proofs.NothingLeftOut.{whole_object}
use Rattle.elf_object_edit.proofs.laws.nothing_left_out.Goals as goal

pub returns : goal.returns
returns c = λ o is. whole_object o (object_rules_kept o is)
