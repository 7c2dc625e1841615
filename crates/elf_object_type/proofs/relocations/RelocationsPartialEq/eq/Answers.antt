use Rattle.std.specs.Bool.{one_answer}
use Rattle.elf_object_type.specs.laws.Equality.{relocations_decide}
use Rattle.elf_object_type.proofs.relocations.RelocationsPartialEq.eq.Goals as goal

pub returns : goal.returns
returns c = one_answer _ _ c.is_same.ensures (relocations_decide c.args.self.now c.args.other.now)
