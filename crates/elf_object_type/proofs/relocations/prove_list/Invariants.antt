use Rattle.std.proofs.Common.{take}
use Rattle.std.specs.List.{AllByRecursion}
use Rattle.elf_object_type.specs.Object.{RelocationFits}
use Rattle.elf_object_type.proofs.relocations.prove_list.Given as goal

abbrev pub invariant-loop-relocation : goal.invariant-loop-relocation
invariant-loop-relocation l = AllByRecursion RelocationFits (take l.relocation-index l.list)
