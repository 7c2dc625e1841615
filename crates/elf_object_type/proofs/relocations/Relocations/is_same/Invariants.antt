use Rattle.std.proofs.Common.{◌≡◌, take}
use Rattle.elf_object_type.proofs.relocations.Relocations.is_same.Given as goal

abbrev pub invariant-loop-j : goal.invariant-loop-j
invariant-loop-j l = take l.j l.self ≡ take l.j l.others
