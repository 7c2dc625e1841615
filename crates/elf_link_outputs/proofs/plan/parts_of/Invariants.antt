use Rattle.std.proofs.Common.{◌≡◌, map, take}
use Rattle.elf_link_outputs.specs.Outputs.{part_of}
use Rattle.elf_link_outputs.proofs.plan.parts_of.Given as goal

abbrev pub invariant-loop-k : goal.invariant-loop-k
invariant-loop-k l = l.parts.items ≡ map (part_of l.objects) (take l.k l.sites)
