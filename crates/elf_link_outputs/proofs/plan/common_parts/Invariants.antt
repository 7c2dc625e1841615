use Rattle.std.proofs.Common.{◌≡◌, map, take}
use Rattle.elf_link_outputs.specs.Outputs.{common_part}
use Rattle.elf_link_outputs.proofs.plan.common_parts.Given as goal

abbrev pub invariant-loop-common : goal.invariant-loop-common
invariant-loop-common l = l.parts.items ≡ map common_part (take l.common-index l.commons)
