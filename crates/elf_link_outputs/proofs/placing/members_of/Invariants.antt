use Rattle.std.proofs.Common.{◌≡◌, map, take}
use Rattle.elf_link_outputs.specs.Placed.{member_of}
use Rattle.elf_link_outputs.proofs.placing.members_of.Given as goal

abbrev pub invariant-loop-k : goal.invariant-loop-k
invariant-loop-k l = l.members.items ≡ map member_of (take l.k l.sites)
