use Rattle.std.proofs.Common.{◌≡◌, take}
use Rattle.elf_link_outputs.specs.Outputs.{flat}
use Rattle.elf_link_outputs.proofs.outputs.Outputs.sites.Given as goal

abbrev pub invariant-loop-members : goal.invariant-loop-members
invariant-loop-members l = l.sites.items ≡ flat (take l.members-index l.self.groups)
