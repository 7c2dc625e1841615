use Rattle.std.proofs.Common.{◌≡◌, take}
use Rattle.std.specs.List.{flat_map}
use Rattle.elf_link_outputs.specs.Outputs.{output_parts}
use Rattle.elf_link_outputs.proofs.outputs.Outputs.parts.Given as goal

abbrev pub invariant-loop-members : goal.invariant-loop-members
invariant-loop-members l = l.parts.items ≡ flat_map (output_parts l.self.objects l.page) (take l.members-index l.self.groups)
