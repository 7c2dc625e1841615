use Rattle.elf_link_outputs.specs.Outputs.{AreKeyed}
use Rattle.elf_link_outputs.proofs.outputs.Sections.keys.Given as goal

abbrev pub invariant-loop-position : goal.invariant-loop-position
invariant-loop-position l = AreKeyed l.self.objects l.self.sites l.firsts l.position l.keyed.items
