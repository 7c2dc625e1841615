use Rattle.elf_link_outputs.specs.Outputs.{AreCounted}
use Rattle.elf_link_outputs.proofs.outputs.Sections.numbers.Given as goal

abbrev pub invariant-loop-i : goal.invariant-loop-i
invariant-loop-i l = AreCounted l.self.objects l.self.sites l.keyed.items l.i l.number l.numbers.items
