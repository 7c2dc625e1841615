use Rattle.std.proofs.Common.{map}
use Rattle.indexmap.specs.IndexMap.{keys, values}
use Rattle.elf_link_outputs.specs.Outputs.{AreGrouped}
use Rattle.elf_link_outputs.proofs.outputs.Sections.groups.Given as goal

abbrev pub invariant-loop-k : goal.invariant-loop-k
invariant-loop-k g l = AreGrouped l.self.objects l.self.sites l.numbers.items l.k (keys l.groups) (map (λ ms. ms.items) (values l.groups))
