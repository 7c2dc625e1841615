use Rattle.std.proofs.Common.{map}
use Rattle.elf_link_outputs.specs.Placed.{common_value}
use Rattle.elf_link_map.specs.LinkMap.{named_value}
use Rattle.elf_link_map.specs.Naming.{AreNamedAt}
use Rattle.elf_link_map.proofs.bindings.names_of.Given as goal

abbrev pub invariant-loop-k : goal.invariant-loop-k
invariant-loop-k l = AreNamedAt l.resolution.objects (map common_value l.commons) l.resolution.firsts l.k (map named_value l.names.items)
