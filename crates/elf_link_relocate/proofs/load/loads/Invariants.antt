use Rattle.std.proofs.Common.{◌≡◌, map}
use Rattle.std.specs.List.{filter, range_with_len}
use Rattle.elf_link_relocate.specs.Loads.{has_memory, load_at}
use Rattle.elf_link_relocate.proofs.load.loads.Given as goal

-- those of the first positions
abbrev pub invariant-loop-position : goal.invariant-loop-position
invariant-loop-position l = l.all.items ≡ filter has_memory (map (load_at l.map) (range_with_len 0 l.position))
