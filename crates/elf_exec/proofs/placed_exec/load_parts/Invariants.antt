use Rattle.std.proofs.Common.{◌≡◌, map, take}
use Rattle.elf_exec.specs.Executable.{load_part}
use Rattle.elf_exec.proofs.placed_exec.load_parts.Given as goal

abbrev pub invariant-loop-load : goal.invariant-loop-load
invariant-loop-load l = l.parts.items ≡ map (load_part l.page) (take l.load-index l.loads)
