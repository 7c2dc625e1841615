use Rattle.std.proofs.Common.{◌<◌, ℕ}
use Rattle.elf_link_files.specs.Files.{IsStrong}
use Rattle.elf_tool_link.proofs.definitions.first_strong_in.Given as goal

abbrev pub invariant-loop-index : goal.invariant-loop-index
invariant-loop-index l = (k : ℕ) → k < l.index → IsStrong l.inputs l.name l.file k → ⊥
