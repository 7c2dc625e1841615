use Rattle.std.proofs.Common.{ℕ, ◌<◌}
use Rattle.elf_link_files.specs.Files.{object_at}
use Rattle.elf_object_type.specs.ObjectRules.{IsObject}
use Rattle.elf_object_type.specs.Object.{ObjectFits}
use Rattle.elf_link_map.proofs.laws.prove_objects.Given as goal

abbrev pub invariant-loop-file : goal.invariant-loop-file
invariant-loop-file l = (f : ℕ) → f < l.file → IsObject (object_at l.objects f) × ObjectFits (object_at l.objects f)
