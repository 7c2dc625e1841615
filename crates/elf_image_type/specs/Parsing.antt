-- What `parse` returns for bytes that are no image, or when out of memory.
use Rattle.std.specs.Prelude.{ℕ, List, Some}
use Rattle.elf_image_rules.specs.Rules.{IsFault, KeepsRecordRules}
use Rattle.elf_image_stream.specs.declared.fault.Fault.TheVariants.{OutOfMemory, Io, Rule}
use Rattle.elf_image_stream.specs.declared.fault.Fault.{Fault}

-- a rule is the first one that the bytes break, at its lowest offset; out of memory comes only where they keep rules 1 to 32, so that they
-- break rule 33 or none
abbrev pub IsParseFault : List ℕ → Fault → Type 0
IsParseFault b (Rule rule at) = IsFault b (Some (rule, at))
IsParseFault b OutOfMemory = KeepsRecordRules b
IsParseFault b (Io at) = ⊥
