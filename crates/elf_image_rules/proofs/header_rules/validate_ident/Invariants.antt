use Rattle.std.proofs.Common.{◌≡◌, ℕ, ◌<◌, get_or}
use Rattle.elf_field.specs.Abi.{MAGIC}
use Rattle.elf_image_rules.proofs.header_rules.validate_ident.Given as goal

-- the bytes so far are those of the magic number
abbrev pub invariant-loop-i : goal.invariant-loop-i
invariant-loop-i l = (k : ℕ) → k < l.i → get_or l.ident k 0 ≡ get_or MAGIC k 0
