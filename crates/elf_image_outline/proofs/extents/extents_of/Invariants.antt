use Rattle.std.proofs.Common.{◌≡◌, ◌∷◌, ◌*◌, length, map, take}
use Rattle.elf_field.specs.Abi.{EHDR_SIZE, PHDR_SIZE, SHDR_SIZE}
use Rattle.elf_image_rules.specs.Tables.{content_extent}
use Rattle.elf_image_outline.proofs.extents.extents_of.Given as goal

abbrev pub invariant-loop-entry : goal.invariant-loop-entry
invariant-loop-entry l = l.extents.items ≡
    record { start = 0; len = EHDR_SIZE } ∷
    record { start = l.header.e_shoff; len = SHDR_SIZE * length l.entries } ∷
    record { start = l.header.e_phoff; len = PHDR_SIZE * length l.segments } ∷
    map content_extent (take l.entry-index l.entries)
