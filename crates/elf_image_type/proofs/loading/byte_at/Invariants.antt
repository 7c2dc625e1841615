use Rattle.std.proofs.Common.{◌≤◌, length, map, take}
use Rattle.std.specs.List.{flat_map}
use Rattle.elf_image_outline.proofs.PartsOut.{bytes_in_parts}
use Rattle.elf_image_type.proofs.loading.byte_at.Given as goal

-- the parts so far end at the offset or below it
abbrev pub invariant-loop-part : goal.invariant-loop-part
invariant-loop-part l =
    length (flat_map (bytes_in_parts l.outline (map (λ content. content.now) l.contents) l.file)
    (take l.part-index l.part-items)) ≤ l.offset
