use Rattle.std.proofs.Common.{map, take}
use Rattle.std.specs.List.{flat_map}
use Rattle.std.specs.Io.KnownBytes.{Appends}
use Rattle.elf_image_outline.specs.Image.{part_bytes}
use Rattle.elf_image_outline.specs.Outline.{image_of, placed_part}
use Rattle.elf_image_type.proofs.files.write_parts.Given as goal

-- exactly the first parts are out
abbrev pub invariant-loop-part : goal.invariant-loop-part
invariant-loop-part g l =
    let v = image_of l.outline (map (λ content. content.now) l.contents) l.file in
    Appends (g.W.Write.contents l.initial.writer) (g.W.Write.contents l.writer)
    (flat_map (λ p. part_bytes v (placed_part l.outline.zeroed l.file p)) (take l.part-index l.part-items))
