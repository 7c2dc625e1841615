use Rattle.std.proofs.Common.{◌≡◌, length, take}
use Rattle.std.specs.List.{flat_map}
use Rattle.elf_image_outline.specs.Outline.{CopiedOut}
use Rattle.elf_image_outline.proofs.PartsOut.{blank_bytes, known_bytes}
use Rattle.elf_image_outline.proofs.copying.copy_image.Given as goal

-- exactly the first parts are out
abbrev pub invariant-loop-part : goal.invariant-loop-part
invariant-loop-part g l = record {
  kept : g.S.Source.content l.source ≡ g.S.Source.content l.initial.source;
  failures : g.S.Source.failures l.source ≡ g.S.Source.failures l.initial.source;
  out : CopiedOut (g.S.Source.content l.initial.source) (g.W.Write.contents l.initial.writer) (g.W.Write.contents l.writer)
      (length (flat_map (blank_bytes l.outline) (take l.part-index l.part-items)))
      (λ b. flat_map (known_bytes l.outline b) (take l.part-index l.part-items));
}
