use Rattle.std.proofs.Common.{◌-◌, ◌≡◌, ◌≤◌, take, drop}
use Rattle.elf_image_outline.specs.Outline.{CopiedOut}
use Rattle.elf_image_outline.proofs.copying.copy_range.Given as goal

-- exactly the first bytes are out
abbrev pub invariant-loop-done : goal.invariant-loop-done
invariant-loop-done g l = record {
  within : l.done ≤ l.len;
  kept : g.S.Source.content l.source ≡ g.S.Source.content l.initial.source;
  failures : g.S.Source.failures l.source ≡ g.S.Source.failures l.initial.source;
  out : CopiedOut (g.S.Source.content l.initial.source) (g.W.Write.contents l.initial.writer) (g.W.Write.contents l.writer) l.done
      (λ b. take l.done (drop l.start b));
}

abbrev pub decreases-loop-done : goal.decreases-loop-done
decreases-loop-done g l = l.len - l.done
