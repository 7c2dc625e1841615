use Rattle.std.proofs.Common.{◌≡◌, take}
use Rattle.std.specs.Prelude.{fold, max}
use Rattle.elf_link_outputs.proofs.plan.largest_alignment.Given as goal

abbrev pub invariant-loop-part : goal.invariant-loop-part
invariant-loop-part l = l.largest ≡ fold (λ a q. max a q.1) l.page (take l.part-index l.parts)
