use Rattle.std.proofs.Common.{◌≡◌, ◌<◌, ℕ, false, get_or, length}
use Rattle.std.specs.Prelude.{not}
use Rattle.elf_object_edit.specs.Retain.{IsResultAt}
use Rattle.elf_object_edit.proofs.retaining.rejected_sections.Given as goal

abbrev pub invariant-loop-p : goal.invariant-loop-p
invariant-loop-p g l = record {
  long : length l.marks.items ≡ l.p;
  each : (k : ℕ) → k < l.p → IsResultAt g.F.Fn l.keep l.object k (not (get_or l.marks.items k false));
}
