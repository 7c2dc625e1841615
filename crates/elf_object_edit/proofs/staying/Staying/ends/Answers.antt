use Rattle.std.proofs.Common.{◌≡◌, ℕ, arith, get_or, inr, length, map, ap, ◌∙◌}
use Rattle.elf_object_edit.specs.Without.{stays}
use Rattle.elf_object_type.proofs.Public.{mapped_passed, passing, taken_next}
use Rattle.elf_object_edit.proofs.staying.Staying.ends.Goals.{then-stays+in_ok-push, else-stays}
use Rattle.elf_object_edit.proofs.staying.Staying.ends.Goals as goal

pub loop-i-preserved : goal.loop-i-preserved
loop-i-preserved c =
    let marks = c.args.self.now.marks.items in
    let E : ℕ → ℕ = λ k. get_or c.args.ends.now k 0 in
    let i = c.loop-i.i in
    elim c.if-stays.branch [
      | then-stays+in_ok-push w ↦ (
          let here = rw c.stays.ensures at w.if-stays.true in
          ap (λ (v : _). v.items) w.moved-is ∙ w.in_ok-push.ensures.items ∙
          taken_next E (stays marks) i c.loop-i.moved.items w.end_at.result c.loop-i.invariant w.end_at.ensures here)
      | else-stays w ↦ (
          let here = rw c.stays.ensures at w.if-stays.false in
          ap (λ (v : _). v.items) w.moved-is ∙ c.loop-i.invariant ∙ mapped_passed E (stays marks) i here)
    ]

pub returns : goal.returns
returns c =
    let marks = c.args.self.now.marks.items in
    let end : c.loop-i.i ≡ length marks = omega arith in
    inr (c.loop-i.invariant ∙ ap (λ (n : ℕ). map (λ k. get_or c.args.ends.now k 0) (passing (stays marks) n)) end)
