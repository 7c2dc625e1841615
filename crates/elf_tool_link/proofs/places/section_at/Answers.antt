-- One pass of the loop looks at one more section. If it is kept, it is at the position that is reached so far, which is not the one that is
-- asked for, and the next position is one more. Otherwise the position stays, and the section is at none.
use Rattle.std.proofs.Common.{◌≡◌, ◌+◌, ◌∙◌, ap, arith, below_more, false, sym, true, ℕ}
use Rattle.elf_object_layout.specs.SectionsLeftOut.{is_kept, left_out}
use Rattle.elf_object_layout.specs.declared.left_out.LeftOut.{LeftOut}
use Rattle.elf_table_symbols.specs.Sections.{sections_of}
use Rattle.elf_tool_link.specs.Places.{IsKeptAt}
use Rattle.elf_tool_link.proofs.Positions.{counted, passed}
use Rattle.elf_tool_link.proofs.places.section_at.Goals.{then-is_kept+else-kept-position, else-is_kept}
use Rattle.elf_tool_link.proofs.places.section_at.Goals as goal

pub loop-i-preserved : goal.loop-i-preserved
loop-i-preserved c =
    let f = sections_of c.args.image.now in
    let p : ℕ → _ = is_kept (left_out f) f in
    let i = c.loop-i.i in
    let before = c.loop-i.invariant in
    let is = c.is_kept.ensures.value ∙ ap (λ (left : LeftOut). is_kept left f i) c.of-left.ensures in
    elim c.if-is_kept.branch [
      | then-is_kept+else-kept-position w ↦
          let kept : p i ≡ true = sym is ∙ w.if-is_kept.true in
          let few = before.few in
          record {
            few = omega arith;
            kept = w.kept-is ∙ ap (λ (k : ℕ). k + 1) before.kept ∙ sym (counted p i kept);
            none = below_more (λ (j : ℕ). IsKeptAt f c.args.position j → ⊥) i before.none
                (λ (there, passes, same). absurd (w.if-kept-position.false (before.kept ∙ same)));
          }
      | else-is_kept w ↦
          let other : p i ≡ false = sym is ∙ w.if-is_kept.false in
          let few = before.few in
          record {
            few = omega arith;
            kept = w.kept-is ∙ before.kept ∙ sym (passed p i other);
            none = below_more (λ (j : ℕ). IsKeptAt f c.args.position j → ⊥) i before.none
                (λ (there, passes, same). cc);
          }
    ]
