use Rattle.std.proofs.Common.{ℕ, List, ap, ◌∙◌, map}
use Rattle.elf_object_type.specs.ObjectView.{section_value}
use Rattle.elf_object_type.specs.Object.{section_at, SectionValue}
use Rattle.elf_object_type.specs.declared.parts.Section.{Section}
use Rattle.elf_object_edit.specs.Without.{moved_section, stays}
use Rattle.elf_object_type.proofs.Public.{mapped_next, mapped_passed}
use Rattle.elf_object_edit.proofs.references.Edit.kept_sections.Goals.{then-stays+in_ok-section+in_ok-push, else-stays}
use Rattle.elf_object_edit.proofs.references.Edit.kept_sections.Goals as goal

pub loop-i-preserved : goal.loop-i-preserved
loop-i-preserved c =
    let S = c.args.self.now.sections.marks.items in
    let Y = c.args.self.now.symbols.marks.items in
    let moved : ℕ → SectionValue = λ p. moved_section S Y (section_at c.args.self.now.object.now p) in
    let i = c.loop-i.i in
    elim c.if-stays.branch [
      | then-stays+in_ok-section+in_ok-push w ↦ (
          let here = rw c.stays.ensures at w.if-stays.true in
          let pushed = ap (λ (v : _). v.items) w.read-is ∙ w.in_ok-push.ensures.items in
          ap (λ (xs : List Section). map section_value xs) pushed ∙
          mapped_next section_value moved (stays S) i c.loop-i.read.items w.in_ok-section.section c.loop-i.invariant
          (w.in_ok-section.ensures ∙ ap (moved_section S Y) w.section_at.ensures) here)
      | else-stays w ↦ (
          let here = rw c.stays.ensures at w.if-stays.false in
          ap (λ (v : _). map section_value v.items) w.read-is ∙ c.loop-i.invariant ∙ mapped_passed moved (stays S) i here)
    ]
