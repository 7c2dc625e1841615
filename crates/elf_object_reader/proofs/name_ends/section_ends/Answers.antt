use Rattle.std.proofs.Common.{ℕ, List, ap, ap₂, sym, ◌∙◌}
use Rattle.elf_field.specs.declared.shdr.Shdr.{Shdr}
use Rattle.elf_field.specs.Strings.{string}
use Rattle.elf_object_layout.specs.SectionsLeftOut.{is_kept}
use Rattle.elf_object_reader.specs.FileRules.{sections_of_file}
use Rattle.elf_object_reader.specs.NameEnds.{name_end, section_end}
use Rattle.elf_object_type.proofs.Public.{mapped_passed, taken_next}
use Rattle.elf_object_reader.proofs.NameTails.{name_in_table}
use Rattle.elf_object_reader.proofs.name_ends.section_ends.Goals.{then-is_kept+in_ok-push, else-is_kept}
use Rattle.elf_object_reader.proofs.name_ends.section_ends.Goals as goal

pub loop-i-preserved : goal.loop-i-preserved
loop-i-preserved c =
    let reader = c.args.reader.now in
    let f = sections_of_file reader.file in
    let left = reader.file.left in
    let i = c.loop-i.i in
    elim c.if-is_kept.branch [
      | then-is_kept+in_ok-push w ↦ (
          let here = rw c.is_kept.ensures.value at w.if-is_kept.true in
          let pushed = ap (λ (v : _). v.items) w.ends-is ∙ w.in_ok-push.ensures.items in
          let one = w.name_end.ensures ∙ ap₂ name_end (ap (λ (h : Shdr). h.sh_name) w.section-offset.ensures.value) (w.string.ensures
          ∙ ap₂ (λ (table : List ℕ) (h : Shdr). string table h.sh_name) reader.own_names w.section-offset.ensures.value ∙
          sym (name_in_table left f i here)) in
          pushed ∙ taken_next (section_end f) (is_kept left f) i c.loop-i.ends.items w.name_end.result c.loop-i.invariant one here)
      | else-is_kept w ↦ (
          let here = rw c.is_kept.ensures.value at w.if-is_kept.false in
          ap (λ (v : _). v.items) w.ends-is ∙ c.loop-i.invariant ∙ mapped_passed (section_end f) (is_kept left f) i here)
    ]
