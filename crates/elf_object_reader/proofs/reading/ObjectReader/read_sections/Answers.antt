use Rattle.std.proofs.Common.{List, ap, ◌∙◌, map}
use Rattle.elf_object_layout.specs.SectionsLeftOut.{is_kept}
use Rattle.elf_object_reader.specs.Denotes.{section_denoted}
use Rattle.elf_object_reader.specs.FileRules.{sections_of_file}
use Rattle.elf_object_type.specs.ObjectView.{section_value}
use Rattle.elf_object_type.specs.declared.parts.Section.{Section}
use Rattle.elf_object_type.proofs.Public.{mapped_next, mapped_passed}
use Rattle.elf_object_reader.proofs.reading.ObjectReader.read_sections.Goals.{then-is_kept+in_ok-section+in_ok-push, else-is_kept}
use Rattle.elf_object_reader.proofs.reading.ObjectReader.read_sections.Goals as goal

pub loop-i-preserved : goal.loop-i-preserved
loop-i-preserved c =
    let f = sections_of_file c.args.self.now.file in
    let left = c.args.self.now.file.left in
    let i = c.loop-i.i in
    elim c.if-is_kept.branch [
      | then-is_kept+in_ok-section+in_ok-push w ↦ (
          let here = rw c.is_kept.ensures.value at w.if-is_kept.true in
          let pushed = ap (λ (v : _). v.items) w.sections-is ∙ w.in_ok-push.ensures.items in
          ap (λ (xs : List Section). map section_value xs) pushed ∙
          mapped_next section_value (section_denoted left f)
          (is_kept left f) i c.loop-i.sections.items w.in_ok-section.section c.loop-i.invariant w.in_ok-section.ensures here)
      | else-is_kept w ↦ (
          let here = rw c.is_kept.ensures.value at w.if-is_kept.false in
          ap (λ (v : _). map section_value v.items) w.sections-is ∙ c.loop-i.invariant ∙
          mapped_passed (section_denoted left f) (is_kept left f) i here)
    ]
