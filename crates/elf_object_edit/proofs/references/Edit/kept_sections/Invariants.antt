use Rattle.std.proofs.Common.{◌≡◌, map}
use Rattle.elf_object_type.proofs.Public.{passing}
use Rattle.elf_object_edit.specs.Without.{moved_section, stays}
use Rattle.elf_object_type.specs.Object.{section_at}
use Rattle.elf_object_type.specs.ObjectView.{section_value}
use Rattle.elf_object_edit.proofs.references.Edit.kept_sections.Given as goal

abbrev pub invariant-loop-i : goal.invariant-loop-i
invariant-loop-i l =
    let S = l.self.sections.marks.items in
    map section_value l.read.items ≡
    map (λ p. moved_section S l.self.symbols.marks.items (section_at l.self.object.now p)) (passing (stays S) l.i)
