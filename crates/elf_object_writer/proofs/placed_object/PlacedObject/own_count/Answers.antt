use Rattle.std.proofs.Common.{length, sym, ap, ◌∙◌}
use Rattle.std.proofs.lemmas.List.{length-map}
use Rattle.elf_object_type.specs.ObjectView.{section_value}
use Rattle.elf_object_writer.specs.PlacedObject.{PlacedValue}
use Rattle.elf_object_writer.proofs.placed_object.PlacedObject.own_count.Goals as goal

pub returns : goal.returns
returns c =
    sym (length-map c.sections.result.now section_value) ∙ ap length c.sections.ensures ∙
    ap (λ (p : PlacedValue). length p.object.sections) c.self.view_is
