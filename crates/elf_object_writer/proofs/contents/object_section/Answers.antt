use Rattle.std.proofs.Common.{◌≡◌, sym, ap, subst, ◌∙◌}
use Rattle.elf_object_type.specs.Object.{section_at}
use Rattle.elf_object_type.specs.ObjectView.{section_value}
use Rattle.elf_object_writer.specs.PlacedObject.{HasShortNumbers}
use Rattle.elf_object_writer.proofs.HeaderTables.{section_read, short_numbers}
use Rattle.elf_object_writer.proofs.contents.object_section.Goals as goal

pub returns : goal.returns
returns c =
    let p = c.args.placed.now in
    let s = c.index-sections-position.result in
    let read : section_value s ≡ section_at p.object c.args.position =
    ap section_value c.index-sections-position.is ∙
    section_read p.object c.sections.result.now c.args.position s (c.sections.ensures ∙ ap (λ o. o.sections) c.object.ensures) c.requires in
    record {
      value = read;
      fits =
          subst (HasShortNumbers p.object) (sym read) (short_numbers p c.args.position c.prove_placed.ensures c.requires);
    }
