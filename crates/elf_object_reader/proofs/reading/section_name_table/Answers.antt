use Rattle.std.proofs.Common.{sym, ◌∙◌}
use Rattle.elf_image_outline.proofs.Edited.{names_there}
use Rattle.elf_image_type.proofs.Public.{image_is_sound}
use Rattle.elf_object_reader.proofs.reading.section_name_table.Goals as goal

pub content-requires : goal.content-requires
content-requires c =
    let v = c.args.image.now in
    let sound = image_is_sound v c.prove_stands.ensures.0 c.prove_stands.ensures.1 in
    let there = names_there v sound (λ none. c.if-index-eq0.false (c.name_table-index.ensures ∙ none)) in
    rw (sym c.name_table-index.ensures) at there
