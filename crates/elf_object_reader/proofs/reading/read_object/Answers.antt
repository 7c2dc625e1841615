-- A file that breaks no rule denotes an object that breaks none (`object_kept`).
use Rattle.elf_image_type.proofs.Public.{image_is_sound}
use Rattle.elf_object_type.specs.ObjectView.{value_of}
use Rattle.elf_object_reader.proofs.ObjectKept.{object_kept}
use Rattle.elf_object_reader.proofs.reading.read_object.Goals as goal

pub kept_object-requires-clause-rules : goal.kept_object-requires-clause-rules
kept_object-requires-clause-rules c =
    let v = c.args.image.now in
    let sound = image_is_sound v c.prove_stands.ensures.0 c.prove_stands.ensures.1 in
    object_kept v (value_of c.in_ok-parts.parts) sound c.in_ok-parts.ensures.0 c.in_ok-parts.ensures.1.0
