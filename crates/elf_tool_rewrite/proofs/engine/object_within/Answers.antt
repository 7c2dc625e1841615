use Rattle.std.proofs.Common.{◌∙◌, arith, refl}
use Rattle.elf_object_file.proofs.Public.{file_of}
use Rattle.elf_object_layout.specs.Laid.{Laid, layout_bytes}
use Rattle.elf_tool_rewrite.proofs.engine.object_within.Goals as goal

pub object_of_length-requires : goal.object_of_length-requires
object_of_length-requires g c =
    let o = c.args.object.now in
    let is = c.in-Ok.ensures.ok in
    let long = is.file_len in
    let short = is.short in
    let laid : Laid o (layout_bytes o c.in-Ok.layout.places) =
    record { places = c.in-Ok.layout.places; least = is.least; bytes = refl } in (
      layout_bytes o c.in-Ok.layout.places,
      file_of o c.prove_rules.ensures.kept c.prove_rules.ensures.fits _ laid (omega arith),
      c.length.ensures ∙ long,
    )
