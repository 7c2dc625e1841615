use Rattle.elf_image_outline.specs.Image.{joined}
use Rattle.elf_image_stream.specs.Output.{Writes}
use Rattle.std.proofs.Common.{List, ℕ, subst, sym}
use Rattle.elf_image_type.specs.ImageView.{view_of}
use Rattle.elf_image_outline.proofs.Theorem.{joined_is_image, of_its_bytes, only_joined}
use Rattle.elf_image_type.proofs.files.write.Goals as goal

pub returns : goal.returns
returns g c =
    let v = view_of c.image.inside in
    let WritesAll : List ℕ → Type 0 =
    λ b. Writes (g.W.Write.contents c.args.writer.now) (g.W.Write.contents c.write_parts.new.writer) b c.write_parts.result in
    let went = rw c.deref.ensures.value at c.write_parts.ensures in
    rw (← c.image.view_is)
    (of_its_bytes v WritesAll (joined v, joined_is_image v c.image.invariant)
    (λ b image. subst WritesAll (sym (only_joined v b image)) went))
