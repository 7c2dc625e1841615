use Rattle.std.proofs.Common.{arith}
use Rattle.std.proofs.Math.Facts.{to_z-of_z}
use Rattle.elf_link_field.specs.Field.{size_of}
use Rattle.elf_link_field.proofs.Patched.{put_front}
use Rattle.elf_link_field.proofs.field.patch_by.Goals as goal

-- src/patching.rt:11:1
pub returns : goal.returns
returns g c =
    let size = c.size.ensures in
    let fits = c.ranges.number in
    let value = simp (to_z-of_z, fits) at c.modulo.ensures.value in
    let written = simp (size, value) at c.write_uint.ensures in
    put_front c.args.offset (size_of c.args.width) c.args.bytes.now _ _ (omega (arith, c.requires)) written
