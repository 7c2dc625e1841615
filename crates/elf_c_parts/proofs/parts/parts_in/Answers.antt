use Rattle.std.proofs.Common.{◌≡◌, arith, length}
use Rattle.elf_image_rules.specs.Rules.{extents_of_file}
use Rattle.elf_c_parts.proofs.Slots.{few_parts}
use Rattle.elf_c_parts.proofs.parts.parts_in.Goals as goal

pub slots_wanted-wanted-requires : goal.slots_wanted-wanted-requires
slots_wanted-wanted-requires c =
    let few = few_parts c.args.bytes.now c.in-Ok.ensures.kept in
    let count : c.len.result ≡ length (extents_of_file c.args.bytes.now) = rw (c.new.ensures, c.in-Ok.ensures.file) at c.len.ensures in
    omega arith
