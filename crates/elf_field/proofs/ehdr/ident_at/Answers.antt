use Rattle.std.proofs.Common.{sym, ◌∙◌}
use Rattle.elf_field.specs.Abi.{EI_NIDENT}
use Rattle.elf_field.specs.laws.Bytes.{first_bytes-take}
use Rattle.elf_field.proofs.ehdr.ident_at.Goals as goal

pub returns : goal.returns
returns c = c.copy_from_slice.ensures.after ∙ sym (first_bytes-take EI_NIDENT c.args.b.now c.requires)
