use Rattle.std.proofs.Common.{◌≡◌, length, sym, ap, ◌∙◌}
use Rattle.std.proofs.lemmas.List.{length-take-le, take_at}
use Rattle.elf_field.specs.Abi.{EI_NIDENT}
use Rattle.elf_field.specs.laws.Bytes.{first_bytes-all}
use Rattle.elf_field.proofs.ehdr.put_ident.Goals as goal

pub returns : goal.returns
returns c =
    let long : length c.copy_from_slice.new.self ≡ EI_NIDENT =
    c.copy_from_slice.ensures.len ∙ length-take-le EI_NIDENT c.args.b.now c.requires in
    let given = c.copy_from_slice.ensures.after in
    take_at c.copy_from_slice.new.self _ EI_NIDENT long ∙ given ∙
    sym (first_bytes-all EI_NIDENT c.args.e_ident (ap length (sym given) ∙ long))
