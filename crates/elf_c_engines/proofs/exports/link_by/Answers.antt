use Rattle.std.proofs.Common.{Some, refl}
use Rattle.elf_link_files.specs.declared.fault.Options.{Options}
use Rattle.elf_c_engines.proofs.Kept.{said_as}
use Rattle.elf_c_engines.proofs.exports.link_by.Goals as goal

pub returns : goal.returns
returns c =
    let opt : Options = record { base = c.args.options.now.base; page = c.args.options.now.page; entry = Some c.args.entry } in
    said_as _ _ _ _ _ c.link_of.result (λ v t says. (opt, (refl, refl, refl), says)) (λ fault is. is) c.link_of.ensures
