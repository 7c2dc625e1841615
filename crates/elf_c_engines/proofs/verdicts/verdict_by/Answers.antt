use Rattle.std.proofs.Common.{refl}
use Rattle.elf_link_files.specs.declared.fault.Options.{Options}
use Rattle.elf_c_engines.proofs.verdicts.verdict_by.Goals as goal

pub returns-in-Ok : goal.returns-in-Ok
returns-in-Ok c =
    let opt : Options = record { base = c.args.options.now.base; page = c.args.options.now.page; entry = c.named.result } in
    (opt, (refl, refl, c.named.ensures), c.in-Ok.ensures)
