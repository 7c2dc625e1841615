use Rattle.std.proofs.Common.{refl}
use Rattle.elf_table_symbols.proofs.ValidatedLemmas.{verdict_get}
use Rattle.elf_table_symbols.proofs.verdicts.Verdicts.get.Goals as goal

pub returns-in-Some : goal.returns-in-Some
returns-in-Some c =
    let within = rw (← c.self.view_is) at c.requires in
    rw (← c.self.view_is, verdict_get c.self.inside.count c.self.inside.broken c.args.i within, ← c.in-Some.ensures.value) refl

pub returns-in-None : goal.returns-in-None
returns-in-None c =
    let within = rw (← c.self.view_is) at c.requires in
    rw (← c.self.view_is, verdict_get c.self.inside.count c.self.inside.broken c.args.i within, ← c.in-None.ensures.value) refl
