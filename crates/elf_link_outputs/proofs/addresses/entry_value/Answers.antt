use Rattle.std.proofs.Common.{sym, subst}
use Rattle.elf_link_outputs.specs.declared.addresses.Target.{Target}
use Rattle.elf_link_outputs.specs.Addresses.{HasNoValue, HasValue, IsTarget}
use Rattle.elf_link_outputs.proofs.Placings.{no_value_lost, value_fixed}
use Rattle.elf_link_outputs.proofs.addresses.entry_value.Goals as goal

pub returns-in-Lost : goal.returns-in-Lost
returns-in-Lost c =
    subst (λ (t : Target). HasNoValue c.args.parts.now c.args.base t) (sym c.in-Lost.is) (no_value_lost c.args.parts.now c.args.base)

pub returns-in-Fixed : goal.returns-in-Fixed
returns-in-Fixed c =
    subst (λ (t : Target). HasValue c.args.parts.now c.args.base t c.in-Fixed.value) (sym c.in-Fixed.is)
    (value_fixed c.args.parts.now c.args.base c.in-Fixed.value
    (subst (λ (t : Target). IsTarget c.args.parts.now t) c.in-Fixed.is c.requires))
