use Rattle.std.proofs.Common.{◌≡◌, true, false}
use Rattle.elf_link_names.proofs.KnownNames.{strong_known, weak_known}
use Rattle.elf_link_names.proofs.name_rules.is_unbound.Goals as goal

pub returns-in-Some : goal.returns-in-Some
returns-in-Some c = λ fs name whole. (
  (λ (never : false ≡ true). absurd (cc)),
  (λ (strong, common, weak, rest). absurd (strong _ (strong_known fs name c.args.known _ c.in-Some.is whole).stands)),
)

pub returns-in-Some-weak : goal.returns-in-Some-weak
returns-in-Some-weak c = λ fs name whole. (
  (λ (never : false ≡ true). absurd (cc)),
  (λ (strong, common, weak, rest). absurd (weak _ (weak_known fs name c.args.known _ c.in-Some-weak.is whole).stands)),
)
