use Rattle.std.proofs.Common.{◌≡◌, true, false, refl}
use Rattle.elf_link_files.proofs.Public.{first_earlier}
use Rattle.elf_link_files.specs.KnownBefore.{id_site}
use Rattle.elf_link_files.specs.Rows.{strong}
use Rattle.elf_link_names.proofs.KnownNames.{strong_known, strong_unknown}
use Rattle.elf_link_names.proofs.name_rules.has_earlier.Goals as goal

pub returns-in-Some : goal.returns-in-Some
returns-in-Some c = λ fs name whole.
    let p = c.in-Some.first in
    let first = strong_known fs name c.args.known p c.in-Some.is whole in (
      (λ yes. (p.file, p.index, c.is_earlier.ensures.0 yes, first.stands.0, first.stands.1, first.stands.2)),
      (λ (e, h, before, file, index, is). c.is_earlier.ensures.1
          (first_earlier (strong fs name) (id_site p) e h c.args.id.file c.args.id.index first (file, index, is, refl) before)),
    )

pub returns-in-None : goal.returns-in-None
returns-in-None c = λ fs name whole. (
  (λ (yes : false ≡ true). absurd (cc)),
  (λ (e, h, before, file, index, is). absurd
      (strong_unknown fs name c.args.known c.in-None.is whole (record { file = e; index = h; entry = 0 }) (file, index, is, refl))),
)
