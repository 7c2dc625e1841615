use Rattle.std.proofs.Common.{subst}
use Rattle.elf_link_names.specs.Resolution.{name_in}
use Rattle.elf_link_names.specs.declared.name_rules.Choice.{Choice}
use Rattle.elf_link_names.specs.Binds.{Binds}
use Rattle.elf_link_map.proofs.OneMap.{common_bound}
use Rattle.elf_link_map.proofs.bindings.binding_at.Goals as goal

pub returns-in-Common : goal.returns-in-Common
returns-in-Common c =
    let r = c.args.resolution.now in
    let name = name_in r c.args.k in
    common_bound r.objects r.commons c.args.commons.now name c.in-Common.size c.in-Common.align c.common_position.result _
    (subst (λ (choice : Choice). Binds r.objects name choice) c.in-Common.is c.choice.ensures) c.common_position.ensures c.requires.commons
