use Rattle.elf_image_rules.proofs.KeepsRules.{wrong_alignment}
use Rattle.elf_image_rules.proofs.entry_rules.is_wrong_alignment.Goals as goal

pub returns-then-align-ne0 : goal.returns-then-align-ne0
returns-then-align-ne0 c =
    wrong_alignment c.args.align c.is_power_of_two.result c.is_power_of_two.ensures c.if-align-ne0.true
