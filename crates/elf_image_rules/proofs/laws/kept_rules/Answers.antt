use Rattle.elf_image_rules.proofs.Public as laws
use Rattle.elf_image_rules.proofs.laws.kept_rules.Goals as goal

pub returns : goal.returns
returns c = record {
  kept = laws.rules_kept;
  unbroken = laws.rules_unbroken;
  records_kept = laws.records_kept;
  records_unbroken = laws.records_unbroken;
}
