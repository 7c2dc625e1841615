use Rattle.elf_image_rules.specs.Rules.{image_rules, rules_in}
use Rattle.elf_image_rules.proofs.Public.{one_fault, some_fault}
use Rattle.elf_image_rules.proofs.laws.one_fault.Goals as goal

pub returns : goal.returns
returns c = record {
  file = λ b x y. one_fault (rules_in b) x y;
  tables = λ len h s g names x y. one_fault (image_rules len h s g names) x y;
  some = λ b. some_fault (rules_in b);
}
