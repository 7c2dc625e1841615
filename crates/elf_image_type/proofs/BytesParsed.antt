-- An image keeps rules 1 to 32, so that memory may be wanted for its contents.
use Rattle.std.proofs.Common.{ℕ, List, length}
use Rattle.elf_image_outline.specs.Image.{ImageValue, IsImage}
use Rattle.elf_image_rules.proofs.Public.{FirstIn-front}
use Rattle.elf_image_rules.specs.Rules.{KeepsRecordRules, image_rules, record_rules, rules_in}
use Rattle.elf_image_rules.specs.Tables.{header, names, sections, segments}

pub records_of_image : (v : ImageValue) (b : List ℕ) → IsImage v b → KeepsRecordRules b
unfolding rules_in image_rules
records_of_image v b image =
    let h = header b in
    FirstIn-front (record_rules (length b) h (sections b h) (segments b h) (names b h)) _ image.clean
