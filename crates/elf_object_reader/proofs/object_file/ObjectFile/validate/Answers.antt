use Rattle.elf_image_rules.proofs.Public.{FirstIn-later, FirstIn-sooner}
use Rattle.elf_object_reader.specs.FileRules.{rules_after_front}
use Rattle.elf_object_reader.proofs.FileRules.{verdict_later, verdict_found}
use Rattle.elf_object_reader.proofs.object_file.ObjectFile.validate.Goals as goal

pub returns-in_err-validate_symbols : goal.returns-in_err-validate_symbols
unfolding rules_after_front
returns-in_err-validate_symbols c = verdict_found _ _ _ _ (FirstIn-sooner _ _ _ c.in_err-validate_symbols.ensures) c.from_residual.ensures.1

pub returns-in_err-validate_bodies : goal.returns-in_err-validate_bodies
unfolding rules_after_front
returns-in_err-validate_bodies c =
    verdict_found _ _ _ _ (FirstIn-later _ _ _ c.in_ok-validate_symbols.ensures (FirstIn-sooner _ _ _ c.in_err-validate_bodies.ensures))
    c.from_residual-in_err-validate_bodies.ensures.1

pub returns : goal.returns
unfolding rules_after_front
returns c = verdict_later _ _ _ c.in_ok-validate_symbols.ensures
    (verdict_later _ _ _ c.in_ok-validate_bodies.ensures c.validate_references.ensures)
