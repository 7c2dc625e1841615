use Rattle.elf_image_rules.proofs.Public.{one_fault}
use Rattle.elf_image_type.proofs.Public.{of_its_bytes}
use Rattle.elf_table_all.specs.Tables.{AreOnlyVerdicts, AreVerdicts, table_rules}
use Rattle.elf_table_symbols.proofs.Public.{sections_of_bytes}
use Rattle.elf_table_symbols.specs.Sections.{Sections, count, sections_in}
use Rattle.std.proofs.Common.{rules, subst}
use Rattle.elf_table_all.proofs.tables.Tables.new.Goals as goal

pub returns-clause-verdicts : goal.returns-clause-verdicts
returns-clause-verdicts c = search rules

pub returns-clause-file : goal.returns-clause-file
returns-clause-file c =
    let v = c.args.image.now in
    of_its_bytes v (λ b. AreOnlyVerdicts (sections_in b) c.in_ok-verdicts.verdicts) c.prove_stands.ensures
    (λ b image. (
      subst (λ (f : Sections). AreVerdicts f (count f) c.in_ok-verdicts.verdicts) (sections_of_bytes v b image) (returns-clause-verdicts c),
      λ i. one_fault (table_rules (sections_in b) i),
    ))
