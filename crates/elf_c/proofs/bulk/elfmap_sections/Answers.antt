use Rattle.std.proofs.Common.{rules}
use Rattle.elf_c.proofs.Listed.{filled_as, section_listed_as}
use Rattle.elf_c.proofs.bulk.elfmap_sections.Goals as goal

pub returns-clause-read : goal.returns-clause-read
returns-clause-read c = filled_as _ _ (λ j r entry. search rules) _ _ _ _ c.fill.ensures

pub returns-clause-listed : goal.returns-clause-listed
returns-clause-listed c is =
    filled_as _ _ (λ j r entry. section_listed_as c.args.file.now c.args.bytes.now j r is (search rules)) _ _ _ _ c.fill.ensures
