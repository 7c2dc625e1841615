use Rattle.std.proofs.Common.{rules}
use Rattle.elf_c.proofs.Listed.{filled_as, symbol_listed_as}
use Rattle.elf_c.proofs.bulk.elfmap_symbols.Goals as goal

pub returns-clause-read : goal.returns-clause-read
returns-clause-read c = filled_as _ _ (λ j r entry. search rules) _ _ _ _ c.fill.ensures

pub returns-clause-listed : goal.returns-clause-listed
returns-clause-listed c i is =
    filled_as _ _
    (λ j r entry. symbol_listed_as c.args.table.now c.args.bytes.now i j r is (search rules) (search rules)) _ _ _ _ c.fill.ensures
