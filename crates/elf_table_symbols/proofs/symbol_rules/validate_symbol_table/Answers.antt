use Rattle.std.proofs.Common.{subst}
use Rattle.elf_image_rules.proofs.Public.{FirstIn-later, FirstIn-stop}
use Rattle.elf_image_rules.specs.Rows.{fault_of, FirstIn}
use Rattle.elf_table_symbols.specs.Sections.{sections_seen}
use Rattle.elf_table_symbols.specs.Symbols.{SymbolPartsValue, rest_rules, symbol_table_rules}
use Rattle.elf_table_symbols.proofs.symbol_rules.validate_symbol_table.Goals as goal

pub returns-in_err-validate_own_rules : goal.returns-in_err-validate_own_rules
unfolding symbol_table_rules
returns-in_err-validate_own_rules c = FirstIn-stop _ _ _ _ c.in_err-validate_own_rules.ensures.fault c.from_residual.ensures.1

pub returns : goal.returns
unfolding symbol_table_rules
returns c =
    let run = subst
    (λ (p : SymbolPartsValue). FirstIn (rest_rules (sections_seen c.args.table.sections) c.args.table.index p)
    (fault_of c.validate_rest.result))
    c.new-parts.ensures.value c.validate_rest.ensures in
    FirstIn-later _ _ _ c.in_ok-validate_own_rules.ensures.fault run
