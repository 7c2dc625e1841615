use Rattle.elf_image_rules.proofs.Public.{one_fault, some_fault}
use Rattle.elf_table_symbols.specs.Symbols.{string_table_rules, symbol_table_rules}
use Rattle.elf_table_all.specs.Tables.{table_rules}
use Rattle.elf_table_all.proofs.laws.one_table_fault.Goals as goal

pub returns-clause-strings : goal.returns-clause-strings
returns-clause-strings c = λ f i x y. one_fault (string_table_rules f i) x y

pub returns-clause-symbols : goal.returns-clause-symbols
returns-clause-symbols c = λ f i x y. one_fault (symbol_table_rules f i) x y

pub returns-clause-table : goal.returns-clause-table
returns-clause-table c = λ f i x y. one_fault (table_rules f i) x y

pub returns-clause-some_strings : goal.returns-clause-some_strings
returns-clause-some_strings c = λ f i. some_fault (string_table_rules f i)

pub returns-clause-some_table : goal.returns-clause-some_table
returns-clause-some_table c = λ f i. some_fault (table_rules f i)
