-- The hash table that the numbers lead to is the one of the section, and a sound one: what `find_in` says of its words holds of it.
use Rattle.std.proofs.Common.{◌↔◌, ℕ, subst}
use Rattle.std.specs.Prelude.{IsSome}
use Rattle.elf_table_symbols.specs.declared.table_section.TableKind.TheVariants.{HashTable}
use Rattle.elf_table_hash.specs.HashTable.{Valid, HasSymbolNamed, HashValue, IsProbed}
use Rattle.elf_c.proofs.ReadEntries.{table_hash, table_valid}
use Rattle.elf_c.proofs.ReadTables.{table_kind}
use Rattle.elf_c.proofs.entries.found_in.Goals as goal

pub returns-then-not-is_of_kind-clause-there : goal.returns-then-not-is_of_kind-clause-there
returns-then-not-is_of_kind-clause-there c i is =
    let typed = c.is_of_kind.ensures.1 (table_kind HashTable c.args.table.now c.args.bytes.now i is) in
    let other = c.if-not-is_of_kind.true in
    absurd cc

pub returns-then-not-is_of_kind-clause-value : goal.returns-then-not-is_of_kind-clause-value
returns-then-not-is_of_kind-clause-value c i is =
    let typed = c.is_of_kind.ensures.1 (table_kind HashTable c.args.table.now c.args.bytes.now i is) in
    let other = c.if-not-is_of_kind.true in
    absurd cc

pub returns-clause-there : goal.returns-clause-there
returns-clause-there c i is =
    let made = rw (c.order_of.ensures, c.bytes_of.ensures.content, c.bytes_of-2.ensures.content, c.bytes_of-3.ensures.content) at
    c.find_in.ensures.some in
    let P : HashValue → Type 0 = λ hash. Valid hash.words hash.names → (IsSome c.find_in.result ↔ HasSymbolNamed hash c.args.name.now) in
    subst P (table_hash c.args.table.now c.args.bytes.now i is) made (table_valid c.args.table.now c.args.bytes.now i is)

pub returns-clause-value : goal.returns-clause-value
returns-clause-value c i is =
    let made = rw (c.order_of.ensures, c.bytes_of.ensures.content, c.bytes_of-2.ensures.content, c.bytes_of-3.ensures.content) at
    c.find_in.ensures.found in
    let P : HashValue → Type 0 = λ hash. Valid hash.words hash.names → (steps : ℕ) × IsProbed hash c.args.name.now c.find_in.result steps in
    subst P (table_hash c.args.table.now c.args.bytes.now i is) made (table_valid c.args.table.now c.args.bytes.now i is)
