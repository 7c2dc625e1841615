-- What `symbol_of` reads by the numbers of the table is the symbol of the section there; `put` passes it on, or its absence.
use Rattle.std.proofs.Common.{ℕ, List, ap, ◌∙◌}
use Rattle.std.proofs.lemmas.Bool.{OnTrue_at, OnTrue_from}
use Rattle.elf_field.specs.declared.number.Order.{Order}
use Rattle.elf_table_symbols.specs.declared.table_section.TableKind.TheVariants.{SymbolTable}
use Rattle.elf_table_symbols.specs.Sections.{order, sections_in}
use Rattle.elf_table_symbols.specs.Symbols.{entry}
use Rattle.elf_c.specs.Tables.{symbol_record, reported_symbol, slot_bytes}
use Rattle.elf_c.proofs.Listed.{put_there, put_value}
use Rattle.elf_c.proofs.ReadFiles.{put_reported}
use Rattle.elf_c.proofs.ReadEntries.{symbol_by_numbers, symbol_there}
use Rattle.elf_c.proofs.ReadTables.{table_content, table_order}
use Rattle.elf_c.proofs.entries.elfmap_symbol.Goals as goal

pub returns-clause-there : goal.returns-clause-there
returns-clause-there c i is =
    let listed = symbol_there c.args.table.now c.args.bytes.now i c.args.index is in
    let there = put_there _ _ _ _ c.symbol_of.ensures.read c.put.ensures.there in
    (λ yes. listed.0 (there.0 yes), λ below. there.1 (listed.1 below))

pub returns-clause-value : goal.returns-clause-value
returns-clause-value c i is =
    let t = c.args.table.now in
    let b = c.args.bytes.now in
    let there = put_there _ _ _ _ c.symbol_of.ensures.read c.put.ensures.there in
    put_reported (reported_symbol b) _ c.symbol_of.result c.put.result c.put.new.given c.put.ensures.there c.put.ensures.value
    (λ yes. rw (← symbol_by_numbers t b i c.args.index is (there.0 yes).1) c.symbol_of.ensures.value)

pub returns-clause-record : goal.returns-clause-record
returns-clause-record c i is =
    let t = c.args.table.now in
    let b = c.args.bytes.now in
    let own = ap (λ (o : Order). entry o (slot_bytes b t.content) c.args.index) (table_order SymbolTable t b i is)
    ∙ ap (λ (s : List ℕ). entry (order (sections_in b)) s c.args.index) (table_content SymbolTable t b i is) in
    OnTrue_from _ _
    (λ yes. ap symbol_record (OnTrue_at yes (put_value _ _ _ _ _ c.symbol_of.ensures.read c.put.ensures.there c.put.ensures.value)) ∙ own)

pub returns-clause-lies : goal.returns-clause-lies
returns-clause-lies c = put_there _ _ _ _ c.symbol_of.ensures.read c.put.ensures.there

pub returns-clause-read : goal.returns-clause-read
returns-clause-read c = put_value _ _ _ _ _ c.symbol_of.ensures.read c.put.ensures.there c.put.ensures.value
