use Rattle.std.proofs.Common.{ap, ◌∙◌}
use Rattle.elf_table_symbols.specs.Symbols.{SymbolPartsValue, symbols_in, symbols_of}
use Rattle.elf_table_symbols.proofs.IndexTableLemmas.{first_index_table}
use Rattle.elf_table_symbols.proofs.SymbolLists.{readable, sound_link}
use Rattle.elf_table_symbols.proofs.symbols.sound_symbols.Goals as goal

pub invariant_of-new : goal.invariant_of-new
invariant_of-new c = record { linked = sound_link _ c.args.i c.requires.sound }

pub returns : goal.returns
unfolding symbols_of
returns c = ap (λ (p : SymbolPartsValue). symbols_in p.order p.table p.names p.words) c.new-parts.ensures.value

pub invariant_of-result : goal.invariant_of-result
invariant_of-result c =
    let first = first_index_table _ c.args.i c.args.tables c.requires.tables in
    readable _ c.args.i _ c.requires.sound c.new-parts.ensures.value (λ k is. c.new-parts.ensures.sized k (first ∙ is))
