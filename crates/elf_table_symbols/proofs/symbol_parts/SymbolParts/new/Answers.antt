use Rattle.std.proofs.Common.{refl}
use Rattle.elf_table_symbols.proofs.IndexTableLemmas.{first_index_table}
use Rattle.elf_table_symbols.proofs.symbol_parts.SymbolParts.new.Goals as goal

pub returns-clause-value : goal.returns-clause-value
returns-clause-value c =
    let first = first_index_table _ c.args.linked.table.index c.args.tables c.requires in
    rw (
      c.order.ensures,
      c.header_offset.ensures.value,
      c.content.ensures.bytes,
      c.linked_content.ensures.bytes,
      c.linked_header.ensures,
      c.index_words_in-words_start.ensures.words,
      c.index_words_in-words_start.ensures.start,
      c.section_count.ensures,
      c.header-section.ensures,
      first,
    ) refl
