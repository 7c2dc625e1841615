use Rattle.std.proofs.Common.{◌+◌, ◌*◌, ap, length, sym, ◌∙◌}
use Rattle.elf_object_writer.specs.PlacedObject.{plain_section}
use Rattle.elf_object_layout.proofs.Public.{length-index_table_section, length-symbol_table_section}
use Rattle.elf_object_writer.proofs.placed_object.LaidSection.content_size.Goals as goal

pub returns-in-SymbolTable : goal.returns-in-SymbolTable
returns-in-SymbolTable c =
    ap (λ n. 24 * (n + 1)) c.symbol_count.ensures.value ∙ sym (length-symbol_table_section c.args.self.now.placed.now.object) ∙
    ap (λ s. length (plain_section c.args.self.now.placed.now.object s).content) (sym c.in-SymbolTable.is)

pub returns-in-IndexTable : goal.returns-in-IndexTable
returns-in-IndexTable c =
    ap (λ n. 4 * (n + 1)) c.symbol_count-in-IndexTable.ensures.value ∙ sym (length-index_table_section c.args.self.now.placed.now.object) ∙
    ap (λ s. length (plain_section c.args.self.now.placed.now.object s).content) (sym c.in-IndexTable.is)
