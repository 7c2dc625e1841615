use Rattle.std.proofs.Common.{◌∙◌}
use Rattle.std.specs.Prelude.{◌==◌}
use Rattle.elf_field.specs.Abi.{SHT_RELA}
use Rattle.elf_object_type.specs.Object.{table_relocations}
use Rattle.elf_table_symbols.specs.Sections.{content, order, section}
use Rattle.elf_table_lists.specs.Relocations.{has_addends, relocations_of}
use Rattle.elf_object_reader.specs.FileRules.{sections_of_file}
use Rattle.elf_object_reader.proofs.DenotedSymbols.{relocations_denoted}
use Rattle.elf_object_reader.proofs.reading.KeptSection.relocations.Goals as goal

pub returns : goal.returns
unfolding relocations_of
returns c =
    let s = c.args.self.now in
    let f = sections_of_file s.reader.now.file in
    c.of_table.ensures
    ∙ (λ k. table_relocations ((s.own_header k).sh_type == SHT_RELA) (c.order.ensures k) (c.content.ensures.bytes k))
    ∙ relocations_denoted (has_addends (section f s.index).sh_type) (order f) (content f s.index)
