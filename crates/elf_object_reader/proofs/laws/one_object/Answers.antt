use Rattle.std.proofs.Common.{List, length, map, ap, ◌∙◌}
use Rattle.std.specs.Prelude.{◌==◌, filter, position}
use Rattle.std.specs.List.{range_with_len}
use Rattle.elf_field.specs.Abi.{SHT_SYMTAB}
use Rattle.elf_field.specs.declared.shdr.Shdr.{Shdr}
use Rattle.elf_object_layout.specs.SectionsLeftOut.{is_kept, left_out, symbol_table}
use Rattle.elf_object_reader.specs.Denotes.{section_denoted, symbols_denoted}
use Rattle.elf_object_reader.proofs.ObjectKept.{one_object, some_object}
use Rattle.elf_object_reader.proofs.laws.one_object.Goals as goal

pub returns-clause-one : goal.returns-clause-one
returns-clause-one c = one_object

pub returns-clause-some : goal.returns-clause-some
returns-clause-some c = some_object

pub returns-clause-no_sections : goal.returns-clause-no_sections
returns-clause-no_sections c = λ f o none denotes.
    (denotes.sections ∙
    ap (λ (hs : List Shdr). map (section_denoted (left_out f) f) (filter (is_kept (left_out f) f) (range_with_len 0 (length hs)))) none)

pub returns-clause-no_symbols : goal.returns-clause-no_symbols
unfolding symbol_table
returns-clause-no_symbols c = λ f o none denotes.
    (denotes.symbols ∙
    ap (symbols_denoted (left_out f) f) (ap (λ (hs : List Shdr). position (λ (s : Shdr). s.sh_type == SHT_SYMTAB) hs) none))
