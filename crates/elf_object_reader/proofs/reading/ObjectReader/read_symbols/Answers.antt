use Rattle.std.proofs.Common.{sym, ap, ◌∙◌}
use Rattle.elf_object_reader.specs.FileRules.{sections_of_file}
use Rattle.elf_object_layout.specs.declared.left_out.LeftOut.{LeftOut}
use Rattle.elf_table_symbols.proofs.Public.{sound_link}
use Rattle.elf_object_reader.proofs.KeptTypes.{sound_symbols, symbols_there, symbols_of_table}
use Rattle.elf_object_reader.proofs.reading.ObjectReader.read_symbols.Goals as goal

pub symbols-requires : goal.symbols-requires
symbols-requires c = sound_symbols c.args.self.now c.in-Some.t c.in-Some.is

pub invariant_of-symbols-clause-there : goal.invariant_of-symbols-clause-there
invariant_of-symbols-clause-there c = (symbols_there c.args.self.now.file c.in-Some.t c.in-Some.is).here

pub strings_of-requires-clause-there : goal.strings_of-requires-clause-there
strings_of-requires-clause-there c = (symbols_there c.args.self.now.file c.in-Some.t c.in-Some.is).here

pub strings_of-requires-clause-linked : goal.strings_of-requires-clause-linked
strings_of-requires-clause-linked c =
    let reader = c.args.self.now in
    let f = sections_of_file reader.file in
    sound_link f c.in-Some.t
    (symbols_of_table f c.in-Some.t reader.sound (sym (ap (λ (l : LeftOut). l.symbol_table) reader.file.own_left) ∙ c.in-Some.is))
