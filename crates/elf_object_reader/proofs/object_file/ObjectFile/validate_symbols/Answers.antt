-- The symbol table that is left out is a section of the image, so its verdict is that of the rules of symbol tables. Where these are kept,
-- rule 75 decides. Without a symbol table no rule is broken.
use Rattle.elf_image_rules.proofs.Public.{FirstIn-handed}
use Rattle.elf_object_reader.specs.FileRules.{sections_of_file}
use Rattle.elf_object_reader.proofs.KeptTypes.{symbols_ready, symbols_there, symbol_run_found}
use Rattle.elf_object_reader.proofs.FileRules.{no_symbols_kept, outside_found, symbols_fault, symbols_kept}
use Rattle.elf_object_reader.proofs.object_file.ObjectFile.validate_symbols.Goals as goal

pub returns-in_default : goal.returns-in_default
returns-in_default c =
    let file = c.args.self.now in
    no_symbols_kept file.left (sections_of_file file) file.left.symbol_table c.in_default.not-Some

pub verdict-requires : goal.verdict-requires
verdict-requires c = (symbols_there c.args.self.now c.in-Some.t c.in-Some.is).there

pub returns-in_err-verdict : goal.returns-in_err-verdict
returns-in_err-verdict c =
    let file = c.args.self.now in
    let known = symbol_run_found file c.in-Some.t _ c.in-Some.is c.in_err-verdict.ensures.fault in
    FirstIn-handed _ _ _
    (symbols_fault file.left (sections_of_file file) file.left.symbol_table c.in-Some.t _ c.in-Some.is known) c.from_residual.ensures.1

pub symbols-requires : goal.symbols-requires
symbols-requires c =
    let file = c.args.self.now in
    symbols_ready file c.in-Some.t c.in-Some.is (symbol_run_found file c.in-Some.t _ c.in-Some.is c.in_ok-verdict.ensures.fault)

pub invariant_of-symbols-clause-there : goal.invariant_of-symbols-clause-there
invariant_of-symbols-clause-there c = (symbols_there c.args.self.now c.in-Some.t c.in-Some.is).here

pub returns-in-Some-lowest_outside : goal.returns-in-Some-lowest_outside
returns-in-Some-lowest_outside c =
    let file = c.args.self.now in
    let sound = symbol_run_found file c.in-Some.t _ c.in-Some.is c.in_ok-verdict.ensures.fault in
    rw c.new.ensures
    (outside_found file.left
    (sections_of_file file) file.left.symbol_table c.in-Some.t _ c.in-Some.is sound c.in-Some-lowest_outside.ensures)

pub returns-in-None : goal.returns-in-None
returns-in-None c =
    let file = c.args.self.now in
    let sound = symbol_run_found file c.in-Some.t _ c.in-Some.is c.in_ok-verdict.ensures.fault in
    symbols_kept file.left (sections_of_file file) file.left.symbol_table c.in-Some.t c.in-Some.is sound c.in-None.ensures
