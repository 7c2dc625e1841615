use Rattle.std.proofs.Common.{ℕ, refl, ap, subst}
use Rattle.elf_object_type.specs.Object.{SymbolValue}
use Rattle.elf_link_files.specs.Files.{symbol_in}
use Rattle.elf_link_files.specs.KnownBefore.{IsCommonBest, IsLargerOf}
use Rattle.elf_link_files.proofs.KnownBefore.{block_more, block_one}
use Rattle.elf_link_files.proofs.known.joined.Goals as goal

pub returns-in-Some : goal.returns-in-Some
returns-in-Some c =
    let s = c.args.symbol.now in
    let fs = s.inputs.now in
    let b = c.in-Some.block in
    let name = (symbol_in fs s.id.file s.id.index).name in
    block_more fs name s.id.file s.id.index b _ s.there.0 s.there.1 c.requires.common refl
    (subst (λ (n : ℕ). IsLargerOf b.size n c.larger.result) (ap (λ (s : SymbolValue). s.size) c.symbol-own.ensures) c.larger.ensures)
    (subst (λ (n : ℕ). IsLargerOf b.align n c.larger-in-Some.result)
    (ap (λ (s : SymbolValue). s.value) c.symbol-own.ensures) c.larger-in-Some.ensures)
    (subst (IsCommonBest fs name s.id.file s.id.index) c.in-Some.is c.requires.before)

pub returns-in-None : goal.returns-in-None
returns-in-None c =
    let s = c.args.symbol.now in
    let fs = s.inputs.now in
    let name = (symbol_in fs s.id.file s.id.index).name in
    block_one fs name s.id.file s.id.index _ s.there.0 s.there.1 c.requires.common refl
    (ap (λ (s : SymbolValue). s.size) c.symbol-own.ensures) (ap (λ (s : SymbolValue). s.value) c.symbol-own.ensures)
    (subst (IsCommonBest fs name s.id.file s.id.index) c.in-None.is c.requires.before)
