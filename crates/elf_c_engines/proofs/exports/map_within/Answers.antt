use Rattle.std.proofs.Common.{ℕ, List, None, Some, arith, inl, inr, refl}
use Rattle.elf_c_engines.specs.declared.calls.CallFault.{CallFault}
use Rattle.elf_c_engines.specs.declared.calls.CallFault.TheVariants.{BadRules, OutOfMemory}
use Rattle.elf_c_engines.specs.declared.exports.LinkOptions.{LinkOptions}
use Rattle.elf_c_engines.specs.Calls.{IsWantOfMemory, MapCallFails, UsesRules}
use Rattle.elf_c_engines.proofs.Kept.{said_as}
use Rattle.elf_c_engines.proofs.exports.map_within.Goals as goal

fails : (options : LinkOptions) (text : List ℕ) (fault : CallFault) → IsWantOfMemory fault → MapCallFails options text fault
fails options text OutOfMemory is = tt
fails options text (BadRules line) is = absurd is

pub returns-then-options-eq0 : goal.returns-then-options-eq0
returns-then-options-eq0 c =
    let used : UsesRules c.args.options.now c.args.rules.now None = inl (omega arith, refl) in
    said_as _ _ _ _ _ c.map_by.result (λ v t says. (None, used, says)) (fails c.args.options.now c.args.rules.now) c.map_by.ensures

pub returns : goal.returns
returns c =
    let table = c.as_slice.result.now in
    let used : UsesRules c.args.options.now c.args.rules.now (Some table) =
    inr (c.if-options-eq0.false, (table, rw c.as_slice.ensures.value c.in_ok-table.ensures, refl)) in
    said_as _ _ _ _ _ c.map_by-2.result (λ v t says. (Some table, used, says))
    (fails c.args.options.now c.args.rules.now) c.map_by-2.ensures
