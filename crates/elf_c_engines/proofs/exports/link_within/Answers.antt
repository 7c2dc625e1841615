use Rattle.std.proofs.Common.{ℕ, List}
use Rattle.elf_tool_rule_file.specs.RuleFile.{AreRules}
use Rattle.elf_c_engines.specs.declared.calls.CallFault.{CallFault}
use Rattle.elf_c_engines.specs.declared.calls.CallFault.TheVariants.{BadRules, OutOfMemory}
use Rattle.elf_c_engines.specs.Calls.{IsWantOfMemory, LacksRules}
use Rattle.elf_c_engines.proofs.Kept.{said_as}
use Rattle.elf_c_engines.proofs.exports.link_within.Goals as goal

fails : (text : List ℕ) (fault : CallFault) → IsWantOfMemory fault → LacksRules text fault
fails text OutOfMemory is = tt
fails text (BadRules line) is = absurd is

pub returns : goal.returns
returns c =
    let table = c.as_slice.result.now in
    let are : AreRules c.args.rules.now table = rw c.as_slice.ensures.value c.in_ok-table.ensures in
    said_as _ _ _ _ _ c.link_by.result (λ v t says. (table, are, says)) (fails c.args.rules.now) c.link_by.ensures
