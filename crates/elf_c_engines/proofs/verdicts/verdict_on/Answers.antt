-- The verdict by the rules of a text is one by the table that the text gives, and the verdict without rules is one where none are asked
-- for.
use Rattle.std.proofs.Common.{ℕ, List, None, Option, Some, Result, Ok, Err, MatchResult, arith, inl, inr, refl}
use Rattle.elf_link_field.specs.declared.rule.RelocRule.{RelocRule}
use Rattle.elf_link_files.specs.declared.fault.Options.{Options}
use Rattle.elf_tool_link.specs.Verdicts.{IsLinkVerdict}
use Rattle.elf_tool_check.specs.declared.calls.Verdict.{Verdict}
use Rattle.elf_c_engines.specs.declared.calls.CallFault.{CallFault}
use Rattle.elf_c_engines.specs.declared.calls.CallFault.TheVariants.{BadRules, OutOfMemory}
use Rattle.elf_c_engines.specs.declared.exports.LinkOptions.{LinkOptions}
use Rattle.elf_c_engines.specs.Calls.{AreVerdictOptions, IsWantOfMemory, LinkVerdictSays, MapCallFails, UsesRules}
use Rattle.elf_c_engines.proofs.verdicts.verdict_on.Goals as goal

by_rules : (files : List (List ℕ)) (options : LinkOptions) (entry text : List ℕ) (rules : Option (List RelocRule))
    (result : Result Verdict CallFault) → UsesRules options text rules
    → MatchResult result (λ verdict. (opt : Options) × AreVerdictOptions options entry opt × IsLinkVerdict opt rules files verdict)
    IsWantOfMemory
    → MatchResult result (LinkVerdictSays files options entry text) (MapCallFails options text)
by_rules files options entry text rules (Ok verdict) used says = (rules, used, says)
by_rules files options entry text rules (Err OutOfMemory) used none = tt
by_rules files options entry text rules (Err (BadRules line)) used none = absurd none

pub returns-then-options-eq0 : goal.returns-then-options-eq0
returns-then-options-eq0 c =
    by_rules _ c.args.options.now c.args.entry.now c.args.rules.now None c.verdict_by.result (inl (omega arith, refl)) c.verdict_by.ensures

pub returns : goal.returns
returns c =
    let table = c.as_slice.result.now in
    by_rules _ c.args.options.now c.args.entry.now c.args.rules.now (Some table) c.verdict_by-2.result
    (inr (c.if-options-eq0.false, (table, rw c.as_slice.ensures.value c.in_ok-table.ensures, refl))) c.verdict_by-2.ensures
