use Rattle.std.proofs.Common.{subst}
use Rattle.elf_tool_rule_file.specs.RuleFile.{IsRuleLine}
use Rattle.elf_tool_rule_file.proofs.RuleFiles.{no_cut, one_cut, no_feed}
use Rattle.elf_tool_rule_file.proofs.file.first_rule.Goals as goal

pub returns-in_err-line : goal.returns-in_err-line
returns-in_err-line c =
    rw c.from_residual.ensures (λ begins. no_cut 10 c.args.bytes.now begins.2.0 begins.1 c.in_err-line.ensures begins.2.2)

pub returns-in_err-rule_in : goal.returns-in_err-rule_in
returns-in_err-rule_in c =
    rw c.from_residual-in_err-rule_in.ensures (λ begins.
    let at = c.in_ok-line in
    let same = one_cut 10 c.args.bytes.now begins.2.0 begins.1 at.line.now at.rest.now
    (begins.2.2, no_feed begins.2.0 begins.0 begins.2.1) at.ensures in
    c.in_err-rule_in.ensures begins.0 (subst (λ line. IsRuleLine line begins.0) same.0 begins.2.1))
