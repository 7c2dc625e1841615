use Rattle.std.proofs.Common.{◌<◌, ◌++◌, ◌∷◌, [], arith, length}
use Rattle.elf_tool_rule_file.proofs.RuleFiles.{begins_with_rule, line_passed, rules_more}
use Rattle.elf_tool_rule_file.proofs.file.read_rules.Goals as goal

pub returns-in_default-push-clause-err : goal.returns-in_default-push-clause-err
returns-in_default-push-clause-err c =
    let l = c.loop-rest in
    let found = c.in-Some in
    begins_with_rule c.args.bytes.now l.invariant.0 l.rest.now l.rules.items l.invariant.1 l.invariant.2
    (found.rule, found.later.now, found.ensures)

pub loop-rest-preserved : goal.loop-rest-preserved
loop-rest-preserved c =
    let l = c.loop-rest in
    let found = c.in-Some in
    let line = found.ensures.0 in
    let below : length l.rules.items < 256 = omega (arith, c.len-line.ensures) in
    let more = rules_more l.invariant.0 line l.rules.items found.rule l.invariant.1 found.ensures.1 below in (
      l.invariant.0 ++ (line ++ 10 ∷ []),
      rw c.in-Ok.ensures.items more,
      line_passed c.args.bytes.now l.invariant.0 l.rest.now line found.later.now l.invariant.2 found.ensures.2,
    )
