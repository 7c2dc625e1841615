use Rattle.std.proofs.Common.{◌≡◌, ◌∙◌, IfOk, [], ◌∷◌, ◌++◌, codes, rules, string_bytes}
use Rattle.std.proofs.lemmas.Result.{IfOk-weaker}
use Rattle.std.specs.Fmt.{decimal}
use Rattle.elf_tool_check.specs.FileLines.{refused_line}
use Rattle.elf_tool_check.proofs.LineInARow.{line_in_a_row, to_the_end}
use Rattle.elf_tool_check.proofs.engine.refused_line.Goals as goal

pub returns : goal.returns
unfolding refused_line
returns c =
    let text : IfOk c.format.result (λ s. string_bytes s ≡ codes "refused" ++ to_the_end (decimal c.args.rule ∷ decimal c.args.at ∷ [])) =
    search rules in
    IfOk-weaker c.format.result _ _ (λ s is. is ∙ line_in_a_row (codes "refused") _) text
