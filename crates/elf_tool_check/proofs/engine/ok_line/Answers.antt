use Rattle.std.proofs.Common.{◌≡◌, ◌∙◌, IfOk, [], ◌∷◌, ◌++◌, codes, rules, string_bytes}
use Rattle.std.proofs.lemmas.Result.{IfOk-weaker}
use Rattle.std.specs.Fmt.{decimal}
use Rattle.elf_tool_check.specs.FileLines.{ok_line}
use Rattle.elf_tool_check.proofs.LineInARow.{line_in_a_row, to_the_end}
use Rattle.elf_tool_check.proofs.engine.ok_line.Goals as goal

pub returns : goal.returns
unfolding ok_line
returns c =
    let a = c.args in
    let text : IfOk c.format.result
    (λ s. string_bytes s ≡ codes "ok" ++ to_the_end (decimal a.length ∷ decimal a.sections ∷ decimal a.segments ∷ [])) =
    search rules in
    IfOk-weaker c.format.result _ _ (λ s is. is ∙ line_in_a_row (codes "ok") _) text
