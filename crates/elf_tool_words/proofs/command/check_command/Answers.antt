use Rattle.std.proofs.Common.{◌∙◌, ◌∷◌, ◌++◌, ◌||◌, [], ap, ap₂}
use Rattle.std.proofs.lemmas.Result.{IfOk-weaker}
use Rattle.clap.specs.Simple.{App, Shape, app_of, with_rule}
use Rattle.elf_tool_words.specs.Command.{check, seek}
use Rattle.elf_tool_words.proofs.command.check_command.Goals as goal

-- a command's shape with one more rule
abbrev with_seek : Shape → Shape
with_seek s = record s { rules = s.rules ++ seek ∷ [] }

pub returns-clause-shape : goal.returns-clause-shape
unfolding check
returns-clause-shape c = IfOk-weaker c.arg.result _ _
    (λ r added. ap (λ (a : App). a.top)
    (added.shape c.seek.ensures.local ∙ ap (with_rule (app_of c.in_ok-command.command)) c.seek.ensures.rule)
    ∙ ap with_seek c.in_ok-command.ensures.shape)
    c.arg.ensures

pub returns-clause-local : goal.returns-clause-local
returns-clause-local c =
    IfOk-weaker c.arg.result _ _ (λ r added. added.globals ∙ ap₂ ◌||◌ c.in_ok-command.ensures.local c.seek.ensures.local) c.arg.ensures
