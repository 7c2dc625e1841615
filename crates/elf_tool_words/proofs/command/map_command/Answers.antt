use Rattle.std.proofs.Common.{◌≡◌, ◌∙◌, ◌||◌, ◌∷◌, ◌++◌, [], false, ap, ap₂}
use Rattle.std.proofs.lemmas.Result.{IfOk-weaker}
use Rattle.clap.specs.Simple.{App, Shape, app_of, with_rule}
use Rattle.clap.specs.declared.builder.command.Command.TheViews.{out-Command as fields_of}
use Rattle.elf_tool_words.specs.Command.{files, map_command, rules_file}
use Rattle.elf_tool_words.proofs.command.map_command.Goals as goal

-- a command's shape with the rules that are added
abbrev with_rules : Shape → Shape
with_rules s = record s { rules = (s.rules ++ rules_file ∷ []) ++ files ∷ [] }

pub returns-clause-shape : goal.returns-clause-shape
unfolding map_command
returns-clause-shape c =
    let ruled = c.in_ok-arg.ensures.shape c.rules.ensures.local ∙
    ap (with_rule (app_of c.in_ok-placing_command.field-0)) c.rules.ensures.rule in
    IfOk-weaker c.arg-2.result _ _
    (λ r added. ap (λ (a : App). a.top) (added.shape c.files.ensures.local ∙ ap₂ with_rule ruled c.files.ensures.rule)
    ∙ ap with_rules c.in_ok-placing_command.ensures.shape)
    c.arg-2.ensures

pub returns-clause-local : goal.returns-clause-local
returns-clause-local c =
    let ruled : (fields_of c.in_ok-arg.field-0).has_globals ≡ false =
    c.in_ok-arg.ensures.globals ∙ ap₂ ◌||◌ c.in_ok-placing_command.ensures.local c.rules.ensures.local in
    IfOk-weaker c.arg-2.result _ _ (λ r added. added.globals ∙ ap₂ ◌||◌ ruled c.files.ensures.local) c.arg-2.ensures
