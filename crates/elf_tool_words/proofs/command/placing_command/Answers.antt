use Rattle.std.proofs.Common.{◌≡◌, ◌∙◌, ◌||◌, false, ap, ap₂}
use Rattle.std.proofs.lemmas.Result.{IfOk-weaker}
use Rattle.clap.specs.Simple.{App, app_of_fields, with_rule}
use Rattle.clap.specs.declared.builder.command.Command.{Command}
use Rattle.clap.specs.declared.builder.command.Command.TheOpen.{Command-F}
use Rattle.clap.specs.declared.builder.command.Command.TheViews.{out-Command as fields_of}
use Rattle.elf_tool_words.proofs.command.placing_command.Goals as goal

pub returns-clause-shape : goal.returns-clause-shape
returns-clause-shape c =
    let based = c.in_ok-arg.ensures.shape c.base.ensures.local ∙
    ap₂ with_rule (ap app_of_fields c.about.ensures ∙ c.new.ensures.app) c.base.ensures.rule in
    IfOk-weaker c.arg-2.result _ _
    (λ r added. ap (λ (a : App). a.top) (added.shape c.page.ensures.local ∙ ap₂ with_rule based c.page.ensures.rule)) c.arg-2.ensures

pub returns-clause-local : goal.returns-clause-local
returns-clause-local c =
    let named : (fields_of c.about.result).has_globals ≡ false =
    ap (λ (f : Command-F Command). f.has_globals) c.about.ensures ∙ c.new.ensures.local in
    let based : (fields_of c.in_ok-arg.field-0).has_globals ≡ false = c.in_ok-arg.ensures.globals ∙ ap₂ ◌||◌ named c.base.ensures.local in
    IfOk-weaker c.arg-2.result _ _ (λ r added. added.globals ∙ ap₂ ◌||◌ based c.page.ensures.local) c.arg-2.ensures
