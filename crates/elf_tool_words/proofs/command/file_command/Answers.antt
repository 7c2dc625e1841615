use Rattle.std.proofs.Common.{◌≡◌, ◌∙◌, ap, ap₂, rules}
use Rattle.std.proofs.lemmas.Result.{IfOk-weaker}
use Rattle.clap.specs.Walk.{rule_of}
use Rattle.clap.specs.Simple.{App, app_of_fields, with_rule}
use Rattle.elf_tool_words.specs.Command.{file}
use Rattle.elf_tool_words.proofs.command.file_command.Goals as goal

pub returns-clause-shape : goal.returns-clause-shape
returns-clause-shape c =
    let file_is : rule_of c.required-file.result ≡ file = search rules in
    IfOk-weaker c.arg.result _ _
    (λ r added. ap (λ (a : App). a.top)
    (added.shape (search rules) ∙ ap₂ with_rule (ap app_of_fields c.about.ensures ∙ c.new-2.ensures.app) file_is)) c.arg.ensures
