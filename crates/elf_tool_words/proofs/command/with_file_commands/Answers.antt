use Rattle.std.proofs.Common.{◌∙◌, ap}
use Rattle.std.proofs.lemmas.Result.{IfOk-weaker}
use Rattle.clap.specs.Simple.{App, app_of, with_subcommand}
use Rattle.elf_tool_words.specs.Command.{rewrite, show}
use Rattle.elf_tool_words.proofs.WordLists.{joined}
use Rattle.elf_tool_words.proofs.command.with_file_commands.Goals as goal

pub returns : goal.returns
returns c =
    let checked = joined (app_of c.args.command) _ _ c.check_command.result c.in_ok-command.ensures c.check_command.ensures.shape in
    let shown = joined (app_of c.in_ok-command.command) _ _ c.show_command.result c.in_ok-command-2.ensures c.show_command.ensures.shape ∙
    ap (λ (a : App). with_subcommand a show) checked in
    IfOk-weaker c.with-3.result _ _
    (λ r more. joined (app_of c.in_ok-command-2.command) _ _ c.rewrite_command.result more c.rewrite_command.ensures.shape ∙
    ap (λ (a : App). with_subcommand a rewrite) shown)
    c.with-3.ensures
