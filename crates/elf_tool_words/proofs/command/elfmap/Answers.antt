-- The command is what the builder's calls make, one after the other: the contract of each call, applied to the command so far.
use Rattle.std.proofs.Common.{◌≡◌, ◌∙◌, ap, codes, true}
use Rattle.std.proofs.lemmas.Result.{IfOk-weaker}
use Rattle.clap.specs.Simple.{App, app_of, app_of_fields, new_app, on_top, with_subcommand}
use Rattle.clap.specs.declared.builder.command.Command.{Command}
use Rattle.clap.specs.declared.builder.command.Command.TheOpen.{Command-F}
use Rattle.elf_tool_words.specs.Command.{elfmap, link_command, map_command, with_file_commands}
use Rattle.elf_tool_words.proofs.WordLists.{joined}
use Rattle.elf_tool_words.proofs.command.elfmap.Goals as goal

-- the settings of the top, in the order of the code
abbrev with_required : App → App
with_required = on_top (λ s. record s { subcommand_required = true })

abbrev with_no_help : Command-F Command → App
with_no_help fields = app_of_fields (record fields { disable_help_subcommand = true })

abbrev with_settings : App → App
with_settings = on_top (λ s. record s { subcommand_required = true; disable_help_subcommand = true })

pub returns : goal.returns
unfolding elfmap
returns c =
    let named : app_of c.about.result ≡ new_app (codes "elfmap") = ap app_of_fields c.about.ensures ∙ c.new.ensures.app in
    let settings : app_of c.disable_help_subcommand-command.result ≡ with_settings (app_of c.about.result) =
    ap app_of_fields c.disable_help_subcommand-command.ensures ∙ ap with_no_help c.subcommand_required.ensures in
    let start = settings ∙ ap with_settings named in
    let filed = c.in_ok-command.ensures ∙ ap with_file_commands start in
    let mapped =
    joined (app_of c.in_ok-command.command) _ _ c.map_command.result c.in_ok-command-2.ensures c.map_command.ensures.shape ∙
    ap (λ (a : App). with_subcommand a map_command) filed in
    IfOk-weaker c.with-2.result _ _
    (λ r more. joined (app_of c.in_ok-command-2.command) _ _ c.link_command.result more c.link_command.ensures.shape ∙
    ap (λ (a : App). with_subcommand a link_command) mapped)
    c.with-2.ensures
