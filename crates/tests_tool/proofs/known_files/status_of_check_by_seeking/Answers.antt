use Rattle.std.proofs.Common.{◌∙◌, None, Some, refl, sym}
use Rattle.elf_tool_check.specs.Ending.{AsksInOrder}
use Rattle.tests_tool.proofs.Statuses.{seek_run_says}
use Rattle.tests_tool.proofs.known_files.status_of_check_by_seeking.Goals as goal

pub returns : goal.returns
returns c =
    let (ended, is, ends) = c.run.ensures in
    let says = seek_run_says _ c.args.bytes.now (AsksInOrder None None) (Some c.new-out.result.items) (Some c.run.new.out.items)
    (Some c.new-err.result.items) (Some c.run.new.err.items) ended refl ends in
    record { done = λ zero. says.done (sym is ∙ zero); refused = λ one. says.refused (sym is ∙ one) }
