use Rattle.elf_tool_show.specs.Show.{ShowSays}
use Rattle.elf_c_engines.specs.Calls.{IsWantOfMemory}
use Rattle.elf_c_engines.proofs.Kept.{exact_returned, shown_text, whole_said}
use Rattle.elf_c_engines.proofs.exports.show_within.Goals as goal

pub returns-in-Ok : goal.returns-in-Ok
returns-in-Ok c =
    let said = c.whole.ensures in
    whole_said (ShowSays c.args.bytes.now) _ c.whole.result _ _ said.verdict said.length said.text
    (shown_text _ _ _ c.in-Ok.verdict c.new-text.ensures c.in-Ok.ensures)

pub returns-in-Ok-show_length : goal.returns-in-Ok-show_length
returns-in-Ok-show_length c =
    exact_returned IsWantOfMemory (ShowSays c.args.bytes.now) _ _ _ tt c.unkept.result c.in-Ok-show_length.ensures c.unkept.ensures
