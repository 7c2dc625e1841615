use Rattle.std.proofs.Common.{map, option_copied}
use Rattle.elf_tool_link.specs.Map.{MapSays}
use Rattle.elf_c_engines.specs.Calls.{IsWantOfMemory}
use Rattle.elf_c_engines.proofs.Kept.{measured_returned, said_text, whole_said}
use Rattle.elf_c_engines.proofs.exports.map_of.Goals as goal

pub returns-in-Ok : goal.returns-in-Ok
returns-in-Ok c =
    let said = c.whole.ensures in
    let Says = MapSays c.args.options.now (option_copied c.args.rules) (map (λ f. f.now) c.args.files.now) in
    whole_said Says _ c.whole.result _ _ said.verdict said.length said.text
    (said_text Says _ _ c.in-Ok.verdict c.new-text.ensures c.in-Ok.ensures.any)

pub returns-in-Ok-map_length : goal.returns-in-Ok-map_length
returns-in-Ok-map_length c = measured_returned IsWantOfMemory _ _ _ _ tt c.unkept.result c.in-Ok-map_length.ensures c.unkept.ensures
