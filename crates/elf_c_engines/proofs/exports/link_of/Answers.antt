use Rattle.std.proofs.Common.{map}
use Rattle.elf_tool_link.specs.Link.{FilesLink}
use Rattle.elf_c_engines.specs.Calls.{IsWantOfMemory}
use Rattle.elf_c_engines.proofs.Kept.{exact_returned, said_text, whole_said}
use Rattle.elf_c_engines.proofs.exports.link_of.Goals as goal

pub returns-in-Ok : goal.returns-in-Ok
returns-in-Ok c =
    let said = c.whole.ensures in
    let Says = FilesLink c.args.options.now c.args.rules.now (map (λ f. f.now) c.args.files.now) in
    whole_said Says _ c.whole.result _ _ said.verdict said.length said.text
    (said_text Says _ _ c.in-Ok.verdict c.new-file.ensures c.in-Ok.ensures)

pub returns-in-Ok-link_length : goal.returns-in-Ok-link_length
returns-in-Ok-link_length c = exact_returned IsWantOfMemory _ _ _ _ tt c.unkept.result c.in-Ok-link_length.ensures c.unkept.ensures
