use Rattle.elf_tool_link.proofs.MapPrints.{at_once, mapped_as}
use Rattle.elf_tool_link.proofs.MapRefusals.{relocation_refused}
use Rattle.elf_tool_link.proofs.mapping.answer_relocations.Goals as goal

pub returns-in-Err : goal.returns-in-Err
returns-in-Err g c =
    let mapped = c.args.mapped.now in
    let known = rw c.into.ensures at c.write_unlinked.ensures in
    at_once _ _ _ _ c.write_unlinked.result
    (λ v text said. relocation_refused c.args.rules.now mapped.objects mapped.map c.in-Err.fault v text c.in-Err.ensures.err said) known

pub returns-in-Ok : goal.returns-in-Ok
returns-in-Ok g c =
    let m = c.args.mapped.now in
    mapped_as _ _ _ _ c.write_relocated.result
    (λ v text said. rw said.0 (c.in-Ok.linked, c.in-Ok.ensures.linked, said.1)) c.write_relocated.ensures
