use Rattle.std.proofs.Common.{inl}
use Rattle.elf_tool_link.proofs.MapPrints.{at_once, mapped_as}
use Rattle.elf_tool_link.proofs.MapRefusals.{files_refused}
use Rattle.elf_tool_link.proofs.mapping.map_counted.Goals as goal

pub returns-in-Ok : goal.returns-in-Ok
returns-in-Ok g c =
    let (objects, map, sound) = c.in-Ok.ensures in
    let mapped = c.in-Ok.mapped in
    mapped_as _ _ _ _ c.answer_map.result
    (λ v text says. inl (mapped.objects, objects, inl (sound, (mapped.map, map, says)))) c.answer_map.ensures

pub returns-in-Err : goal.returns-in-Err
returns-in-Err g c =
    at_once _ _ _ _ c.write_unlinked.result
    (λ v text said. files_refused _ _ _ c.in-Err.unlinked v text c.in-Err.ensures said) c.write_unlinked.ensures
