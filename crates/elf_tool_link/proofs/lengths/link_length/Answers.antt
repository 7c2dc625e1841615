use Rattle.std.proofs.Common.{inl}
use Rattle.elf_tool_link.proofs.LinkRefusals.{length_as, no_file_length}
use Rattle.elf_tool_link.proofs.lengths.link_length.Goals as goal

pub returns-in-Ok : goal.returns-in-Ok
returns-in-Ok c =
    let (objects, map, sound) = c.in-Ok.ensures in
    let mapped = c.in-Ok.mapped in
    length_as _ _ _ c.mapped_length.result
    (λ v text says. inl (mapped.objects, objects, inl (sound, (mapped.map, map, says)))) c.mapped_length.ensures

pub returns-in-Err : goal.returns-in-Err
returns-in-Err c = rw c.refused_length.ensures (no_file_length _ _ _ c.in-Err.unlinked c.in-Err.ensures)
