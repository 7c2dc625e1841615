use Rattle.std.proofs.Common.{inl}
use Rattle.elf_tool_check.proofs.EngineCalls.{said_as}
use Rattle.elf_tool_link.proofs.LinkRefusals.{files_refused}
use Rattle.elf_tool_link.proofs.linking.link_files.Goals as goal

pub returns-in-Ok : goal.returns-in-Ok
returns-in-Ok g c =
    let (objects, map, sound) = c.in-Ok.ensures in
    let mapped = c.in-Ok.mapped in
    said_as _ _ _ _ c.link_mapped.result
    (λ v text says. inl (mapped.objects, objects, inl (sound, (mapped.map, map, says)))) c.link_mapped.ensures

pub returns-in-Err : goal.returns-in-Err
returns-in-Err g c =
    rw c.verdict_of.ensures (files_refused _ _ _ c.in-Err.unlinked (g.W.Write.contents c.args.writer.now) c.in-Err.ensures)
