use Rattle.std.proofs.Common.{sym, subst}
use Rattle.elf_link_relocate.specs.Linked.{LinkedValue}
use Rattle.elf_exec.specs.ExecWriting.{HasExecOf}
use Rattle.elf_exec.proofs.ExecLaws.{HasSoundLink, exec_long, sound_link}
use Rattle.elf_exec.proofs.exec_writing.exec_length.Goals as goal

pub returns-in-Ok : goal.returns-in-Ok
returns-in-Ok c =
    let objects = c.prove_objects.ensures in
    let link = sound_link c.args.linked.now c.requires objects.kept objects.fit objects.page in
    let is = c.in-Ok.ensures.ok in
    subst (λ (l : LinkedValue). HasExecOf l c.file_len.result) is
    (exec_long c.in-Ok.placed c.in-Ok.ensures.placed (subst HasSoundLink (sym is) link) c.file_len.result c.file_len.ensures)
