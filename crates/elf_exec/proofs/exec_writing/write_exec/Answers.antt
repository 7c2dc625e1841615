-- The link of the relocated bytes is sound, by what is known of its objects. So what was sent is its executable (`exec_sent`), or exactly
-- the first bytes of it if the writer failed (`exec_cut`).
use Rattle.std.proofs.Common.{Ok, Err, sym, subst}
use Rattle.std.proofs.lemmas.Result.{err_from_is_err_and}
use Rattle.elf_link_relocate.specs.Linked.{LinkedValue}
use Rattle.elf_exec.specs.ExecWriting.{WritesExec}
use Rattle.elf_exec.proofs.ExecLaws.{HasSoundLink, exec_cut, exec_sent, sound_link}
use Rattle.elf_exec.proofs.ExecText.{unplaced}
use Rattle.elf_exec.proofs.exec_writing.write_exec.Goals as goal

pub returns-in-Ok : goal.returns-in-Ok
returns-in-Ok g c =
    let objects = c.prove_objects.ensures in
    let link = sound_link c.args.linked.now c.requires objects.kept objects.fit objects.page in
    let is = c.in_ok-placed.ensures.ok in
    subst (λ (l : LinkedValue). WritesExec l (g.W.Write.contents c.args.writer.now) (g.W.Write.contents c.send_exec.new.writer) (Ok tt)) is
    (exec_sent c.in_ok-placed.placed c.in_ok-placed.ensures.placed (subst HasSoundLink (sym is) link) _ _ _ c.in-Ok.ensures)

pub returns-in_err-placed : goal.returns-in_err-placed
returns-in_err-placed g c =
    let l = c.args.linked.now in
    let held = g.W.Write.contents c.args.writer.now in
    let failed = err_from_is_err_and c.from_residual.result c.from_residual.ensures.1 in
    rw (failed.1, failed.2) (unplaced l held c.in_err-placed.field-0.0 c.in_err-placed.ensures.err)

pub returns : goal.returns
returns g c =
    let objects = c.prove_objects.ensures in
    let link = sound_link c.args.linked.now c.requires objects.kept objects.fit objects.page in
    let is = c.in_ok-placed.ensures.ok in
    subst (λ (l : LinkedValue). WritesExec l (g.W.Write.contents c.args.writer.now) (g.W.Write.contents c.send_exec.new.writer)
    (Err (record { written = c.in-Err.fault.written }))) is
    (exec_cut c.in_ok-placed.placed c.in_ok-placed.ensures.placed
    (subst HasSoundLink (sym is) link) _ _ c.in-Err.fault.written c.in-Err.ensures)
