use Rattle.std.proofs.lemmas.Result.{err_from_is_err_and}
use Rattle.elf_tool_text.proofs.PassedText.{long_cut, long_passed}
use Rattle.elf_tool_text.proofs.output.Output.pass.Goals as goal

pub returns-in_err-self : goal.returns-in_err-self
returns-in_err-self g c =
    let p = err_from_is_err_and c.from_residual-in_err-self.result c.from_residual-in_err-self.ensures.1 in
    rw (p.1, p.2)
    (long_cut _ _ _ c.args.self.now c.hold.new.self c.write_pending.new.self c.hold-2.new.self c.args.bytes.now c.if-hold.ensures.pending
    c.if-hold.ensures.written
    c.in_ok-write_pending.ensures.passed c.in_ok-write_pending.ensures.empty c.if-hold-2.ensures.pending c.if-hold-2.ensures.written _
    c.in_err-self.ensures)

pub returns : goal.returns
returns g c =
    long_passed _ _ _ c.args.self.now c.hold.new.self c.write_pending.new.self c.hold-2.new.self c.args.bytes.now c.if-hold.ensures.pending
    c.if-hold.ensures.written
    c.in_ok-write_pending.ensures.passed c.in_ok-write_pending.ensures.empty c.if-hold-2.ensures.pending c.if-hold-2.ensures.written _
    c.in_ok-self.ensures
