use Rattle.std.proofs.Common.{◌++◌, codes}
use Rattle.std.proofs.lemmas.Result.{err_from_is_err_and}
use Rattle.elf_tool_text.specs.Line.{bytes_text}
use Rattle.elf_tool_text.proofs.PassedText.{passed_after, stopped_between}
use Rattle.elf_tool_text.proofs.passed.pass_line_of_bytes.Goals as goal

pub returns-in_err-pass_bytes : goal.returns-in_err-pass_bytes
returns-in_err-pass_bytes g c =
    let p = err_from_is_err_and c.from_residual-in_err-pass_bytes.result c.from_residual-in_err-pass_bytes.ensures.1 in
    rw (p.1, p.2)
    (stopped_between _ _ _ c.args.output.now c.pass.new.self c.args.front.now (bytes_text c.args.bytes.now)
    (codes "\n") c.in_err-pass_bytes.field-0.0.written c.in_ok-pass.ensures
    c.in_err-pass_bytes.ensures)

pub returns : goal.returns
returns g c =
    passed_after _ _ _ c.args.output.now c.pass.new.self c.pass-2.new.self c.args.front.now
    (bytes_text c.args.bytes.now ++ codes "\n") c.pass-2.result c.in_ok-pass.ensures
    (passed_after _ _ _ c.pass.new.self c.pass_bytes.new.output c.pass-2.new.self (bytes_text c.args.bytes.now)
    (codes "\n") c.pass-2.result c.in_ok-pass_bytes.ensures c.pass-2.ensures)
