use Rattle.std.proofs.Common.{◌++◌, codes}
use Rattle.std.proofs.lemmas.Result.{err_from_is_err_and}
use Rattle.elf_tool_text.specs.Line.{name_text}
use Rattle.elf_tool_text.proofs.PassedText.{passed_after, stopped_between}
use Rattle.elf_tool_text.proofs.passed.pass_line_of_name.Goals as goal

pub returns-in_err-pass_name : goal.returns-in_err-pass_name
returns-in_err-pass_name g c =
    let p = err_from_is_err_and c.from_residual-in_err-pass_name.result c.from_residual-in_err-pass_name.ensures.1 in
    rw (p.1, p.2)
    (stopped_between _ _ _ c.args.output.now c.pass.new.self c.args.front.now (name_text c.args.name.now)
    (codes "\n") c.in_err-pass_name.field-0.0.written c.in_ok-pass.ensures
    c.in_err-pass_name.ensures)

pub returns : goal.returns
returns g c =
    passed_after _ _ _ c.args.output.now c.pass.new.self c.pass-2.new.self c.args.front.now
    (name_text c.args.name.now ++ codes "\n") c.pass-2.result c.in_ok-pass.ensures
    (passed_after _ _ _ c.pass.new.self c.pass_name.new.output c.pass-2.new.self (name_text c.args.name.now)
    (codes "\n") c.pass-2.result c.in_ok-pass_name.ensures c.pass-2.ensures)
