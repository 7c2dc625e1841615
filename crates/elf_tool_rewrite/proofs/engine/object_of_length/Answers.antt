use Rattle.std.proofs.Common.{arith}
use Rattle.elf_tool_rewrite.proofs.Within.{file_within}
use Rattle.elf_tool_rewrite.proofs.engine.object_of_length.Goals as goal

pub returns : goal.returns
returns g c =
    let (b, file, long) = c.requires in
    let fits = c.if-file_len-most.false in
    file_within c.args.object.now b c.args.file_len c.args.most (g.W.Write.contents c.args.writer.now)
    (g.W.Write.contents c.rewrite_object.new.writer) c.in_ok-verdict.verdict file long (omega arith) c.in_ok-verdict.ensures
