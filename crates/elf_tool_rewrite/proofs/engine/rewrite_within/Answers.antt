use Rattle.elf_tool_rewrite.specs.Rewrite.{ObjectSays, RewriteSays}
use Rattle.elf_tool_rewrite.proofs.Within.{denoted_says, within_more}
use Rattle.elf_tool_rewrite.proofs.engine.rewrite_within.Goals as goal

pub returns-in-Ok : goal.returns-in-Ok
returns-in-Ok g c =
    within_more (ObjectSays c.in-Ok.object) (RewriteSays c.args.bytes.now) c.args.most (g.W.Write.contents c.args.writer.now)
    (g.W.Write.contents c.object_within.new.writer) (denoted_says c.args.bytes.now c.in-Ok.object c.in-Ok.ensures) c.object_within.result
    c.object_within.ensures
