use Rattle.elf_tool_check.proofs.EngineCalls.{said_more}
use Rattle.elf_tool_rewrite.specs.Rewrite.{ObjectSays, RewriteSays}
use Rattle.elf_tool_rewrite.proofs.Again.{rewrite_again}
use Rattle.elf_tool_rewrite.proofs.Within.{denoted_says, none_printed}
use Rattle.elf_tool_rewrite.proofs.engine.rewrite_bytes.Goals as goal

pub returns-in-Ok-clause-written : goal.returns-in-Ok-clause-written
returns-in-Ok-clause-written g c =
    said_more (ObjectSays c.in-Ok.object) (RewriteSays c.args.bytes.now) (g.W.Write.contents c.args.writer.now)
    (g.W.Write.contents c.rewrite_object.new.writer) (denoted_says c.args.bytes.now c.in-Ok.object c.in-Ok.ensures) c.rewrite_object.result
    c.rewrite_object.ensures

pub returns-in-Err-clause-written : goal.returns-in-Err-clause-written
returns-in-Err-clause-written g c =
    rw c.unread.ensures (none_printed c.args.bytes.now (g.W.Write.contents c.args.writer.now) c.in-Err.fault c.in-Err.ensures)

pub returns-in-Ok-clause-again : goal.returns-in-Ok-clause-again
returns-in-Ok-clause-again g c = rewrite_again

pub returns-in-Err-clause-again : goal.returns-in-Err-clause-again
returns-in-Err-clause-again g c = rewrite_again
