use Rattle.std.proofs.Common.{arith, vec_len}
use Rattle.elf_tool_rewrite.specs.Rewrite.{RewriteSays}
use Rattle.elf_tool_check.proofs.EngineCalls.{said}
use Rattle.elf_tool_rewrite.proofs.Again.{rewrite_again}
use Rattle.elf_tool_rewrite.proofs.OneRewrite.{one_rewrite}
use Rattle.elf_tool_rewrite.proofs.engine.rewrite.Goals as goal

pub returns-clause-written : goal.returns-clause-written
returns-clause-written g c =
    said RewriteSays (g.R.Read.remaining c.args.reader.now) (g.R.Read.remaining c.read_input.new.reader)
    (g.W.Write.contents c.args.writer.now)
    (g.W.Write.contents c.rewrite_bytes.new.writer) c.as_slice.result.now c.read_input.new.buf.items (vec_len c.read_input.new.buf)
    c.as_slice.ensures.value (omega (arith, c.as_slice.ensures.len)) c.in_ok-read_input.ensures.taken c.in_ok-read_input.ensures.limit
    c.in_ok-read_input.ensures.ok c.rewrite_bytes.result c.rewrite_bytes.ensures.written

pub returns-in_err-read_input-clause-again : goal.returns-in_err-read_input-clause-again
returns-in_err-read_input-clause-again g c = rewrite_again

pub returns-in_err-read_input-clause-only : goal.returns-in_err-read_input-clause-only
returns-in_err-read_input-clause-only g c = one_rewrite

pub returns-clause-only : goal.returns-clause-only
returns-clause-only g c = one_rewrite
