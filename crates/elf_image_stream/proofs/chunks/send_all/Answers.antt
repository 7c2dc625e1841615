use Rattle.std.proofs.lemmas.Result.{err_from_is_err_and}
use Rattle.elf_image_stream.proofs.Written.{chunk_out, chunk_stopped, chunks_out}
use Rattle.elf_image_stream.proofs.chunks.send_all.Goals as goal

pub returns-in_err-all : goal.returns-in_err-all
returns-in_err-all g c =
    let n = g.P.Chunks.count c.args.chunks.now in
    let p = err_from_is_err_and c.from_residual.result c.from_residual.ensures.1 in
    rw (p.1, p.2)
    (chunk_stopped
    (g.P.Chunks.chunk c.args.chunks.now) c.loop-j.j c.count-j-end.result n _ _ _ _ _ c.loop-j-test.true c.count-j-end.ensures
    c.loop-j.invariant _ c.in_err-all.ensures)

pub loop-j-preserved : goal.loop-j-preserved
loop-j-preserved g c =
    let n = g.P.Chunks.count c.args.chunks.now in
    chunk_out (g.P.Chunks.chunk c.args.chunks.now) c.loop-j.j c.count-j-end.result n _ _ _ _ _ c.loop-j-test.true c.count-j-end.ensures
    c.loop-j.invariant _ c.in_ok-all.ensures

pub returns : goal.returns
returns g c =
    let n = g.P.Chunks.count c.args.chunks.now in
    chunks_out (g.P.Chunks.chunk c.args.chunks.now) c.loop-j.j c.count-j-end.result n _ _ _ _ c.loop-j-test.false c.count-j-end.ensures
    c.loop-j.invariant
