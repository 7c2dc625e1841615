use Rattle.std.proofs.Common.{◌+◌, arith}
use Rattle.std.proofs.lemmas.Result.{err_from_is_err_and}
use Rattle.hex.specs.Hex.{encode_with}
use Rattle.elf_tool_text.proofs.PassedText.{block_cut, block_passed}
use Rattle.elf_tool_text.proofs.TextLines.{buffers_none}
use Rattle.elf_tool_text.proofs.passed.pass_hexadecimal.Goals as goal

pub loop-next-init : goal.loop-next-init
unfolding encode_with
loop-next-init g c = record {
  within = omega arith;
  passed = buffers_none _ c.args.output.now;
}

pub returns-in_err-pass_block : goal.returns-in_err-pass_block
returns-in_err-pass_block g c =
    let p = err_from_is_err_and c.from_residual.result c.from_residual.ensures.1 in
    rw (p.1, p.2)
    (block_cut c.args.bytes.now c.loop-next.next (c.loop-next.next + c.min-several.result) _ _ _ _ _
    (omega arith) c.loop-next.invariant.passed
    _ c.in_err-pass_block.ensures)

pub loop-next-preserved : goal.loop-next-preserved
loop-next-preserved g c = record {
  within = omega arith;
  passed = block_passed c.args.bytes.now c.loop-next.next (c.loop-next.next + c.min-several.result) _ _ _ _ _
      (omega arith) c.loop-next.invariant.passed
      _ c.in_ok-pass_block.ensures;
}
