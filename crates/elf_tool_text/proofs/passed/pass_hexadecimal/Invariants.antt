use Rattle.std.proofs.Common.{◌-◌, ◌≤◌, length, take}
use Rattle.hex.specs.Hex.{encode_lower}
use Rattle.elf_tool_text.specs.Buffered.{Buffers}
use Rattle.elf_tool_text.proofs.passed.pass_hexadecimal.Given as goal

-- the digits of the first bytes are passed on
abbrev pub invariant-loop-next : goal.invariant-loop-next
invariant-loop-next g l = record {
  within : l.next ≤ length l.bytes;
  passed : Buffers (g.W.Write.contents l.initial.writer) (g.W.Write.contents l.writer) l.initial.output l.output
      (encode_lower (take l.next l.bytes));
}

abbrev pub decreases-loop-next : goal.decreases-loop-next
decreases-loop-next g l = length l.bytes - l.next
