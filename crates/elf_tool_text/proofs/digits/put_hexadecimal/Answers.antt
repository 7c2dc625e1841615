use Rattle.std.proofs.Common.{arith}
use Rattle.elf_tool_text.proofs.TextLines.{few_digits}
use Rattle.elf_tool_text.proofs.digits.put_hexadecimal.Goals as goal

pub put_digits-requires-clause-room : goal.put_digits-requires-clause-room
put_digits-requires-clause-room c =
    omega (arith, few_digits 16 (omega arith) 16 c.args.number (omega arith) (omega (arith, c.ranges.number.fits)), c.requires.room)

pub returns-clause-start : goal.returns-clause-start
returns-clause-start c =
    omega (
      arith,
      few_digits 16 (omega arith) 16 c.args.number (omega arith) (omega (arith, c.ranges.number.fits)),
      c.put_digits.ensures.start,
    )
