use Rattle.std.proofs.Common.{arith, false, rules}
use Rattle.std.proofs.lemmas.Fmt.{hex_one_digit}
use Rattle.elf_tool_text.proofs.line_end.LineEnd.put_hexadecimal.Goals as goal

pub returns-then-number-lt16-clause-bytes : goal.returns-then-number-lt16-clause-bytes
returns-then-number-lt16-clause-bytes c =
    rw (hex_one_digit false c.args.number (omega arith), ← c.glyph.ensures) (search rules)
