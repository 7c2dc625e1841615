use Rattle.std.proofs.Common.{arith, rules}
use Rattle.std.proofs.lemmas.Fmt.{decimal_digit}
use Rattle.elf_tool_text.proofs.line_end.LineEnd.put_decimal.Goals as goal

pub returns-then-number-lt10-clause-bytes : goal.returns-then-number-lt10-clause-bytes
returns-then-number-lt10-clause-bytes c =
    rw (decimal_digit c.args.number (omega arith)) (search rules)
