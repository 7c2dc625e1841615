use Rattle.std.proofs.Common.{arith, rules}
use Rattle.std.proofs.lemmas.Fmt.{decimal_digit}
use Rattle.elf_tool_text.proofs.line.push_decimal.Goals as goal

pub returns-then-number-lt10 : goal.returns-then-number-lt10
returns-then-number-lt10 c =
    rw (decimal_digit c.args.number (omega arith)) (search rules)
