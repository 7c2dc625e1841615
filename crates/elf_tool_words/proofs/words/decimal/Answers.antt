use Rattle.std.proofs.Common.{◌∙◌, rules}
use Rattle.elf_tool_words.specs.Words.{is_decimal_digit}
use Rattle.elf_tool_words.proofs.WordLists.{decimal, parsed}
use Rattle.elf_tool_words.proofs.words.decimal.Goals as goal

pub returns : goal.returns
returns c =
    c.ok.ensures.value ∙
    parsed 10 is_decimal_digit decimal c.args.text.now c.from_str_radix.result (search rules) c.from_str_radix.ensures.value
