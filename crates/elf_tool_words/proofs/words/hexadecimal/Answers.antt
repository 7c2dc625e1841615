use Rattle.std.proofs.Common.{◌≡◌, ◌∙◌, arith, length, nat_le, rules, true}
use Rattle.std.proofs.lemmas.Bool.{le-leb}
use Rattle.elf_tool_words.specs.Words.{is_hexadecimal_digit}
use Rattle.elf_tool_words.proofs.WordLists.{hexadecimal, parsed}
use Rattle.elf_tool_words.proofs.words.hexadecimal.Goals as goal

pub returns : goal.returns
returns c =
    let text = c.args.text.now in
    let short : nat_le (length text) 16 ≡ true = le-leb (length text) 16 (omega (arith, c.if-text-gt-MOST_DIGITS.false)) in
    rw short (c.ok.ensures.value ∙
    parsed 16 is_hexadecimal_digit hexadecimal text c.from_str_radix.result (search rules) c.from_str_radix.ensures.value)
