use Rattle.std.proofs.Common.{◌≡◌, ◌∙◌, false, sym, true}
use Rattle.std.specs.Char.{is_ascii_digit}
use Rattle.std.specs.List.{list_all}
use Rattle.std.specs.Str.{IsUtf8}
use Rattle.elf_tool_rule_file.proofs.RuleFiles.{digits, digits_utf8, never_refused}
use Rattle.elf_tool_rule_file.proofs.file.kind_of.Goals as goal

pub returns-then-not-are_digits : goal.returns-then-not-are_digits
returns-then-not-are_digits c kind is =
    let all : list_all is_ascii_digit c.args.word.now ≡ true = digits.from c.args.word.now is.0.1 in
    let none : list_all is_ascii_digit c.args.word.now ≡ false = sym c.are_digits.ensures ∙ c.if-not-are_digits.true in
    cc

pub returns-in_err-digits : goal.returns-in_err-digits
returns-in_err-digits c =
    rw c.from_residual.ensures (λ kind is.
    never_refused c.from_utf8.result (IsUtf8 c.args.word.now) _ _ (sym c.in_err-digits.ensures.variant) c.from_utf8.ensures.cases
    (digits_utf8 c.args.word.now is.0.1))
