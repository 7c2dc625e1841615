-- If a line is refused, it is the line of no rule. A rule's line would be cut at its blanks into the rule's own words (`Words`). Then the
-- cut or the word that failed would not have failed.
use Rattle.elf_tool_rule_file.proofs.RuleFiles.{no_cut, after_form, form_is, kind_is, last_is, range_is, rest_is, width_is}
use Rattle.elf_tool_rule_file.specs.RuleFile.{form_word, range_word, width_word}
use Rattle.elf_tool_rule_file.proofs.file.rule_in.Goals as goal

pub returns-in_err-kind : goal.returns-in_err-kind
returns-in_err-kind c = rw c.from_residual.ensures (λ rule is. no_cut 32 c.args.line.now is.0 _ c.in_err-kind.ensures is.2)

pub returns-in_err-form : goal.returns-in_err-form
returns-in_err-form c =
    rw c.from_residual-in_err-form.ensures (λ rule is.
    let rest = rest_is rule c.args.line.now c.in_ok-kind.kind.now c.in_ok-kind.rest.now c.in_ok-kind.ensures is in
    no_cut 32 c.in_ok-kind.rest.now (form_word rule.form) (after_form rule) c.in_err-form.ensures rest)

pub returns-in_err-width : goal.returns-in_err-width
returns-in_err-width c =
    rw c.from_residual-in_err-width.ensures (λ rule is.
    let k = c.in_ok-kind in
    let f = c.in_ok-form in
    let last = last_is rule c.args.line.now k.kind.now k.rest.now k.ensures is f.form.now f.rest.now f.ensures in
    no_cut 32 f.rest.now (width_word rule.width) (range_word rule.range) c.in_err-width.ensures last)

pub returns-in_err-kind_of : goal.returns-in_err-kind_of
returns-in_err-kind_of c =
    rw c.from_residual-in_err-kind_of.ensures (λ rule is.
    let k = c.in_ok-kind in
    c.in_err-kind_of.ensures rule.kind (kind_is rule c.args.line.now k.kind.now k.rest.now k.ensures is))

pub returns-in_err-form_of : goal.returns-in_err-form_of
returns-in_err-form_of c =
    rw c.from_residual-in_err-form_of.ensures (λ rule is.
    let k = c.in_ok-kind in
    let f = c.in_ok-form in
    c.in_err-form_of.ensures rule.form (form_is rule c.args.line.now k.kind.now k.rest.now k.ensures is f.form.now f.rest.now f.ensures))

pub returns-in_err-width_of : goal.returns-in_err-width_of
returns-in_err-width_of c =
    rw c.from_residual-in_err-width_of.ensures (λ rule is.
    let k = c.in_ok-kind in
    let f = c.in_ok-form in
    let w = c.in_ok-width in
    c.in_err-width_of.ensures rule.width
    (width_is rule c.args.line.now k.kind.now k.rest.now k.ensures is f.form.now f.rest.now f.ensures w.width.now w.range.now w.ensures))

pub returns-in_err-range_of : goal.returns-in_err-range_of
returns-in_err-range_of c =
    rw c.from_residual-in_err-range_of.ensures (λ rule is.
    let k = c.in_ok-kind in
    let f = c.in_ok-form in
    let w = c.in_ok-width in
    c.in_err-range_of.ensures rule.range
    (range_is rule c.args.line.now k.kind.now k.rest.now k.ensures is f.form.now f.rest.now f.ensures w.width.now w.range.now w.ensures))
