-- Bytes are the lines of at most one list of relocation rules, or have at most one bad line, and never both. No byte of a word is a blank
-- and none of a line is a line feed. So two lists of lines at the beginning of the same bytes agree, by induction on both (`meet`).
use Rattle.std.proofs.Common.{◌≡◌, ◌∙◌, ◌+◌, ◌<◌, ◌⊎◌, ℕ, List, [], ◌∷◌, ◌++◌, ap, append_assoc, append-nil, arith, inl, inr, length}
use Rattle.std.proofs.Common.{length-append, map, refl, subst, sym}
use Rattle.std.specs.List.{AllByRecursion, concat}
use Rattle.std.specs.Prelude.{◌==◌, if◌then◌else◌}
use Rattle.std.specs.Str.Parse.{AllDigits, digits_value}
use Rattle.std.proofs.lemmas.Str.Parse.{digit_from_value}
use Rattle.elf_link_field.specs.declared.rule.Form.TheVariants.{Abs, Pc, None as NoForm}
use Rattle.elf_link_field.specs.declared.rule.Form.{Form}
use Rattle.elf_link_field.specs.declared.rule.Range.TheVariants.{Signed, Unsigned, Wrap}
use Rattle.elf_link_field.specs.declared.rule.Range.{Range}
use Rattle.elf_link_field.specs.declared.rule.RelocRule.{RelocRule}
use Rattle.elf_link_field.specs.declared.rule.Width.TheVariants.{W1, W2, W4, W8}
use Rattle.elf_link_field.specs.declared.rule.Width.{Width}
use Rattle.elf_tool_rule_file.specs.RuleFile.{AreRuleLines, AreRules, BeginsWithRule, IsBadLine, IsRuleLine, form_word, range_word}
use Rattle.elf_tool_rule_file.specs.RuleFile.{width_word}
use Rattle.elf_tool.proofs.laws.one_rule_file.Goals as goal

-- ---- bytes in front of a byte that is below all of them

abbrev Above : ℕ → List ℕ → Type 0
Above n = AllByRecursion (λ c. n < c)

above_both : (n : ℕ) (xs ys : List ℕ) → Above n xs → Above n ys → Above n (xs ++ ys)
above_both n [] ys front rest = rest
above_both n (x ∷ xs) ys front rest = (front.0, above_both n xs ys front.1 rest)

above_lower : (m n : ℕ) (xs : List ℕ) → m < n → Above n xs → Above m xs
above_lower m n [] lower above = tt
above_lower m n (x ∷ xs) lower above = (let first = above.0 in omega arith, above_lower m n xs lower above.1)

same_ends : (n : ℕ) (w v r s : List ℕ) → Above n w → Above n v → w ++ n ∷ r ≡ v ++ n ∷ s → (w ≡ v) × (r ≡ s)
same_ends n [] [] r s in_w in_v e = (refl, cc)
same_ends n [] (d ∷ v) r s in_w in_v e = (let first : n ≡ d = cc in let above = in_v.0 in absurd (omega arith))
same_ends n (c ∷ w) [] r s in_w in_v e = (let first : c ≡ n = cc in let above = in_w.0 in absurd (omega arith))
same_ends n (c ∷ w) (d ∷ v) r s in_w in_v e =
    let first : c ≡ d = cc in
    let later : w ++ n ∷ r ≡ v ++ n ∷ s = cc in
    let (front, rest) = same_ends n w v r s in_w.1 in_v.1 later in
    (cc, rest)

-- ---- words

digits_above : (word : List ℕ) → AllDigits 10 word → Above 32 word
digits_above [] are = tt
digits_above (c ∷ word) are = (let digit = digit_from_value c are.0 in omega arith, digits_above word are.1)

form_above : (form : Form) → Above 32 (form_word form)
form_above Abs = search arith
form_above Pc = search arith
form_above NoForm = search arith

width_above : (width : Width) → Above 32 (width_word width)
width_above W1 = search arith
width_above W2 = search arith
width_above W4 = search arith
width_above W8 = search arith

range_above : (range : Range) → Above 32 (range_word range)
range_above Signed = search arith
range_above Unsigned = search arith
range_above Wrap = search arith

-- each is reported by its first byte
abbrev form_of : List ℕ → Form
form_of [] = NoForm
form_of (c ∷ cs) = if c == 97 then Abs else if c == 112 then Pc else NoForm

form_again : (form : Form) → form_of (form_word form) ≡ form
form_again Abs = refl
form_again Pc = refl
form_again NoForm = refl

abbrev width_of : List ℕ → Width
width_of [] = W8
width_of (c ∷ cs) = if c == 49 then W1 else if c == 50 then W2 else if c == 52 then W4 else W8

width_again : (width : Width) → width_of (width_word width) ≡ width
width_again W1 = refl
width_again W2 = refl
width_again W4 = refl
width_again W8 = refl

abbrev range_of : List ℕ → Range
range_of [] = Wrap
range_of (c ∷ cs) = if c == 115 then Signed else if c == 117 then Unsigned else Wrap

range_again : (range : Range) → range_of (range_word range) ≡ range
range_again Signed = refl
range_again Unsigned = refl
range_again Wrap = refl

-- ---- lines

same_rule : (p q : RelocRule) → p.kind ≡ q.kind → p.form ≡ q.form → p.width ≡ q.width → p.range ≡ q.range → p ≡ q
same_rule p q kind form width range =
    ap (λ (k : ℕ). record { kind = k; form = p.form; width = p.width; range = p.range }) kind
    ∙ ap (λ (f : Form). record { kind = q.kind; form = f; width = p.width; range = p.range }) form
    ∙ ap (λ (w : Width). record { kind = q.kind; form = q.form; width = w; range = p.range }) width
    ∙ ap (λ (r : Range). record { kind = q.kind; form = q.form; width = q.width; range = r }) range

abbrev after_form : RelocRule → List ℕ
after_form p = width_word p.width ++ 32 ∷ range_word p.range

abbrev after_kind : RelocRule → List ℕ
after_kind p = form_word p.form ++ 32 ∷ after_form p

one_line : (line : List ℕ) (p q : RelocRule) → IsRuleLine line p → IsRuleLine line q → p ≡ q
one_line line p q (word, kind, is) (other, number, are) =
    let (same_kind, forms) =
    same_ends 32 word other (after_kind p) (after_kind q) (digits_above word kind.0.1) (digits_above other number.0.1) (sym is ∙ are) in
    let (same_form, widths) =
    same_ends 32 (form_word p.form) (form_word q.form) (after_form p) (after_form q) (form_above p.form) (form_above q.form) forms in
    let (same_width, same_range) =
    same_ends 32 (width_word p.width) (width_word q.width) (range_word p.range) (range_word q.range) (width_above p.width)
    (width_above q.width) widths in
    same_rule p q (sym kind.1 ∙ ap (digits_value 10) same_kind ∙ number.1)
    (sym (form_again p.form) ∙ ap form_of same_form ∙ form_again q.form)
    (sym (width_again p.width) ∙ ap width_of same_width ∙ width_again q.width)
    (sym (range_again p.range) ∙ ap range_of same_range ∙ range_again q.range)

-- no byte of a line is a line feed
no_feed : (line : List ℕ) (p : RelocRule) → IsRuleLine line p → Above 10 line
no_feed line p (word, kind, is) =
    let low : 10 < 32 = omega arith in
    let last = above_lower 10 32 (range_word p.range) low (range_above p.range) in
    let widths =
    above_both 10 (width_word p.width) (32 ∷ range_word p.range) (above_lower 10 32 (width_word p.width) low (width_above p.width))
    (low, last) in
    let forms = above_both 10 (form_word p.form) (32 ∷ after_form p) (above_lower 10 32 (form_word p.form) low (form_above p.form))
    (low, widths) in
    subst (Above 10) (sym is)
    (above_both 10 word (32 ∷ after_kind p) (above_lower 10 32 word low (digits_above word kind.0.1)) (low, forms))

-- ---- two lists of lines at the beginning of the same bytes

abbrev with_feed : List ℕ → List ℕ
with_feed line = line ++ 10 ∷ []

abbrev joined : List (List ℕ) → List ℕ
joined lines = concat (map with_feed lines)

-- the rules are the same with the same after them; or one list has further rules, and the other bytes begin with the next of these
abbrev Meet : List RelocRule → List ℕ → List RelocRule → List ℕ → Type 0
Meet ps rest qs tail =
    ((ps ≡ qs) × (rest ≡ tail))
    ⊎ ((BeginsWithRule rest × (length ps < length qs)) ⊎ (BeginsWithRule tail × (length qs < length ps)))

meet_more : (p q : RelocRule) (ps qs : List RelocRule) (rest tail : List ℕ) → p ≡ q → Meet ps rest qs tail →
    Meet (p ∷ ps) rest (q ∷ qs) tail
meet_more p q ps qs rest tail same (inl (rules, e)) = inl (cc, e)
meet_more p q ps qs rest tail same (inr (inl (begins, fewer))) = inr (inl (begins, omega arith))
meet_more p q ps qs rest tail same (inr (inr (begins, fewer))) = inr (inr (begins, omega arith))

line_first : (line : List ℕ) (lines : List (List ℕ)) (rest : List ℕ) → joined (line ∷ lines) ++ rest ≡ line ++ 10 ∷ (joined lines ++ rest)
line_first line lines rest = simp append_assoc refl

meet : (lines others : List (List ℕ)) (ps qs : List RelocRule) (rest tail : List ℕ) → AreRuleLines lines ps → AreRuleLines others qs →
    joined lines ++ rest ≡ joined others ++ tail → Meet ps rest qs tail
meet [] [] [] [] rest tail are also e = inl (refl, e)
meet [] [] (p ∷ ps) qs rest tail are also e = absurd are
meet [] [] [] (q ∷ qs) rest tail are also e = absurd also
meet [] (o ∷ others) (p ∷ ps) qs rest tail are also e = absurd are
meet [] (o ∷ others) [] [] rest tail are also e = absurd also
meet [] (o ∷ others) [] (q ∷ qs) rest tail are also e =
    inr (inl ((q, joined others ++ tail, (o, also.0, e ∙ line_first o others tail)), omega arith))
meet (l ∷ lines) [] [] qs rest tail are also e = absurd are
meet (l ∷ lines) [] (p ∷ ps) (q ∷ qs) rest tail are also e = absurd also
meet (l ∷ lines) [] (p ∷ ps) [] rest tail are also e =
    inr (inr ((p, joined lines ++ rest, (l, are.0, sym e ∙ line_first l lines rest)), omega arith))
meet (l ∷ lines) (o ∷ others) [] qs rest tail are also e = absurd are
meet (l ∷ lines) (o ∷ others) (p ∷ ps) [] rest tail are also e = absurd also
meet (l ∷ lines) (o ∷ others) (p ∷ ps) (q ∷ qs) rest tail are also e =
    let (line, later) =
    same_ends 10 l o (joined lines ++ rest) (joined others ++ tail) (no_feed l p are.0) (no_feed o q also.0)
    (sym (line_first l lines rest) ∙ e ∙ line_first o others tail) in
    meet_more p q ps qs rest tail (one_line o p q (subst (λ (x : List ℕ). IsRuleLine x p) line are.0) also.0)
    (meet lines others ps qs rest tail are.1 also.1 later)

-- rules at the beginning of the same bytes
both : (bytes before rest front tail : List ℕ) (ps qs : List RelocRule) → bytes ≡ before ++ rest → AreRules before ps →
    bytes ≡ front ++ tail →
    AreRules front qs → Meet ps rest qs tail
both bytes before rest front tail ps qs is (lines, are, joined_is, few) also (others, further, joined_also, short) =
    meet lines others ps qs rest tail are further
    (sym (ap (λ (b : List ℕ). b ++ rest) joined_is) ∙ sym is ∙ also ∙ ap (λ (b : List ℕ). b ++ tail) joined_also)

none_begin : BeginsWithRule [] → ⊥
none_begin (rule, rest, (line, is, e)) = omega (arith, ap length e, length-append line (10 ∷ rest))

-- ---- the laws

one_rules : (bytes : List ℕ) (ps qs : List RelocRule) → AreRules bytes ps → AreRules bytes qs → ps ≡ qs
one_rules bytes ps qs are also = elim (both bytes bytes [] bytes [] ps qs (sym (append-nil bytes)) are (sym (append-nil bytes)) also) [
  | inl same ↦ same.0
  | inr (inl further) ↦ absurd (none_begin further.0)
  | inr (inr further) ↦ absurd (none_begin further.0)
]

-- a line that is bad, where more rules are at the beginning of the bytes
not_bad : (rest : List ℕ) (ps qs : List RelocRule) (n : ℕ) → BeginsWithRule rest → length ps < length qs → length qs < 257 →
    n ≡ length ps + 1 →
    (n ≡ 257) ⊎ (BeginsWithRule rest → ⊥) → ⊥
not_bad rest ps qs n begins fewer few is (inl last) = omega arith
not_bad rest ps qs n begins fewer few is (inr never) = never begins

rules_not_bad : (bytes : List ℕ) (ps : List RelocRule) (n : ℕ) → AreRules bytes ps → IsBadLine bytes n → ⊥
rules_not_bad bytes ps n are (before, rest, qs, is, also, number, some, bad) =
    elim (both bytes bytes [] before rest ps qs (sym (append-nil bytes)) are is also) [
      | inl same ↦ omega (arith, ap length same.1)
      | inr (inl further) ↦ none_begin further.0
      | inr (inr further) ↦ not_bad rest qs ps n further.0 further.1 (let few = are.2 in omega arith) number bad
    ]

one_bad_line : (bytes : List ℕ) (m n : ℕ) → IsBadLine bytes m → IsBadLine bytes n → m ≡ n
one_bad_line bytes m n (before, rest, ps, is, are, number, some, bad) (front, tail, qs, also, further, count, any, wrong) =
    elim (both bytes before rest front tail ps qs is are also further) [
      | inl same ↦ omega (arith, ap length same.0)
      | inr (inl more) ↦ absurd (not_bad rest ps qs m more.0 more.1 (let few = further.2 in omega arith) number bad)
      | inr (inr more) ↦ absurd (not_bad tail qs ps n more.0 more.1 (let few = are.2 in omega arith) count wrong)
    ]

pub returns-clause-rules : goal.returns-clause-rules
returns-clause-rules c = one_rules

pub returns-clause-line : goal.returns-clause-line
returns-clause-line c = one_bad_line

pub returns-clause-apart : goal.returns-clause-apart
returns-clause-apart c = rules_not_bad
