-- Files of relocation rules are read word by word and line by line.
use Rattle.std.proofs.Common.{◌≡◌, ◌∙◌, ℕ, zero, suc, List, [], ◌∷◌, ◌++◌, ap, arith, get_or, length, refl, sym, ◌≢◌, ◌-◌, ◌≤◌, Bool, true}
use Rattle.std.proofs.Common.{false, Result, Ok, Err, inl, inr, nat_lt, rules, subst, ◌<◌, append_assoc, append-nil, map}
use Rattle.std.proofs.Math.Seq.{get_or-append_seam}
use Rattle.std.proofs.lemmas.List.{length-append, get_or_append_left, get_or-append_right, get_or_past, map-append}
use Rattle.std.specs.Char.{is_ascii_digit}
use Rattle.std.specs.List.{list_all, concat}
use Rattle.std.specs.Result.{MatchResult, is_ok}
use Rattle.std.specs.Str.{IsAscii, IsUtf8}
use Rattle.std.specs.Str.Parse.{AllDigits, digits_value}
use Rattle.std.proofs.lemmas.Bool.{cases_lt, le-ltb}
use Rattle.std.proofs.lemmas.List.Folds.{list_all_at, concat-append}
use Rattle.std.proofs.lemmas.Str.{IsUtf8-from_ascii}
use Rattle.std.proofs.lemmas.Str.Parse.{IsNumeralModel, digit_at, numerals_by_value}
use Rattle.elf_link_field.specs.declared.rule.Form.TheVariants.{Abs, Pc, None as NoForm}
use Rattle.elf_link_field.specs.declared.rule.Form.{Form}
use Rattle.elf_link_field.specs.declared.rule.Range.TheVariants.{Signed, Unsigned, Wrap}
use Rattle.elf_link_field.specs.declared.rule.Range.{Range}
use Rattle.elf_link_field.specs.declared.rule.RelocRule.{RelocRule}
use Rattle.elf_link_field.specs.declared.rule.Width.TheVariants.{W1, W2, W4, W8}
use Rattle.elf_link_field.specs.declared.rule.Width.{Width}
use Rattle.elf_tool_rule_file.specs.RuleFile.{AreCut, HasNo, IsKindWord, IsRuleLine, form_word, range_word, width_word, AreRuleLines}
use Rattle.elf_tool_rule_file.specs.RuleFile.{AreRules, BeginsWithRule}

-- Bytes are cut in one way.

-- bytes with no b are not cut
pub no_cut : (b : ℕ) (bytes before following : List ℕ) → HasNo b bytes → bytes ≡ before ++ b ∷ following → ⊥
no_cut b bytes before following none is =
    none (length before) (omega (arith, ap length is, length-append before (b ∷ following)))
    (ap (λ (xs : List ℕ). get_or xs (length before) 0) is ∙ get_or-append_seam before b following 0)

tail_has_no : (b c : ℕ) (cs : List ℕ) → HasNo b (c ∷ cs) → HasNo b cs
tail_has_no b c cs none k below = none (suc k) (omega arith)

same_ends : (b : ℕ) (w v r s : List ℕ) → HasNo b w → HasNo b v → w ++ b ∷ r ≡ v ++ b ∷ s → (w ≡ v) × (r ≡ s)
same_ends b [] [] r s in_w in_v e = (refl, cc)
same_ends b [] (d ∷ v) r s in_w in_v e = absurd (in_v zero (omega arith) cc)
same_ends b (c ∷ w) [] r s in_w in_v e = absurd (in_w zero (omega arith) cc)
same_ends b (c ∷ w) (d ∷ v) r s in_w in_v e =
    let first : c ≡ d = cc in
    let later : w ++ b ∷ r ≡ v ++ b ∷ s = cc in
    let ends = same_ends b w v r s (tail_has_no b c w in_w) (tail_has_no b d v in_v) later in
    let front : w ≡ v = ends.0 in
    (cc, ends.1)

pub one_cut : (b : ℕ) (bytes w r v s : List ℕ) → AreCut b bytes w r → AreCut b bytes v s → (w ≡ v) × (r ≡ s)
one_cut b bytes w r v s first next = same_ends b w v r s first.1 next.1 (sym first.0 ∙ next.0)

-- The words of a relocation rule's line: a number in digits, a form, a width and a range. No byte of a word is a blank or below, so the
-- line is cut at its blanks into these four words, and none has a line feed.

pub digits : IsNumeralModel (λ ds. list_all is_ascii_digit ds ≡ true) (digits_value 10)
digits = numerals_by_value _ (search rules)

ascii : (word : List ℕ) → AllDigits 10 word → IsAscii word
ascii word are k = elim (cases_lt k (length word)) [
  | inl below ↦ let digit = digit_at word k are below in omega arith
  | inr past ↦ let none : get_or word k 0 ≡ 0 = get_or_past word k 0 past in omega arith
]

-- digits are UTF-8
pub digits_utf8 : (word : List ℕ) → AllDigits 10 word → IsUtf8 word
digits_utf8 word are = IsUtf8-from_ascii word (ascii word are)

-- and what is UTF-8 is not refused
pub never_refused : {T E : Type 0} (r : Result T E) (U : Type 0) (P : T → Type 0) (Q : E → Type 0) → is_ok r ≡ false →
    MatchResult r P (λ e. (U → ⊥) × Q e) → U → ⊥
never_refused (Ok x) U P Q refused cases is = cc
never_refused (Err e) U P Q refused cases is = cases.0 is

-- where no byte is b: b is a blank or less, as a line feed is, and no byte of a word is
none_in_nil : (b : ℕ) → HasNo b []
none_in_nil b k below = absurd (omega arith)

none_in_cons : (b c : ℕ) (cs : List ℕ) → c ≢ b → HasNo b cs → HasNo b (c ∷ cs)
none_in_cons b c cs other none zero below = other
none_in_cons b c cs other none (suc k) below = none k (omega arith)

none_in_both : (b : ℕ) (xs ys : List ℕ) → HasNo b xs → HasNo b ys → HasNo b (xs ++ ys)
none_in_both b xs ys before following k below = elim (cases_lt k (length xs)) [
  | inl in_xs ↦ λ is. before k in_xs (sym (get_or_append_left xs ys 0 k in_xs) ∙ is)
  | inr past ↦
      λ is. following (k - length xs) (omega (arith, length-append xs ys)) (sym (get_or-append_right xs ys (length xs) k 0 refl past) ∙ is)
]

abbrev is_above : ℕ → Bool
is_above c = nat_lt 32 c

none_in_word : (b : ℕ) (word : List ℕ) → b ≤ 32 → list_all is_above word ≡ true → HasNo b word
none_in_word b word small all k below is =
    let one : list_all is_above word ≡ false = list_all_at is_above word k 0 below (ap is_above is ∙ le-ltb 32 b small) in cc

none_in_digits : (b : ℕ) (word : List ℕ) → b ≤ 32 → AllDigits 10 word → HasNo b word
none_in_digits b word small are k below is = let digit = digit_at word k are below in omega arith

none_in_form : (b : ℕ) (form : Form) → b ≤ 32 → HasNo b (form_word form)
none_in_form b Abs small = none_in_word b (form_word Abs) small refl
none_in_form b Pc small = none_in_word b (form_word Pc) small refl
none_in_form b NoForm small = none_in_word b (form_word NoForm) small refl

none_in_width : (b : ℕ) (width : Width) → b ≤ 32 → HasNo b (width_word width)
none_in_width b W1 small = none_in_word b (width_word W1) small refl
none_in_width b W2 small = none_in_word b (width_word W2) small refl
none_in_width b W4 small = none_in_word b (width_word W4) small refl
none_in_width b W8 small = none_in_word b (width_word W8) small refl

none_in_range : (b : ℕ) (range : Range) → b ≤ 32 → HasNo b (range_word range)
none_in_range b Signed small = none_in_word b (range_word Signed) small refl
none_in_range b Unsigned small = none_in_word b (range_word Unsigned) small refl
none_in_range b Wrap small = none_in_word b (range_word Wrap) small refl

-- a rule's line has no line feed
pub no_feed : (line : List ℕ) (rule : RelocRule) → IsRuleLine line rule → HasNo 10 line
no_feed line rule is =
    let small : 10 ≤ 32 = omega arith in
    let blank : (cs : List ℕ) → HasNo 10 cs → HasNo 10 (32 ∷ cs) = λ cs none. none_in_cons 10 32 cs (λ e. omega arith) none in
    let form = form_word rule.form in
    let width = width_word rule.width in
    let range = range_word rule.range in
    let last = none_in_range 10 rule.range small in
    let third = none_in_both 10 width (32 ∷ range) (none_in_width 10 rule.width small) (blank range last) in
    let second = none_in_both 10 form (32 ∷ (width ++ 32 ∷ range)) (none_in_form 10 rule.form small) (blank (width ++ 32 ∷ range) third) in
    rw is.2 (none_in_both 10 is.0 (32 ∷ (form ++ 32 ∷ (width ++ 32 ∷ range))) (none_in_digits 10 is.0 small is.1.0.1)
    (blank (form ++ 32 ∷ (width ++ 32 ∷ range)) second))

-- what is after the words of a rule's line
abbrev pub after_form : RelocRule → List ℕ
after_form rule = width_word rule.width ++ 32 ∷ range_word rule.range

abbrev pub after_kind : RelocRule → List ℕ
after_kind rule = form_word rule.form ++ 32 ∷ after_form rule

module _ (rule : RelocRule) where
  -- the words of a rule's line are those that are between its blanks
  pub cut_kind : (line : List ℕ) (is : IsRuleLine line rule) → AreCut 32 line is.0 (after_kind rule)
  cut_kind line is = (is.2, none_in_digits 32 is.0 (omega arith) is.1.0.1)

  pub cut_form : AreCut 32 (after_kind rule) (form_word rule.form) (after_form rule)
  cut_form = (refl, none_in_form 32 rule.form (omega arith))

  pub cut_width : AreCut 32 (after_form rule) (width_word rule.width) (range_word rule.range)
  cut_width = (refl, none_in_width 32 rule.width (omega arith))

  module _ (line kind rest : List ℕ) (first : AreCut 32 line kind rest) (is : IsRuleLine line rule) where
    pub kind_is : IsKindWord kind rule.kind
    kind_is = subst (λ word. IsKindWord word rule.kind) (one_cut 32 line is.0 (after_kind rule) kind rest (cut_kind line is) first).0 is.1

    pub rest_is : rest ≡ after_kind rule
    rest_is = (one_cut 32 line kind rest is.0 (after_kind rule) first (cut_kind line is)).1

    module _ (form last : List ℕ) (second : AreCut 32 rest form last) where
      both : (form ≡ form_word rule.form) × (last ≡ after_form rule)
      both = one_cut 32 rest form last (form_word rule.form) (after_form rule) second (rw rest_is cut_form)

      pub form_is : form ≡ form_word rule.form
      form_is = both.0

      pub last_is : last ≡ after_form rule
      last_is = both.1

      module _ (width range : List ℕ) (third : AreCut 32 last width range) where
        ends : (width ≡ width_word rule.width) × (range ≡ range_word rule.range)
        ends = one_cut 32 last width range (width_word rule.width) (range_word rule.range) third (rw last_is cut_width)

        pub width_is : width ≡ width_word rule.width
        width_is = ends.0

        pub range_is : range ≡ range_word rule.range
        range_is = ends.1

-- The lines of relocation rules, one more. Lines of rules and the line of one more rule are lines of one more rule, by induction on the
-- lines. If what follows lines of rules begins with a rule, so do all the bytes.

abbrev with_feed : List ℕ → List ℕ
with_feed line = line ++ 10 ∷ []

lines_more : (lines : List (List ℕ)) (rules : List RelocRule) (line : List ℕ) (rule : RelocRule) → AreRuleLines lines rules →
    IsRuleLine line rule
    → AreRuleLines (lines ++ line ∷ []) (rules ++ rule ∷ [])
lines_more [] [] line rule are is = (is, tt)
lines_more [] (r ∷ rules) line rule are is = absurd are
lines_more (l ∷ lines) [] line rule are is = absurd are
lines_more (l ∷ lines) (r ∷ rules) line rule are is = (are.0, lines_more lines rules line rule are.1 is)

joined_more : (lines : List (List ℕ)) (line : List ℕ) →
    concat (map with_feed (lines ++ line ∷ [])) ≡ concat (map with_feed lines) ++ with_feed line
joined_more lines line =
    ap concat (map-append with_feed lines (line ∷ [])) ∙ concat-append (map with_feed lines) (with_feed line ∷ [])
    ∙ ap (λ (bs : List ℕ). concat (map with_feed lines) ++ bs) (append-nil (with_feed line))

-- the lines of some rules, and then the line of one more
pub rules_more : (before line : List ℕ) (rules : List RelocRule) (rule : RelocRule) → AreRules before rules → IsRuleLine line rule →
    length rules < 256
    → AreRules (before ++ (line ++ 10 ∷ [])) (rules ++ rule ∷ [])
rules_more before line rules rule are is below =
    let lines = are.0 in
    let long : length (rules ++ rule ∷ []) ≤ 256 = omega (arith, length-append rules (rule ∷ [])) in
    (lines ++ line ∷ [], lines_more lines rules line rule are.1 is, rw (are.2, joined_more lines line) refl, long)

-- bytes whose rest begins with a line
pub line_passed : (bytes before rest line following : List ℕ) → bytes ≡ before ++ rest → rest ≡ line ++ 10 ∷ following →
    bytes ≡ (before ++ (line ++ 10 ∷ [])) ++ following
line_passed bytes before rest line following is begins = rw (is, begins) (simp append_assoc)

lead_on : (lines : List (List ℕ)) (rules : List RelocRule) (rest : List ℕ) → AreRuleLines lines rules → BeginsWithRule rest →
    BeginsWithRule (concat (map with_feed lines) ++ rest)
lead_on [] [] rest are begins = begins
lead_on [] (r ∷ rules) rest are begins = absurd are
lead_on (l ∷ lines) [] rest are begins = absurd are
lead_on (l ∷ lines) (r ∷ rules) rest are begins = (r, concat (map with_feed lines) ++ rest, (l, are.0, simp append_assoc))

-- bytes begin with a rule where lines of rules and the line of one more are at their front
pub begins_with_rule : (bytes before rest : List ℕ) (rules : List RelocRule) → AreRules before rules → bytes ≡ before ++ rest →
    BeginsWithRule rest → BeginsWithRule bytes
begins_with_rule bytes before rest rules are is begins = rw (is, are.2) (lead_on are.0 rules rest are.1 begins)
