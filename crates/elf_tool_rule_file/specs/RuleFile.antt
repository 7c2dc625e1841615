-- Files of relocation rules: words, lines, and the rules that they say.
use Rattle.std.specs.Prelude.{◌≡◌, ◌≢◌, ℕ, ◌<◌, List, ◌∷◌, ◌++◌, length, slice_index, ◌^◌, [], codes, ◌⊎◌, ◌+◌, ◌≤◌, map}
use Rattle.std.specs.List.{join_with_byte, concat}
use Rattle.std.specs.Str.Parse.{IsNumeral, digits_value}
use Rattle.elf_link_field.specs.declared.rule.Form.TheVariants.{Abs, Pc, None as NoForm}
use Rattle.elf_link_field.specs.declared.rule.Form.{Form}
use Rattle.elf_link_field.specs.declared.rule.Range.TheVariants.{Signed, Unsigned, Wrap}
use Rattle.elf_link_field.specs.declared.rule.Range.{Range}
use Rattle.elf_link_field.specs.declared.rule.RelocRule.{RelocRule}
use Rattle.elf_link_field.specs.declared.rule.Width.TheVariants.{W1, W2, W4, W8}
use Rattle.elf_link_field.specs.declared.rule.Width.{Width}
use Rattle.elf_tool_rule_file.specs.declared.file.RulesFault.TheVariants.{BadLine, OutOfMemory}
use Rattle.elf_tool_rule_file.specs.declared.file.RulesFault.{RulesFault}

-- Bytes cut at the first byte of some value.

-- no byte is b
abbrev pub HasNo : ℕ → List ℕ → Type 0
HasNo b bytes = (k : ℕ) → k < length bytes → slice_index bytes k ≢ b

-- what is before the first b, and after it
abbrev pub AreCut : ℕ → List ℕ → List ℕ → List ℕ → Type 0
AreCut b bytes before later = (bytes ≡ before ++ b ∷ later) × HasNo b before

-- The line of a relocation rule: `KIND abs|pc|none 1|2|4|8 signed|unsigned|wrap`.

-- one decimal digit or more, which write the kind
abbrev pub IsKindWord : List ℕ → ℕ → Type 0
IsKindWord word kind = IsNumeral 10 word × (digits_value 10 word ≡ kind) × (kind < 2 ^ 32)

abbrev pub form_word : Form → List ℕ
form_word Abs = codes "abs"
form_word Pc = codes "pc"
form_word NoForm = codes "none"

abbrev pub width_word : Width → List ℕ
width_word W1 = codes "1"
width_word W2 = codes "2"
width_word W4 = codes "4"
width_word W8 = codes "8"

abbrev pub range_word : Range → List ℕ
range_word Signed = codes "signed"
range_word Unsigned = codes "unsigned"
range_word Wrap = codes "wrap"

-- the words of a rule, with one blank between each two
abbrev pub line_of : List ℕ → RelocRule → List ℕ
line_of kind rule = join_with_byte 32 (kind ∷ form_word rule.form ∷ width_word rule.width ∷ range_word rule.range ∷ [])

abbrev pub IsRuleLine : List ℕ → RelocRule → Type 0
IsRuleLine line rule = (kind : List ℕ) × IsKindWord kind rule.kind × (line ≡ line_of kind rule)

-- A file of relocation rules, a line each, and the first of its lines that is bad.

-- the lines of these relocation rules, in order
abbrev pub AreRuleLines : List (List ℕ) → List RelocRule → Type 0
AreRuleLines [] [] = Unit {0}
AreRuleLines [] (rule ∷ rules) = ⊥
AreRuleLines (line ∷ lines) [] = ⊥
AreRuleLines (line ∷ lines) (rule ∷ rules) = IsRuleLine line rule × AreRuleLines lines rules

-- the bytes are the lines of these rules, each with its line feed
abbrev pub AreRules : List ℕ → List RelocRule → Type 0
AreRules bytes rules =
    (lines : List (List ℕ)) × AreRuleLines lines rules × (bytes ≡ concat (map (λ line. line ++ 10 ∷ []) lines)) × (length rules ≤ 256)

-- the bytes are the line of this rule, a line feed, and the rest
abbrev pub IsRuleFollowed : List ℕ → RelocRule → List ℕ → Type 0
IsRuleFollowed bytes rule rest = (line : List ℕ) × IsRuleLine line rule × (bytes ≡ line ++ 10 ∷ rest)

abbrev pub BeginsWithRule : List ℕ → Type 0
BeginsWithRule bytes = (rule : RelocRule) × (rest : List ℕ) × IsRuleFollowed bytes rule rest

-- line n is bad, and those before it are the lines of rules: what is after them is something, but doesn't begin with the line of a rule, or
-- n is 257
abbrev pub IsBadLine : List ℕ → ℕ → Type 0
IsBadLine bytes n =
    (before rest : List ℕ) × (rules : List RelocRule) × (bytes ≡ before ++ rest) × AreRules before rules × (n ≡ length rules + 1)
    × (0 < length rest) × ((n ≡ 257) ⊎ (BeginsWithRule rest → ⊥))

-- why the bytes give no relocation rules: a line is bad, or an allocation failed for the rule of a line
abbrev pub IsRulesFault : List ℕ → RulesFault → Type 0
IsRulesFault bytes (BadLine n) = IsBadLine bytes n
IsRulesFault bytes OutOfMemory = BeginsWithRule bytes
