-- `show` prints at most one thing of bytes. They are one image, whose tables have one verdict each, or one rule is broken first, and these
-- two never come together. The text is a function of what it is (`of_answer`).
use Rattle.std.proofs.Common.{◌≡◌, ◌∙◌, ℕ, List, ap, arith, refl, sym, ◌<◌, ◌⊎◌, ap₂, get_or, inl, inr, length, subst}
use Rattle.std.specs.Prelude.{None, Some, Option}
use Rattle.std.proofs.lemmas.List.{ext_get_or}
use Rattle.elf_image_outline.specs.Image.{ImageValue}
use Rattle.elf_image_rules.proofs.Public.{one_fault}
use Rattle.elf_image_rules.specs.Rules.{rules_in, IsFault}
use Rattle.elf_image_type.proofs.Public.{one_image}
use Rattle.elf_table_all.specs.Tables.{table_rules, AreVerdicts, TablesValue}
use Rattle.elf_table_symbols.specs.Sections.{Sections, sections_of}
use Rattle.elf_tool_check.proofs.SaysOne.{none_first, of_answer, one_first}
use Rattle.elf_tool_check.specs.Engine.{IsOneReport}
use Rattle.elf_tool_show.specs.Show.{AreVerdictsOf, ShowSays, show_text}
use Rattle.elf_tool_check.specs.FileLines.{refused_line}
use Rattle.elf_tool_check.specs.declared.calls.Refusal.TheVariants.{File, Link, TooLong}
use Rattle.elf_tool_check.specs.declared.calls.Verdict.TheVariants.{Done, Refused}
use Rattle.elf_tool_check.specs.declared.calls.Verdict.{Verdict}

-- ---- the image and the verdicts on its tables

one_verdicts : (f : Sections) (end : ℕ) (xs ys : List (Option (ℕ × ℕ))) → AreVerdicts f end xs → AreVerdicts f end ys → xs ≡ ys
one_verdicts f end xs ys one other = ext_get_or None xs ys (one.long ∙ sym other.long) (λ i lt. (
    let within : i < end = (let long = one.long in omega arith) in
    one_fault (table_rules f i) (get_or xs i None) (get_or ys i None) (one.right i within) (other.right i within)))

one_tables : (b : List ℕ) (x y : TablesValue) → AreVerdictsOf b x → AreVerdictsOf b y → x ≡ y
one_tables b x y one other =
    let image = one_image x.image y.image b one.image other.image in
    ap₂ (λ (i : ImageValue) (vs : List (Option (ℕ × ℕ))). record { image = i; verdicts = vs }) image
    (one_verdicts (sections_of x.image) (length x.image.sections) x.verdicts y.verdicts one.verdicts
    (subst (λ (i : ImageValue). AreVerdicts (sections_of i) (length i.sections) y.verdicts) (sym image) other.verdicts))

-- ---- them, or the rule that the file breaks first

abbrev Is : List ℕ → TablesValue ⊎ (ℕ × ℕ) → Type 0
Is b (inl tables) = AreVerdictsOf b tables
Is b (inr fault) = IsFault b (Some fault)

abbrev show_verdict_of : TablesValue ⊎ (ℕ × ℕ) → Verdict
show_verdict_of (inl tables) = Done
show_verdict_of (inr fault) = Refused (File 0 fault.0 fault.1)

abbrev text_of : List ℕ → TablesValue ⊎ (ℕ × ℕ) → List ℕ
text_of b (inl tables) = show_text b tables
text_of b (inr fault) = refused_line fault.0 fault.1

one_answer : (b : List ℕ) (x y : TablesValue ⊎ (ℕ × ℕ)) → Is b x → Is b y → x ≡ y
one_answer b (inl x) (inl y) one other = ap inl (one_tables b x y one other)
one_answer b (inl x) (inr f) one other = absurd (none_first (rules_in b) f one.image.clean other)
one_answer b (inr f) (inl y) one other = absurd (none_first (rules_in b) f other.image.clean one)
one_answer b (inr f) (inr g) one other = ap inr (one_first (rules_in b) f g one other)

known : (b : List ℕ) (v : Verdict) (s : List ℕ) → ShowSays b v s →
    (x : TablesValue ⊎ (ℕ × ℕ)) × Is b x × (v ≡ show_verdict_of x) × (s ≡ text_of b x)
known b Done s (tables, are, text) = (inl tables, are, refl, text)
known b (Refused (File file rule at)) s (fault, zero_is, line) =
    (inr (rule, at), fault, ap (λ (n : ℕ). Refused (File n rule at)) zero_is, line)
known b (Refused (Link rule file index entry)) s never = absurd never
known b (Refused TooLong) s never = absurd never

pub one_show : IsOneReport ShowSays
one_show b = of_answer (Is b) show_verdict_of (text_of b) (ShowSays b) (one_answer b) (known b)
