-- `rewrite` prints at most one thing of bytes, by cases. They are one image that denotes one object with one canonical layout, which is too
-- long or not. Or one rule is broken first, of images or of objects' files. No two of these come together.
use Rattle.std.proofs.Common.{◌≡◌, ◌∙◌, ℕ, List, [], ap, arith, refl, sym}
use Rattle.std.specs.Prelude.{None, Some}
use Rattle.elf_image_outline.specs.Image.{ImageValue, IsImage}
use Rattle.elf_image_rules.specs.Rows.{FirstIn, Ruled}
use Rattle.elf_image_rules.specs.Rules.{rules_in}
use Rattle.elf_image_type.proofs.Public.{one_image}
use Rattle.elf_object_layout.proofs.Public.{one_layout}
use Rattle.elf_object_reader.proofs.Public.{one_object}
use Rattle.elf_object_reader.specs.Denotes.{Denotes}
use Rattle.elf_object_reader.specs.FileRules.{file_rules}
use Rattle.elf_object_type.specs.Object.{ObjectValue}
use Rattle.elf_table_symbols.specs.Sections.{Sections, sections_of}
use Rattle.elf_tool_check.proofs.SaysOne.{none_first, of_holding, of_one, one_first, or_refused}
use Rattle.elf_tool_check.specs.Engine.{IsOneReport, SaysOne}
use Rattle.elf_tool_rewrite.specs.Rewrite.{ObjectSays, RewriteRefuses, RewriteSays, SectionsSay}
use Rattle.elf_tool_check.specs.declared.calls.Refusal.TheVariants.{File, Link, TooLong}
use Rattle.elf_tool_check.specs.declared.calls.Verdict.TheVariants.{Done, Refused}
use Rattle.elf_tool_check.specs.declared.calls.Verdict.{Verdict}

pub of_object : (o : ObjectValue) → SaysOne (ObjectSays o)
of_object o Done Done s t here there = (refl, one_layout o s t here.laid there.laid)
of_object o Done (Refused TooLong) s t here (long, none) = (let more = long s here.laid in let short = here.short in absurd (omega arith))
of_object o (Refused TooLong) Done s t (long, none) there =
    (let more = long t there.laid in let short = there.short in absurd (omega arith))
of_object o (Refused TooLong) (Refused TooLong) s t here there = (refl, here.1 ∙ sym there.1)
of_object o (Refused (File file rule at)) w s t here there = absurd here
of_object o (Refused (Link rule file index entry)) w s t here there = absurd here
of_object o v (Refused (File file rule at)) s t here there = absurd there
of_object o v (Refused (Link rule file index entry)) s t here there = absurd there

-- ---- refusals

-- those of a list of rules
abbrev Refuses : List {1} (Ruled ℕ) → Verdict → List ℕ → Type 0
Refuses rules = RewriteRefuses (λ rule at. FirstIn rules (Some (rule, at)))

abbrev verdict_of : ℕ × ℕ → Verdict
verdict_of fault = Refused (File 0 fault.0 fault.1)

refused : (rules : List {1} (Ruled ℕ)) (v : Verdict) (s : List ℕ) → Refuses rules v s →
    (fault : ℕ × ℕ) × FirstIn rules (Some fault) × (v ≡ verdict_of fault) × (s ≡ [])
refused rules Done s never = absurd never
refused rules (Refused (File file rule at)) s (first, zero_is, none) =
    ((rule, at), first, ap (λ (n : ℕ). Refused (File n rule at)) zero_is, none)
refused rules (Refused (Link rule file index entry)) s never = absurd never
refused rules (Refused TooLong) s never = absurd never

-- ---- the file

of_sections : (f : Sections) → SaysOne (SectionsSay f)
of_sections f =
    or_refused (λ (fault : ℕ × ℕ). FirstIn (file_rules f) (Some fault)) verdict_of (λ (fault : ℕ × ℕ). [])
    (λ v s. FirstIn (file_rules f) None × ((o : ObjectValue) × Denotes f o × ObjectSays o v s)) (Refuses (file_rules f))
    (of_holding (FirstIn (file_rules f) None) (λ v s. (o : ObjectValue) × Denotes f o × ObjectSays o v s)
    (λ clean. of_one (Denotes f) ObjectSays (one_object f) (λ o denotes. of_object o)))
    (one_first (file_rules f)) (refused (file_rules f)) (λ v s fault (clean, says). none_first (file_rules f) fault clean)

pub one_rewrite : IsOneReport RewriteSays
one_rewrite b =
    or_refused (λ (fault : ℕ × ℕ). FirstIn (rules_in b) (Some fault)) verdict_of (λ (fault : ℕ × ℕ). [])
    (λ v s. (i : ImageValue) × IsImage i b × SectionsSay (sections_of i) v s) (Refuses (rules_in b))
    (of_one (λ i. IsImage i b) (λ i. SectionsSay (sections_of i)) (λ i j. one_image i j b) (λ i image. of_sections (sections_of i)))
    (one_first (rules_in b)) (refused (rules_in b)) (λ v s fault (i, image, says). none_first (rules_in b) fault image.clean)
