-- How it is shown that a report is one: if each case has one answer and no two cases come together, there is one answer in all. `check` is
-- the first report that is shown so.
use Rattle.std.proofs.Common.{◌≡◌, ◌∙◌, ◌⊎◌, ℕ, List, ap, inl, inr, length, refl, subst, sym}
use Rattle.std.specs.Prelude.{Option, None, Some}
use Rattle.elf_image_rules.proofs.Public.{one_fault}
use Rattle.elf_image_rules.specs.Rows.{FirstIn, Ruled}
use Rattle.elf_image_rules.specs.Rules.{IsFault, rules_in}
use Rattle.elf_tool_check.specs.Check.{CheckSays, file_sections, file_segments, verdict_of}
use Rattle.elf_tool_check.specs.Engine.{IsOneReport, SaysOne}
use Rattle.elf_tool_check.specs.FileLines.{ok_line, refused_line}
use Rattle.elf_tool_check.specs.declared.calls.Refusal.TheVariants.{File, Link, TooLong}
use Rattle.elf_tool_check.specs.declared.calls.Verdict.TheVariants.{Done, Refused}
use Rattle.elf_tool_check.specs.declared.calls.Verdict.{Verdict}

-- of one answer, which gives both
pub of_answer : {A : Type 0} (Is : A → Type 0) (verdict : A → Verdict) (text : A → List ℕ) (Says : Verdict → List ℕ → Type 0) →
    ((a b : A) → Is a → Is b → a ≡ b) → ((v : Verdict) (s : List ℕ) → Says v s → (a : A) × Is a × (v ≡ verdict a) × (s ≡ text a)) →
    SaysOne Says
of_answer Is verdict text Says one known v w s t here there =
    let (a, is, verdict_is, text_is) = known v s here in
    let (b, are, verdict_also, text_also) = known w t there in
    let same = one a b is are in
    (verdict_is ∙ ap verdict same ∙ sym verdict_also, text_is ∙ ap text same ∙ sym text_also)

-- of the one value that is there
pub of_one : {A : Type 0} (Is : A → Type 0) (Says : A → Verdict → List ℕ → Type 0) → ((a b : A) → Is a → Is b → a ≡ b) →
    ((a : A) → Is a → SaysOne (Says a)) →
    SaysOne (λ v s. (a : A) × Is a × Says a v s)
of_one Is Says same one v w s t (a, is, here) (b, are, there) = one a is v w s t here (subst (λ c. Says c w t) (same b a are is) there)

-- where something holds
pub of_holding : (P : Type 0) (Says : Verdict → List ℕ → Type 0) → (P → SaysOne Says) → SaysOne (λ v s. P × Says v s)
of_holding P Says one v w s t (holds, here) (again, there) = one holds v w s t here there

-- of what says something, and of a refusal, which has one answer and comes only where nothing else is said
pub or_refused : {A : Type 0} (IsFirst : A → Type 0) (verdict : A → Verdict) (text : A → List ℕ)
    (Says Refuses : Verdict → List ℕ → Type 0) → SaysOne Says →
    ((a b : A) → IsFirst a → IsFirst b → a ≡ b) →
    ((v : Verdict) (s : List ℕ) → Refuses v s → (a : A) × IsFirst a × (v ≡ verdict a) × (s ≡ text a)) →
    ((v : Verdict) (s : List ℕ) (a : A) → Says v s → IsFirst a → ⊥) → SaysOne (λ v s. Says v s ⊎ Refuses v s)
or_refused IsFirst verdict text Says Refuses says one known apart v w s t (inl here) (inl there) = says v w s t here there
or_refused IsFirst verdict text Says Refuses says one known apart v w s t (inl here) (inr there) =
    (let (a, first, verdict_is, text_is) = known w t there in absurd (apart v s a here first))
or_refused IsFirst verdict text Says Refuses says one known apart v w s t (inr here) (inl there) =
    (let (a, first, verdict_is, text_is) = known v s here in absurd (apart w t a there first))
or_refused IsFirst verdict text Says Refuses says one known apart v w s t (inr here) (inr there) =
    of_answer IsFirst verdict text Refuses one known v w s t here there

-- Of a list of rules there is at most one that is broken first, with one offset, and none where no rule is broken.

pub same_some : {A : Type 0} (a b : A) → ◌≡◌ {A = Option A} (Some a) (Some b) → a ≡ b
same_some a b e = cc

pub none_some : {A : Type 0} (a : A) → ◌≡◌ {A = Option A} None (Some a) → ⊥
none_some a e = cc

pub one_first : (rules : List {1} (Ruled ℕ)) (f g : ℕ × ℕ) → FirstIn rules (Some f) → FirstIn rules (Some g) → f ≡ g
one_first rules f g first other = same_some f g (one_fault rules (Some f) (Some g) first other)

pub none_first : (rules : List {1} (Ruled ℕ)) (f : ℕ × ℕ) → FirstIn rules None → FirstIn rules (Some f) → ⊥
none_first rules f clean first = none_some f (one_fault rules None (Some f) clean first)

-- `check` says one thing of bytes.

-- the line on the rule that the file breaks first, if any
abbrev line_of : List ℕ → Option (ℕ × ℕ) → List ℕ
line_of b None = ok_line (length b) (file_sections b) (file_segments b)
line_of b (Some fault) = refused_line fault.0 fault.1

known : (b : List ℕ) (v : Verdict) (s : List ℕ) → CheckSays b v s →
    (found : Option (ℕ × ℕ)) × IsFault b found × (v ≡ verdict_of found) × (s ≡ line_of b found)
known b Done s (clean, line) = (None, clean, refl, line)
known b (Refused (File file rule at)) s (fault, zero_is, line) =
    (Some (rule, at), fault, ap (λ (n : ℕ). Refused (File n rule at)) zero_is, line)
known b (Refused (Link rule file index entry)) s never = absurd never
known b (Refused TooLong) s never = absurd never

pub one_check : IsOneReport CheckSays
one_check b = of_answer (IsFault b) verdict_of (line_of b) (CheckSays b) (one_fault (rules_in b)) (known b)
