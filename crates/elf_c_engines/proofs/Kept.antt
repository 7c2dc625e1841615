-- What was written into a text that was empty is the text. If it was not kept, its length is known, and the text is longer than the buffer,
-- or empty. Either way a call of an engine returns it.
use Rattle.std.proofs.Common.{◌≡◌, ◌∙◌, ◌<◌, ◌-◌, ◌^◌, ℕ, List, [], ◌∷◌, Some, Result, Ok, Err, MatchResult, arith, inl, inr, length, refl}
use Rattle.std.proofs.Common.{subst, sym}
use Rattle.elf_tool_check.specs.Engine.{HasLength, IsMeasured, Prints}
use Rattle.elf_tool_check.specs.declared.calls.Verdict.{Verdict}
use Rattle.elf_tool_show.specs.Show.{IsShownOf, ShowSays}
use Rattle.elf_c_engines.specs.declared.calls.CallFault.{CallFault}
use Rattle.elf_c_engines.specs.declared.calls.CallFault.TheVariants.{OutOfMemory}
use Rattle.elf_c_engines.specs.declared.calls.Outcome.{Outcome}
use Rattle.elf_c_engines.specs.declared.said.Said.{Said}
use Rattle.elf_c_engines.specs.Calls.{IsAnswered, IsEngineCall, IsSaid, IsUnkept, IsPutOrTooSmall}

-- ---- all of it is kept

pub whole_said : (Says : Verdict → List ℕ → Type 0) (most : ℕ) (said : Said) (verdict : Verdict) (text : List ℕ) → said.verdict ≡ verdict →
    said.length ≡ length text → said.text.items ≡ text → Says verdict text → IsSaid Says most said
whole_said Says most said verdict text same long kept says =
    (text, subst (λ (v : Verdict). Says v text) (sym same) says, long, (λ fits. kept))

-- what is said into an empty text is all that this holds
pub said_text : (Says : Verdict → List ℕ → Type 0) (old new : List ℕ) (verdict : Verdict) → old ≡ [] →
    Prints Says (Some old) (Some new) (Ok verdict) → Says verdict new
said_text Says old new verdict empty (text, says, all) = rw (all, empty) says

pub shown_text : (b old new : List ℕ) (verdict : Verdict) → old ≡ [] → IsShownOf b (Some old) (Some new) (Ok verdict) →
    ShowSays b verdict new
shown_text b old new verdict empty (inl (never, kept)) = absurd cc
shown_text b old new verdict empty (inr returned) = rw (returned.written, empty, returned.answer) returned.is

-- ---- nothing is

nothing : (xs : List ℕ) → length xs ≡ 0 → [] ≡ xs
nothing [] none = refl
nothing (x ∷ xs) none = absurd (omega arith)

unkept : (Says : Verdict → List ℕ → Type 0) (verdict : Verdict) (n most : ℕ) (said : Said) (text : List ℕ) → Says verdict text →
    n ≡ length text →
    IsUnkept verdict n most said → IsSaid Says most said
unkept Says verdict n most said text says long is =
    let same = is.length_is in (
      text,
      subst (λ (v : Verdict). Says v text) (sym is.verdict_is) says,
      same ∙ long,
      (λ fits. (let none = is.long (omega arith) in is.text ∙ nothing text (omega arith))),
    )

module _ (Fails : CallFault → Type 0) (Says : Verdict → List ℕ → Type 0) (verdict : Verdict) (n most : ℕ)
    (refused : Fails OutOfMemory) where
  returned : (result : Result Said CallFault) (text : List ℕ) → Says verdict text → (n < 2 ^ 64 - 1 → n ≡ length text) →
      MatchResult result (IsUnkept verdict n most) (λ fault. fault ≡ OutOfMemory) → MatchResult result (IsSaid Says most) Fails
  returned (Ok said) text says long is = unkept Says verdict n most said text says (long is.exact) is
  returned (Err fault) text says long is = subst Fails (sym is) refused

  pub exact_returned : (result : Result Said CallFault) → HasLength Says (verdict, n) →
      MatchResult result (IsUnkept verdict n most) (λ fault. fault ≡ OutOfMemory) → MatchResult result (IsSaid Says most) Fails
  exact_returned result (text, says, long) is = returned result text says (λ short. long) is

  pub measured_returned : (result : Result Said CallFault) → IsMeasured Says (verdict, n) →
      MatchResult result (IsUnkept verdict n most) (λ fault. fault ≡ OutOfMemory) → MatchResult result (IsSaid Says most) Fails
  measured_returned result (text, says, long) is = returned result text says (λ short. omega arith) is

-- ---- said of other words

pub said_as : (P Q : Verdict → List ℕ → Type 0) (F G : CallFault → Type 0) (most : ℕ) (result : Result Said CallFault) →
    ((v : Verdict) (t : List ℕ) → P v t → Q v t) → ((fault : CallFault) → F fault → G fault) → MatchResult result (IsSaid P most) F →
    MatchResult result (IsSaid Q most) G
said_as P Q F G most (Ok said) into fails (text, says, long, kept) = (text, into said.verdict text says, long, kept)
said_as P Q F G most (Err fault) into fails failed = fails fault failed

-- ---- a call

pub called : (Says : Verdict → List ℕ → Type 0) (Fails : CallFault → Type 0) (most : ℕ) (old new : List ℕ) (outcome : Outcome) (status : ℕ)
    (result : Result Said CallFault) → most ≡ length old → MatchResult result (IsSaid Says most) Fails →
    IsAnswered result old new outcome status →
    IsEngineCall Says Fails old new outcome status
called Says Fails most old new outcome status (Ok said) room (text, says, long, kept) (inl (short, same, code, numbers)) =
    inl (said.verdict, text, says, inr (record { short = omega arith; room = same; status = code; numbers = rw long at numbers }))
called Says Fails most old new outcome status (Ok said) room (text, says, long, kept) (inr (fits, into)) =
    inl (said.verdict, text, says, subst (λ (t : List ℕ). IsPutOrTooSmall said.verdict t old new outcome status) (kept (omega arith)) into)
called Says Fails most old new outcome status (Err fault) room failed answered = inr (fault, failed, answered)
