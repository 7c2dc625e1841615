-- Calls of engines: a fault before anything is written keeps the output as it was, and a fault of the writer leaves the first bytes of the
-- text. If a file was read whole and its report is printed, or nothing is, that is a call that allocates first (`said`).
use Rattle.std.proofs.Common.{◌≡◌, ◌∙◌, ℕ, ◌+◌, ◌^◌, ◌≤◌, ◌⊎◌, List, Option, Result, Ok, Err, inl, inr, length, refl, sym}
use Rattle.std.specs.Io.KnownBytes.{Consumes, IsAtEnd, Keeps}
use Rattle.std.proofs.KnownBytes.{Keeps-refl}
use Rattle.elf_tool_check.specs.Engine.{IsFileCall, IsFileCallAllocatingFirst, WritesPrefix, IsReadFaultAfter, Prints, Report}
use Rattle.elf_tool_check.specs.declared.calls.ToolFault.TheVariants.{Read, Write, OutOfMemory}
use Rattle.elf_tool_check.specs.declared.calls.ToolFault.{ToolFault}
use Rattle.elf_tool_check.specs.declared.calls.Verdict.{Verdict}

-- ---- a fault before anything is written

module _ (report : Report) (input rest old : Option (List ℕ)) (read items : List ℕ) (count : ℕ) (same : read ≡ items)
    (long : length read ≡ count)
    (taken : Consumes input rest items) (limit : count ≤ 2 ^ 30 + 1) where
  pub given_up : (fault : ToolFault) → IsReadFaultAfter fault count → IsFileCall report input rest old old (Err fault)
  given_up (Read at) is =
      record { bytes = read; taken = rw same taken; limit = rw long limit; answered = inl (is ∙ sym long, Keeps-refl old) }
  given_up OutOfMemory is = record { bytes = read; taken = rw same taken; limit = rw long limit; answered = inl (Keeps-refl old) }
  given_up (Write written) is = absurd is

-- so what was written is kept when out of memory too
pub kept_early : {report : Report} {input rest old : Option (List ℕ)} {fault : ToolFault} → IsFileCall report input rest old old (Err fault)
    → IsFileCallAllocatingFirst report input rest old old (Err fault)
kept_early {old = old} answered = record { answered = answered; memory = λ refused. Keeps-refl old }

-- ---- a fault while the text is written

-- a file was read, whole, and a fault came with the first bytes of its text out
pub stopped : (report : Report) (input rest old new : Option (List ℕ)) (read items : List ℕ) (count : ℕ) (verdict : Verdict) (text : List ℕ)
    (fault : ToolFault) → read ≡ items → length read ≡ count → Consumes input rest items → count ≤ 2 ^ 30 + 1 →
    IsAtEnd rest ⊎ (count ≡ 2 ^ 30 + 1)
    → report read verdict text → WritesPrefix text old new fault → IsFileCall report input rest old new (Err fault)
stopped report input rest old new read items count verdict text fault same long taken limit whole is cut = record {
  bytes = read;
  taken = rw same taken;
  limit = rw long limit;
  answered = inr (rw long whole, record { verdict = verdict; text = text; is = is; answer = tt; written = cut });
}

-- ---- what is said of a file that was read

pub said_more : (Says More : Verdict → List ℕ → Type 0) (old new : Option (List ℕ)) →
    ((verdict : Verdict) (text : List ℕ) → Says verdict text → More verdict text)
    → (result : Result Verdict ToolFault) → Prints Says old new result → Prints More old new result
said_more Says More old new more (Ok verdict) (text, says, out) = (text, more verdict text says, out)
said_more Says More old new more (Err (Read at)) said = said
said_more Says More old new more (Err (Write written)) (verdict, text, says, cut) = (verdict, text, more verdict text says, cut)
said_more Says More old new more (Err OutOfMemory) said = said

module _ (report : Report) (input rest old new : Option (List ℕ)) (read items : List ℕ) (count : ℕ) (same : read ≡ items)
    (long : length read ≡ count)
    (taken : Consumes input rest items) (limit : count ≤ 2 ^ 30 + 1) (whole : IsAtEnd rest ⊎ (count ≡ 2 ^ 30 + 1)) where
  answered_with : (result : Result Verdict ToolFault) → Prints (report read) old new result → IsFileCall report input rest old new result
  answered_with (Ok verdict) (text, says, out) = record {
    bytes = read;
    taken = rw same taken;
    limit = rw long limit;
    answered = inr (rw long whole, record { verdict = verdict; text = text; is = says; answer = refl; written = out });
  }
  answered_with (Err (Read at)) said = absurd said
  answered_with (Err (Write written)) (verdict, text, says, cut) = record {
    bytes = read;
    taken = rw same taken;
    limit = rw long limit;
    answered = inr (rw long whole, record { verdict = verdict; text = text; is = says; answer = tt; written = cut });
  }
  answered_with (Err OutOfMemory) kept = record { bytes = read; taken = rw same taken; limit = rw long limit; answered = inl kept }

  kept_with : (result : Result Verdict ToolFault) → Prints (report read) old new result → result ≡ Err OutOfMemory → Keeps old new
  kept_with (Ok verdict) said refused = cc
  kept_with (Err (Read at)) said refused = cc
  kept_with (Err (Write written)) said refused = cc
  kept_with (Err OutOfMemory) kept refused = kept

  pub said : (result : Result Verdict ToolFault) → Prints (report read) old new result →
      IsFileCallAllocatingFirst report input rest old new result
  said result says = record { answered = answered_with result says; memory = kept_with result says }

-- ---- what is said of other words

pub said_as : (P Q : Verdict → List ℕ → Type 0) (old new : Option (List ℕ)) (result : Result Verdict ToolFault) →
    ((v : Verdict) (t : List ℕ) → P v t → Q v t) → Prints P old new result → Prints Q old new result
said_as P Q old new (Ok v) into (t, says, went) = (t, into v t says, went)
said_as P Q old new (Err (Read at)) into says = absurd says
said_as P Q old new (Err (Write written)) into (v, t, says, cut) = (v, t, into v t says, cut)
said_as P Q old new (Err OutOfMemory) into says = says
