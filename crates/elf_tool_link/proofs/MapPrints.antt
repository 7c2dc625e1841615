-- How `map` prints: a text at once, or line by line as it is made. Of a text that is shorter than 2^64 bytes both count exactly.
use Rattle.std.proofs.Common.{◌≡◌, ◌<◌, ◌^◌, ℕ, List, [], Option, Result, Ok, Err, length, refl, subst, sym}
use Rattle.elf_tool_check.specs.Engine.{IsCutAt, Prints}
use Rattle.elf_tool_check.specs.declared.calls.ToolFault.TheVariants.{Read, Write, OutOfMemory}
use Rattle.elf_tool_check.specs.declared.calls.ToolFault.{ToolFault}
use Rattle.elf_tool_check.specs.declared.calls.Verdict.TheVariants.{Done, Refused}
use Rattle.elf_tool_check.specs.declared.calls.Verdict.{Verdict}
use Rattle.elf_tool_link.specs.Map.{CountsLine, CountsMap, PrintsMap}
use Rattle.elf_tool_text.specs.Buffered.{Buffers, IsCutBy, IsCutShort}
use Rattle.elf_tool_text.specs.declared.output.Output.{Output}
use Rattle.elf_tool_text.proofs.Public.{all_counted, all_cut, cut_flushed}

cut_at_once : (verdict : Verdict) (old new : Option (List ℕ)) (text : List ℕ) (written : ℕ) → IsCutAt old new text written →
    IsCutBy verdict old new text written
cut_at_once Done old new text written (below, out) = (written, below, out, λ short. refl)
cut_at_once (Refused refusal) old new text written cut = cut

-- what is printed at once, said of other words
pub at_once : (P Q : Verdict → List ℕ → Type 0) (old new : Option (List ℕ)) (result : Result (Verdict × ℕ) ToolFault) →
    ((v : Verdict) (t : List ℕ) → P v t → Q v t) → CountsLine P old new result → CountsMap Q old new result
at_once P Q old new (Ok said) into (t, says, out) = (t, into said.0 t says, out)
at_once P Q old new (Err (Read at)) into says = absurd says
at_once P Q old new (Err (Write written)) into (v, t, says, cut) = (v, t, into v t says, cut_at_once v old new t written cut)
at_once P Q old new (Err OutOfMemory) into says = says

pub mapped_as : (P Q : Verdict → List ℕ → Type 0) (old new : Option (List ℕ)) (result : Result (Verdict × ℕ) ToolFault) →
    ((v : Verdict) (t : List ℕ) → P v t → Q v t) → CountsMap P old new result → CountsMap Q old new result
mapped_as P Q old new (Ok said) into (t, says, out) = (t, into said.0 t says, out)
mapped_as P Q old new (Err (Read at)) into says = absurd says
mapped_as P Q old new (Err (Write written)) into (v, t, says, cut) = (v, t, into v t says, cut)
mapped_as P Q old new (Err OutOfMemory) into says = says

-- where each text of a map is shorter than 2^64 bytes
pub exactly : (Says : Verdict → List ℕ → Type 0) (old new : Option (List ℕ)) (result : Result Verdict ToolFault) →
    ((text : List ℕ) → Says Done text → length text < 2 ^ 64) → PrintsMap Says old new result → Prints Says old new result
exactly Says old new (Ok v) short says = says
exactly Says old new (Err (Read at)) short says = absurd says
exactly Says old new (Err (Write written)) short (Done, text, says, (count, below, out, same)) =
    (Done, text, says, subst (λ (n : ℕ). IsCutAt old new text n) (sym (same (short text says))) (below, out))
exactly Says old new (Err (Write written)) short (Refused refusal, text, says, cut) = (Refused refusal, text, says, cut)
exactly Says old new (Err OutOfMemory) short says = says

-- ---- lines that are passed on as they are made, from the first one on

module _ (Says : Verdict → List ℕ → Type 0) (a : Option (List ℕ)) (o : Output) (text : List ℕ) (is : Says Done text)
    (empty : o.pending.items ≡ [])
    (none : o.written ≡ 0) where
  -- they stop
  pub lines_stopped : (c : Option (List ℕ)) (written : ℕ) → IsCutShort a c o text (Write written) → PrintsMap Says a c (Err (Write written))
  lines_stopped c written stop = (Done, text, is, all_cut a c o text (Write written) empty none stop)

  -- or do so when the last of them are written
  pub last_stopped : (b c : Option (List ℕ)) (p : Output) (written : ℕ) → Buffers a b o p text → IsCutShort b c p [] (Write written)
      → PrintsMap Says a c (Err (Write written))
  last_stopped b c p written sent stop = lines_stopped c written (cut_flushed a b c o p text (Write written) sent stop)

  -- or all are written, and counted
  pub lines_written : (b c : Option (List ℕ)) (p q : Output) (count : ℕ) → Buffers a b o p text → Buffers b c p q [] → q.pending.items ≡ []
      → count ≡ q.written → count < 2 ^ 64 → CountsMap Says a c (Ok (Done, count))
  lines_written b c p q count sent flushed gone same fits =
      (text, is, all_counted a b c o p q text count empty none sent flushed gone same fits)
