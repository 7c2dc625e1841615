-- A text that is written in pieces.
use Rattle.std.specs.Prelude.{◌≡◌, ℕ, ◌+◌, ◌≤◌, ◌^◌, List, length, take, Option, Result, MatchResult, ◌++◌, ◌<◌}
use Rattle.std.specs.Io.KnownBytes.{Appends}
use Rattle.std.specs.Io.Iter.{u64_saturate}
use Rattle.elf_tool_text.specs.declared.output.Output.{Output}
use Rattle.elf_tool_check.specs.Engine.{IsCutAt}
use Rattle.elf_tool_check.specs.declared.calls.ToolFault.TheVariants.{Read, Write, OutOfMemory}
use Rattle.elf_tool_check.specs.declared.calls.ToolFault.{ToolFault}
use Rattle.elf_image_stream.specs.declared.fault.WriteFault.{WriteFault}
use Rattle.elf_tool_check.specs.declared.calls.Verdict.TheVariants.{Done, Refused}
use Rattle.elf_tool_check.specs.declared.calls.Verdict.{Verdict}

-- a writer that held `old` holds `new`, with a beginning of a text after it, but not all; `written` is its length, if the text is shorter
-- than 2^64 bytes
abbrev pub IsCutIn : Option (List ℕ) → Option (List ℕ) → List ℕ → ℕ → Type 0
IsCutIn old new text written =
    (count : ℕ) × (count < length text) × Appends old new (take count text) × (length text < 2 ^ 64 → written ≡ count)

-- what is found is written in pieces; of the line on what is refused exactly the first `written` bytes are written
abbrev pub IsCutBy : Verdict → Option (List ℕ) → Option (List ℕ) → List ℕ → ℕ → Type 0
IsCutBy Done old new text written = IsCutIn old new text written
IsCutBy (Refused refusal) old new text written = IsCutAt old new text written

-- a beginning of a text is written: after a failed write, or when out of memory
abbrev pub IsBeginning : List ℕ → Option (List ℕ) → Option (List ℕ) → ToolFault → Type 0
IsBeginning text old new (Write written) = IsCutIn old new text written
IsBeginning text old new OutOfMemory = (count : ℕ) × (count ≤ length text) × Appends old new (take count text)
IsBeginning text old new (Read at) = ⊥

-- all of it is, and its length is counted, up to 2^64 - 1
abbrev pub IsCounted : List ℕ → Option (List ℕ) → Option (List ℕ) → ℕ → Type 0
IsCounted text old new count = (count ≡ u64_saturate (length text)) × Appends old new text

-- one of both
abbrev pub WritesCounted : List ℕ → Option (List ℕ) → Option (List ℕ) → Result ℕ ToolFault → Type 0
WritesCounted text old new result = MatchResult result (IsCounted text old new) (IsBeginning text old new)

-- some bytes were written and are counted, and with what is pending now they are what was pending before and the text
pub record Buffers (old new : Option (List ℕ)) (before after : Output) (text : List ℕ) : Type 0 where
  pub out : List ℕ
  pub went : Appends old new out
  pub rest : out ++ after.pending.items ≡ before.pending.items ++ text
  pub count : u64_saturate after.written ≡ u64_saturate (before.written + length out)

-- of what was pending before and the text only the first bytes were written, of which a fault of writing has the
-- count, with all that was out before: 2 ^ 64 - 1 where they are more
abbrev pub IsCutShort : Option (List ℕ) → Option (List ℕ) → Output → List ℕ → ToolFault → Type 0
IsCutShort old new before text (Write written) =
    (count : ℕ) × (written ≡ u64_saturate (before.written + count)) × (count < length (before.pending.items ++ text))
    × Appends old new (take count (before.pending.items ++ text))
IsCutShort old new before text OutOfMemory =
    (count : ℕ) × (count ≤ length (before.pending.items ++ text)) × Appends old new (take count (before.pending.items ++ text))
IsCutShort old new before text (Read at) = ⊥

abbrev pub IsBuffered : {T : Type 0} → Option (List ℕ) → Option (List ℕ) → Output → Output → List ℕ → Result T ToolFault → Type 0
IsBuffered old new before after text result =
    MatchResult result (λ _. Buffers old new before after text) (IsCutShort old new before text)

-- the same of a text that takes no memory: only the writer fails
abbrev pub IsPassed : {T : Type 0} → Option (List ℕ) → Option (List ℕ) → Output → Output → List ℕ → Result T WriteFault → Type 0
IsPassed old new before after text result =
    MatchResult result (λ _. Buffers old new before after text) (λ fault. IsCutShort old new before text (Write fault.written))
