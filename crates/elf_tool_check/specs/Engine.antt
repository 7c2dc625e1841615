-- What an engine does between its reader and its writer: the definitions that all engines share.
use Rattle.std.specs.Prelude.{◌≡◌, ◌⊎◌, ℕ, ◌+◌, ◌<◌, ◌≤◌, List, length, take, Option, Result, Ok, Err, IfOk, MatchResult, ◌++◌, codes}
use Rattle.std.specs.Io.Iter.{u64_saturate}
use Rattle.std.specs.Io.KnownBytes.{Appends, Consumes, IsAtEnd, Keeps}
use Rattle.std.specs.Fmt.{decimal}
use Rattle.elf_image_rules.specs.Rules.{MAX_LEN}
use Rattle.elf_tool_check.specs.declared.calls.Refusal.TheVariants.{File, Link, TooLong}
use Rattle.elf_tool_check.specs.declared.calls.Refusal.{Refusal}
use Rattle.elf_tool_check.specs.declared.calls.ToolFault.TheVariants.{Read, Write, OutOfMemory}
use Rattle.elf_tool_check.specs.declared.calls.ToolFault.{ToolFault}
use Rattle.elf_tool_check.specs.declared.calls.Verdict.{Verdict}

-- a fault of reading, after so many bytes
abbrev pub IsReadFaultAfter : ToolFault → ℕ → Type 0
IsReadFaultAfter (Read at) count = at ≡ count
IsReadFaultAfter (Write written) count = ⊥
IsReadFaultAfter OutOfMemory count = Unit {0}

-- the bytes that a reader gave are all of its file, or all that the limit lets through
abbrev pub IsReadWhole : Option (List ℕ) → List ℕ → Type 0
IsReadWhole rest bytes = IsAtEnd rest ⊎ (length bytes ≡ MAX_LEN + 1)

-- a writer that held `old` holds `new`, with exactly the first `written` bytes of a text after it, fewer than all
abbrev pub IsCutAt : Option (List ℕ) → Option (List ℕ) → List ℕ → ℕ → Type 0
IsCutAt old new text written = (written < length text) × Appends old new (take written text)

-- with a beginning of a text after it: after a failed write its first `written` bytes
abbrev pub WritesPrefix : List ℕ → Option (List ℕ) → Option (List ℕ) → ToolFault → Type 0
WritesPrefix text old new (Write written) = IsCutAt old new text written
WritesPrefix text old new OutOfMemory = (count : ℕ) × (count ≤ length text) × Appends old new (take count text)
WritesPrefix text old new (Read at) = ⊥

-- with all of a text after it, or at a fault a beginning
abbrev pub WritesText : {T : Type 0} → List ℕ → Option (List ℕ) → Option (List ℕ) → Result T ToolFault → Type 0
WritesText text old new result = MatchResult result (λ _. Appends old new text) (WritesPrefix text old new)

-- what a command reports of the bytes of a file: a verdict and a text
abbrev pub Report : Type 1
Report = List ℕ → Verdict → List ℕ → Type 0

-- two verdicts with their texts, both said of the same, are one
abbrev pub SaysOne : (Verdict → List ℕ → Type 0) → Type 0
SaysOne Says = (v w : Verdict) (s t : List ℕ) → Says v s → Says w t → (v ≡ w) × (s ≡ t)

-- of the bytes of any file it has at most one verdict and one text
abbrev pub IsOneReport : Report → Type 0
IsOneReport report = (b : List ℕ) → SaysOne (report b)

-- the text of a report is written, and if all of it is, its verdict is returned
pub record WritesReport (report : Verdict → List ℕ → Type 0) (old new : Option (List ℕ)) (result : Result Verdict ToolFault) : Type 0 where
  pub verdict : Verdict
  pub text : List ℕ
  pub is : report verdict text
  pub answer : IfOk result (λ answered. answered ≡ verdict)
  pub written : WritesText text old new result

-- nothing is written: a read failed, after just these bytes, or an allocation failed
abbrev pub WritesNothing : List ℕ → Option (List ℕ) → Option (List ℕ) → Result Verdict ToolFault → Type 0
WritesNothing bytes old new (Ok verdict) = ⊥
WritesNothing bytes old new (Err (Write written)) = ⊥
WritesNothing bytes old new (Err (Read at)) = (at ≡ length bytes) × Keeps old new
WritesNothing bytes old new (Err OutOfMemory) = Keeps old new

-- a call of an engine: its reader, which had `input` left and has `rest`, gave some bytes; then the engine gave up, or
-- they are the whole file and their report is written
pub record IsFileCall (report : Report) (input rest old new : Option (List ℕ)) (result : Result Verdict ToolFault) : Type 0 where
  pub bytes : List ℕ
  pub taken : Consumes input rest bytes
  pub limit : length bytes ≤ MAX_LEN + 1
  pub answered : WritesNothing bytes old new result ⊎ (IsReadWhole rest bytes × WritesReport (report bytes) old new result)

-- what is said is written, or exactly the first bytes of it, of which `written` is the count, or when out of memory nothing
abbrev pub Prints : (Verdict → List ℕ → Type 0) → Option (List ℕ) → Option (List ℕ) → Result Verdict ToolFault → Type 0
Prints Says old new (Ok verdict) = (text : List ℕ) × Says verdict text × Appends old new text
Prints Says old new (Err (Read at)) = ⊥
Prints Says old new (Err (Write written)) =
    (verdict : Verdict) × (text : List ℕ) × Says verdict text × IsCutAt old new text written
Prints Says old new (Err OutOfMemory) = Keeps old new

-- a call of an engine that takes all its memory before it writes: when out of memory nothing is written
pub record IsFileCallAllocatingFirst (report : Report) (input rest old new : Option (List ℕ))
    (result : Result Verdict ToolFault) : Type 0 where
  pub answered : IsFileCall report input rest old new result
  pub memory : result ≡ Err OutOfMemory → Keeps old new

-- How long a text is, beside the verdict that is said with it.

-- a verdict, and the length of the text that is said with it
abbrev pub HasLength : (Verdict → List ℕ → Type 0) → Verdict × ℕ → Type 0
HasLength Says said = (text : List ℕ) × Says said.0 text × (said.1 ≡ length text)

-- the same of a text that may be longer than 64 bits can say: the number is 2^64 - 1 then
abbrev pub IsMeasured : (Verdict → List ℕ → Type 0) → Verdict × ℕ → Type 0
IsMeasured Says said = (text : List ℕ) × Says said.0 text × (said.1 ≡ u64_saturate (length text))

-- what an engine returns that counts what it writes, without the count
abbrev pub uncounted : Result (Verdict × ℕ) ToolFault → Result Verdict ToolFault
uncounted (Ok said) = Ok said.0
uncounted (Err fault) = Err fault

-- What a refusal and a fault of an engine print.

-- one text a fault, with its number in decimal
abbrev pub fault_text : ToolFault → List ℕ
fault_text (Read at) = codes "read failed at " ++ decimal at
fault_text (Write written) = codes "write failed after " ++ decimal written
fault_text OutOfMemory = codes "out of memory"

-- what is refused: of a file the rule and the offset, of a link the rule and the entry by its file and index
abbrev pub refusal_text : Refusal → List ℕ
refusal_text (File file rule at) = codes "refused " ++ (decimal rule ++ (codes " " ++ decimal at))
refusal_text (Link rule file index entry) =
    codes "refused " ++ (decimal rule ++ (codes " " ++ (decimal file ++ (codes " " ++ (decimal index ++ (codes " " ++ decimal entry))))))
refusal_text TooLong = codes "too long"
