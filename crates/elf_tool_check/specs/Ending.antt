-- How a program ends, and what was written then.
use Rattle.std.specs.Prelude.{◌≡◌, Bool, false, true, ◌⊎◌, ℕ, List, [], ◌∷◌, ◌++◌, codes, nat_eq, Option, Some, Result, Ok, Err, IfSome}
use Rattle.std.specs.Fmt.{decimal}
use Rattle.std.specs.Io.KnownBytes.{Appends, Keeps}
use Rattle.std.specs.List.{starts_with}
use Rattle.elf_tool_check.specs.Check.{IsChecked}
use Rattle.elf_tool_check.specs.Engine.{fault_text, refusal_text}
use Rattle.elf_tool_check.specs.declared.calls.Refusal.TheVariants.{File, Link, TooLong}
use Rattle.elf_tool_check.specs.declared.ending.Ended.{Ended}
use Rattle.elf_tool_check.specs.declared.ending.Status.TheVariants.{Done, Refused as StatusRefused, Usage, Failed}
use Rattle.elf_tool_check.specs.declared.ending.Status.{Status}
use Rattle.elf_tool_check.specs.declared.opener.OpenFault.TheVariants.{Refused, OutOfMemory}
use Rattle.elf_tool_check.specs.declared.opener.OpenFault.{OpenFault}
use Rattle.elf_tool_check.specs.declared.calls.ToolFault.{ToolFault}
use Rattle.elf_tool_check.specs.declared.calls.Verdict.{Verdict}
use Rattle.elf_tool_check.specs.declared.calls.Verdict.TheVariants as verdict
use Rattle.elf_tool_check.specs.declared.calls.ToolFault.TheVariants as fault

-- What an opener of files returns.

-- why a file gave no reader: it is not known to open, or an allocation failed
abbrev pub IsOpenFault : Bool → OpenFault → Type 0
IsOpenFault opens Refused = opens ≡ false
IsOpenFault opens OutOfMemory = Unit {0}

-- one that reports the names that it was asked for was then asked for these, one after the other, and for no other
abbrev pub AsksInOrder : Option (List (List ℕ)) → Option (List (List ℕ)) → List (List ℕ) → Type 0
AsksInOrder old new names = IfSome old (λ before. new ≡ Some (before ++ names))

-- the exit status, as a number
abbrev pub code_of : Status → ℕ
code_of Done = 0
code_of StatusRefused = 1
code_of Usage = 2
code_of Failed = 3

-- how the program ends if an engine returns this
abbrev pub ending_of : Result Verdict ToolFault → Status
ending_of (Ok verdict.Done) = Done
ending_of (Ok (verdict.Refused refusal)) = StatusRefused
ending_of (Err fault) = Failed

-- What is printed on standard error.

-- the text of a fault and a line feed; nothing where the engine itself says what it found
abbrev pub printed_of : Result Verdict ToolFault → List ℕ
printed_of (Ok verdict) = []
printed_of (Err fault) = fault_text fault ++ codes "\n"

-- of an engine that prints no line on what it refuses, that line too
abbrev pub printed_refusal : Result Verdict ToolFault → List ℕ
printed_refusal (Ok verdict.Done) = []
printed_refusal (Ok (verdict.Refused refusal)) = refusal_text refusal ++ codes "\n"
printed_refusal (Err fault) = fault_text fault ++ codes "\n"

-- of one that reads several files, which of them is refused too
abbrev pub printed_refusal_in : Result Verdict ToolFault → List ℕ
printed_refusal_in (Ok verdict.Done) = []
printed_refusal_in (Ok (verdict.Refused (File file rule at))) =
    (codes "file " ++ (decimal file ++ (codes " " ++ refusal_text (File file rule at)))) ++ codes "\n"
printed_refusal_in (Ok (verdict.Refused (Link rule file index entry))) = refusal_text (Link rule file index entry) ++ codes "\n"
printed_refusal_in (Ok (verdict.Refused TooLong)) = refusal_text TooLong ++ codes "\n"
printed_refusal_in (Err fault) = fault_text fault ++ codes "\n"

-- of a file that gave no reader
abbrev pub unopened_text : OpenFault → List ℕ → List ℕ
unopened_text Refused file = (codes "cannot open " ++ file) ++ codes "\n"
unopened_text OutOfMemory file = fault_text fault.OutOfMemory ++ codes "\n"

-- standard error, which held `old`, holds `new`: all of this text is written after it, unless a write failed
abbrev pub IsPrinted : List ℕ → Option (List ℕ) → Option (List ℕ) → Bool → Type 0
IsPrinted text old new printed = printed ≡ true → Appends old new text

-- the program ends so: with this status, and this text on standard error
abbrev pub EndsWith : Option (List ℕ) → Option (List ℕ) → Ended → Status → List ℕ → Type 0
EndsWith old new ended status text = (ended.status ≡ status) × IsPrinted text old new ended.printed

-- a call of an engine: what its reader had and has left, what its writer held and holds, and its result
abbrev pub Call : Type 1
Call = Option (List ℕ) → Option (List ℕ) → Option (List ℕ) → Option (List ℕ) → Result Verdict ToolFault → Type 0

-- a file was opened, and an engine was called on a reader of its bytes, where these are known; or it gave no reader, and nothing was
-- written. A writer that held `old` holds `new`
abbrev pub EndsFileBy : (Result Verdict ToolFault → List ℕ) → Call → Option (List ℕ) → Bool → List ℕ → Option (List ℕ) →
    Option (List ℕ) → (Status → List ℕ → Type 0) → Type 0
EndsFileBy printed call known opens file old new ends =
    ((input rest : Option (List ℕ)) × (answer : Result Verdict ToolFault) × IfSome known (λ bytes. input ≡ Some bytes)
    × call input rest old new answer × ends (ending_of answer) (printed answer))
    ⊎ ((fault : OpenFault) × IsOpenFault opens fault × ends Failed (unopened_text fault file) × Keeps old new)

-- how a command ends whose engine writes the line on what it refuses
abbrev pub EndsFile : Call → Option (List ℕ) → Bool → List ℕ → Option (List ℕ) → Option (List ℕ) → (Status → List ℕ → Type 0) → Type 0
EndsFile = EndsFileBy printed_of

-- How the program ends that has the command `check` alone.

-- the command line asks for this file: it is `NAME check FILE`, where FILE does not begin with `-`, or `NAME check -- FILE`
abbrev pub AsksFor : List (List ℕ) → List ℕ → Type 0
AsksFor words file =
    ((name : List ℕ) × (words ≡ name ∷ codes "check" ∷ file ∷ []) × (starts_with nat_eq file (codes "-") ≡ false))
    ⊎ ((name : List ℕ) × (words ≡ name ∷ codes "check" ∷ codes "--" ∷ file ∷ []))

-- what it prints where it is asked for anything else
abbrev pub check_alone_text : List ℕ
check_alone_text = codes "this program has the command check FILE alone" ++ codes "\n"

-- the whole of it, over the files' known bytes by name, and which are known to open: a command line that asks for no file is wrong usage,
-- and nothing was written
abbrev pub EndsCheck : List (List ℕ) → (List ℕ → Option (List ℕ)) → (List ℕ → Bool) → (List (List ℕ) → Type 0) → Option (List ℕ) →
    Option (List ℕ) → (Status → List ℕ → Type 0) → Type 0
EndsCheck words holds opens asked old new ends =
    ((file : List ℕ) × AsksFor words file × asked (file ∷ []) × EndsFile IsChecked (holds file) (opens file) file old new ends)
    ⊎ (((file : List ℕ) → AsksFor words file → ⊥) × asked [] × ends Usage check_alone_text × Keeps old new)
