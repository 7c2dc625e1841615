-- What an engine reads of several files: one after the other, each whole.
use Rattle.std.specs.Prelude.{◌≡◌, ◌⊎◌, ℕ, ◌+◌, ◌≤◌, List, length, Option, Result, Ok, Err, [], ◌∷◌}
use Rattle.std.specs.Io.KnownBytes.{Consumes, Keeps}
use Rattle.elf_image_rules.specs.Rules.{MAX_LEN}
use Rattle.elf_tool_check.specs.declared.calls.ToolFault.TheVariants.{Read, Write, OutOfMemory}
use Rattle.elf_tool_check.specs.declared.calls.ToolFault.{ToolFault}
use Rattle.elf_tool_check.specs.declared.calls.Verdict.{Verdict}
use Rattle.elf_tool_check.specs.Engine.{IsReadWhole}

-- a reader that had `input` left and has `rest` gave these bytes
pub record GivesBytes (input rest : Option (List ℕ)) (bytes : List ℕ) : Type 0 where
  pub taken : Consumes input rest bytes
  pub limit : length bytes ≤ MAX_LEN + 1

-- and they are all of its file, or all that the limit lets through
pub record GivesFile (input rest : Option (List ℕ)) (file : List ℕ) : Type 0 where
  pub bytes : GivesBytes input rest file
  pub whole : IsReadWhole rest file

-- each reader gave its file
abbrev pub AreRead : List (Option (List ℕ)) → List (Option (List ℕ)) → List (List ℕ) → Type 0
AreRead [] [] [] = Unit {0}
AreRead (input ∷ inputs) (rest ∷ rests) (file ∷ files) = GivesFile input rest file × AreRead inputs rests files
AreRead inputs rests files = ⊥

-- the first readers gave these files, and those after them are as they were
abbrev pub AreReadSoFar : List (Option (List ℕ)) → List (Option (List ℕ)) → List (List ℕ) → Type 0
AreReadSoFar inputs rests [] = rests ≡ inputs
AreReadSoFar (input ∷ inputs) (rest ∷ rests) (file ∷ files) = GivesFile input rest file × AreReadSoFar inputs rests files
AreReadSoFar inputs rests (file ∷ files) = ⊥

-- some first readers gave their files, the next one these bytes, and those after it are as they were
abbrev pub StopsAfter : List (Option (List ℕ)) → List (Option (List ℕ)) → List ℕ → Type 0
StopsAfter (input ∷ inputs) (rest ∷ rests) bytes =
    (GivesBytes input rest bytes × (rests ≡ inputs)) ⊎ ((file : List ℕ) × GivesFile input rest file × StopsAfter inputs rests bytes)
StopsAfter inputs rests bytes = ⊥

-- a fault of reading: a call of a reader failed after it gave so many bytes, or an allocation failed; no reader after it is begun
abbrev pub IsReadingFault : List (Option (List ℕ)) → List (Option (List ℕ)) → ToolFault → Type 0
IsReadingFault inputs rests (Read at) = (bytes : List ℕ) × StopsAfter inputs rests bytes × (at ≡ length bytes)
IsReadingFault inputs rests (Write written) = ⊥
IsReadingFault inputs rests OutOfMemory = (bytes : List ℕ) × StopsAfter inputs rests bytes

-- a fault while the files are read: nothing is written
abbrev pub FailsReading : List (Option (List ℕ)) → List (Option (List ℕ)) → Option (List ℕ) → Option (List ℕ) → Result Verdict ToolFault →
    Type 0
FailsReading inputs rests old new (Ok verdict) = ⊥
FailsReading inputs rests old new (Err fault) = IsReadingFault inputs rests fault × Keeps old new
