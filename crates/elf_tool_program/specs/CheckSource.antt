-- What `check_source` says of a source.
use Rattle.std.specs.Prelude.{◌≡◌, ℕ, List, length, Option, None, Some, Result, Ok, Err}
use Rattle.std.specs.Io.KnownBytes.{Keeps}
use Rattle.elf_image_outline.specs.Image.{IsImage}
use Rattle.elf_image_outline.specs.Outline.{OutlineValue, image_in}
use Rattle.elf_image_rules.specs.Rules.{IsFault}
use Rattle.elf_image_rules.specs.Rows.{Broken}
use Rattle.elf_tool_check.specs.Ending.{Call}
use Rattle.elf_tool_check.specs.Check.{CheckSays}
use Rattle.elf_tool_check.specs.Engine.{Prints}
use Rattle.elf_tool_check.specs.FileLines.{ok_line, refused_line}
use Rattle.elf_tool_check.specs.declared.calls.Refusal.TheVariants.{File, Link, TooLong}
use Rattle.elf_tool_check.specs.declared.calls.ToolFault.{ToolFault}
use Rattle.elf_tool_check.specs.declared.calls.ToolFault.TheVariants.{Read, Write, OutOfMemory}
use Rattle.elf_tool_check.specs.declared.calls.Verdict.{Verdict}
use Rattle.elf_tool_check.specs.declared.calls.Verdict.TheVariants.{Done, Refused}

-- the line of a verdict on one file: `ok` with a length and counts, or `refused` with the rule and the offset that the verdict carries
abbrev pub IsCheckLine : Verdict → List ℕ → Type 0
IsCheckLine Done text = (len sections segments : ℕ) × (text ≡ ok_line len sections segments)
IsCheckLine (Refused (File file rule at)) text = (file ≡ 0) × (text ≡ refused_line rule at)
IsCheckLine (Refused (Link rule file index entry)) text = ⊥
IsCheckLine (Refused TooLong) text = ⊥

-- of every source the line of the verdict; of one that reports its bytes, what `check` says of these
abbrev pub SourceSays : Option (List ℕ) → Verdict → List ℕ → Type 0
SourceSays content verdict text = IsCheckLine verdict text × ((b : List ℕ) → content ≡ Some b → CheckSays b verdict text)

-- what is said is written, or exactly the first bytes of it, of which `written` is the count, or when out of memory and where a read failed
-- nothing
abbrev pub IsSourceSaid : Option (List ℕ) → Option (List ℕ) → Option (List ℕ) → Result Verdict ToolFault → Type 0
IsSourceSaid content old new (Ok verdict) = Prints (SourceSays content) old new (Ok verdict)
IsSourceSaid content old new (Err (Read at)) = Keeps old new
IsSourceSaid content old new (Err (Write written)) = Prints (SourceSays content) old new (Err (Write written))
IsSourceSaid content old new (Err OutOfMemory) = Keeps old new

-- the offset of a failed read that is returned; None for any other result
abbrev pub check_failure : {T : Type 0} → Result T ToolFault → Option ℕ
check_failure (Ok t) = None
check_failure (Err (Read at)) = Some at
check_failure (Err (Write written)) = None
check_failure (Err OutOfMemory) = None

-- a call of `check_source` on a source
abbrev pub IsSourceChecked : Call
IsSourceChecked content after old new result = (after ≡ content) × IsSourceSaid content old new result

-- ---- what was scanned

-- an outline of the image that is represented by these bytes, or the first rule that they break
abbrev pub IsScanned : List ℕ → Result OutlineValue (Broken ℕ) → Type 0
IsScanned b (Ok outline) = IsImage (image_in outline b) b
IsScanned b (Err broken) = IsFault b (Some (broken.rule, broken.at))

-- why there is neither: a read failed, or an allocation failed
abbrev pub IsScanStopped : ToolFault → Type 0
IsScanStopped (Read at) = Unit {0}
IsScanStopped (Write written) = ⊥
IsScanStopped OutOfMemory = Unit {0}

-- the line of an outline, or of the rule
abbrev pub line_of_scan : Result OutlineValue (Broken ℕ) → List ℕ
line_of_scan (Ok outline) = ok_line outline.len (length outline.sections) (length outline.segments)
line_of_scan (Err broken) = refused_line broken.rule broken.at
