-- What `rewrite` makes of a file: its object, in canonical layout.
use Rattle.std.specs.Prelude.{◌≡◌, ◌⊎◌, ◌<◌, ◌≤◌, ℕ, List, [], length, None, Option, Some, Result, Ok, Err}
use Rattle.std.specs.Io.KnownBytes.{Appends, Keeps}
use Rattle.elf_image_outline.specs.Image.{ImageValue, IsImage}
use Rattle.elf_image_stream.specs.declared.fault.BytesFault.TheVariants as fault
use Rattle.elf_image_stream.specs.declared.fault.BytesFault.{BytesFault}
use Rattle.elf_object_reader.specs.Denotes.{Denotes}
use Rattle.elf_object_reader.specs.FileRules.{file_rules}
use Rattle.elf_object_file.specs.ObjectFile.{IsWrittenFile}
use Rattle.elf_object_layout.specs.Laid.{Laid}
use Rattle.elf_object_type.specs.Object.{ObjectValue}
use Rattle.elf_image_rules.specs.Rules.{MAX_LEN, IsFault}
use Rattle.elf_image_rules.specs.Rows.{FirstIn}
use Rattle.elf_table_symbols.specs.Sections.{Sections, sections_of}
use Rattle.elf_tool_check.specs.Engine.{IsCutAt, IsFileCallAllocatingFirst}
use Rattle.elf_tool_check.specs.declared.calls.Refusal.TheVariants.{File, Link, TooLong}
use Rattle.elf_tool_check.specs.declared.calls.ToolFault.TheVariants as tool
use Rattle.elf_tool_check.specs.declared.calls.ToolFault.{ToolFault}
use Rattle.elf_tool_check.specs.declared.calls.Verdict.{Verdict}
use Rattle.elf_tool_check.specs.declared.calls.Verdict.TheVariants.{Done, Refused}

-- of an object: its file, or that its canonical layout is too long for one
abbrev pub ObjectSays : ObjectValue → Verdict → List ℕ → Type 0
ObjectSays o Done text = IsWrittenFile o text
ObjectSays o (Refused (File file rule at)) text = ⊥
ObjectSays o (Refused (Link rule file index entry)) text = ⊥
ObjectSays o (Refused TooLong) text = ((b : List ℕ) → Laid o b → MAX_LEN < length b) × (text ≡ [])

-- a refusal writes nothing
abbrev pub RewriteRefuses : (ℕ → ℕ → Type 0) → Verdict → List ℕ → Type 0
RewriteRefuses IsFirst Done text = ⊥
RewriteRefuses IsFirst (Refused (File file rule at)) text = IsFirst rule at × (file ≡ 0) × (text ≡ [])
RewriteRefuses IsFirst (Refused (Link rule file index entry)) text = ⊥
RewriteRefuses IsFirst (Refused TooLong) text = ⊥

-- of an image with these sections: what is said of the object that it denotes; or the first rule that it breaks as an object,
-- with its lowest offset
abbrev pub SectionsSay : Sections → Verdict → List ℕ → Type 0
SectionsSay f verdict text =
    (FirstIn (file_rules f) None × ((o : ObjectValue) × Denotes f o × ObjectSays o verdict text))
    ⊎ RewriteRefuses (λ rule at. FirstIn (file_rules f) (Some (rule, at))) verdict text

-- of a file: what is said of the image that it is; or the first rule that it breaks, with its lowest offset
abbrev pub RewriteSays : List ℕ → Verdict → List ℕ → Type 0
RewriteSays b verdict text =
    ((v : ImageValue) × IsImage v b × SectionsSay (sections_of v) verdict text)
    ⊎ RewriteRefuses (λ rule at. IsFault b (Some (rule, at))) verdict text

-- a call of `rewrite`
abbrev pub IsRewritten : Option (List ℕ) → Option (List ℕ) → Option (List ℕ) → Option (List ℕ) → Result Verdict ToolFault → Type 0
IsRewritten = IsFileCallAllocatingFirst RewriteSays

-- The object of a file, and why there is none.

-- a file denotes this object, and breaks no rule
abbrev pub DenotesObject : List ℕ → ObjectValue → Type 0
DenotesObject b o = (v : ImageValue) × IsImage v b × (FirstIn (file_rules (sections_of v)) None × Denotes (sections_of v) o)

-- it denotes none: a rule is broken first, of which `rewrite` says so; or out of memory
abbrev pub DenotesNone : List ℕ → BytesFault → Type 0
DenotesNone b (fault.Rule rule at) = RewriteSays b (Refused (File 0 rule at)) []
DenotesNone b fault.OutOfMemory = Unit {0}

abbrev pub unread_answer : BytesFault → Result Verdict ToolFault
unread_answer (fault.Rule rule at) = Ok (Refused (File 0 rule at))
unread_answer fault.OutOfMemory = Err tool.OutOfMemory

-- A call of `rewrite` that writes only what has room.

-- the file of an object is so long
abbrev pub HasFileOf : ObjectValue → ℕ → Type 0
HasFileOf o n = (b : List ℕ) × IsWrittenFile o b × (n ≡ length b)

-- what is said is written if it is no longer than `most`, and else nothing; beside the verdict is its length
abbrev pub PrintsWithin : (Verdict → List ℕ → Type 0) → ℕ → Option (List ℕ) → Option (List ℕ) → Result (Verdict × ℕ) ToolFault → Type 0
PrintsWithin Says most old new (Ok (verdict, n)) =
    (text : List ℕ) × Says verdict text × (n ≡ length text) × (n ≤ most → Appends old new text) × (most < n → Keeps old new)
PrintsWithin Says most old new (Err (tool.Read at)) = ⊥
PrintsWithin Says most old new (Err (tool.Write written)) =
    (verdict : Verdict) × (text : List ℕ) × Says verdict text × IsCutAt old new text written
PrintsWithin Says most old new (Err tool.OutOfMemory) = Keeps old new
