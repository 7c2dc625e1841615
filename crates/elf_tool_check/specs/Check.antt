-- What `check` says of a file.
use Rattle.std.specs.Prelude.{◌≡◌, ℕ, List, length, None, Option, Some, Result}
use Rattle.elf_image_rules.specs.Rules.{IsFault}
use Rattle.elf_image_rules.specs.Tables.{header, sections, section_header_count, program_header_count}
use Rattle.elf_tool_check.specs.Engine.{IsFileCallAllocatingFirst}
use Rattle.elf_tool_check.specs.FileLines.{ok_line, refused_line}
use Rattle.elf_tool_check.specs.declared.calls.Refusal.TheVariants.{File, Link, TooLong}
use Rattle.elf_tool_check.specs.declared.calls.ToolFault.{ToolFault}
use Rattle.elf_tool_check.specs.declared.calls.Verdict.{Verdict}
use Rattle.elf_tool_check.specs.declared.calls.Verdict.TheVariants.{Done, Refused}

-- how many sections the file has by its header and its section header 0 (gABI chapter 4, ELF Header)
abbrev pub file_sections : List ℕ → ℕ
file_sections b = let h = header b in section_header_count h (sections b h 0)

-- how many segments it has by them (gABI chapter 5, Program Header)
abbrev pub file_segments : List ℕ → ℕ
file_segments b = let h = header b in program_header_count h (sections b h 0)

-- no rule is broken, and the line is `ok` with the length and the counts; or the line is `refused` with the
-- first broken rule and its lowest offset, which the verdict carries
abbrev pub CheckSays : List ℕ → Verdict → List ℕ → Type 0
CheckSays b Done text = IsFault b None × (text ≡ ok_line (length b) (file_sections b) (file_segments b))
CheckSays b (Refused (File file rule at)) text = IsFault b (Some (rule, at)) × (file ≡ 0) × (text ≡ refused_line rule at)
CheckSays b (Refused (Link rule file index entry)) text = ⊥
CheckSays b (Refused TooLong) text = ⊥

-- the verdict of the one file, from the rule that it breaks first, if any
abbrev pub verdict_of : Option (ℕ × ℕ) → Verdict
verdict_of None = Done
verdict_of (Some (rule, at)) = Refused (File 0 rule at)

-- a call of `check`
abbrev pub IsChecked : Option (List ℕ) → Option (List ℕ) → Option (List ℕ) → Option (List ℕ) → Result Verdict ToolFault → Type 0
IsChecked = IsFileCallAllocatingFirst CheckSays
