-- What `link` makes of files: the executable of their link.
use Rattle.std.specs.Prelude.{◌≡◌, ◌⊎◌, ℕ, List, [], None, Option, Some, Result, Ok, Err}
use Rattle.elf_object_type.specs.Object.{ObjectValue}
use Rattle.elf_link_files.specs.declared.fault.Options.{Options}
use Rattle.elf_link_files.specs.declared.site.Site.{Site}
use Rattle.elf_link_files.specs.Rows.{FirstAt}
use Rattle.elf_link_map.specs.LinkMap.{FirstOfLink, IsLinkMap, LinkMapValue}
use Rattle.elf_link_relocate.specs.Fields.{applied_entry_rules}
use Rattle.elf_link_field.specs.declared.rule.RelocRule.{RelocRule}
use Rattle.elf_exec.specs.Executable.{ExecFits, LoadsLink}
use Rattle.elf_exec.specs.ExecWriting.{IsTooLongFor}
use Rattle.elf_tool_link.specs.ObjectFiles.{AreObjectFiles, IsFirstRefused}
use Rattle.elf_tool_link.specs.declared.mapped.Unlinked.{Unlinked}
use Rattle.elf_tool_check.specs.Engine.{Prints}
use Rattle.elf_tool_link.specs.Inputs.{AreRead, FailsReading}
use Rattle.elf_tool_check.specs.declared.calls.Refusal.TheVariants.{File, Link, TooLong}
use Rattle.elf_tool_check.specs.declared.calls.ToolFault.{ToolFault}
use Rattle.elf_tool_check.specs.declared.calls.ToolFault.TheVariants.{OutOfMemory}
use Rattle.elf_tool_check.specs.declared.calls.Verdict.{Verdict}
use Rattle.elf_tool_check.specs.declared.calls.Verdict.TheVariants.{Done, Refused}
use Rattle.elf_tool_link.specs.declared.mapped.Unlinked.TheVariants as unlinked

-- of objects, their map and relocation rules: their executable, which is an image that loads the memory of the link; or that it has too
-- many segments or is too long for a file
abbrev pub ExecSays : List ObjectValue → LinkMapValue → List RelocRule → Verdict → List ℕ → Type 0
ExecSays fs m rules Done text = ExecFits fs m rules text × LoadsLink fs m rules text
ExecSays fs m rules (Refused (File file rule at)) text = ⊥
ExecSays fs m rules (Refused (Link rule file index entry)) text = ⊥
ExecSays fs m rules (Refused TooLong) text = IsTooLongFor fs m rules × (text ≡ [])

-- a rule of the link is broken first, and at this site; nothing is written
abbrev pub RuleRefuses : (ℕ → Site → Type 0) → Verdict → List ℕ → Type 0
RuleRefuses IsFirst Done text = ⊥
RuleRefuses IsFirst (Refused (File file rule at)) text = ⊥
RuleRefuses IsFirst (Refused (Link rule file index entry)) text =
    IsFirst rule (record { file = file; index = index; entry = entry }) × (text ≡ [])
RuleRefuses IsFirst (Refused TooLong) text = ⊥

-- of objects and their link map: none of rules 12 to 16 is broken, and what is said of their executable; or the first one that is broken
abbrev pub MapLinks : List RelocRule → List ObjectValue → LinkMapValue → Verdict → List ℕ → Type 0
MapLinks rules fs m verdict text =
    (FirstAt (applied_entry_rules fs m rules) None × ExecSays fs m rules verdict text)
    ⊎ RuleRefuses (λ rule site. FirstAt (applied_entry_rules fs m rules) (Some (rule, site))) verdict text

-- of objects: no rule of the link is broken, and what is said of their link map; or the first one that is
abbrev pub ObjectsLink : Options → List RelocRule → List ObjectValue → Verdict → List ℕ → Type 0
ObjectsLink opt rules fs verdict text =
    (FirstOfLink opt fs None × ((m : LinkMapValue) × IsLinkMap opt fs m × MapLinks rules fs m verdict text))
    ⊎ RuleRefuses (λ rule site. FirstOfLink opt fs (Some (rule, site))) verdict text

-- the first file that is refused, with the first rule that it breaks and its lowest offset; nothing is written
abbrev pub FileRefuses : List (List ℕ) → Verdict → List ℕ → Type 0
FileRefuses files Done text = ⊥
FileRefuses files (Refused (File file rule at)) text = IsFirstRefused files file rule at × (text ≡ [])
FileRefuses files (Refused (Link rule file index entry)) text = ⊥
FileRefuses files (Refused TooLong) text = ⊥

-- what `link` reports of files: of the objects that they are, or of the first file that is no object
abbrev pub FilesLink : Options → List RelocRule → List (List ℕ) → Verdict → List ℕ → Type 0
FilesLink opt rules files verdict text =
    ((fs : List ObjectValue) × AreObjectFiles files fs × ObjectsLink opt rules fs verdict text) ⊎ FileRefuses files verdict text

-- the verdict of what is refused
abbrev pub unlinked_verdict : Unlinked → Result Verdict ToolFault
unlinked_verdict (unlinked.Refused refusal) = Ok (Refused refusal)
unlinked_verdict unlinked.OutOfMemory = Err OutOfMemory

-- and of nothing, which is written then, the length
abbrev pub unlinked_length : Unlinked → Result (Verdict × ℕ) ToolFault
unlinked_length (unlinked.Refused refusal) = Ok (Refused refusal, 0)
unlinked_length unlinked.OutOfMemory = Err OutOfMemory

-- a call of `link`: its readers, which had `inputs` left and have `rests`; and its writer, which held `old` and holds `new`
abbrev pub IsLinkCall : Options → List RelocRule → List (Option (List ℕ)) → List (Option (List ℕ)) → Option (List ℕ) → Option (List ℕ) →
    Result Verdict ToolFault → Type 0
IsLinkCall opt rules inputs rests old new result =
    FailsReading inputs rests old new result
    ⊎ ((files : List (List ℕ)) × AreRead inputs rests files × Prints (FilesLink opt rules files) old new result)
