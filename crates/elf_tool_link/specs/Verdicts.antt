-- What is said of the link of files, without what it makes.
use Rattle.std.specs.Prelude.{◌≡◌, ◌⊎◌, ℕ, List, None, Option, Some}
use Rattle.elf_link_field.specs.declared.rule.RelocRule.{RelocRule}
use Rattle.elf_link_files.specs.Rows.{FirstAt}
use Rattle.elf_link_files.specs.declared.fault.Options.{Options}
use Rattle.elf_link_files.specs.declared.site.Site.{Site}
use Rattle.elf_link_map.specs.LinkMap.{FirstOfLink, IsLinkMap, LinkMapValue}
use Rattle.elf_link_relocate.specs.Fields.{applied_entry_rules}
use Rattle.elf_object_type.specs.Object.{ObjectValue}
use Rattle.elf_tool_check.specs.declared.calls.Refusal.TheVariants.{File, Link, TooLong}
use Rattle.elf_tool_check.specs.declared.calls.Verdict.TheVariants.{Done, Refused}
use Rattle.elf_tool_check.specs.declared.calls.Verdict.{Verdict}
use Rattle.elf_tool_link.specs.ObjectFiles.{AreObjectFiles, IsFirstRefused}

-- of objects and their link map: the first of rules 12 to 16 broken, or none; without relocation rules none of these is tested
abbrev pub FirstOfEntries : Option (List RelocRule) → List ObjectValue → LinkMapValue → Option (ℕ × Site) → Type 0
FirstOfEntries None fs m broken = broken ≡ None
FirstOfEntries (Some rules) fs m broken = FirstAt (applied_entry_rules fs m rules) broken

-- a verdict on a link that says so of it: no rule is broken, or this one first and at this site
abbrev pub SaysFirst : (Option (ℕ × Site) → Type 0) → Verdict → Type 0
SaysFirst Is Done = Is None
SaysFirst Is (Refused (File file rule at)) = ⊥
SaysFirst Is (Refused (Link rule file index entry)) = Is (Some (rule, record { file = file; index = index; entry = entry }))
SaysFirst Is (Refused TooLong) = ⊥

-- of objects: the first of rules 1 to 11 broken, or else the first of 12 to 16, or none
abbrev pub FirstOfObjects : Options → Option (List RelocRule) → List ObjectValue → Option (ℕ × Site) → Type 0
FirstOfObjects opt rules fs broken =
    (FirstOfLink opt fs None × ((m : LinkMapValue) × IsLinkMap opt fs m × FirstOfEntries rules fs m broken))
    ⊎ (((number : ℕ) × (site : Site) × (broken ≡ Some (number, site))) × FirstOfLink opt fs broken)

-- of files: the verdict on the link of the objects that they are; or the first file that is none, with its rule and offset
abbrev pub IsLinkVerdict : Options → Option (List RelocRule) → List (List ℕ) → Verdict → Type 0
IsLinkVerdict opt rules files (Refused (File file rule at)) = IsFirstRefused files file rule at
IsLinkVerdict opt rules files verdict = (fs : List ObjectValue) × AreObjectFiles files fs × SaysFirst (FirstOfObjects opt rules fs) verdict
