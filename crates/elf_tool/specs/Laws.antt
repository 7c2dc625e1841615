-- What the laws of commands say: a command prints at most one thing of a file, and files have one link.
use Rattle.std.specs.Prelude.{◌<◌, ◌^◌, ℕ, List, None, [], ◌∷◌}
use Rattle.elf_field.specs.Bytes.{IsBytes}
use Rattle.elf_link_field.specs.declared.rule.RelocRule.{RelocRule}
use Rattle.elf_link_files.specs.Rows.{FirstAt}
use Rattle.elf_link_files.specs.declared.fault.Options.{Options}
use Rattle.elf_link_map.specs.LinkMap.{FirstOfLink, IsLinkMap, LinkMapValue}
use Rattle.elf_link_relocate.specs.Fields.{applied_entry_rules}
use Rattle.elf_object_type.specs.Object.{ObjectValue}
use Rattle.elf_tool_link.specs.ObjectFiles.{AreObjectFiles}
use Rattle.elf_tool_check.specs.declared.calls.Verdict.{Verdict}

-- The link of files where no rule of it is broken.

-- the files are images that denote these objects, m is their map, and none of rules 1 to 16 of the link is broken; the page fits the code's
-- type
pub record IsSoundFileLink (opt : Options) (rules : List RelocRule) (files : List (List ℕ)) (fs : List ObjectValue)
    (m : LinkMapValue) : Type 0 where
  pub objects : AreObjectFiles files fs
  pub linked : FirstOfLink opt fs None
  pub map : IsLinkMap opt fs m
  pub page : opt.page < 2 ^ 64
  pub relocated : FirstAt (applied_entry_rules fs m rules) None

-- What says something.

-- it can't be that no verdict with its text is said
abbrev pub SaysSome : (Verdict → List ℕ → Type 0) → Type 0
SaysSome Says = ((v : Verdict) (s : List ℕ) → Says v s → ⊥) → ⊥

-- each file is a list of bytes
abbrev pub AreFilesOfBytes : List (List ℕ) → Type 0
AreFilesOfBytes [] = Unit {0}
AreFilesOfBytes (b ∷ files) = IsBytes b × AreFilesOfBytes files
