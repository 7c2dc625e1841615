-- What files are as objects.
use Rattle.std.specs.Prelude.{ℕ, zero, suc, ◌⊎◌, List, [], ◌∷◌, None, Some}
use Rattle.elf_image_outline.specs.Image.{ImageValue, IsImage}
use Rattle.elf_image_rules.specs.Rows.{FirstIn}
use Rattle.elf_image_rules.specs.Rules.{IsFault}
use Rattle.elf_image_stream.specs.declared.fault.BytesFault.{BytesFault}
use Rattle.elf_link_files.specs.declared.fault.LinkFault.TheVariants.{Rule}
use Rattle.elf_link_files.specs.declared.fault.LinkFault.{LinkFault}
use Rattle.elf_link_files.specs.declared.fault.Options.{Options}
use Rattle.elf_link_map.specs.LinkMap.{FirstOfLink, IsLinkMap}
use Rattle.elf_link_relocate.specs.Linked.{MappedValue}
use Rattle.elf_object_reader.specs.Denotes.{Denotes}
use Rattle.elf_object_reader.specs.FileRules.{file_rules}
use Rattle.elf_object_type.specs.Object.{ObjectValue}
use Rattle.elf_table_symbols.specs.Sections.{sections_of}
use Rattle.elf_tool_link.specs.declared.mapped.FileFault.TheVariants.{Refused, OutOfMemory}
use Rattle.elf_tool_link.specs.declared.mapped.FileFault.{FileFault}
use Rattle.elf_tool_link.specs.declared.mapped.Unlinked.TheVariants.{Refused as UnlinkedRefused, OutOfMemory as UnlinkedOutOfMemory}
use Rattle.elf_tool_link.specs.declared.mapped.Unlinked.{Unlinked}
use Rattle.elf_tool_check.specs.declared.calls.Refusal.TheVariants.{File, Link, TooLong}
use Rattle.elf_image_stream.specs.declared.fault.BytesFault.TheVariants as fault
use Rattle.elf_link_files.specs.declared.fault.LinkFault.TheVariants as link
use Rattle.elf_tool_link.specs.declared.mapped.FileFault.TheVariants as file

-- a file is an image that denotes this object
abbrev pub IsObjectFile : List ℕ → ObjectValue → Type 0
IsObjectFile b o = (v : ImageValue) × IsImage v b × FirstIn (file_rules (sections_of v)) None × Denotes (sections_of v) o

-- a file breaks this rule first, as an image or else as an object, with this lowest offset
abbrev pub IsRefusedFile : List ℕ → ℕ → ℕ → Type 0
IsRefusedFile b rule at =
    IsFault b (Some (rule, at)) ⊎ ((v : ImageValue) × IsImage v b × FirstIn (file_rules (sections_of v)) (Some (rule, at)))

-- a file gives no object: it is refused, or an allocation failed
abbrev pub IsObjectFileFault : List ℕ → BytesFault → Type 0
IsObjectFileFault b (fault.Rule rule at) = IsRefusedFile b rule at
IsObjectFileFault b fault.OutOfMemory = Unit {0}

-- each file is its object
abbrev pub AreObjectFiles : List (List ℕ) → List ObjectValue → Type 0
AreObjectFiles [] [] = Unit {0}
AreObjectFiles (b ∷ files) (o ∷ objects) = IsObjectFile b o × AreObjectFiles files objects
AreObjectFiles files objects = ⊥

-- the first files are these objects
abbrev pub BeginAsObjects : List (List ℕ) → List ObjectValue → Type 0
BeginAsObjects files [] = Unit {0}
BeginAsObjects (b ∷ files) (o ∷ objects) = IsObjectFile b o × BeginAsObjects files objects
BeginAsObjects [] (o ∷ objects) = ⊥

-- file f is refused, and all before it are objects
abbrev pub IsFirstRefused : List (List ℕ) → ℕ → ℕ → ℕ → Type 0
IsFirstRefused [] f rule at = ⊥
IsFirstRefused (b ∷ files) zero rule at = IsRefusedFile b rule at
IsFirstRefused (b ∷ files) (suc f) rule at = ((o : ObjectValue) × IsObjectFile b o) × IsFirstRefused files f rule at

-- not all files are objects, or an allocation failed
abbrev pub IsFileFault : List (List ℕ) → FileFault → Type 0
IsFileFault files (Refused file rule at) = IsFirstRefused files file rule at
IsFileFault files OutOfMemory = Unit {0}

-- What files are as objects that are linked.

-- the objects are those of the files, no rule of the link is broken, and this is their map
abbrev pub IsSoundFileMap : Options → List (List ℕ) → MappedValue → Type 0
IsSoundFileMap opt files mapped =
    AreObjectFiles files mapped.objects × IsLinkMap opt mapped.objects mapped.map × FirstOfLink opt mapped.objects None

-- the first file that is refused, or of objects the first rule of the link that is broken; or an allocation failed
abbrev pub IsUnlinked : Options → List (List ℕ) → Unlinked → Type 0
IsUnlinked opt files (UnlinkedRefused (File file rule at)) = IsFirstRefused files file rule at
IsUnlinked opt files (UnlinkedRefused (Link rule file index entry)) =
    (fs : List ObjectValue) × AreObjectFiles files fs ×
    FirstOfLink opt fs (Some (rule, record { file = file; index = index; entry = entry }))
IsUnlinked opt files (UnlinkedRefused TooLong) = ⊥
IsUnlinked opt files UnlinkedOutOfMemory = Unit {0}

abbrev pub file_unlinked : FileFault → Unlinked
file_unlinked (file.Refused file rule at) = UnlinkedRefused (File file rule at)
file_unlinked file.OutOfMemory = UnlinkedOutOfMemory

abbrev pub link_unlinked : LinkFault → Unlinked
link_unlinked (Rule rule file index entry) = UnlinkedRefused (Link rule file index entry)
link_unlinked link.OutOfMemory = UnlinkedOutOfMemory
