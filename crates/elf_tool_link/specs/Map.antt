-- What `map` says of files.
use Rattle.std.specs.Prelude.{ℕ, Bool, true, false, Option, None, Some, List, [], ◌∷◌, ◌++◌, codes, if◌then◌else◌, length, unwrap_or, ◌≡◌}
use Rattle.std.specs.Prelude.{◌⊎◌, Result, Ok, Err}
use Rattle.std.specs.Fmt.{decimal}
use Rattle.std.specs.List.{flat_map, range_with_len}
use Rattle.std.specs.Io.KnownBytes.{Appends, Keeps}
use Rattle.elf_link_field.specs.declared.rule.RelocRule.{RelocRule}
use Rattle.elf_link_files.specs.Files.{mark, object_at}
use Rattle.elf_link_files.specs.Rows.{FirstAt}
use Rattle.elf_link_files.specs.declared.fault.Options.{Options}
use Rattle.elf_link_map.specs.LinkMap.{LinkMapValue, FirstOfLink, IsLinkMap}
use Rattle.elf_link_map.specs.Standing.{size_in}
use Rattle.elf_link_map.specs.declared.bindings.Binding.TheVariants.{Strong, Common, Weak, Zero}
use Rattle.elf_link_map.specs.declared.bindings.Binding.{Binding}
use Rattle.elf_link_outputs.specs.Placed.{CommonValue, OutputValue, cell}
use Rattle.elf_link_outputs.specs.declared.placing.Member.{Member}
use Rattle.elf_link_relocate.specs.Fields.{binding_value, applied_entry_rules}
use Rattle.elf_link_relocate.specs.Linked.{LinkedValue, bytes_at, IsLinked}
use Rattle.elf_object_type.specs.Object.{ObjectValue}
use Rattle.elf_tool_link.specs.ObjectFiles.{AreObjectFiles, IsFirstRefused}
use Rattle.elf_tool_link.specs.declared.mapped.Unlinked.{Unlinked}
use Rattle.elf_tool_check.specs.Engine.{Prints}
use Rattle.elf_tool_link.specs.Inputs.{AreRead, FailsReading}
use Rattle.elf_tool_check.specs.FileLines.{line}
use Rattle.elf_tool_text.specs.Buffered.{IsCounted, IsCutBy}
use Rattle.elf_tool_text.specs.Line.{bytes_text, hexadecimal, name_text}
use Rattle.elf_tool_check.specs.declared.calls.Refusal.TheVariants.{File, Link, TooLong}
use Rattle.elf_tool_check.specs.declared.calls.Refusal.{Refusal}
use Rattle.elf_tool_check.specs.declared.calls.ToolFault.TheVariants.{Read, Write, OutOfMemory}
use Rattle.elf_tool_check.specs.declared.calls.ToolFault.{ToolFault}
use Rattle.elf_tool_check.specs.declared.calls.Verdict.TheVariants.{Done, Refused}
use Rattle.elf_tool_check.specs.declared.calls.Verdict.{Verdict}
use Rattle.elf_tool_link.specs.declared.mapped.Unlinked.TheVariants as unlinked

-- The lines of `map`, word by word.

abbrev pub bits_text : Bool → List ℕ
bits_text false = codes "bits"
bits_text true = codes "nobits"

-- `output ADDRESS LENGTH bits|nobits FLAGS NAME`
unfoldable pub output_line : OutputValue → List ℕ
output_line o = line (
    codes "output" ∷ hexadecimal o.address ∷ hexadecimal o.length ∷ bits_text o.no_bits ∷ hexadecimal o.flags ∷ name_text o.name ∷ [])

-- `member ADDRESS SIZE FILE SECTION`
unfoldable pub member_line : ℕ → ℕ → Member → List ℕ
member_line address size s = line (codes "member" ∷ hexadecimal address ∷ hexadecimal size ∷ decimal s.file ∷ decimal s.section ∷ [])

-- `common ADDRESS SIZE NAME`
unfoldable pub common_line : CommonValue → List ℕ
common_line c = line (codes "common" ∷ hexadecimal c.address ∷ hexadecimal c.size ∷ name_text c.name ∷ [])

-- `discarded FILE SECTION`
unfoldable pub discarded_line : ℕ → ℕ → List ℕ
discarded_line f s = line (codes "discarded" ∷ decimal f ∷ decimal s ∷ [])

abbrev pub binding_text : Binding → List ℕ
binding_text (Strong file symbol) = codes "strong"
binding_text (Common address size align) = codes "common"
binding_text (Weak file symbol) = codes "weak"
binding_text Zero = codes "zero"

-- a value, - where there is none
abbrev pub value_text : Option ℕ → List ℕ
value_text None = codes "-"
value_text (Some value) = hexadecimal value

-- `name VALUE strong|common|weak|zero NAME`
unfoldable pub name_line : Option ℕ → Binding → List ℕ → List ℕ
name_line value binding name = line (codes "name" ∷ value_text value ∷ binding_text binding ∷ name_text name ∷ [])

-- `file F refused R A`: the first rule that a file breaks, and the offset in it
unfoldable pub file_refused_line : ℕ → ℕ → ℕ → List ℕ
file_refused_line f rule at = line (codes "file" ∷ decimal f ∷ codes "refused" ∷ decimal rule ∷ decimal at ∷ [])

-- `refused RULE FILE INDEX ENTRY`: the first rule of the link that is broken, and where
unfoldable pub link_refused_line : ℕ → ℕ → ℕ → ℕ → List ℕ
link_refused_line rule file index entry =
    line (codes "refused" ∷ decimal rule ∷ decimal file ∷ decimal index ∷ decimal entry ∷ [])

-- what is refused; `map` writes no file that could be too long
abbrev pub refusal_line : Refusal → List ℕ
refusal_line (File file rule at) = file_refused_line file rule at
refusal_line (Link rule file index entry) = link_refused_line rule file index entry
refusal_line TooLong = []

-- `bytes FILE SECTION HEX`
unfoldable pub bytes_line : Member → List ℕ → List ℕ
bytes_line s bytes = line (codes "bytes" ∷ decimal s.file ∷ decimal s.section ∷ bytes_text bytes ∷ [])

-- ---- what the lines of a map say

-- a member of an output: where it is, and its size in memory
abbrev pub member_text : List ObjectValue → LinkMapValue → Member → List ℕ
member_text fs m s = member_line (unwrap_or (cell m.addresses s.file s.section) 0) (size_in fs s.file s.section) s

-- an output, and its members
abbrev pub output_text : List ObjectValue → LinkMapValue → OutputValue → List ℕ
output_text fs m o = output_line o ++ flat_map (member_text fs m) o.members

-- the discarded sections of a file
abbrev pub discarded_text : LinkMapValue → ℕ → ℕ → List ℕ
discarded_text m f s = if mark m.discarded f s then discarded_line f s else []

abbrev pub file_discarded_text : List ObjectValue → LinkMapValue → ℕ → List ℕ
file_discarded_text fs m f = flat_map (discarded_text m f) (range_with_len 0 (length (object_at fs f).sections))

-- a name, with the value of what it is bound to
abbrev pub named_text : List ObjectValue → LinkMapValue → List ℕ × Binding → List ℕ
named_text fs m n = name_line (binding_value fs m n.1) n.1 n.0

-- ---- the lines of a map

unfoldable pub output_lines : List ObjectValue → LinkMapValue → List ℕ
output_lines fs m = flat_map (output_text fs m) m.outputs

unfoldable pub common_lines : LinkMapValue → List ℕ
common_lines m = flat_map common_line m.commons

unfoldable pub discarded_lines : List ObjectValue → LinkMapValue → List ℕ
discarded_lines fs m = flat_map (file_discarded_text fs m) (range_with_len 0 (length fs))

unfoldable pub name_lines : List ObjectValue → LinkMapValue → List ℕ
name_lines fs m = flat_map (named_text fs m) m.bindings

-- outputs with their members, commons, discarded sections, names
unfoldable pub map_text : List ObjectValue → LinkMapValue → List ℕ
map_text fs m = output_lines fs m ++ (common_lines m ++ (discarded_lines fs m ++ name_lines fs m))

-- ---- the lines of relocated bytes: of each section that has them, in order of placement

abbrev pub relocated_text : Member → Option (List ℕ) → List ℕ
relocated_text s None = []
relocated_text s (Some bytes) = bytes_line s bytes

abbrev pub member_bytes : LinkedValue → Member → List ℕ
member_bytes l s = relocated_text s (bytes_at l s.file s.section)

abbrev pub output_bytes : LinkedValue → OutputValue → List ℕ
output_bytes l o = flat_map (member_bytes l) o.members

unfoldable pub bytes_lines : LinkedValue → List ℕ
bytes_lines l = flat_map (output_bytes l) l.map.outputs

-- of objects and their link map: its lines; with relocation rules the lines of the relocated bytes after them, of which none of rules 12 to
-- 16 is broken, or the line is `refused` with the first rule that is broken and where, which the verdict carries
abbrev pub RelocationSays : Option (List RelocRule) → List ObjectValue → LinkMapValue → Verdict → List ℕ → Type 0
RelocationSays None fs m Done text = text ≡ map_text fs m
RelocationSays (Some rules) fs m Done text =
    (l : LinkedValue) × IsLinked fs m rules l × (text ≡ map_text fs m ++ bytes_lines l)
RelocationSays (Some rules) fs m (Refused (Link rule file index entry)) text =
    FirstAt (applied_entry_rules fs m rules) (Some (rule, record { file = file; index = index; entry = entry }))
    × (text ≡ link_refused_line rule file index entry)
RelocationSays rules fs m verdict text = ⊥

-- of objects that don't link: the same line with the first of rules 1 to 11
abbrev pub LinkRefuses : Options → List ObjectValue → Verdict → List ℕ → Type 0
LinkRefuses opt fs (Refused (Link rule file index entry)) text =
    FirstOfLink opt fs (Some (rule, record { file = file; index = index; entry = entry }))
    × (text ≡ link_refused_line rule file index entry)
LinkRefuses opt fs verdict text = ⊥

-- of objects: no rule of the link is broken, and what is said of their link map; or the first one that is
abbrev pub LinkSays : Options → Option (List RelocRule) → List ObjectValue → Verdict → List ℕ → Type 0
LinkSays opt rules fs verdict text =
    (FirstOfLink opt fs None × ((m : LinkMapValue) × IsLinkMap opt fs m × RelocationSays rules fs m verdict text)) ⊎
    LinkRefuses opt fs verdict text

-- the line on the first file that is refused, with the first rule that it breaks and its lowest offset
abbrev pub FilesRefuse : List (List ℕ) → Verdict → List ℕ → Type 0
FilesRefuse files Done text = ⊥
FilesRefuse files (Refused (File file rule at)) text = IsFirstRefused files file rule at × (text ≡ file_refused_line file rule at)
FilesRefuse files (Refused (Link rule file index entry)) text = ⊥
FilesRefuse files (Refused TooLong) text = ⊥

-- what `map` reports of files: of the objects that they are, or of the first file that is no object
abbrev pub MapSays : Options → Option (List RelocRule) → List (List ℕ) → Verdict → List ℕ → Type 0
MapSays opt rules files verdict text =
    ((fs : List ObjectValue) × AreObjectFiles files fs × LinkSays opt rules fs verdict text) ⊎ FilesRefuse files verdict text

-- this verdict and this text are said
abbrev pub IsThis : Verdict → List ℕ → Verdict → List ℕ → Type 0
IsThis verdict text said lines = (said ≡ verdict) × (lines ≡ text)

-- what is refused is said by its line, and the verdict carries it
abbrev pub SaysUnlinked : Unlinked → Verdict → List ℕ → Type 0
SaysUnlinked (unlinked.Refused refusal) = IsThis (Refused refusal) (refusal_line refusal)
SaysUnlinked unlinked.OutOfMemory = λ said text. ⊥

-- What `map` writes. The lines on what is found are written as they are made, and may be more than a count of 64 bits can report.

-- what is said is written, or after a failed write a beginning of it, or when out of memory nothing
abbrev pub PrintsMap : (Verdict → List ℕ → Type 0) → Option (List ℕ) → Option (List ℕ) → Result Verdict ToolFault → Type 0
PrintsMap Says old new (Ok verdict) = (text : List ℕ) × Says verdict text × Appends old new text
PrintsMap Says old new (Err (Read at)) = ⊥
PrintsMap Says old new (Err (Write written)) =
    (verdict : Verdict) × (text : List ℕ) × Says verdict text × IsCutBy verdict old new text written
PrintsMap Says old new (Err OutOfMemory) = Keeps old new

-- the same where the length of the text is counted, up to 2^64 - 1
abbrev pub CountsMap : (Verdict → List ℕ → Type 0) → Option (List ℕ) → Option (List ℕ) → Result (Verdict × ℕ) ToolFault → Type 0
CountsMap Says old new (Ok said) = (text : List ℕ) × Says said.0 text × IsCounted text old new said.1
CountsMap Says old new (Err fault) = PrintsMap Says old new (Err fault)

-- and of a text that is written at once
abbrev pub CountsLine : (Verdict → List ℕ → Type 0) → Option (List ℕ) → Option (List ℕ) → Result (Verdict × ℕ) ToolFault → Type 0
CountsLine Says old new (Ok said) = (text : List ℕ) × Says said.0 text × IsCounted text old new said.1
CountsLine Says old new (Err fault) = Prints Says old new (Err fault)

-- a call of `map`: its readers, which had `inputs` left and have `rests`; and its writer, which held `old` and holds `new`
abbrev pub IsMapped : Options → Option (List RelocRule) → List (Option (List ℕ)) → List (Option (List ℕ)) → Option (List ℕ) →
    Option (List ℕ) → Result Verdict ToolFault → Type 0
IsMapped opt rules inputs rests old new result =
    FailsReading inputs rests old new result
    ⊎ ((files : List (List ℕ)) × AreRead inputs rests files × PrintsMap (MapSays opt rules files) old new result)

-- and where the text is known to be shorter than 2^64 bytes: after a failed write exactly the first `written` bytes of it are written
abbrev pub IsMappedExactly : Options → Option (List RelocRule) → List (Option (List ℕ)) → List (Option (List ℕ)) → Option (List ℕ) →
    Option (List ℕ) → Result Verdict ToolFault → Type 0
IsMappedExactly opt rules inputs rests old new result =
    FailsReading inputs rests old new result
    ⊎ ((files : List (List ℕ)) × AreRead inputs rests files × Prints (MapSays opt rules files) old new result)
