-- What writing an executable does to what a writer holds.
use Rattle.std.specs.Prelude.{◌≡◌, ◌<◌, ◌≤◌, ◌⊎◌, ℕ, List, length, Option, Result, Ok, Err, MatchResult, ◌-◌, ◌==◌, if◌then◌else◌, zero}
use Rattle.std.specs.Prelude.{suc, ◌+◌, [], ◌++◌, map, replicate, slice_index, unwrap_or}
use Rattle.std.specs.List.{flat_map, range_with_len}
use Rattle.elf_link_relocate.specs.Loads.{loads, file_size, load_in}
use Rattle.elf_exec.specs.Executable.{ExecLaid, ExecFits, LoadsLink, bytes_from, load_parts, exec_bytes, header_bytes, table_bytes}
use Rattle.elf_exec.specs.declared.exec_writing.ExecFault.TheVariants.{TooLong, OutOfMemory, Io}
use Rattle.elf_exec.specs.declared.exec_writing.ExecFault.{ExecFault}
use Rattle.elf_exec.specs.declared.placed_exec.PlacingFault.TheVariants.{TooLong as TooLarge, OutOfMemory as NoRoom}
use Rattle.elf_exec.specs.declared.placed_exec.PlacingFault.{PlacingFault}
use Rattle.elf_link_relocate.specs.declared.load.Load.{Load}
use Rattle.elf_extent.specs.Place.{Least, end_of}
use Rattle.elf_field.specs.Abi.{PN_XNUM}
use Rattle.elf_image_rules.specs.Rules.{MAX_LEN}
use Rattle.elf_image_stream.specs.Output.{Writes}
use Rattle.elf_image_stream.specs.declared.fault.WriteFault.{WriteFault}
use Rattle.elf_image_type.specs.WrittenFile.{spread}
use Rattle.elf_link_field.specs.declared.rule.RelocRule.{RelocRule}
use Rattle.elf_link_map.specs.LinkMap.{LinkMapValue}
use Rattle.elf_link_map.specs.Standing.{member_address, member_at, output_at}
use Rattle.elf_link_outputs.specs.Placed.{OutputValue}
use Rattle.elf_link_outputs.specs.declared.placing.Member.{Member}
use Rattle.elf_link_relocate.specs.Linked.{LinkedValue, IsSoundLinked, bytes_at}
use Rattle.elf_object_type.specs.Object.{ObjectValue}

-- there are more segments than e_phnum can report (gABI chapter 5: PN_XNUM), or the executable is longer than the longest file
abbrev pub IsTooLongFor : List ObjectValue → LinkMapValue → List RelocRule → Type 0
IsTooLongFor fs m rules = (PN_XNUM ≤ length (loads m)) ⊎ ((b : List ℕ) × ExecLaid fs m rules b × (MAX_LEN < length b))

abbrev pub IsTooLong : LinkedValue → Type 0
IsTooLong l = IsTooLongFor l.objects l.map l.rules

-- b is the executable of relocated bytes, not too long, and as a file an image that loads the memory of the link
abbrev pub IsLoadable : LinkedValue → List ℕ → Type 0
IsLoadable l b = ExecFits l.objects l.map l.rules b × LoadsLink l.objects l.map l.rules b

-- it is so long
abbrev pub HasExecOf : LinkedValue → ℕ → Type 0
HasExecOf l n = (b : List ℕ) × IsLoadable l b × (n ≡ length b)

-- the bytes of the executable go out, or exactly the first of them and then the writer fails
abbrev pub WritesExec : LinkedValue → Option (List ℕ) → Option (List ℕ) → Result Unit WriteFault → Type 0
WritesExec l before after result = (b : List ℕ) × IsLoadable l b × Writes before after b result

-- each fault with when it comes, and what it leaves; out of memory says nothing else
abbrev pub IsExecFault : LinkedValue → Option (List ℕ) → Option (List ℕ) → ExecFault → Type 0
IsExecFault l before after TooLong = (after ≡ before) × IsTooLong l
IsExecFault l before after OutOfMemory = after ≡ before
IsExecFault l before after (Io written) = WritesExec l before after (Err (record { written = written }))

abbrev pub IsExecWritten : {T : Type 0} → LinkedValue → Option (List ℕ) → Option (List ℕ) → Result T ExecFault → Type 0
IsExecWritten l before after result = MatchResult result (λ _. WritesExec l before after (Ok tt)) (IsExecFault l before after)

-- Relocated bytes with the segments of their executable, at their places.

-- where the last of some parts ends; without parts, where the first might begin
abbrev pub file_end : List (ℕ × ℕ) → ℕ → List ℕ → ℕ
file_end parts from places = if length parts == 0 then from else end_of parts places (length parts - 1)

abbrev pub exec_end : LinkMapValue → List ℕ → ℕ
exec_end m places = file_end (load_parts m) (bytes_from m) places

pub record PlacedExecValue : Type 0 where
  pub linked : LinkedValue
  pub places : List ℕ

-- the segments are few enough, their bytes are at the least places, and the file is short enough
pub record IsPlacedExec (p : PlacedExecValue) : Type 0 where
  pub ready : IsSoundLinked p.linked
  pub few : length (loads p.linked.map) < PN_XNUM
  pub least : Least (load_parts p.linked.map) (bytes_from p.linked.map) p.places
  pub short : exec_end p.linked.map p.places ≤ MAX_LEN

pub record HasLoads (ls : List Load) (p : PlacedExecValue) : Type 0 where
  pub placed : IsPlacedExec p
  pub are : ls ≡ loads p.linked.map

-- ---- why there are none

-- parts at their least places end after the longest file
abbrev pub EndTooFar : List (ℕ × ℕ) → ℕ → Type 0
EndTooFar parts from = (places : List ℕ) × Least parts from places × (MAX_LEN < file_end parts from places)

abbrev pub IsPartsFault : List (ℕ × ℕ) → ℕ → PlacingFault → Type 0
IsPartsFault parts from TooLarge = EndTooFar parts from
IsPartsFault parts from NoRoom = Unit {0}

abbrev pub IsPlacingFault : LinkedValue → PlacingFault → Type 0
IsPlacingFault l TooLarge = IsTooLong l
IsPlacingFault l NoRoom = Unit {0}

-- that fault as the one of the public call
abbrev pub exec_fault : PlacingFault → ExecFault
exec_fault TooLarge = TooLong
exec_fault NoRoom = OutOfMemory

-- The executable in pieces, as it is written: what is at its place, with the zeros before it.

-- ---- things in a row, each of a size and at its place

-- where the one before number k ends; the first one is after `from`
abbrev pub end_before : ℕ → (ℕ → ℕ) → (ℕ → ℕ) → ℕ → ℕ
end_before from place size zero = from
end_before from place size (suc k) = place k + size k

-- how far number k is after that
abbrev pub padding : ℕ → (ℕ → ℕ) → (ℕ → ℕ) → ℕ → ℕ
padding from place size k = place k - end_before from place size k

abbrev pub piece : ℕ → (ℕ → ℕ) → (ℕ → ℕ) → (ℕ → List ℕ) → ℕ → List ℕ
piece from place size content k = replicate (padding from place size k) 0 ++ content k

-- ---- the members of an output

-- the relocated bytes of a member
abbrev pub member_content : LinkedValue → Member → List ℕ
member_content l p = unwrap_or (bytes_at l p.file p.section) []

-- those of all of them from an output's address on, each at its own, with zeros between
abbrev pub output_content : LinkedValue → OutputValue → List ℕ
output_content l o = spread o.address (map (member_address l.map) o.members) (map (member_content l) o.members)

abbrev pub member_padding : LinkedValue → OutputValue → ℕ → ℕ
member_padding l o = padding o.address (λ k. member_address l.map (member_at o k)) (λ k. length (member_content l (member_at o k)))

abbrev pub member_piece : LinkedValue → OutputValue → ℕ → List ℕ
member_piece l o k = replicate (member_padding l o k) 0 ++ member_content l (member_at o k)

-- ---- the segments

-- the bytes of a segment in the file
abbrev pub load_content : LinkedValue → Load → List ℕ
load_content l load = if load.no_bits then [] else output_content l (output_at l.map load.position)

abbrev pub load_padding : PlacedExecValue → ℕ → ℕ
load_padding p = padding (bytes_from p.linked.map) (slice_index p.places) (λ k. file_size (load_in p.linked.map k))

abbrev pub load_piece : PlacedExecValue → ℕ → List ℕ
load_piece p k = replicate (load_padding p k) 0 ++ load_content p.linked (load_in p.linked.map k)

-- ---- all of it

abbrev pub load_contents : LinkedValue → List (List ℕ)
load_contents l = map (load_content l) (loads l.map)

-- the executable with its segments at these places
abbrev pub exec_text : PlacedExecValue → List ℕ
exec_text p = exec_bytes p.linked.objects p.linked.map p.places (load_contents p.linked)

-- after the header and the program header table
abbrev pub loads_text : PlacedExecValue → List ℕ
loads_text p = flat_map (load_piece p) (range_with_len 0 (length (loads p.linked.map)))

abbrev pub placed_header : PlacedExecValue → List ℕ
placed_header p = header_bytes p.linked.objects p.linked.map

abbrev pub placed_table : PlacedExecValue → List ℕ
placed_table p = table_bytes p.linked.objects p.linked.map p.places
