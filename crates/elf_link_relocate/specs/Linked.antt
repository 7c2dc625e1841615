-- The relocated bytes of a link, as a value, and when they are those of some objects, their map and relocation rules.
-- (gABI chapter 4, Relocation.)
use Rattle.std.specs.Prelude.{◌≡◌, ℕ, ◌<◌, List, [], get_or, length, set, None, ◌+◌, ◌≤◌, ◌⊎◌, Some, ℤ, slice_index, true, MatchOption}
use Rattle.std.specs.Prelude.{Option}
use Rattle.elf_field.specs.Bytes.{IsBytes, bytes_of}
use Rattle.elf_link_field.specs.Field.{modulo, size_of}
use Rattle.elf_link_field.specs.declared.rule.RelocRule.{RelocRule}
use Rattle.elf_link_files.specs.Files.{object_at, AreDiscardMarks, section_in, Live}
use Rattle.elf_link_files.specs.Rows.{FirstAt}
use Rattle.elf_link_files.specs.declared.fault.Options.{Options}
use Rattle.elf_link_files.specs.declared.site.Site.{Site}
use Rattle.elf_link_map.specs.LinkMap.{FirstOfLink, IsLinkMap, LinkMapValue, with_options}
use Rattle.elf_link_map.specs.Standing.{ArePlacedApart, member_address, member_at, output_at, output_end, BeginsAt}
use Rattle.elf_link_outputs.specs.Placed.{cell, common_at}
use Rattle.elf_link_relocate.specs.Fields.{HasField, content_in, field_address, field_end, field_start, number_at, target_at}
use Rattle.elf_link_relocate.specs.Fields.{applied_entry_rules}
use Rattle.elf_link_relocate.specs.declared.linked.Identity.{Identity}
use Rattle.elf_object_type.specs.Object.{ObjectValue, is_bits}

-- Grids: rows of items, by file and section.

-- the item of section s of file f, and the grid with another one there
abbrev pub item : {A : Type 0} → A → List (List A) → ℕ → ℕ → A
item none rows f s = get_or (get_or rows f []) s none

abbrev pub with : {A : Type 0} → List (List A) → ℕ → ℕ → A → List (List A)
with rows f s new = set rows f (set (get_or rows f []) s new)

-- a section of a file
abbrev pub IsSectionOf : List ObjectValue → ℕ → ℕ → Type 0
IsSectionOf fs f s = (f < length fs) × (s < length (object_at fs f).sections)

-- a row for each file, with an item for each of its sections
pub record IsGrid {A : Type 0} (fs : List ObjectValue) (rows : List (List A)) : Type 0 where
  pub files : length rows ≡ length fs
  pub sections : (f : ℕ) → f < length fs → length (get_or rows f []) ≡ length (object_at fs f).sections

-- What relocating needs to know of a link map.

-- none of rules 1 to 11 of the link is broken, and the map is the one of these objects, for some options
abbrev pub IsSoundMap : List ObjectValue → LinkMapValue → Type 0
IsSoundMap fs m = (opt : Options) × IsLinkMap opt fs m × FirstOfLink opt fs None

-- a link map of some objects but for its base, page and entry: with others in their place it is one. Neither rule 10 nor the entry's value
-- is asked: by the law `without_entry`
abbrev pub IsSoundMapButOptions : List ObjectValue → LinkMapValue → Type 0
IsSoundMapButOptions fs m = (base page entry : ℕ) × IsSoundMap fs (with_options m base page entry)

-- it reports which sections are discarded, and its sections are apart
pub record HasPlacedSections (fs : List ObjectValue) (m : LinkMapValue) : Type 0 where
  pub discarded : AreDiscardMarks fs m.discarded
  pub places : ArePlacedApart fs m

-- The memory of a link: the byte at each address. In the field of an applied entry a byte of its number; else, in a live section
-- with bits, that of its content; else, in an output or among the commons, zero; else nothing.
-- (gABI chapter 4, Relocation; the placement is this project's profile.)

-- an address is in a field, so far after its start
abbrev pub IsInField : List ObjectValue → LinkMapValue → List RelocRule → ℕ → Site → RelocRule → ℕ → Type 0
IsInField fs m rules x p r k = HasField fs rules p r × (k < size_of r.width) × (x ≡ field_address fs m p + k)

abbrev pub HasFieldAt : List ObjectValue → LinkMapValue → List RelocRule → ℕ → Type 0
HasFieldAt fs m rules x = (p : Site) × (r : RelocRule) × (k : ℕ) × IsInField fs m rules x p r k

-- byte k of a number in a field of a file's order
abbrev pub number_byte : List ObjectValue → Site → RelocRule → ℤ → ℕ → ℕ
number_byte fs p r z k = (let n = size_of r.width in slice_index (bytes_of (object_at fs p.file).order n (modulo n z)) k)

abbrev pub IsFieldByte : List ObjectValue → LinkMapValue → List RelocRule → ℕ → ℕ → Type 0
IsFieldByte fs m rules x v = (p : Site) × (r : RelocRule) × (k : ℕ) × IsInField fs m rules x p r k ×
    ((z : ℤ) × (number_at fs m p r ≡ Some z) × (v ≡ number_byte fs p r z k))

-- an address is in the content of a section, so far after its start
abbrev pub IsInContent : List ObjectValue → LinkMapValue → ℕ → ℕ → ℕ → ℕ → Type 0
IsInContent fs m x f s k = (k < length (content_in fs f s)) × ((a : ℕ) × (cell m.addresses f s ≡ Some a) × (x ≡ a + k))

abbrev pub HasContentAt : List ObjectValue → LinkMapValue → ℕ → Type 0
HasContentAt fs m x = (f s k : ℕ) × IsInContent fs m x f s k

abbrev pub IsContentByte : List ObjectValue → LinkMapValue → ℕ → ℕ → Type 0
IsContentByte fs m x v = (f s k : ℕ) × IsInContent fs m x f s k × (v ≡ slice_index (content_in fs f s) k)

-- an address is in output k; in an output; or from the first of the commons to the end of the last
abbrev pub IsInOutputAt : LinkMapValue → ℕ → ℕ → Type 0
IsInOutputAt m k x = ((output_at m k).address ≤ x) × (x < output_end m k)

abbrev pub IsInOutput : LinkMapValue → ℕ → Type 0
IsInOutput m x = (k : ℕ) × (k < length m.outputs) × IsInOutputAt m k x

abbrev pub IsInCommons : LinkMapValue → ℕ → Type 0
IsInCommons m x = (j k : ℕ) × (j < length m.commons) × (k < length m.commons) ×
    ((common_at m.commons j).address ≤ x) × (x < (common_at m.commons k).address + (common_at m.commons k).size)

-- memory has a byte at an address
abbrev pub IsInMemory : LinkMapValue → ℕ → Type 0
IsInMemory m x = IsInOutput m x ⊎ IsInCommons m x

-- the byte at an address
abbrev pub IsMemory : List ObjectValue → LinkMapValue → List RelocRule → ℕ → ℕ → Type 0
IsMemory fs m rules x v =
    IsFieldByte fs m rules x v ⊎
    ((¬ HasFieldAt fs m rules x) × (IsContentByte fs m x v ⊎
    ((¬ HasContentAt fs m x) × IsInMemory m x × (v ≡ 0))))

-- an address is in the content of member i of output k; in that of none of its members
abbrev pub IsInMember : List ObjectValue → LinkMapValue → ℕ → ℕ → ℕ → Type 0
IsInMember fs m k i x = (let p = member_at (output_at m k) i in
    (member_address m p ≤ x) × (x < member_address m p + length (content_in fs p.file p.section)))

abbrev pub IsInNoMember : List ObjectValue → LinkMapValue → ℕ → ℕ → Type 0
IsInNoMember fs m k x = (i : ℕ) → i < length (output_at m k).members → ¬ IsInMember fs m k i x

-- the contents of the files are bytes
abbrev pub HaveBytes : List ObjectValue → Type 0
HaveBytes fs = (f s : ℕ) → IsBytes (content_in fs f s)

-- a live section with bits
abbrev pub HasLiveBits : List ObjectValue → ℕ → ℕ → Type 0
HasLiveBits fs f s = IsSectionOf fs f s × Live fs f s × (is_bits (section_in fs f s).body ≡ true)

pub record LinkedValue : Type 0 where
  pub map : LinkMapValue
  pub objects : List ObjectValue
  pub rules : List RelocRule
  pub copies : List (List (Option (List ℕ)))

-- the relocated bytes of section s of file f
abbrev pub bytes_at : LinkedValue → ℕ → ℕ → Option (List ℕ)
bytes_at l f s = item None l.copies f s

-- these are the bytes of memory at the addresses of a live section with bits
pub record AreBytesOf (fs : List ObjectValue) (m : LinkMapValue) (rules : List RelocRule) (f s : ℕ) (bytes : List ℕ) : Type 0 where
  pub live : HasLiveBits fs f s
  pub long : length bytes ≡ length (content_in fs f s)
  pub memory : (a : ℕ) × BeginsAt m f s a × ((k : ℕ) → k < length bytes → IsMemory fs m rules (a + k) (slice_index bytes k))

-- none of rules 12 to 16 is broken; the map, the objects and the relocation rules are these, and the bytes of each live section with bits
-- those of memory; no other has bytes
pub record IsLinked (fs : List ObjectValue) (m : LinkMapValue) (rules : List RelocRule) (l : LinkedValue) : Type 0 where
  pub sound : FirstAt (applied_entry_rules fs m rules) None
  pub same_map : l.map ≡ m
  pub same_objects : l.objects ≡ fs
  pub same_rules : l.rules ≡ rules
  pub grid : IsGrid fs l.copies
  pub bytes : (f s : ℕ) → MatchOption (bytes_at l f s) (¬ HasLiveBits fs f s) (AreBytesOf fs m rules f s)

-- the field of an applied entry, all of it in the relocated bytes of its target, holds the entry's number
pub record HoldsNumber (fs : List ObjectValue) (m : LinkMapValue) (l : LinkedValue) (p : Site) (r : RelocRule) : Type 0 where
  pub bytes : List ℕ
  pub number : ℤ
  pub at : bytes_at l p.file (target_at fs p) ≡ Some bytes
  pub within : field_end fs p r ≤ length bytes
  pub is : number_at fs m p r ≡ Some number
  pub holds : (k : ℕ) → k < size_of r.width → slice_index bytes (field_start fs p + k) ≡ number_byte fs p r number k

-- every applied field holds the number of its relocation rule
abbrev pub FieldsHoldNumbers : List ObjectValue → LinkMapValue → List RelocRule → LinkedValue → Type 0
FieldsHoldNumbers fs m rules l = (p : Site) (r : RelocRule) → HasField fs rules p r → HoldsNumber fs m l p r

-- no other value is the relocated bytes of the link
abbrev pub IsOnlyLinked : List ObjectValue → LinkMapValue → List RelocRule → LinkedValue → Type 0
IsOnlyLinked fs m rules l = (k : LinkedValue) → IsLinked fs m rules k → k ≡ l

-- what file 0 says of itself in its header; without files the first byte order, and zeros
abbrev pub identity_of : List ObjectValue → Identity
identity_of fs = (let o = object_at fs 0 in record { order = o.order; osabi = o.osabi; abi = o.abi; machine = o.machine; flags = o.flags })

-- When relocated bytes are ready to be written as an executable.

-- the map and the relocated bytes are those of these objects, for some options, and no rule of the link is broken
pub record IsSoundLinked (l : LinkedValue) : Type 0 where
  pub map : IsSoundMap l.objects l.map
  pub linked : IsLinked l.objects l.map l.rules l

-- Objects that are linked, with their map.

pub record MappedValue : Type 0 where
  pub objects : List ObjectValue
  pub map : LinkMapValue
