-- Sections, outputs and commons at their places, as values.
-- (gABI chapter 4, Sections; outputs and placement are this project's profile.)
use Rattle.std.specs.Prelude.{◌≡◌, ◌↔◌, ℕ, ◌+◌, ◌-◌, ◌<◌, Bool, false, Option, None, Some, List, [], get_or, length, map, slice_index, take}
use Rattle.std.specs.Prelude.{replicate, set}
use Rattle.elf_extent.specs.Place.{end_of, EndsFit, Least}
use Rattle.elf_link_files.specs.Files.{object_at}
use Rattle.elf_link_files.specs.Rows.{site, site_at, name_at, AreEach, chosen_at, AreIn, IsSiteIn, AreOnce}
use Rattle.elf_link_files.specs.declared.site.Chosen.{Chosen}
use Rattle.elf_link_files.specs.declared.site.Site.{Site}
use Rattle.elf_link_outputs.specs.Outputs.{is_no_bits, live, output_flags, section_at_site, flat}
use Rattle.elf_link_outputs.specs.declared.placing.Common.{Common}
use Rattle.elf_link_outputs.specs.declared.placing.Member.{Member}
use Rattle.elf_link_outputs.specs.declared.placing.Output.{Output}
use Rattle.elf_object_type.specs.Object.{ObjectValue}

pub record OutputValue : Type 0 where
  pub name : List ℕ
  pub flags : ℕ
  pub no_bits : Bool
  pub address : ℕ
  pub length : ℕ
  pub members : List Member

pub record CommonValue : Type 0 where
  pub name : List ℕ
  pub address : ℕ
  pub size : ℕ
  pub align : ℕ

-- what is said of section s of file f by rows of items, one for each section of each file
abbrev pub cell : List (List (Option ℕ)) → ℕ → ℕ → Option ℕ
cell rows f s = get_or (get_or rows f []) s None

-- those used for one that isn't there
abbrev pub no_output : OutputValue
no_output = record { name = []; flags = 0; no_bits = false; address = 0; length = 0; members = [] }

abbrev pub no_placed : CommonValue
no_placed = record { name = []; address = 0; size = 0; align = 0 }

abbrev pub common_at : List CommonValue → ℕ → CommonValue
common_at cs k = get_or cs k no_placed

-- each section that is placed has the address of its place, and no other section has one; those without are those that aren't live;
-- there is a row for each file, with one item for each of its sections
pub record AreAddresses (fs : List ObjectValue) (ps : List Site) (places : List ℕ) (rows : List (List (Option ℕ))) : Type 0 where
  pub files : length rows ≡ length fs
  pub long : (f : ℕ) → f < length fs → length (get_or rows f []) ≡ length (object_at fs f).sections
  pub placed : (k : ℕ) → k < length ps → cell rows (site_at ps k).file (site_at ps k).index ≡ Some (slice_index places k)
  pub only : (f s a : ℕ) → cell rows f s ≡ Some a → (k : ℕ) × (k < length ps) × ((site_at ps k).file ≡ f) × ((site_at ps k).index ≡ s)
  pub none : (f s : ℕ) → (cell rows f s ≡ None) ↔ ¬ live fs (site f s)

abbrev pub member_of : Site → Member
member_of p = record { file = p.file; section = p.index }

-- an output of these members, whose parts are those from position `start` on: from its first member to the end of its last
pub record IsOutput (fs : List ObjectValue) (ms : List Site) (parts : List (ℕ × ℕ)) (places : List ℕ) (start : ℕ)
    (o : OutputValue) : Type 0 where
  pub name : o.name ≡ (section_at_site fs (site_at ms 0)).name
  pub flags : o.flags ≡ output_flags (section_at_site fs (site_at ms 0)).flags
  pub no_bits : o.no_bits ≡ is_no_bits (section_at_site fs (site_at ms 0)).body
  pub members : o.members ≡ map member_of ms
  pub address : o.address ≡ slice_index places start
  pub end : o.address + o.length ≡ end_of parts places (start + length ms - 1)

abbrev pub members_at : List (List Site) → ℕ → List Site
members_at outputs k = get_or outputs k []

-- how many sections are in the outputs before output k
abbrev pub start_of : List (List Site) → ℕ → ℕ
start_of outputs k = length (flat (take k outputs))

abbrev pub ArePlacedOutputs : List ObjectValue → List (List Site) → List (ℕ × ℕ) → List ℕ → ℕ → List OutputValue → Type 0
ArePlacedOutputs fs outputs parts places = AreEach no_output (λ k. IsOutput fs (members_at outputs k) parts places (start_of outputs k))

-- the commons, whose places are those from position `first` on
abbrev pub placed_common : List ObjectValue → List ℕ → ℕ → Chosen → CommonValue
placed_common fs places k c = record { name = name_at fs c.site; address = slice_index places k; size = c.size; align = c.align }

abbrev pub ArePlacedCommons : List ObjectValue → List Chosen → List ℕ → ℕ → ℕ → List CommonValue → Type 0
ArePlacedCommons fs cs places first = AreEach no_placed (λ k c. c ≡ placed_common fs places (first + k) (chosen_at cs k))

-- What the code keeps while it plans.

-- all sites of all lists are sections of their files
abbrev pub AreAllIn : List ObjectValue → List (List Site) → Type 0
AreAllIn fs outputs = (k : ℕ) → k < length outputs → AreIn fs (get_or outputs k [])

-- the list has each live section, once
pub record AreLive (fs : List ObjectValue) (ps : List Site) : Type 0 where
  pub once : AreOnce ps
  pub each : (k : ℕ) → k < length ps → live fs (site_at ps k)
  pub all : (p : Site) → live fs p → IsSiteIn ps p

-- the addresses of the first n sites are there, and no others
pub record AreFilled (fs : List ObjectValue) (ps : List Site) (places : List ℕ) (n : ℕ) (rows : List (List (Option ℕ))) : Type 0 where
  pub files : length rows ≡ length fs
  pub long : (f : ℕ) → f < length fs → length (get_or rows f []) ≡ length (object_at fs f).sections
  pub placed : (k : ℕ) → k < n → cell rows (site_at ps k).file (site_at ps k).index ≡ Some (slice_index places k)
  pub others : (f s a : ℕ) → cell rows f s ≡ Some a → (k : ℕ) × (k < n) × ((site_at ps k).file ≡ f) × ((site_at ps k).index ≡ s)

abbrev pub with_cell : List (List (Option ℕ)) → ℕ → ℕ → ℕ → List (List (Option ℕ))
with_cell rows f s a = set rows f (set (get_or rows f []) s (Some a))

-- rows without addresses for the first n files
abbrev pub AreEmptyRows : List ObjectValue → ℕ → List (List (Option ℕ)) → Type 0
AreEmptyRows fs = AreEach [] (λ f row. row ≡ replicate (length (object_at fs f).sections) None)

-- the parts have their least places, and end there below 2^64
abbrev pub ArePlaced : List (ℕ × ℕ) → List ℕ → Type 0
ArePlaced parts places = (base : ℕ) × Least parts base places × EndsFit parts places (length parts)

-- each output has a member
abbrev pub AreSome : List (List Site) → Type 0
AreSome outputs = (k : ℕ) → k < length outputs → 0 < length (get_or outputs k [])

-- What contracts see of an output and of a common that has an address.

abbrev pub output_value : Output → OutputValue
output_value o =
    record { name = o.name.now; flags = o.flags; no_bits = o.no_bits; address = o.address; length = o.length; members = o.members.items }

abbrev pub common_value : Common → CommonValue
common_value c = record { name = c.name.now; address = c.address; size = c.size; align = c.align }
