-- Where the outputs of a link map are, and where their members are in them. (gABI chapter 4, Sections; outputs and placement are this
-- project's profile.)
use Rattle.std.specs.Prelude.{◌≡◌, ◌↔◌, ℕ, ◌+◌, ◌^◌, ◌<◌, ◌≤◌, ◌⊎◌, Some, List, length, ◌-◌, ◌%◌, Option, None, get_or, map}
use Rattle.std.specs.Int.{IsPowerOfTwo}
use Rattle.elf_extent.specs.Place.{Fits, end_of}
use Rattle.elf_link_files.specs.Files.{section_in, object_at}
use Rattle.elf_link_files.specs.Rows.{site}
use Rattle.elf_link_map.specs.LinkMap.{LinkMapValue}
use Rattle.elf_link_outputs.specs.Outputs.{live, memory_size, is_no_bits}
use Rattle.elf_link_outputs.specs.Placed.{cell, common_at, OutputValue, no_output}
use Rattle.elf_link_outputs.specs.declared.placing.Member.{Member}
use Rattle.elf_object_type.specs.Object.{ObjectValue, ObjectFits}
use Rattle.elf_object_type.specs.ObjectRules.{IsObject}

-- The parts of a link map are apart: each live section has an address, each part ends below 2^64, and no address lies in two. (Placement is
-- this project's profile.)

-- the size in memory of section s of file f
abbrev pub size_in : List ObjectValue → ℕ → ℕ → ℕ
size_in fs f s = memory_size (section_in fs f s).body

-- section s of file f begins at address a
abbrev pub BeginsAt : LinkMapValue → ℕ → ℕ → ℕ → Type 0
BeginsAt m f s a = cell m.addresses f s ≡ Some a

-- exactly the live sections have an address; each ends below 2^64; of two of them one ends where the other begins, or before; and the
-- commons are after them, one after the other, and end below 2^64 too
pub record ArePlacedApart (fs : List ObjectValue) (m : LinkMapValue) : Type 0 where
  pub addressed : (f s : ℕ) → live fs (site f s) ↔ ((a : ℕ) × BeginsAt m f s a)
  pub within : (f s a : ℕ) → BeginsAt m f s a → a + size_in fs f s < 2 ^ 64
  pub apart : (f s a g t b : ℕ) → BeginsAt m f s a → BeginsAt m g t b →
      ((f ≡ g) × (s ≡ t)) ⊎ ((a + size_in fs f s ≤ b) ⊎ (b + size_in fs g t ≤ a))
  pub commons_within : (k : ℕ) → k < length m.commons → (common_at m.commons k).address + (common_at m.commons k).size < 2 ^ 64
  pub commons_after : (f s a k : ℕ) → BeginsAt m f s a → k < length m.commons → a + size_in fs f s ≤ (common_at m.commons k).address
  pub commons_apart : (j k : ℕ) → j < k → k < length m.commons →
      (common_at m.commons j).address + (common_at m.commons j).size ≤ (common_at m.commons k).address

-- the address of a section; 0 for one without
abbrev pub or_zero : Option ℕ → ℕ
or_zero None = 0
or_zero (Some a) = a

abbrev pub address_in : LinkMapValue → ℕ → ℕ → ℕ
address_in m f s = or_zero (cell m.addresses f s)

-- the output at a position, and where it ends
abbrev pub output_at : LinkMapValue → ℕ → OutputValue
output_at m k = get_or m.outputs k no_output

abbrev pub output_end : LinkMapValue → ℕ → ℕ
output_end m k = (output_at m k).address + (output_at m k).length

-- the member used for one that isn't there, and the one at a position of an output
abbrev pub no_member : Member
no_member = record { file = 0; section = 0 }

abbrev pub member_at : OutputValue → ℕ → Member
member_at o i = get_or o.members i no_member

abbrev pub EachMemberOf : OutputValue → (Member → Type 0) → Type 0
EachMemberOf o P = (i : ℕ) → i < length o.members → P (member_at o i)

-- where a member begins, and its part (size, alignment): it has its place, so the alignment is 1, which any place is a multiple of
abbrev pub member_address : LinkMapValue → Member → ℕ
member_address m p = address_in m p.file p.section

abbrev pub member_part : List ObjectValue → Member → ℕ × ℕ
member_part fs p = (size_in fs p.file p.section, 1)

-- an output has members, all of them live, with an address, and all with bits or all without; it begins where the first of them begins,
-- each other one begins where the one before it ends, or after that, and it ends where the last one ends
pub record MembersStand (fs : List ObjectValue) (m : LinkMapValue) (o : OutputValue) : Type 0 where
  pub some : 0 < length o.members
  pub live : EachMemberOf o (λ p. live fs (site p.file p.section))
  pub begins : EachMemberOf o (λ p. BeginsAt m p.file p.section (member_address m p))
  pub kind : EachMemberOf o (λ p. is_no_bits (section_in fs p.file p.section).body ≡ o.no_bits)
  pub first : o.address ≡ member_address m (member_at o 0)
  pub order : Fits (map (member_part fs) o.members) o.address (map (member_address m) o.members)
  pub last : o.address + o.length ≡ end_of (map (member_part fs) o.members) (map (member_address m) o.members) (length o.members - 1)

-- section s of file f is member i of output k
abbrev pub IsMemberAt : LinkMapValue → ℕ → ℕ → ℕ → ℕ → Type 0
IsMemberAt m f s k i =
    (k < length m.outputs) × (i < length (output_at m k).members) × (member_at (output_at m k) i ≡ record { file = f; section = s })

-- the members of each output are in it, and each section that has an address is a member of just one, once; each output ends below 2^64,
-- and where each later one and each common begins, or before: so outputs ascend, and no address lies in two of them, or in one and a common
pub record OutputsStand (fs : List ObjectValue) (m : LinkMapValue) : Type 0 where
  pub members : (k : ℕ) → k < length m.outputs → MembersStand fs m (output_at m k)
  pub holds : (f s a : ℕ) → BeginsAt m f s a → (k i : ℕ) × IsMemberAt m f s k i
  pub once : (f s k i l j : ℕ) → IsMemberAt m f s k i → IsMemberAt m f s l j → (k ≡ l) × (i ≡ j)
  pub within : (k : ℕ) → k < length m.outputs → output_end m k < 2 ^ 64
  pub apart : (j k : ℕ) → j < k → k < length m.outputs → output_end m j ≤ (output_at m k).address
  pub commons_after : (j k : ℕ) → j < length m.outputs → k < length m.commons → output_end m j ≤ (common_at m.commons k).address

-- the page is a power of two, and each output and the first common begin at a multiple of it
pub record ArePaged (m : LinkMapValue) : Type 0 where
  pub page : IsPowerOfTwo m.page
  pub outputs : (k : ℕ) → k < length m.outputs → (output_at m k).address % m.page ≡ 0
  pub commons : 0 < length m.commons → (common_at m.commons 0).address % m.page ≡ 0

-- each file breaks none of the object rules
abbrev pub AreObjects : List ObjectValue → Type 0
AreObjects fs = (f : ℕ) → f < length fs → IsObject (object_at fs f)

-- the numbers of each file fit the fields of a file, and its names and bits are bytes
abbrev pub ObjectsFit : List ObjectValue → Type 0
ObjectsFit fs = (f : ℕ) → f < length fs → ObjectFits (object_at fs f)
