-- Parts of a file in slots that a caller lends.
use Rattle.std.specs.Prelude.{◌≡◌, ◌<◌, ◌≤◌, ℕ, List, length, map, ◌+◌, ◌*◌, ◌-◌, ◌^◌, ◌==◌, if◌then◌else◌, None, Some, take}
use Rattle.elf_c_parts.specs.declared.parts.Part.{Part}
use Rattle.elf_c_parts.specs.declared.parts.PartRow.{PartRow}
use Rattle.elf_c_parts.specs.declared.parts.PartsFault.TheVariants.{Rule, ShortRoom}
use Rattle.elf_c_parts.specs.declared.parts.PartsFault.{PartsFault}
use Rattle.elf_c_parts.specs.declared.room.Slot.{Slot}
use Rattle.elf_c_parts.specs.declared.room.SlotRow.{SlotRow}
use Rattle.elf_extent.specs.Account.{Accounts}
use Rattle.elf_extent.specs.declared.extent.Extent.{Extent}
use Rattle.elf_extent.specs.declared.extent.Piece.{Piece}
use Rattle.elf_extent.specs.declared.sorted.Member.{Member}
use Rattle.elf_image_rules.specs.Rules.{KeepsRecordRules, extents_of_file, IsFault}

-- Extents in the slots of a buffer, and a buffer with too few slots.

-- the extent that a slot holds
abbrev pub extent_in : Slot → Extent
extent_in slot = record { start = slot.start; len = slot.len }

-- the extents that a row of slots shows, and how many looks at it there were
abbrev pub slot_extents : SlotRow → List Extent
slot_extents row = map extent_in row.slots.now

abbrev pub slot_looks : SlotRow → ℕ
slot_looks row = row.looks

-- there is a slot for each extent of the file, if it keeps rules 1 to 32; no other file needs a buffer
abbrev pub HasSlotsFor : List ℕ → ℕ → Type 0
HasSlotsFor b count = KeepsRecordRules b → length (extents_of_file b) ≤ count

-- the file keeps rules 1 to 32, and has more extents than the buffer has slots
pub record IsShortRoom (b : List ℕ) (count wanted : ℕ) : Type 0 where
  pub kept : KeepsRecordRules b
  pub wanted_all : wanted ≡ length (extents_of_file b)
  pub short : count < wanted

-- What each byte of a file belongs to, in the slots of a buffer.

-- what is in place of an owner's index at a gap
abbrev pub no_owner : ℕ
no_owner = 2 ^ 64 - 1

-- the piece of an account that a part is: its owner is an index in the list of the file's extents
abbrev pub piece_of_part : Part → Piece
piece_of_part part = record {
  owner = if part.owner == no_owner then None else Some part.owner;
  start = part.start;
  len = part.len;
}

-- the extent at an index, where a part holds both
abbrev pub extent_of_part : Part → Extent
extent_of_part part = record { start = part.start; len = part.len }

abbrev pub member_of_part : Part → Member
member_of_part part = record { index = part.owner; extent = extent_of_part part }

-- the first count parts account for the file: each of its bytes lies in just one of them
abbrev pub AccountsFor : List ℕ → ℕ → List Part → Type 0
AccountsFor b count parts = Accounts (extents_of_file b) (length b) 0 (map piece_of_part (take count parts))

-- how many parts a buffer has to have: three for each extent, and one
abbrev pub parts_wanted : List ℕ → ℕ
parts_wanted b = 3 * length (extents_of_file b) + 1

-- a buffer of so many parts is large enough for the file, if it keeps rules 1 to 32; no other file needs a buffer
abbrev pub HasPartsFor : List ℕ → ℕ → Type 0
HasPartsFor b count = KeepsRecordRules b → parts_wanted b ≤ count

-- the file keeps rules 1 to 32, and needs more parts than there are
pub record IsShortOfParts (b : List ℕ) (count wanted : ℕ) : Type 0 where
  pub kept : KeepsRecordRules b
  pub wanted_all : wanted ≡ parts_wanted b
  pub short : count < wanted

-- why the parts of a file are not returned in a buffer of so many
abbrev pub IsPartsRefusal : List ℕ → ℕ → PartsFault → Type 0
IsPartsRefusal b count (Rule rule at) = IsFault b (Some (rule, at)) × HasPartsFor b count
IsPartsRefusal b count (ShortRoom wanted) = IsShortOfParts b count wanted

-- The extents that a row of parts shows, and how many looks at it there were.

abbrev pub part_extents : PartRow → List Extent
part_extents row = map extent_of_part row.members.now

abbrev pub part_looks : PartRow → ℕ
part_looks row = row.looks
