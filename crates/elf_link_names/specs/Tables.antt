-- Tables of names: slots by hashes, what is looked up in them, and what is known of each name.
use Rattle.std.specs.Prelude.{◌≡◌, ℕ, cond, Option, Some, List, is_some, ◌≢◌, ◌⊎◌, ◌<◌, ◌≤◌, ◌+◌, ◌-◌, ◌*◌, ◌/◌, ◌%◌, ◌^◌, if◌then◌else◌}
use Rattle.std.specs.Prelude.{None, [], ◌∷◌, IfSome, get_or, length, Bool, false, ◌==◌, slice_get, take, drop, nat_le}
use Rattle.std.specs.Borrow.{Bor}
use Rattle.std.specs.BTreeMap.{BTreeMap}
use Rattle.std.specs.Cmp.Lexicographic.{slice_cmp}
use Rattle.std.specs.Map.{lookup}
use Rattle.std.specs.Ordering.{is_eq, nat_cmp, ordering_then}
use Rattle.std.specs.declared.cmp.Ordering.{Ordering}
use Rattle.std.specs.Str.{bytes_eq}
use Rattle.elf_field.specs.Abi.{STB_LOCAL}
use Rattle.elf_link_files.specs.Files.{symbol_in}
use Rattle.elf_link_files.specs.declared.inputs.SymbolId.{SymbolId}
use Rattle.elf_link_files.specs.declared.known.Known.{Known}
use Rattle.elf_link_names.specs.declared.known_table.KnownTable.TheInside.{Inside as KnownTableInside}
use Rattle.elf_link_names.specs.declared.known_table.Large.{Large}
use Rattle.elf_link_names.specs.declared.known_table.Row.{Row as KnownRow}
use Rattle.elf_link_names.specs.declared.known_table.SmallId.{SmallId}
use Rattle.elf_link_names.specs.declared.name_index.Lookup.{Lookup}
use Rattle.elf_link_names.specs.declared.name_index.NameIndex.TheInside.{Inside}
use Rattle.elf_link_names.specs.declared.slots.Entry.{Entry}
use Rattle.elf_link_names.specs.declared.slots.Seen.TheVariants.{Free, Here, Taken}
use Rattle.elf_link_names.specs.declared.slots.Seen.{Seen}
use Rattle.elf_link_names.specs.declared.slots.Slot.{Slot}
use Rattle.elf_link_names.specs.declared.slots.TheConstants.{MOST_NAMES, MOST_STEPS}
use Rattle.elf_object_type.specs.Object.{ObjectValue, binding}
use Rattle.std.specs.Hash.FoldHasher as folding
use Rattle.std.specs.Int.{to_le_bytes, w64}
use Rattle.elf_link_names.specs.declared.long_symbols.TheConstants.{LONG_NAME}

-- Names by position, in an ordered map.

-- the key of a name: its length, and the name; the order of a name and a key
abbrev pub NameKey : Type 0
NameKey = ℕ × Bor (List ℕ)

abbrev pub name_key_cmp : List ℕ → NameKey → Ordering
name_key_cmp name key = ordering_then (nat_cmp (length name) key.0) (slice_cmp nat_cmp name key.1.now)

-- where the entries of a map say that a name is
abbrev pub position_among : List (NameKey × ℕ) → List ℕ → Option ℕ
position_among entries name = lookup (λ (key : NameKey). is_eq (name_key_cmp name key)) entries

abbrev pub position_by : BTreeMap NameKey ℕ → List ℕ → Option ℕ
position_by positions = position_among positions.entries

-- a name that has a position keeps it, a further one gets this one, and all other names keep theirs
abbrev pub IsPlaced : Option ℕ → List ℕ → ℕ → (List ℕ → Option ℕ) → (List ℕ → Option ℕ) → Type 0
IsPlaced there name next old now = (q : List ℕ) → now q ≡ cond (is_some there) (old q) (cond (bytes_eq name q) (Some next) (old q))

-- Names by position, in slots by hash, with a map after them.

-- the hash of a name: of a long one that of its first and its last 512 bytes and of its length; and the upper half of a hash
unfoldable pub short_hash : List ℕ → ℕ
short_hash name = folding.finish (folding.write folding.initial name)

unfoldable pub long_hash : List ℕ → ℕ
long_hash name =
    let first = folding.write folding.initial (take 512 name) in
    let last = folding.write first (drop (length name - 512) name) in
    folding.finish (folding.write last (to_le_bytes w64 (length name)))

abbrev pub name_hash : List ℕ → ℕ
name_hash name = if nat_le (length name) LONG_NAME then short_hash name else long_hash name

abbrev pub upper_of : ℕ → ℕ
upper_of hash = hash / 2 ^ 32

-- the place of a hash among so many: as far into them as its lower half is into the numbers below 2^32
abbrev pub place_among : ℕ → ℕ → ℕ
place_among hash count = hash % 2 ^ 32 * count / 2 ^ 32

-- those used for a slot and an entry that aren't there
abbrev pub free_slot : Slot
free_slot = record { upper = 0; ordinal = 0 }

abbrev pub no_name_entry : Entry
no_name_entry = record { name = record { ref_ptr = (0, 0); now = [] }; position = 0 }

-- the entry of an ordinal, which counts from 1
abbrev pub ordinal_entry : List Entry → ℕ → Entry
ordinal_entry entries ordinal = get_or entries (ordinal - 1) no_name_entry

-- slot s from a place on, and that the first n of them are taken
abbrev pub slot_from : List Slot → ℕ → ℕ → Slot
slot_from slots place s = get_or slots (place + s) free_slot

abbrev pub AreSlotsTaken : List Slot → ℕ → ℕ → Type 0
AreSlotsTaken slots place n = (s : ℕ) → s < n → 0 < (slot_from slots place s).ordinal

-- a slot is the one of this name, whose hash has this upper half
abbrev pub IsOfName : List Entry → Slot → ℕ → List ℕ → Type 0
IsOfName entries slot upper name = (slot.upper ≡ upper) × ((ordinal_entry entries slot.ordinal).name.now ≡ name)

-- a slot leads to the entry of this name
abbrev pub LeadsTo : List Entry → Slot → ℕ → List ℕ → Type 0
LeadsTo entries slot upper name = (0 < slot.ordinal) × (slot.ordinal ≤ length entries) × IsOfName entries slot upper name

-- none of the first n slots from a place on is
abbrev pub IsInNone : List Slot → List Entry → ℕ → ℕ → List ℕ → ℕ → Type 0
IsInNone slots entries place upper name n = (s : ℕ) → s < n → ¬ IsOfName entries (slot_from slots place s) upper name

-- each slot that is taken has an ordinal of these entries
abbrev pub AreEntryOrdinals : List Slot → ℕ → Type 0
AreEntryOrdinals slots count = (i : ℕ) → (get_or slots i free_slot).ordinal ≤ count

-- what the slots from a place on say about a name: the first of them that is free; or its position; or that all are others'
abbrev pub Sees : List Slot → List Entry → ℕ → ℕ → List ℕ → Seen → Type 0
Sees slots entries place upper name (Free at) = (s : ℕ) × (s < MOST_STEPS) × (at ≡ place + s) × ((slot_from slots place s).ordinal ≡ 0)
    × AreSlotsTaken slots place s × IsInNone slots entries place upper name s
Sees slots entries place upper name (Here position) =
    (k : ℕ) × (k < length entries) × ((get_or entries k no_name_entry).name.now ≡ name) ×
    (position ≡ (get_or entries k no_name_entry).position)
Sees slots entries place upper name Taken = AreSlotsTaken slots place MOST_STEPS × IsInNone slots entries place upper name MOST_STEPS

-- the first slot of a name: the last slots are no name's first one
abbrev pub home : List Slot → List ℕ → ℕ
home slots name = place_among (name_hash name) (length slots - MOST_STEPS)

-- the slots from a place on end at slot n: it is the last of a name, or free
abbrev pub IsEnd : List Slot → ℕ → ℕ → Type 0
IsEnd slots place n = (n ≡ MOST_STEPS) ⊎ ((slot_from slots place n).ordinal ≡ 0)

-- what its slots say about a name: that it may take a free one; or its position; or that it is in none, and as long as there are ordinals
-- all of them are taken
abbrev pub SlotsSay : List Slot → List Entry → List ℕ → Seen → Type 0
SlotsSay slots entries name (Free at) =
    (length entries < MOST_NAMES) × Sees slots entries (home slots name) (upper_of (name_hash name)) name (Free at)
SlotsSay slots entries name (Here position) = Sees slots entries (home slots name) (upper_of (name_hash name)) name (Here position)
SlotsSay slots entries name Taken = (length entries < MOST_NAMES → AreSlotsTaken slots (home slots name) MOST_STEPS)
    × ((n : ℕ) × IsEnd slots (home slots name) n × IsInNone slots entries (home slots name) (upper_of (name_hash name)) name n)

-- a name is in one of its slots, by its ordinal, after slots that are taken
abbrev pub IsFound : List Slot → List ℕ → ℕ → Type 0
IsFound slots name ordinal = (s : ℕ) × (s < MOST_STEPS) × AreSlotsTaken slots (home slots name) s
    × (slot_from slots (home slots name) s ≡ record { upper = upper_of (name_hash name); ordinal = ordinal })

-- the name of entry k, from 0 on
abbrev pub entry_name : List Entry → ℕ → List ℕ
entry_name entries k = (get_or entries k no_name_entry).name.now

-- each entry is found, and no other has its name; a name of the map is none of an entry, and as long as there are ordinals all of its slots
-- are taken
pub record AreTables (slots : List Slot) (entries : List Entry) (more : List ℕ → Option ℕ) : Type 0 where
  pub room : MOST_STEPS < length slots
  pub known : AreEntryOrdinals slots (length entries)
  pub found : (k : ℕ) → k < length entries → IsFound slots (entry_name entries k) (k + 1)
  pub once : (j k : ℕ) → j < length entries → k < length entries → entry_name entries j ≡ entry_name entries k → j ≡ k
  pub apart : (q : List ℕ) (p k : ℕ) → more q ≡ Some p → k < length entries → entry_name entries k ≢ q
  pub overflow : length entries < MOST_NAMES → (q : List ℕ) (p : ℕ) → more q ≡ Some p → AreSlotsTaken slots (home slots q) MOST_STEPS

abbrev pub HasNameTables : Inside → Type 0
HasNameTables p = AreTables p.slots.items p.entries.items (position_by p.more)

-- what the positions are read from
pub record Positions : Type 0 where
  pub entries : List Entry
  pub more : List (NameKey × ℕ)

abbrev pub positions_value : Inside → Positions
positions_value p = record { entries = p.entries.items; more = p.more.entries }

-- where the entries say that a name is; and the one or the other of two answers
abbrev pub entry_position : List Entry → List ℕ → Option ℕ
entry_position [] q = None
entry_position (e ∷ es) q = if bytes_eq e.name.now q then Some e.position else entry_position es q

abbrev pub or_else : Option ℕ → Option ℕ → Option ℕ
or_else None other = other
or_else (Some p) other = Some p

-- where a name is
unfoldable pub name_position : Positions → List ℕ → Option ℕ
name_position p q = or_else (entry_position p.entries q) (position_among p.more q)

-- a name was looked up among these positions: this is its hash, and where its position was found, that is it
abbrev pub IsLookup : (List ℕ → Option ℕ) → List ℕ → Lookup → Type 0
IsLookup position name lookup = (lookup.hash ≡ name_hash name) × IfSome lookup.position (λ p. position name ≡ Some p)

-- The names of a block of symbols of a file, looked up before any of them is placed. Nothing is said of a local symbol.

-- a number is the hash of the name of symbol i of file f
abbrev pub IsSymbolHash : List ObjectValue → ℕ → ℕ → ℕ → Type 0
IsSymbolHash fs f i hash = binding (symbol_in fs f i) ≢ STB_LOCAL → hash ≡ name_hash (symbol_in fs f i).name

-- its name was looked up among these positions
abbrev pub IsSymbolLookup : List ObjectValue → (List ℕ → Option ℕ) → ℕ → ℕ → Lookup → Type 0
IsSymbolLookup fs position f i lookup = binding (symbol_in fs f i) ≢ STB_LOCAL → IsLookup position (symbol_in fs f i).name lookup

-- that which represents a lookup that is not there
abbrev pub no_lookup : Lookup
no_lookup = record { hash = 0; position = None }

-- the hashes, and the lookups, of n symbols of file f from one on
abbrev pub AreBlockHashes : List ObjectValue → ℕ → ℕ → ℕ → List ℕ → Type 0
AreBlockHashes fs f start n hashes = (s : ℕ) → s < n → IsSymbolHash fs f (start + s) (get_or hashes s 0)

abbrev pub AreBlockLookups : List ObjectValue → (List ℕ → Option ℕ) → ℕ → ℕ → ℕ → List Lookup → Type 0
AreBlockLookups fs position f start n lookups = (s : ℕ) → s < n → IsSymbolLookup fs position f (start + s) (get_or lookups s no_lookup)

-- What is known of a name, from its row and what doesn't fit in one.

abbrev pub id_of : SmallId → SymbolId
id_of s = record { file = s.file; index = s.index }

-- what a row holds by itself
abbrev pub small_known : KnownRow → Known
small_known r = record {
  first = id_of r.first;
  strong = if r.strong then Some (id_of r.definition) else None;
  weak = if r.weak then Some (id_of r.definition) else None;
  common = None;
  not_weak = r.not_weak;
}

-- whether it is one of name k
abbrev pub is_of : ℕ → Option Large → Bool
is_of k (Some l) = l.name == k
is_of k None = false

-- what is known of name k by the large one, if that is its own; else by its row
abbrev pub known_by : ℕ → Option Large → Known → Known
known_by k (Some l) small = if l.name == k then l.known else small
known_by k None small = small

-- what is known of name k, whose row is r
abbrev pub known_in : List Large → ℕ → KnownRow → Known
known_in ls k r = known_by k (slice_get ls r.large) (small_known r)

-- what is known of the names from k on
abbrev pub known_from : List Large → ℕ → List KnownRow → List Known
known_from ls k [] = []
known_from ls k (r ∷ rs) = known_in ls k r ∷ known_from ls (k + 1) rs

-- no row of another name is read otherwise
abbrev pub KeepsOthers : ℕ → List Large → List Large → Type 0
KeepsOthers k old new = (j : ℕ) (r : KnownRow) → j ≢ k → known_in new j r ≡ known_in old j r

-- What is known of the names of a link, as the functions of `KnownTable` look at it.

abbrev pub table_value : KnownTableInside → List Known
table_value t = known_from t.large.items 0 t.rows.items
