-- What is known of each name on the way through all symbols: the first definition of each binding, the commons, and whether an entry that
-- isn't WEAK is.
use Rattle.std.specs.Prelude.{◌≡◌, ℕ, ◌<◌, Option, MatchOption, List, ◌≢◌, Some, [], length, ◌↔◌, Bool, true, false, None, get_or, map, set}
use Rattle.elf_extent.specs.Extent.{Never}
use Rattle.elf_field.specs.Abi.{STB_LOCAL}
use Rattle.elf_image_rules.specs.Rows.{Row}
use Rattle.elf_link_files.specs.Files.{object_at, symbol_in, IsSymbolIn, symbol_with}
use Rattle.elf_link_files.specs.Rows.{site_at, name_at, AreEach, Lists, UpTo, IsFirstAt, IsLargest, align_at, commons, entries, not_weak}
use Rattle.elf_link_files.specs.Rows.{size_at, strong, weak}
use Rattle.elf_link_files.specs.declared.inputs.SymbolId.{SymbolId}
use Rattle.elf_link_files.specs.declared.site.Site.{Site}
use Rattle.elf_link_files.specs.KnownBefore.{id_in, id_site, IsKnownBefore}
use Rattle.elf_link_names.specs.Binds.{Binds, IsUnbound, first_entries, HasEarlier}
use Rattle.elf_link_names.specs.Tables.{name_position}
use Rattle.elf_link_files.specs.declared.known.Block.{Block}
use Rattle.elf_link_files.specs.declared.known.Known.{Known}
use Rattle.elf_link_names.specs.declared.name_rules.Choice.{Choice}
use Rattle.elf_link_names.specs.declared.name_table.NameTable.TheInside.{Inside}
use Rattle.elf_object_type.specs.Object.{ObjectValue, binding}

-- Names by position.

-- the position of each name among the first n of these sites
abbrev pub ArePositionsOf : List ObjectValue → List Site → ℕ → (List ℕ → Option ℕ) → Type 0
ArePositionsOf fs ps n position = (name : List ℕ) →
    MatchOption (position name) ((k : ℕ) → k < n → name_at fs (site_at ps k) ≡ name → ⊥) (λ k. (k < n) × (name_at fs (site_at ps k) ≡ name))

-- The index of each symbol's name: its position among the known names, in rows by file.

-- a symbol that is not local: an entry of its name
pub record IsEntryIn (fs : List ObjectValue) (id : SymbolId) : Type 0 where
  pub symbol : IsSymbolIn fs id
  pub entry : binding (symbol_with fs id) ≢ STB_LOCAL

-- k is where the name of symbol i of file f is; nothing is said of a local one
abbrev pub IsNameIndex : List ObjectValue → (List ℕ → Option ℕ) → ℕ → ℕ → ℕ → Type 0
IsNameIndex fs position f i k = binding (symbol_in fs f i) ≢ STB_LOCAL → position (symbol_in fs f i).name ≡ Some k

-- a row has those of the first n symbols of file f
abbrev pub IsIndexRow : List ObjectValue → (List ℕ → Option ℕ) → ℕ → ℕ → List ℕ → Type 0
IsIndexRow fs position f = AreEach 0 (IsNameIndex fs position f)

-- the first n files have rows
abbrev pub AreIndexRows : List ObjectValue → (List ℕ → Option ℕ) → ℕ → List (List ℕ) → Type 0
AreIndexRows fs position = AreEach [] (λ f. IsIndexRow fs position f (length (object_at fs f).symbols))

-- all files do
unfoldable pub AreNameIndexes : List ObjectValue → (List ℕ → Option ℕ) → List (List ℕ) → Type 0
AreNameIndexes fs position = AreIndexRows fs position (length fs)

-- each name that was there is where it was
abbrev pub KeepsPositions : (List ℕ → Option ℕ) → (List ℕ → Option ℕ) → Type 0
KeepsPositions old now = (q : List ℕ) (k : ℕ) → old q ≡ Some k → now q ≡ Some k

-- that which represents one that isn't there
abbrev pub no_known : Known
no_known = record { first = id_in 0 0; strong = None; weak = None; common = None; not_weak = false }

abbrev pub known_at : List Known → ℕ → Known
known_at ks k = get_or ks k no_known

-- the first entry of the name
abbrev pub first_site : Known → Site
first_site k = id_site k.first

-- name k alone is known otherwise: its first entry stays, and the others are those before position i of file f
pub record IsNotedAt (fs : List ObjectValue) (name : List ℕ) (f i k : ℕ) (old new : List Known) : Type 0 where
  pub known : Known
  pub set : new ≡ set old k known
  pub first : known.first ≡ (known_at old k).first
  pub noted : IsKnownBefore fs name f i known

-- what is known of each name before position i of file f, and the position of each name there
pub record AreKnownBefore (fs : List ObjectValue) (f i : ℕ) (position : List ℕ → Option ℕ) (ks : List Known) : Type 0 where
  pub places : ArePositionsOf fs (map first_site ks) (length ks) position
  pub firsts : Lists (UpTo (first_entries fs) f i) (map first_site ks)
  pub each : (k : ℕ) → k < length ks → IsKnownBefore fs (name_at fs (site_at (map first_site ks) k)) f i (known_at ks k)

-- all entries of the name
abbrev pub IsWholeBest : Row Site → Option SymbolId → Type 0
IsWholeBest row best = MatchOption best (Never row) (λ s. IsFirstAt row (id_site s))

pub record IsWholeBlock (fs : List ObjectValue) (name : List ℕ) (b : Block) : Type 0 where
  pub first : IsFirstAt (commons fs name) (id_site b.first)
  pub size : IsLargest (commons fs name) (size_at fs) b.size
  pub align : IsLargest (commons fs name) (align_at fs) b.align

pub record IsKnownWhole (fs : List ObjectValue) (name : List ℕ) (k : Known) : Type 0 where
  pub entry : (p : Site) × entries fs name p
  pub strong : IsWholeBest (strong fs name) k.strong
  pub weak : IsWholeBest (weak fs name) k.weak
  pub common : MatchOption k.common (Never (commons fs name)) (IsWholeBlock fs name)
  pub not_weak : (k.not_weak ≡ true) ↔ ((p : Site) × not_weak fs name p)

-- whether a name is bound to nothing, by what is known of it
abbrev pub SaysUnbound : Known → Bool → Type 0
SaysUnbound known unbound = (fs : List ObjectValue) (name : List ℕ) → IsKnownWhole fs name known → (unbound ≡ true) ↔ IsUnbound fs name

-- whether a GLOBAL definition of the name comes before a symbol, by what is known of the name
abbrev pub SaysEarlier : Known → SymbolId → Bool → Type 0
SaysEarlier known id earlier =
    (fs : List ObjectValue) (name : List ℕ) → IsKnownWhole fs name known → (earlier ≡ true) ↔ HasEarlier fs name id.file id.index

-- what a bound name makes of what is known of it
abbrev pub Makes : Known → Choice → Type 0
Makes known choice = (fs : List ObjectValue) (name : List ℕ) → IsKnownWhole fs name known → (IsUnbound fs name → ⊥) → Binds fs name choice

-- the same past all symbols
abbrev pub AreAllKnown : List ObjectValue → (List ℕ → Option ℕ) → List Known → Type 0
AreAllKnown fs position ks = AreKnownBefore fs (length fs) 0 position ks

-- What is known of the names of a link, as the functions of `NameTable` look at it.

-- the files of the link: all else follows from them
abbrev pub objects_of_table : Inside → List ObjectValue
objects_of_table t = t.inputs

-- what is known of each name and the indexes are those of the files
pub record IsTableOfNames (t : Inside) : Type 0 where
  pub names : AreAllKnown t.inputs (name_position t.names.positions) t.names.known
  pub indexes : AreNameIndexes t.inputs (name_position t.names.positions) (map (λ row. row.items) t.indexes.items)
