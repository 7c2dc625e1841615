-- What is known of a name by its entries before a position: its first definition of each binding, its commons, and whether an entry isn't
-- WEAK. (gABI chapter 4, Symbol Table: STB_GLOBAL, STB_WEAK, SHN_COMMON.)
use Rattle.std.specs.Prelude.{◌≡◌, ℕ, ◌≤◌, ◌⊎◌, ◌↔◌, List, Option, MatchOption, None, Some, Bool, true, if◌then◌else◌}
use Rattle.elf_image_rules.specs.Rows.{Row}
use Rattle.elf_link_files.specs.Files.{IsEarlier}
use Rattle.elf_link_files.specs.Rows.{IsFirstAt, IsLargest, UpTo, align_at, commons, not_weak, site, size_at, strong, weak}
use Rattle.elf_link_files.specs.declared.inputs.SymbolId.{SymbolId}
use Rattle.elf_link_files.specs.declared.known.Block.{Block}
use Rattle.elf_link_files.specs.declared.known.Known.{Known}
use Rattle.elf_link_files.specs.declared.site.Site.{Site}
use Rattle.elf_object_type.specs.Object.{ObjectValue}

abbrev pub id_in : ℕ → ℕ → SymbolId
id_in file index = record { file = file; index = index }

abbrev pub id_site : SymbolId → Site
id_site s = site s.file s.index

-- no site of the row is before position i of file f
abbrev pub NoneBefore : Row Site → ℕ → ℕ → Type 0
NoneBefore row f i = (p : Site) → row p → IsEarlier p.file p.index f i → ⊥

-- a site of the row is before it
abbrev pub SomeBefore : Row Site → ℕ → ℕ → Type 0
SomeBefore row f i = (p : Site) × row p × IsEarlier p.file p.index f i

-- a symbol is the first site of the row, and is before it
abbrev pub IsFirstBefore : Row Site → ℕ → ℕ → SymbolId → Type 0
IsFirstBefore row f i s = IsFirstAt row (id_site s) × IsEarlier s.file s.index f i

-- the first site of the row, where one is before it
abbrev pub IsBest : Row Site → ℕ → ℕ → Option SymbolId → Type 0
IsBest row f i best = MatchOption best (NoneBefore row f i) (IsFirstBefore row f i)

-- what was first stays; else the next symbol does, where it passes
abbrev pub first_or : Option SymbolId → Bool → SymbolId → Option SymbolId
first_or (Some s) passes next = Some s
first_or None passes next = if passes then Some next else None

-- the larger one of two numbers
abbrev pub IsLargerOf : ℕ → ℕ → ℕ → Type 0
IsLargerOf a b n = (a ≤ n) × (b ≤ n) × ((n ≡ a) ⊎ (n ≡ b))

-- the commons of the name before position i of file f: the first one, and the largest size and alignment
pub record IsBlock (fs : List ObjectValue) (name : List ℕ) (f i : ℕ) (b : Block) : Type 0 where
  pub first : IsFirstBefore (commons fs name) f i b.first
  pub size : IsLargest (UpTo (commons fs name) f i) (size_at fs) b.size
  pub align : IsLargest (UpTo (commons fs name) f i) (align_at fs) b.align

abbrev pub IsCommonBest : List ObjectValue → List ℕ → ℕ → ℕ → Option Block → Type 0
IsCommonBest fs name f i best = MatchOption best (NoneBefore (commons fs name) f i) (IsBlock fs name f i)

-- the entries of the name before position i of file f
pub record IsKnownBefore (fs : List ObjectValue) (name : List ℕ) (f i : ℕ) (k : Known) : Type 0 where
  pub strong : IsBest (strong fs name) f i k.strong
  pub weak : IsBest (weak fs name) f i k.weak
  pub common : IsCommonBest fs name f i k.common
  pub not_weak : (k.not_weak ≡ true) ↔ SomeBefore (not_weak fs name) f i

-- what is known of a name, and that an entry of it isn't WEAK
abbrev pub marked_known : Known → Known
marked_known k = record { first = k.first; strong = k.strong; weak = k.weak; common = k.common; not_weak = true }
