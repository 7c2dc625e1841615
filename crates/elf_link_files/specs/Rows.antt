-- Where a rule of the link is broken, and the first rule of a list that is broken, at its first site: by file, index and entry.
use Rattle.std.specs.Prelude.{◌≡◌, ℕ, ◌<◌, ◌≤◌, ◌⊎◌, Option, List, length, get_or}
use Rattle.elf_image_rules.specs.Rows.{FirstBy, Row, Ruled}
use Rattle.elf_link_files.specs.Files.{object_at, symbol_in, IsCommon, IsEarlier, IsEntry, IsNotWeak, IsStrong, IsWeak}
use Rattle.elf_link_files.specs.declared.site.Chosen.{Chosen}
use Rattle.elf_link_files.specs.declared.site.Site.{Site}
use Rattle.elf_object_type.specs.Object.{ObjectValue}

abbrev pub Before : Site → Site → Type 0
Before p q = (p.file < q.file) ⊎ ((p.file ≡ q.file) × ((p.index < q.index) ⊎ ((p.index ≡ q.index) × (p.entry < q.entry))))

-- the row is broken at this site, and at no site before it
pub record IsFirstAt (row : Row Site) (p : Site) : Type 0 where
  pub stands : row p
  pub first : (q : Site) → row q → Before q p → ⊥

-- the row of a rule that is not about a file, when P holds
abbrev pub Once : Type 0 → Row Site
Once P = λ p. P × (p.file ≡ 0) × (p.index ≡ 0) × (p.entry ≡ 0)

-- the row of a rule on each file, and on each position of it below a count: a section's, or a symbol's
abbrev pub AtFile : List ObjectValue → (ℕ → Type 0) → Row Site
AtFile fs P = λ p. (p.file < length fs) × P p.file × (p.index ≡ 0) × (p.entry ≡ 0)

abbrev pub AtEach : (ObjectValue → ℕ) → List ObjectValue → (ℕ → ℕ → Type 0) → Row Site
AtEach count fs P = λ p. (p.file < length fs) × (p.index < count (object_at fs p.file)) × P p.file p.index × (p.entry ≡ 0)

abbrev pub section_count : ObjectValue → ℕ
section_count o = length o.sections

abbrev pub symbol_count : ObjectValue → ℕ
symbol_count o = length o.symbols

abbrev pub AtSection : List ObjectValue → (ℕ → ℕ → Type 0) → Row Site
AtSection = AtEach section_count

abbrev pub AtSymbol : List ObjectValue → (ℕ → ℕ → Type 0) → Row Site
AtSymbol = AtEach symbol_count

-- what was found is the first rule of the list that is broken, with its first site, and None if none is broken
abbrev pub FirstAt : List {1} (Ruled Site) → Option (ℕ × Site) → Type 0
FirstAt = FirstBy IsFirstAt

-- Lists of sites: all that a row holds, in order.

abbrev pub site : ℕ → ℕ → Site
site file index = record { file = file; index = index; entry = 0 }

abbrev pub site_at : List Site → ℕ → Site
site_at ps k = get_or ps k (site 0 0)

-- the list has each site of the row, no other, and in order
pub record Lists (row : Row Site) (ps : List Site) : Type 0 where
  pub each : (k : ℕ) → k < length ps → row (site_at ps k)
  pub all : (p : Site) → row p → (k : ℕ) × (k < length ps) × (site_at ps k ≡ p)
  pub order : (j k : ℕ) → j < k → k < length ps → Before (site_at ps j) (site_at ps k)

-- the sites of a row before position i of file f
abbrev pub UpTo : Row Site → ℕ → ℕ → Row Site
UpTo row f i = λ p. row p × IsEarlier p.file p.index f i

-- each site of the list is a section of its file
abbrev pub AreIn : List ObjectValue → List Site → Type 0
AreIn fs ps = (k : ℕ) → k < length ps →
    ((site_at ps k).file < length fs) × ((site_at ps k).index < length (object_at fs (site_at ps k).file).sections)

-- the name of the symbol at a site
abbrev pub name_at : List ObjectValue → Site → List ℕ
name_at fs p = (symbol_in fs p.file p.index).name

-- The symbols of a name. (gABI chapter 4, Symbol Table: STB_GLOBAL, STB_WEAK, SHN_COMMON.)

-- the sites of a name's GLOBAL definitions, its WEAK ones, its commons, its entries, and its entries that are not WEAK
abbrev pub strong : List ObjectValue → List ℕ → Row Site
strong fs name = AtSymbol fs (IsStrong fs name)

abbrev pub weak : List ObjectValue → List ℕ → Row Site
weak fs name = AtSymbol fs (IsWeak fs name)

abbrev pub commons : List ObjectValue → List ℕ → Row Site
commons fs name = AtSymbol fs (IsCommon fs name)

abbrev pub entries : List ObjectValue → List ℕ → Row Site
entries fs name = AtSymbol fs (IsEntry fs name)

abbrev pub not_weak : List ObjectValue → List ℕ → Row Site
not_weak fs name = AtSymbol fs (IsNotWeak fs name)

-- the size of a common, and its alignment, which is its value
abbrev pub size_at : List ObjectValue → ℕ → ℕ → ℕ
size_at fs f i = (symbol_in fs f i).size

abbrev pub align_at : List ObjectValue → ℕ → ℕ → ℕ
align_at fs f i = (symbol_in fs f i).value

-- n is the largest at the sites of the row
pub record IsLargest (row : Row Site) (measure : ℕ → ℕ → ℕ) (n : ℕ) : Type 0 where
  pub above : (p : Site) → row p → measure p.file p.index ≤ n
  pub attained : (p : Site) × row p × (measure p.file p.index ≡ n)

-- Lists by position: something said of each item, or of each two.

-- a list of n items, with something said of each by its position
pub record AreEach {A : Type 0} (none : A) (P : ℕ → A → Type 0) (n : ℕ) (items : List A) : Type 0 where
  pub count : length items ≡ n
  pub each : (k : ℕ) → k < n → P k (get_or items k none)

-- a list of sites has this one; no site is in it twice
abbrev pub IsSiteIn : List Site → Site → Type 0
IsSiteIn ps p = (k : ℕ) × (k < length ps) × (site_at ps k ≡ p)

-- each two sites of a list, the earlier one first
abbrev pub Pairs : (Site → Site → Type 0) → List Site → Type 0
Pairs R ps = (j k : ℕ) → j < k → k < length ps → R (site_at ps j) (site_at ps k)

abbrev pub AreOnce : List Site → Type 0
AreOnce = Pairs (λ p q. p ≡ q → ⊥)

-- The commons that are placed, by position.

abbrev pub no_common : Chosen
no_common = record { site = site 0 0; size = 0; align = 0 }

abbrev pub chosen_at : List Chosen → ℕ → Chosen
chosen_at cs k = get_or cs k no_common

-- each chosen common is a symbol of its file
abbrev pub AreSymbols : List ObjectValue → List Chosen → Type 0
AreSymbols fs cs = (k : ℕ) → k < length cs →
    ((chosen_at cs k).site.file < length fs) × ((chosen_at cs k).site.index < length (object_at fs (chosen_at cs k).site.file).symbols)
