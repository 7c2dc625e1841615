-- The resolved names of a link, as the functions of `Resolution` look at them.
use Rattle.std.specs.Prelude.{◌≡◌, ℕ, ◌<◌, Option, MatchOption, List, length, get_or, map}
use Rattle.elf_extent.specs.Extent.{Never}
use Rattle.elf_image_rules.specs.Rows.{Row}
use Rattle.elf_link_files.specs.Rows.{IsFirstAt, Lists, site_at, name_at, AreEach, no_common, chosen_at, AreSymbols, IsLargest, align_at}
use Rattle.elf_link_files.specs.Rows.{commons, size_at, strong}
use Rattle.elf_link_files.specs.declared.inputs.SymbolId.{SymbolId}
use Rattle.elf_link_files.specs.declared.site.Chosen.{Chosen}
use Rattle.elf_link_files.specs.declared.site.Site.{Site}
use Rattle.elf_link_files.specs.KnownBefore.{id_site}
use Rattle.elf_link_names.specs.Binds.{Binds, IsChosen, chosen_commons, first_entries, AllBound}
use Rattle.elf_link_names.specs.KnownNames.{IsKnownWhole, AreAllKnown, first_site, AreNameIndexes}
use Rattle.elf_link_names.specs.Tables.{name_position}
use Rattle.elf_link_files.specs.declared.known.Block.{Block}
use Rattle.elf_link_files.specs.declared.known.Known.{Known}
use Rattle.elf_link_names.specs.declared.name_rules.Choice.TheVariants.{Common}
use Rattle.elf_link_names.specs.declared.resolution.Resolution.TheInside.{Inside}
use Rattle.elf_object_type.specs.Object.{ObjectValue}

-- The commons that are placed: of each name without a GLOBAL definition one, of the largest size and the largest alignment.
-- (gABI chapter 4, Symbol Table: SHN_COMMON.)

-- a common has the largest size and the largest alignment of its name
abbrev pub IsOfLargest : List ObjectValue → Chosen → Type 0
IsOfLargest fs c = (let name = name_at fs c.site in
    IsLargest (commons fs name) (size_at fs) c.size × IsLargest (commons fs name) (align_at fs) c.align)

-- the chosen commons, in order of the first one of each name
abbrev pub AreChosenAt : List ObjectValue → List Site → ℕ → List Chosen → Type 0
AreChosenAt fs ps = AreEach no_common (λ k c. (c.site ≡ site_at ps k) × IsOfLargest fs c)

abbrev pub AreChosenIn : Row Site → List ObjectValue → List Chosen → Type 0
AreChosenIn row fs cs = (ps : List Site) × Lists row ps × AreChosenAt fs ps (length ps) cs

abbrev pub AreChosen : List ObjectValue → List Chosen → Type 0
AreChosen fs = AreChosenIn (chosen_commons fs) fs

-- the common that is placed for a symbol
abbrev pub IsPlacedFor : List ObjectValue → SymbolId → Chosen → Type 0
IsPlacedFor fs id c = IsChosen fs id.file id.index × (c.site ≡ id_site id) × IsOfLargest fs c

-- the common of a block, where this symbol is the first of it
abbrev pub IsBlockOf : Block → SymbolId → Option Chosen → Type 0
IsBlockOf block id chosen =
    MatchOption chosen (block.first ≡ id → ⊥)
    (λ c. (block.first ≡ id) × (c.site ≡ id_site id) × (c.size ≡ block.size) × (c.align ≡ block.align))

-- the same for an entry of a name, by what is known of the name
abbrev pub IsChosenFor : List ObjectValue → List ℕ → SymbolId → Type 0
IsChosenFor fs name id = IsFirstAt (commons fs name) (id_site id) × Never (strong fs name)

abbrev pub IsChosenOf : Known → SymbolId → Option Chosen → Type 0
IsChosenOf known id chosen = (fs : List ObjectValue) (name : List ℕ) → IsKnownWhole fs name known →
    MatchOption chosen (IsChosenFor fs name id → ⊥)
    (λ c. IsChosenFor fs name id × (c.site ≡ id_site id) × IsLargest (commons fs name) (size_at fs) c.size ×
    IsLargest (commons fs name) (align_at fs) c.align)

-- the chosen common at position k is of this name
abbrev pub IsCommonOf : List ObjectValue → List Chosen → List ℕ → ℕ → Type 0
IsCommonOf fs cs name k = (k < length cs) × (name_at fs (chosen_at cs k).site ≡ name)

-- a common is in the list for each name that is bound to one
abbrev pub HaveChosen : List ObjectValue → List Chosen → Type 0
HaveChosen fs cs = (name : List ℕ) (size align : ℕ) → Binds fs name (Common size align) → (k : ℕ) × IsCommonOf fs cs name k

-- The index of a name: its position among all names, in the order of the first entry of each.

-- the name of index k, where these are the first entries
abbrev pub indexed : List ObjectValue → List Site → ℕ → List ℕ
indexed fs firsts k = name_at fs (site_at firsts k)

-- k is the index of the name
abbrev pub IsIndex : List ObjectValue → List Site → List ℕ → ℕ → Type 0
IsIndex fs firsts name k = (k < length firsts) × (indexed fs firsts k ≡ name)

abbrev pub IsIndexOf : List ObjectValue → List ℕ → ℕ → Type 0
IsIndexOf fs name k = (firsts : List Site) × Lists (first_entries fs) firsts × IsIndex fs firsts name k

-- there are n names
abbrev pub IsNameCount : List ObjectValue → ℕ → Type 0
IsNameCount fs n = (firsts : List Site) → Lists (first_entries fs) firsts → n ≡ length firsts

-- of each name with a common among the first n the position of one of them
pub record AreRanks (fs : List ObjectValue) (firsts : List Site) (cs : List Chosen) (n : ℕ) (ranks : List ℕ) : Type 0 where
  pub long : length ranks ≡ length firsts
  pub right : (k j : ℕ) → k < length firsts → j < n → IsCommonOf fs cs (indexed fs firsts k) j →
      IsCommonOf fs cs (indexed fs firsts k) (get_or ranks k 0)

abbrev pub AreAllRanks : List ObjectValue → List Chosen → List ℕ → Type 0
AreAllRanks fs cs ranks = (firsts : List Site) → Lists (first_entries fs) firsts → AreRanks fs firsts cs (length cs) ranks

-- The names of a link in which each is bound, as a value: the files, the first entry of each name, and the commons that are placed.

pub record ResolutionValue : Type 0 where
  pub objects : List ObjectValue
  pub firsts : List Site
  pub commons : List Chosen

-- the name of index k; k is the index of the name
abbrev pub name_in : ResolutionValue → ℕ → List ℕ
name_in r k = indexed r.objects r.firsts k

abbrev pub IsIndexIn : ResolutionValue → List ℕ → ℕ → Type 0
IsIndexIn r name k = IsIndex r.objects r.firsts name k

abbrev pub resolution_value : Inside → ResolutionValue
resolution_value r = record { objects = r.inputs; firsts = map first_site r.names.known; commons = r.commons.items }

-- what is known of each name and the indexes are those of the files; each name is bound; the commons are those that are placed, and
-- the ranks their positions
pub record IsResolution (r : Inside) : Type 0 where
  pub names : AreAllKnown r.inputs (name_position r.names.positions) r.names.known
  pub indexes : AreNameIndexes r.inputs (name_position r.names.positions) (map (λ row. row.items) r.indexes.items)
  pub bound : AllBound r.inputs
  pub chosen : AreChosen r.inputs r.commons.items
  pub symbols : AreSymbols r.inputs r.commons.items
  pub all : HaveChosen r.inputs r.commons.items
  pub ranks : AreRanks r.inputs (map first_site r.names.known) r.commons.items (length r.commons.items) r.ranks.items
