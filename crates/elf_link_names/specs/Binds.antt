-- What a name is bound to, over the set of all its entries.
-- (gABI chapter 4, Symbol Table: STB_GLOBAL, STB_WEAK, SHN_COMMON.)
use Rattle.std.specs.Prelude.{◌≡◌, ℕ, ◌⊎◌, List, ◌<◌, [], ◌∷◌, length, None, Some, ◌++◌}
use Rattle.elf_extent.specs.Extent.{Never}
use Rattle.elf_field.specs.Abi.{STB_GLOBAL}
use Rattle.elf_image_rules.specs.Rows.{Row, Ruled, rule}
use Rattle.elf_link_files.specs.FileRules.{link_section_rules, link_symbol_rules, option_rules}
use Rattle.elf_link_files.specs.Files.{symbol_in, IsCommon, IsEntry, IsStrong, IsEarlier, object_at, IsUndefinedAt, Live}
use Rattle.elf_link_files.specs.Rows.{AtSymbol, IsFirstAt, FirstAt, AtSection, site, strong, weak, commons, entries, not_weak, size_at}
use Rattle.elf_link_files.specs.Rows.{align_at, IsLargest}
use Rattle.elf_link_files.specs.declared.fault.LinkFault.TheVariants.{Rule, OutOfMemory}
use Rattle.elf_link_files.specs.declared.fault.LinkFault.{LinkFault}
use Rattle.elf_link_files.specs.declared.fault.Options.{Options}
use Rattle.elf_link_files.specs.declared.site.Site.{Site}
use Rattle.elf_link_names.specs.declared.name_rules.Choice.TheVariants.{Strong, Common, Weak, Zero}
use Rattle.elf_link_names.specs.declared.name_rules.Choice.{Choice}
use Rattle.elf_link_names.specs.declared.name_rules.NameRule.TheVariants.{TwoDefinitions, UndefinedName}
use Rattle.elf_link_names.specs.declared.name_rules.NameRule.{NameRule}
use Rattle.elf_object_type.specs.Object.{ObjectValue, binding}

-- a GLOBAL definition; else a common of the largest size and the largest alignment; else the first WEAK definition; else zero,
-- where all entries are WEAK
abbrev pub Binds : List ObjectValue → List ℕ → Choice → Type 0
Binds fs name (Strong file symbol) = IsFirstAt (strong fs name) (record { file = file; index = symbol; entry = 0 })
Binds fs name (Common size align) =
    Never (strong fs name) × IsLargest (commons fs name) (size_at fs) size × IsLargest (commons fs name) (align_at fs) align
Binds fs name (Weak file symbol) =
    Never (strong fs name) × Never (commons fs name) × IsFirstAt (weak fs name) (record { file = file; index = symbol; entry = 0 })
Binds fs name Zero =
    Never (strong fs name) × Never (commons fs name) × Never (weak fs name) × Never (not_weak fs name) × ((p : Site) × entries fs name p)

-- a name is bound to nothing: it has no definition and no common, and no entries or one that is not WEAK
abbrev pub IsUnbound : List ObjectValue → List ℕ → Type 0
IsUnbound fs name =
    Never (strong fs name) × Never (commons fs name) × Never (weak fs name) ×
    (Never (entries fs name) ⊎ ((p : Site) × not_weak fs name p))

-- each name with an entry is bound
abbrev pub AllBound : List ObjectValue → Type 0
AllBound fs = (name : List ℕ) (p : Site) → entries fs name p → IsUnbound fs name → ⊥

-- Rules 8 and 9 of the link: the definitions of a name.

-- a GLOBAL definition of the name comes before symbol i of file f
abbrev pub HasEarlier : List ObjectValue → List ℕ → ℕ → ℕ → Type 0
HasEarlier fs name f i =
    (e h : ℕ) × IsEarlier e h f i × (e < length fs) × (h < length (object_at fs e).symbols) × IsStrong fs name e h

-- rule 8: a GLOBAL definition after another of that name
abbrev pub HasTwoDefinitions : List ObjectValue → ℕ → ℕ → Type 0
HasTwoDefinitions fs f i =
    IsStrong fs (symbol_in fs f i).name f i × HasEarlier fs (symbol_in fs f i).name f i

-- rule 9: a GLOBAL entry that counts as undefined, its name bound to nothing
abbrev pub IsUndefinedName : List ObjectValue → ℕ → ℕ → Type 0
IsUndefinedName fs f i =
    (binding (symbol_in fs f i) ≡ STB_GLOBAL) × IsUndefinedAt fs f (symbol_in fs f i).place × IsUnbound fs (symbol_in fs f i).name

-- what breaks each of these rules
abbrev pub BreaksName : List ObjectValue → NameRule → ℕ → ℕ → Type 0
BreaksName fs TwoDefinitions f i = HasTwoDefinitions fs f i
BreaksName fs UndefinedName f i = IsUndefinedName fs f i

abbrev pub two_definitions : List ObjectValue → Row Site
two_definitions fs = AtSymbol fs (HasTwoDefinitions fs)

abbrev pub undefined_name : List ObjectValue → Row Site
undefined_name fs = AtSymbol fs (IsUndefinedName fs)

abbrev pub link_name_rules : List ObjectValue → List {1} (Ruled Site)
link_name_rules fs = rule 8 (two_definitions fs) ∷ rule 9 (undefined_name fs) ∷ []

-- i is the first symbol of file f that breaks the rule
abbrev pub IsFirstName : List ObjectValue → NameRule → ℕ → ℕ → Type 0
IsFirstName fs r f i =
    (i < length (object_at fs f).symbols) × BreaksName fs r f i × ((k : ℕ) → k < i → BreaksName fs r f k → ⊥)

abbrev pub HasNoName : List ObjectValue → NameRule → ℕ → Type 0
HasNoName fs r f = (k : ℕ) → k < length (object_at fs f).symbols → BreaksName fs r f k → ⊥

-- Rules 1 to 9 of the link in the order of their numbers, and the fault of files that break one.

abbrev pub input_rules : Options → List ObjectValue → List {1} (Ruled Site)
input_rules opt fs = option_rules opt fs ++ (link_section_rules fs ++ (link_symbol_rules fs ++ link_name_rules fs))

-- the first of them that is broken; memory is taken only where rules 1 and 2 are not broken
abbrev pub IsInputFault : Options → List ObjectValue → LinkFault → Type 0
IsInputFault opt fs (Rule number file index entry) =
    FirstAt (input_rules opt fs) (Some (number, record { file = file; index = index; entry = entry }))
IsInputFault opt fs OutOfMemory = FirstAt (option_rules opt fs) None

-- What is listed: live sections, chosen commons and first entries.

-- a common is chosen where its name has no GLOBAL definition; it represents the name where it is the first one
abbrev pub IsChosen : List ObjectValue → ℕ → ℕ → Type 0
IsChosen fs f i =
    (let name = (symbol_in fs f i).name in IsCommon fs name f i × IsFirstAt (commons fs name) (site f i) × Never (strong fs name))

-- an entry represents its name where it is the first one
abbrev pub IsFirstEntry : List ObjectValue → ℕ → ℕ → Type 0
IsFirstEntry fs f i = (let name = (symbol_in fs f i).name in IsEntry fs name f i × IsFirstAt (entries fs name) (site f i))

abbrev pub first_entries : List ObjectValue → Row Site
first_entries fs = AtSymbol fs (IsFirstEntry fs)

abbrev pub chosen_commons : List ObjectValue → Row Site
chosen_commons fs = AtSymbol fs (IsChosen fs)

abbrev pub live_sections : List ObjectValue → Row Site
live_sections fs = AtSection fs (Live fs)
