-- What the value of the entry symbol is made of, by what its name is bound to.
-- (gABI chapter 4, ELF Header: e_entry; Symbol Table: st_value.)
use Rattle.std.specs.Prelude.{◌≡◌, ℕ, ◌+◌, ◌<◌, ◌⊎◌, Option, None, Some, List, length}
use Rattle.std.specs.Borrow.{Bor}
use Rattle.elf_object_type.specs.Object.{ObjectValue}
use Rattle.elf_object_type.specs.declared.parts.Place.{Place}
use Rattle.elf_object_type.specs.declared.parts.Place.TheVariants.{Undef, Abs, In, Common as CommonPlace}
use Rattle.elf_link_files.specs.declared.site.Chosen.{Chosen}
use Rattle.elf_link_files.specs.declared.site.Site.{Site}
use Rattle.elf_link_files.specs.Files.{symbol_in}
use Rattle.elf_link_files.specs.Rows.{site_at}
use Rattle.elf_link_names.specs.declared.name_rules.Choice.{Choice}
use Rattle.elf_link_names.specs.declared.name_rules.Choice.TheVariants.{Strong, Common, Weak, Zero}
use Rattle.elf_link_names.specs.Binds.{Binds, IsUnbound}
use Rattle.elf_link_names.specs.Resolution.{IsCommonOf}
use Rattle.elf_link_outputs.specs.declared.addresses.Target.{Target}
use Rattle.elf_link_outputs.specs.declared.addresses.Target.TheVariants.{Lost, Fixed, Part}

-- section s of file f is the one at position k of those that are placed
abbrev pub HasSite : List Site → ℕ → ℕ → ℕ → Type 0
HasSite ps f s k = (k < length ps) × ((site_at ps k).file ≡ f) × ((site_at ps k).index ≡ s)

-- an offset in a section: in its part, or lost where the section is not placed
abbrev pub IsSectionTarget : List Site → ℕ → ℕ → ℕ → Target → Type 0
IsSectionTarget ps f s offset t =
    ((k : ℕ) × HasSite ps f s k × (t ≡ Part k offset)) ⊎ (((k : ℕ) → HasSite ps f s k → ⊥) × (t ≡ Lost))

-- the value of a symbol of file f by its place
abbrev pub IsPlaceTarget : List Site → ℕ → ℕ → Place → Target → Type 0
IsPlaceTarget ps f value Undef t = t ≡ Lost
IsPlaceTarget ps f value Abs t = t ≡ Fixed value
IsPlaceTarget ps f value CommonPlace t = t ≡ Lost
IsPlaceTarget ps f value (In s) t = IsSectionTarget ps f s value t

abbrev pub IsSymbolTarget : List ObjectValue → List Site → ℕ → ℕ → Target → Type 0
IsSymbolTarget fs ps f i t = IsPlaceTarget ps f (symbol_in fs f i).value (symbol_in fs f i).place t

-- the value of a name by its binding: that of its definition, or where its common is, after all sections
abbrev pub IsChoiceTarget : List ObjectValue → List Site → List Chosen → List ℕ → Choice → Target → Type 0
IsChoiceTarget fs ps cs name (Strong file symbol) t = IsSymbolTarget fs ps file symbol t
IsChoiceTarget fs ps cs name (Common size align) t = (k : ℕ) × IsCommonOf fs cs name k × (t ≡ Part (length ps + k) 0)
IsChoiceTarget fs ps cs name (Weak file symbol) t = IsSymbolTarget fs ps file symbol t
IsChoiceTarget fs ps cs name Zero t = t ≡ Lost

-- that of a name that is bound; of any name, lost where it is bound to nothing
abbrev pub IsBoundTarget : List ObjectValue → List Site → List Chosen → List ℕ → Target → Type 0
IsBoundTarget fs ps cs name t = (choice : Choice) × Binds fs name choice × IsChoiceTarget fs ps cs name choice t

abbrev pub IsNameTarget : List ObjectValue → List Site → List Chosen → List ℕ → Target → Type 0
IsNameTarget fs ps cs name t = (IsUnbound fs name × (t ≡ Lost)) ⊎ IsBoundTarget fs ps cs name t

-- the entry symbol's value: 0 where no name is given
abbrev pub IsEntrySymbolTarget : List ObjectValue → List Site → List Chosen → Option (Bor (List ℕ)) → Target → Type 0
IsEntrySymbolTarget fs ps cs None t = t ≡ Fixed 0
IsEntrySymbolTarget fs ps cs (Some name) t = IsNameTarget fs ps cs name.now t
