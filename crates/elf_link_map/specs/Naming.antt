-- Names by position: what each is bound to, and where its common is.
use Rattle.std.specs.Prelude.{◌≡◌, ℕ, ◌<◌, Option, None, Some, MatchOption, List, get_or, length, ◌≢◌, []}
use Rattle.elf_field.specs.Abi.{STB_LOCAL}
use Rattle.elf_link_files.specs.Files.{object_at, symbol_in}
use Rattle.elf_link_files.specs.Rows.{chosen_at, site_at, name_at, AreEach}
use Rattle.elf_link_files.specs.declared.site.Chosen.{Chosen}
use Rattle.elf_link_files.specs.declared.site.Site.{Site}
use Rattle.elf_link_map.specs.LinkMap.{IsBinding, bound_in, no_name, LinkMapValue}
use Rattle.elf_link_map.specs.declared.bindings.Binding.{Binding}
use Rattle.elf_link_outputs.specs.Placed.{CommonValue, no_placed}
use Rattle.elf_object_type.specs.Object.{ObjectValue, binding}

-- the binding of a name is at this position
abbrev pub IsBindingAt : List (List ℕ × Binding) → List ℕ → ℕ → Type 0
IsBindingAt bindings name k = (k < length bindings) × (bound_in bindings name ≡ Some (get_or bindings k no_name).1)

-- that of each name is at its position
abbrev pub AreBindingPositions : List (List ℕ × Binding) → (List ℕ → Option ℕ) → Type 0
AreBindingPositions bindings position = (name : List ℕ) →
    MatchOption (position name) (bound_in bindings name ≡ None) (IsBindingAt bindings name)

-- the name of the symbol at a site, and what it is bound to
abbrev pub IsNamedAt : List ObjectValue → List CommonValue → Site → List ℕ × Binding → Type 0
IsNamedAt fs cs p named = (named.0 ≡ name_at fs p) × IsBinding fs cs (name_at fs p) named.1

-- those of the first n of these sites
abbrev pub AreNamedAt : List ObjectValue → List CommonValue → List Site → ℕ → List (List ℕ × Binding) → Type 0
AreNamedAt fs cs ps = AreEach no_name (λ k. IsNamedAt fs cs (site_at ps k))

-- the commons that have an address have the names of those that are placed
abbrev pub AreCommonNames : List ObjectValue → List Chosen → List CommonValue → Type 0
AreCommonNames fs cs = AreEach no_placed (λ k c. c.name ≡ name_at fs (chosen_at cs k).site) (length cs)

-- The index of each symbol's name: the position of its binding in a link map, in rows by file.

-- k is where the binding of the name of symbol i of file f is; nothing is said of a local one
abbrev pub IsBindingIndex : List ObjectValue → LinkMapValue → ℕ → ℕ → ℕ → Type 0
IsBindingIndex fs m f i k = binding (symbol_in fs f i) ≢ STB_LOCAL → IsBindingAt m.bindings (symbol_in fs f i).name k

-- a row has those of the first n symbols of file f
abbrev pub IsBindingRow : List ObjectValue → LinkMapValue → ℕ → ℕ → List ℕ → Type 0
IsBindingRow fs m f = AreEach 0 (IsBindingIndex fs m f)

-- the first n files have rows
abbrev pub AreBindingRows : List ObjectValue → LinkMapValue → ℕ → List (List ℕ) → Type 0
AreBindingRows fs m = AreEach [] (λ f. IsBindingRow fs m f (length (object_at fs f).symbols))

-- all files do
unfoldable pub AreBindingIndexes : List ObjectValue → LinkMapValue → List (List ℕ) → Type 0
AreBindingIndexes fs m = AreBindingRows fs m (length fs)

-- those of names with their bindings, whichever link map has these
abbrev pub AreIndexesIn : List ObjectValue → List (List ℕ × Binding) → List (List ℕ) → Type 0
AreIndexesIn fs bindings rows = (m : LinkMapValue) → m.bindings ≡ bindings → AreBindingIndexes fs m rows
