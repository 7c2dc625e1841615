-- The first GLOBAL definition of a name, where rule 8 of the link is broken by a later one. (gABI chapter 4, Symbol Table: STB_GLOBAL.)
use Rattle.std.specs.Prelude.{◌≡◌, ◌<◌, ◌⊎◌, ℕ, List, MatchOption, None, Option, length}
use Rattle.elf_extent.specs.Extent.{Never}
use Rattle.elf_link_files.specs.Files.{IsStrong, IsSymbolIn, object_at, symbol_with}
use Rattle.elf_link_files.specs.KnownBefore.{id_site}
use Rattle.elf_link_files.specs.Rows.{IsFirstAt, strong}
use Rattle.elf_link_files.specs.declared.inputs.SymbolId.{SymbolId}
use Rattle.elf_object_type.specs.Object.{ObjectValue}
use Rattle.elf_tool_link.specs.ObjectFiles.{AreObjectFiles, IsFirstRefused}

-- a name has no GLOBAL definition in a file, or symbol i is the first one
abbrev pub HasNoStrong : List ObjectValue → List ℕ → ℕ → Type 0
HasNoStrong fs name f = (k : ℕ) → k < length (object_at fs f).symbols → IsStrong fs name f k → ⊥

abbrev pub IsFirstStrong : List ObjectValue → List ℕ → ℕ → ℕ → Type 0
IsFirstStrong fs name f i =
    (i < length (object_at fs f).symbols) × IsStrong fs name f i × ((k : ℕ) → k < i → IsStrong fs name f k → ⊥)

-- of objects, the first GLOBAL definition of the name that a symbol has, or that it has none
abbrev pub IsFirstOfSymbol : List ObjectValue → SymbolId → Option SymbolId → Type 0
IsFirstOfSymbol fs s found =
    (let row = strong fs (symbol_with fs s).name in MatchOption found (Never row) (λ first. IsFirstAt row (id_site first)))

-- the same of files; none if a file is no object, or there is no such symbol
abbrev pub IsFirstDefinition : List (List ℕ) → SymbolId → Option SymbolId → Type 0
IsFirstDefinition files s found =
    ((fs : List ObjectValue) × AreObjectFiles files fs
    × ((IsSymbolIn fs s × IsFirstOfSymbol fs s found) ⊎ ((¬ IsSymbolIn fs s) × (found ≡ None))))
    ⊎ (((f : ℕ) × (rule : ℕ) × (at : ℕ) × IsFirstRefused files f rule at) × (found ≡ None))
