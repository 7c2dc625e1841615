-- Symbols with long names that may share bytes, and for each the first one of the same name. (gABI chapter 4, String Table.)
use Rattle.std.specs.Prelude.{◌≡◌, ℕ, List}
use Rattle.std.specs.List.{All}
use Rattle.elf_link_files.specs.Files.{symbol_with}
use Rattle.elf_link_files.specs.KnownBefore.{id_in}
use Rattle.elf_link_files.specs.SameNames.{site_names}
use Rattle.elf_link_files.specs.declared.inputs.SymbolId.{SymbolId}
use Rattle.elf_link_files.specs.declared.same_names.Named.TheVariants.{Symbol}
use Rattle.elf_link_files.specs.declared.site.Site.{Site}
use Rattle.elf_link_names.specs.KnownNames.{IsEntryIn}
use Rattle.elf_object_strings.specs.StringTable.{AreEqualTo}
use Rattle.elf_object_type.specs.Object.{ObjectValue}

-- the site of a symbol that is not local
abbrev pub IsSiteOfEntry : List ObjectValue → Site → Type 0
IsSiteOfEntry fs p = IsEntryIn fs (id_in p.file p.index)

-- a symbol that is not local has the name of another one
pub record HasSameName (fs : List ObjectValue) (id other : SymbolId) : Type 0 where
  pub entry : IsEntryIn fs other
  pub same : (symbol_with fs other).name ≡ (symbol_with fs id).name

-- none is local, and each has the name of the one of the number beside it
pub record AreLongSymbols (fs : List ObjectValue) (sites : List Site) (firsts : List ℕ) : Type 0 where
  pub entries : All (IsSiteOfEntry fs) sites
  pub equal : AreEqualTo (site_names fs Symbol sites) firsts
