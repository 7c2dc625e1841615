-- The string tables of an object, as the code has them. (gABI chapter 4, String Table.)
use Rattle.std.specs.Prelude.{◌≡◌, ◌∷◌, Bool, true, false, [], ℕ, List, map, codes}
use Rattle.elf_object_layout.specs.Laid.{section_names, symbol_names}
use Rattle.elf_object_layout.specs.declared.name_tables.NameTables.{NameTables}
use Rattle.elf_object_strings.specs.StringTable.{SharesTails, name_offset, string_table}
use Rattle.elf_object_type.specs.Object.{ObjectValue}

-- their bytes, and where each name begins
pub record AreNameTables (o : ObjectValue) (tables : NameTables) : Type 0 where
  pub strings : tables.strings.bytes.items ≡ string_table (symbol_names o)
  pub string_offsets : tables.strings.offsets.items ≡ map (name_offset (symbol_names o)) (symbol_names o)
  pub names : tables.names.bytes.items ≡ string_table (section_names o)
  pub name_offsets : tables.names.offsets.items ≡ map (name_offset (section_names o)) (section_names o)

-- the names of the sections after the object's own
abbrev pub last_names : Bool → List (List ℕ)
last_names true = codes ".symtab" ∷ codes ".symtab_shndx" ∷ codes ".strtab" ∷ codes ".shstrtab" ∷ []
last_names false = codes ".symtab" ∷ codes ".strtab" ∷ codes ".shstrtab" ∷ []

-- the names of the sections in one table and those of the symbols in the other: each at its lowest offset, and neither table could be
-- shorter
pub record HasSharedNames (o : ObjectValue) : Type 0 where
  pub sections : SharesTails (section_names o)
  pub symbols : SharesTails (symbol_names o)
