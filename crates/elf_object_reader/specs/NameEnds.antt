-- Where the names of an object's symbols and sections end in the string tables of its file. (gABI chapter 4, String Table.)
use Rattle.std.specs.Prelude.{◌+◌, ◌*◌, ◌-◌, if◌then◌else◌, nat_lt, ℕ, Bool, List, Option, None, Some, [], length, map}
use Rattle.std.specs.List.{list_any, range_with_len}
use Rattle.elf_field.specs.Abi.{SYM_SIZE}
use Rattle.elf_field.specs.Entries.{sym_at}
use Rattle.elf_image_rules.specs.Rules.{MAX_LEN}
use Rattle.elf_field.specs.Strings.{string}
use Rattle.elf_object_layout.specs.SectionsLeftOut.{symbol_table}
use Rattle.elf_object_layout.specs.declared.left_out.LeftOut.{LeftOut}
use Rattle.elf_object_reader.specs.Denotes.{kept, section_name_of}
use Rattle.elf_object_strings.specs.StringTable.{SHORT_NAME}
use Rattle.elf_object_type.specs.Object.{SectionValue, SymbolValue}
use Rattle.elf_table_symbols.specs.Sections.{Sections, section, content, order}
use Rattle.elf_table_symbols.specs.Symbols.{symbol_parts, symbols_of}

-- the end of a name at an offset of a string table: the offset after it, plus 1; 0 where no file is that long
abbrev pub name_end : ℕ → List ℕ → ℕ
name_end offset name = if nat_lt (offset + length name) MAX_LEN then offset + length name + 1 else 0

-- a name that is longer than a short one
abbrev pub is_long : List ℕ → Bool
is_long name = nat_lt SHORT_NAME (length name)

-- that of symbol j of the symbol table in section t
abbrev pub symbol_end : Sections → ℕ → ℕ → ℕ
symbol_end f t j =
    let offset = (sym_at (order f) (content f t) (SYM_SIZE * j)).st_name in
    name_end offset (string (symbol_parts f t).names offset)

-- those of the symbols from symbol 1 on; none where there is no symbol table
abbrev pub symbol_ends : Sections → Option ℕ → List ℕ
symbol_ends f None = []
symbol_ends f (Some t) = map (symbol_end f t) (range_with_len 1 (length (symbols_of f t) - 1))

-- where the name of each symbol ends, if one of them is long; else no ends
abbrev pub useful_symbol_ends : List SymbolValue → Sections → List ℕ
useful_symbol_ends symbols f = if list_any (λ symbol. is_long symbol.name) symbols then symbol_ends f (symbol_table f) else []

-- that of section i
abbrev pub section_end : Sections → ℕ → ℕ
section_end f i = name_end (section f i).sh_name (section_name_of f i)

-- where the name of each section that is kept ends, if one of them is long; else no ends
abbrev pub useful_section_ends : List SectionValue → LeftOut → Sections → List ℕ
useful_section_ends sections left f = if list_any (λ section. is_long section.name) sections then map (section_end f) (kept left f) else []
