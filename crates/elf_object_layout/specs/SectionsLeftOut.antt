-- The sections of a file that an object does not keep: those that its layout makes again. (gABI chapter 4, Sections, String Table, Symbol
-- Table.) An index counts the file's section headers.
use Rattle.std.specs.Prelude.{ℕ, ◌==◌, ◌||◌, not, Bool, false, Option, None, Some, position}
use Rattle.elf_field.specs.Abi.{SHT_NULL, SHT_SYMTAB}
use Rattle.elf_field.specs.declared.shdr.Shdr.{Shdr}
use Rattle.elf_image_rules.specs.Tables.{name_table}
use Rattle.elf_object_layout.specs.declared.left_out.LeftOut.{LeftOut}
use Rattle.elf_table_symbols.specs.Sections.{Sections, section}
use Rattle.elf_table_symbols.specs.Symbols.{index_table}

-- the symbol table: the first section of type SYMTAB
unfoldable pub symbol_table : Sections → Option ℕ
symbol_table f = position (λ (s : Shdr). s.sh_type == SHT_SYMTAB) f.headers

-- its string table and its index table
abbrev pub symbol_strings : Sections → Option ℕ → Option ℕ
symbol_strings f None = None
symbol_strings f (Some t) = Some (section f t).sh_link

abbrev pub symbol_indexes : Sections → Option ℕ → Option ℕ
symbol_indexes f None = None
symbol_indexes f (Some t) = index_table f t

-- the sections that are left out beside those without a type: the three of the symbols, and the section name string table
abbrev pub left_out : Sections → LeftOut
left_out f = record {
  symbol_table = symbol_table f;
  strings = symbol_strings f (symbol_table f);
  index_table = symbol_indexes f (symbol_table f);
  names = name_table f.header (section f 0);
}

-- a section that may be missing is section i
abbrev pub is_at : Option ℕ → ℕ → Bool
is_at None i = false
is_at (Some k) i = k == i

-- the object keeps section i
unfoldable pub is_kept : LeftOut → Sections → ℕ → Bool
is_kept left f i = not (
    ((section f i).sh_type == SHT_NULL) || ((i == 0) ||
    (is_at left.symbol_table i || (is_at left.strings i || (is_at left.index_table i || (left.names == i))))))
