-- The entries of tables: symbols, relocations, dynamic entries and words. (gABI chapter 4, Symbol Table and Relocation; chapter 5,
-- Dynamic Section and Hash Table.)
use Rattle.std.proofs.Common.{◌<◌, ◌^◌, ℕ, List, [], ◌∷◌}
use Rattle.std.specs.Prelude.{FitsSigned}
use Rattle.std.specs.Int.{w64, cast_signed, cast_unsigned}
use Rattle.elf_field.specs.Abi.{ST_INFO_AT, ST_NAME_AT, ST_OTHER_AT, ST_SHNDX_AT, ST_SIZE_AT, ST_VALUE_AT, R_INFO_AT, R_OFFSET_AT}
use Rattle.elf_field.specs.Abi.{R_ADDEND_AT, D_TAG_AT, D_UN_AT, WORD_SIZE}
use Rattle.elf_field.specs.Bytes.{field, At, bytes_of}
use Rattle.elf_field.specs.Record.{Layout, StandsAt, record_at, record_bytes}
use Rattle.elf_field.specs.declared.dynamic.Dyn.{Dyn}
use Rattle.elf_field.specs.declared.number.Order.{Order}
use Rattle.elf_field.specs.declared.rel.Rel.{Rel}
use Rattle.elf_field.specs.declared.rela.Rela.{Rela}
use Rattle.elf_field.specs.declared.sym.Sym.{Sym}

-- A symbol: one entry of a symbol table. (gABI chapter 4, Symbol Table.)

-- the offset and the width in bytes of each field, and their order
abbrev pub sym_layout : Layout Sym
sym_layout = record {
  of = λ number. record {
    st_name = number ST_NAME_AT 4;
    st_info = number ST_INFO_AT 1;
    st_other = number ST_OTHER_AT 1;
    st_shndx = number ST_SHNDX_AT 2;
    st_value = number ST_VALUE_AT 8;
    st_size = number ST_SIZE_AT 8;
  };
  values = λ v.
      v.st_name ∷ v.st_info ∷ v.st_other ∷ v.st_shndx ∷ v.st_value ∷ v.st_size ∷ [];
}

abbrev pub sym_at : Order → List ℕ → ℕ → Sym
sym_at = record_at sym_layout

abbrev pub sym_bytes : Order → Sym → List ℕ
sym_bytes = record_bytes sym_layout

abbrev pub IsSymAt : Order → List ℕ → ℕ → Sym → Type 0
IsSymAt = StandsAt sym_layout

-- each field fits its width
pub record IsSym (v : Sym) : Type 0 where
  pub st_name : v.st_name < 2 ^ 32
  pub st_info : v.st_info < 2 ^ 8
  pub st_other : v.st_other < 2 ^ 8
  pub st_shndx : v.st_shndx < 2 ^ 16
  pub st_value : v.st_value < 2 ^ 64
  pub st_size : v.st_size < 2 ^ 64

-- A relocation without addend: one entry of a section of type REL. (gABI chapter 4, Relocation.)

-- the offset and the width in bytes of each field, and their order
abbrev pub rel_layout : Layout Rel
rel_layout = record {
  of = λ number. record {
    r_offset = number R_OFFSET_AT 8;
    r_info = number R_INFO_AT 8;
  };
  values = λ v.
      v.r_offset ∷ v.r_info ∷ [];
}

abbrev pub rel_at : Order → List ℕ → ℕ → Rel
rel_at = record_at rel_layout

abbrev pub rel_bytes : Order → Rel → List ℕ
rel_bytes = record_bytes rel_layout

abbrev pub IsRelAt : Order → List ℕ → ℕ → Rel → Type 0
IsRelAt = StandsAt rel_layout

-- each field fits its width
pub record IsRel (v : Rel) : Type 0 where
  pub r_offset : v.r_offset < 2 ^ 64
  pub r_info : v.r_info < 2 ^ 64

-- A relocation with addend: one entry of a section of type RELA. (gABI chapter 4, Relocation.)

-- the offset and the width in bytes of each field, and their order
abbrev pub rela_layout : Layout Rela
rela_layout = record {
  of = λ number. record {
    r_offset = number R_OFFSET_AT 8;
    r_info = number R_INFO_AT 8;
    r_addend = cast_signed w64 (number R_ADDEND_AT 8);
  };
  values = λ v.
      v.r_offset ∷ v.r_info ∷ cast_unsigned w64 v.r_addend ∷ [];
}

abbrev pub rela_at : Order → List ℕ → ℕ → Rela
rela_at = record_at rela_layout

abbrev pub rela_bytes : Order → Rela → List ℕ
rela_bytes = record_bytes rela_layout

abbrev pub IsRelaAt : Order → List ℕ → ℕ → Rela → Type 0
IsRelaAt = StandsAt rela_layout

-- each field fits its width
pub record IsRela (v : Rela) : Type 0 where
  pub r_offset : v.r_offset < 2 ^ 64
  pub r_info : v.r_info < 2 ^ 64
  pub r_addend : FitsSigned w64 v.r_addend

-- An entry of the dynamic array. (gABI chapter 5, Dynamic Section.)

-- the offset and the width in bytes of each field, and their order
abbrev pub dyn_layout : Layout Dyn
dyn_layout = record {
  of = λ number. record {
    d_tag = cast_signed w64 (number D_TAG_AT 8);
    d_un = number D_UN_AT 8;
  };
  values = λ v.
      cast_unsigned w64 v.d_tag ∷ v.d_un ∷ [];
}

abbrev pub dyn_at : Order → List ℕ → ℕ → Dyn
dyn_at = record_at dyn_layout

abbrev pub dyn_bytes : Order → Dyn → List ℕ
dyn_bytes = record_bytes dyn_layout

abbrev pub IsDynAt : Order → List ℕ → ℕ → Dyn → Type 0
IsDynAt = StandsAt dyn_layout

-- each field fits its width
pub record IsDyn (v : Dyn) : Type 0 where
  pub d_tag : FitsSigned w64 v.d_tag
  pub d_un : v.d_un < 2 ^ 64

-- A word of four bytes: index tables, section groups and hash tables are lists of them (gABI chapter 4, Sections:
-- SHT_SYMTAB_SHNDX, and Section Groups; chapter 5, Hash Table).

-- the word at offset x of b
abbrev pub word_at : Order → List ℕ → ℕ → ℕ
word_at o b x = field o b x WORD_SIZE

-- its bytes
abbrev pub word_bytes : Order → ℕ → List ℕ
word_bytes o v = bytes_of o WORD_SIZE v

abbrev pub IsWordAt : Order → List ℕ → ℕ → ℕ → Type 0
IsWordAt o b x v = At o b x WORD_SIZE v

abbrev pub IsWord : ℕ → Type 0
IsWord v = v < 2 ^ 32
