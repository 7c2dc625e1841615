-- The fields of records: where each begins in its record, and its width. (gABI chapter 4, ELF Header, Sections, Symbol Table, Relocation;
-- chapter 5, Program Header, Dynamic Section.)
use Rattle.std.specs.Prelude.{◌≡◌, ◌<◌, ◌≤◌, ◌+◌, ◌++◌, ℕ, List, [], ◌∷◌, get_or, length, take}
use Rattle.elf_c_parts.specs.declared.room.Slot.{Slot}
use Rattle.elf_c.specs.declared.fields.RecordKind.TheVariants.{Ehdr, Shdr, Phdr, Sym, Rela, Rel, Dyn, Word}
use Rattle.elf_c.specs.declared.fields.RecordKind.{RecordKind}
use Rattle.elf_field.specs.Entries.{dyn_layout, rel_layout, rela_layout, sym_layout}
use Rattle.elf_field.specs.Headers.{ehdr_widths, phdr_layout, shdr_layout}
use Rattle.elf_field.specs.Record.{width_of, widths}

-- the identification of a header: 16 bytes
abbrev pub ident_widths : List ℕ
ident_widths = 1 ∷ 1 ∷ 1 ∷ 1 ∷ 1 ∷ 1 ∷ 1 ∷ 1 ∷ 1 ∷ 1 ∷ 1 ∷ 1 ∷ 1 ∷ 1 ∷ 1 ∷ 1 ∷ []

-- the widths of the fields of a record, in their order
abbrev pub record_widths : RecordKind → List ℕ
record_widths Ehdr = ident_widths ++ ehdr_widths
record_widths Shdr = widths shdr_layout
record_widths Phdr = widths phdr_layout
record_widths Sym = widths sym_layout
record_widths Rela = widths rela_layout
record_widths Rel = widths rel_layout
record_widths Dyn = widths dyn_layout
record_widths Word = 4 ∷ []

-- of fields of these widths, one after the other, this one has the byte at `x`
pub record IsFieldAt (ws : List ℕ) (x : ℕ) (field : Slot) : Type 0 where
  pub index : ℕ
  pub there : index < length ws
  pub start : field.start ≡ width_of (take index ws)
  pub width : field.len ≡ get_or ws index 0
  pub from : field.start ≤ x
  pub before : x < field.start + field.len
