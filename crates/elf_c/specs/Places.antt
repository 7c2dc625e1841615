-- In which record of an owner an offset is, and in which of its fields.
use Rattle.std.specs.Prelude.{◌≡◌, ◌<◌, ◌≤◌, ◌+◌, ◌*◌, ◌-◌, ◌⊎◌, ℕ, List, [], ◌∷◌}
use Rattle.elf_c.specs.Fields.{IsFieldAt, record_widths}
use Rattle.elf_c.specs.Files.{HasSectionHeader, file_order}
use Rattle.elf_c.specs.Owners.{OwnsOffset}
use Rattle.elf_c.specs.Tables.{whole_notes}
use Rattle.elf_c.specs.declared.fields.RecordKind.TheVariants.{Ehdr, Shdr, Phdr, Sym, Rela, Rel, Dyn, Word}
use Rattle.elf_c.specs.declared.fields.RecordKind.{RecordKind}
use Rattle.elf_c.specs.declared.records.Records.{Records}
use Rattle.elf_c.specs.declared.shapes.File.{File}
use Rattle.elf_c.specs.declared.shapes.Place.{Place}
use Rattle.elf_field.specs.Abi.{SHDR_SIZE, SHT_DYNAMIC, SHT_DYNSYM, SHT_GROUP, SHT_HASH, SHT_NOTE, SHT_REL, SHT_RELA, SHT_SYMTAB}
use Rattle.elf_field.specs.Abi.{SHT_SYMTAB_SHNDX, WORD_SIZE}
use Rattle.elf_field.specs.Headers.{shdr_at}
use Rattle.elf_field.specs.Record.{width_of}
use Rattle.elf_field.specs.declared.number.Order.{Order}
use Rattle.elf_field.specs.declared.shdr.Shdr.{Shdr as SectionHeader}
use Rattle.elf_image_rules.specs.Tables.{bytes_in, content_extent}
use Rattle.elf_table_lists.specs.Notes.{descsz, namesz, note_offset, padded}

-- the records that a section of this type holds
abbrev pub HoldsRecords : ℕ → RecordKind → Type 0
HoldsRecords type Ehdr = ⊥
HoldsRecords type Shdr = ⊥
HoldsRecords type Phdr = ⊥
HoldsRecords type Sym = (type ≡ SHT_SYMTAB) ⊎ (type ≡ SHT_DYNSYM)
HoldsRecords type Rela = type ≡ SHT_RELA
HoldsRecords type Rel = type ≡ SHT_REL
HoldsRecords type Dyn = type ≡ SHT_DYNAMIC
HoldsRecords type Word = (type ≡ SHT_GROUP) ⊎ ((type ≡ SHT_SYMTAB_SHNDX) ⊎ (type ≡ SHT_HASH))

-- the section header of content i
abbrev pub header_of_content : File → List ℕ → ℕ → SectionHeader
header_of_content f b i = shdr_at (file_order f) b (f.e_shoff + SHDR_SIZE * i)

-- an owner is records of this kind, one after the other from this offset on
abbrev pub AreRecords : File → List ℕ → ℕ → Records → Type 0
AreRecords f b owner r =
    ((owner ≡ 0) × (r ≡ record { kind = Ehdr; start = 0 }))
    ⊎ (((owner ≡ 1) × (r ≡ record { kind = Shdr; start = f.e_shoff }))
    ⊎ (((owner ≡ 2) × (r ≡ record { kind = Phdr; start = f.e_phoff }))
    ⊎ ((3 ≤ owner) × HasSectionHeader f b (owner - 3) × HoldsRecords (header_of_content f b (owner - 3)).sh_type r.kind
    × (r.start ≡ (content_extent (header_of_content f b (owner - 3))).start))))

-- an owner is these records, and has the offset
abbrev pub AreRecordsAt : File → List ℕ → ℕ → ℕ → Records → Type 0
AreRecordsAt f b x owner r = AreRecords f b owner r × OwnsOffset f b x owner

-- of records one after the other, the entry that has the offset, and its field
pub record IsPlaceAmong (r : Records) (x : ℕ) (p : Place) : Type 0 where
  pub record_start : p.record.start ≡ r.start + width_of (record_widths r.kind) * p.entry
  pub record_width : p.record.len ≡ width_of (record_widths r.kind)
  pub from : p.record.start ≤ x
  pub field : IsFieldAt (record_widths r.kind) (x - p.record.start) p.field

-- The notes of a note section, which are of many widths. (gABI chapter 5, Note Section.)

-- the widths of the fields of the note at offset x of a content: three words, and the name and the descriptor, each with its padding
abbrev pub note_widths : Order → List ℕ → ℕ → List ℕ
note_widths o table x = WORD_SIZE ∷ WORD_SIZE ∷ WORD_SIZE ∷ padded (namesz o table x) ∷ padded (descsz o table x) ∷ []

-- of the notes before the first that is cut, in a content that begins at offset `start` of the file: the one that has the offset, and its
-- field
pub record IsNotePlace (o : Order) (table : List ℕ) (start x : ℕ) (p : Place) : Type 0 where
  pub whole : p.entry < whole_notes o table
  pub record_start : p.record.start ≡ start + note_offset o table 0 p.entry
  pub record_width : p.record.len ≡ width_of (note_widths o table (note_offset o table 0 p.entry))
  pub from : p.record.start ≤ x
  pub field : IsFieldAt (note_widths o table (note_offset o table 0 p.entry)) (x - p.record.start) p.field

-- an owner is the content of a note section, and has the offset in this note
abbrev pub IsNotePlaceAt : File → List ℕ → ℕ → ℕ → Place → Type 0
IsNotePlaceAt f b x owner p =
    let s = header_of_content f b (owner - 3) in
    (3 ≤ owner) × (s.sh_type ≡ SHT_NOTE) × OwnsOffset f b x owner ×
    IsNotePlace (file_order f) (bytes_in b (content_extent s)) (content_extent s).start x p

-- the record of an owner that has the offset, and its field: of records of one width, or of notes
abbrev pub IsPlaceOf : File → List ℕ → ℕ → ℕ → Place → Type 0
IsPlaceOf f b x owner p = ((r : Records) × AreRecordsAt f b x owner r × IsPlaceAmong r x p) ⊎ IsNotePlaceAt f b x owner p
