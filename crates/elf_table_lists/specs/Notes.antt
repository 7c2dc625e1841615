-- The notes of a note section, as values: one after the other, each a header of three words, a name and a descriptor, the two
-- padded. (gABI chapter 5, Note Section.)
use Rattle.std.specs.Prelude.{ℕ, zero, suc, ◌+◌, ◌-◌, ◌*◌, ◌/◌, ◌<◌, ◌≤◌, nat_lt, if◌then◌else◌, List, [], ◌∷◌, length, drop, take, ◌≡◌}
use Rattle.std.specs.Prelude.{◌≢◌, slice_index, ◌⊎◌}
use Rattle.elf_field.specs.Abi.{N_DESCSZ_AT, N_NAMESZ_AT, N_TYPE_AT, NHDR_SIZE, NOTE_ALIGN, SHT_NOTE}
use Rattle.elf_field.specs.Entries.{word_at}
use Rattle.elf_field.specs.declared.number.Order.{Order}
use Rattle.elf_image_rules.specs.Rows.{Row, Ruled, rule}
use Rattle.elf_image_rules.specs.Rows.{Broken}
use Rattle.elf_table_lists.specs.declared.notes.Note.{Note}
use Rattle.elf_table_symbols.specs.Sections.{Sections, content, order, wrong_table_type, section}

pub record NoteValue : Type 0 where
  pub note_type : ℕ
  -- without its closing zero
  pub name : List ℕ
  pub desc : List ℕ

-- ---- the note at offset x of a content

-- the sizes that its header gives: of the name, its closing zero counted, and of the descriptor
unfoldable pub namesz : Order → List ℕ → ℕ → ℕ
namesz o table x = word_at o table (x + N_NAMESZ_AT)

unfoldable pub descsz : Order → List ℕ → ℕ → ℕ
descsz o table x = word_at o table (x + N_DESCSZ_AT)

-- a size with its padding
abbrev pub padded : ℕ → ℕ
padded size = (size + (NOTE_ALIGN - 1)) / NOTE_ALIGN * NOTE_ALIGN

-- where the name begins, the descriptor, and what follows the note
abbrev pub name_start : ℕ → ℕ
name_start x = x + NHDR_SIZE

unfoldable pub desc_start : Order → List ℕ → ℕ → ℕ
desc_start o table x = name_start x + padded (namesz o table x)

unfoldable pub note_end : Order → List ℕ → ℕ → ℕ
note_end o table x = desc_start o table x + padded (descsz o table x)

unfoldable pub note_at : Order → List ℕ → ℕ → NoteValue
note_at o table x = record {
  note_type = word_at o table (x + N_TYPE_AT);
  name = take (namesz o table x - 1) (drop (name_start x) table);
  desc = take (descsz o table x) (drop (desc_start o table x) table);
}

-- ---- all of them

-- where note k begins, of those from offset x on: each begins where the one before it ends, if bytes are left there
unfoldable pub note_offset : Order → List ℕ → ℕ → ℕ → ℕ
note_offset o table x zero = x
note_offset o table x (suc k) = note_offset o table (note_end o table x) k

-- no note from offset x on is cut short
abbrev pub AreNotesWhole : Order → List ℕ → ℕ → Type 0
AreNotesWhole o table x =
    (k : ℕ) → note_offset o table x k < length table → note_end o table (note_offset o table x k) ≤ length table

-- the notes from offset x on, n of them at most
unfoldable pub first_notes : Order → List ℕ → ℕ → ℕ → List NoteValue
first_notes o table zero x = []
first_notes o table (suc n) x =
    if nat_lt x (length table) then note_at o table x ∷ first_notes o table n (note_end o table x) else []

-- all of them: there are fewer than bytes
unfoldable pub notes_in : Order → List ℕ → ℕ → List NoteValue
notes_in o table x = first_notes o table (length table) x

-- the notes of section i
unfoldable pub notes_of : Sections → ℕ → List NoteValue
notes_of f i = notes_in (order f) (content f i) 0

-- Rules 40 and 59 to 62: a note section by itself, and the notes in it. (gABI chapter 5, Note Section.)

-- the row of a rule on each note of a content: broken at the offset of one with P, at each of which a byte is left
abbrev pub AtNote : Order → List ℕ → (ℕ → Type 0) → (ℕ → ℕ) → Row ℕ
AtNote o table P place = λ y. (k : ℕ) × (note_offset o table 0 k < length table) ×
    P (note_offset o table 0 k) × (y ≡ place (note_offset o table 0 k))

-- rule 59: a note's header is cut short
abbrev pub partial_note : Order → List ℕ → ℕ → Row ℕ
partial_note o table start = AtNote o table (λ x. length table < x + NHDR_SIZE) (λ x. start + x)

-- rule 60: its padded name passes the end
abbrev pub note_name_past_end : Order → List ℕ → ℕ → Row ℕ
note_name_past_end o table start = AtNote o table (λ x. length table < desc_start o table x) (λ x. start + x + N_NAMESZ_AT)

-- rule 61: its padded descriptor passes the end
abbrev pub note_desc_past_end : Order → List ℕ → ℕ → Row ℕ
note_desc_past_end o table start = AtNote o table (λ x. length table < note_end o table x) (λ x. start + x + N_DESCSZ_AT)

-- the last byte of the name of the note at x
unfoldable pub name_last : Order → List ℕ → ℕ → ℕ
name_last o table x = name_start x + namesz o table x - 1

-- rule 62: it has a name, whose last byte isn't 0
abbrev pub IsUnclosedNoteName : Order → List ℕ → ℕ → Type 0
IsUnclosedNoteName o table x = (0 < namesz o table x) × (slice_index table (name_last o table x) ≢ 0)

abbrev pub unclosed_note_name : Order → List ℕ → ℕ → Row ℕ
unclosed_note_name o table start = AtNote o table (IsUnclosedNoteName o table) (λ x. start + name_last o table x)

-- rules 59 to 62, of the notes of a content at `start`
unfoldable pub note_rules : Order → List ℕ → ℕ → List {1} (Ruled ℕ)
note_rules o table start =
    rule 59 (partial_note o table start) ∷
    rule 60 (note_name_past_end o table start) ∷
    rule 61 (note_desc_past_end o table start) ∷
    rule 62 (unclosed_note_name o table start) ∷ []

-- all rules of the note section i, in the order in which they are tested
unfoldable pub note_section_rules : Sections → ℕ → List {1} (Ruled ℕ)
note_section_rules f i =
    rule 40 (wrong_table_type (λ type. type ≡ SHT_NOTE) f i) ∷ note_rules (order f) (content f i) (section f i).sh_offset

-- The one of rules 59 to 61 that a note breaks: it is the last one, since no note begins after it.

-- of the note at offset x of a content at `start`
abbrev pub IsCut : Order → List ℕ → ℕ → ℕ → Broken ℕ → Type 0
IsCut o table start x broken =
    ((length table < x + NHDR_SIZE) × (broken.rule ≡ 59) × (broken.at ≡ start + x)) ⊎
    ((x + NHDR_SIZE ≤ length table) × (length table < desc_start o table x) × (broken.rule ≡ 60) × (broken.at ≡ start + x + N_NAMESZ_AT)) ⊎
    ((desc_start o table x ≤ length table) × (length table < note_end o table x) × (broken.rule ≡ 61) ×
    (broken.at ≡ start + x + N_DESCSZ_AT))

-- What contracts see of a note.

abbrev pub note_value : Note → NoteValue
note_value n = record { note_type = n.note_type; name = n.name.now; desc = n.desc.now }
