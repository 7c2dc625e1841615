-- The words of section groups, index tables and hash tables: each such section is an array of them. (gABI chapter 4, Section Groups,
-- Sections: SHT_SYMTAB_SHNDX; chapter 5, Hash Table.)
use Rattle.std.specs.Prelude.{◌≡◌, ℕ, ◌<◌, ◌/◌, List, ◌∷◌, Option, SomeIff, get_or, length}
use Rattle.elf_c.specs.Files.{order_named}
use Rattle.elf_c.specs.Places.{HoldsRecords}
use Rattle.elf_c.specs.Tables.{slot_bytes, table_in}
use Rattle.elf_c.specs.declared.fields.RecordKind.TheVariants.{Word}
use Rattle.elf_c.specs.declared.shapes.Table.{Table}
use Rattle.elf_field.specs.Abi.{WORD_SIZE}
use Rattle.elf_image_rules.specs.Rules.{KeepsRecordRules}
use Rattle.elf_table_lists.specs.Groups.{GroupValue}
use Rattle.elf_table_symbols.specs.Sections.{count, section, sections_in}
use Rattle.elf_table_symbols.specs.Symbols.{word}

-- the bytes break none of rules 1 to 32, section i holds words, and these are the numbers of its table, whether or not that breaks a rule
pub record AreWordsOf (table : Table) (b : List ℕ) (i : ℕ) : Type 0 where
  pub kept : KeepsRecordRules b
  pub there : i < count (sections_in b)
  pub typed : HoldsRecords (section (sections_in b) i).sh_type Word
  pub numbers : table ≡ table_in b i

-- the words of a group: its flags, and then its members
abbrev pub words_of_group : GroupValue → List ℕ
words_of_group g = g.flags ∷ g.members

-- What is found at an index: by the numbers of a table, whatever they are; and in a list of words.

-- a table of words has a word j
abbrev pub HasWord : Table → List ℕ → ℕ → Type 0
HasWord t b j = HoldsRecords t.sh_type Word × (j < length (slot_bytes b t.content) / WORD_SIZE)

-- word j by the numbers of a table
abbrev pub word_read : Table → List ℕ → ℕ → ℕ
word_read t b j = word (order_named t.ei_data) (slot_bytes b t.content) j

-- r is word j by the numbers of a table; None if it is not there
abbrev pub ReadsWord : Table → List ℕ → ℕ → Option ℕ → Type 0
ReadsWord t b j r = SomeIff r (HasWord t b j) (word_read t b j)

-- r is word j of these; None if there are no more
abbrev pub ListsWord : List ℕ → ℕ → Option ℕ → Type 0
ListsWord words j r = SomeIff r (j < length words) (get_or words j 0)
