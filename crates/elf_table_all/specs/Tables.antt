-- All tables of a file: their rules, their verdicts, and what they refer to.
use Rattle.std.specs.Prelude.{ℕ, Option, None, Some, List, [], ◌≡◌, Result, Ok, Err, ◌<◌, length, get_or, unwrap_or, ◌⊎◌}
use Rattle.std.specs.BTreeMap.{get}
use Rattle.std.specs.Ordering.{nat_cmp}
use Rattle.elf_image_outline.specs.Image.{ImageValue}
use Rattle.elf_image_rules.specs.Rows.{HaveOneFault, Ruled, fault_of, FirstIn}
use Rattle.elf_image_rules.specs.Rows.{Broken}
use Rattle.elf_image_stream.specs.declared.fault.BytesFault.TheVariants.{OutOfMemory, Rule}
use Rattle.elf_image_stream.specs.declared.fault.BytesFault.{BytesFault}
use Rattle.elf_table_all.specs.declared.tables.Tables.TheInside.{Inside}
use Rattle.elf_table_all.specs.declared.verdicts.AllIndexTables.{AllIndexTables}
use Rattle.elf_table_hash.specs.HashRules.{hash_table_rules}
use Rattle.elf_table_lists.specs.Dynamic.{dynamic_section_rules}
use Rattle.elf_table_lists.specs.Groups.{group_section_rules}
use Rattle.elf_table_lists.specs.Notes.{note_section_rules}
use Rattle.elf_table_lists.specs.Relocations.{relocation_section_rules}
use Rattle.elf_table_symbols.specs.Sections.{Sections, count, section, kind_of, sections_of, content}
use Rattle.elf_table_symbols.specs.SymbolView.{no_symbol_entry}
use Rattle.elf_table_symbols.specs.Symbols.{symbol_table_rules, AreIndexTables, index_table, symbols_of}
use Rattle.elf_table_symbols.specs.declared.index_tables.IndexTables.{IndexTables}
use Rattle.elf_table_symbols.specs.declared.table_section.TableKind.TheVariants.{SymbolTable, RelocationTable, SectionGroup, NoteSection}
use Rattle.elf_table_symbols.specs.declared.table_section.TableKind.TheVariants.{DynamicArray, HashTable}
use Rattle.elf_table_symbols.specs.declared.table_section.TableKind.{TableKind}

-- The rules of the table that a section holds, by the kind of the table.

-- those of a table of this kind in section i
abbrev pub rules_of_kind : Option TableKind → Sections → ℕ → List {1} (Ruled ℕ)
rules_of_kind None f i = []
rules_of_kind (Some SymbolTable) f i = symbol_table_rules f i
rules_of_kind (Some RelocationTable) f i = relocation_section_rules f i
rules_of_kind (Some SectionGroup) f i = group_section_rules f i
rules_of_kind (Some NoteSection) f i = note_section_rules f i
rules_of_kind (Some DynamicArray) f i = dynamic_section_rules f i
rules_of_kind (Some HashTable) f i = hash_table_rules f i

-- none where the section holds no table
unfoldable pub table_rules : Sections → ℕ → List {1} (Ruled ℕ)
table_rules f i = rules_of_kind (kind_of (section f i).sh_type) f i

-- The contents that the rules of a table look at. (gABI chapter 4, Sections: sh_link, SHT_SYMTAB_SHNDX.)

-- the section that section i links to
abbrev pub linked_of : Sections → ℕ → ℕ
linked_of f i = (section f i).sh_link

-- section j is the table in section i itself; or it links to j; or the section that it links to does; or j is the index table of one of
-- these two
abbrev pub IsLookedAt : Sections → ℕ → ℕ → Type 0
IsLookedAt f i j =
    (j ≡ i) ⊎ ((j ≡ linked_of f i) ⊎ ((j ≡ linked_of f (linked_of f i))
    ⊎ ((index_table f i ≡ Some j) ⊎ (index_table f (linked_of f i) ≡ Some j))))

-- two files have the same header and the same section headers, and the contents that the rules of the table in section i look at are equal
pub record AreAlike (f g : Sections) (i : ℕ) : Type 0 where
  pub header : f.header ≡ g.header
  pub headers : f.headers ≡ g.headers
  pub contents : (j : ℕ) → IsLookedAt f i j → content f j ≡ content g j

-- A validation that may take memory, as a verdict.

-- the verdict is the rule that it reports, or that it reports none
abbrev pub IsVerdictOf : {S T : Type 0} → Result S BytesFault → Result T (Broken ℕ) → Type 0
IsVerdictOf (Ok _) verdict = fault_of verdict ≡ None
IsVerdictOf (Err (Rule rule at)) verdict = fault_of verdict ≡ Some (rule, at)
IsVerdictOf (Err OutOfMemory) verdict = ⊥

-- The verdicts on all tables of a file.

-- for each of the first `end` sections the first rule that the table in it breaks, with its lowest offset: None where it
-- breaks none, or the section holds no table
pub record AreVerdicts (f : Sections) (end : ℕ) (verdicts : List (Option (ℕ × ℕ))) : Type 0 where
  pub long : length verdicts ≡ end
  pub right : (i : ℕ) → i < end → FirstIn (table_rules f i) (get_or verdicts i None)

-- and no other rule and offset is the first that one of them breaks
abbrev pub AreOnlyVerdicts : Sections → List (Option (ℕ × ℕ)) → Type 0
AreOnlyVerdicts f verdicts = AreVerdicts f (count f) verdicts × ((i : ℕ) → HaveOneFault (table_rules f i))

-- an image, and the verdicts on its tables
pub record TablesValue : Type 0 where
  pub image : ImageValue
  pub verdicts : List (Option (ℕ × ℕ))

-- section i holds a table of this kind, and it breaks no rule
pub record HasSoundTable (tables : TablesValue) (i : ℕ) (kind : TableKind) : Type 0 where
  pub there : i < length tables.image.sections
  pub typed : kind_of (section (sections_of tables.image) i).sh_type ≡ Some kind
  pub sound : get_or tables.verdicts i None ≡ None

-- The index tables of a file, by the symbol tables that they belong to.

abbrev pub no_index_tables : IndexTables
no_index_tables = record { first = None; second = None }

-- those that are noted for a symbol table in section i
abbrev pub index_tables_at : AllIndexTables → ℕ → IndexTables
index_tables_at all i = unwrap_or (get nat_cmp all.noted i) no_index_tables

-- for each section the first two index tables, of those below `end`, of a symbol table in it
pub record AreAllIndexTables (f : Sections) (end : ℕ) (all : AllIndexTables) : Type 0 where
  pub right : (i : ℕ) → AreIndexTables f i end (index_tables_at all i)

-- What contracts see of the tables of an image.

abbrev pub tables_view : Inside → TablesValue
tables_view a = record { image = a.image.now; verdicts = a.verdicts }

-- the index tables and the verdicts are those of the image
pub record AreVerdictsKept (a : Inside) : Type 0 where
  pub index_tables : AreAllIndexTables (sections_of a.image.now) (length a.image.now.sections) a.index_tables
  pub verdicts : AreVerdicts (sections_of a.image.now) (length a.image.now.sections) a.verdicts

-- The strings of a dynamic array. (gABI chapter 5, Dynamic Section.)

-- the string table that the dynamic section i links to
abbrev pub dynamic_strings : Sections → ℕ → List ℕ
dynamic_strings f i = content f (section f i).sh_link

-- The name of a section group: its signature's. (gABI chapter 4, Section Groups.)

-- the name of the symbol that the group in section i names, in the symbol table that it links to
abbrev pub signature_name : Sections → ℕ → List ℕ
signature_name f i = let s = section f i in (get_or (symbols_of f s.sh_link) s.sh_info no_symbol_entry).name
