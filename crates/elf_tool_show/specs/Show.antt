-- What `show` says of a file.
use Rattle.std.specs.Prelude.{ℕ, List, [], ◌∷◌, codes, take, drop, ℤ, Option, None, Some, get_or, if◌then◌else◌, length, map, ◌≡◌, ◌⊎◌}
use Rattle.std.specs.Prelude.{◌++◌, ◌<◌, ◌^◌, Result, Err}
use Rattle.std.specs.Fmt.{decimal, signed_decimal}
use Rattle.std.specs.List.{flat_map, range_with_len}
use Rattle.std.specs.Io.KnownBytes.{Keeps}
use Rattle.hex.specs.Hex.{encode_lower}
use Rattle.elf_field.specs.declared.dynamic.Dyn.{Dyn}
use Rattle.elf_field.specs.declared.ehdr.Ehdr.{Ehdr}
use Rattle.elf_field.specs.declared.number.Order.TheVariants.{Little, Big}
use Rattle.elf_field.specs.declared.number.Order.{Order}
use Rattle.elf_field.specs.declared.phdr.Phdr.{Phdr}
use Rattle.elf_field.specs.declared.shdr.Shdr.{Shdr}
use Rattle.elf_image_outline.specs.Image.{ImageValue, IsImage, program_header_of, section_header_of}
use Rattle.elf_image_outline.specs.declared.outline.Owner.TheVariants.{Header, ProgramTable, SectionTable, Content, Gap}
use Rattle.elf_image_outline.specs.declared.outline.Owner.{Owner}
use Rattle.elf_image_outline.specs.declared.outline.Part.{Part}
use Rattle.elf_image_rules.specs.Rules.{IsFault}
use Rattle.elf_image_rules.specs.Tables.{order_of}
use Rattle.elf_field.specs.Strings.{string}
use Rattle.elf_image_type.specs.ImageView.{section_name}
use Rattle.elf_table_all.specs.Tables.{dynamic_strings, signature_name, TablesValue, AreVerdicts}
use Rattle.elf_table_hash.specs.HashTable.{nbucket, nchain}
use Rattle.elf_table_hash.specs.HashView.{hash_of_section}
use Rattle.elf_table_lists.specs.Dynamic.{dynamic_array_of, is_string_tag, no_dynamic_entry}
use Rattle.elf_table_lists.specs.Groups.{GroupValue, group_of}
use Rattle.elf_table_lists.specs.Notes.{NoteValue, notes_of}
use Rattle.elf_table_lists.specs.Relocations.{no_relocation_entry, relocations_of}
use Rattle.elf_table_lists.specs.declared.relocations.Relocation.{Relocation}
use Rattle.elf_table_symbols.specs.Sections.{Sections, section, sections_of, kind_of}
use Rattle.elf_table_symbols.specs.SymbolView.{no_symbol_entry}
use Rattle.elf_table_symbols.specs.Symbols.{SymbolEntryValue, symbols_of}
use Rattle.elf_table_symbols.specs.declared.symbols.Place.TheVariants.{Undefined, Absolute, Common, Reserved, Section}
use Rattle.elf_table_symbols.specs.declared.symbols.Place.{Place}
use Rattle.elf_table_symbols.specs.declared.table_section.TableKind.TheVariants.{SymbolTable, RelocationTable, SectionGroup, NoteSection}
use Rattle.elf_table_symbols.specs.declared.table_section.TableKind.TheVariants.{DynamicArray, HashTable}
use Rattle.elf_table_symbols.specs.declared.table_section.TableKind.{TableKind}
use Rattle.elf_tool_check.specs.Engine.{IsFileCall, WritesReport}
use Rattle.elf_tool_check.specs.FileLines.{line, refused_line}
use Rattle.elf_tool_text.specs.Line.{hexadecimal, name_text, bytes_text}
use Rattle.elf_tool_check.specs.declared.calls.Refusal.TheVariants.{File, Link, TooLong}
use Rattle.elf_tool_check.specs.declared.calls.ToolFault.TheVariants.{OutOfMemory}
use Rattle.elf_tool_check.specs.declared.calls.ToolFault.{ToolFault}
use Rattle.elf_tool_check.specs.declared.calls.Verdict.TheVariants.{Done, Refused}
use Rattle.elf_tool_check.specs.declared.calls.Verdict.{Verdict}

-- The lines of `show`, word by word. (gABI chapter 4, ELF Header and Sections; chapter 5, Program Header.)

abbrev pub order_text : Order → List ℕ
order_text Little = codes "little"
order_text Big = codes "big"

-- `file little|big TYPE MACHINE ENTRY FLAGS`
unfoldable pub file_line : Ehdr → List ℕ
file_line h = line (
    codes "file" ∷ order_text
    (order_of h.e_ident) ∷ decimal h.e_type ∷ decimal h.e_machine ∷ hexadecimal h.e_entry ∷ hexadecimal h.e_flags ∷ [])

-- what a part of this owner is; of a gap its first 16 bytes at most
abbrev pub owner_words : List ℕ → Owner → List (List ℕ)
owner_words gap Header = codes "header" ∷ []
owner_words gap ProgramTable = codes "segments" ∷ []
owner_words gap SectionTable = codes "sections" ∷ []
owner_words gap (Content i) = codes "content" ∷ decimal i ∷ []
owner_words gap Gap = codes "gap" ∷ encode_lower (take 16 gap) ∷ []

-- `part START LENGTH` and what it is
unfoldable pub part_line : List ℕ → Part → List ℕ
part_line b p = line (codes "part" ∷ hexadecimal p.start ∷ hexadecimal p.len ∷ owner_words (take p.len (drop p.start b)) p.owner)

-- `section I TYPE FLAGS ADDRESS OFFSET SIZE LINK INFO ALIGNMENT ENTSIZE NAME`
unfoldable pub section_line : ℕ → Shdr → List ℕ → List ℕ
section_line i s name = line (
    codes "section" ∷ decimal i ∷ decimal s.sh_type ∷ hexadecimal s.sh_flags ∷ hexadecimal s.sh_addr ∷ hexadecimal s.sh_offset ∷ hexadecimal
    s.sh_size
    ∷ decimal s.sh_link ∷ decimal s.sh_info ∷ hexadecimal s.sh_addralign ∷ hexadecimal s.sh_entsize ∷ name_text name ∷ [])

-- `segment J TYPE FLAGS OFFSET VADDR PADDR FILESZ MEMSZ ALIGNMENT`
unfoldable pub segment_line : ℕ → Phdr → List ℕ
segment_line j g = line (
    codes "segment" ∷ decimal j ∷ decimal g.p_type ∷ hexadecimal g.p_flags ∷ hexadecimal g.p_offset ∷ hexadecimal g.p_vaddr ∷ hexadecimal
    g.p_paddr
    ∷ hexadecimal g.p_filesz ∷ hexadecimal g.p_memsz ∷ hexadecimal g.p_align ∷ [])

-- The lines of the tables that a file holds, word by word. (gABI chapter 4, Symbol Table, Relocation, Section Groups; chapter 5, Note
-- Section, Dynamic Section, Hash Table.)

-- where a symbol is defined
abbrev pub place_text : Place → List ℕ
place_text Undefined = codes "undef"
place_text Absolute = codes "abs"
place_text Common = codes "common"
place_text (Reserved index) = codes "reserved"
place_text (Section index) = decimal index

-- `symbol I S BINDING TYPE OTHER PLACE VALUE SIZE NAME`: symbol S of the table in section I
unfoldable pub symbol_line : ℕ → ℕ → SymbolEntryValue → List ℕ
symbol_line i j s = line (
    codes "symbol" ∷ decimal i ∷ decimal j ∷ decimal s.binding ∷ decimal s.symbol_type ∷ decimal s.other ∷ place_text s.place
    ∷ hexadecimal s.value ∷ hexadecimal s.size ∷ name_text s.name ∷ [])

-- `refused I RULE AT`, in place of the lines of a table that is refused
unfoldable pub table_refused_line : ℕ → ℕ → ℕ → List ℕ
table_refused_line i rule at = line (codes "refused" ∷ decimal i ∷ decimal rule ∷ decimal at ∷ [])

-- the line of each symbol of the table in section i, in order
abbrev pub symbol_text : ℕ → List SymbolEntryValue → ℕ → List ℕ
symbol_text i symbols j = symbol_line i j (get_or symbols j no_symbol_entry)

unfoldable pub symbol_lines : ℕ → List SymbolEntryValue → List ℕ
symbol_lines i symbols = flat_map (symbol_text i symbols) (range_with_len 0 (length symbols))

-- what is added, - where it is in the bytes that are relocated
abbrev pub addend_text : Option ℤ → List ℕ
addend_text None = codes "-"
addend_text (Some addend) = signed_decimal addend

-- `reloc I R OFFSET SYMBOL TYPE ADDEND`: relocation R of section I
unfoldable pub relocation_line : ℕ → ℕ → Relocation → List ℕ
relocation_line i j r = line (
    codes "reloc" ∷ decimal i ∷ decimal j ∷ hexadecimal r.offset ∷ decimal r.symbol ∷ decimal r.relocation_type ∷ addend_text r.addend ∷ [])

-- the line of each relocation of section i, in order
abbrev pub relocation_text : ℕ → List Relocation → ℕ → List ℕ
relocation_text i relocations j = relocation_line i j (get_or relocations j no_relocation_entry)

unfoldable pub relocation_lines : ℕ → List Relocation → List ℕ
relocation_lines i relocations = flat_map (relocation_text i relocations) (range_with_len 0 (length relocations))

-- `group I FLAGS NAME MEMBER..`: the group in section I, by its signature's name
unfoldable pub group_line : ℕ → List ℕ → GroupValue → List ℕ
group_line i name g = line (codes "group" ∷ decimal i ∷ decimal g.flags ∷ name_text name ∷ map decimal g.members)

-- `note I TYPE NAME DESC`: a note of section I
unfoldable pub note_line : ℕ → NoteValue → List ℕ
note_line i n = line (codes "note" ∷ decimal i ∷ decimal n.note_type ∷ name_text n.name ∷ bytes_text n.desc ∷ [])

-- the line of each note, in order
unfoldable pub note_lines : ℕ → List NoteValue → List ℕ
note_lines i notes = flat_map (note_line i) notes

-- the string of an entry that has one, in this string table
abbrev pub string_words : List ℕ → Dyn → List (List ℕ)
string_words strings e = if is_string_tag e.d_tag then name_text (string strings e.d_un) ∷ [] else []

-- `dynamic I TAG VALUE`, and the string of an entry that has one: an entry of the dynamic section I
unfoldable pub dynamic_line : ℕ → List ℕ → Dyn → List ℕ
dynamic_line i strings e = line (codes "dynamic" ∷ decimal i ∷ signed_decimal e.d_tag ∷ hexadecimal e.d_un ∷ string_words strings e)

-- the line of each entry of the dynamic section i, in order
abbrev pub dynamic_text : ℕ → List ℕ → List Dyn → ℕ → List ℕ
dynamic_text i strings entries j = dynamic_line i strings (get_or entries j no_dynamic_entry)

unfoldable pub dynamic_lines : ℕ → List ℕ → List Dyn → List ℕ
dynamic_lines i strings entries = flat_map (dynamic_text i strings entries) (range_with_len 0 (length entries))

-- `hash I NBUCKET NCHAIN`: the hash table in section I, of these words
unfoldable pub hash_line : ℕ → List ℕ → List ℕ
hash_line i words = line (codes "hash" ∷ decimal i ∷ decimal (nbucket words) ∷ decimal (nchain words) ∷ [])

-- the lines of a table of this kind in section i, where it breaks no rule
abbrev pub kind_lines : Option TableKind → Sections → ℕ → List ℕ
kind_lines None f i = []
kind_lines (Some SymbolTable) f i = symbol_lines i (symbols_of f i)
kind_lines (Some RelocationTable) f i = relocation_lines i (relocations_of f i)
kind_lines (Some SectionGroup) f i = group_line i (signature_name f i) (group_of f i)
kind_lines (Some NoteSection) f i = note_lines i (notes_of f i)
kind_lines (Some DynamicArray) f i = dynamic_lines i (dynamic_strings f i) (dynamic_array_of f i)
kind_lines (Some HashTable) f i = hash_line i (hash_of_section f i).words

-- none where the section holds no table
abbrev pub entry_lines : Sections → ℕ → List ℕ
entry_lines f i = kind_lines (kind_of (section f i).sh_type) f i

-- and with this verdict
abbrev pub table_lines : Sections → ℕ → Option (ℕ × ℕ) → List ℕ
table_lines f i None = entry_lines f i
table_lines f i (Some fault) = table_refused_line i fault.0 fault.1

abbrev pub table_text : TablesValue → ℕ → List ℕ
table_text tables i = table_lines (sections_of tables.image) i (get_or tables.verdicts i None)

-- the lines of all tables, by the indexes of their sections
unfoldable pub all_table_lines : TablesValue → List ℕ
all_table_lines tables = flat_map (table_text tables) (range_with_len 0 (length tables.image.sections))

-- the line of a section or segment by its index
abbrev pub section_text : ImageValue → ℕ → List ℕ
section_text v i = section_line i (section_header_of v.sections i) (section_name v i)

abbrev pub segment_text : ImageValue → ℕ → List ℕ
segment_text v j = segment_line j (program_header_of v.segments j)

-- the line of each part, of each section (section header 0 too), and of each segment, in order
unfoldable pub part_lines : List ℕ → ImageValue → List ℕ
part_lines b v = flat_map (λ p. part_line b p.part) v.parts

unfoldable pub section_lines : ImageValue → List ℕ
section_lines v = flat_map (section_text v) (range_with_len 0 (length v.sections))

unfoldable pub segment_lines : ImageValue → List ℕ
segment_lines v = flat_map (segment_text v) (range_with_len 0 (length v.segments))

-- the whole text on an image that is represented by b, with the verdicts on its tables
unfoldable pub show_text : List ℕ → TablesValue → List ℕ
show_text b tables =
    let v = tables.image in
    file_line v.header ++ (part_lines b v ++ (section_lines v ++ (segment_lines v ++ all_table_lines tables)))

-- the image is represented by b, and the verdicts are those on its tables
pub record AreVerdictsOf (b : List ℕ) (tables : TablesValue) : Type 0 where
  pub image : IsImage tables.image b
  pub verdicts : AreVerdicts (sections_of tables.image) (length tables.image.sections) tables.verdicts

-- the file is an image, and the text is of it and its tables; or the line is `refused` with the first broken rule and its
-- lowest offset, which the verdict carries
abbrev pub ShowSays : List ℕ → Verdict → List ℕ → Type 0
ShowSays b Done text = (tables : TablesValue) × AreVerdictsOf b tables × (text ≡ show_text b tables)
ShowSays b (Refused (File file rule at)) text = IsFault b (Some (rule, at)) × (file ≡ 0) × (text ≡ refused_line rule at)
ShowSays b (Refused (Link rule file index entry)) text = ⊥
ShowSays b (Refused TooLong) text = ⊥

-- the numbers of a verdict fit 64 bits; and those of each of n
abbrev pub IsVerdictShort : Option (ℕ × ℕ) → Type 0
IsVerdictShort None = Unit {0}
IsVerdictShort (Some fault) = (fault.0 < 2 ^ 64) × (fault.1 < 2 ^ 64)

abbrev pub VerdictsFit : ℕ → List (Option (ℕ × ℕ)) → Type 0
VerdictsFit n verdicts = (i : ℕ) → i < n → IsVerdictShort (get_or verdicts i None)

-- a call of `show`
abbrev pub IsShown : Option (List ℕ) → Option (List ℕ) → Option (List ℕ) → Option (List ℕ) → Result Verdict ToolFault → Type 0
IsShown = IsFileCall ShowSays

-- a call of `show_bytes`: when out of memory nothing is written, or the report of the bytes is
abbrev pub IsShownOf : List ℕ → Option (List ℕ) → Option (List ℕ) → Result Verdict ToolFault → Type 0
IsShownOf b old new result = ((result ≡ Err OutOfMemory) × Keeps old new) ⊎ WritesReport (ShowSays b) old new result
