-- A canonical layout of at most 2^30 bytes is the file of its object, if the object keeps the rules and fits its fields. It is accepted,
-- denotes this object and no other, and is its only layout. These are the facts of `WrittenObjects`, with `one_object` and `one_layout`. So
-- a result that writes the layout writes this file.
use Rattle.std.proofs.Common.{◌<◌, ◌+◌, ◌*◌, ◌/◌, ◌%◌, ◌^◌, ℕ, zero, suc, Bool, true, false, Option, None, Some, List, [], ◌∷◌, get_or, map}
use Rattle.std.proofs.Common.{sym, subst, arith, ◌≡◌, ◌≢◌, ◌≤◌, ◌-◌, length, refl, ap, ◌∙◌, inl, inr}
use Rattle.std.specs.Prelude.{◌==◌, if◌then◌else◌, bit_and, drop, codes, nat_lt, slice_index, Result, Ok, Err}
use Rattle.std.specs.List.{AllByRecursion}
use Rattle.std.proofs.lemmas.List.{ext_get_or, get_or-map, length-map}
use Rattle.std.proofs.lemmas.Bool.{cases_lt, le-ltb, lt-ltb}
use Rattle.elf_extent.proofs.Public.{least_cons, least_nil}
use Rattle.elf_extent.specs.Place.{IsLeastPlace, alignment}
use Rattle.elf_field.specs.Abi.{SHF_INFO_LINK, SHN_LORESERVE, SHN_XINDEX, SHT_NULL, SHT_NOBITS}
use Rattle.elf_field.specs.Bytes.{IsBytes, bytes_of, first_bytes}
use Rattle.elf_field.specs.laws.Bytes.{IsBytes-drop, IsBytes-nil, IsBytes-take}
use Rattle.elf_field.specs.laws.Entries.{sym_laws}
use Rattle.elf_field.specs.Headers.{IsShdr, IsEhdr}
use Rattle.elf_field.specs.declared.ehdr.Ehdr.{Ehdr}
use Rattle.elf_field.specs.declared.number.Order.{Order}
use Rattle.elf_field.specs.declared.shdr.Shdr.{Shdr}
use Rattle.elf_image_outline.specs.Image.{ImageValue, IsSoundImage, value_names, IsImage, Stands}
use Rattle.elf_image_rules.proofs.Public.{equal, is_alignment}
use Rattle.elf_image_rules.specs.KeepsRules.{IsAlignment, KeepsNameRules}
use Rattle.elf_image_rules.specs.Rows.{FirstIn}
use Rattle.elf_image_rules.specs.Rules.{MAX_LEN, IsFault}
use Rattle.elf_image_rules.specs.Tables.{name_table, no_section_header, content_extent, section_header_of, order_of}
use Rattle.elf_image_type.proofs.Public.{IsBytes-identification, identification_kept, image_is_sound, relocatable_accepted}
use Rattle.elf_image_type.proofs.Public.{relocatable_is_bytes, relocatable_read, some_image}
use Rattle.elf_field.specs.Strings.{string}
use Rattle.elf_image_type.specs.WrittenFile.{IsRelocatableFile, all_headers, short_count, relocatable_bytes}
use Rattle.elf_object_file.proofs.WrittenDenotes.{written_denotes}
use Rattle.elf_object_file.proofs.WrittenFile.{EachKind, PlainFits, each_plain, plain_fits, section_names_are}
use Rattle.elf_object_file.proofs.WrittenRules.{written_keeps_rules}
use Rattle.elf_object_file.proofs.WrittenSections.{content_short, names_short, table_short, written_section}
use Rattle.elf_object_file.specs.ObjectFile.{IsWrittenAt, written_sections, IsWrittenAs, IsWrittenFile, IsObjectWritten, empty_object}
use Rattle.elf_object_file.specs.ObjectFile.{empty_object_bytes, one_section, one_section_bytes}
use Rattle.elf_object_reader.proofs.Public.{denoted_with, relocations_denoted, object_kept, one_object}
use Rattle.elf_object_layout.specs.SectionsLeftOut.{left_out, symbol_table}
use Rattle.elf_object_reader.specs.Denotes.{Denotes, body_denoted, info_denoted, plain_info, relocation_denoted, section_denoted}
use Rattle.elf_object_reader.specs.Denotes.{section_name_of, symbol_denoted, symbols_denoted, body_kind, kept, position_of}
use Rattle.elf_object_reader.specs.FileRules.{file_rules}
use Rattle.elf_object_reader.specs.declared.object_file.BodyKind.TheVariants.{Bits, NoBits, Relocs, Group}
use Rattle.elf_object_reader.specs.declared.object_file.BodyKind.{BodyKind}
use Rattle.elf_object_layout.specs.declared.left_out.LeftOut.{LeftOut}
use Rattle.elf_object_strings.proofs.Public.{holds_names}
use Rattle.elf_object_strings.specs.StringTable.{name_offset, string_table, held}
use Rattle.elf_object_type.proofs.Public.{relocations_fit as table_fits, all_of_each, no_wrong_alignment}
use Rattle.elf_object_type.specs.Object.{ObjectValue, BodyFits, InfoFits, ObjectFits, RelocationFits, SectionFits, SymbolFits, section_at}
use Rattle.elf_object_type.specs.ObjectRules.{IsObject}
use Rattle.elf_object_layout.proofs.Public.{shared_names}
use Rattle.elf_object_layout.proofs.Public.{canonical_header, canonical_section_headers, contents_of, last_sections, layout_order}
use Rattle.elf_object_layout.proofs.Public.{length-canonical_section_headers, length-plain, no_plain, plain_at, plain_last, one_layout}
use Rattle.elf_object_layout.specs.Laid.{section_header, PlainSection, has_index_table, name_table_at, plain_sections, section_names}
use Rattle.elf_object_layout.specs.Laid.{strings, strings_at, symbol_table_at, Laid, layout_bytes, layout_parts, sections_before_names}
use Rattle.elf_object_writer.specs.PlacedObject.{IsLayoutWritten}
use Rattle.elf_object_writer.specs.declared.object_writing.ObjectWriteFault.TheVariants.{TooLong, OutOfMemory, Io}
use Rattle.elf_object_writer.specs.declared.object_writing.ObjectWriteFault.{ObjectWriteFault}
use Rattle.elf_table_lists.specs.Relocations.{has_addends, relocations_of}
use Rattle.elf_table_symbols.specs.Sections.{content, order, section, sections_of, Sections}
use Rattle.elf_table_symbols.specs.Symbols.{symbol_parts, entry, symbol_entry_in, symbols_in, symbols_of}
use Rattle.elf_table_symbols.specs.Symbols as table_symbols
use Rattle.elf_object_type.specs.declared.parts.Info.TheVariants as info

-- The object that a sound image denotes fits a file (`denoted_fits`). Each of its numbers was read from a field, or is 0, so it fits that
-- field. Its names and bits are stretches of bytes, so they are bytes.

-- what holds of each element and of the one that represents none holds at any index
at_any : {A : Type 0} (P : A → Type 0) (xs : List A) (d : A) (i : ℕ) → AllByRecursion P xs → P d → P (get_or xs i d)
at_any P [] d i all none = none
at_any P (x ∷ xs) d zero all none = all.0
at_any P (x ∷ xs) d (suc i) all none = at_any P xs d i all.1 none

all_mapped : {A B : Type 0} (P : B → Type 0) (f : A → B) → ((x : A) → P (f x)) → (xs : List A) → AllByRecursion P (map f xs)
all_mapped P f each [] = tt
all_mapped P f each (x ∷ xs) = (each x, all_mapped P f each xs)

all_through : {A B : Type 0} (P : A → Type 0) (Q : B → Type 0) (f : A → B) → ((x : A) → P x → Q (f x)) → (xs : List A) →
    AllByRecursion P xs → AllByRecursion Q (map f xs)
all_through P Q f each [] all = tt
all_through P Q f each (x ∷ xs) all = (each x all.0, all_through P Q f each xs all.1)

all_dropped : {A : Type 0} (P : A → Type 0) (xs : List A) → AllByRecursion P xs → AllByRecursion P (drop 1 xs)
all_dropped P [] all = tt
all_dropped P (x ∷ xs) all = all.1

no_section_fits : IsShdr no_section_header
no_section_fits = record {
  sh_name = omega arith;
  sh_type = omega arith;
  sh_flags = omega arith;
  sh_addr = omega arith;
  sh_offset = omega arith;
  sh_size = omega arith;
  sh_link = omega arith;
  sh_info = omega arith;
  sh_addralign = omega arith;
  sh_entsize = omega arith;
}

-- a string of bytes
IsBytes-string : (table : List ℕ) (x : ℕ) → IsBytes table → IsBytes (string table x)
IsBytes-string table x bytes = IsBytes-take _ (drop x table) (IsBytes-drop x table bytes)

-- ---- symbols

-- what was in a symbol's fields
record EntryFits (s : table_symbols.SymbolEntryValue) : Type 0 where
  name : IsBytes s.name
  info : 16 * s.binding + s.symbol_type < 2 ^ 8
  other : s.other < 2 ^ 8
  value : s.value < 2 ^ 64
  size : s.size < 2 ^ 64

entry_fits : (o : Order) (table names words : List ℕ) → IsBytes table → IsBytes names → (j : ℕ) →
    EntryFits (symbol_entry_in o table names words j)
unfolding symbol_entry_in entry
entry_fits o table names words bytes names_bytes j =
    let fits = sym_laws.valid o table (24 * j) bytes in
    let e = entry o table j in
    let whole : 16 * (e.st_info / 16) + e.st_info % 16 < 2 ^ 8 = (let info = fits.st_info in omega arith) in
    record {
      name = IsBytes-string names e.st_name names_bytes;
      info = whole;
      other = fits.st_other;
      value = fits.st_value;
      size =
          fits.st_size;
    }

entries_fit : (o : Order) (table names words : List ℕ) → IsBytes table → IsBytes names →
    AllByRecursion EntryFits (symbols_in o table names words)
unfolding symbols_in
entries_fit o table names words bytes names_bytes =
    all_mapped EntryFits (symbol_entry_in o table names words) (entry_fits o table names words bytes names_bytes) _

module _ (v : ImageValue) (sound : IsSoundImage v) where
  header_of : (i : ℕ) → IsShdr (section (sections_of v) i)
  header_of i = at_any IsShdr v.sections no_section_header i sound.section_headers no_section_fits

  content_of : (i : ℕ) → IsBytes (content (sections_of v) i)
  content_of i = at_any IsBytes v.contents [] i sound.bytes IsBytes-nil

  names_of : IsBytes (value_names v.header v.sections v.contents)
  names_of = by_index (name_table v.header (section (sections_of v) 0)) ((name_table v.header (section (sections_of v) 0)) == 0)
    where
      by_index : (k : ℕ) (none : Bool) → IsBytes (if none then [] else get_or v.contents k [])
      by_index k true = IsBytes-nil
      by_index k false = content_of k

  -- ---- sections

  name_fits : (i : ℕ) → IsBytes (section_name_of (sections_of v) i)
  name_fits i = by_type ((section (sections_of v) i).sh_type == SHT_NULL)
    where
      by_type : (null : Bool) →
          IsBytes (if null then [] else string (value_names v.header v.sections v.contents) (section (sections_of v) i).sh_name)
      by_type true = IsBytes-nil
      by_type false = IsBytes-string (value_names v.header v.sections v.contents) (section (sections_of v) i).sh_name names_of

  plain_info_fits : (left : LeftOut) (i : ℕ) → InfoFits (plain_info left (sections_of v) (section (sections_of v) i))
  plain_info_fits left i = by_flag (bit_and (section (sections_of v) i).sh_flags SHF_INFO_LINK == 0)
    where
      by_flag : (number : Bool) →
          InfoFits (if number then info.Number (section (sections_of v) i).sh_info else info.Section
          (position_of left (sections_of v) (section (sections_of v) i).sh_info))
      by_flag true = (header_of i).sh_info
      by_flag false = tt

  info_fits : (left : LeftOut) (i : ℕ) (kind : BodyKind) → InfoFits (info_denoted left (sections_of v) (section (sections_of v) i) kind)
  info_fits left i Bits = plain_info_fits left i
  info_fits left i NoBits = plain_info_fits left i
  info_fits left i Relocs = omega arith
  info_fits left i Group = omega arith

  relocations_fit : (i : ℕ) → AllByRecursion RelocationFits (map relocation_denoted (relocations_of (sections_of v) i))
  unfolding relocations_of
  relocations_fit i =
      let f = sections_of v in
      let addends = has_addends (section f i).sh_type in
      subst (AllByRecursion RelocationFits) (relocations_denoted addends (order f) (content f i))
      (table_fits addends (order f) (content f i) (content_of i))

  body_fits : (left : LeftOut) (i : ℕ) (kind : BodyKind) → BodyFits (body_denoted left (sections_of v) i kind)
  body_fits left i Bits = ((header_of i).sh_type, content_of i)
  body_fits left i NoBits = (header_of i).sh_size
  body_fits left i Relocs = relocations_fit i
  body_fits left i Group = tt

  denoted_section_fits : (left : LeftOut) (i : ℕ) → SectionFits (section_denoted left (sections_of v) i)
  denoted_section_fits left i =
      let f = sections_of v in
      let kind = body_kind (section f i).sh_type in
      let header = header_of i in
      subst SectionFits (sym (denoted_with left f i)) (record {
        name = name_fits i;
        flags = header.sh_flags;
        addr = header.sh_addr;
        align = header.sh_addralign;
        entsize = header.sh_entsize;
        info = info_fits left i kind;
        body = body_fits left i kind;
      })

  -- ---- symbols

  symbols_fit : (left : LeftOut) (table : Option ℕ) → AllByRecursion SymbolFits (symbols_denoted left (sections_of v) table)
  unfolding symbols_of
  symbols_fit left None = tt
  symbols_fit left (Some t) =
      let f = sections_of v in
      let p = symbol_parts f t in
      all_through EntryFits SymbolFits (symbol_denoted left f)
      (λ s fits. record { name = fits.name; info = fits.info; other = fits.other; value = fits.value; size = fits.size }) _
      (all_dropped EntryFits (symbols_of f t)
      (entries_fit p.order p.table p.names p.words (content_of t) (content_of (section f t).sh_link)))

  pub denoted_fits : (o : ObjectValue) → Denotes (sections_of v) o → ObjectFits o
  denoted_fits o denotes =
      let f = sections_of v in
      let header = sound.header in
      record {
        osabi = subst (λ (n : ℕ). n < 2 ^ 8) (sym denotes.osabi) (header.e_ident_bytes 7);
        abi = subst (λ (n : ℕ). n < 2 ^ 8) (sym denotes.abi) (header.e_ident_bytes 8);
        machine = subst (λ (n : ℕ). n < 2 ^ 16) (sym denotes.machine) header.e_machine;
        flags = subst (λ (n : ℕ). n < 2 ^ 32) (sym denotes.flags) header.e_flags;
        sections = subst (AllByRecursion SectionFits) (sym denotes.sections)
            (all_mapped SectionFits (section_denoted (left_out f) f) (denoted_section_fits (left_out f)) (kept (left_out f) f));
        symbols = subst (AllByRecursion SymbolFits) (sym denotes.symbols) (symbols_fit (left_out f) (symbol_table f));
      }

-- The object that a file denotes which breaks no rule breaks none itself, and fits a file.

pub sound_object : (v : ImageValue) (b : List ℕ) (o : ObjectValue) → IsImage v b → FirstIn (file_rules (sections_of v)) None →
    Denotes (sections_of v) o → IsObject o × ObjectFits o
sound_object v b o image clean denotes =
    let sound = image_is_sound v b image in
    (object_kept v o sound clean denotes, denoted_fits v sound o denotes)

-- The canonical layout of an object that is written (`IsWrittenAt`) is a relocatable file made of its parts (`IsRelocatableFile`). Its
-- numbers fit, its contents have the sizes of their headers, its alignments are right, and its name table is closed and holds each name.
-- Most facts go by the kind of section (`each_plain`).

-- ---- the header

-- a count or an index, or what the header has in place of a reserved one
short_fits : (n other : ℕ) → other < 2 ^ 16 → (if nat_lt n SHN_LORESERVE then n else other) < 2 ^ 16
short_fits n other small = elim (cases_lt n 0xff00) [
  | inl lt ↦ rw (lt-ltb n 0xff00 lt) (omega arith)
  | inr le ↦ rw (le-ltb n 0xff00 le) (omega arith)
]

module _ (o : ObjectValue) (places : List ℕ) (written : IsWrittenAt o places) where
  header_fits : IsEhdr (canonical_header o places)
  header_fits =
      let table = table_short o places written in
      record {
        e_ident = refl;
        e_ident_bytes = IsBytes-identification o.order o.osabi o.abi written.widths.osabi written.widths.abi;
        e_type = omega arith;
        e_machine = written.widths.machine;
        e_version = omega arith;
        e_entry = omega arith;
        e_phoff = omega arith;
        e_shoff = omega arith;
        e_flags = written.widths.flags;
        e_ehsize = omega arith;
        e_phentsize = omega arith;
        e_phnum = omega arith;
        e_shentsize = omega arith;
        e_shnum = short_fits (length (plain_sections o) + 1) 0 (omega arith);
        e_shstrndx = short_fits (name_table_at o) SHN_XINDEX (omega arith);
      }

  -- ---- names

  name_at : (p : ℕ) → p < length (plain_sections o) → get_or (section_names o) p [] ≡ (plain_at o p).name
  name_at p lt =
      ap (λ (names : List (List ℕ)). get_or names p []) (section_names_are o) ∙
      get_or-map (λ (s : PlainSection). s.name) (plain_sections o) p no_plain [] lt

  name_within : (p : ℕ) → p < length (plain_sections o) →
      name_offset (section_names o) (plain_at o p).name < length (string_table (section_names o))
  name_within p lt =
      let many = ap length (section_names_are o) ∙ length-map (plain_sections o) (λ (s : PlainSection). s.name) in
      subst (λ (name : List ℕ). name_offset (section_names o) name < length (string_table (section_names o))) (name_at p lt)
      ((holds_names (section_names o)).within p (omega arith))

  -- ---- the section headers

  fits_at : (p : ℕ) → p < length (plain_sections o) → PlainFits (plain_at o p)
  fits_at = each_plain o PlainFits (plain_fits o places written)

  size_fits : (p : ℕ) → p < length (plain_sections o) → (s : PlainSection) → s.space < 2 ^ 64 → length s.content < 2 ^ 64 →
      (if s.type == SHT_NOBITS then s.space else length s.content) < 2 ^ 64
  size_fits p lt s space long = by_type (s.type == SHT_NOBITS)
    where
      by_type : (none : Bool) → (if none then s.space else length s.content) < 2 ^ 64
      by_type true = space
      by_type false = long

  pub section_fits : (p : ℕ) → p < length (plain_sections o) →
      IsShdr (section_header (name_offset (section_names o)) (plain_at o p) (get_or places p 0))
  section_fits p lt =
      let fits = fits_at p lt in
      let name = name_within p lt in
      let names = names_short o places written in
      let content = content_short o places written p lt in
      record {
        sh_name = omega arith;
        sh_type = fits.type;
        sh_flags = fits.flags;
        sh_addr = fits.addr;
        sh_offset = omega arith;
        sh_size = size_fits p lt (plain_at o p) fits.space (omega arith);
        sh_link = fits.link;
        sh_info = fits.info;
        sh_addralign = fits.align;
        sh_entsize = fits.entsize;
      }

  header_is : (p : ℕ) → p < length (plain_sections o) →
      section_header_of (canonical_section_headers o places) p ≡
      section_header (name_offset (section_names o)) (plain_at o p) (get_or places p 0)
  unfolding written_sections
  header_is p lt = written_section o places written p lt

  many : length (canonical_section_headers o places) ≡ length (plain_sections o)
  many = length-canonical_section_headers o places written.least.fits

  headers_fit : AllByRecursion IsShdr (canonical_section_headers o places)
  headers_fit = all_of_each IsShdr (canonical_section_headers o places) no_section_header (λ p lt.
      let all = many in
      let here : p < length (plain_sections o) = omega arith in
      subst IsShdr (sym (header_is p here)) (section_fits p here))

  contents_are_bytes : AllByRecursion IsBytes (contents_of o)
  contents_are_bytes =
      map_all (plain_sections o)
      (all_of_each (λ (s : PlainSection). IsBytes s.content) (plain_sections o) no_plain (λ p lt. (fits_at p lt).bytes))
    where
      map_all : (sections : List PlainSection) → AllByRecursion (λ (s : PlainSection). IsBytes s.content) sections →
          AllByRecursion IsBytes (map (λ (s : PlainSection). s.content) sections)
      map_all [] all = tt
      map_all (s ∷ sections) all = (all.0, map_all sections all.1)

  lengths : map length (contents_of o) ≡ map (λ s. (content_extent s).len) (canonical_section_headers o places)
  lengths =
      let contents_long = length-map (plain_sections o) (λ (s : PlainSection). s.content) in
      let left_long = length-map (contents_of o) length in
      let right_long = length-map (canonical_section_headers o places) (λ (s : Shdr). (content_extent s).len) in
      let all = many in
      ext_get_or 0 (map length (contents_of o)) (map (λ (s : Shdr). (content_extent s).len) (canonical_section_headers o places))
      (omega arith) (λ p lt.
      let here : p < length (plain_sections o) = omega arith in
      get_or-map length (contents_of o) p [] 0 (omega arith)
      ∙ ap length (get_or-map (λ (s : PlainSection). s.content) (plain_sections o) p no_plain [] here)
      ∙ sym (fits_at p here).taken
      ∙ sym (ap (λ (s : Shdr). (content_extent s).len) (header_is p here))
      ∙ sym (get_or-map (λ (s : Shdr). (content_extent s).len) (canonical_section_headers o places) p no_section_header 0 (omega arith)))

  -- ---- alignments

  aligned : EachKind o (λ s. IsAlignment s.align × (1 < s.align → s.addr % s.align ≡ 0))
  aligned = record {
    own = λ p lt.
        let right = no_wrong_alignment o written.object p lt in
        let s = section_at o p in
        (is_alignment s.align (λ wrong. right (inl wrong)), λ some. equal (s.addr % s.align) 0 (λ other. right (inr (some, other))));
    symbols = (inr (3, refl), λ some. refl);
    indexes = λ far. (inr (2, refl), λ some. refl);
    symbol_strings = (inr (0, refl), λ some. refl);
    section_strings = (inr (0, refl), λ some. refl);
  }

  -- what holds of each section but that of index 0
  each_header : (P : Shdr → Type 0) →
      ((p : ℕ) → p < length (plain_sections o) → P (section_header (name_offset (section_names o)) (plain_at o p) (get_or places p 0))) →
      (i : ℕ) → 1 ≤ i → i < length (canonical_section_headers o places) + 1 →
      P (section_header_of (all_headers (canonical_section_headers o places) (name_table_at o)) i)
  each_header P each zero above below = absurd (omega arith)
  each_header P each (suc p) above below =
      let all = many in
      let here : p < length (plain_sections o) = omega arith in
      subst P (sym (header_is p here)) (each p here)

  -- ---- the section name string table

  strings_plain : (far : Bool) → has_index_table o ≡ far →
      (strings_at o < length (plain_sections o)) × (plain_at o (strings_at o) ≡ strings (codes ".shstrtab") (section_names o))
  unfolding last_sections
  strings_plain true is =
      let all = length-plain o true is in
      let at : strings_at o ≡ length o.sections + 3 = ap (λ (far : Bool). symbol_table_at o + (if far then 2 else 1)) is ∙ omega arith in
      (omega arith, ap (plain_at o) at ∙ plain_last o true is 3)
  strings_plain false is =
      let all = length-plain o false is in
      let at : strings_at o ≡ length o.sections + 2 = ap (λ (far : Bool). symbol_table_at o + (if far then 2 else 1)) is ∙ omega arith in
      (omega arith, ap (plain_at o) at ∙ plain_last o false is 2)

  names_index : name_table_at o ≡ suc (strings_at o)
  names_index = omega arith

  names_content : get_or ([] ∷ contents_of o) (name_table_at o) [] ≡ string_table (section_names o)
  names_content =
      let here = strings_plain (has_index_table o) refl in
      ap (λ (i : ℕ). get_or ([] ∷ contents_of o) i []) names_index
      ∙ get_or-map (λ (s : PlainSection). s.content) (plain_sections o) (strings_at o) no_plain [] here.0
      ∙ ap (λ (s : PlainSection). s.content) here.1

  names_type : (section_header_of (all_headers (canonical_section_headers o places) (name_table_at o)) (name_table_at o)).sh_type ≡ 3
  names_type =
      let here = strings_plain (has_index_table o) refl in
      ap (λ (i : ℕ). (section_header_of (all_headers (canonical_section_headers o places) (name_table_at o)) i).sh_type) names_index
      ∙ ap (λ (s : Shdr). s.sh_type) (header_is (strings_at o) here.0)
      ∙ ap (λ (s : PlainSection). s.type) here.1

  names_kept : KeepsNameRules (length (canonical_section_headers o places) + 1) (name_table_at o)
      (section_header_of (all_headers (canonical_section_headers o places) (name_table_at o)))
      (get_or ([] ∷ contents_of o) (name_table_at o) [])
  names_kept =
      let holds = holds_names (section_names o) in
      record {
        name_table_type = λ some. names_type;
        closed = λ some. subst (λ (names : List ℕ). (slice_index names 0 ≡ 0) × (slice_index names (length names - 1) ≡ 0))
            (sym names_content) (holds.first, holds.last);
        names_begin = λ i above below typed.
            each_header (λ (s : Shdr). s.sh_name ≢ 0 → s.sh_name < length (get_or ([] ∷ contents_of o) (name_table_at o) []))
            (λ p lt named. subst (λ (names : List ℕ). name_offset (section_names o) (plain_at o p).name < length names) (sym names_content)
            (name_within p lt)) i above below;
      }

  -- ---- all of it

  pub written_file : IsRelocatableFile (canonical_header o places) (canonical_section_headers o places) (contents_of o) (name_table_at o)
  written_file =
      let all = many in
      let table = table_short o places written in
      let here = strings_plain (has_index_table o) refl in
      record {
        header_fits = header_fits;
        headers_fit = headers_fit;
        bytes = contents_are_bytes;
        ident = identification_kept o.order o.osabi o.abi;
        version = refl;
        header_size = refl;
        section_header_size = refl;
        section_count = ap (λ (n : ℕ). short_count (n + 1)) (sym all);
        name_table = refl;
        no_program_table = refl;
        no_segments = refl;
        lengths = lengths;
        order = layout_order o places written.least.fits;
        short = omega arith;
        alignment = λ i above below typed. each_header (λ (s : Shdr). IsAlignment s.sh_addralign)
            (λ p lt. (each_plain o (λ s. IsAlignment s.align × (1 < s.align → s.addr % s.align ≡ 0)) aligned p lt).0) i above below;
        address = λ i above below typed. each_header (λ (s : Shdr). 1 < s.sh_addralign → s.sh_addr % s.sh_addralign ≡ 0)
            (λ p lt. (each_plain o (λ s. IsAlignment s.align × (1 < s.align → s.addr % s.align ≡ 0)) aligned p lt).1) i above below;
        names_within = omega arith;
        section_names = names_kept;
      }

-- The bytes that an object is written as are accepted, and the image in them denotes that object and breaks no rule of files. Two objects
-- that are written as the same bytes are one. The object that a file denotes keeps the rules and fits its fields. So it is written as its
-- canonical layout, if that has at most 2^30 bytes.

sections_same : {h k : Ehdr} {ss ts : List Shdr} {cs ds : List (List ℕ)} → h ≡ k → ss ≡ ts → cs ≡ ds →
    let f : Sections = record { header = h; headers = ss; contents = cs } in
    let g : Sections = record { header = k; headers = ts; contents = ds } in f ≡ g
sections_same header headers contents = cc

pub by_places : (o : ObjectValue) (b : List ℕ) (written : IsWrittenAs o b) → IsWrittenAt o written.laid.places
by_places o b written = record {
  object = written.object;
  widths = written.widths;
  least = written.laid.least;
  short = subst (λ (c : List ℕ). length c ≤ MAX_LEN) written.laid.bytes written.short;
}

pub written_is_bytes : (o : ObjectValue) (b : List ℕ) → IsWrittenAs o b → IsBytes b
unfolding layout_bytes
written_is_bytes o b written =
    let places = written.laid.places in
    subst IsBytes (sym written.laid.bytes)
    (relocatable_is_bytes (canonical_header o places) (canonical_section_headers o places) (contents_of o) (name_table_at o)
    (written_file o places (by_places o b written)))

pub written_accepted : (o : ObjectValue) (b : List ℕ) → IsWrittenAs o b → IsFault b None
unfolding layout_bytes
written_accepted o b written =
    let places = written.laid.places in
    subst (λ (c : List ℕ). IsFault c None) (sym written.laid.bytes)
    (relocatable_accepted (canonical_header o places) (canonical_section_headers o places) (contents_of o) (name_table_at o)
    (written_file o places (by_places o b written)))

pub written_read : (o : ObjectValue) (b : List ℕ) (written : IsWrittenAs o b) (v : ImageValue) → Stands v b →
    sections_of v ≡ written_sections o written.laid.places
unfolding layout_bytes written_sections
written_read o b written v stands =
    let places = written.laid.places in
    let read = relocatable_read (canonical_header o places) (canonical_section_headers o places) (contents_of o) (name_table_at o)
    (written_file o places (by_places o b written)) v
    (subst (Stands v) written.laid.bytes stands) in
    let header = read.header in
    let headers = read.sections in
    let contents = read.contents in
    sections_same header headers contents

-- ---- what it denotes

pub written_denotes_object : (o : ObjectValue) (b : List ℕ) → IsWrittenAs o b → (v : ImageValue) → Stands v b → Denotes (sections_of v) o
written_denotes_object o b written v stands =
    subst (λ (f : Sections). Denotes f o) (sym (written_read o b written v stands))
    (written_denotes o written.laid.places (by_places o b written))

pub written_keeps_object_rules : (o : ObjectValue) (b : List ℕ) → IsWrittenAs o b → (v : ImageValue) → Stands v b →
    FirstIn (file_rules (sections_of v)) None
written_keeps_object_rules o b written v stands =
    subst (λ (f : Sections). FirstIn (file_rules f) None) (sym (written_read o b written v stands))
    (written_keeps_rules o written.laid.places (by_places o b written))

-- two objects that are written as the same bytes are one
pub one_written : (o p : ObjectValue) (b : List ℕ) → IsWrittenAs o b → IsWrittenAs p b → o ≡ p
one_written o p b one other =
    let (v, image) = some_image b (written_is_bytes o b one) (written_accepted o b one) in
    one_object (sections_of v) o p (written_denotes_object o b one v image.stands) (written_denotes_object p b other v image.stands)

-- ---- the object that a file denotes

pub denoted_object : (v : ImageValue) (b : List ℕ) (o : ObjectValue) (c : List ℕ) → IsImage v b →
    FirstIn (file_rules (sections_of v)) None →
    Denotes (sections_of v) o → Laid o c → length c ≤ MAX_LEN → IsWrittenAs o c
denoted_object v b o c image clean denotes laid short =
    let sound = image_is_sound v b image in
    record {
      object = object_kept v o sound clean denotes;
      widths = denoted_fits v sound o denotes;
      laid = laid;
      short = short;
    }

module _ (o : ObjectValue) (object : IsObject o) (widths : ObjectFits o) where
  pub file_of : (b : List ℕ) → Laid o b → length b ≤ MAX_LEN → IsWrittenFile o b
  file_of b laid short =
      let written : IsWrittenAs o b = record { object = object; widths = widths; laid = laid; short = short } in
      let denotes = written_denotes_object o b written in
      record {
        laid = laid;
        only = λ c other. one_layout o c b other laid;
        names = shared_names o object;
        short = short;
        accepted = written_accepted o b written;
        image = some_image b (written_is_bytes o b written) (written_accepted o b written);
        kept = written_keeps_object_rules o b written;
        denotes = λ v stands p. (
          (λ other. one_object (sections_of v) p o other (denotes v stands)),
          (λ same. subst (Denotes (sections_of v)) (sym same) (denotes v stands)),
        );
        one = λ p c p_object p_widths p_laid. (
          (λ same. one_written p o b
              (record { object = p_object; widths = p_widths; laid = subst (Laid p) same p_laid; short = short }) written),
          (λ same. one_layout o c b (subst (λ (q : ObjectValue). Laid q c) same p_laid) laid),
        );
      }

  pub file_written : {T : Type 0} (before after : Option (List ℕ)) (result : Result T ObjectWriteFault) →
      IsLayoutWritten o before after result →
      IsObjectWritten o before after result
  file_written before after (Ok done) (b, laid, short, writes) = (b, file_of b laid short, writes)
  file_written before after (Err TooLong) fault = fault
  file_written before after (Err OutOfMemory) fault = fault
  file_written before after (Err (Io written)) (b, laid, short, writes) = (b, file_of b laid short, writes)

-- Two objects in canonical layout, byte by byte: the one without sections, and one with a section of one byte. Both sides are computed,
-- and the places are the least ones because each cursor is rounded up only where it has to be.

empty_bytes : empty_object_bytes ≡ layout_bytes empty_object (64 ∷ 88 ∷ 89 ∷ 120 ∷ [])
unfolding layout_bytes plain_sections section_names sections_before_names relocatable_bytes held name_offset string_table order_of bytes_of
    first_bytes
empty_bytes = refl

one_section_are : one_section_bytes ≡ layout_bytes one_section (64 ∷ 72 ∷ 96 ∷ 97 ∷ 136 ∷ [])
unfolding layout_bytes plain_sections section_names sections_before_names relocatable_bytes held name_offset string_table order_of bytes_of
    first_bytes
one_section_are = refl

-- ---- their places are the least ones

at_once : (cursor align : ℕ) → cursor % alignment align ≡ 0 → IsLeastPlace cursor align cursor
at_once cursor align multiple = record { multiple = multiple; from = omega arith; least = λ y is le. le }

table_after_names : IsLeastPlace 116 8 120
table_after_names = record {
  multiple = refl;
  from = omega arith;
  least = λ y is le. (let whole : y % 8 ≡ 0 = is in omega arith);
}

symbols_after_text : IsLeastPlace 65 8 72
symbols_after_text = record {
  multiple = refl;
  from = omega arith;
  least = λ y is le. (let whole : y % 8 ≡ 0 = is in omega arith);
}

table_after_text_names : IsLeastPlace 130 8 136
table_after_text_names = record {
  multiple = refl;
  from = omega arith;
  least = λ y is le. (let whole : y % 8 ≡ 0 = is in omega arith);
}

pub empty_object_laid : Laid empty_object empty_object_bytes
unfolding plain_sections section_names sections_before_names layout_parts held string_table bytes_of
empty_object_laid = record {
  places = 64 ∷ 88 ∷ 89 ∷ 120 ∷ [];
  least =
      least_cons (24, 8) _ 64 64 _ (at_once 64 8 refl)
      (least_cons (1, 1) _ 88 88 _ (at_once 88 1 refl)
      (least_cons (27, 1) _ 89 89 _ (at_once 89 1 refl)
      (least_cons (256, 8) _ 116 120 _ table_after_names (least_nil 376))));
  bytes = empty_bytes;
}

pub one_section_laid : Laid one_section one_section_bytes
unfolding plain_sections section_names sections_before_names layout_parts held string_table bytes_of
one_section_laid = record {
  places = 64 ∷ 72 ∷ 96 ∷ 97 ∷ 136 ∷ [];
  least =
      least_cons (1, 16) _ 64 64 _ (at_once 64 16 refl)
      (least_cons (24, 8) _ 65 72 _ symbols_after_text
      (least_cons (1, 1) _ 96 96 _ (at_once 96 1 refl)
      (least_cons (33, 1) _ 97 97 _ (at_once 97 1 refl)
      (least_cons (320, 8) _ 130 136 _ table_after_text_names (least_nil 456)))));
  bytes = one_section_are;
}
