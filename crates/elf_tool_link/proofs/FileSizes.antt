-- How much an object of a file has: a file has at most 2^30 bytes, so less than 2^24 sections and 2^26 symbols, and no name and no content
-- is longer than the file. Its numbers were read from fields of at most 8 bytes.
use Rattle.std.proofs.Common.{◌≡◌, ◌<◌, ◌≤◌, ◌+◌, ◌*◌, ◌^◌, ◌==◌, ℕ, zero, suc, Bool, true, false, List, [], ◌∷◌, None, Option, Some, arith}
use Rattle.std.proofs.Common.{drop, get_or, if◌then◌else◌, length, map, subst, sym, take}
use Rattle.std.specs.List.{AllByRecursion, range_with_len}
use Rattle.std.proofs.lemmas.List.{length-drop, length-map, length-take}
use Rattle.std.proofs.lemmas.List.FromFn.{length-range_with_len}
use Rattle.std.proofs.lemmas.List.Sums.{count_by-le-length, length-filter}
use Rattle.elf_field.specs.Abi.{SHT_NULL}
use Rattle.elf_field.specs.Bytes.{IsBytes}
use Rattle.elf_field.specs.laws.Bytes.{IsBytes-nil}
use Rattle.elf_field.specs.laws.Entries.{sym_laws}
use Rattle.elf_field.specs.Headers.{IsShdr}
use Rattle.elf_field.specs.declared.number.Order.{Order}
use Rattle.elf_field.specs.declared.shdr.Shdr.{Shdr}
use Rattle.elf_image_outline.specs.Image.{ImageValue, IsImage, IsSoundImage, Stands, value_names}
use Rattle.elf_image_rules.proofs.Public.{clean_records, kept_short}
use Rattle.elf_image_rules.specs.Rules.{rules_in}
use Rattle.elf_image_rules.specs.Tables.{bytes_in, content_extent, header, name_table, names, no_section_header, sections, segments}
use Rattle.elf_image_type.proofs.Public.{image_is_sound}
use Rattle.elf_field.specs.Strings.{string}
use Rattle.elf_link_files.specs.Files.{no_object, object_at}
use Rattle.elf_link_relocate.specs.Fields.{content_of}
use Rattle.elf_object_layout.specs.SectionsLeftOut.{is_kept, left_out, symbol_table}
use Rattle.elf_object_layout.specs.declared.left_out.LeftOut.{LeftOut}
use Rattle.elf_object_reader.proofs.Public.{denoted_with}
use Rattle.elf_object_reader.specs.Denotes.{Denotes, body_denoted, body_kind, kept, section_denoted, section_name_of, symbol_denoted}
use Rattle.elf_object_reader.specs.Denotes.{symbols_denoted}
use Rattle.elf_object_reader.specs.declared.object_file.BodyKind.TheVariants.{Bits, NoBits, Relocs, Group}
use Rattle.elf_object_reader.specs.declared.object_file.BodyKind.{BodyKind}
use Rattle.elf_object_type.specs.Object.{ObjectValue, SectionValue, SymbolValue, no_section, no_symbol, section_at, symbol_at}
use Rattle.elf_table_symbols.proofs.Public.{length_symbols}
use Rattle.elf_table_symbols.specs.Sections.{content, count, section, sections_of}
use Rattle.elf_table_symbols.specs.Symbols.{SymbolEntryValue, entry, symbol_entry_in, symbol_parts, symbols_in, symbols_of}
use Rattle.elf_tool_link.specs.ObjectFiles.{AreObjectFiles}

-- ---- what a file's lengths bound

pub record IsShortSection (s : SectionValue) : Type 0 where
  pub name : length s.name ≤ 2 ^ 30
  pub flags : s.flags < 2 ^ 64
  pub content : length (content_of s.body) ≤ 2 ^ 30

pub record IsShortSymbol (s : SymbolValue) : Type 0 where
  pub name : length s.name ≤ 2 ^ 30
  pub value : s.value < 2 ^ 64
  pub size : s.size < 2 ^ 64

pub record IsSmall (o : ObjectValue) : Type 0 where
  pub section_count : length o.sections ≤ 2 ^ 24
  pub symbol_count : 24 * length o.symbols ≤ 2 ^ 30
  pub sections : (i : ℕ) → IsShortSection (section_at o i)
  pub symbols : (i : ℕ) → IsShortSymbol (symbol_at o i)

-- ---- lists, item by item

at_any : {A : Type 0} (P : A → Type 0) (xs : List A) (d : A) (i : ℕ) → AllByRecursion P xs → P d → P (get_or xs i d)
at_any P [] d i all none = none
at_any P (x ∷ xs) d zero all none = all.0
at_any P (x ∷ xs) d (suc i) all none = at_any P xs d i all.1 none

all_mapped : {A B : Type 0} (P : B → Type 0) (f : A → B) → ((x : A) → P (f x)) → (xs : List A) → AllByRecursion P (map f xs)
all_mapped P f each [] = tt
all_mapped P f each (x ∷ xs) = (each x, all_mapped P f each xs)

all_through : {A B : Type 0} (P : A → Type 0) (Q : B → Type 0) (f : A → B) → ((x : A) → P x → Q (f x)) → (xs : List A) →
    AllByRecursion P xs → AllByRecursion Q (map f xs)
all_through P Q f each [] all = tt
all_through P Q f each (x ∷ xs) all = (each x all.0, all_through P Q f each xs all.1)

all_dropped : {A : Type 0} (P : A → Type 0) (xs : List A) → AllByRecursion P xs → AllByRecursion P (drop 1 xs)
all_dropped P [] all = tt
all_dropped P (x ∷ xs) all = all.1

-- ---- pieces of a list of bytes are no longer than it

piece_within : (n at : ℕ) (b : List ℕ) → length (take n (drop at b)) ≤ length b
piece_within n at b = let some = length-take n (drop at b) in let rest = length-drop at b in omega arith

string_within : (table : List ℕ) (x : ℕ) → length (string table x) ≤ length table
string_within table x = piece_within _ x table

contents_within : (b : List ℕ) (ss : List Shdr) (i : ℕ) → length (get_or (map (λ s. bytes_in b (content_extent s)) ss) i []) ≤ length b
contents_within b [] i = omega arith
contents_within b (s ∷ ss) zero = piece_within (content_extent s).len s.sh_offset b
contents_within b (s ∷ ss) (suc i) = contents_within b ss i

-- ---- an image

module _ (v : ImageValue) (b : List ℕ) (image : IsImage v b) where
  stands : Stands v b
  stands = image.stands

  sound : IsSoundImage v
  sound = image_is_sound v b image

  pub file_short : length b ≤ 2 ^ 30
  unfolding rules_in
  file_short =
      let h = header b in
      kept_short b (clean_records (length b) h (sections b h) (segments b h) (names b h) image.clean)

  few_headers : length v.sections ≤ 2 ^ 24
  few_headers = by_count (length v.sections) (λ i. stands.within.section_headers i)
    where
      by_count : (n : ℕ) → ((i : ℕ) → i < n → v.header.e_shoff + 64 * i + 64 ≤ length b) → n ≤ 2 ^ 24
      by_count zero within = omega arith
      by_count (suc n) within = let last = within n (omega arith) in let short = file_short in omega arith

  content_short : (i : ℕ) → length (content (sections_of v) i) ≤ 2 ^ 30
  content_short i =
      let within =
      subst (λ (cs : List (List ℕ)). length (get_or cs i []) ≤ length b) (sym stands.contents) (contents_within b v.sections i) in
      let short = file_short in
      omega arith

  names_short : length (value_names v.header v.sections v.contents) ≤ 2 ^ 30
  names_short = by_index (name_table v.header (section (sections_of v) 0)) ((name_table v.header (section (sections_of v) 0)) == 0)
    where
      by_index : (k : ℕ) (none : Bool) → length (if none then [] else get_or v.contents k []) ≤ 2 ^ 30
      by_index k true = omega arith
      by_index k false = content_short k

  -- ---- sections

  section_name_short : (i : ℕ) → length (section_name_of (sections_of v) i) ≤ 2 ^ 30
  section_name_short i = by_type ((section (sections_of v) i).sh_type == SHT_NULL)
    where
      by_type : (null : Bool) →
          length (if null then [] else string (value_names v.header v.sections v.contents) (section (sections_of v) i).sh_name) ≤ 2 ^ 30
      by_type true = omega arith
      by_type false =
          let within = string_within (value_names v.header v.sections v.contents) (section (sections_of v) i).sh_name in
          let short = names_short in
          omega arith

  body_short : (left : LeftOut) (i : ℕ) (kind : BodyKind) → length (content_of (body_denoted left (sections_of v) i kind)) ≤ 2 ^ 30
  body_short left i Bits = content_short i
  body_short left i NoBits = omega arith
  body_short left i Relocs = omega arith
  body_short left i Group = omega arith

  section_short : (left : LeftOut) (i : ℕ) → IsShortSection (section_denoted left (sections_of v) i)
  section_short left i =
      let f = sections_of v in
      subst IsShortSection (sym (denoted_with left f i)) (record {
        name = section_name_short i;
        flags = at_any (λ (s : Shdr). s.sh_flags < 2 ^ 64) v.sections no_section_header i (flags_fit v.sections sound.section_headers)
            (omega arith);
        content = body_short left i (body_kind (section f i).sh_type);
      })
    where
      flags_fit : (ss : List Shdr) → AllByRecursion IsShdr ss → AllByRecursion (λ s. s.sh_flags < 2 ^ 64) ss
      flags_fit [] all = tt
      flags_fit (s ∷ ss) all = (all.0.sh_flags, flags_fit ss all.1)

  -- ---- symbols

  record IsShortEntry (s : SymbolEntryValue) : Type 0 where
    name : length s.name ≤ 2 ^ 30
    value : s.value < 2 ^ 64
    size : s.size < 2 ^ 64

  content_bytes : (i : ℕ) → IsBytes (content (sections_of v) i)
  content_bytes i = at_any IsBytes v.contents [] i sound.bytes IsBytes-nil

  entry_short : (o : Order) (table names words : List ℕ) → IsBytes table → length names ≤ 2 ^ 30 → (j : ℕ) →
      IsShortEntry (symbol_entry_in o table names words j)
  unfolding symbol_entry_in entry
  entry_short o table names words bytes short j =
      let fits = sym_laws.valid o table (24 * j) bytes in
      let within = string_within names (entry o table j).st_name in
      record { name = omega arith; value = fits.st_value; size = fits.st_size }

  entries_short : (o : Order) (table names words : List ℕ) → IsBytes table → length names ≤ 2 ^ 30 →
      AllByRecursion IsShortEntry (symbols_in o table names words)
  unfolding symbols_in
  entries_short o table names words bytes short =
      all_mapped IsShortEntry (symbol_entry_in o table names words) (entry_short o table names words bytes short) _

  symbols_short : (left : LeftOut) (table : Option ℕ) → AllByRecursion IsShortSymbol (symbols_denoted left (sections_of v) table)
  unfolding symbols_of
  symbols_short left None = tt
  symbols_short left (Some t) =
      let f = sections_of v in
      let p = symbol_parts f t in
      all_through IsShortEntry IsShortSymbol (symbol_denoted left f)
      (λ s short. record { name = short.name; value = short.value; size = short.size }) _
      (all_dropped IsShortEntry (symbols_of f t)
      (entries_short p.order p.table p.names p.words (content_bytes t) (content_short (section f t).sh_link)))

  few_symbols : (left : LeftOut) (table : Option ℕ) → 24 * length (symbols_denoted left (sections_of v) table) ≤ 2 ^ 30
  unfolding symbols_of
  few_symbols left None = omega arith
  few_symbols left (Some t) =
      let f = sections_of v in
      let p = symbol_parts f t in
      let all = length_symbols p.order p.table p.names p.words in
      let from_1 = length-drop 1 (symbols_of f t) in
      let denoted = length-map (drop 1 (symbols_of f t)) (symbol_denoted left f) in
      let short = content_short t in
      omega arith

  few_kept : (left : LeftOut) → length (kept left (sections_of v)) ≤ 2 ^ 24
  few_kept left =
      let f = sections_of v in
      let all = length-range_with_len 0 (count f) in
      let passed = length-filter (is_kept left f) (range_with_len 0 (count f)) in
      let some = count_by-le-length (is_kept left f) (range_with_len 0 (count f)) in
      let few = few_headers in
      omega arith

  pub denoted_small : (o : ObjectValue) → Denotes (sections_of v) o → IsSmall o
  denoted_small o denotes =
      let f = sections_of v in
      let left = left_out f in
      let sections =
      subst (AllByRecursion IsShortSection) (sym denotes.sections)
      (all_mapped IsShortSection (section_denoted left f) (section_short left) (kept left f)) in
      let symbols = subst (AllByRecursion IsShortSymbol) (sym denotes.symbols) (symbols_short left (symbol_table f)) in
      let long = length-map (kept left f) (section_denoted left f) in
      record {
        section_count =
            subst (λ (ss : List SectionValue). length ss ≤ 2 ^ 24) (sym denotes.sections) (let few = few_kept left in omega arith);
        symbol_count = subst (λ (ss : List SymbolValue). 24 * length ss ≤ 2 ^ 30) (sym denotes.symbols) (few_symbols left (symbol_table f));
        sections = λ i. at_any IsShortSection o.sections no_section i sections
            (record { name = omega arith; flags = omega arith; content = omega arith });
        symbols = λ i. at_any IsShortSymbol o.symbols no_symbol i symbols
            (record { name = omega arith; value = omega arith; size = omega arith });
      }

-- ---- the objects of files

none_small : IsSmall no_object
none_small = record {
  section_count = omega arith;
  symbol_count = omega arith;
  sections = λ i. record { name = omega arith; flags = omega arith; content = omega arith };
  symbols = λ i. record { name = omega arith; value = omega arith; size = omega arith };
}

all_small : (files : List (List ℕ)) (fs : List ObjectValue) → AreObjectFiles files fs → AllByRecursion IsSmall fs
all_small [] [] are = tt
all_small [] (o ∷ fs) are = absurd are
all_small (b ∷ files) [] are = absurd are
all_small (b ∷ files) (o ∷ fs) ((v, image, clean, denotes), rest) = (denoted_small v b image o denotes, all_small files fs rest)

pub each_small : (files : List (List ℕ)) (fs : List ObjectValue) → AreObjectFiles files fs → (f : ℕ) → IsSmall (object_at fs f)
each_small files fs are f = at_any IsSmall fs no_object f (all_small files fs are) none_small

pub as_many : (files : List (List ℕ)) (fs : List ObjectValue) → AreObjectFiles files fs → length fs ≡ length files
as_many [] [] are = omega arith
as_many [] (o ∷ fs) are = absurd are
as_many (b ∷ files) [] are = absurd are
as_many (b ∷ files) (o ∷ fs) are = let rest = as_many files fs are.1 in omega arith
