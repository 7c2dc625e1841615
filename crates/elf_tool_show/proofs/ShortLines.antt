-- Each line of `show` is short: an image has at most 2^30 bytes, so each name in it is as short, and a line that ends with a name has less
-- than 2^33 bytes. The lines of a table are no longer than its entries are many.
use Rattle.std.proofs.Common.{◌<◌, ◌≤◌, ◌+◌, ◌*◌, ◌/◌, ◌^◌, ◌==◌, ℕ, ℤ, zero, suc, pos, negsuc, Bool, true, false, List, []}
use Rattle.std.proofs.Common.{◌∷◌, None, Option, Some, FitsSigned, arith, codes, drop, get_or, if◌then◌else◌, length, length-append}
use Rattle.std.proofs.Common.{map, nat_lt, take}
use Rattle.std.specs.List.{AllByRecursion, flat_map, range_with_len}
use Rattle.std.specs.Int.{w64}
use Rattle.std.specs.Fmt.{decimal, signed_decimal}
use Rattle.std.proofs.lemmas.List.{length-drop, length-take}
use Rattle.std.proofs.lemmas.List.FromFn.{length-map-range_with_len}
use Rattle.elf_field.specs.Bytes.{IsBytes}
use Rattle.elf_field.specs.laws.Entries.{dyn_laws, rel_laws, rela_laws, sym_laws, word_laws}
use Rattle.elf_field.specs.Headers.{IsEhdr, IsPhdr, IsShdr}
use Rattle.elf_field.specs.declared.dynamic.Dyn.{Dyn}
use Rattle.elf_field.specs.declared.ehdr.Ehdr.{Ehdr}
use Rattle.elf_field.specs.declared.number.Order.TheVariants.{Little, Big}
use Rattle.elf_field.specs.declared.number.Order.{Order}
use Rattle.elf_field.specs.declared.phdr.Phdr.{Phdr}
use Rattle.elf_field.specs.declared.shdr.Shdr.{Shdr}
use Rattle.elf_image_outline.specs.declared.outline.Owner.TheVariants.{Header, ProgramTable, SectionTable, Content, Gap}
use Rattle.elf_image_outline.specs.declared.outline.Owner.{Owner}
use Rattle.elf_image_outline.specs.declared.outline.Part.{Part}
use Rattle.elf_image_rules.specs.Tables.{bytes_in, content_extent, names, order_of}
use Rattle.elf_field.specs.Strings.{string}
use Rattle.elf_table_hash.specs.HashTable.{nbucket, nchain, words_in}
use Rattle.elf_table_lists.specs.Dynamic.{dynamic_entries, dynamic_entry, dynamic_entry_count, is_string_tag}
use Rattle.elf_table_lists.specs.Dynamic.{no_dynamic_entry}
use Rattle.elf_table_lists.specs.Groups.{member, member_count, members_in}
use Rattle.elf_table_lists.specs.Notes.{first_notes, note_at, note_end}
use Rattle.elf_table_lists.specs.Relocations.{no_relocation_entry, relocation_count, relocation_in, relocations_in}
use Rattle.elf_table_lists.specs.declared.relocations.Relocation.{Relocation}
use Rattle.elf_table_symbols.proofs.Public.{length_symbols}
use Rattle.elf_table_symbols.specs.SymbolView.{no_symbol_entry}
use Rattle.elf_table_symbols.specs.Symbols.{SymbolEntryValue, entry, entry_count, place_of, symbol_entry_in}
use Rattle.elf_table_symbols.specs.Symbols.{symbols_in, word}
use Rattle.elf_table_symbols.specs.declared.symbols.Place.TheVariants.{Undefined, Absolute, Common, Reserved, Section}
use Rattle.elf_table_symbols.specs.declared.symbols.Place.{Place}
use Rattle.elf_tool_text.proofs.Public.{bytes_short, decimal_short, hexadecimal_short, indexed_short, line_length, name_short}
use Rattle.elf_tool_text.proofs.Public.{words_length}
use Rattle.elf_tool_text.proofs.ShortText.{length-encode_lower}
use Rattle.elf_tool_text.specs.Line.{bytes_text, hexadecimal, name_text}
use Rattle.elf_tool_show.specs.Show.{addend_text, dynamic_line, dynamic_lines, dynamic_text}
use Rattle.elf_tool_show.specs.Show.{file_line, group_line, hash_line, note_line, order_text, owner_words}
use Rattle.elf_tool_show.specs.Show.{part_line, place_text, relocation_line, relocation_lines, relocation_text, section_line}
use Rattle.elf_tool_show.specs.Show.{segment_line, string_words}
use Rattle.elf_tool_show.specs.Show.{symbol_line, symbol_lines, symbol_text, table_refused_line}

-- ---- lists, item by item

pub at_any : {A : Type 0} (P : A → Type 0) (xs : List A) (d : A) (i : ℕ) → AllByRecursion P xs → P d → P (get_or xs i d)
at_any P [] d i all none = none
at_any P (x ∷ xs) d zero all none = all.0
at_any P (x ∷ xs) d (suc i) all none = at_any P xs d i all.1 none

pub all_mapped : {A B : Type 0} (P : B → Type 0) (f : A → B) → ((x : A) → P (f x)) → (xs : List A) → AllByRecursion P (map f xs)
all_mapped P f each [] = tt
all_mapped P f each (x ∷ xs) = (each x, all_mapped P f each xs)

all_taken : {A : Type 0} (P : A → Type 0) (n : ℕ) (xs : List A) → AllByRecursion P xs → AllByRecursion P (take n xs)
all_taken P zero xs all = tt
all_taken P (suc n) [] all = tt
all_taken P (suc n) (x ∷ xs) all = (all.0, all_taken P n xs all.1)

-- ---- pieces of a list of bytes are no longer than it

piece_within : (n at : ℕ) (b : List ℕ) → length (take n (drop at b)) ≤ length b
piece_within n at b = let some = length-take n (drop at b) in let rest = length-drop at b in omega arith

pub string_within : (table : List ℕ) (x : ℕ) → length (string table x) ≤ length table
string_within table x = piece_within _ x table

pub contents_within : (b : List ℕ) (ss : List Shdr) (i : ℕ) → length (get_or (map (λ s. bytes_in b (content_extent s)) ss) i []) ≤ length b
contents_within b [] i = omega arith
contents_within b (s ∷ ss) zero = piece_within (content_extent s).len s.sh_offset b
contents_within b (s ∷ ss) (suc i) = contents_within b ss i

-- ---- words

signed_short : (z : ℤ) → FitsSigned w64 z → length (signed_decimal z) ≤ 21
signed_short (pos n) fits = let few = decimal_short n (omega arith) in omega arith
signed_short (negsuc n) fits = let few = decimal_short (suc n) (omega arith) in omega arith

-- ---- lines

pub file_line_short : (h : Ehdr) → IsEhdr h → length (file_line h) ≤ 100
unfolding file_line
file_line_short h fits =
    let whole = line_length (codes "file")
    (order_text (order_of h.e_ident) ∷ decimal h.e_type ∷ decimal h.e_machine ∷ hexadecimal h.e_entry ∷ hexadecimal h.e_flags ∷ []) in
    let type_fits = fits.e_type in
    let machine_fits = fits.e_machine in
    let flags_fit = fits.e_flags in
    let a = by_order (order_of h.e_ident) in
    let b = decimal_short h.e_type (omega arith) in
    let c = decimal_short h.e_machine (omega arith) in
    let d = hexadecimal_short h.e_entry fits.e_entry in
    let e = hexadecimal_short h.e_flags (omega arith) in
    omega arith
  where
    by_order : (o : Order) → length (order_text o) ≤ 6
    by_order Little = omega arith
    by_order Big = omega arith

-- the section's index in an owner fits into 64 bits
abbrev pub IsIndexed : Owner → Type 0
IsIndexed Header = Unit {0}
IsIndexed ProgramTable = Unit {0}
IsIndexed SectionTable = Unit {0}
IsIndexed (Content i) = i < 2 ^ 64
IsIndexed Gap = Unit {0}

owner_short : (gap : List ℕ) (owner : Owner) → IsIndexed owner → words_length (owner_words gap owner) ≤ 40
owner_short gap Header fits = omega arith
owner_short gap ProgramTable fits = omega arith
owner_short gap SectionTable fits = omega arith
owner_short gap (Content i) fits = let index = decimal_short i fits in omega arith
owner_short gap Gap fits =
    let some = length-take 16 gap in
    let digits = length-encode_lower (take 16 gap) in
    omega arith

pub part_line_short : (b : List ℕ) (p : Part) → p.start < 2 ^ 64 → p.len < 2 ^ 64 → IsIndexed p.owner → length (part_line b p) ≤ 100
unfolding part_line
part_line_short b p start len owner =
    let gap = take p.len (drop p.start b) in
    let whole = line_length (codes "part") (hexadecimal p.start ∷ hexadecimal p.len ∷ owner_words gap p.owner) in
    let a = hexadecimal_short p.start start in
    let c = hexadecimal_short p.len len in
    let d = owner_short gap p.owner owner in
    omega arith

pub section_line_short : (i : ℕ) (s : Shdr) (name : List ℕ) → i < 2 ^ 64 → IsShdr s → length name ≤ 2 ^ 30 →
    length (section_line i s name) ≤ 2 ^ 32
unfolding section_line
section_line_short i s name index fits short =
    let whole = line_length (codes "section")
    (decimal i ∷ decimal s.sh_type ∷ hexadecimal s.sh_flags ∷ hexadecimal s.sh_addr ∷ hexadecimal s.sh_offset ∷ hexadecimal s.sh_size
    ∷ decimal s.sh_link ∷ decimal s.sh_info ∷ hexadecimal s.sh_addralign ∷ hexadecimal s.sh_entsize ∷ name_text name ∷ []) in
    let type_fits = fits.sh_type in
    let link_fits = fits.sh_link in
    let info_fits = fits.sh_info in
    let a = decimal_short i index in
    let b = decimal_short s.sh_type (omega arith) in
    let c = hexadecimal_short s.sh_flags fits.sh_flags in
    let d = hexadecimal_short s.sh_addr fits.sh_addr in
    let e = hexadecimal_short s.sh_offset fits.sh_offset in
    let f = hexadecimal_short s.sh_size fits.sh_size in
    let g = decimal_short s.sh_link (omega arith) in
    let h = decimal_short s.sh_info (omega arith) in
    let j = hexadecimal_short s.sh_addralign fits.sh_addralign in
    let k = hexadecimal_short s.sh_entsize fits.sh_entsize in
    let l = name_short name in
    omega arith

pub segment_line_short : (i : ℕ) (g : Phdr) → i < 2 ^ 64 → IsPhdr g → length (segment_line i g) ≤ 200
unfolding segment_line
segment_line_short i s index fits =
    let whole = line_length (codes "segment")
    (decimal i ∷ decimal s.p_type ∷ hexadecimal s.p_flags ∷ hexadecimal s.p_offset ∷ hexadecimal s.p_vaddr ∷ hexadecimal s.p_paddr
    ∷ hexadecimal s.p_filesz ∷ hexadecimal s.p_memsz ∷ hexadecimal s.p_align ∷ []) in
    let type_fits = fits.p_type in
    let flags_fit = fits.p_flags in
    let a = decimal_short i index in
    let b = decimal_short s.p_type (omega arith) in
    let c = hexadecimal_short s.p_flags (omega arith) in
    let d = hexadecimal_short s.p_offset fits.p_offset in
    let e = hexadecimal_short s.p_vaddr fits.p_vaddr in
    let f = hexadecimal_short s.p_paddr fits.p_paddr in
    let g = hexadecimal_short s.p_filesz fits.p_filesz in
    let h = hexadecimal_short s.p_memsz fits.p_memsz in
    let j = hexadecimal_short s.p_align fits.p_align in
    omega arith

pub table_refused_short : (i rule at : ℕ) → i < 2 ^ 64 → rule < 2 ^ 64 → at < 2 ^ 64 → length (table_refused_line i rule at) ≤ 2 ^ 33
unfolding table_refused_line
table_refused_short i rule at index rule_fits at_fits =
    let whole = line_length (codes "refused") (decimal i ∷ decimal rule ∷ decimal at ∷ []) in
    let a = decimal_short i index in
    let b = decimal_short rule rule_fits in
    let c = decimal_short at at_fits in
    omega arith

-- ---- symbols

abbrev pub IsShortPlace : Place → Type 0
IsShortPlace Undefined = Unit {0}
IsShortPlace Absolute = Unit {0}
IsShortPlace Common = Unit {0}
IsShortPlace (Reserved index) = Unit {0}
IsShortPlace (Section index) = index < 2 ^ 64

place_short : (place : Place) → IsShortPlace place → length (place_text place) ≤ 20
place_short Undefined fits = omega arith
place_short Absolute fits = omega arith
place_short Common fits = omega arith
place_short (Reserved index) fits = omega arith
place_short (Section index) fits = decimal_short index fits

pub record IsShortEntry (s : SymbolEntryValue) : Type 0 where
  pub name : length s.name ≤ 2 ^ 30
  pub binding : s.binding < 2 ^ 64
  pub symbol_type : s.symbol_type < 2 ^ 64
  pub other : s.other < 2 ^ 64
  pub place : IsShortPlace s.place
  pub value : s.value < 2 ^ 64
  pub size : s.size < 2 ^ 64

symbol_line_short : (i j : ℕ) (s : SymbolEntryValue) → i < 2 ^ 64 → j < 2 ^ 64 → IsShortEntry s → length (symbol_line i j s) ≤ 2 ^ 33
unfolding symbol_line
symbol_line_short i j s index number short =
    let whole = line_length (codes "symbol")
    (decimal i ∷ decimal j ∷ decimal s.binding ∷ decimal s.symbol_type ∷ decimal s.other ∷ place_text s.place
    ∷ hexadecimal s.value ∷ hexadecimal s.size ∷ name_text s.name ∷ []) in
    let a = decimal_short i index in
    let b = decimal_short j number in
    let c = decimal_short s.binding short.binding in
    let d = decimal_short s.symbol_type short.symbol_type in
    let e = decimal_short s.other short.other in
    let f = place_short s.place short.place in
    let g = hexadecimal_short s.value short.value in
    let h = hexadecimal_short s.size short.size in
    let k = name_short s.name in
    let l = short.name in
    omega arith

place_fits : (index extended : ℕ) → index < 2 ^ 16 → extended < 2 ^ 32 → IsShortPlace (place_of index extended)
place_fits index extended fits wide = first (index == 0)
  where
    fifth : (low : Bool) → IsShortPlace (if low then Section index else Reserved index)
    fifth true = omega arith
    fifth false = tt

    fourth : (far : Bool) → IsShortPlace (if far then Section extended else (if nat_lt index 65280 then Section index else Reserved index))
    fourth true = omega arith
    fourth false = fifth (nat_lt index 65280)

    third : (common : Bool) →
        IsShortPlace
        (if common then Common
        else (if index == 65535 then Section extended else (if nat_lt index 65280 then Section index else Reserved index)))
    third true = tt
    third false = fourth (index == 65535)

    second : (absolute : Bool) →
        IsShortPlace
        (if absolute then Absolute
        else (if index == 65522 then Common
        else (if index == 65535 then Section extended else (if nat_lt index 65280 then Section index else Reserved index))))
    second true = tt
    second false = third (index == 65522)

    first : (none : Bool) →
        IsShortPlace
        (if none then Undefined
        else (if index == 65521 then Absolute
        else (if index == 65522 then Common
        else (if index == 65535 then Section extended else (if nat_lt index 65280 then Section index else Reserved index)))))
    first true = tt
    first false = second (index == 65521)

pub entry_short : (o : Order) (table strings words : List ℕ) → IsBytes table → IsBytes words → length strings ≤ 2 ^ 30 → (j : ℕ) →
    IsShortEntry (symbol_entry_in o table strings words j)
unfolding symbol_entry_in entry word
entry_short o table strings words bytes are short j =
    let fits = sym_laws.valid o table (24 * j) bytes in
    let e = entry o table j in
    let within = string_within strings e.st_name in
    let info = fits.st_info in
    let other = fits.st_other in
    record {
      name = omega arith;
      binding = omega arith;
      symbol_type = omega arith;
      other = omega arith;
      place = place_fits e.st_shndx (word o words j) fits.st_shndx (word_laws.valid o words (4 * j) are);
      value = fits.st_value;
      size = fits.st_size;
    }

pub no_entry_short : IsShortEntry no_symbol_entry
no_entry_short =
    record {
      name = omega arith;
      binding = omega arith;
      symbol_type = omega arith;
      other = omega arith;
      place = tt;
      value =
          omega arith;
      size = omega arith;
    }

pub symbols_short : (i : ℕ) (o : Order) (table names words : List ℕ) → i < 2 ^ 64 → length table ≤ 2 ^ 30 → IsBytes table → IsBytes words →
    length names ≤ 2 ^ 30
    → length (symbol_lines i (symbols_in o table names words)) ≤ length table * 2 ^ 33
unfolding symbol_lines symbols_in
symbols_short i o table names words index long bytes are short =
    let symbols = symbols_in o table names words in
    let count = length_symbols o table names words in
    let all = all_mapped IsShortEntry (symbol_entry_in o table names words) (entry_short o table names words bytes are short)
    (range_with_len 0 (entry_count table)) in
    let each = indexed_short (symbol_text i symbols) (2 ^ 33) (length symbols) (λ j below.
    symbol_line_short i j (get_or symbols j no_symbol_entry) index (omega arith)
    (at_any IsShortEntry symbols no_symbol_entry j all no_entry_short)) in
    omega arith

-- ---- relocations

abbrev IsShortAddend : Option ℤ → Type 0
IsShortAddend None = Unit {0}
IsShortAddend (Some z) = FitsSigned w64 z

record IsShortRelocation (r : Relocation) : Type 0 where
  offset : r.offset < 2 ^ 64
  symbol : r.symbol < 2 ^ 64
  relocation_type : r.relocation_type < 2 ^ 64
  addend : IsShortAddend r.addend

addend_short : (addend : Option ℤ) → IsShortAddend addend → length (addend_text addend) ≤ 21
addend_short None fits = omega arith
addend_short (Some z) fits = signed_short z fits

relocation_line_short : (i j : ℕ) (r : Relocation) → i < 2 ^ 64 → j < 2 ^ 64 → IsShortRelocation r → length (relocation_line i j r) ≤ 2 ^ 33
unfolding relocation_line
relocation_line_short i j r index number short =
    let whole = line_length (codes "reloc")
    (decimal i ∷ decimal j ∷ hexadecimal r.offset ∷ decimal r.symbol ∷ decimal r.relocation_type ∷ addend_text r.addend ∷ []) in
    let a = decimal_short i index in
    let b = decimal_short j number in
    let c = hexadecimal_short r.offset short.offset in
    let d = decimal_short r.symbol short.symbol in
    let e = decimal_short r.relocation_type short.relocation_type in
    let f = addend_short r.addend short.addend in
    omega arith

relocation_short : (addends : Bool) (o : Order) (table : List ℕ) → IsBytes table → (j : ℕ) →
    IsShortRelocation (relocation_in addends o table j)
unfolding relocation_in
relocation_short true o table bytes j =
    let fits = rela_laws.valid o table (24 * j) bytes in
    let info = fits.r_info in
    record { offset = fits.r_offset; symbol = omega arith; relocation_type = omega arith; addend = fits.r_addend }
relocation_short false o table bytes j =
    let fits = rel_laws.valid o table (16 * j) bytes in
    let info = fits.r_info in
    record { offset = fits.r_offset; symbol = omega arith; relocation_type = omega arith; addend = tt }

pub relocations_short : (i : ℕ) (addends : Bool) (o : Order) (table : List ℕ) → i < 2 ^ 64 → length table ≤ 2 ^ 30 → IsBytes table
    → length (relocation_lines i (relocations_in addends o table)) ≤ length table * 2 ^ 33
unfolding relocation_lines relocations_in
relocations_short i addends o table index long bytes =
    let relocations = relocations_in addends o table in
    let count = length-map-range_with_len (relocation_in addends o table) 0 (relocation_count addends table) in
    let few = counted addends in
    let all = all_mapped IsShortRelocation (relocation_in addends o table) (relocation_short addends o table bytes)
    (range_with_len 0 (relocation_count addends table)) in
    let each = indexed_short (relocation_text i relocations) (2 ^ 33) (length relocations) (λ j below.
    relocation_line_short i j (get_or relocations j no_relocation_entry) index (omega arith)
    (at_any IsShortRelocation relocations no_relocation_entry j all
    (record { offset = omega arith; symbol = omega arith; relocation_type = omega arith; addend = tt }))) in
    omega arith
  where
    counted : (with : Bool) → relocation_count with table ≤ length table
    counted true = omega arith
    counted false = omega arith

-- ---- groups

numbers_short : (ns : List ℕ) → AllByRecursion (λ n. n < 2 ^ 64) ns → words_length (map decimal ns) ≤ length ns * 21
numbers_short [] all = omega arith
numbers_short (n ∷ ns) all =
    let here = decimal_short n all.0 in
    let rest = numbers_short ns all.1 in
    omega arith

pub group_short : (i : ℕ) (name : List ℕ) (o : Order) (words : List ℕ) (signature : ℕ) → i < 2 ^ 64 → length name ≤ 2 ^ 30 → IsBytes words
    → length (group_line i name (record { flags = word o words 0; signature = signature; members = members_in o words })) ≤ 2 ^ 33 + length
    words * 2 ^ 33
unfolding group_line members_in word
group_short i name o words signature index short bytes =
    let members = members_in o words in
    let flags = word o words 0 in
    let flags_fit = word_laws.valid o words (4 * 0) bytes in
    let whole = line_length (codes "group") (decimal i ∷ decimal flags ∷ name_text name ∷ map decimal members) in
    let a = decimal_short i index in
    let b = decimal_short flags (omega arith) in
    let c = name_short name in
    let count = length-map-range_with_len (member o words) 0 (member_count words) in
    let all = all_mapped (λ n. n < 2 ^ 64) (member o words) (λ j. (let fits = word_laws.valid o words (4 * (j + 1)) bytes in omega arith))
    (range_with_len 0 (member_count words)) in
    let d = numbers_short members all in
    omega arith

-- ---- notes

note_short : (i : ℕ) (o : Order) (table : List ℕ) (x : ℕ) → i < 2 ^ 64 → length table ≤ 2 ^ 30 → IsBytes table →
    length (note_line i (note_at o table x)) ≤ 2 ^ 33
unfolding note_line note_at
note_short i o table x index long bytes =
    let n = note_at o table x in
    let type_fits = word_laws.valid o table (x + 8) bytes in
    let name : length n.name ≤ length table = piece_within _ (x + 12) table in
    let desc : length n.desc ≤ length table = piece_within _ _ table in
    let whole = line_length (codes "note") (decimal i ∷ decimal n.note_type ∷ name_text n.name ∷ bytes_text n.desc ∷ []) in
    let a = decimal_short i index in
    let b = decimal_short n.note_type (omega arith) in
    let c = name_short n.name in
    let d = bytes_short n.desc in
    omega arith

pub notes_short : (i : ℕ) (o : Order) (table : List ℕ) (n x : ℕ) → i < 2 ^ 64 → length table ≤ 2 ^ 30 → IsBytes table
    → length (flat_map (note_line i) (first_notes o table n x)) ≤ n * 2 ^ 33
unfolding first_notes
notes_short i o table zero x index long bytes = omega arith
notes_short i o table (suc n) x index long bytes =
    by_rest (nat_lt x (length table)) (notes_short i o table n (note_end o table x) index long bytes)
  where
    by_rest : (left : Bool) → length (flat_map (note_line i) (first_notes o table n (note_end o table x))) ≤ n * 2 ^ 33
        → length (flat_map (note_line i) (if left then note_at o table x ∷ first_notes o table n (note_end o table x) else [])) ≤ suc
        n * 2 ^ 33
    by_rest true rest =
        let here = note_short i o table x index long bytes in
        let both = length-append (note_line i (note_at o table x)) (flat_map (note_line i) (first_notes o table n (note_end o table x))) in
        omega arith
    by_rest false rest = omega arith

-- ---- dynamic arrays

record IsShortDynamic (e : Dyn) : Type 0 where
  tag : FitsSigned w64 e.d_tag
  value : e.d_un < 2 ^ 64

no_tag : FitsSigned w64 (pos 0)
no_tag = search arith

strings_short : (strings : List ℕ) (e : Dyn) → length strings ≤ 2 ^ 30 → words_length (string_words strings e) ≤ 2 ^ 32
strings_short strings e short = by_tag (is_string_tag e.d_tag)
  where
    by_tag : (has : Bool) → words_length (if has then name_text (string strings e.d_un) ∷ [] else []) ≤ 2 ^ 32
    by_tag true =
        let within = string_within strings e.d_un in
        let name = name_short (string strings e.d_un) in
        omega arith
    by_tag false = omega arith

dynamic_line_short : (i : ℕ) (strings : List ℕ) (e : Dyn) → i < 2 ^ 64 → length strings ≤ 2 ^ 30 → IsShortDynamic e →
    length (dynamic_line i strings e) ≤ 2 ^ 33
unfolding dynamic_line
dynamic_line_short i strings e index short fits =
    let whole = line_length (codes "dynamic") (decimal i ∷ signed_decimal e.d_tag ∷ hexadecimal e.d_un ∷ string_words strings e) in
    let a = decimal_short i index in
    let b = signed_short e.d_tag fits.tag in
    let c = hexadecimal_short e.d_un fits.value in
    let d = strings_short strings e short in
    omega arith

pub dynamic_short : (i : ℕ) (strings : List ℕ) (o : Order) (table : List ℕ) (n : ℕ) → i < 2 ^ 64 → length strings ≤ 2 ^ 30 →
    length table ≤ 2 ^ 30 → IsBytes table
    → length (dynamic_lines i strings (take n (dynamic_entries o table (dynamic_entry_count table)))) ≤ length table * 2 ^ 33
unfolding dynamic_lines dynamic_entries dynamic_entry
dynamic_short i strings o table n index short long bytes =
    let entries = dynamic_entries o table (dynamic_entry_count table) in
    let count = length-map-range_with_len (dynamic_entry o table) 0 (dynamic_entry_count table) in
    let some = length-take n entries in
    let all = all_taken IsShortDynamic n entries
    (all_mapped IsShortDynamic (dynamic_entry o table)
    (λ j. (let fits = dyn_laws.valid o table (16 * j) bytes in record { tag = fits.d_tag; value = fits.d_un }))
    (range_with_len 0 (dynamic_entry_count table))) in
    let each = indexed_short (dynamic_text i strings (take n entries)) (2 ^ 33) (length (take n entries)) (λ j below.
    dynamic_line_short i strings (get_or (take n entries) j no_dynamic_entry) index short
    (at_any IsShortDynamic (take n entries) no_dynamic_entry j all (record { tag = no_tag; value = omega arith }))) in
    omega arith

-- ---- hash tables

pub hash_short : (i : ℕ) (words : List ℕ) → i < 2 ^ 64 → AllByRecursion (λ n. n < 2 ^ 64) words → length (hash_line i words) ≤ 2 ^ 33
unfolding hash_line
hash_short i words index all =
    let whole = line_length (codes "hash") (decimal i ∷ decimal (nbucket words) ∷ decimal (nchain words) ∷ []) in
    let a = decimal_short i index in
    let b = decimal_short (nbucket words) (at_any (λ (n : ℕ). n < 2 ^ 64) words 0 0 all (omega arith)) in
    let c = decimal_short (nchain words) (at_any (λ (n : ℕ). n < 2 ^ 64) words 0 1 all (omega arith)) in
    omega arith

pub hash_words : (o : Order) (table : List ℕ) → IsBytes table → AllByRecursion (λ n. n < 2 ^ 64) (words_in o table)
unfolding words_in word
hash_words o table bytes =
    all_mapped (λ n. n < 2 ^ 64) (word o table) (λ j. (let fits = word_laws.valid o table (4 * j) bytes in omega arith))
    (range_with_len 0 (length table / 4))
