-- The text of `show` is shorter than 2^64 bytes. An image has at most 2^30 bytes, so each name in it is as short, and each line that ends
-- with a name has less than 2^33 bytes. No entry of a table is without a byte of its own, and contents share none: so there are at most
-- 2^30 entries and 2^24 sections.
use Rattle.std.proofs.Common.{◌≡◌, ◌∙◌, ◌<◌, ◌≤◌, ◌+◌, ◌*◌, ◌^◌, ◌++◌, ◌==◌, ℕ, zero, suc, Bool, true, false, List, []}
use Rattle.std.proofs.Common.{◌∷◌, None, Option, Some, ap, arith, drop, get_or, if◌then◌else◌, length, length-append}
use Rattle.std.proofs.Common.{map, refl, subst, sym, take, slice_get, zero-add}
use Rattle.std.specs.List.{flat_map, range_with_len, sum_by}
use Rattle.std.proofs.lemmas.List.{get_or-map, length-take}
use Rattle.std.proofs.lemmas.List.FromFn.{get_or-map-range_with_len, length-map-range_with_len}
use Rattle.std.proofs.lemmas.List.Sums.{sum_by-cons}
use Rattle.elf_extent.specs.declared.extent.Extent.{Extent}
use Rattle.elf_field.specs.Abi.{SHT_NULL}
use Rattle.elf_field.specs.Bytes.{IsBytes}
use Rattle.elf_field.specs.laws.Bytes.{IsBytes-nil}
use Rattle.elf_field.specs.Headers.{IsPhdr, IsShdr}
use Rattle.elf_field.specs.declared.ehdr.Ehdr.{Ehdr}
use Rattle.elf_field.specs.declared.shdr.Shdr.{Shdr}
use Rattle.elf_image_outline.specs.Image.{ImageValue, IsExtentOf, IsImage, IsSoundImage, PlacedPart, Stands, no_program_header}
use Rattle.elf_image_outline.specs.Image.{no_section_header, program_header_of, section_header_of, value_names}
use Rattle.elf_image_outline.specs.declared.outline.Owner.TheVariants.{Header, ProgramTable, SectionTable, Content, Gap}
use Rattle.elf_image_outline.specs.declared.outline.Owner.{Owner}
use Rattle.elf_image_outline.specs.declared.outline.Part.{Part}
use Rattle.elf_image_rules.proofs.Public.{clean_records, extents_disjoint, extents_within, kept_short, sound_file}
use Rattle.elf_image_rules.specs.Rules.{extents, rules_in}
use Rattle.elf_image_rules.specs.Tables.{bytes_in, content_extent, header, name_table, names, program_header_count}
use Rattle.elf_image_rules.specs.Tables.{section_header_count, sections, segments}
use Rattle.elf_image_type.proofs.Public.{are_parts, image_is_sound}
use Rattle.elf_field.specs.Strings.{string}
use Rattle.elf_image_type.specs.ImageView.{section_name}
use Rattle.elf_table_all.specs.Tables.{TablesValue, dynamic_strings, signature_name}
use Rattle.elf_table_hash.specs.HashTable.{words_in}
use Rattle.elf_table_lists.specs.Dynamic.{dynamic_array_of, dynamic_entries, dynamic_entry_count}
use Rattle.elf_table_lists.specs.Groups.{group_of}
use Rattle.elf_table_lists.specs.Notes.{notes_in, notes_of}
use Rattle.elf_table_lists.specs.Relocations.{has_addends}
use Rattle.elf_table_lists.specs.Relocations.{relocations_of}
use Rattle.elf_table_symbols.specs.Sections.{content, kind_of, order, section, sections_of}
use Rattle.elf_table_symbols.specs.SymbolView.{no_symbol_entry}
use Rattle.elf_table_symbols.specs.Symbols.{index_words, symbol_entry_in, symbol_parts}
use Rattle.elf_table_symbols.specs.Symbols.{symbols_in, symbols_of}
use Rattle.elf_table_symbols.specs.declared.table_section.TableKind.TheVariants.{SymbolTable, RelocationTable, SectionGroup, NoteSection}
use Rattle.elf_table_symbols.specs.declared.table_section.TableKind.TheVariants.{DynamicArray, HashTable}
use Rattle.elf_table_symbols.specs.declared.table_section.TableKind.{TableKind}
use Rattle.elf_tool_text.proofs.Public.{indexed_short, lines_short}
use Rattle.elf_tool_show.specs.Show.{IsVerdictShort, VerdictsFit, all_table_lines, dynamic_lines}
use Rattle.elf_tool_show.specs.Show.{file_line, kind_lines, note_lines}
use Rattle.elf_tool_show.specs.Show.{part_line, part_lines}
use Rattle.elf_tool_show.specs.Show.{section_lines, section_text, segment_lines, segment_text, show_text}
use Rattle.elf_tool_show.specs.Show.{table_lines, table_text}
use Rattle.elf_tool_show.proofs.Lengths.{lengths_within}
use Rattle.elf_tool_show.proofs.ShortLines.{IsShortEntry, at_any, all_mapped, string_within, contents_within, file_line_short, IsIndexed}
use Rattle.elf_tool_show.proofs.ShortLines.{part_line_short}
use Rattle.elf_tool_show.proofs.ShortLines.{section_line_short, segment_line_short, table_refused_short, entry_short, no_entry_short}
use Rattle.elf_tool_show.proofs.ShortLines.{symbols_short, relocations_short, group_short, notes_short, dynamic_short, hash_short}
use Rattle.elf_tool_show.proofs.ShortLines.{hash_words}

-- ---- a list of texts, each with no more bytes than a weight of its index

weighed_short : (f : ℕ → List ℕ) (w : ℕ → ℕ) (from n end : ℕ) → from + n ≡ end → ((i : ℕ) → i < end → length (f i) ≤ 2 ^ 33 + w i * 2 ^ 33)
    → length (flat_map f (range_with_len from n)) ≤ n * 2 ^ 33 + sum_by w (range_with_len from n) * 2 ^ 33
weighed_short f w from zero end same each = omega arith
weighed_short f w from (suc n) end same each =
    let here = each from (omega arith) in
    let rest = weighed_short f w (from + 1) n end (omega arith) each in
    let both = length-append (f from) (flat_map f (range_with_len (from + 1) n)) in
    let sum = sum_by-cons w from (range_with_len (from + 1) n) in
    omega arith

sum_mapped : {A B : Type 0} (g : B → ℕ) (h : A → B) (xs : List A) → sum_by g (map h xs) ≡ sum_by (λ x. g (h x)) xs
sum_mapped g h [] = refl
sum_mapped g h (x ∷ xs) =
    let rest = sum_mapped g h xs in
    let one = sum_by-cons g (h x) (map h xs) in
    let other = sum_by-cons (λ y. g (h y)) x xs in
    omega arith

-- ---- parts: each has a byte of its own

abbrev no_part : Part
no_part = record { owner = Gap; start = 0; len = 0 }

-- ---- an image

module _ (v : ImageValue) (b : List ℕ) (image : IsImage v b) where
  stands : Stands v b
  stands = image.stands

  sound : IsSoundImage v
  sound = image_is_sound v b image

  file_short : length b ≤ 2 ^ 30
  unfolding rules_in
  file_short =
      let h = header b in
      kept_short b (clean_records (length b) h (sections b h) (segments b h) (names b h) image.clean)

  few_sections : length v.sections ≤ 2 ^ 24
  few_sections = by_count (length v.sections) (λ i. stands.within.section_headers i)
    where
      by_count : (n : ℕ) → ((i : ℕ) → i < n → v.header.e_shoff + 64 * i + 64 ≤ length b) → n ≤ 2 ^ 24
      by_count zero within = omega arith
      by_count (suc n) within = let last = within n (omega arith) in let short = file_short in omega arith

  few_segments : length v.segments ≤ 2 ^ 30
  few_segments = by_count (length v.segments) (λ i. stands.within.program_headers i)
    where
      by_count : (n : ℕ) → ((i : ℕ) → i < n → v.header.e_phoff + 56 * i + 56 ≤ length b) → n ≤ 2 ^ 30
      by_count zero within = omega arith
      by_count (suc n) within = let last = within n (omega arith) in let short = file_short in omega arith

  content_short : (i : ℕ) → length (content (sections_of v) i) ≤ 2 ^ 30
  content_short i =
      let within =
      subst (λ (cs : List (List ℕ)). length (get_or cs i []) ≤ length b) (sym stands.contents) (contents_within b v.sections i) in
      let short = file_short in
      omega arith

  content_bytes : (i : ℕ) → IsBytes (content (sections_of v) i)
  content_bytes i = at_any IsBytes v.contents [] i sound.bytes IsBytes-nil

  names_short : length (value_names v.header v.sections v.contents) ≤ 2 ^ 30
  names_short = by_index (name_table v.header (section (sections_of v) 0)) ((name_table v.header (section (sections_of v) 0)) == 0)
    where
      by_index : (k : ℕ) (none : Bool) → length (if none then [] else get_or v.contents k []) ≤ 2 ^ 30
      by_index k true = omega arith
      by_index k false = content_short k

  section_name_short : (i : ℕ) → length (section_name v i) ≤ 2 ^ 30
  section_name_short i = by_type ((section_header_of v.sections i).sh_type == SHT_NULL)
    where
      by_type : (null : Bool) →
          length (if null then [] else string (value_names v.header v.sections v.contents)
          (section_header_of v.sections i).sh_name) ≤ 2 ^ 30
      by_type true = omega arith
      by_type false =
          let within = string_within (value_names v.header v.sections v.contents) (section_header_of v.sections i).sh_name in
          let short = names_short in
          omega arith

  no_section_fits : IsShdr no_section_header
  no_section_fits = record {
    sh_name = omega arith;
    sh_type = omega arith;
    sh_flags = omega arith;
    sh_addr = omega arith;
    sh_offset = omega arith;
    sh_size = omega arith;
    sh_link = omega arith;
    sh_info = omega arith;
    sh_addralign = omega arith;
    sh_entsize = omega arith;
  }

  no_segment_fits : IsPhdr no_program_header
  no_segment_fits = record {
    p_type = omega arith;
    p_flags = omega arith;
    p_offset = omega arith;
    p_vaddr = omega arith;
    p_paddr = omega arith;
    p_filesz = omega arith;
    p_memsz = omega arith;
    p_align = omega arith;
  }

  sections_short : length (section_lines v) ≤ length v.sections * 2 ^ 32
  unfolding section_lines
  sections_short = indexed_short (section_text v) (2 ^ 32) (length v.sections) (λ i below. (
      let few = few_sections in
      section_line_short i (section_header_of v.sections i) (section_name v i) (omega arith)
      (at_any IsShdr v.sections no_section_header i sound.section_headers no_section_fits) (section_name_short i)))

  segments_short : length (segment_lines v) ≤ length v.segments * 200
  unfolding segment_lines
  segments_short = indexed_short (segment_text v) 200 (length v.segments) (λ j below. (
      let few = few_segments in
      segment_line_short j (program_header_of v.segments j) (omega arith)
      (at_any IsPhdr v.segments no_program_header j sound.program_headers no_segment_fits)))

  -- ---- tables

  symbol_names_short : (t j : ℕ) → length (get_or (symbols_of (sections_of v) t) j no_symbol_entry).name ≤ 2 ^ 30
  unfolding symbols_of symbols_in
  symbol_names_short t j =
      let f = sections_of v in
      let p = symbol_parts f t in
      (at_any IsShortEntry (symbols_in p.order p.table p.names p.words) no_symbol_entry j
      (all_mapped IsShortEntry (symbol_entry_in p.order p.table p.names p.words)
      (entry_short p.order p.table p.names p.words (content_bytes t) (words_bytes p.index_table) (content_short (section f t).sh_link)) _)
      no_entry_short).name
    where
      words_bytes : (table : Option ℕ) → IsBytes (index_words (sections_of v) table)
      words_bytes None = IsBytes-nil
      words_bytes (Some k) = content_bytes k

  index_words_bytes : (table : Option ℕ) → IsBytes (index_words (sections_of v) table)
  index_words_bytes None = IsBytes-nil
  index_words_bytes (Some k) = content_bytes k

  kind_short : (kind : Option TableKind) (i : ℕ) → i < 2 ^ 64 →
      length (kind_lines kind (sections_of v) i) ≤ 2 ^ 33 + length (content (sections_of v) i) * 2 ^ 33
  unfolding symbols_of relocations_of notes_of notes_in note_lines dynamic_array_of group_of
  kind_short None i index = omega arith
  kind_short (Some SymbolTable) i index =
      let f = sections_of v in
      let p = symbol_parts f i in
      let short = symbols_short i p.order p.table p.names p.words index (content_short i) (content_bytes i)
      (index_words_bytes p.index_table) (content_short (section f i).sh_link) in
      omega arith
  kind_short (Some RelocationTable) i index =
      let f = sections_of v in
      let short = relocations_short i (has_addends (section f i).sh_type) (order f) (content f i) index (content_short i)
      (content_bytes i) in
      omega arith
  kind_short (Some SectionGroup) i index =
      let f = sections_of v in
      let s = section f i in
      group_short i (signature_name f i) (order f) (content f i) s.sh_info index (symbol_names_short s.sh_link s.sh_info) (content_bytes i)
  kind_short (Some NoteSection) i index =
      let f = sections_of v in
      let short = notes_short i (order f) (content f i) (length (content f i)) 0 index (content_short i) (content_bytes i) in
      omega arith
  kind_short (Some DynamicArray) i index =
      let f = sections_of v in
      let entries = dynamic_entries (order f) (content f i) (dynamic_entry_count (content f i)) in
      let first : (n : ℕ) → length (dynamic_lines i (dynamic_strings f i) (take n entries)) ≤ 2 ^ 33 + length (content f i) * 2 ^ 33 =
      λ n. (let short =
      dynamic_short i (dynamic_strings f i) (order f) (content f i) n index (content_short (section f i).sh_link) (content_short i)
      (content_bytes i) in omega arith) in
      first _
  kind_short (Some HashTable) i index =
      let f = sections_of v in
      let short = hash_short i (words_in (order f) (content f i)) index (hash_words (order f) (content f i) (content_bytes i)) in
      omega arith

  table_short : (i : ℕ) (verdict : Option (ℕ × ℕ)) → i < 2 ^ 64 → IsVerdictShort verdict
      → length (table_lines (sections_of v) i verdict) ≤ 2 ^ 33 + length (content (sections_of v) i) * 2 ^ 33
  table_short i None index fits = kind_short (kind_of (section (sections_of v) i).sh_type) i index
  table_short i (Some fault) index fits = let short = table_refused_short i fault.0 fault.1 index fits.0 fits.1 in omega arith

  -- ---- parts

  module _ (k : ℕ) (lt : k < length v.parts) where
    abbrev p : Part
    p = (get_or v.parts k (record { part = no_part; gap = [] })).part

    part_there : slice_get (map (λ (q : PlacedPart). q.part) v.parts) k ≡ Some p
    part_there = slice_get_map v.parts k lt
      where
        slice_get_map : (ps : List PlacedPart) (j : ℕ) → j < length ps →
            slice_get (map (λ (q : PlacedPart). q.part) ps) j ≡ Some (get_or ps j (record { part = no_part; gap = [] })).part
        slice_get_map [] j within = absurd (omega arith)
        slice_get_map (q ∷ ps) zero within = refl
        slice_get_map (q ∷ ps) (suc j) within = slice_get_map ps j (omega arith)

    part_within : p.start + p.len ≤ v.len
    part_within = (are_parts v sound).within k p part_there

    part_some : 0 < p.len
    part_some = (are_parts v sound).nonempty k p part_there

    part_indexed : IsIndexed p.owner
    part_indexed = by_owner p.owner ((are_parts v sound).owners k p part_there)
      where
        by_owner : (owner : Owner) → IsExtentOf v owner p.start p.len → IsIndexed owner
        by_owner Header is = tt
        by_owner SectionTable is = tt
        by_owner ProgramTable is = tt
        by_owner (Content i) (below, start, len) = let few = few_sections in omega arith
        by_owner Gap is = tt

    part_short : length (part_line b p) ≤ 100
    part_short =
        let within = part_within in
        let whole = stands.len in
        let short = file_short in
        part_line_short b p (omega arith) (omega arith) part_indexed

  -- each part begins after as many bytes as there are parts before it
  part_after : (k : ℕ) (lt : k < length v.parts) → k ≤ (p k lt).start
  part_after zero lt = omega arith
  part_after (suc k) lt =
      let before : k < length v.parts = omega arith in
      let rest = part_after k before in
      let some = part_some k before in
      let after = (are_parts v sound).ascending k (suc k) (p k before) (p (suc k) lt) (omega arith) (part_there k before)
      (part_there (suc k) lt) in
      omega arith

  few_parts : length v.parts ≤ 2 ^ 30
  few_parts = by_count (length v.parts) refl
    where
      by_count : (n : ℕ) → length v.parts ≡ n → n ≤ 2 ^ 30
      by_count zero same = omega arith
      by_count (suc n) same =
          let lt : n < length v.parts = omega arith in
          let after = part_after n lt in
          let some = part_some n lt in
          let within = part_within n lt in
          let whole = stands.len in
          let short = file_short in
          omega arith

  parts_short : length (part_lines b v) ≤ length v.parts * 100
  unfolding part_lines
  parts_short = lines_short (λ q. part_line b q.part) 100 (record { part = no_part; gap = [] }) v.parts (λ k lt. part_short k lt)

  -- ---- contents are together no longer than the file

  abbrev size : ℕ → ℕ
  size i = (content_extent (sections b v.header i)).len

  sizes_short : sum_by size (range_with_len 0 (section_header_count v.header (sections b v.header 0))) ≤ length b
  unfolding rules_in extents
  sizes_short =
      let h = header b in
      let same = stands.records.header in
      let n = section_header_count h (sections b h 0) in
      let m = program_header_count h (sections b h 0) in
      let clean = clean_records (length b) h (sections b h) (segments b h) (names b h) image.clean in
      let within = extents_within (length b) h (sections b h) (sound_file b h refl clean) in
      let disjoint = extents_disjoint (length b) h (sections b h) (segments b h) (names b h) image.clean in
      let es = extents h n m (sections b h) in
      let all = lengths_within (length b) es within disjoint in
      let contents = map (λ i. content_extent (sections b h i)) (range_with_len 0 n) in
      let first = sum_by-cons (λ (e : Extent). e.len) (record { start = 0; len = 64 })
      (record { start = h.e_shoff; len = 64 * n } ∷ record { start = h.e_phoff; len = 56 * m } ∷ contents) in
      let second =
      sum_by-cons (λ (e : Extent). e.len) (record { start = h.e_shoff; len = 64 * n })
      (record { start = h.e_phoff; len = 56 * m } ∷ contents) in
      let third = sum_by-cons (λ (e : Extent). e.len) (record { start = h.e_phoff; len = 56 * m }) contents in
      let listed = sum_mapped (λ (e : Extent). e.len) (λ i. content_extent (sections b h i)) (range_with_len 0 n) in
      subst (λ (k : Ehdr). sum_by (λ i. (content_extent (sections b k i)).len)
      (range_with_len 0 (section_header_count k (sections b k 0))) ≤ length b) (sym same)
      (omega arith)

  section_is : (i : ℕ) → i < length v.sections → section_header_of v.sections i ≡ sections b v.header i
  section_is i below =
      let n = section_header_count v.header (sections b v.header 0) in
      let same = stands.records.section_headers in
      let long = ap length same ∙ length-map-range_with_len (sections b v.header) 0 n in
      ap (λ (ss : List Shdr). section_header_of ss i) same ∙
      get_or-map-range_with_len (sections b v.header) 0 n i i no_section_header (omega arith) (zero-add i)

  content_sized : (i : ℕ) → i < length v.sections → length (content (sections_of v) i) ≤ size i
  content_sized i below =
      let is = ap (λ (cs : List (List ℕ)). get_or cs i []) stands.contents ∙
      get_or-map (λ s. bytes_in b (content_extent s)) v.sections i no_section_header [] below in
      let e = content_extent (section_header_of v.sections i) in
      let some = length-take e.len (drop e.start b) in
      let long = ap length is in
      let same = ap (λ (s : Shdr). (content_extent s).len) (section_is i below) in
      omega arith

  tables_short : (verdicts : List (Option (ℕ × ℕ))) → VerdictsFit (length v.sections) verdicts →
      length (all_table_lines (record { image = v; verdicts = verdicts })) < 2 ^ 63 + 2 ^ 62
  unfolding all_table_lines
  tables_short verdicts fit =
      let few = few_sections in
      let n = section_header_count v.header (sections b v.header 0) in
      let long = ap length stands.records.section_headers ∙ length-map-range_with_len (sections b v.header) 0 n in
      let all = weighed_short (table_text (record { image = v; verdicts = verdicts })) size 0 (length v.sections) (length v.sections)
      (omega arith) (λ i below. (
      let one = table_short i (get_or verdicts i None) (omega arith) (fit i below) in
      let sized = content_sized i below in
      omega arith)) in
      let sum = subst (λ (k : ℕ). sum_by size (range_with_len 0 k) ≤ length b) (sym long) sizes_short in
      let short = file_short in
      omega arith

  pub show_short : (verdicts : List (Option (ℕ × ℕ))) → VerdictsFit (length v.sections) verdicts →
      length (show_text b (record { image = v; verdicts = verdicts })) < 2 ^ 64
  unfolding show_text
  show_short verdicts fit =
      let t : TablesValue = record { image = v; verdicts = verdicts } in
      let first = length-append (file_line v.header) (part_lines b v ++ (section_lines v ++ (segment_lines v ++ all_table_lines t))) in
      let second = length-append (part_lines b v) (section_lines v ++ (segment_lines v ++ all_table_lines t)) in
      let third = length-append (section_lines v) (segment_lines v ++ all_table_lines t) in
      let fourth = length-append (segment_lines v) (all_table_lines t) in
      let file = file_line_short v.header sound.header in
      let part_count = few_parts in
      let parts = parts_short in
      let section_count = few_sections in
      let sections = sections_short in
      let segment_count = few_segments in
      let segments = segments_short in
      let tables = tables_short verdicts fit in
      omega arith
