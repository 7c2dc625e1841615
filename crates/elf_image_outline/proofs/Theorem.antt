-- The theorem of images. A sound value is represented by its joined parts, which break no rule. No other list represents it, because the
-- value determines the bytes of each part. Conversely, a value that bytes without a broken rule represent is sound, field by field. For
-- both, the rules see the same records and names in the value and in the bytes (`same_clean`).
use Rattle.std.proofs.Common.{◌≡◌, ◌≢◌, ◌≤◌, ◌<◌, ◌+◌, ◌*◌, ℕ, zero, suc, None, Some, List, [], ◌∷◌, length, take, drop, map, get_or, refl}
use Rattle.std.proofs.Common.{sym, ap, ap₂, subst, ◌∙◌, inl, inr, arith, add-zero, length-drop}
use Rattle.std.specs.Prelude.{slice_get, Bool, false}
use Rattle.std.specs.List.{AllByRecursion, flat_map, range_with_len}
use Rattle.std.proofs.lemmas.Bool.{cases_eq, cases_lt, ne_eqb}
use Rattle.std.proofs.lemmas.List.{length-take-le}
use Rattle.std.proofs.lemmas.List.FromFn.{length-map-range_with_len}
use Rattle.elf_extent.proofs.Public.{accounts_le}
use Rattle.elf_extent.specs.Account.{Accounts, IsOwned}
use Rattle.elf_extent.specs.Extent.{AreDisjoint, AreWithin}
use Rattle.elf_extent.specs.declared.extent.Extent.{Extent}
use Rattle.elf_field.proofs.RecordTableLaws.{entries_bytes, entries_fit, record_bytes}
use Rattle.elf_field.specs.Abi.{EHDR_SIZE, PHDR_SIZE, SHDR_SIZE}
use Rattle.elf_field.specs.Bytes.{IsBytes}
use Rattle.elf_field.specs.laws.Bytes.{IsBytes-drop, IsBytes-nil, IsBytes-take, first_bytes-take}
use Rattle.elf_field.specs.Headers.{IsEhdr, ehdr_bytes, IsShdr, shdr_bytes, IsPhdr, phdr_bytes}
use Rattle.elf_field.specs.laws.Headers.{shdr_laws, phdr_laws, ehdr_laws}
use Rattle.elf_field.specs.declared.ehdr.Ehdr.{Ehdr}
use Rattle.elf_field.specs.declared.phdr.Phdr.{Phdr}
use Rattle.elf_field.specs.declared.shdr.Shdr.{Shdr}
use Rattle.elf_image_outline.proofs.Standing.{flat_parts_are, IsCounted, clean_of, content_within, counted_of, table_there, content_is}
use Rattle.elf_image_outline.proofs.Standing.{element_made, first_of_none, joined_stands, disjoint_of, records_within, within_of}
use Rattle.elf_image_outline.specs.Image.{AreRecordsIn, ImageValue, IsImage, IsSoundImage, OfItsBytes, PlacedPart, Stands, gap_in, gap_len}
use Rattle.elf_image_outline.specs.Image.{if_gap, joined, no_program_header, no_section_header, owned_bytes, owner_index, part_bytes}
use Rattle.elf_image_outline.specs.Image.{piece_of, program_header_of, section_header_of, value_extents, value_names, value_rules}
use Rattle.elf_image_outline.specs.Image.{part_piece}
use Rattle.elf_image_outline.specs.Outline.{image_of, outline_value, placed_part}
use Rattle.elf_image_outline.specs.declared.outline.Owner.TheVariants.{Header, ProgramTable, SectionTable, Content, Gap}
use Rattle.elf_image_outline.specs.declared.outline.Owner.{Owner}
use Rattle.elf_image_outline.specs.declared.outline.Part.{Part}
use Rattle.elf_image_rules.proofs.Public.{clean_records, sections_none, sections_read_at, sound_tables, table_some, Agree, same_clean}
use Rattle.elf_image_rules.specs.Rows.{FirstIn}
use Rattle.elf_image_rules.specs.Rules.{image_rules, rules_in, contents, IsFault}
use Rattle.elf_image_rules.specs.Tables.{bytes_in, content_extent, header, name_table, names, names_at, order_of, program_header_count}
use Rattle.elf_image_rules.specs.Tables.{section_header_count, sections, segments}
use Rattle.elf_image_outline.proofs.Standing as holds

-- ---- a value and its byte list break the same rules

-- what is read of a byte list: the value's records and contents, but not its parts
pub record Reads (v : ImageValue) (b : List ℕ) : Type 0 where
  pub len : v.len ≡ length b
  pub records : AreRecordsIn b v.header v.sections v.segments
  pub contents : v.contents ≡ map (λ s. bytes_in b (content_extent s)) v.sections

reads_of : (v : ImageValue) (b : List ℕ) → Stands v b → Reads v b
reads_of v b stands = record {
  len = stands.len;
  records = stands.records;
  contents = stands.contents;
}

-- the tables of the value are those that b has by its own counts
pub record HasTablesOf (v : ImageValue) (b : List ℕ) : Type 0 where
  pub first : sections b v.header 0 ≡ section_header_of v.sections 0
  pub count : length v.sections ≡ section_header_count v.header (sections b v.header 0)
  pub segment_count : length v.segments ≡ program_header_count v.header (sections b v.header 0)
  pub unnamed : v.header.e_shoff ≡ 0 → v.header.e_shstrndx ≡ 0
  pub named : v.header.e_shoff ≢ 0 → name_table v.header (section_header_of v.sections 0) < length v.sections

-- section header 0 of the byte list is the value's, where a section table has entries
first_from : (v : ImageValue) (b : List ℕ) → Reads v b → (v.header.e_shoff ≢ 0 → 0 < length v.sections) →
    sections b v.header 0 ≡ section_header_of v.sections 0
first_from v b stands some =
    let n = section_header_count v.header (sections b v.header 0) in
    let count : length v.sections ≡ n = ap length stands.records.section_headers ∙ length-map-range_with_len (sections b v.header) 0 n in
    elim (cases_eq v.header.e_shoff 0) [
      | inl none ↦
          (let no_sections : length v.sections ≡ 0 = count ∙ rw none refl in
          ap (λ (f : ℕ → Shdr). f 0) (sections_none b v.header none) ∙ sym (first_of_none v.sections no_sections))
      | inr there ↦
          (let positive = some there in
          element_made (sections b v.header) v.sections no_section_header n (sym stands.records.section_headers) 0 (omega arith))
    ]

pub has_tables_of : (v : ImageValue) (b : List ℕ) → Reads v b → (v.header.e_shoff ≢ 0 → 0 < length v.sections) →
    (v.header.e_shoff ≡ 0 → v.header.e_shstrndx ≡ 0) →
    (v.header.e_shoff ≢ 0 → name_table v.header (section_header_of v.sections 0) < length v.sections) → HasTablesOf v b
has_tables_of v b stands some unnamed named = record {
  first = first_from v b stands some;
  count = ap length stands.records.section_headers ∙ length-map-range_with_len (sections b v.header) 0 _;
  segment_count = ap length stands.records.program_headers ∙ length-map-range_with_len (segments b v.header) 0 _;
  unnamed = unnamed;
  named = named;
}

agree_from : (v : ImageValue) (b : List ℕ) → Reads v b → HasTablesOf v b →
    Agree v.header (sections b v.header) (section_header_of v.sections) (segments b v.header) (program_header_of v.segments)
agree_from v b stands shared = record {
  first = shared.first;
  sections = element_made (sections b v.header) v.sections no_section_header _ (sym stands.records.section_headers);
  segments = element_made (segments b v.header) v.segments no_program_header _ (sym stands.records.program_headers);
}

agree_back : (v : ImageValue) (b : List ℕ) → Reads v b → HasTablesOf v b →
    Agree v.header (section_header_of v.sections) (sections b v.header) (program_header_of v.segments) (segments b v.header)
agree_back v b stands shared =
    let there = agree_from v b stands shared in
    let count = ap (section_header_count v.header) shared.first in
    let segment = ap (program_header_count v.header) shared.first in
    record {
      first = sym shared.first;
      sections = λ i lt. sym (there.sections i (omega arith));
      segments = λ j lt. sym (there.segments j (omega arith));
    }

-- the name table's content is the bytes there
names_same : (v : ImageValue) (b : List ℕ) → Reads v b → HasTablesOf v b → names b v.header ≡ value_names v.header v.sections v.contents
unfolding names names_at
names_same v b stands shared =
    let table = ap (name_table v.header) shared.first in
    rw table (elim (cases_eq (name_table v.header (section_header_of v.sections 0)) 0) [
      | inl none ↦ rw none refl
      | inr other ↦ rw (ne_eqb _ 0 other) (content_there other)
    ])
  where
    below : name_table v.header (section_header_of v.sections 0) ≢ 0 →
        name_table v.header (section_header_of v.sections 0) < length v.sections
    below other = elim (cases_eq v.header.e_shoff 0) [
      | inl none ↦ absurd (other (let unnamed = shared.unnamed none in rw unnamed refl))
      | inr there ↦ shared.named there
    ]

    content_there : name_table v.header (section_header_of v.sections 0) ≢ 0 →
        bytes_in b (content_extent (sections b v.header (name_table v.header (section_header_of v.sections 0)))) ≡
        get_or v.contents (name_table v.header (section_header_of v.sections 0)) []
    content_there other =
        let k = name_table v.header (section_header_of v.sections 0) in
        let count = shared.count in
        let lt = below other in
        let entry = (agree_from v b stands shared).sections k (omega arith) in
        ap (λ (s : Shdr). bytes_in b (content_extent s)) entry ∙ sym (content_is b v.sections k lt) ∙
        ap (λ (cs : List (List ℕ)). get_or cs k []) (sym stands.contents)

-- a clean value's byte list breaks no rule
pub clean_bytes : (v : ImageValue) (b : List ℕ) → Reads v b → HasTablesOf v b → FirstIn (value_rules v) None → FirstIn (rules_in b) None
unfolding rules_in
clean_bytes v b stands shared clean =
    let P : Ehdr → Type 0 = λ h. FirstIn (image_rules (length b) h (sections b h) (segments b h) (names b h)) None in
    let moved = same_clean v.len v.header _ _ _ _ _ (agree_back v b stands shared) clean in
    let named : FirstIn (image_rules v.len v.header (sections b v.header) (segments b v.header) (names b v.header)) None =
    subst (λ (ns : List ℕ). FirstIn (image_rules v.len v.header (sections b v.header) (segments b v.header) ns) None)
    (sym (names_same v b stands shared)) moved in
    subst P stands.records.header
    (subst (λ (n : ℕ). FirstIn (image_rules n v.header (sections b v.header) (segments b v.header) (names b v.header)) None) stands.len
    named)

-- the rules of b, said with the header of the value
rules_at_value : (v : ImageValue) (b : List ℕ) → Reads v b → FirstIn (rules_in b) None →
    FirstIn (image_rules v.len v.header (sections b v.header) (segments b v.header) (names b v.header)) None
unfolding rules_in
rules_at_value v b stands clean =
    let P : Ehdr → Type 0 = λ h. FirstIn (image_rules (length b) h (sections b h) (segments b h) (names b h)) None in
    subst (λ (n : ℕ). FirstIn (image_rules n v.header (sections b v.header) (segments b v.header) (names b v.header)) None) (sym stands.len)
    (subst P (sym stands.records.header) clean)

-- what is shared, from a clean byte list
has_tables_by_reads : (v : ImageValue) (b : List ℕ) → Reads v b → FirstIn (rules_in b) None → HasTablesOf v b
has_tables_by_reads v b stands clean =
    let facts = sound_tables v.len v.header (sections b v.header) (segments b v.header) (names b v.header)
    (clean_records v.len v.header (sections b v.header) (segments b v.header) (names b v.header) (rules_at_value v b stands clean)) in
    let n = section_header_count v.header (sections b v.header 0) in
    let count : length v.sections ≡ n = ap length stands.records.section_headers ∙ length-map-range_with_len (sections b v.header) 0 n in
    let some : v.header.e_shoff ≢ 0 → 0 < length v.sections = λ there. let lt = facts.some there in omega arith in
    let first = first_from v b stands some in
    let table = ap (name_table v.header) first in
    has_tables_of v b stands some facts.no_names (λ there. let lt = facts.name_table there in omega arith)

-- the value as a clean byte list is clean
clean_value : (v : ImageValue) (b : List ℕ) → Reads v b → FirstIn (rules_in b) None → FirstIn (value_rules v) None
clean_value v b stands clean =
    let shared = has_tables_by_reads v b stands clean in
    let moved = same_clean v.len v.header _ _ _ _ _ (agree_from v b stands shared) (rules_at_value v b stands clean) in
    subst (λ (ns : List ℕ). FirstIn (image_rules v.len v.header (section_header_of v.sections) (program_header_of v.segments) ns) None)
    (names_same v b stands shared) moved

pub counted_by_reads : (v : ImageValue) (b : List ℕ) → Reads v b → FirstIn (rules_in b) None → IsCounted v
counted_by_reads v b stands clean =
    let shared = has_tables_by_reads v b stands clean in
    record {
      section_count = shared.count ∙ ap (section_header_count v.header) shared.first;
      segment_count = shared.segment_count ∙ ap (program_header_count v.header) shared.first;
      clean = clean_value v b stands clean;
    }

pub has_tables_by_bytes : (v : ImageValue) (b : List ℕ) → IsImage v b → HasTablesOf v b
has_tables_by_bytes v b image = has_tables_by_reads v b (reads_of v b image.stands) image.clean

pub counted_by_bytes : (v : ImageValue) (b : List ℕ) → IsImage v b → IsCounted v
counted_by_bytes v b image = counted_by_reads v b (reads_of v b image.stands) image.clean

-- what represents a sound value breaks no rule
pub stands_is_image : (v : ImageValue) (b : List ℕ) → IsSoundImage v → Stands v b → IsImage v b
stands_is_image v b sound stands =
    let facts = clean_of v (counted_of v sound) in
    let count = sound.section_count in
    let reads = reads_of v b stands in
    let shared = has_tables_of v b reads (λ there. let lt = facts.some there in omega arith) facts.no_names
    (λ there. let lt = facts.name_table there in omega arith) in
    record { stands = stands; clean = clean_bytes v b reads shared sound.clean }

-- a sound value is represented by its joined parts, without fault
pub joined_is_image : (v : ImageValue) → IsSoundImage v → IsImage v (joined v)
joined_is_image v sound = stands_is_image v (joined v) sound (joined_stands v sound)

-- ---- and as nothing else: each part's bytes are those at its offset

-- the header's bytes are the first ones of a list that it is read from
header_bytes : (b : List ℕ) (h : Ehdr) → IsBytes b → EHDR_SIZE ≤ length b → h ≡ header b →
    ehdr_bytes (order_of h.e_ident) h ≡ take EHDR_SIZE b
unfolding header
header_bytes b h are long same =
    let o = order_of (take 16 b) in
    let ident : h.e_ident ≡ take 16 b = ap (λ (x : Ehdr). x.e_ident) same ∙ first_bytes-take 16 b (omega arith) in
    let order : order_of h.e_ident ≡ o = ap order_of ident in
    ap₂ ehdr_bytes order same ∙ record_bytes ehdr_laws o b 0 are (omega arith)

section_bytes : (b : List ℕ) (h : Ehdr) (n : ℕ) → h.e_shoff ≢ 0 → IsBytes b → h.e_shoff + SHDR_SIZE * n ≤ length b →
    flat_map (shdr_bytes (order_of h.e_ident)) (map (sections b h) (range_with_len 0 n)) ≡ take (SHDR_SIZE * n) (drop h.e_shoff b)
section_bytes b h n there are within =
    ap (λ (f : ℕ → Shdr). flat_map (shdr_bytes (order_of h.e_ident)) (map f (range_with_len 0 n))) (sections_read_at b h there)
    ∙ entries_bytes shdr_laws (order_of h.e_ident) b h.e_shoff 0 n are (omega arith) ∙
    ap (λ (x : ℕ). take (SHDR_SIZE * n) (drop x b)) (add-zero h.e_shoff)

segment_bytes : (b : List ℕ) (h : Ehdr) (n : ℕ) → IsBytes b → h.e_phoff + PHDR_SIZE * n ≤ length b →
    flat_map (phdr_bytes (order_of h.e_ident)) (map (segments b h) (range_with_len 0 n)) ≡ take (PHDR_SIZE * n) (drop h.e_phoff b)
unfolding segments
segment_bytes b h n are within =
    entries_bytes phdr_laws (order_of h.e_ident) b h.e_phoff 0 n are (omega arith) ∙
    ap (λ (x : ℕ). take (PHDR_SIZE * n) (drop x b)) (add-zero h.e_phoff)

content_bytes : (b : List ℕ) (ss : List Shdr) (i : ℕ) (e : Extent) → slice_get (map content_extent ss) i ≡ Some e →
    get_or (map (λ s. bytes_in b (content_extent s)) ss) i [] ≡ take e.len (drop e.start b)
content_bytes b [] i e at = absurd (let none : None ≡ Some e = at in cc)
content_bytes b (s ∷ ss) zero e at = let same : content_extent s ≡ e = cc in ap (bytes_in b) same
content_bytes b (s ∷ ss) (suc i) e at = content_bytes b ss i e at

-- a part's bytes, by its owner
owned_at : (v : ImageValue) (b : List ℕ) → IsImage v b → (o : Owner) (gap : List ℕ) (start len : ℕ) → 0 < len →
    IsOwned (value_extents v.header v.sections v.segments) v.len start len (owner_index o) → gap ≡ if_gap o (take len (drop start b)) [] →
    owned_bytes v gap o ≡ take len (drop start b)
owned_at v b image Header gap start len some owned gaps =
    let stands = image.stands in
    let facts = clean_of v (counted_by_bytes v b image) in
    let whole = stands.len in
    let long = facts.header in
    let e = holds.same_start _ _ owned in
    let l = holds.same_len _ _ owned in
    header_bytes b v.header stands.bytes (omega arith) stands.records.header ∙ ap₂ (λ (m n : ℕ). take m (drop n b)) l e
owned_at v b image SectionTable gap start len some owned gaps =
    let stands = image.stands in
    let counted = counted_by_bytes v b image in
    let facts = clean_of v counted in
    let whole = stands.len in
    let e = holds.same_start _ _ owned in
    let l = holds.same_len _ _ owned in
    let positive : 0 < length v.sections = omega arith in
    let there = table_there v counted positive in
    let within = facts.section_table there in
    let count = counted.section_count in
    let same = (has_tables_by_bytes v b image).count in
    ap (flat_map (shdr_bytes (order_of v.header.e_ident)))
    (stands.records.section_headers ∙ ap (λ (n : ℕ). map (sections b v.header) (range_with_len 0 n)) (sym same))
    ∙ section_bytes b v.header (length v.sections) there stands.bytes (omega arith) ∙ ap₂ (λ (m n : ℕ). take m (drop n b)) l e
owned_at v b image ProgramTable gap start len some owned gaps =
    let stands = image.stands in
    let counted = counted_by_bytes v b image in
    let facts = clean_of v counted in
    let whole = stands.len in
    let e = holds.same_start _ _ owned in
    let l = holds.same_len _ _ owned in
    let count = counted.segment_count in
    let positive : 0 < program_header_count v.header (section_header_of v.sections 0) = omega arith in
    let within = facts.program_table positive in
    let same = (has_tables_by_bytes v b image).segment_count in
    ap (flat_map (phdr_bytes (order_of v.header.e_ident)))
    (stands.records.program_headers ∙ ap (λ (n : ℕ). map (segments b v.header) (range_with_len 0 n)) (sym same))
    ∙ segment_bytes b v.header (length v.segments) stands.bytes (omega arith) ∙ ap₂ (λ (m n : ℕ). take m (drop n b)) l e
owned_at v b image (Content i) gap start len some owned gaps =
    ap (λ (cs : List (List ℕ)). get_or cs i []) image.stands.contents ∙ content_bytes b v.sections i _ owned
owned_at v b image Gap gap start len some owned gaps = gaps

parts_at : (v : ImageValue) (b : List ℕ) → IsImage v b → (at : ℕ) (ps : List PlacedPart) →
    Accounts (value_extents v.header v.sections v.segments) v.len at (map piece_of ps) →
    AllByRecursion (λ p. p.gap ≡ gap_in b p.part) ps → AllByRecursion (λ p. part_bytes v p ≡ take p.part.len (drop p.part.start b)) ps
parts_at v b image at [] accounts gaps = tt
parts_at v b image at (p ∷ ps) accounts gaps = (
  owned_at v b image p.part.owner p.gap p.part.start p.part.len accounts.1 accounts.2 gaps.0,
  parts_at v b image (at + p.part.len) ps accounts.3 gaps.1,
)

pub only_joined : (v : ImageValue) (b : List ℕ) → IsImage v b → b ≡ joined v
unfolding joined
only_joined v b image =
    sym (flat_parts_are (part_bytes v) b
    (value_extents v.header v.sections v.segments) v.len 0 v.parts image.stands.accounts image.stands.len
    (parts_at v b image 0 v.parts image.stands.accounts image.stands.gaps))

-- ---- what is represented without fault is sound

length-part : (b : List ℕ) (e : Extent) → (0 < e.len → e.start + e.len ≤ length b) → length (bytes_in b e) ≡ e.len
length-part b e within = elim (cases_lt 0 e.len) [
  | inl some ↦ length-take-le e.len (drop e.start b) (let le = within some in let l = length-drop e.start b in omega arith)
  | inr none ↦ (let empty : e.len ≡ 0 = omega arith in ap (λ (n : ℕ). length (take n (drop e.start b))) empty ∙ sym empty)
]

lengths_by : (b : List ℕ) (ss : List Shdr) →
    ((k : ℕ) (s : Shdr) → slice_get ss k ≡ Some s → 0 < (content_extent s).len → s.sh_offset + (content_extent s).len ≤ length b) →
    map length (map (λ s. bytes_in b (content_extent s)) ss) ≡ map (λ s. (content_extent s).len) ss
lengths_by b [] within = refl
lengths_by b (s ∷ ss) within =
    ap₂ (λ (x : ℕ) (xs : List ℕ). x ∷ xs) (length-part b (content_extent s) (within 0 s refl))
    (lengths_by b ss (λ k t at. within (suc k) t at))

IsBytes-contents : (b : List ℕ) (ss : List Shdr) → IsBytes b → AllByRecursion IsBytes (map (λ s. bytes_in b (content_extent s)) ss)
IsBytes-contents b [] are = tt
IsBytes-contents b (s ∷ ss) are = (IsBytes-take _ _ (IsBytes-drop _ b are), IsBytes-contents b ss are)

gap_sound : (b gap : List ℕ) (o : Owner) (start len : ℕ) → IsBytes b → start + len ≤ length b →
    gap ≡ if_gap o (take len (drop start b)) [] →
    IsBytes gap × (length gap ≡ if_gap o len 0)
gap_sound b gap Header start len are within same = (subst IsBytes (sym same) IsBytes-nil, ap length same)
gap_sound b gap SectionTable start len are within same = (subst IsBytes (sym same) IsBytes-nil, ap length same)
gap_sound b gap ProgramTable start len are within same = (subst IsBytes (sym same) IsBytes-nil, ap length same)
gap_sound b gap (Content i) start len are within same = (subst IsBytes (sym same) IsBytes-nil, ap length same)
gap_sound b gap Gap start len are within same = (
  subst IsBytes (sym same) (IsBytes-take len (drop start b) (IsBytes-drop start b are)),
  ap length same ∙ length-take-le len (drop start b) (let l = length-drop start b in omega arith),
)

gaps_sound : (b : List ℕ) (es : List Extent) (total at : ℕ) (ps : List PlacedPart) → IsBytes b → total ≡ length b →
    Accounts es total at (map piece_of ps) →
    AllByRecursion (λ p. p.gap ≡ gap_in b p.part) ps → AllByRecursion (λ p. IsBytes p.gap × (length p.gap ≡ gap_len p.part)) ps
gaps_sound b es total at [] are whole accounts gaps = tt
gaps_sound b es total at (p ∷ ps) are whole accounts gaps =
    let start = accounts.0 in
    let le = accounts_le es total (at + p.part.len) (map piece_of ps) accounts.3 in (
      gap_sound b p.gap p.part.owner p.part.start p.part.len are (omega arith) gaps.0,
      gaps_sound b es total (at + p.part.len) ps are whole accounts.3 gaps.1,
    )

fit_sections : (b : List ℕ) (h : Ehdr) (n : ℕ) → (0 < n → h.e_shoff ≢ 0) → IsBytes b →
    AllByRecursion IsShdr (map (sections b h) (range_with_len 0 n))
fit_sections b h zero table are = tt
fit_sections b h (suc n) table are =
    subst (λ (f : ℕ → Shdr). AllByRecursion IsShdr (map f (range_with_len 0 (suc n)))) (sym (sections_read_at b h (table (omega arith))))
    (entries_fit shdr_laws (order_of h.e_ident) b h.e_shoff 0 (suc n) are)

fit_segments : (b : List ℕ) (h : Ehdr) (n : ℕ) → IsBytes b → AllByRecursion IsPhdr (map (segments b h) (range_with_len 0 n))
unfolding segments
fit_segments b h n are = entries_fit phdr_laws (order_of h.e_ident) b h.e_phoff 0 n are

fit_header : (b : List ℕ) → IsBytes b → IsEhdr (header b)
unfolding header
fit_header b are = ehdr_laws.valid (order_of (take 16 b)) b 0 are

pub image_is_sound : (v : ImageValue) (b : List ℕ) → IsImage v b → IsSoundImage v
image_is_sound v b image =
    let stands = image.stands in
    let counted = counted_by_bytes v b image in
    let whole = stands.len in
    record {
      header = subst IsEhdr (sym stands.records.header) (fit_header b stands.bytes);
      section_headers =
          subst (AllByRecursion IsShdr) (sym stands.records.section_headers)
          (fit_sections b v.header _ (table_some v.header (sections b v.header 0)) stands.bytes);
      program_headers = subst (AllByRecursion IsPhdr) (sym stands.records.program_headers) (fit_segments b v.header _ stands.bytes);
      section_count = counted.section_count;
      segment_count = counted.segment_count;
      lengths = ap (map length) stands.contents ∙
          lengths_by b v.sections
          (λ k s at some. subst (λ (n : ℕ). s.sh_offset + (content_extent s).len ≤ n) whole (content_within v counted k s at some));
      bytes = subst (AllByRecursion IsBytes) (sym stands.contents) (IsBytes-contents b v.sections stands.bytes);
      accounts = stands.accounts;
      gaps = gaps_sound b (value_extents v.header v.sections v.segments) v.len 0 v.parts stands.bytes whole stands.accounts stands.gaps;
      clean = counted.clean;
    }

-- ---- the laws

-- an image is represented by one list of bytes, and by no other
pub one_list : (v : ImageValue) (b c : List ℕ) → IsImage v b → Stands v c → b ≡ c
one_list v b c one two = only_joined v b one ∙ sym (only_joined v c (stands_is_image v c (image_is_sound v b one) two))

-- what holds of each list of bytes that represents an image holds of the one there is
pub of_its_bytes : (v : ImageValue) (Says : List ℕ → Type 0) → (b : List ℕ) × IsImage v b → ((b : List ℕ) → IsImage v b → Says b) →
    OfItsBytes v Says
of_its_bytes v Says (b, image) says = record {
  bytes = b;
  image = image;
  only = λ c stands. sym (one_list v b c image stands);
  says = says b image;
}

-- a sound value is represented by a list of bytes that breaks no rule
pub sound_stands : (v : ImageValue) → IsSoundImage v → (b : List ℕ) × IsImage v b
sound_stands v sound = (joined v, joined_is_image v sound)

-- The records of a file that breaks no rule make its image. Contents and gaps are cut from its bytes, and the parts are its account. The
-- proof goes through the definition field by field. Records and extents lie in the file, and extents share no byte, because no rule is
-- broken (`counted_by_reads`).

-- the value that these tables, contents and parts make
abbrev pub made : List ℕ → Ehdr → List Shdr → List Phdr → List (List ℕ) → List Part → ImageValue
made b h ss gs cs ps = image_of (outline_value (length b) h ss gs ps) cs b

made_reads : (b : List ℕ) (h : Ehdr) (ss : List Shdr) (gs : List Phdr) (cs : List (List ℕ)) (ps : List Part) → AreRecordsIn b h ss gs →
    cs ≡ map (λ s. bytes_in b (content_extent s)) ss → Reads (made b h ss gs cs ps) b
made_reads b h ss gs cs ps records contents = record {
  len = refl;
  records = records;
  contents = contents;
}

pub tables_disjoint : (b : List ℕ) (h : Ehdr) (ss : List Shdr) (gs : List Phdr) → AreRecordsIn b h ss gs → IsFault b None →
    AreDisjoint (value_extents h ss gs)
tables_disjoint b h ss gs records clean =
    let cs = map (λ s. bytes_in b (content_extent s)) ss in
    disjoint_of (made b h ss gs cs []) (counted_by_reads (made b h ss gs cs []) b (made_reads b h ss gs cs [] records refl) clean)

pub tables_within : (b : List ℕ) (h : Ehdr) (ss : List Shdr) (gs : List Phdr) → AreRecordsIn b h ss gs → IsFault b None →
    AreWithin (value_extents h ss gs) (length b)
tables_within b h ss gs records clean =
    let cs = map (λ s. bytes_in b (content_extent s)) ss in
    within_of (made b h ss gs cs []) (counted_by_reads (made b h ss gs cs []) b (made_reads b h ss gs cs [] records refl) clean)

-- a gap's bytes leave its piece as it is
pub pieces_placed : (zeroed : Bool) (b : List ℕ) (ps : List Part) → map piece_of (map (placed_part zeroed b) ps) ≡ map part_piece ps
pieces_placed zeroed b [] = refl
pieces_placed zeroed b (p ∷ ps) = ap (λ (qs : List _). part_piece p ∷ qs) (pieces_placed zeroed b ps)

gaps_of : (b : List ℕ) (ps : List Part) → AllByRecursion (λ (p : PlacedPart). p.gap ≡ gap_in b p.part) (map (placed_part false b) ps)
gaps_of b [] = tt
gaps_of b (p ∷ ps) = (refl, gaps_of b ps)

pub made_is_image : (b : List ℕ) (h : Ehdr) (ss : List Shdr) (gs : List Phdr) (cs : List (List ℕ)) (ps : List Part) → IsBytes b →
    AreRecordsIn b h ss gs →
    cs ≡ map (λ s. bytes_in b (content_extent s)) ss → Accounts (value_extents h ss gs) (length b) 0 (map part_piece ps) → IsFault b None →
    IsImage (made b h ss gs cs ps) b
made_is_image b h ss gs cs ps are records contents accounts clean = record {
  stands = record {
    bytes = are;
    len = refl;
    records = records;
    within = records_within (made b h ss gs cs ps) b
        (counted_by_reads (made b h ss gs cs ps) b (made_reads b h ss gs cs ps records contents) clean) refl;
    contents = contents;
    accounts = subst (Accounts (value_extents h ss gs) (length b) 0) (sym (pieces_placed false b ps)) accounts;
    gaps = gaps_of b ps;
  };
  clean = clean;
}
