-- If none of rules 1 to 32 is broken, both tables and all nonempty contents lie in the file; rule 33 makes the extents disjoint. The name
-- table's index is below the count, or 0 without a section table. These follow from the positive facts (`KeepsRules`); small facts on
-- reading the section table follow from its definition.
use Rattle.std.proofs.Common.{◌≡◌, ℕ, suc, ◌+◌, ◌-◌, ◌<◌, ◌≤◌, ◌⊎◌, min, Option, None, Some, List, length, get_or, inl, inr, sym, ◌∙◌, ap}
use Rattle.std.proofs.Common.{subst, arith, ◌≢◌, zero, ◌*◌, refl, ◌∷◌, ◌++◌, map, ap₂}
use Rattle.std.proofs.Math.Nat.{le-min, min-le_left, min-le_right}
use Rattle.std.specs.List.{slice_get, range_with_len}
use Rattle.std.proofs.lemmas.Bool.{cases_lt, cases_eq, ne_eqb}
use Rattle.std.proofs.lemmas.List.FromFn.{length-map-range_with_len, get_or-map-range_with_len}
use Rattle.std.proofs.lemmas.Option.{slice_get-get_or, slice_get_within}
use Rattle.elf_extent.proofs.Public.{IsLowest-same, IsLowest-lower}
use Rattle.elf_extent.specs.Extent.{Has, HasAt, Doubly, IsLowest, lower_of, AreDisjoint, AreWithin}
use Rattle.elf_extent.specs.declared.extent.Extent.{Extent}
use Rattle.elf_field.specs.Abi.{EHDR_SIZE, PHDR_SIZE, SHDR_SIZE, SHN_LORESERVE, SHN_XINDEX, SHT_NULL, SHT_STRTAB, SH_TYPE_AT}
use Rattle.elf_field.specs.Headers.{shdr_at}
use Rattle.elf_field.specs.declared.ehdr.Ehdr.{Ehdr}
use Rattle.elf_field.specs.declared.phdr.Phdr.{Phdr}
use Rattle.elf_field.specs.declared.shdr.Shdr.{Shdr}
use Rattle.elf_image_rules.proofs.ImageRules.{FirstIn-front, AreSame, AreSame-append, AreSame-refl, FirstIn-same}
use Rattle.elf_image_rules.proofs.KeepsRules.{records_kept, rules_kept}
use Rattle.elf_image_rules.specs.ValidatedRecords.{file_extents, file_of}
use Rattle.elf_image_rules.specs.KeepsRules.{HasSoundTables}
use Rattle.elf_image_rules.specs.Rows.{FirstIn, Ruled, When}
use Rattle.elf_image_rules.specs.Rules.{DoublyBelow, ExtentsAscend, LieBetween, LieOutside, SharedBelow, contents, extents}
use Rattle.elf_image_rules.specs.Rules.{KeepsRecordRules, image_rules, record_rules, MAX_LEN, header_rules, ident_rules, length_rules}
use Rattle.elf_image_rules.specs.Rules.{header_entry_rules, header_table_rules, section_name_rules, UnclosedAt, overlap_rules}
use Rattle.elf_image_rules.specs.Rules.{program_table_rules, IsMisalignedSection, IsNamePastEnd, HasWrongSectionAlignment, IsContentPastEnd}
use Rattle.elf_image_rules.specs.Rules.{SomeSectionHeader, section_header_rules, section_table_rules, IsIncongruentSegment}
use Rattle.elf_image_rules.specs.Rules.{HasFileSizeAboveMemorySize, IsLoad, HasWrongSegmentAlignment, IsSegmentPastEnd, SomeSegment}
use Rattle.elf_image_rules.specs.Rules.{load_out_of_order, segment_rules}
use Rattle.elf_image_rules.specs.Tables.{content_extent, file_counts, header, sections, name_table, names, no_section_header, order_of}
use Rattle.elf_image_rules.specs.Tables.{program_header_count, section_header_count, segments, shdr_offset, phdr_offset, counts_in}
use Rattle.elf_image_rules.specs.declared.file_extents.FileExtents.{FileExtents}
use Rattle.elf_image_rules.specs.declared.tables.Counts.{Counts}

-- The lowest byte that two extents hold, searched pair by pair: each step takes the lower of the old result and the new pair's. If the
-- extents from an index on ascend, pairs with a lower index are enough (`doubly_ascending`). If the first three also lie outside of the
-- others, pairs of these three are enough (`doubly_outside`).

-- an extent without a byte
abbrev nothing : Extent
nothing = record { start = 0; len = 0 }

pub length-extents : (h : Ehdr) (n m : ℕ) (s : ℕ → Shdr) → length (extents h n m s) ≡ 3 + n
unfolding extents
length-extents h n m s =
    let e = length-map-range_with_len (λ i. content_extent (s i)) 0 n in omega arith

-- of a file they are three more than its sections
pub length-file_extents : (f : FileExtents) → length (file_extents f) ≡ 3 + (file_counts (file_of f.records)).sections
unfolding file_extents
length-file_extents f =
    let b = file_of f.records in
    let c = file_counts b in
    length-extents (header b) c.sections c.segments (sections b (header b))

-- the header and the tables are among the extents that are read from a file
pub three_first : (f : FileExtents) → 3 ≤ length (file_extents f)
three_first f = let long = length-file_extents f in omega arith

-- from index 3 on they are the contents
pub content_extent_at : (h : Ehdr) (n m : ℕ) (s : ℕ → Shdr) (i : ℕ) → 3 ≤ i → i < 3 + n →
    slice_get (extents h n m s) i ≡ Some (content_extent (s (i - 3)))
unfolding extents
content_extent_at h n m s i from lt =
    let k = i - 3 in
    let within : k < n = omega arith in
    let long : length (contents n s) ≡ n = length-map-range_with_len (λ j. content_extent (s j)) 0 n in
    let at : slice_get (contents n s) k ≡ Some (get_or (contents n s) k nothing) =
    slice_get-get_or (contents n s) k nothing (omega arith) in
    let same : get_or (contents n s) k nothing ≡ content_extent (s k) =
    get_or-map-range_with_len (λ j. content_extent (s j)) 0 n k k nothing within (omega arith) in
    let place : suc (suc (suc k)) ≡ i = omega arith in
    subst (λ (j : ℕ). slice_get (extents h n m s) j ≡ Some (content_extent (s k))) place (at ∙ ap Some same)

-- a member at a place is the one that was read there
has_read : (es : List Extent) (i x : ℕ) (e : Extent) → slice_get es i ≡ Some e → HasAt es i x → Has e x
has_read es i x e read (a, is, has) =
    let same : Some a ≡ Some e = sym is ∙ read in
    let equal : a ≡ e = cc in
    subst (λ (t : Extent). Has t x) equal has

-- a search that goes on by one more member
pub shared_more : (es : List Extent) (i j : ℕ) (a e : Extent) (l s : Option ℕ) →
    slice_get es i ≡ Some a → slice_get es j ≡ Some e →
    IsLowest (SharedBelow es i j) l → IsLowest (λ x. Has a x × Has e x) s →
    IsLowest (SharedBelow es (i + 1) j) (lower_of l s)
shared_more es i j a e l s at_i at_j before here =
    IsLowest-same _ _ (lower_of l s) to back (IsLowest-lower _ _ l s before here) where
      to : (x : ℕ) → SharedBelow es i j x ⊎ (Has a x × Has e x) → SharedBelow es (i + 1) j x
      to x (inl (k, lt, one, other)) = (k, omega arith, one, other)
      to x (inr (one, other)) = (i, omega arith, (a, at_i, one), (e, at_j, other))

      back : (x : ℕ) → SharedBelow es (i + 1) j x → SharedBelow es i j x ⊎ (Has a x × Has e x)
      back x (k, lt, one, other) = elim (cases_lt k i) [
        | inl earlier ↦ inl (k, earlier, one, other)
        | inr later ↦ (
            let same : k ≡ i = omega arith in
            inr (has_read es i x a at_i (subst (λ (n : ℕ). HasAt es n x) same one), has_read es j x e at_j other))
      ]

pub doubly_more : (es : List Extent) (limit j : ℕ) (l s : Option ℕ) →
    IsLowest (DoublyBelow es limit j) l → IsLowest (SharedBelow es (min limit j) j) s →
    IsLowest (DoublyBelow es limit (j + 1)) (lower_of l s)
doubly_more es limit j l s before here =
    IsLowest-same _ _ (lower_of l s) to back (IsLowest-lower _ _ l s before here) where
      to : (x : ℕ) → DoublyBelow es limit j x ⊎ SharedBelow es (min limit j) j x → DoublyBelow es limit (j + 1) x
      to x (inl (i, k, lt, low, high, one, other)) = (i, k, lt, low, omega arith, one, other)
      to x (inr (i, lt, one, other)) = (i, j, omega arith, omega arith, omega arith, one, other)

      back : (x : ℕ) → DoublyBelow es limit (j + 1) x → DoublyBelow es limit j x ⊎ SharedBelow es (min limit j) j x
      back x (i, k, lt, low, high, one, other) = elim (cases_lt k j) [
        | inl earlier ↦ inl (i, k, lt, low, earlier, one, other)
        | inr later ↦ (
            let same : k ≡ j = omega arith in
            inr (i, omega arith, one, subst (λ (n : ℕ). HasAt es n x) same other))
      ]

-- where no two members from index `limit` on share a byte, those below it settle the list
doubly_below : (es : List Extent) (limit : ℕ) (found : Option ℕ) →
    ((i j x : ℕ) → limit ≤ i → i < j → j < length es → HasAt es i x → HasAt es j x → ⊥) →
    IsLowest (DoublyBelow es limit (length es)) found → IsLowest (Doubly es) found
doubly_below es limit found apart lowest = IsLowest-same _ _ found to back lowest where
  to : (x : ℕ) → DoublyBelow es limit (length es) x → Doubly es x
  to x (i, j, lt, low, high, one, other) = (i, j, lt, one, other)

  back : (x : ℕ) → Doubly es x → DoublyBelow es limit (length es) x
  back x (i, j, lt, one, other) =
      let within : j < length es = slice_get_within es j other.0 other.1 in
      elim (cases_lt i limit) [
        | inl low ↦ (i, j, lt, low, within, one, other)
        | inr high ↦ absurd (apart i j x high lt within one other)
      ]

-- a search over all pairs of the first members that goes on by one more member
pub doubly_next : (es : List Extent) (end j : ℕ) (l s : Option ℕ) → j ≤ end →
    IsLowest (DoublyBelow es end j) l → IsLowest (SharedBelow es j j) s → IsLowest (DoublyBelow es end (j + 1)) (lower_of l s)
doubly_next es end j l s le before here =
    let above = min-le_right end j in
    let below : j ≤ min end j = le-min le (omega arith) in
    let same : j ≡ min end j = omega arith in
    doubly_more es end j l s before (subst (λ (n : ℕ). IsLowest (SharedBelow es n j) s) same here)

-- and of the first three by another one
pub doubly_on : (es : List Extent) (j : ℕ) (l s : Option ℕ) → 3 ≤ j →
    IsLowest (DoublyBelow es 3 j) l → IsLowest (SharedBelow es 3 j) s → IsLowest (DoublyBelow es 3 (j + 1)) (lower_of l s)
doubly_on es j l s le before here =
    let above = min-le_left 3 j in
    let below : 3 ≤ min 3 j = le-min (omega arith) le in
    let same : 3 ≡ min 3 j = omega arith in
    doubly_more es 3 j l s before (subst (λ (n : ℕ). IsLowest (SharedBelow es n j) s) same here)

pub doubly_all : (es : List Extent) (found : Option ℕ) →
    IsLowest (DoublyBelow es (length es) (length es)) found → IsLowest (Doubly es) found
doubly_all es found lowest =
    doubly_below es (length es) found (λ i j x high lt within one other. absurd (omega arith)) lowest

-- extents that ascend share no byte
pub doubly_ascending : (es : List Extent) (limit : ℕ) (found : Option ℕ) → ExtentsAscend es limit (length es) →
    IsLowest (DoublyBelow es limit (length es)) found → IsLowest (Doubly es) found
doubly_ascending es limit found ascend lowest = doubly_below es limit found apart lowest where
  apart : (i j x : ℕ) → limit ≤ i → i < j → j < length es → HasAt es i x → HasAt es j x → ⊥
  apart i j x high lt within (a, at_i, one) (e, at_j, other) =
      let some : 0 < a.len = omega arith in
      let also : 0 < e.len = omega arith in
      let past = ascend i j a e high lt within at_i at_j some also in
      omega arith

-- The walk over the contents: those below index k ascend, and none of them starts before `first` or ends after `last`. `last` is one of
-- them that is not empty, or holds no offset at all.
pub record HasAscended (es : List Extent) (from k : ℕ) (first last : Extent) : Type 0 where
  pub ascending : ExtentsAscend es from k
  pub least : (i : ℕ) (a : Extent) → from ≤ i → i < k → slice_get es i ≡ Some a → 0 < a.len → first.start ≤ a.start
  pub most : (i : ℕ) (a : Extent) → from ≤ i → i < k → slice_get es i ≡ Some a → 0 < a.len →
      a.start + a.len ≤ last.start + last.len
  pub held : 0 < last.start + last.len → (i : ℕ) × (from ≤ i) × (i < k) × (slice_get es i ≡ Some last) × (0 < last.len)

-- where all others ascend, and the first three lie outside of them, the search over these three is enough
pub doubly_outside : (es : List Extent) (first last : Extent) (found : Option ℕ) → 3 ≤ length es →
    ExtentsAscend es 3 (length es) → LieBetween es 3 first last → LieOutside es 3 first last →
    IsLowest (DoublyBelow es 3 3) found → IsLowest (Doubly es) found
doubly_outside es first last found three ascend inside outside lowest =
    doubly_ascending es 3 found ascend (IsLowest-same _ _ found to back lowest) where
      to : (x : ℕ) → DoublyBelow es 3 3 x → DoublyBelow es 3 (length es) x
      to x (i, j, lt, low, high, one, other) = (i, j, lt, low, omega arith, one, other)

      apart : (i j x : ℕ) → i < 3 → 3 ≤ j → HasAt es i x → HasAt es j x → ⊥
      apart i j x low high (a, at, has) other =
          let (from, to_end) = inside j x high other in
          elim (outside i a low at) [
            | inl below ↦ omega arith
            | inr above ↦ omega arith
          ]

      back : (x : ℕ) → DoublyBelow es 3 (length es) x → DoublyBelow es 3 3 x
      back x (i, j, lt, low, high, one, other) = elim (cases_lt j 3) [
        | inl early ↦ (i, j, lt, low, early, one, other)
        | inr late ↦ absurd (apart i j x low late one other)
      ]

-- the search over the first three members, one by one
pub shared_with_three : (es : List Extent) (j : ℕ) (a b c e : Extent) (r s t : Option ℕ) →
    slice_get es 0 ≡ Some a → slice_get es 1 ≡ Some b → slice_get es 2 ≡ Some c → slice_get es j ≡ Some e →
    IsLowest (λ x. Has a x × Has e x) r → IsLowest (λ x. Has b x × Has e x) s → IsLowest (λ x. Has c x × Has e x) t →
    IsLowest (SharedBelow es 3 j) (lower_of (lower_of r s) t)
shared_with_three es j a b c e r s t at_0 at_1 at_2 at_j one two three =
    let none : IsLowest (SharedBelow es 0 j) None = λ x (i, lt, here, there). absurd (omega arith) in
    shared_more es 2 j c e (lower_of r s) t at_2 at_j
    (shared_more es 1 j b e r s at_1 at_j (shared_more es 0 j a e None r at_0 at_j none one) two) three

-- where no rule is broken, none of rules 1 to 32 is
pub clean_records : (len : ℕ) (h : Ehdr) (s : ℕ → Shdr) (g : ℕ → Phdr) (names : List ℕ) →
    FirstIn (image_rules len h s g names) None → FirstIn (record_rules len h s g names) None
unfolding image_rules
clean_records len h s g names clean = FirstIn-front (record_rules len h s g names) _ clean

-- a section table has entries, where its count is one that is in the right field
count_some : (h : Ehdr) (first : Shdr) → h.e_shoff ≢ 0 → (h.e_shnum ≡ 0 → SHN_LORESERVE ≤ first.sh_size) → 0 < section_header_count h first
count_some h first there large =
    rw (ne_eqb h.e_shoff 0 there) (elim (cases_eq h.e_shnum 0) [
      | inl none ↦ rw none (let l = large none in omega arith)
      | inr some ↦ rw (ne_eqb h.e_shnum 0 some) (omega arith)
    ])

-- the name table's index is below the count, where both indexes that name it are
names_below : (h : Ehdr) (first : Shdr) (n : ℕ) → (h.e_shstrndx ≢ SHN_XINDEX → h.e_shstrndx < n) →
    (h.e_shstrndx ≡ SHN_XINDEX → first.sh_link < n) → name_table h first < n
names_below h first n plain extended =
    elim (cases_eq h.e_shstrndx SHN_XINDEX) [
      | inl escape ↦ rw escape (extended escape)
      | inr other ↦ rw (ne_eqb h.e_shstrndx SHN_XINDEX other) (plain other)
    ]

pub sound_tables : (len : ℕ) (h : Ehdr) (s : ℕ → Shdr) (g : ℕ → Phdr) (names : List ℕ) →
    FirstIn (record_rules len h s g names) None → HasSoundTables len h s
sound_tables len h s g names clean =
    let kept = records_kept len h s g names clean in
    record {
      header = kept.file_length.not_too_short;
      short = kept.file_length.not_too_long;
      no_names = λ none. (kept.header.no_sections none).1;
      few_segments = λ none escape. kept.program_table.table_and_count.2 escape none;
      null = λ there. (kept.section_table.null there).sh_type;
      some = λ there. count_some h (s 0) there (kept.section_table.extended_section_count there).1;
      section_table = kept.section_table.section_table;
      name_table = λ there. names_below h (s 0) _ (λ plain. (kept.section_table.name_table_index there plain).1)
          (λ escape. ((kept.section_table.extended_name_table_index there).0 escape).1);
      program_table = kept.program_table.program_table;
      content = kept.sections.content;
    }

-- no byte belongs to two of the extents
pub extents_disjoint : (len : ℕ) (h : Ehdr) (s : ℕ → Shdr) (g : ℕ → Phdr) (names : List ℕ) →
    FirstIn (image_rules len h s g names) None →
    AreDisjoint (extents h (section_header_count h (s 0)) (program_header_count h (s 0)) s)
extents_disjoint len h s g names clean = (rules_kept len h s g names clean).disjoint

-- a content that is not empty is that of a section of a type that has one
pub content_some : (entry : Shdr) → 0 < (content_extent entry).len →
    (entry.sh_type ≢ 0) × (entry.sh_type ≢ 8) × ((content_extent entry).len ≡ entry.sh_size)
content_some entry some =
    elim (cases_eq entry.sh_type 0) [
      | inl null ↦ absurd (let h = rw null at some in omega arith)
      | inr other ↦ elim (cases_eq entry.sh_type 8) [
        | inl nobits ↦ absurd (let h = rw nobits at some in omega arith)
        | inr bits ↦ (other, bits, rw (ne_eqb entry.sh_type 0 other, ne_eqb entry.sh_type 8 bits) refl)
      ]
    ]

-- where there is a section header there is a section table
pub table_some : (h : Ehdr) (first : Shdr) → 0 < section_header_count h first → h.e_shoff ≢ 0
table_some h first some none =
    let zero_count : section_header_count h first ≡ 0 = rw none refl in
    omega arith

-- each content that is not empty lies in the file
pub content_inside : (len : ℕ) (h : Ehdr) (s : ℕ → Shdr) → HasSoundTables len h s →
    (i : ℕ) → i < section_header_count h (s 0) → 0 < (content_extent (s i)).len →
    (s i).sh_offset + (content_extent (s i)).len ≤ len
content_inside len h s sound zero lt some =
    absurd ((content_some (s 0) some).0 (sound.null (table_some h (s 0) (omega arith))))
content_inside len h s sound (suc i) lt some =
    let (typed, bits, size) = content_some (s (suc i)) some in
    let inside = sound.content (suc i) (omega arith) lt typed bits (omega arith) in
    omega arith

-- what lies in the file does so by any equal name
inside_of : (len : ℕ) (x e : Extent) → Some x ≡ Some e → (0 < x.len → x.start + x.len ≤ len) →
    0 < e.len → e.start + e.len ≤ len
inside_of len x e read inside =
    let same : x ≡ e = cc in
    subst (λ (t : Extent). 0 < t.len → t.start + t.len ≤ len) same inside

-- each extent that is not empty lies in the file
pub extents_within : (len : ℕ) (h : Ehdr) (s : ℕ → Shdr) → HasSoundTables len h s →
    AreWithin (extents h (section_header_count h (s 0)) (program_header_count h (s 0)) s) len
unfolding extents
extents_within len h s sound zero e read =
    let long = sound.header in
    inside_of len (record { start = 0; len = EHDR_SIZE }) e read (λ some. omega arith)
extents_within len h s sound (suc zero) e read =
    let n = section_header_count h (s 0) in
    inside_of len (record { start = h.e_shoff; len = SHDR_SIZE * n }) e read
    (λ some. sound.section_table (table_some h (s 0) (omega arith)))
extents_within len h s sound (suc (suc zero)) e read =
    let m = program_header_count h (s 0) in
    inside_of len (record { start = h.e_phoff; len = PHDR_SIZE * m }) e read
    (λ some. sound.program_table (omega arith))
extents_within len h s sound (suc (suc (suc k))) e read =
    let n = section_header_count h (s 0) in
    let m = program_header_count h (s 0) in
    let long = length-extents h n m s in
    let below = slice_get_within (extents h n m s) (suc (suc (suc k))) e read in
    let lt : k < n = omega arith in
    let place : suc (suc (suc k)) - 3 ≡ k = omega arith in
    let at = content_extent_at h n m s (suc (suc (suc k))) (omega arith) (omega arith) in
    inside_of len (content_extent (s k)) e
    (ap (λ (j : ℕ). Some (content_extent (s j))) (sym place) ∙ sym at ∙ read)
    (λ some. content_inside len h s sound k lt some)

-- the section name string table is one of the sections, or there is none
pub name_table_below : (len : ℕ) (h : Ehdr) (s : ℕ → Shdr) → HasSoundTables len h s →
    (name_table h (s 0) ≡ 0) ⊎ (name_table h (s 0) < section_header_count h (s 0))
name_table_below len h s sound = elim (cases_eq h.e_shoff 0) [
  | inl none ↦ (let unnamed = sound.no_names none in inl (rw unnamed refl))
  | inr there ↦ inr (sound.name_table there)
]

-- ---- of a file by its bytes

pub sound_file : (b : List ℕ) (h : Ehdr) → h ≡ header b → KeepsRecordRules b → HasSoundTables (length b) h (sections b h)
sound_file b h same kept = subst (λ (k : Ehdr). HasSoundTables (length b) k (sections b k)) (sym same)
    (sound_tables (length b) (header b) (sections b (header b)) (segments b (header b)) (names b (header b)) kept)

-- all section headers lie in the file
pub sections_there : (b : List ℕ) (h : Ehdr) → HasSoundTables (length b) h (sections b h) →
    shdr_offset h (section_header_count h (sections b h 0)) ≤ length b
sections_there b h sound = elim (cases_eq h.e_shoff 0) [
  | inl none ↦
      (let no_sections : section_header_count h (sections b h 0) ≡ 0 = rw none refl in
      let long = sound.header in
      omega arith)
  | inr there ↦ sound.section_table there
]

-- ---- what is read of the section table, or without one

pub sections_read_at : (b : List ℕ) (h : Ehdr) → h.e_shoff ≢ 0 →
    sections b h ≡ (λ (i : ℕ). shdr_at (order_of h.e_ident) b (shdr_offset h i))
unfolding sections
sections_read_at b h there =
    let each : (i : ℕ) → sections b h i ≡ shdr_at (order_of h.e_ident) b (shdr_offset h i) = λ i. rw (ne_eqb h.e_shoff 0 there) refl in
    λ k i. each i k

pub sections_none : (b : List ℕ) (h : Ehdr) → h.e_shoff ≡ 0 → sections b h ≡ (λ (i : ℕ). no_section_header)
unfolding sections
sections_none b h none = rw none refl

-- A file that keeps rules 1 to 32, with its header and its counts by any equal name, as code reads them.

-- all its section headers and program headers lie in it
pub kept_sections : (b : List ℕ) (h : Ehdr) (c : Counts) → KeepsRecordRules b → h ≡ header b → c ≡ file_counts b →
    shdr_offset h c.sections ≤ length b
kept_sections b h c kept own_header own_counts =
    let there = sections_there b (header b) (sound_file b (header b) refl kept) in
    subst (λ (k : Ehdr). shdr_offset k c.sections ≤ length b) (sym own_header)
    (subst (λ (d : Counts). shdr_offset (header b) d.sections ≤ length b) (sym own_counts) there)

pub kept_segments : (b : List ℕ) (h : Ehdr) (c : Counts) → KeepsRecordRules b → h ≡ header b → c ≡ file_counts b →
    0 < c.segments → phdr_offset h c.segments ≤ length b
kept_segments b h c kept own_header own_counts =
    let there = (sound_file b (header b) refl kept).program_table in
    subst (λ (k : Ehdr). 0 < c.segments → phdr_offset k c.segments ≤ length b) (sym own_header)
    (subst (λ (d : Counts). 0 < d.segments → phdr_offset (header b) d.segments ≤ length b) (sym own_counts) there)

pub kept_short : (b : List ℕ) → KeepsRecordRules b → length b ≤ MAX_LEN
kept_short b kept = (sound_file b (header b) refl kept).short

-- If section header 0, the entries below the counts and the name table's header agree, the same rules are broken at the same offsets
-- (`same_rules`). Length, header and names are the same on both sides; the proof goes row by row. If no rule is broken, the name table's
-- header is such an entry, so the others suffice (`same_clean`).

-- the second entries are the first ones, as far as the rules look
pub record Agree (h : Ehdr) (s t : ℕ → Shdr) (g k : ℕ → Phdr) : Type 0 where
  pub first : s 0 ≡ t 0
  pub sections : (i : ℕ) → i < section_header_count h (s 0) → s i ≡ t i
  pub segments : (j : ℕ) → j < program_header_count h (s 0) → g j ≡ k j

-- ---- rows

some_section : (h : Ehdr) (s t : ℕ → Shdr) (end : ℕ) (P : Shdr → Type 0) (field : ℕ) → ((i : ℕ) → i < end → s i ≡ t i) →
    (x : ℕ) → SomeSectionHeader h end t P field x → SomeSectionHeader h end s P field x
some_section h s t end P field agree x (i, below, (above, typed, broken), at) =
    (i, below, subst (λ (q : Shdr). (1 ≤ i) × (q.sh_type ≢ SHT_NULL) × P q) (sym (agree i below)) (above, typed, broken), at)

some_segment : (h : Ehdr) (g k : ℕ → Phdr) (end : ℕ) (P : Phdr → Type 0) (field : ℕ) → ((j : ℕ) → j < end → g j ≡ k j) →
    (x : ℕ) → SomeSegment h end k P field x → SomeSegment h end g P field x
some_segment h g k end P field agree x (j, below, broken, at) = (j, below, subst P (sym (agree j below)) broken, at)

loads : (h : Ehdr) (g k : ℕ → Phdr) (m : ℕ) → ((j : ℕ) → j < m → g j ≡ k j) → (x : ℕ) → load_out_of_order h m k x →
    load_out_of_order h m g x
loads h g k m agree x (i, j, below, load, before, falls, at) =
    let under = before.below in
    let gi : g i ≡ k i = agree i (omega arith) in
    let gj : g j ≡ k j = agree j below in (
      i,
      j,
      below,
      subst IsLoad (sym gj) load,
      record {
        below = under;
        load = subst IsLoad (sym gi) before.load;
        nearest = λ n above under' loaded. before.nearest n above under' (subst IsLoad (agree n (omega arith)) loaded);
      },
      subst (λ (q : Phdr). q.p_vaddr < (g i).p_vaddr) (sym gj) (subst (λ (q : Phdr). (k j).p_vaddr < q.p_vaddr) (sym gi) falls),
      at,
    )

map_agree : {B : Type 0} (f g : ℕ → B) (a n : ℕ) → ((i : ℕ) → i < a + n → f i ≡ g i) →
    map f (range_with_len a n) ≡ map g (range_with_len a n)
map_agree f g a zero agree = refl
map_agree f g a (suc n) agree =
    ap₂ (λ (x : _) (xs : List _). x ∷ xs) (agree a (omega arith)) (map_agree f g (a + 1) n (λ i lt. agree i (omega arith)))

same_extents : (h : Ehdr) (n m : ℕ) (s t : ℕ → Shdr) → ((i : ℕ) → i < n → s i ≡ t i) → extents h n m s ≡ extents h n m t
unfolding extents
same_extents h n m s t agree =
    let contents : map (λ i. content_extent (s i)) (range_with_len 0 n) ≡ map (λ i. content_extent (t i)) (range_with_len 0 n) =
    map_agree (λ i. content_extent (s i)) (λ i. content_extent (t i)) 0 n (λ i lt. ap content_extent (agree i (omega arith))) in
    ap (λ (cs : List Extent). record { start = 0; len = EHDR_SIZE } ∷ record { start = h.e_shoff; len = SHDR_SIZE * n } ∷ record
    { start = h.e_phoff; len = PHDR_SIZE * m } ∷ cs) contents

-- ---- the rules, run by run

same_section_rules : (len : ℕ) (h : Ehdr) (n : ℕ) (s t : ℕ → Shdr) → ((i : ℕ) → i < n → s i ≡ t i) →
    AreSame (section_header_rules len h n s) (section_header_rules len h n t)
unfolding section_header_rules
same_section_rules len h n s t agree =
    let back : (i : ℕ) → i < n → t i ≡ s i = λ i lt. sym (agree i lt) in (
      refl,
      some_section h t s n HasWrongSectionAlignment _ back,
      some_section h s t n HasWrongSectionAlignment _ agree,
      (
        refl,
        some_section h t s n IsMisalignedSection _ back,
        some_section h s t n IsMisalignedSection _ agree,
        (refl, some_section h t s n (IsContentPastEnd len) _ back, some_section h s t n (IsContentPastEnd len) _ agree, tt),
      ),
    )

same_segment_rules : (len : ℕ) (h : Ehdr) (m : ℕ) (g k : ℕ → Phdr) → ((j : ℕ) → j < m → g j ≡ k j) →
    AreSame (segment_rules len h m g) (segment_rules len h m k)
unfolding segment_rules
same_segment_rules len h m g k agree =
    let back : (j : ℕ) → j < m → k j ≡ g j = λ j lt. sym (agree j lt) in (
      refl,
      some_segment h k g m (IsSegmentPastEnd len) _ back,
      some_segment h g k m (IsSegmentPastEnd len) _ agree,
      (
        refl,
        some_segment h k g m HasFileSizeAboveMemorySize _ back,
        some_segment h g k m HasFileSizeAboveMemorySize _ agree,
        (
          refl,
          some_segment h k g m HasWrongSegmentAlignment _ back,
          some_segment h g k m HasWrongSegmentAlignment _ agree,
          (
            refl,
            some_segment h k g m IsIncongruentSegment _ back,
            some_segment h g k m IsIncongruentSegment _ agree,
            (refl, loads h k g m back, loads h g k m agree, tt),
          ),
        ),
      ),
    )

same_name_rules : (h : Ehdr) (n k : ℕ) (s t : ℕ → Shdr) (names : List ℕ) → ((i : ℕ) → i < n → s i ≡ t i) → s k ≡ t k →
    AreSame (section_name_rules h n k s names) (section_name_rules h n k t names)
unfolding section_name_rules
same_name_rules h n k s t names agree table =
    let back : (i : ℕ) → i < n → t i ≡ s i = λ i lt. sym (agree i lt) in
    let P : Shdr → ℕ → Type 0 = λ q x. When ((k ≢ 0) × (q.sh_type ≢ SHT_STRTAB)) (shdr_offset h k + SH_TYPE_AT) x in
    let Q : Shdr → ℕ → Type 0 = λ q x. UnclosedAt names q.sh_offset x in (
      refl,
      (λ x. subst (λ (q : Shdr). P q x) table),
      (λ x. subst (λ (q : Shdr). P q x) (sym table)),
      (
        refl,
        (λ x. subst (λ (q : Shdr). Q q x) table),
        (λ x. subst (λ (q : Shdr). Q q x) (sym table)),
        (refl, some_section h t s n (IsNamePastEnd (length names)) _ back, some_section h s t n (IsNamePastEnd (length names)) _ agree, tt),
      ),
    )

-- rules 22 to 32 of entries that are the same below the counts and at the name table, as read of bytes and of tables in memory
pub same_entries : (len : ℕ) (h : Ehdr) (c : Counts) (s t : ℕ → Shdr) (g k : ℕ → Phdr) (names : List ℕ) →
    ((i : ℕ) → i < c.sections → s i ≡ t i) → ((j : ℕ) → j < c.segments → g j ≡ k j) → s c.name_table ≡ t c.name_table →
    AreSame (header_entry_rules len h c s g names) (header_entry_rules len h c t k names)
unfolding header_entry_rules
same_entries len h c s t g k names sections segments table =
    AreSame-append _ _ _ _ (same_section_rules len h c.sections s t sections)
    (AreSame-append _ _ _ _ (same_segment_rules len h c.segments g k segments)
    (same_name_rules h c.sections c.name_table s t names sections table))

same_overlap : (h : Ehdr) (n m : ℕ) (s t : ℕ → Shdr) → ((i : ℕ) → i < n → s i ≡ t i) →
    AreSame (overlap_rules h n m s) (overlap_rules h n m t)
same_overlap h n m s t agree =
    let same = same_extents h n m s t agree in
    (refl, (λ x. subst (λ (es : List Extent). Doubly es x) same), (λ x. subst (λ (es : List Extent). Doubly es x) (sym same)), tt)

-- all rules, of a section header 0 by any equal name
rules_from : ℕ → Ehdr → (ℕ → Shdr) → (ℕ → Phdr) → List ℕ → Shdr → List {1} (Ruled ℕ)
rules_from len h t k names first =
    (length_rules len ++ (ident_rules h.e_ident ++ (header_rules len h ++
    (section_table_rules len h first ++ (program_table_rules len h first ++ header_entry_rules len h (counts_in h first) t k names)))))
    ++ overlap_rules h (section_header_count h first) (program_header_count h first) t

same_from : (len : ℕ) (h : Ehdr) (s t : ℕ → Shdr) (g k : ℕ → Phdr) (names : List ℕ) → Agree h s t g k →
    s (name_table h (s 0)) ≡ t (name_table h (s 0)) → AreSame (image_rules len h s g names) (rules_from len h t k names (s 0))
unfolding image_rules record_rules header_table_rules rules_from
same_from len h s t g k names agree table =
    AreSame-append _ _ _ _
    (AreSame-append _ _ _ _ (AreSame-refl (length_rules len))
    (AreSame-append _ _ _ _ (AreSame-refl (ident_rules h.e_ident))
    (AreSame-append _ _ _ _ (AreSame-refl (header_rules len h))
    (AreSame-append _ _ _ _ (AreSame-refl (section_table_rules len h (s 0)))
    (AreSame-append _ _ _ _ (AreSame-refl (program_table_rules len h (s 0)))
    (same_entries len h (counts_in h (s 0)) s t g k names agree.sections agree.segments table))))))
    (same_overlap h _ _ s t agree.sections)

-- all rules, where the name table's header is the same too
pub same_rules : (len : ℕ) (h : Ehdr) (s t : ℕ → Shdr) (g k : ℕ → Phdr) (names : List ℕ) → Agree h s t g k →
    s (name_table h (s 0)) ≡ t (name_table h (s 0)) → AreSame (image_rules len h s g names) (image_rules len h t k names)
unfolding image_rules record_rules header_table_rules rules_from
same_rules len h s t g k names agree table =
    subst (λ (first : Shdr). AreSame (image_rules len h s g names) (rules_from len h t k names first)) agree.first
    (same_from len h s t g k names agree table)

-- and so where one breaks no rule, the other doesn't
pub same_clean : (len : ℕ) (h : Ehdr) (s t : ℕ → Shdr) (g k : ℕ → Phdr) (names : List ℕ) → Agree h s t g k →
    FirstIn (image_rules len h s g names) None → FirstIn (image_rules len h t k names) None
same_clean len h s t g k names agree clean =
    let facts = sound_tables len h s g names (clean_records len h s g names clean) in
    FirstIn-same (image_rules len h s g names) _ None (same_rules len h s t g k names agree (at_table facts)) clean
  where
    at_table : HasSoundTables len h s → s (name_table h (s 0)) ≡ t (name_table h (s 0))
    at_table facts = elim (name_table_below len h s facts) [
      | inl none ↦ rw none agree.first
      | inr below ↦ agree.sections _ below
    ]
