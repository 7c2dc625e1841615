-- A relocatable file that is written breaks no rule, is read as its header, section headers and contents, and ends with its section header
-- table. Its parts are the header, the contents and that table, so `FileParts` applies. Counts and indexes below SHN_LORESERVE are in the
-- header, and others in section header 0.
use Rattle.std.proofs.Common.{◌≡◌, ◌≢◌, ◌<◌, ◌≤◌, ◌+◌, ◌*◌, ◌^◌, ◌⊎◌, ℕ, zero, suc, None, Some, List, [], ◌∷◌, ◌++◌, length, map, get_or}
use Rattle.std.proofs.Common.{refl, sym, ap, subst, ◌∙◌, inl, inr, arith, length-append}
use Rattle.std.specs.Prelude.{slice_get}
use Rattle.std.specs.List.{AllByRecursion}
use Rattle.std.proofs.lemmas.Bool.{cases_eq, cases_lt, lt-ltb, le-ltb, ne_eqb}
use Rattle.elf_field.specs.Abi.{EHDR_SIZE, ELFDATA2LSB, ELFDATA2MSB, MAGIC, SHDR_SIZE, SHN_LORESERVE, SHN_XINDEX}
use Rattle.elf_field.specs.declared.number.Order.TheVariants.{Little, Big}
use Rattle.elf_field.specs.declared.number.Order.{Order}
use Rattle.elf_field.specs.declared.ehdr.Ehdr.{Ehdr}
use Rattle.elf_field.specs.declared.shdr.Shdr.{Shdr}
use Rattle.elf_field.specs.Bytes.{IsBytes}
use Rattle.elf_field.specs.laws.Bytes.{IsBytes-cons, IsBytes-nil}
use Rattle.elf_field.specs.Headers.{ehdr_bytes, IsShdr}
use Rattle.elf_field.specs.laws.Headers.{shdr_laws, ehdr_laws}
use Rattle.elf_field.proofs.RecordTableLaws.{IsBytes-table, length-table}
use Rattle.elf_extent.specs.Place.{Fits}
use Rattle.elf_extent.proofs.Public.{above_from}
use Rattle.elf_image_rules.specs.Rules.{IsFault}
use Rattle.elf_image_rules.specs.KeepsRules.{KeepsEachRecordRule, KeepsHeaderRules, KeepsIdentRules, KeepsNameRules, KeepsProgramTableRules}
use Rattle.elf_image_rules.specs.KeepsRules.{KeepsSectionRules, KeepsSectionTableRules, KeepsSegmentRules}
use Rattle.elf_image_rules.specs.Tables.{content_extent, name_table, no_section_header, order_of, program_header_count, program_header_of}
use Rattle.elf_image_rules.specs.Tables.{section_header_count, section_header_of}
use Rattle.elf_image_outline.specs.declared.outline.Owner.{Owner}
use Rattle.elf_image_outline.specs.declared.outline.Owner.TheVariants.{Header, ProgramTable, SectionTable, Content, Gap}
use Rattle.elf_image_outline.specs.Image.{ImageValue, Stands, value_names}
use Rattle.elf_image_type.specs.WrittenFile.{encoding, identification, AreFileParts, HasContents, IsPartOf, IsWritable, WrittenPart}
use Rattle.elf_image_type.specs.WrittenFile.{owner_bytes, owner_start, spread, unaligned, written, IsRelocatableFile, all_headers}
use Rattle.elf_image_type.specs.WrittenFile.{after_header, content_parts, short_count, first_header, long_number, short_index, offsets}
use Rattle.elf_image_type.specs.WrittenFile.{relocatable_bytes, relocatable_file, relocatable_parts, section_table}
use Rattle.elf_image_type.proofs.FileParts.{written_accepted, written_is_bytes, written_read, length-spread, length-unaligned, parts_ascend}

-- ---- the identification

pub order_identified : (order : Order) (osabi abi : ℕ) → order_of (identification order osabi abi) ≡ order
unfolding order_of
order_identified Little osabi abi = refl
order_identified Big osabi abi = refl

known_encoding : (order : Order) → (encoding order ≡ ELFDATA2LSB) ⊎ (encoding order ≡ ELFDATA2MSB)
known_encoding Little = inl refl
known_encoding Big = inr refl

module _ (order : Order) (osabi abi : ℕ) where
  has_magic : (i : ℕ) → i < length MAGIC → get_or (identification order osabi abi) i 0 ≡ get_or MAGIC i 0
  has_magic zero lt = refl
  has_magic (suc zero) lt = refl
  has_magic (suc (suc zero)) lt = refl
  has_magic (suc (suc (suc zero))) lt = refl
  has_magic (suc (suc (suc (suc i)))) lt = absurd (omega arith)

  pub identification_kept : KeepsIdentRules (identification order osabi abi)
  identification_kept = record {
    magic = has_magic;
    class = refl;
    encoding = known_encoding order;
    ident_version = refl;
  }

pub IsBytes-all : (bytes : List ℕ) → AllByRecursion (λ b. b < 256) bytes → IsBytes bytes
IsBytes-all [] all = IsBytes-nil
IsBytes-all (b ∷ bytes) all = IsBytes-cons b bytes all.0 (IsBytes-all bytes all.1)

pub IsBytes-identification : (order : Order) (osabi abi : ℕ) → osabi < 2 ^ 8 → abi < 2 ^ 8 → IsBytes (identification order osabi abi)
IsBytes-identification order osabi abi osabi_fits abi_fits = bytes order
  where
    padding : AllByRecursion (λ (b : ℕ). b < 256) (0 ∷ 0 ∷ 0 ∷ 0 ∷ 0 ∷ 0 ∷ 0 ∷ [])
    padding = (omega arith, (omega arith, (omega arith, (omega arith, (omega arith, (omega arith, (omega arith, tt)))))))

    tail : (b : ℕ) → b < 256 → IsBytes (127 ∷ 69 ∷ 76 ∷ 70 ∷ 2 ∷ b ∷ 1 ∷ osabi ∷ abi ∷ 0 ∷ 0 ∷ 0 ∷ 0 ∷ 0 ∷ 0 ∷ 0 ∷ [])
    tail b lt = IsBytes-all (127 ∷ 69 ∷ 76 ∷ 70 ∷ 2 ∷ b ∷ 1 ∷ osabi ∷ abi ∷ 0 ∷ 0 ∷ 0 ∷ 0 ∷ 0 ∷ 0 ∷ 0 ∷ [])
        (omega arith, (omega arith, (omega arith, (omega arith, (omega arith, (lt, (omega arith, (osabi_fits, (abi_fits, padding)))))))))

    bytes : (order : Order) → IsBytes (127 ∷ 69 ∷ 76 ∷ 70 ∷ 2 ∷ encoding order ∷ 1 ∷ osabi ∷ abi ∷ 0 ∷ 0 ∷ 0 ∷ 0 ∷ 0 ∷ 0 ∷ 0 ∷ [])
    bytes Little = tail 1 (omega arith)
    bytes Big = tail 2 (omega arith)

-- ---- the parts of contents and a last one

-- a content, by its owner, or the last
part_at : (t : WrittenPart) (i : ℕ) (cs : List (List ℕ)) (j : ℕ) (p : WrittenPart) → slice_get (content_parts i cs ++ (t ∷ [])) j ≡ Some p →
    ((j < length cs) × (p.owner ≡ Content (i + j)) × (p.bytes ≡ get_or cs j [])) ⊎ ((j ≡ length cs) × (p ≡ t))
part_at t i [] zero p at = inr (refl, (let same : t ≡ p = cc in sym same))
part_at t i [] (suc j) p at = absurd (let none : None ≡ Some p = at in cc)
part_at t i (c ∷ cs) zero p at =
    let same : record { owner = Content i; bytes = c } ≡ p = cc in
    let place : i ≡ i + 0 = omega arith in
    inl (omega arith, ap (λ (q : WrittenPart). q.owner) (sym same) ∙ ap Content place, ap (λ (q : WrittenPart). q.bytes) (sym same))
part_at t i (c ∷ cs) (suc j) p at = elim (part_at t (suc i) cs j p at) [
  | inl found ↦
      (let place : suc i + j ≡ i + suc j = omega arith in inl (let lt = found.0 in omega arith, found.1 ∙ ap Content place, found.2))
  | inr found ↦ inr (ap suc found.0, found.1)
]

content_part : (t : WrittenPart) (i : ℕ) (cs : List (List ℕ)) (j : ℕ) → j < length cs →
    IsPartOf (content_parts i cs ++ (t ∷ [])) j (Content (i + j))
content_part t i [] j lt = absurd (omega arith)
content_part t i (c ∷ cs) zero lt =
    (record { owner = Content i; bytes = c }, refl, (let place : i ≡ i + 0 = omega arith in ap Content place))
content_part t i (c ∷ cs) (suc j) lt =
    let place : suc i + j ≡ i + suc j = omega arith in
    let later = content_part t (suc i) cs j (omega arith) in
    (later.0, later.1, later.2 ∙ ap Content place)

last_part : (t : WrittenPart) (i : ℕ) (cs : List (List ℕ)) → slice_get (content_parts i cs ++ (t ∷ [])) (length cs) ≡ Some t
last_part t i [] = refl
last_part t i (c ∷ cs) = last_part t (suc i) cs

parts_bytes : (t : WrittenPart) (i : ℕ) (cs : List (List ℕ)) → map (λ p. p.bytes) (content_parts i cs ++ (t ∷ [])) ≡ cs ++ (t.bytes ∷ [])
parts_bytes t i [] = refl
parts_bytes t i (c ∷ cs) = ap (λ (ps : List (List ℕ)). c ∷ ps) (parts_bytes t (suc i) cs)

parts_sizes : (t : WrittenPart) (i : ℕ) (cs : List (List ℕ)) →
    map (λ p. unaligned p.bytes) (content_parts i cs ++ (t ∷ [])) ≡ map unaligned (cs ++ (t.bytes ∷ []))
parts_sizes t i [] = refl
parts_sizes t i (c ∷ cs) = ap (λ (ps : List (ℕ × ℕ)). unaligned c ∷ ps) (parts_sizes t (suc i) cs)

parts_are_bytes : (t : WrittenPart) (i : ℕ) (cs : List (List ℕ)) → AllByRecursion IsBytes cs → IsBytes t.bytes →
    AllByRecursion (λ p. IsBytes p.bytes) (content_parts i cs ++ (t ∷ []))
parts_are_bytes t i [] all last = (last, tt)
parts_are_bytes t i (c ∷ cs) all last = (all.0, parts_are_bytes t (suc i) cs all.1 last)

-- ---- lists with a last element

offset_at : (ss : List Shdr) (x j : ℕ) → j < length ss →
    get_or (map (λ s. s.sh_offset) ss ++ (x ∷ [])) j 0 ≡ (section_header_of ss j).sh_offset
offset_at [] x j lt = absurd (omega arith)
offset_at (s ∷ ss) x zero lt = refl
offset_at (s ∷ ss) x (suc j) lt = offset_at ss x j (omega arith)

offset_last : (ss : List Shdr) (x n : ℕ) → n ≡ length ss → get_or (map (λ s. s.sh_offset) ss ++ (x ∷ [])) n 0 ≡ x
offset_last [] x zero e = refl
offset_last [] x (suc n) e = absurd (omega arith)
offset_last (s ∷ ss) x zero e = absurd (omega arith)
offset_last (s ∷ ss) x (suc n) e = offset_last ss x n (omega arith)

bytes_here : (cs : List (List ℕ)) (t : List ℕ) (j : ℕ) → j < length cs → get_or (cs ++ (t ∷ [])) j [] ≡ get_or cs j []
bytes_here [] t j lt = absurd (omega arith)
bytes_here (c ∷ cs) t zero lt = refl
bytes_here (c ∷ cs) t (suc j) lt = bytes_here cs t j (omega arith)

bytes_last : (cs : List (List ℕ)) (t : List ℕ) → get_or (cs ++ (t ∷ [])) (length cs) [] ≡ t
bytes_last [] t = refl
bytes_last (c ∷ cs) t = bytes_last cs t

same_count : (cs : List (List ℕ)) (ss : List Shdr) → map length cs ≡ map (λ s. (content_extent s).len) ss → length cs ≡ length ss
same_count [] [] e = refl
same_count [] (s ∷ ss) e = absurd cc
same_count (c ∷ cs) [] e = absurd cc
same_count (c ∷ cs) (s ∷ ss) e = let tail : map length cs ≡ map (λ s. (content_extent s).len) ss = cc in ap suc (same_count cs ss tail)

content_long : (cs : List (List ℕ)) (ss : List Shdr) (j : ℕ) → map length cs ≡ map (λ s. (content_extent s).len) ss → j < length ss →
    length (get_or cs j []) ≡ (content_extent (section_header_of ss j)).len
content_long [] [] j e lt = absurd (omega arith)
content_long [] (s ∷ ss) j e lt = absurd cc
content_long (c ∷ cs) [] j e lt = absurd cc
content_long (c ∷ cs) (s ∷ ss) zero e lt = cc
content_long (c ∷ cs) (s ∷ ss) (suc j) e lt = let tail : map length cs ≡ map (λ s. (content_extent s).len) ss = cc in
    content_long cs ss j tail (omega arith)

within_if_some : (cs : List (List ℕ)) (j : ℕ) → 0 < length (get_or cs j []) → j < length cs
within_if_some [] j some = absurd (omega arith)
within_if_some (c ∷ cs) zero some = omega arith
within_if_some (c ∷ cs) (suc j) some = let lt = within_if_some cs j some in omega arith

-- a content that has a byte ends where its section header says
content_some_len : (s : Shdr) → s.sh_type ≢ 0 → s.sh_type ≢ 8 → (content_extent s).len ≡ s.sh_size
content_some_len s null bits = rw (ne_eqb s.sh_type 0 null, ne_eqb s.sh_type 8 bits) refl

-- ---- counts and indexes on both sides of the border

low : (number : ℕ) → number < SHN_LORESERVE → (short_count number ≡ number) × (short_index number ≡ number) × (long_number number ≡ 0)
low number lt =
    (rw (lt-ltb number SHN_LORESERVE lt) refl, rw (lt-ltb number SHN_LORESERVE lt) refl, rw (lt-ltb number SHN_LORESERVE lt) refl)

high : (number : ℕ) → SHN_LORESERVE ≤ number → (short_count number ≡ 0) × (short_index number ≡ SHN_XINDEX) × (long_number number ≡ number)
high number le =
    (rw (le-ltb number SHN_LORESERVE le) refl, rw (le-ltb number SHN_LORESERVE le) refl, rw (le-ltb number SHN_LORESERVE le) refl)

-- the count of section headers, read of the header or of section header 0
counted : (h : Ehdr) (n k : ℕ) → h.e_shoff ≢ 0 → 0 < n → h.e_shnum ≡ short_count n → section_header_count h (first_header n k) ≡ n
counted h n k there some count =
    rw (ne_eqb h.e_shoff 0 there, count) (elim (cases_lt n SHN_LORESERVE) [
      | inl few ↦ (let other : n ≢ 0 = λ none. omega arith in let is = low n few in rw (is.0, ne_eqb n 0 other) refl)
      | inr many ↦ (let is = high n many in rw (is.0, is.2) refl)
    ])

-- and the name table's index
named : (h : Ehdr) (n k : ℕ) → h.e_shstrndx ≡ short_index k → name_table h (first_header n k) ≡ k
named h n k index = rw index (elim (cases_lt k SHN_LORESERVE) [
  | inl under ↦ (let other : k ≢ SHN_XINDEX = λ same. omega arith in let is = low k under in rw (is.1, ne_eqb k SHN_XINDEX other) refl)
  | inr over ↦ (let is = high k over in rw (is.1, is.2) refl)
])

-- ---- the whole length

-- where the section header table ends
pub length-relocatable_bytes : (h : Ehdr) (ss : List Shdr) (cs : List (List ℕ)) (names : ℕ) → length cs ≡ length ss →
    Fits (map unaligned (after_header h ss cs names)) EHDR_SIZE (offsets h ss) →
    length (relocatable_bytes h ss cs names) ≡ h.e_shoff + SHDR_SIZE * (length ss + 1)
unfolding relocatable_bytes
length-relocatable_bytes h ss cs names counts order =
    let ps = ehdr_bytes (order_of h.e_ident) h ∷ after_header h ss cs names in
    let all = length-append cs (section_table h ss names ∷ []) in
    let long : EHDR_SIZE ≡ 0 + length (ehdr_bytes (order_of h.e_ident) h) =
    (let e = ehdr_laws.length_is (order_of h.e_ident) h in omega arith) in
    let whole : Fits (map unaligned ps) 0 (0 ∷ offsets h ss) =
    (omega arith, omega arith, subst (λ (x : ℕ). Fits (map unaligned (after_header h ss cs names)) x (offsets h ss)) long order) in
    let end = length-spread 0 (0 ∷ offsets h ss) ps (suc (length cs)) whole (omega arith) in
    let place = offset_last ss h.e_shoff (length cs) counts in
    let last = ap length (bytes_last cs (section_table h ss names)) in
    let table = length-table shdr_laws (order_of h.e_ident) (all_headers ss names) in
    omega arith

-- ---- the file

module _ (h : Ehdr) (ss : List Shdr) (cs : List (List ℕ)) (names : ℕ) (file : IsRelocatableFile h ss cs names) where
  abbrev n : ℕ
  n = length ss + 1

  abbrev places : List ℕ
  places = 0 ∷ offsets h ss

  abbrev table_part : WrittenPart
  table_part = record { owner = SectionTable; bytes = section_table h ss names }

  counts : length cs ≡ length ss
  counts = same_count cs ss file.lengths

  -- the section table begins after the header
  table_above : EHDR_SIZE ≤ h.e_shoff
  table_above =
      let all = length-append cs (section_table h ss names ∷ []) in
      let long = length-unaligned (after_header h ss cs names) in
      let same = counts in
      let last = offset_last ss h.e_shoff (length ss) refl in
      let above = above_from (map unaligned (after_header h ss cs names)) EHDR_SIZE (offsets h ss) (length ss) file.order (omega arith) in
      omega arith

  -- a content ends before the section table
  content_below : (j : ℕ) → j < length ss → (section_header_of ss j).sh_offset + length (get_or cs j []) ≤ h.e_shoff
  content_below j lt =
      let all = length-append cs (section_table h ss names ∷ []) in
      let same = counts in
      let last = offset_last ss h.e_shoff (length ss) refl in
      let here = offset_at ss h.e_shoff j lt in
      let content = ap length (bytes_here cs (section_table h ss names) j (omega arith)) in
      let below = parts_ascend EHDR_SIZE (offsets h ss) (after_header h ss cs names) j (length ss) file.order lt (omega arith) in
      omega arith

  first_fits : IsShdr (first_header n names)
  first_fits =
      let short = file.short in
      let below = file.names_within in
      elim (cases_lt n SHN_LORESERVE) [
        | inl few ↦ (let counted = low n few in let named = low names (omega arith) in
            first_fits_at (long_number n) (long_number names) (omega arith) (omega arith))
        | inr many ↦ (let counted = high n many in elim (cases_lt names SHN_LORESERVE) [
          | inl under ↦ (let named = low names under in first_fits_at (long_number n) (long_number names) (omega arith) (omega arith))
          | inr over ↦ (let named = high names over in first_fits_at (long_number n) (long_number names) (omega arith) (omega arith))
        ])
      ]
    where
      first_fits_at : (size link : ℕ) → size < 2 ^ 64 → link < 2 ^ 32 → IsShdr (record no_section_header { sh_size = size; sh_link = link })
      first_fits_at size link one two = record {
        sh_name = omega arith;
        sh_type = omega arith;
        sh_flags = omega arith;
        sh_addr = omega arith;
        sh_offset = omega arith;
        sh_size = one;
        sh_link = two;
        sh_info = omega arith;
        sh_addralign = omega arith;
        sh_entsize = omega arith;
      }

  count_is : section_header_count h (first_header n names) ≡ n
  count_is = let above = table_above in counted h n names (λ none. omega arith) (omega arith) file.section_count

  names_are_at : name_table h (first_header n names) ≡ names
  names_are_at = named h n names file.name_table

  names_are : value_names h (all_headers ss names) ([] ∷ cs) ≡ get_or ([] ∷ cs) names []
  names_are = rw names_are_at (elim (cases_eq names 0) [
    | inl none ↦ rw none refl
    | inr other ↦ rw (ne_eqb names 0 other) refl
  ])

  no_segment_counted : program_header_count h (first_header n names) ≡ 0
  no_segment_counted = rw file.no_segments refl

  -- ---- its parts

  parts_stand : AreFileParts (relocatable_file h ss cs names) places (relocatable_parts h ss cs names)
  parts_stand = record {
    order = (
      omega arith,
      omega arith,
      subst (λ (sizes : List (ℕ × ℕ)). Fits sizes (0 + length (ehdr_bytes (order_of h.e_ident) h)) (offsets h ss))
          (sym (parts_sizes table_part 1 cs)) from_header,
    );
    owned = owned;
    each_owner = each_owner;
  }
    where
      from_header : Fits (map unaligned (after_header h ss cs names)) (0 + length (ehdr_bytes (order_of h.e_ident) h)) (offsets h ss)
      from_header =
          let long : EHDR_SIZE ≡ 0 + length (ehdr_bytes (order_of h.e_ident) h) =
          (let e = ehdr_laws.length_is (order_of h.e_ident) h in omega arith) in
          subst (λ (x : ℕ). Fits (map unaligned (after_header h ss cs names)) x (offsets h ss)) long file.order

      owned : (k : ℕ) (p : WrittenPart) → slice_get (relocatable_parts h ss cs names) k ≡ Some p → p.owner ≢ Gap →
          (get_or places k 0 ≡ owner_start (relocatable_file h ss cs names) p.owner) ×
          (p.bytes ≡ owner_bytes (relocatable_file h ss cs names) p.owner)
      owned zero p at some =
          let same : record { owner = Header; bytes = ehdr_bytes (order_of h.e_ident) h } ≡ p = cc in
          subst (λ (q : WrittenPart). (get_or places 0 0 ≡ owner_start (relocatable_file h ss cs names) q.owner) ×
          (q.bytes ≡ owner_bytes (relocatable_file h ss cs names) q.owner)) same (refl, refl)
      owned (suc j) p at some = elim (part_at table_part 1 cs j p at) [
        | inl found ↦
            (let next : 1 + j ≡ suc j = omega arith in
            let owner : p.owner ≡ Content (suc j) = found.1 ∙ ap Content next in
            let lt = found.0 in
            let same = counts in (
              offset_at ss h.e_shoff j (omega arith) ∙ sym (ap (owner_start (relocatable_file h ss cs names)) owner),
              found.2 ∙ sym (ap (owner_bytes (relocatable_file h ss cs names)) owner),
            ))
        | inr found ↦
            (let same = counts in
            let owner : p.owner ≡ SectionTable = ap (λ (q : WrittenPart). q.owner) found.1 in
            let end = found.0 in (
              offset_last ss h.e_shoff j (omega arith) ∙ sym (ap (owner_start (relocatable_file h ss cs names)) owner),
              ap (λ (q : WrittenPart). q.bytes) found.1 ∙ sym (ap (owner_bytes (relocatable_file h ss cs names)) owner),
            ))
      ]

      each_owner : (o : Owner) → 0 < length (owner_bytes (relocatable_file h ss cs names) o) →
          (k : ℕ) × IsPartOf (relocatable_parts h ss cs names) k o
      each_owner Header some = (0, (record { owner = Header; bytes = ehdr_bytes (order_of h.e_ident) h }, refl, refl))
      each_owner SectionTable some = (suc (length cs), (table_part, last_part table_part 1 cs, refl))
      each_owner ProgramTable some = absurd (omega arith)
      each_owner (Content zero) some = absurd (omega arith)
      each_owner (Content (suc j)) some =
          let next : 1 + j ≡ suc j = omega arith in
          let found = content_part table_part 1 cs j (within_if_some cs j some) in
          (suc j, (found.0, found.1, found.2 ∙ ap Content next))
      each_owner Gap some = absurd (omega arith)

  bytes_are : written places (relocatable_parts h ss cs names) ≡ relocatable_bytes h ss cs names
  unfolding written relocatable_bytes
  bytes_are = ap (λ (ps : List (List ℕ)). spread 0 places (ehdr_bytes (order_of h.e_ident) h ∷ ps)) (parts_bytes table_part 1 cs)

  length_is : length (relocatable_bytes h ss cs names) ≡ h.e_shoff + SHDR_SIZE * n
  length_is = length-relocatable_bytes h ss cs names counts file.order

  -- ---- it keeps the rules

  abbrev headers : List Shdr
  headers = all_headers ss names

  section_table_kept : (len : ℕ) → len ≡ h.e_shoff + SHDR_SIZE * n → KeepsSectionTableRules len h (first_header n names)
  section_table_kept len long =
      let there = table_above in
      let counts_n = count_is in
      record {
        null = λ some. record
            { sh_name = refl; sh_type = refl; sh_flags = refl; sh_addr = refl; sh_offset = refl; sh_addralign = refl; sh_entsize = refl };
        extended_section_count = λ some. (plain_count, extended_count);
        section_table = λ some. omega arith;
        name_table_index = plain_index;
        extended_name_table_index = λ some. (extended_index, no_extended_index);
      }
    where
      plain_count : h.e_shnum ≢ 0 → long_number n ≡ 0
      plain_count some = elim (cases_lt n SHN_LORESERVE) [
        | inl few ↦ (low n few).2
        | inr many ↦ absurd (some (file.section_count ∙ (high n many).0))
      ]

      extended_count : h.e_shnum ≡ 0 → SHN_LORESERVE ≤ long_number n
      extended_count none = elim (cases_lt n SHN_LORESERVE) [
        | inl few ↦ (let is = (low n few).0 in let count = file.section_count in absurd (omega arith))
        | inr many ↦ (let is = (high n many).2 in omega arith)
      ]

      plain_index : h.e_shoff ≢ 0 → h.e_shstrndx ≢ SHN_XINDEX →
          (h.e_shstrndx < SHN_LORESERVE) × (h.e_shstrndx < section_header_count h (first_header n names))
      plain_index there plain = elim (cases_lt names SHN_LORESERVE) [
        | inl under ↦
            (let is = (low names under).1 in let index = file.name_table in let below = file.names_within in let count = count_is in
            (omega arith, omega arith))
        | inr over ↦ absurd (plain (file.name_table ∙ (high names over).1))
      ]

      extended_index : h.e_shstrndx ≡ SHN_XINDEX →
          (SHN_LORESERVE ≤ long_number names) × (long_number names < section_header_count h (first_header n names))
      extended_index escape = elim (cases_lt names SHN_LORESERVE) [
        | inl under ↦ (let is = (low names under).1 in let index = file.name_table in absurd (omega arith))
        | inr over ↦ (let is = (high names over).2 in let below = file.names_within in let count = count_is in (omega arith, omega arith))
      ]

      no_extended_index : h.e_shstrndx ≢ SHN_XINDEX → long_number names ≡ 0
      no_extended_index plain = elim (cases_lt names SHN_LORESERVE) [
        | inl under ↦ (low names under).2
        | inr over ↦ absurd (plain (file.name_table ∙ (high names over).1))
      ]

  header_kept : (len : ℕ) → len ≡ h.e_shoff + SHDR_SIZE * n → KeepsHeaderRules len h
  header_kept len long =
      let above = table_above in
      record {
        version = file.version;
        header_size = file.header_size;
        no_sections = λ none. absurd (omega arith);
        section_header_size = λ there. file.section_header_size;
        unreserved_count = (let count = file.section_count in elim (cases_lt n SHN_LORESERVE) [
          | inl few ↦ (let is = (low n few).0 in omega arith)
          | inr many ↦ (let is = (high n many).0 in omega arith)
        ]);
        first_section_header = λ there. omega arith;
      }

  program_table_kept : (len : ℕ) → KeepsProgramTableRules len h (first_header n names)
  program_table_kept len =
      let none = file.no_segments in
      let count = no_segment_counted in
      record {
        table_and_count = ((λ no_table. none), (λ no_count. file.no_program_table), (λ escape. absurd (omega arith)));
        program_header_size = λ some. absurd (some none);
        extended_segment_count = λ there. ((λ escape. absurd (omega arith)), (λ plain. refl));
        program_table = λ some. absurd (omega arith);
      }

  sections_kept : (len : ℕ) → len ≡ h.e_shoff + SHDR_SIZE * n → KeepsSectionRules len n (section_header_of headers)
  sections_kept len long = record { alignment = file.alignment; address = file.address; content = content } where
    content : (i : ℕ) → 1 ≤ i → i < n → (section_header_of headers i).sh_type ≢ 0 → (section_header_of headers i).sh_type ≢ 8 →
        0 < (section_header_of headers i).sh_size →
        (section_header_of headers i).sh_offset + (section_header_of headers i).sh_size ≤ len
    content zero from lt null bits some = absurd (omega arith)
    content (suc j) from lt null bits some =
        let below = content_below j (omega arith) in
        let size = content_long cs ss j file.lengths (omega arith) in
        let same = content_some_len (section_header_of ss j) null bits in
        omega arith

  segments_kept : (len : ℕ) → KeepsSegmentRules len 0 (program_header_of [])
  segments_kept len = record {
    bytes = λ j below. absurd (omega arith);
    sizes = λ j below. absurd (omega arith);
    alignment = λ j below. absurd (omega arith);
    congruence = λ j below. absurd (omega arith);
    order = λ k j below. absurd (omega arith);
  }

  kept : (len : ℕ) → len ≡ h.e_shoff + SHDR_SIZE * n →
      KeepsEachRecordRule len h (section_header_of headers) (program_header_of []) (value_names h headers ([] ∷ cs))
  kept len long =
      let short = file.short in
      let above = table_above in
      record {
        file_length = record { not_too_long = omega arith; not_too_short = omega arith };
        ident = file.ident;
        header = header_kept len long;
        section_table = section_table_kept len long;
        program_table = program_table_kept len;
        sections = subst (λ (count : ℕ). KeepsSectionRules len count (section_header_of headers)) (sym count_is) (sections_kept len long);
        segments = subst (λ (count : ℕ). KeepsSegmentRules len count (program_header_of [])) (sym no_segment_counted) (segments_kept len);
        section_names =
            subst (λ (count : ℕ). KeepsNameRules count (name_table h (first_header n names)) (section_header_of headers)
            (value_names h headers ([] ∷ cs))) (sym count_is)
            (subst (λ (index : ℕ). KeepsNameRules n index (section_header_of headers) (value_names h headers ([] ∷ cs))) (sym names_are_at)
            (subst (KeepsNameRules n names (section_header_of headers)) (sym names_are) file.section_names));
      }

  writable : IsWritable (relocatable_file h ss cs names) places (relocatable_parts h ss cs names)
  writable = record {
    header = file.header_fits;
    section_headers = (first_fits, file.headers_fit);
    program_headers = tt;
    bytes = (
      ehdr_laws.are_bytes (order_of h.e_ident) h file.header_fits,
      parts_are_bytes table_part 1 cs file.bytes (IsBytes-table shdr_laws (order_of h.e_ident) headers (first_fits, file.headers_fit)),
    );
    section_count = (let count = count_is in omega arith);
    segment_count = sym no_segment_counted;
    lengths = ap (λ (rest : List ℕ). 0 ∷ rest) file.lengths;
    placed = parts_stand;
    kept = kept (length (written places (relocatable_parts h ss cs names))) (ap length bytes_are ∙ length_is);
  }

-- ---- the laws

pub length-relocatable_file : (h : Ehdr) (ss : List Shdr) (cs : List (List ℕ)) (names : ℕ) → IsRelocatableFile h ss cs names →
    length (relocatable_bytes h ss cs names) ≡ h.e_shoff + SHDR_SIZE * (length ss + 1)
length-relocatable_file h ss cs names file = length_is h ss cs names file

pub relocatable_is_bytes : (h : Ehdr) (ss : List Shdr) (cs : List (List ℕ)) (names : ℕ) → IsRelocatableFile h ss cs names →
    IsBytes (relocatable_bytes h ss cs names)
relocatable_is_bytes h ss cs names file =
    subst IsBytes (bytes_are h ss cs names file) (written_is_bytes (relocatable_file h ss cs names) _ _ (writable h ss cs names file))

pub relocatable_accepted : (h : Ehdr) (ss : List Shdr) (cs : List (List ℕ)) (names : ℕ) → IsRelocatableFile h ss cs names →
    IsFault (relocatable_bytes h ss cs names) None
relocatable_accepted h ss cs names file =
    subst (λ (b : List ℕ). IsFault b None) (bytes_are h ss cs names file)
    (written_accepted (relocatable_file h ss cs names) _ _ (writable h ss cs names file))

pub relocatable_read : (h : Ehdr) (ss : List Shdr) (cs : List (List ℕ)) (names : ℕ) → IsRelocatableFile h ss cs names → (v : ImageValue) →
    Stands v (relocatable_bytes h ss cs names) → HasContents v (relocatable_file h ss cs names)
relocatable_read h ss cs names file v stands =
    written_read (relocatable_file h ss cs names) _ _ (writable h ss cs names file) v
    (subst (Stands v) (sym (bytes_are h ss cs names file)) stands)

-- what the name table holds, read of the file
pub relocatable_names : (h : Ehdr) (ss : List Shdr) (cs : List (List ℕ)) (names : ℕ) → IsRelocatableFile h ss cs names →
    value_names h (all_headers ss names) ([] ∷ cs) ≡ get_or ([] ∷ cs) names []
relocatable_names h ss cs names file = names_are h ss cs names file
