-- A file that is written from its parts, by records that keep rules 1 to 32, breaks no rule and denotes its records and contents. Each
-- owner's bytes are one part, and parts ascend without overlap. So each owner's bytes are at its extent, no two extents share a byte (rule
-- 33), and the records are read back.
use Rattle.std.proofs.Common.{◌≡◌, ◌<◌, ◌≤◌, ◌+◌, ◌-◌, ℕ, zero, suc, List, [], ◌∷◌, ◌++◌, length, take, drop, map, get_or, replicate, refl}
use Rattle.std.proofs.Common.{sym, ap, ◌∙◌, inl, inr, append_assoc, arith, length-append, ◌≢◌, None, Some, ap₂, subst}
use Rattle.std.specs.List.{AllByRecursion, range_with_len}
use Rattle.std.proofs.lemmas.Bool.{cases_lt, cases_eq}
use Rattle.std.proofs.lemmas.List.{drop_at, length-replicate, take_at, nil_from_length}
use Rattle.std.specs.Prelude.{slice_get}
use Rattle.std.proofs.lemmas.Option.{slice_get-get_or}
use Rattle.elf_extent.proofs.Public.{above_earlier}
use Rattle.elf_extent.specs.Extent.{AreDisjoint}
use Rattle.elf_extent.specs.Place.{Fits, end_of}
use Rattle.elf_extent.specs.declared.extent.Extent.{Extent}
use Rattle.elf_field.proofs.RecordTableLaws.{length-table}
use Rattle.elf_field.specs.Bytes.{IsBytes}
use Rattle.elf_field.specs.laws.Bytes.{IsBytes-append, IsBytes-cons, IsBytes-nil}
use Rattle.elf_field.specs.laws.Headers.{ehdr_laws, shdr_laws, phdr_laws}
use Rattle.elf_field.specs.declared.ehdr.Ehdr.{Ehdr}
use Rattle.elf_field.specs.declared.shdr.Shdr.{Shdr}
use Rattle.elf_image_outline.proofs.Standing.{length-content, same_len, same_start, IsCounted, clean_of, extents_are, get_or_at, mapped_at}
use Rattle.elf_image_outline.proofs.Standing.{table_there, within_list, contents_read, element_made, first_of_none, header_read}
use Rattle.elf_image_outline.proofs.Standing.{sections_read, segments_read}
use Rattle.elf_image_outline.proofs.Theorem.{Reads, clean_bytes, has_tables_of}
use Rattle.elf_image_outline.specs.Image.{AreRecordsIn, ImageValue, Stands, owner_index, program_header_of, section_header_of}
use Rattle.elf_image_outline.specs.Image.{value_extents, value_names, value_rules}
use Rattle.elf_image_outline.specs.declared.outline.Owner.TheVariants.{Header, ProgramTable, SectionTable, Content, Gap}
use Rattle.elf_image_outline.specs.declared.outline.Owner.{Owner}
use Rattle.elf_image_rules.proofs.Public.{rules_unbroken, sections_none}
use Rattle.elf_image_rules.specs.KeepsRules.{KeepsRules}
use Rattle.elf_image_rules.specs.Rows.{FirstIn}
use Rattle.elf_image_rules.specs.Rules.{IsFault}
use Rattle.elf_image_rules.specs.Tables.{bytes_in, content_extent, header, order_of, program_header_count, section_header_count, sections}
use Rattle.elf_image_rules.specs.Tables.{segments}
use Rattle.elf_image_type.proofs.ImageLemmas.{owner_from}
use Rattle.elf_image_type.specs.WrittenFile.{spread, unaligned, AreFileParts, FileContents, HasContents, IsWritable, WrittenPart}
use Rattle.elf_image_type.specs.WrittenFile.{owner_bytes, owner_start, written}

-- Parts at places that fit, with zeros between, as one list. By induction on the parts, each is at its place and the list ends with the
-- last one. Places ascend, so two parts that hold one offset are the same.

-- ---- the bytes

IsBytes-zeros : (n : ℕ) → IsBytes (replicate n 0)
IsBytes-zeros zero = IsBytes-nil
IsBytes-zeros (suc n) = IsBytes-cons 0 (replicate n 0) (omega arith) (IsBytes-zeros n)

pub IsBytes-spread : (from : ℕ) (q : List ℕ) (ps : List (List ℕ)) → AllByRecursion IsBytes ps → IsBytes (spread from q ps)
IsBytes-spread from [] [] are = IsBytes-nil
IsBytes-spread from (x ∷ q) [] are = IsBytes-nil
IsBytes-spread from [] (p ∷ ps) are = IsBytes-nil
IsBytes-spread from (x ∷ q) (p ∷ ps) are =
    IsBytes-append (replicate (x - from) 0) (p ++ spread (x + length p) q ps) (IsBytes-zeros (x - from))
    (IsBytes-append p (spread (x + length p) q ps) are.0 (IsBytes-spread (x + length p) q ps are.1))

-- ---- each part is at its offset

length-zeros : (n : ℕ) → length (replicate {A = ℕ} n 0) ≡ n
length-zeros n = length-replicate n 0

-- what is in front of a part, with the zeros
front_long : (pre : List ℕ) (from x : ℕ) → length pre ≡ from → from ≤ x → length (pre ++ replicate (x - from) 0) ≡ x
front_long pre from x long le =
    let both = length-append pre (replicate (x - from) 0) in
    let zeros = length-zeros (x - from) in
    omega arith

pub in_spread : (pre : List ℕ) (from : ℕ) (q : List ℕ) (ps : List (List ℕ)) (k : ℕ) → length pre ≡ from → Fits (map unaligned ps) from q →
    k < length ps → take (length (get_or ps k [])) (drop (get_or q k 0) (pre ++ spread from q ps)) ≡ get_or ps k []
in_spread pre from [] [] k long fits lt = absurd (omega arith)
in_spread pre from (x ∷ q) [] k long fits lt = absurd (omega arith)
in_spread pre from [] (p ∷ ps) k long fits lt = absurd fits
in_spread pre from (x ∷ q) (p ∷ ps) zero long (multiple, le, rest) lt =
    let zeros : List ℕ = replicate (x - from) 0 in
    let after : List ℕ = spread (x + length p) q ps in
    let placed : drop x (pre ++ (zeros ++ (p ++ after))) ≡ p ++ after =
    ap (drop x) (sym (append_assoc pre zeros (p ++ after))) ∙ drop_at (pre ++ zeros) (p ++ after) x (front_long pre from x long le) in
    ap (take (length p)) placed ∙ take_at p after (length p) refl
in_spread pre from (x ∷ q) (p ∷ ps) (suc k) long (multiple, le, rest) lt =
    let zeros : List ℕ = replicate (x - from) 0 in
    let after : List ℕ = spread (x + length p) q ps in
    let front : List ℕ = (pre ++ zeros) ++ p in
    let joined : pre ++ (zeros ++ (p ++ after)) ≡ front ++ after =
    sym (append_assoc pre zeros (p ++ after)) ∙ sym (append_assoc (pre ++ zeros) p after) in
    let end : length front ≡ x + length p =
    (let a = length-append (pre ++ zeros) p in let b = front_long pre from x long le in omega arith) in
    ap (λ (s : List ℕ). take (length (get_or ps k [])) (drop (get_or q k 0) s)) joined ∙
    in_spread front (x + length p) q ps k end rest (omega arith)

-- ---- the whole length

-- where the last of some parts ends
pub length-spread : (from : ℕ) (q : List ℕ) (ps : List (List ℕ)) (k : ℕ) → Fits (map unaligned ps) from q → suc k ≡ length ps →
    from + length (spread from q ps) ≡ get_or q k 0 + length (get_or ps k [])
length-spread from [] [] k fits last = absurd (omega arith)
length-spread from (x ∷ q) [] k fits last = absurd (omega arith)
length-spread from [] (p ∷ ps) k fits last = absurd fits
length-spread from (x ∷ []) (p ∷ []) zero (multiple, le, rest) last =
    let zeros = length-zeros (x - from) in
    let both = length-append (replicate (x - from) 0) (p ++ []) in
    let one = length-append p [] in
    omega arith
length-spread from (x ∷ q) (p ∷ []) (suc k) fits last = absurd (omega arith)
length-spread from (x ∷ (y ∷ q)) (p ∷ []) zero (multiple, le, rest) last = absurd rest
length-spread from (x ∷ q) (p ∷ (r ∷ ps)) zero fits last = absurd (omega arith)
length-spread from (x ∷ q) (p ∷ (r ∷ ps)) (suc k) (multiple, le, rest) last =
    let after = spread (x + length p) q (r ∷ ps) in
    let later = length-spread (x + length p) q (r ∷ ps) k rest (omega arith) in
    let zeros = length-zeros (x - from) in
    let both = length-append (replicate (x - from) 0) (p ++ after) in
    let one = length-append p after in
    omega arith

-- ---- two parts

-- the size of part k
size_at : (ps : List (List ℕ)) (k : ℕ) → get_or (map (λ (p : ℕ × ℕ). p.0) (map unaligned ps)) k 0 ≡ length (get_or ps k [])
size_at [] k = refl
size_at (p ∷ ps) zero = refl
size_at (p ∷ ps) (suc k) = size_at ps k

pub length-unaligned : (ps : List (List ℕ)) → length (map unaligned ps) ≡ length ps
length-unaligned [] = refl
length-unaligned (p ∷ ps) = ap suc (length-unaligned ps)

-- a part ends before a later one begins
pub parts_ascend : (from : ℕ) (q : List ℕ) (ps : List (List ℕ)) (j k : ℕ) → Fits (map unaligned ps) from q → j < k → k < length ps →
    get_or q j 0 + length (get_or ps j []) ≤ get_or q k 0
parts_ascend from q ps j k fits lt within =
    let long = length-unaligned ps in
    let size = size_at ps j in
    let above : end_of (map unaligned ps) q j ≤ get_or q k 0 = above_earlier (map unaligned ps) from q j k fits lt (omega arith) in
    omega arith

-- two parts that hold one offset are one part
pub same_part : (from : ℕ) (q : List ℕ) (ps : List (List ℕ)) (j k x : ℕ) → Fits (map unaligned ps) from q → j < length ps → k < length ps →
    get_or q j 0 ≤ x → x < get_or q j 0 + length (get_or ps j []) → get_or q k 0 ≤ x → x < get_or q k 0 + length (get_or ps k []) → j ≡ k
same_part from q ps j k x fits within_j within_k low_j high_j low_k high_k =
    elim (cases_lt j k) [
      | inl lt ↦ (let after = parts_ascend from q ps j k fits lt within_k in absurd (omega arith))
      | inr le ↦ elim (cases_lt k j) [
        | inl lt ↦ (let after = parts_ascend from q ps k j fits lt within_j in absurd (omega arith))
        | inr ge ↦ omega arith
      ]
    ]

-- the value with these records and contents, with no parts: the rules look at none
abbrev value_of : FileContents → ℕ → ImageValue
value_of f len = record {
  len = len;
  header = f.header;
  sections = f.sections;
  segments = f.segments;
  contents = f.contents;
  parts = [];
}

-- the extents of the file
abbrev extents_in : FileContents → List Extent
extents_in f = value_extents f.header f.sections f.segments

-- ---- the parts by their owners

-- the bytes of the parts, in their order
abbrev bytes_of_parts : List WrittenPart → List (List ℕ)
bytes_of_parts parts = map (λ p. p.bytes) parts

bytes_at : (parts : List WrittenPart) (k : ℕ) (p : WrittenPart) → slice_get parts k ≡ Some p → get_or (bytes_of_parts parts) k [] ≡ p.bytes
bytes_at [] k p at = absurd (let none : None ≡ Some p = at in cc)
bytes_at (r ∷ parts) zero p at = let same : r ≡ p = cc in ap (λ (q : WrittenPart). q.bytes) same
bytes_at (r ∷ parts) (suc k) p at = bytes_at parts k p at

length-bytes_of_parts : (parts : List WrittenPart) → length (bytes_of_parts parts) ≡ length parts
length-bytes_of_parts [] = refl
length-bytes_of_parts (p ∷ parts) = ap suc (length-bytes_of_parts parts)

unaligned_parts : (parts : List WrittenPart) → map unaligned (bytes_of_parts parts) ≡ map (λ p. unaligned p.bytes) parts
unaligned_parts [] = refl
unaligned_parts (p ∷ parts) = ap (λ (ps : List (ℕ × ℕ)). unaligned p.bytes ∷ ps) (unaligned_parts parts)

bytes_each : (parts : List WrittenPart) → AllByRecursion (λ p. IsBytes p.bytes) parts → AllByRecursion IsBytes (bytes_of_parts parts)
bytes_each [] are = tt
bytes_each (p ∷ parts) are = (are.0, bytes_each parts are.1)

pub IsBytes-written : (places : List ℕ) (parts : List WrittenPart) → AllByRecursion (λ p. IsBytes p.bytes) parts →
    IsBytes (written places parts)
unfolding written
IsBytes-written places parts are = IsBytes-spread 0 places (bytes_of_parts parts) (bytes_each parts are)

-- ---- what owners own

-- an extent by its index: where it begins, and how long it is
pub record IsOwnersExtent (f : FileContents) (o : Owner) (e : Extent) : Type 0 where
  pub start : e.start ≡ owner_start f o
  pub len : e.len ≡ length (owner_bytes f o)

-- the extent at an index is that of the owner there
owners_extent : (f : FileContents) → map length f.contents ≡ map (λ s. (content_extent s).len) f.sections → (i : ℕ) (e : Extent) →
    slice_get (extents_in f) i ≡ Some e → IsOwnersExtent f (owner_from (Some i)) e
owners_extent f lengths zero e at = record {
  start = sym (same_start _ e at);
  len = sym (same_len _ e at) ∙ sym (ehdr_laws.length_is _ f.header);
}
owners_extent f lengths (suc zero) e at = record {
  start = sym (same_start _ e at);
  len = sym (same_len _ e at) ∙ sym (length-table shdr_laws _ f.sections);
}
owners_extent f lengths (suc (suc zero)) e at = record {
  start = sym (same_start _ e at);
  len = sym (same_len _ e at) ∙ sym (length-table phdr_laws _ f.segments);
}
owners_extent f lengths (suc (suc (suc i))) e at =
    let from = mapped_at content_extent f.sections i e at in record {
      start = sym (ap (λ (d : Extent). d.start) from.2) ∙ sym (ap (λ (s : Shdr). s.sh_offset) (get_or_at f.sections i from.0 _ from.1));
      len = sym (length-content f.contents f.sections i e lengths at);
    }

-- the index of the owner at an index is that index
owner_index-owner_from : (i : ℕ) → owner_index (owner_from (Some i)) ≡ Some i
owner_index-owner_from zero = refl
owner_index-owner_from (suc zero) = refl
owner_index-owner_from (suc (suc zero)) = refl
owner_index-owner_from (suc (suc (suc i))) = refl

not_gap : (o : Owner) (f : FileContents) → 0 < length (owner_bytes f o) → o ≢ Gap
not_gap o f some gap =
    let none : length (owner_bytes f o) ≡ 0 = ap (λ (p : Owner). length (owner_bytes f p)) gap in
    omega arith

-- an owner that has a byte is that of part k, whose bytes are the owner's, where they begin
pub record IsOwnersPart (f : FileContents) (places : List ℕ) (parts : List WrittenPart) (o : Owner) (k : ℕ) : Type 0 where
  pub within : k < length (bytes_of_parts parts)
  pub place : get_or places k 0 ≡ owner_start f o
  pub bytes : get_or (bytes_of_parts parts) k [] ≡ owner_bytes f o
  pub owner : (p : WrittenPart) → slice_get parts k ≡ Some p → p.owner ≡ o

owners_part : (f : FileContents) (places : List ℕ) (parts : List WrittenPart) → AreFileParts f places parts → (o : Owner) →
    0 < length (owner_bytes f o) →
    (k : ℕ) × IsOwnersPart f places parts o k
owners_part f places parts are o some =
    let found = are.each_owner o some in
    let k = found.0 in
    let p = found.1.0 in
    let at : slice_get parts k ≡ Some p = found.1.1 in
    let is : p.owner ≡ o = found.1.2 in
    let owned = are.owned k p at (subst (λ (q : Owner). q ≢ Gap) (sym is) (not_gap o f some)) in
    let lt = within_list parts k p at in
    let long = length-bytes_of_parts parts in (
      k,
      record {
        within = omega arith;
        place = owned.0 ∙ ap (owner_start f) is;
        bytes = bytes_at parts k p at ∙ owned.1 ∙ ap (owner_bytes f) is;
        owner = λ q here.
            (let both : Some p ≡ Some q = sym at ∙ here in let same : p ≡ q = cc in ap (λ (r : WrittenPart). r.owner) (sym same) ∙ is);
      },
    )

-- ---- each owner's bytes are where they begin

pub owner_stands : (f : FileContents) (places : List ℕ) (parts : List WrittenPart) → AreFileParts f places parts → (o : Owner) →
    take (length (owner_bytes f o)) (drop (owner_start f o) (written places parts)) ≡ owner_bytes f o
unfolding written
owner_stands f places parts are o = elim (cases_lt 0 (length (owner_bytes f o))) [
  | inl some ↦
      (let found = owners_part f places parts are o some in
      let k = found.0 in
      let ps = bytes_of_parts parts in
      let order = subst (λ (sizes : List (ℕ × ℕ)). Fits sizes 0 places) (sym (unaligned_parts parts)) are.order in
      let stands = in_spread [] 0 places ps k refl order found.1.within in
      let bytes = found.1.bytes in
      ap₂ (λ (c : List ℕ) (x : ℕ). take (length c) (drop x (spread 0 places ps))) (sym bytes) (sym found.1.place) ∙ stands ∙ bytes)
  | inr none ↦
      (let empty : length (owner_bytes f o) ≡ 0 = omega arith in
      ap (λ (n : ℕ). take n (drop (owner_start f o) (written places parts))) empty ∙ sym (nil_from_length (owner_bytes f o) empty))
]

-- ---- no two owners share a byte

disjoint_parts : (f : FileContents) (places : List ℕ) (parts : List WrittenPart) →
    map length f.contents ≡ map (λ s. (content_extent s).len) f.sections →
    AreFileParts f places parts → AreDisjoint (extents_in f)
disjoint_parts f places parts lengths are i j x (d, at_i, one) (e, at_j, other) =
    let of_i = owners_extent f lengths i d at_i in
    let of_j = owners_extent f lengths j e at_j in
    let start_i = of_i.start in
    let start_j = of_j.start in
    let len_i = of_i.len in
    let len_j = of_j.len in
    let a = owners_part f places parts are (owner_from (Some i)) (omega arith) in
    let b = owners_part f places parts are (owner_from (Some j)) (omega arith) in
    let place_a = a.1.place in
    let place_b = b.1.place in
    let long_a = ap length a.1.bytes in
    let long_b = ap length b.1.bytes in
    let order = subst (λ (sizes : List (ℕ × ℕ)). Fits sizes 0 places) (sym (unaligned_parts parts)) are.order in
    let same : a.0 ≡ b.0 =
    same_part 0 places (bytes_of_parts parts) a.0 b.0 x order a.1.within b.1.within (omega arith) (omega arith) (omega arith)
    (omega arith) in
    let owner = owner_at a.0 b.0 same a.1 b.1 in
    let index : Some i ≡ Some j = sym (owner_index-owner_from i) ∙ ap owner_index owner ∙ owner_index-owner_from j in
    cc
  where
    owner_at : (k l : ℕ) → k ≡ l → IsOwnersPart f places parts (owner_from (Some i)) k →
        IsOwnersPart f places parts (owner_from (Some j)) l → owner_from (Some i) ≡ owner_from (Some j)
    owner_at k l same a b =
        let moved : IsOwnersPart f places parts (owner_from (Some j)) k =
        subst (IsOwnersPart f places parts (owner_from (Some j))) (sym same) b in
        let long = length-bytes_of_parts parts in
        let lt = a.within in
        let p = get_or parts k (record { owner = Gap; bytes = [] }) in
        let here : slice_get parts k ≡ Some p = slice_get-get_or parts k (record { owner = Gap; bytes = [] }) (omega arith) in
        sym (a.owner p here) ∙ moved.owner p here

-- ---- what is read of the file

module _ (f : FileContents) (places : List ℕ) (parts : List WrittenPart) (file : IsWritable f places parts) where
  b : List ℕ
  b = written places parts

  stands : (o : Owner) → take (length (owner_bytes f o)) (drop (owner_start f o) b) ≡ owner_bytes f o
  unfolding b
  stands = owner_stands f places parts file.placed

  -- the value breaks none of the 33 rules
  clean : FirstIn (value_rules (value_of f (length b))) None
  unfolding b
  clean =
      let same = extents_are f.header f.sections f.segments _ _ file.section_count file.segment_count in
      let kept : KeepsRules (length b) f.header (section_header_of f.sections) (program_header_of f.segments)
      (value_names f.header f.sections f.contents) = record {
        records = file.kept;
        disjoint = subst AreDisjoint (sym same) (disjoint_parts f places parts file.lengths file.placed);
      } in
      rules_unbroken (length b) f.header (section_header_of f.sections) (program_header_of f.segments)
      (value_names f.header f.sections f.contents) kept

  counted : IsCounted (value_of f (length b))
  counted = record { section_count = file.section_count; segment_count = file.segment_count; clean = clean }

  header_is : f.header ≡ header b
  header_is =
      header_read b f.header file.header
      (ap (λ (n : ℕ). take n b) (sym (ehdr_laws.length_is _ f.header)) ∙ stands Header)

  sections_are : map (sections b f.header) (range_with_len 0 (length f.sections)) ≡ f.sections
  sections_are =
      let there = table_there (value_of f (length b)) counted in
      let long = length-table shdr_laws (order_of f.header.e_ident) f.sections in
      sections_read b f.header f.sections there file.section_headers
      (ap (λ (n : ℕ). take n (drop f.header.e_shoff b)) (sym long) ∙ stands SectionTable)

  segments_are : map (segments b f.header) (range_with_len 0 (length f.segments)) ≡ f.segments
  segments_are =
      let long = length-table phdr_laws (order_of f.header.e_ident) f.segments in
      segments_read b f.header f.segments file.program_headers
      (ap (λ (n : ℕ). take n (drop f.header.e_phoff b)) (sym long) ∙ stands ProgramTable)

  contents_are : f.contents ≡ map (λ s. bytes_in b (content_extent s)) f.sections
  contents_are = contents_read b f.contents f.sections file.lengths here where
    here : (i : ℕ) (e : Extent) → slice_get (map content_extent f.sections) i ≡ Some e →
        take e.len (drop e.start b) ≡ get_or f.contents i []
    here i e at =
        let is = owners_extent f file.lengths (suc (suc (suc i))) e at in
        ap₂ (λ (n x : ℕ). take n (drop x b)) is.len is.start ∙ stands (Content i)

  -- section header 0 of the bytes is the file's
  first_is : sections b f.header 0 ≡ section_header_of f.sections 0
  first_is = elim (cases_eq f.header.e_shoff 0) [
    | inl none ↦
        (let no_sections : length f.sections ≡ 0 = file.section_count ∙ rw none refl in
        ap (λ (s : ℕ → Shdr). s 0) (sections_none b f.header none) ∙ sym (first_of_none f.sections no_sections))
    | inr there ↦
        (let some = (clean_of (value_of f (length b)) counted).some there in
        let count = file.section_count in
        element_made (sections b f.header) f.sections _ (length f.sections) sections_are 0 (omega arith))
  ]

  records : AreRecordsIn b f.header f.sections f.segments
  records =
      let section_count_is : length f.sections ≡ section_header_count f.header (sections b f.header 0) =
      file.section_count ∙ sym (ap (section_header_count f.header) first_is) in
      let segment_count_is : length f.segments ≡ program_header_count f.header (sections b f.header 0) =
      file.segment_count ∙ sym (ap (program_header_count f.header) first_is) in
      record {
        header = header_is;
        section_headers = sym sections_are ∙ ap (λ (n : ℕ). map (sections b f.header) (range_with_len 0 n)) section_count_is;
        program_headers = sym segments_are ∙ ap (λ (n : ℕ). map (segments b f.header) (range_with_len 0 n)) segment_count_is;
      }

  reads : Reads (value_of f (length b)) b
  reads = record { len = refl; records = records; contents = contents_are }

  accepted : IsFault b None
  accepted =
      let facts = clean_of (value_of f (length b)) counted in
      let count = file.section_count in
      let shared = has_tables_of (value_of f (length b)) b reads (λ there. let lt = facts.some there in omega arith) facts.no_names
      (λ there. let lt = facts.name_table there in omega arith) in
      clean_bytes (value_of f (length b)) b reads shared clean

  read : (v : ImageValue) → Stands v b → HasContents v f
  read v standing =
      let same : v.header ≡ f.header = standing.records.header ∙ sym header_is in
      let all : v.sections ≡ f.sections =
      standing.records.section_headers ∙
      ap (λ (h : Ehdr). map (sections b h) (range_with_len 0 (section_header_count h (sections b h 0)))) same ∙
      sym records.section_headers in
      record {
        header = same;
        sections = all;
        segments = standing.records.program_headers ∙
            ap (λ (h : Ehdr). map (segments b h) (range_with_len 0 (program_header_count h (sections b h 0)))) same ∙
            sym records.program_headers;
        contents = standing.contents ∙ ap (λ (ss : List Shdr). map (λ s. bytes_in b (content_extent s)) ss) all ∙ sym contents_are;
      }

-- ---- the laws

pub written_is_bytes : (f : FileContents) (places : List ℕ) (parts : List WrittenPart) → IsWritable f places parts →
    IsBytes (written places parts)
written_is_bytes f places parts file = IsBytes-written places parts file.bytes

pub written_accepted : (f : FileContents) (places : List ℕ) (parts : List WrittenPart) → IsWritable f places parts →
    IsFault (written places parts) None
unfolding b
written_accepted f places parts file = accepted f places parts file

pub written_read : (f : FileContents) (places : List ℕ) (parts : List WrittenPart) → IsWritable f places parts → (v : ImageValue) →
    Stands v (written places parts) → HasContents v f
unfolding b
written_read f places parts file = read f places parts file
