-- The parts of a canonical layout as they are written. `IsGoing` says that the header and the first parts are written, with the zeros
-- between them. A part that is written extends them; if that fails, the bytes written are a beginning of the file. The content of a section
-- ends at 2^30 at most.
use Rattle.std.proofs.Common.{◌≡◌, ◌∙◌, ◌+◌, ◌-◌, ◌*◌, ◌/◌, ◌%◌, ◌^◌, ℕ, zero, suc, Bool, true, false, List, [], ◌∷◌, length, map, take_all}
use Rattle.std.proofs.Common.{refl, sym, ap, arith, zero-add, ◌<◌, ◌≤◌, Option, ◌++◌, take, drop, get_or, subst, append_assoc}
use Rattle.std.proofs.Common.{length-append, None, Some, append-nil, take-append-drop}
use Rattle.std.specs.List.{flat_map, range_with_len}
use Rattle.std.proofs.lemmas.Bool.{ne_eqb}
use Rattle.std.specs.Prelude.{replicate, Result, Ok, Err}
use Rattle.std.specs.Io.KnownBytes.{Appends, append_known}
use Rattle.std.proofs.Math.ListN.{drop_of_length-le}
use Rattle.std.proofs.KnownBytes.{Appends-trans}
use Rattle.std.proofs.lemmas.List.{append-nil, drop_more, get_or-append-add, get_or-map, get_or_append_left, length-map, length-replicate}
use Rattle.std.proofs.lemmas.List.{take-append-le, drop_at, take_at, length-take}
use Rattle.elf_extent.specs.Place.{Fits}
use Rattle.elf_field.proofs.RecordTableLaws.{entries_bytes, length-table}
use Rattle.elf_field.specs.Abi.{relocation_size}
use Rattle.elf_field.specs.Entries.{rel_at, rel_bytes, rela_at, rela_bytes}
use Rattle.elf_field.specs.laws.Entries.{rel_laws, rela_laws}
use Rattle.elf_field.specs.Headers.{ehdr_bytes, shdr_bytes}
use Rattle.elf_field.specs.laws.Headers.{ehdr_laws, shdr_laws}
use Rattle.elf_field.specs.declared.number.Order.{Order}
use Rattle.elf_field.specs.declared.rel.Rel.{Rel}
use Rattle.elf_field.specs.declared.rela.Rela.{Rela}
use Rattle.elf_image_outline.proofs.EntriesOut.{went_err}
use Rattle.elf_image_stream.specs.declared.fault.WriteFault.{WriteFault}
use Rattle.elf_image_type.proofs.Public.{order_identified}
use Rattle.elf_image_type.specs.WrittenFile.{spread, unaligned, all_headers, offsets, relocatable_bytes}
use Rattle.elf_object_strings.specs.StringTable.{name_offset}
use Rattle.elf_object_type.proofs.Public.{length_table_relocations}
use Rattle.elf_object_type.specs.Object.{IsRelocationTable, symbol_reference, table_count, table_relocation, table_relocations, ObjectValue}
use Rattle.elf_object_type.specs.declared.relocations.Relocation.{Relocation}
use Rattle.elf_object_layout.proofs.Public.{canonical_header, canonical_section_headers, contents_of, layout_order, offsets_are}
use Rattle.elf_object_layout.proofs.Public.{content_end}
use Rattle.elf_object_writer.proofs.HeaderTables.{length-headers}
use Rattle.elf_object_layout.specs.Laid.{index_of, rel_entry, rela_entry, relocation_bytes, layout_bytes, section_headers, IsLayoutOf}
use Rattle.elf_object_layout.specs.Laid.{LayoutValue, PlainSection, name_table_at, plain_sections, section_names}
use Rattle.elf_object_writer.specs.PlacedObject.{WritesAfter, header_table, IsPlacedObject, IsSectionAt, PlacedValue, plain_section}
use Rattle.elf_object_writer.specs.declared.placed_object.PlacedSection.TheVariants.{Names}
use Rattle.elf_object_writer.specs.declared.placed_object.PlacedSection.{PlacedSection}
use Rattle.std.proofs.Math.Seq.{drop-append-add, take-append-add}

-- The relocations that a table of a file lists have the bytes of that table. `r_info` is put together from its two halves, and an entry
-- that is read and written is the same, so all of them are.

index_back : (k : ℕ) → index_of (symbol_reference k) ≡ k
index_back zero = refl
index_back (suc k) =
    let other : suc k ≡ 0 → ⊥ = λ e. omega arith in
    rw (ne_eqb (suc k) 0 other) (let back : (suc k - 1) + 1 ≡ suc k = omega arith in back)

-- the halves of r_info put together again
info_back : (info : ℕ) → index_of (symbol_reference (info / 2 ^ 32)) * 2 ^ 32 + info % 2 ^ 32 ≡ info
info_back info = ap (λ (n : ℕ). n * 2 ^ 32 + info % 2 ^ 32) (index_back (info / 2 ^ 32)) ∙ omega arith

rela_back : (order : Order) (bytes : List ℕ) (j : ℕ) → rela_entry (table_relocation true order bytes j) ≡ rela_at order bytes (24 * j)
unfolding table_relocation
rela_back order bytes j =
    let e = rela_at order bytes (24 * j) in
    ap (λ (info : ℕ). let x : Rela = record { r_offset = e.r_offset; r_info = info; r_addend = e.r_addend } in x) (info_back e.r_info)

rel_back : (order : Order) (bytes : List ℕ) (j : ℕ) → rel_entry (table_relocation false order bytes j) ≡ rel_at order bytes (16 * j)
unfolding table_relocation
rel_back order bytes j =
    let e = rel_at order bytes (16 * j) in
    ap (λ (info : ℕ). let x : Rel = record { r_offset = e.r_offset; r_info = info } in x) (info_back e.r_info)

-- entries made of what was read are those that were read
entries_back : {A : Type 0} (entry : Relocation → A) (read : ℕ → Relocation) (at : ℕ → A) → ((j : ℕ) → entry (read j) ≡ at j) →
    (js : List ℕ) →
    map entry (map read js) ≡ map at js
entries_back entry read at each [] = refl
entries_back entry read at each (j ∷ js) = λ i. each j i ∷ entries_back entry read at each js i

whole_count : (rela : Bool) (order : Order) (bytes : List ℕ) (relocations : List Relocation) →
    IsRelocationTable rela order bytes relocations →
    length bytes ≡ relocation_size rela * table_count rela bytes
whole_count rela order bytes relocations is =
    is.whole ∙ ap (λ rs. relocation_size rela * length rs) is.relocations_are ∙
    ap (λ n. relocation_size rela * n) (length_table_relocations rela order bytes)

pub relocations_back : (rela : Bool) (order : Order) (bytes : List ℕ) (relocations : List Relocation) →
    IsRelocationTable rela order bytes relocations →
    relocation_bytes order rela relocations ≡ bytes
unfolding table_relocations
relocations_back true order bytes relocations is =
    let count = table_count true bytes in
    let long : length bytes ≡ 24 * count = whole_count true order bytes relocations is in
    ap (λ rs. flat_map (rela_bytes order) (map rela_entry rs)) is.relocations_are
    ∙ ap (flat_map (rela_bytes order))
    (entries_back rela_entry (table_relocation true order bytes) (λ j. rela_at order bytes (0 + 24 * j))
    (λ j. rela_back order bytes j ∙ ap (rela_at order bytes) (sym (zero-add (24 * j)))) (range_with_len 0 count))
    ∙ entries_bytes rela_laws order bytes 0 0 count is.are_bytes (omega arith)
    ∙ take_all (24 * count) bytes (omega arith)
relocations_back false order bytes relocations is =
    let count = table_count false bytes in
    let long : length bytes ≡ 16 * count = whole_count false order bytes relocations is in
    ap (λ rs. flat_map (rel_bytes order) (map rel_entry rs)) is.relocations_are
    ∙ ap (flat_map (rel_bytes order))
    (entries_back rel_entry (table_relocation false order bytes) (λ j. rel_at order bytes (0 + 16 * j))
    (λ j. rel_back order bytes j ∙ ap (rel_at order bytes) (sym (zero-add (16 * j)))) (range_with_len 0 count))
    ∙ entries_bytes rel_laws order bytes 0 0 count is.are_bytes (omega arith)
    ∙ take_all (16 * count) bytes (omega arith)

-- ---- bytes that go out in two pieces

-- the writer failed in the first
pub first_cut : (a b : Option (List ℕ)) (n : ℕ) (xs ys : List ℕ) → (n < length xs) × Appends a b (take n xs) →
    (n < length (xs ++ ys)) × Appends a b (take n (xs ++ ys))
first_cut a b n xs ys failed =
    let below = failed.0 in
    let all = length-append xs ys in
    (omega arith, subst (λ (s : List ℕ). Appends a b s) (sym (take-append-le n xs ys (omega arith))) failed.1)

-- it failed in the second
pub second_cut : (a b c : Option (List ℕ)) (m n : ℕ) (xs ys : List ℕ) → length xs ≡ m → Appends a b xs →
    (n < length ys) × Appends b c (take n ys) →
    (m + n < length (xs ++ ys)) × Appends a c (take (m + n) (xs ++ ys))
second_cut a b c m n xs ys long before failed =
    subst (λ (s : List ℕ). (m + n < length (xs ++ s)) × Appends a c (take (m + n) (xs ++ s))) (append-nil ys)
    (went_err a b c m n xs ys [] long before failed)

-- ---- bytes that go out part by part

-- the bytes that are out, and the parts that are still to come at their places
pub record IsGoing (a b : Option (List ℕ)) (whole : List ℕ) (at : ℕ) (q : List ℕ) (ps : List (List ℕ)) : Type 0 where
  pub out : List ℕ
  pub long : length out ≡ at
  pub sent : Appends a b out
  pub rest : whole ≡ out ++ spread at q ps
  pub fits : Fits (map unaligned ps) at q

one_sent : (a b c : Option (List ℕ)) (whole : List ℕ) (at end x : ℕ) (q : List ℕ) (p : List ℕ) (ps : List (List ℕ)) →
    IsGoing a b whole at (x ∷ q) (p ∷ ps) →
    (end ≡ at + length (replicate (x - at) 0 ++ p)) × Appends b c (replicate (x - at) 0 ++ p) → IsGoing a c whole end q ps
one_sent a b c whole at end x q p ps going went =
    let zeros : List ℕ = replicate (x - at) 0 in
    let both = length-append zeros p in
    let count : length zeros ≡ x - at = length-replicate (x - at) 0 in
    let above = going.fits.1 in
    let here : x + length p ≡ end = (let e = went.0 in omega arith) in
    let long = length-append going.out (zeros ++ p) in
    let before = going.long in
    let ended = went.0 in
    record {
      out = going.out ++ (zeros ++ p);
      long = omega arith;
      sent = Appends-trans a b c going.out (zeros ++ p) going.sent went.1;
      rest = going.rest ∙ ap (λ (s : List ℕ). going.out ++ s) (sym (append_assoc zeros p (spread (x + length p) q ps)))
          ∙ sym (append_assoc going.out (zeros ++ p) (spread (x + length p) q ps)) ∙
          ap (λ (n : ℕ). (going.out ++ (zeros ++ p)) ++ spread n q ps) here;
      fits = subst (λ (n : ℕ). Fits (map unaligned ps) n q) here going.fits.2;
    }

one_cut : (a b c : Option (List ℕ)) (whole : List ℕ) (at written x : ℕ) (q : List ℕ) (p : List ℕ) (ps : List (List ℕ)) →
    IsGoing a b whole at (x ∷ q) (p ∷ ps) →
    (at ≤ written) × (written < at + length (replicate (x - at) 0 ++ p)) × Appends b c (take (written - at) (replicate (x - at) 0 ++ p)) →
    (written < length whole) × Appends a c (take written whole)
one_cut a b c whole at written x q p ps going failed =
    let zeros : List ℕ = replicate (x - at) 0 in
    let rest : List ℕ = spread (x + length p) q ps in
    let whole_is : whole ≡ going.out ++ ((zeros ++ p) ++ rest) =
    going.rest ∙ ap (λ (s : List ℕ). going.out ++ s) (sym (append_assoc zeros p rest)) in
    let above = failed.0 in
    let below = failed.1 in
    let sum : at + (written - at) ≡ written = omega arith in
    let all = went_err a b c at
    (written - at) going.out (zeros ++ p) rest going.long going.sent
    ((let n : written - at < length (zeros ++ p) = omega arith in n), failed.2) in
    subst (λ (s : List ℕ). (written < length s) × Appends a c (take written s)) (sym whole_is)
    (subst (λ (n : ℕ). (n < length (going.out ++ ((zeros ++ p) ++ rest))) × Appends a c (take n (going.out ++ ((zeros ++ p) ++ rest)))) sum
    all)

-- ---- part k of a list

pub moved : (a b : Option (List ℕ)) (whole : List ℕ) (at : ℕ) (q : List ℕ) (ps : List (List ℕ)) (k : ℕ) → k < length q → k < length ps →
    IsGoing a b whole at (drop k q) (drop k ps) →
    IsGoing a b whole at (get_or q k 0 ∷ drop (k + 1) q) (get_or ps k [] ∷ drop (k + 1) ps)
moved a b whole at q ps k in_q in_ps going =
    subst (λ (r : List ℕ). IsGoing a b whole at r (get_or ps k [] ∷ drop (k + 1) ps)) (drop_more q k 0 in_q)
    (subst (λ (rs : List (List ℕ)). IsGoing a b whole at (drop k q) rs) (drop_more ps k [] in_ps) going)

pub part_sent : (a b c : Option (List ℕ)) (whole : List ℕ) (at end : ℕ) (q : List ℕ) (ps : List (List ℕ)) (k : ℕ) → k < length q →
    k < length ps →
    IsGoing a b whole at (drop k q) (drop k ps) → WritesAfter at b c (replicate (get_or q k 0 - at) 0 ++ get_or ps k []) (Ok end) →
    IsGoing a c whole end (drop (k + 1) q) (drop (k + 1) ps)
part_sent a b c whole at end q ps k in_q in_ps going went =
    one_sent a b c whole at
    end (get_or q k 0) (drop (k + 1) q) (get_or ps k []) (drop (k + 1) ps) (moved a b whole at q ps k in_q in_ps going) went

pub part_cut : (a b c : Option (List ℕ)) (whole : List ℕ) (at : ℕ) (fault : WriteFault) (q : List ℕ) (ps : List (List ℕ)) (k : ℕ) →
    k < length q → k < length ps →
    IsGoing a b whole at (drop k q) (drop k ps) → WritesAfter at b c (replicate (get_or q k 0 - at) 0 ++ get_or ps k []) (Err fault) →
    (fault.written < length whole) × Appends a c (take fault.written whole)
part_cut a b c whole at fault q ps k in_q in_ps going failed =
    one_cut a b c whole at
    fault.written (get_or q k 0) (drop (k + 1) q) (get_or ps k []) (drop (k + 1) ps) (moved a b whole at q ps k in_q in_ps going) failed

pub part_place : (a b : Option (List ℕ)) (whole : List ℕ) (at : ℕ) (q : List ℕ) (ps : List (List ℕ)) (k : ℕ) → k < length q →
    k < length ps →
    IsGoing a b whole at (drop k q) (drop k ps) → at ≤ get_or q k 0
part_place a b whole at q ps k in_q in_ps going = (moved a b whole at q ps k in_q in_ps going).fits.1

-- nothing is to come
pub all_sent : (a b : Option (List ℕ)) (whole : List ℕ) (at : ℕ) (q : List ℕ) → IsGoing a b whole at q [] → Appends a b whole
all_sent a b whole at [] going = subst (Appends a b) (sym (going.rest ∙ append-nil going.out)) going.sent
all_sent a b whole at (x ∷ q) going = absurd going.fits

-- ---- the parts of the layout

-- the contents and the section header table
abbrev pub laid_parts : ObjectValue → List ℕ → List (List ℕ)
laid_parts o places = contents_of o ++ (header_table o places ∷ [])

pub length-parts : (o : ObjectValue) (places : List ℕ) → length (laid_parts o places) ≡ length (plain_sections o) + 1
length-parts o places =
    let both = length-append (contents_of o) (header_table o places ∷ []) in
    let same = length-map (plain_sections o) (λ (s : PlainSection). s.content) in
    omega arith

pub content_at : (o : ObjectValue) (places : List ℕ) (k : ℕ) (d : PlainSection) → k < length (plain_sections o) →
    get_or (laid_parts o places) k [] ≡ (get_or (plain_sections o) k d).content
content_at o places k d lt =
    let same = length-map (plain_sections o) (λ (s : PlainSection). s.content) in
    get_or_append_left (contents_of o) (header_table o places ∷ []) [] k (omega arith) ∙
    get_or-map (λ (s : PlainSection). s.content) (plain_sections o) k d [] lt

table_at : (o : ObjectValue) (places : List ℕ) → get_or (laid_parts o places) (length (plain_sections o)) [] ≡ header_table o places
table_at o places =
    let same = length-map (plain_sections o) (λ (s : PlainSection). s.content) in
    let e : length (plain_sections o) ≡ length (contents_of o) + 0 = omega arith in
    ap (λ (k : ℕ). get_or (laid_parts o places) k []) e ∙ get_or-append-add (contents_of o) (header_table o places ∷ []) 0 []

-- the header's bytes
unfoldable pub header_bytes : ObjectValue → List ℕ → List ℕ
header_bytes o places = ehdr_bytes o.order (canonical_header o places)

pub length-header_bytes : (o : ObjectValue) (places : List ℕ) → length (header_bytes o places) ≡ 64
unfolding header_bytes
length-header_bytes o places = ehdr_laws.length_is o.order (canonical_header o places)

places_are : (o : ObjectValue) (layout : LayoutValue) → IsLayoutOf o layout →
    offsets (canonical_header o layout.places) (canonical_section_headers o layout.places) ≡ layout.places
places_are o layout laid =
    offsets_are (name_offset (section_names o)) (plain_sections o) layout.places (let count = laid.count in omega arith)

layout_is : (o : ObjectValue) (layout : LayoutValue) → IsLayoutOf o layout →
    layout_bytes o layout.places ≡ header_bytes o layout.places ++ spread 64 layout.places (laid_parts o layout.places)
unfolding layout_bytes relocatable_bytes header_table header_bytes
layout_is o layout laid =
    let q = layout.places in
    let h = canonical_header o q in
    let ss = canonical_section_headers o q in
    let cs = contents_of o in
    let parts : Order → List (List ℕ) = λ order. cs ++ (flat_map (shdr_bytes order) (all_headers ss (name_table_at o)) ∷ []) in
    let long : 0 + length (ehdr_bytes o.order h) ≡ 64 = (let e = ehdr_laws.length_is o.order h in omega arith) in
    ap (λ (order : Order). ehdr_bytes order h ++ spread (0 + length (ehdr_bytes order h)) (offsets h ss) (parts order))
    (order_identified o.order o.osabi o.abi)
    ∙ ap (λ (places : List ℕ). ehdr_bytes o.order h ++ spread (0 + length (ehdr_bytes o.order h)) places (parts o.order))
    (places_are o layout laid)
    ∙ ap (λ (n : ℕ). ehdr_bytes o.order h ++ spread n q (parts o.order)) long

parts_fit : (o : ObjectValue) (layout : LayoutValue) → IsLayoutOf o layout →
    Fits (map unaligned (laid_parts o layout.places)) 64 layout.places
unfolding header_table
parts_fit o layout laid =
    let q = layout.places in
    let h = canonical_header o q in
    let ss = canonical_section_headers o q in
    let parts : Order → List (List ℕ) = λ order. contents_of o ++ (flat_map (shdr_bytes order) (all_headers ss (name_table_at o)) ∷ []) in
    subst (λ (places : List ℕ). Fits (map unaligned (parts o.order)) 64 places) (places_are o layout laid)
    (subst (λ (order : Order). Fits (map unaligned (parts order)) 64 (offsets h ss)) (order_identified o.order o.osabi o.abi)
    (layout_order o q laid.least.fits))

-- ---- the layout as it goes out

pub header_sent : (p : PlacedValue) (a b : Option (List ℕ)) → IsPlacedObject p → Appends a b (header_bytes p.object p.layout.places) →
    IsGoing a b (layout_bytes p.object p.layout.places) 64 p.layout.places (laid_parts p.object p.layout.places)
header_sent p a b placed went = record {
  out = header_bytes p.object p.layout.places;
  long = length-header_bytes p.object p.layout.places;
  sent = went;
  rest = layout_is p.object p.layout placed.layout;
  fits = parts_fit p.object p.layout placed.layout;
}

pub header_cut : (p : PlacedValue) (a b : Option (List ℕ)) (n : ℕ) → IsPlacedObject p →
    (n < length (header_bytes p.object p.layout.places)) × Appends a b (take n (header_bytes p.object p.layout.places)) →
    (n < length (layout_bytes p.object p.layout.places)) × Appends a b (take n (layout_bytes p.object p.layout.places))
header_cut p a b n placed failed =
    let front = header_bytes p.object p.layout.places in
    let rest = spread 64 p.layout.places (laid_parts p.object p.layout.places) in
    let below = failed.0 in
    let both = length-append front rest in
    let first : take n (front ++ rest) ≡ take n front = take-append-le n front rest (omega arith) in
    subst (λ (s : List ℕ). (n < length s) × Appends a b (take n s)) (sym (layout_is p.object p.layout placed.layout))
    (omega arith, subst (Appends a b) (sym first) failed.1)

-- so much is out of the object's layout, and the parts from this position on are to come
abbrev pub IsGoingAt : PlacedValue → Option (List ℕ) → Option (List ℕ) → ℕ → ℕ → Type 0
IsGoingAt p a b at k =
    IsGoing a b (layout_bytes p.object p.layout.places) at (drop k p.layout.places) (drop k (laid_parts p.object p.layout.places))

-- the content at a position as it goes out
content_goes : (p : PlacedValue) (k at : ℕ) → k < length (plain_sections p.object) →
    (b c : Option (List ℕ)) (result : Result ℕ WriteFault) →
    ((d : PlainSection) →
    WritesAfter at b c (replicate (get_or p.layout.places k 0 - at) 0 ++ (get_or (plain_sections p.object) k d).content) result) →
    WritesAfter at b c (replicate (get_or p.layout.places k 0 - at) 0 ++ get_or (laid_parts p.object p.layout.places) k []) result
content_goes p k at lt b c result went =
    let d = plain_section p.object Names in
    let zeros : List ℕ = replicate (get_or p.layout.places k 0 - at) 0 in
    subst (λ (s : List ℕ). WritesAfter at b c (zeros ++ s) result) (sym (content_at p.object p.layout.places k d lt)) (went d)

pub content_place : (p : PlacedValue) (a b : Option (List ℕ)) (at k : ℕ) → IsPlacedObject p → k ≤ length (plain_sections p.object) →
    IsGoingAt p a b at k → at ≤ get_or p.layout.places k 0
content_place p a b at k placed le going =
    let count = placed.layout.count in
    let parts = length-parts p.object p.layout.places in
    part_place a b _ at p.layout.places (laid_parts p.object p.layout.places) k (omega arith) (omega arith) going

pub content_sent : (p : PlacedValue) (a b c : Option (List ℕ)) (at end k : ℕ) → IsPlacedObject p → k < length (plain_sections p.object) →
    IsGoingAt p a b at k →
    ((d : PlainSection) →
    WritesAfter at b c (replicate (get_or p.layout.places k 0 - at) 0 ++ (get_or (plain_sections p.object) k d).content) (Ok end)) →
    IsGoingAt p a c end (k + 1)
content_sent p a b c at end k placed lt going went =
    let count = placed.layout.count in
    let parts = length-parts p.object p.layout.places in
    part_sent a b c _ at
    end p.layout.places (laid_parts p.object p.layout.places) k (omega arith) (omega arith) going (content_goes p k at lt b c (Ok end) went)

pub content_cut : (p : PlacedValue) (a b c : Option (List ℕ)) (at k : ℕ) (fault : WriteFault) → IsPlacedObject p →
    k < length (plain_sections p.object) → IsGoingAt p a b at k →
    ((d : PlainSection) →
    WritesAfter at b c (replicate (get_or p.layout.places k 0 - at) 0 ++ (get_or (plain_sections p.object) k d).content) (Err fault)) →
    (fault.written < length (layout_bytes p.object p.layout.places)) ×
    Appends a c (take fault.written (layout_bytes p.object p.layout.places))
content_cut p a b c at k fault placed lt going failed =
    let count = placed.layout.count in
    let parts = length-parts p.object p.layout.places in
    part_cut a b c _ at
    fault p.layout.places (laid_parts p.object p.layout.places) k (omega arith) (omega arith) going
    (content_goes p k at lt b c (Err fault) failed)

-- the section header table is the last part
table_goes : (p : PlacedValue) (k at : ℕ) → k ≡ length (plain_sections p.object) → (b c : Option (List ℕ)) (result : Result ℕ WriteFault) →
    WritesAfter at
    b c (replicate (get_or p.layout.places (length (plain_sections p.object)) 0 - at) 0 ++ header_table p.object p.layout.places) result →
    WritesAfter at b c (replicate (get_or p.layout.places k 0 - at) 0 ++ get_or (laid_parts p.object p.layout.places) k []) result
table_goes p k at last b c result went =
    let Q : ℕ → List ℕ → Type 0 = λ n s. WritesAfter at b c (replicate (get_or p.layout.places n 0 - at) 0 ++ s) result in
    subst (λ (n : ℕ). Q n (get_or (laid_parts p.object p.layout.places) n [])) (sym last)
    (subst (Q (length (plain_sections p.object))) (sym (table_at p.object p.layout.places)) went)

pub table_place : (p : PlacedValue) (a b : Option (List ℕ)) (at k : ℕ) → IsPlacedObject p → k ≡ length (plain_sections p.object) →
    IsGoingAt p a b at k →
    at ≤ get_or p.layout.places (length (plain_sections p.object)) 0
table_place p a b at k placed last going =
    subst (λ (n : ℕ). at ≤ get_or p.layout.places n 0) last (content_place p a b at k placed (omega arith) going)

pub table_sent : (p : PlacedValue) (a b c : Option (List ℕ)) (at end k : ℕ) → IsPlacedObject p → k ≡ length (plain_sections p.object) →
    IsGoingAt p a b at k →
    WritesAfter at
    b c (replicate (get_or p.layout.places (length (plain_sections p.object)) 0 - at) 0 ++ header_table p.object p.layout.places) (Ok end) →
    Appends a c (layout_bytes p.object p.layout.places)
table_sent p a b c at end k placed last going went =
    let q = p.layout.places in
    let ps = laid_parts p.object q in
    let count = placed.layout.count in
    let parts = length-parts p.object q in
    let later = part_sent a b c _ at end q ps k (omega arith) (omega arith) going (table_goes p k at last b c (Ok end) went) in
    all_sent a c _ end (drop (k + 1) q)
    (subst (λ (rs : List (List ℕ)). IsGoing a c (layout_bytes p.object q) end (drop (k + 1) q) rs)
    (drop_of_length-le ps {i = k + 1} (omega arith)) later)

pub table_cut : (p : PlacedValue) (a b c : Option (List ℕ)) (at k : ℕ) (fault : WriteFault) → IsPlacedObject p →
    k ≡ length (plain_sections p.object) → IsGoingAt p a b at k →
    WritesAfter at
    b c (replicate (get_or p.layout.places (length (plain_sections p.object)) 0 - at) 0 ++ header_table p.object p.layout.places)
    (Err fault) →
    (fault.written < length (layout_bytes p.object p.layout.places)) ×
    Appends a c (take fault.written (layout_bytes p.object p.layout.places))
table_cut p a b c at k fault placed last going failed =
    let count = placed.layout.count in
    let parts = length-parts p.object p.layout.places in
    part_cut a b c _ at
    fault p.layout.places (laid_parts p.object p.layout.places) k (omega arith) (omega arith) going
    (table_goes p k at last b c (Err fault) failed)

-- ---- how far the parts reach

pub length-header_table : (p : PlacedValue) → IsPlacedObject p →
    length (header_table p.object p.layout.places) ≡ 64 * (length (plain_sections p.object) + 1)
unfolding header_table
length-header_table p placed =
    let o = p.object in
    let headers = section_headers (name_offset (section_names o)) (plain_sections o) p.layout.places in
    let all = length-table shdr_laws o.order (all_headers headers (name_table_at o)) in
    let same = length-headers (name_offset (section_names o)) (plain_sections o) p.layout.places placed.layout.count in
    omega arith

pub part_end : (p : PlacedValue) (k : ℕ) (s : PlacedSection) → IsPlacedObject p → k < length (plain_sections p.object) →
    IsSectionAt p.object k s →
    get_or p.layout.places k 0 + length (plain_section p.object s).content ≤ 2 ^ 30
part_end p k s placed lt at =
    let end = content_end p.object p.layout k (plain_section p.object s) placed.layout lt in
    let same = ap (λ (q : PlainSection). length q.content) at.is in
    omega arith

-- Bytes that wait to go out together, after what a writer holds. A part that joins them, or that goes out after them, extends both
-- together as it would extend the writer's bytes alone. If a call fails, the writer has a beginning of what waited and of the part.

-- ---- one part

-- it joins the bytes that wait
pub joined : (b : Option (List ℕ)) (w v bytes : List ℕ) (at end : ℕ) → WritesAfter at (Some w) (Some v) bytes (Ok end) →
    WritesAfter at (append_known b w) (append_known b v) bytes (Ok end)
joined None w v bytes at end (is, went) = (is, tt)
joined (Some ys) w v bytes at end (is, went) = (is, ap (λ (s : List ℕ). ys ++ s) went ∙ sym (append_assoc ys w bytes))

-- and so it does not make them longer than all that is out or waits
pub joined_long : (w v bytes : List ℕ) (at end : ℕ) → WritesAfter at (Some w) (Some v) bytes (Ok end) → length w ≤ at → length v ≤ end
joined_long w v bytes at end (is, went) few = let long = ap length went ∙ length-append w bytes in omega arith

-- a failed try is undone
pub undone : (w v bytes : List ℕ) (at n : ℕ) (fault : WriteFault) → n ≡ length w → WritesAfter at (Some w) (Some v) bytes (Err fault) →
    take n v ≡ w
undone w v bytes at n fault long (low, below, went) = ap (take n) went ∙ take_at w (take (fault.written - at) bytes) n (sym long)

-- what waits goes out, and the part after it
pub passed : (b c d : Option (List ℕ)) (w bytes : List ℕ) (at end : ℕ) → Appends b c w → WritesAfter at c d bytes (Ok end) →
    WritesAfter at (append_known b w) (append_known d []) bytes (Ok end)
passed None c d w bytes at end sent (is, went) = (is, tt)
passed (Some ys) None d w bytes at end sent (is, went) = absurd sent
passed (Some ys) (Some zs) None w bytes at end sent (is, went) = absurd went
passed (Some ys) (Some zs) (Some vs) w bytes at end sent (is, went) = (is, append-nil vs ∙ went ∙ ap (λ (s : List ℕ). s ++ bytes) sent)

-- the part fails after it
pub passed_cut : (b c d : Option (List ℕ)) (w bytes : List ℕ) (at : ℕ) (fault : WriteFault) → length w ≤ at → Appends b c w →
    WritesAfter at c d bytes (Err fault) → WritesAfter (at - length w) b d (w ++ bytes) (Err fault)
passed_cut b c d w bytes at fault few sent (low, below, went) =
    let both = length-append w bytes in
    let written : fault.written - (at - length w) ≡ length w + (fault.written - at) = omega arith in
    let first : take (fault.written - (at - length w)) (w ++ bytes) ≡ w ++ take (fault.written - at) bytes =
    ap (λ (n : ℕ). take n (w ++ bytes)) written ∙ take-append-add w bytes (fault.written - at) in (
      omega arith,
      omega arith,
      subst (λ (s : List ℕ). Appends b d s) (sym first) (Appends-trans b c d w (take (fault.written - at) bytes) sent went),
    )

-- what waits fails itself
pub waiting_cut : (b c : Option (List ℕ)) (w bytes : List ℕ) (start : ℕ) (fault : WriteFault) → WritesAfter start b c w (Err fault) →
    WritesAfter start b c (w ++ bytes) (Err fault)
waiting_cut b c w bytes start fault (low, below, went) =
    let both = length-append w bytes in (
      low,
      omega arith,
      subst (λ (s : List ℕ). Appends b c s) (sym (take-append-le (fault.written - start) w bytes (omega arith))) went,
    )

-- ---- all parts so far

-- nothing waits at first
pub none_waits : (a b : Option (List ℕ)) (whole : List ℕ) (at : ℕ) (q : List ℕ) (ps : List (List ℕ)) → IsGoing a b whole at q ps →
    IsGoing a (append_known b []) whole at q ps
none_waits a b whole at q ps going =
    record { out = going.out; long = going.long; sent = by a b going.sent; rest = going.rest; fits = going.fits } where
      by : (a b : Option (List ℕ)) → Appends a b going.out → Appends a (append_known b []) going.out
      by None b sent = tt
      by (Some xs) None sent = absurd sent
      by (Some xs) (Some ys) sent = append-nil ys ∙ sent

-- what waits goes out
pub waiting_sent : (a b c : Option (List ℕ)) (w whole : List ℕ) (at : ℕ) (q : List ℕ) (ps : List (List ℕ)) →
    IsGoing a (append_known b w) whole at q ps →
    Appends b c w → IsGoing a c whole at q ps
waiting_sent a b c w whole at q ps going went =
    record { out = going.out; long = going.long; sent = by a b c going.sent went; rest = going.rest; fits = going.fits } where
      by : (a b c : Option (List ℕ)) → Appends a (append_known b w) going.out → Appends b c w → Appends a c going.out
      by None b c sent went = tt
      by (Some xs) None c sent went = absurd sent
      by (Some xs) (Some ys) None sent went = absurd went
      by (Some xs) (Some ys) (Some zs) sent went = went ∙ sent

-- what waits is the end of what is out or waits
split : (xs ys w out : List ℕ) (at : ℕ) → length out ≡ at → length w ≤ at → ys ++ w ≡ xs ++ out →
    (ys ≡ xs ++ take (at - length w) out) × (w ≡ drop (at - length w) out)
split xs ys w out at long few same =
    let m = at - length w in
    let left = length-append ys w in
    let right = length-append xs out in
    let both = ap length same in
    let count : length ys ≡ length xs + m = omega arith in (
      sym (take_at ys w (length ys) refl) ∙ ap (take (length ys)) same ∙ ap (λ (n : ℕ). take n (xs ++ out)) count ∙
          take-append-add xs out m,
      sym (drop_at ys w (length ys) refl) ∙ ap (drop (length ys)) same ∙ ap (λ (n : ℕ). drop n (xs ++ out)) count ∙
          drop-append-add xs out m,
    )

-- a call fails within what waits and the next part
pub going_cut : (a b c : Option (List ℕ)) (w whole : List ℕ) (at x : ℕ) (fault : WriteFault) (q : List ℕ) (p : List ℕ)
    (ps : List (List ℕ)) →
    IsGoing a (append_known b w) whole at (x ∷ q) (p ∷ ps) → length w ≤ at →
    WritesAfter (at - length w) b c (w ++ (replicate (x - at) 0 ++ p)) (Err fault) →
    (fault.written < length whole) × Appends a c (take fault.written whole)
going_cut a b c w whole at x fault q p ps going few failed = by a b going.sent failed where
  zeros : List ℕ
  zeros = replicate (x - at) 0

  rest : List ℕ
  rest = spread (x + length p) q ps

  whole_is : whole ≡ going.out ++ ((zeros ++ p) ++ rest)
  whole_is = going.rest ∙ ap (λ (s : List ℕ). going.out ++ s) (sym (append_assoc zeros p rest))

  by : (a b : Option (List ℕ)) → Appends a (append_known b w) going.out →
      WritesAfter (at - length w) b c (w ++ (zeros ++ p)) (Err fault) →
      (fault.written < length whole) × Appends a c (take fault.written whole)
  by None b sent (low, below, went) =
      let all = ap length whole_is ∙ length-append going.out ((zeros ++ p) ++ rest) in
      let next = length-append (zeros ++ p) rest in
      let both = length-append w (zeros ++ p) in
      let long = going.long in
      (omega arith, tt)
  by (Some xs) None sent failed = absurd sent
  by (Some xs) (Some ys) sent (low, below, went) =
      let m = at - length w in
      let first : List ℕ = take m going.out in
      let (is, waits) = split xs ys w going.out at going.long few sent in
      let parts : going.out ≡ first ++ w = sym (take-append-drop m going.out) ∙ ap (λ (s : List ℕ). first ++ s) (sym waits) in
      let all : whole ≡ first ++ ((w ++ (zeros ++ p)) ++ rest) =
      whole_is ∙ ap (λ (s : List ℕ). s ++ ((zeros ++ p) ++ rest)) parts ∙ append_assoc first w ((zeros ++ p) ++ rest)
      ∙ ap (λ (s : List ℕ). first ++ s) (sym (append_assoc w (zeros ++ p) rest)) in
      let long : length first ≡ m = (let out = going.long in let taken = length-take m going.out in omega arith) in
      let sum : m + (fault.written - m) ≡ fault.written = omega arith in
      let cut = went_err (Some xs) (Some ys) c m (fault.written - m) first (w ++ (zeros ++ p)) rest long is
      ((let n : fault.written - m < length (w ++ (zeros ++ p)) = omega arith in n), went) in
      subst (λ (s : List ℕ). (fault.written < length s) × Appends (Some xs) c (take fault.written s)) (sym all)
      (subst (λ (n : ℕ). (n < length (first ++ ((w ++ (zeros ++ p)) ++ rest))) ×
      Appends (Some xs) c (take n (first ++ ((w ++ (zeros ++ p)) ++ rest)))) sum cut)

-- ---- the parts of a layout

-- a call fails within what waits and the content of the next section
pub content_fails : (p : PlacedValue) (a b c : Option (List ℕ)) (w : List ℕ) (at k : ℕ) (fault : WriteFault) → IsPlacedObject p →
    k < length (plain_sections p.object) → IsGoingAt p a (append_known b w) at k → length w ≤ at →
    ((d : PlainSection) → WritesAfter (at - length w) b c
    (w ++ (replicate (get_or p.layout.places k 0 - at) 0 ++ (get_or (plain_sections p.object) k d).content)) (Err fault)) →
    (fault.written < length (layout_bytes p.object p.layout.places)) ×
    Appends a c (take fault.written (layout_bytes p.object p.layout.places))
content_fails p a b c w at k fault placed lt going few failed =
    let q = p.layout.places in
    let ps = laid_parts p.object q in
    let d = plain_section p.object Names in
    let count = placed.layout.count in
    let parts = length-parts p.object q in
    let part = subst (λ (s : List ℕ). WritesAfter (at - length w) b c (w ++ (replicate (get_or q k 0 - at) 0 ++ s)) (Err fault))
    (sym (content_at p.object q k d lt)) (failed d) in
    going_cut a b c w _ at (get_or q k 0) fault (drop (k + 1) q) (get_or ps k []) (drop (k + 1) ps)
    (moved a (append_known b w) _ at q ps k (omega arith) (omega arith) going) few part

-- or within what waits after all contents
pub waiting_fails : (p : PlacedValue) (a b c : Option (List ℕ)) (w : List ℕ) (at k : ℕ) (fault : WriteFault) → IsPlacedObject p →
    k ≡ length (plain_sections p.object) → IsGoingAt p a (append_known b w) at k → length w ≤ at →
    WritesAfter (at - length w) b c w (Err fault) →
    (fault.written < length (layout_bytes p.object p.layout.places)) ×
    Appends a c (take fault.written (layout_bytes p.object p.layout.places))
waiting_fails p a b c w at k fault placed last going few failed =
    let q = p.layout.places in
    let ps = laid_parts p.object q in
    let count = placed.layout.count in
    let parts = length-parts p.object q in
    going_cut a b c w _ at (get_or q k 0) fault (drop (k + 1) q) (get_or ps k []) (drop (k + 1) ps)
    (moved a (append_known b w) _ at q ps k (omega arith) (omega arith) going) few
    (waiting_cut b c w (replicate (get_or q k 0 - at) 0 ++ get_or ps k []) (at - length w) fault failed)
