-- There is one image of a byte list, and its accessors return what the file has.
use Rattle.std.proofs.Common.{◌≡◌, ◌<◌, ℕ, List, length, take, sym, ap, subst, ◌∙◌, arith, zero, suc, Option, None, Some, [], ◌∷◌, map}
use Rattle.std.proofs.Common.{refl, ◌≤◌, ◌+◌, ◌-◌, ◌*◌, ◌/◌, ◌%◌, ◌++◌, drop, get_or, inl, inr, length-append, length-drop, Bool, true}
use Rattle.std.proofs.Common.{false, min}
use Rattle.std.specs.List.{AllByRecursion, range_with_len, flat_map, before_first}
use Rattle.std.proofs.Math.Nat.{mul-div-le, mul-le-mul_left}
use Rattle.std.proofs.lemmas.Bool.{cases_lt}
use Rattle.std.proofs.lemmas.List.{get_or-drop, get_or-take, length-take, length-take-le, take_more, take_all, take_rest}
use Rattle.std.proofs.lemmas.Grind.{flat_map-append}
use Rattle.std.proofs.lemmas.List.Concat.{get_or-flat_map}
use Rattle.std.specs.Prelude.{◌==◌, slice_index}
use Rattle.std.proofs.Math.ListN.{drop_of_length-le}
use Rattle.std.proofs.lemmas.List.Sums.{position_or_len_is}
use Rattle.elf_extent.proofs.Public.{one_account, some_account}
use Rattle.elf_extent.specs.Account.{Accounts}
use Rattle.elf_extent.specs.declared.extent.Piece.{Piece}
use Rattle.elf_field.proofs.RecordTableLaws.{length-table}
use Rattle.elf_field.specs.Bytes.{IsBytes}
use Rattle.elf_field.specs.laws.Bytes.{first_bytes-take}
use Rattle.elf_field.specs.Headers.{IsEhdrAt, IsShdrAt, IsPhdrAt}
use Rattle.elf_field.specs.laws.Headers.{ehdr_fields_at, shdr_fields_at, phdr_fields_at}
use Rattle.elf_field.specs.Record.{IsRecord}
use Rattle.elf_field.specs.declared.ehdr.Ehdr.{Ehdr}
use Rattle.elf_field.specs.declared.number.Order.{Order}
use Rattle.elf_field.specs.declared.phdr.Phdr.{Phdr}
use Rattle.elf_field.specs.declared.shdr.Shdr.{Shdr}
use Rattle.elf_image_outline.proofs.PartsOut.{IsPartAt, bytes_in_parts, joined_parts, part_in}
use Rattle.elf_image_outline.proofs.Standing.{clean_of, table_there, element_made, disjoint_of, length-joined}
use Rattle.elf_image_outline.proofs.Theorem.{counted_by_bytes, has_tables_by_bytes, made, made_is_image, tables_disjoint, tables_within}
use Rattle.elf_image_outline.specs.Image.{ImageValue, IsImage, no_program_header, no_section_header, program_header_of, section_header_of}
use Rattle.elf_image_outline.specs.Image.{PlacedPart, gap_in, owner_index, piece_of, value_extents, AreRecordsIn, part_piece, IsSoundImage}
use Rattle.elf_image_outline.specs.Image.{joined, part_bytes, value_names}
use Rattle.elf_image_outline.specs.Outline.{OutlineValue, image_of}
use Rattle.elf_image_outline.specs.declared.outline.Owner.TheVariants.{Header, ProgramTable, SectionTable, Content, Gap}
use Rattle.elf_image_outline.specs.declared.outline.Owner.{Owner}
use Rattle.elf_image_outline.specs.declared.outline.Part.{Part}
use Rattle.elf_image_rules.proofs.Public.{sections_read_at, rules_kept}
use Rattle.elf_image_rules.specs.Rules.{IsFault}
use Rattle.elf_image_rules.specs.Tables.{header, order_of, phdr_offset, sections, segments, shdr_offset, bytes_in, content_extent}
use Rattle.elf_image_rules.specs.Tables.{program_header_count, section_header_count}
use Rattle.elf_image_type.specs.ImageView.{HasAddress, IsFirstWithAddress}

-- Each field of an image's records is at its offset in the bytes that represent the image: the records are read from there, and a record's
-- layout puts each field at its own offset.

pub header_fields : (v : ImageValue) (b : List ℕ) → IsImage v b → IsEhdrAt (order_of v.header.e_ident) b 0 v.header
unfolding header
header_fields v b image =
    let stands = image.stands in
    let whole = stands.len in
    let long = (clean_of v (counted_by_bytes v b image)).header in
    let o = order_of (take 16 b) in
    let ident : v.header.e_ident ≡ take 16 b = ap (λ (h : Ehdr). h.e_ident) stands.records.header ∙ first_bytes-take 16 b (omega arith) in
    let read = subst (IsEhdrAt o b 0) (sym stands.records.header) (ehdr_fields_at o b 0 (omega arith) stands.bytes) in
    subst (λ (p : Order). IsEhdrAt p b 0 v.header) (sym (ap order_of ident)) read

pub section_fields : (v : ImageValue) (b : List ℕ) (k : ℕ) → IsImage v b → k < length v.sections →
    IsShdrAt (order_of v.header.e_ident) b (shdr_offset v.header k) (section_header_of v.sections k)
section_fields v b k image below =
    let stands = image.stands in
    let whole = stands.len in
    let counted = counted_by_bytes v b image in
    let count = counted.section_count in
    let shared = (has_tables_by_bytes v b image).count in
    let there = table_there v counted (omega arith) in
    let table = (clean_of v counted).section_table there in
    let read = ap (λ (f : ℕ → Shdr). f k) (sym (sections_read_at b v.header there)) ∙
    element_made (sections b v.header) v.sections no_section_header _ (sym stands.records.section_headers) k (omega arith) in
    subst (IsShdrAt (order_of v.header.e_ident) b (shdr_offset v.header k)) read
    (shdr_fields_at (order_of v.header.e_ident) b (shdr_offset v.header k) (omega arith) stands.bytes)

pub segment_fields : (v : ImageValue) (b : List ℕ) (j : ℕ) → IsImage v b → j < length v.segments →
    IsPhdrAt (order_of v.header.e_ident) b (phdr_offset v.header j) (program_header_of v.segments j)
unfolding segments
segment_fields v b j image below =
    let stands = image.stands in
    let whole = stands.len in
    let counted = counted_by_bytes v b image in
    let count = counted.segment_count in
    let shared = (has_tables_by_bytes v b image).segment_count in
    let table = (clean_of v counted).program_table (omega arith) in
    let read = element_made (segments b v.header) v.segments no_program_header _ (sym stands.records.program_headers) j (omega arith) in
    subst (IsPhdrAt (order_of v.header.e_ident) b (phdr_offset v.header j)) read
    (phdr_fields_at (order_of v.header.e_ident) b (phdr_offset v.header j) (omega arith) stands.bytes)

-- A list of bytes that breaks no rule represents at most one image. The header, tables and contents are read from the list, and disjoint
-- extents have one account (`one_account`). So two values that it represents agree in each field.

-- the owner of an index in the list of extents
abbrev pub owner_from : Option ℕ → Owner
owner_from None = Gap
owner_from (Some zero) = Header
owner_from (Some (suc zero)) = SectionTable
owner_from (Some (suc (suc zero))) = ProgramTable
owner_from (Some (suc (suc (suc i)))) = Content i

owner_from-index : (o : Owner) → owner_from (owner_index o) ≡ o
owner_from-index Header = refl
owner_from-index SectionTable = refl
owner_from-index ProgramTable = refl
owner_from-index (Content i) = refl
owner_from-index Gap = refl

same_owner : (a b : Owner) → owner_index a ≡ owner_index b → a ≡ b
same_owner a b same = sym (owner_from-index a) ∙ ap owner_from same ∙ owner_from-index b

same_part : (a b : Owner) (s t m n : ℕ) → a ≡ b → s ≡ t → m ≡ n →
    let p : Part = record { owner = a; start = s; len = m } in
    let q : Part = record { owner = b; start = t; len = n } in p ≡ q
same_part a b s t m n owners starts lens = cc

same_placed : (a b : Part) (x y : List ℕ) → a ≡ b → x ≡ y →
    let p : PlacedPart = record { part = a; gap = x } in
    let q : PlacedPart = record { part = b; gap = y } in p ≡ q
same_placed a b x y parts gaps = cc

-- parts with the same pieces, whose gaps have their bytes, are the same
same_parts : (b : List ℕ) (ps qs : List PlacedPart) → map piece_of ps ≡ map piece_of qs →
    AllByRecursion (λ p. p.gap ≡ gap_in b p.part) ps → AllByRecursion (λ p. p.gap ≡ gap_in b p.part) qs → ps ≡ qs
same_parts b [] [] same one two = refl
same_parts b [] (q ∷ qs) same one two = absurd (let none : [] ≡ piece_of q ∷ map piece_of qs = same in cc)
same_parts b (p ∷ ps) [] same one two = absurd (let none : piece_of p ∷ map piece_of ps ≡ [] = same in cc)
same_parts b (p ∷ ps) (q ∷ qs) same one two =
    let pieces : piece_of p ≡ piece_of q = cc in
    let others : map piece_of ps ≡ map piece_of qs = cc in
    let owners = same_owner p.part.owner q.part.owner (ap (λ (x : Piece). x.owner) pieces) in
    let parts : p.part ≡ q.part =
    same_part _ _ _ _ _ _ owners (ap (λ (x : Piece). x.start) pieces) (ap (λ (x : Piece). x.len) pieces) in
    let heads : p ≡ q = same_placed p.part q.part p.gap q.gap parts (one.0 ∙ ap (gap_in b) parts ∙ sym two.0) in
    let tails : ps ≡ qs = same_parts b ps qs others one.1 two.1 in
    cc

same_value : (l m : ℕ) (g h : Ehdr) (ss ts : List Shdr) (gs ks : List Phdr) (cs ds : List (List ℕ)) (ps qs : List PlacedPart) →
    l ≡ m → g ≡ h → ss ≡ ts → gs ≡ ks → cs ≡ ds → ps ≡ qs →
    let v : ImageValue = record { len = l; header = g; sections = ss; segments = gs; contents = cs; parts = ps } in
    let w : ImageValue = record { len = m; header = h; sections = ts; segments = ks; contents = ds; parts = qs } in v ≡ w
same_value l m g h ss ts gs ks cs ds ps qs lens headers sections segments contents parts = cc

pub one_image : (v w : ImageValue) (b : List ℕ) → IsImage v b → IsImage w b → v ≡ w
one_image v w b one two =
    let first = one.stands in
    let second = two.stands in
    let lens : v.len ≡ w.len = first.len ∙ sym second.len in
    let headers : v.header ≡ w.header = first.records.header ∙ sym second.records.header in
    let section_headers : v.sections ≡ w.sections = first.records.section_headers
    ∙ ap (λ (h : Ehdr). map (sections b h) (range_with_len 0 (section_header_count h (sections b h 0)))) headers ∙
    sym second.records.section_headers in
    let program_headers : v.segments ≡ w.segments = first.records.program_headers
    ∙ ap (λ (h : Ehdr). map (segments b h) (range_with_len 0 (program_header_count h (sections b h 0)))) headers ∙
    sym second.records.program_headers in
    let contents : v.contents ≡ w.contents = first.contents
    ∙ ap (map (λ s. bytes_in b (content_extent s))) section_headers ∙ sym second.contents in
    let of_len =
    subst (λ (n : ℕ). Accounts (value_extents w.header w.sections w.segments) n 0 (map piece_of w.parts)) (sym lens) second.accounts in
    let of_header =
    subst (λ (h : Ehdr). Accounts (value_extents h w.sections w.segments) v.len 0 (map piece_of w.parts)) (sym headers) of_len in
    let of_sections =
    subst (λ (ss : List Shdr). Accounts (value_extents v.header ss w.segments) v.len 0 (map piece_of w.parts))
    (sym section_headers) of_header in
    let accounts =
    subst (λ (gs : List Phdr). Accounts (value_extents v.header v.sections gs) v.len 0 (map piece_of w.parts))
    (sym program_headers) of_sections in
    let pieces =
    one_account _ v.len (map piece_of v.parts) (map piece_of w.parts) (disjoint_of v (counted_by_bytes v b one)) first.accounts accounts in
    let parts = same_parts b v.parts w.parts pieces first.gaps second.gaps in
    same_value _ _ _ _ _ _ _ _ _ _ _ _ lens headers section_headers program_headers contents parts

-- A list of bytes that breaks no rule is an image. Its extents share no byte and lie in the file, so they have an account (`SomeAccount`);
-- the tables and contents are read from the bytes.

owner_index-owner_from : (o : Option ℕ) → owner_index (owner_from o) ≡ o
owner_index-owner_from None = refl
owner_index-owner_from (Some zero) = refl
owner_index-owner_from (Some (suc zero)) = refl
owner_index-owner_from (Some (suc (suc zero))) = refl
owner_index-owner_from (Some (suc (suc (suc i)))) = refl

-- the part that a piece is
abbrev part_from : Piece → Part
part_from p = record { owner = owner_from p.owner; start = p.start; len = p.len }

same_piece : (a b : Option ℕ) (start len : ℕ) → a ≡ b →
    let p : Piece = record { owner = a; start = start; len = len } in
    let q : Piece = record { owner = b; start = start; len = len } in p ≡ q
same_piece a b start len same = cc

pieces_stay : (ps : List Piece) → map part_piece (map part_from ps) ≡ ps
pieces_stay [] = refl
pieces_stay (p ∷ ps) =
    let head : part_piece (part_from p) ≡ p = same_piece _ _ p.start p.len (owner_index-owner_from p.owner) in
    let tail : map part_piece (map part_from ps) ≡ ps = pieces_stay ps in
    cc

pub some_image : (b : List ℕ) → IsBytes b → IsFault b None → (v : ImageValue) × IsImage v b
some_image b are clean =
    let h = header b in
    let ss = map (sections b h) (range_with_len 0 (section_header_count h (sections b h 0))) in
    let gs = map (segments b h) (range_with_len 0 (program_header_count h (sections b h 0))) in
    let cs = map (λ s. bytes_in b (content_extent s)) ss in
    let records : AreRecordsIn b h ss gs = record { header = refl; section_headers = refl; program_headers = refl } in
    let account =
    some_account (value_extents h ss gs) (length b) (tables_disjoint b h ss gs records clean) (tables_within b h ss gs records clean) in
    let ps = map part_from account.0 in
    let accounts : Accounts (value_extents h ss gs) (length b) 0 (map part_piece ps) =
    subst (Accounts (value_extents h ss gs) (length b) 0) (sym (pieces_stay account.0)) account.1 in
    (made b h ss gs cs ps, made_is_image b h ss gs cs ps are records refl accounts clean)

-- The byte at an offset of an image's file. The parts account for every offset, so one part has it; a byte of a table lies in the record
-- at offset / size, and a byte of a segment lies in the file by rule 25.

-- ---- the parts

-- the part used for one that isn't there, and the one at a position
abbrev pub no_part : Part
no_part = record { owner = Header; start = 0; len = 0 }

abbrev pub part_of : List Part → ℕ → Part
part_of ps k = get_or ps k no_part

-- a part begins where those before it end, and has as many bytes as its length says
pub part_at : (o : OutlineValue) (cs : List (List ℕ)) (file : List ℕ) (ps : List Part) (k : ℕ) → IsSoundImage (image_of o cs file) →
    ps ≡ o.parts → k < length ps →
    IsPartAt (part_bytes (image_of o cs file)) o.zeroed file ps 0 k (part_of ps k)
part_at o cs file ps k = part_in o cs file ps k no_part

-- the parts up to one end where it ends
pub parts_end : (o : OutlineValue) (cs : List (List ℕ)) (file : List ℕ) (ps : List Part) (k : ℕ) → IsSoundImage (image_of o cs file) →
    ps ≡ o.parts → k < length ps →
    length (flat_map (bytes_in_parts o cs file) (take (k + 1) ps)) ≡ (part_of ps k).start + (part_of ps k).len
parts_end o cs file ps k sound same within =
    let f = bytes_in_parts o cs file in
    let part = part_at o cs file ps k sound same within in
    let start = part.start in
    let whole = part.whole in
    let more = ap (λ (qs : List Part). length (flat_map f qs)) (take_more ps k no_part within) in
    let split = ap length (flat_map-append f (take k ps) (part_of ps k ∷ [])) in
    let both = length-append (flat_map f (take k ps)) (f (part_of ps k) ++ []) in
    let last = length-append (f (part_of ps k)) [] in
    omega arith

-- no offset of the file lies after all parts
pub in_some_part : (o : OutlineValue) (cs : List (List ℕ)) (file : List ℕ) (ps : List Part) (offset : ℕ) →
    IsSoundImage (image_of o cs file) → ps ≡ o.parts →
    length (flat_map (bytes_in_parts o cs file) ps) ≤ offset → o.len ≤ offset
in_some_part o cs file ps offset sound same later =
    let whole = ap length (joined_parts o cs file ps same) in
    let long = length-joined (image_of o cs file) sound in
    omega arith

-- the byte at an offset is that of the part
pub in_part : (o : OutlineValue) (cs : List (List ℕ)) (file : List ℕ) (ps : List Part) (k offset : ℕ) → IsSoundImage (image_of o cs file) →
    ps ≡ o.parts → k < length ps →
    (part_of ps k).start ≤ offset → offset - (part_of ps k).start < (part_of ps k).len →
    get_or (bytes_in_parts o cs file (part_of ps k)) (offset - (part_of ps k).start) 0 ≡ get_or (joined (image_of o cs file)) offset 0
in_part o cs file ps k offset sound same within from below =
    let f = bytes_in_parts o cs file in
    let p = part_of ps k in
    let part = part_at o cs file ps k sound same within in
    let whole = part.whole in
    let start = part.start in
    let place : length (flat_map f (take k ps)) + (offset - p.start) ≡ offset = omega arith in
    sym (get_or-flat_map f ps k (offset - p.start) no_part 0 within (omega arith)) ∙ ap (λ (n : ℕ). get_or (flat_map f ps) n 0) place
    ∙ ap (λ (s : List ℕ). get_or s offset 0) (joined_parts o cs file ps same)

-- ---- records and gaps

-- the record of a table that a byte lies in
pub record_below : (size n k : ℕ) → 0 < size → k < size * n → k / size < n
record_below size n k some below = elim (cases_lt (k / size) n) [
  | inl lt ↦ lt
  | inr le ↦ absurd (let more = mul-le-mul_left size le in let whole = mul-div-le k size in omega arith)
]

pub in_table : {A : Type 0} {size : ℕ} {at : Order → List ℕ → ℕ → A} {bytes : Order → A → List ℕ} {V : A → Type 0} →
    IsRecord size at bytes V → (o : Order) (vs : List A) (k : ℕ) (d : A) → 0 < size → k < size * length vs →
    get_or (bytes o (get_or vs (k / size) d)) (k % size) 0 ≡ get_or (flat_map (bytes o) vs) k 0
in_table {size = size} {bytes = bytes} laws o vs k d some below =
    let i = k / size in
    let lt = record_below size (length vs) k some below in
    let before = length-table laws o (take i vs) in
    let many : length (take i vs) ≡ i = length-take-le i vs (omega arith) in
    let front : length (flat_map (bytes o) (take i vs)) ≡ size * i = before ∙ ap (λ (n : ℕ). size * n) many in
    let long = laws.length_is o (get_or vs i d) in
    let place : length (flat_map (bytes o) (take i vs)) + k % size ≡ k = omega arith in
    sym (get_or-flat_map (bytes o) vs i (k % size) d 0 lt (omega arith)) ∙ ap (λ (n : ℕ). get_or (flat_map (bytes o) vs) n 0) place

-- a byte of a gap as read is the file's, and lies in it
pub in_gap : (file : List ℕ) (start len k : ℕ) → length (take len (drop start file)) ≡ len → k < len →
    (start + k < length file) × (get_or file (start + k) 0 ≡ get_or (take len (drop start file)) k 0)
in_gap file start len k long below =
    let size = length-take len (drop start file) in
    let rest = length-drop start file in
    (omega arith, sym (get_or-take len (drop start file) k 0 below ∙ get_or-drop start file k 0))

-- ---- the segments

-- the byte that a loadable segment has in the file for an address lies there
segment_within : (v : ImageValue) (j x : ℕ) → IsSoundImage v → j < length v.segments → HasAddress (program_header_of v.segments j) x →
    x - (program_header_of v.segments j).p_vaddr < (program_header_of v.segments j).p_filesz →
    (program_header_of v.segments j).p_offset + (x - (program_header_of v.segments j).p_vaddr) < v.len
segment_within v j x sound lt has below =
    let kept = rules_kept v.len v.header (section_header_of v.sections) (program_header_of v.segments)
    (value_names v.header v.sections v.contents) sound.clean in
    let count = sound.segment_count in
    let load = has.0 in
    let within = kept.records.segments.bytes j (omega arith) (λ null. omega arith) (omega arith) in
    omega arith

-- so does that of the first one
pub segment_at_within : (v : ImageValue) (segments : List Phdr) (j x : ℕ) (segment : Phdr) → IsSoundImage v → segments ≡ v.segments →
    IsFirstWithAddress segments x j →
    segment ≡ program_header_of v.segments j → x - segment.p_vaddr < segment.p_filesz → segment.p_offset + (x - segment.p_vaddr) < v.len
segment_at_within v segments j x segment sound same first is =
    let first_of : IsFirstWithAddress v.segments x j = subst (λ (gs : List Phdr). IsFirstWithAddress gs x j) same first in
    subst (λ (g : Phdr). x - g.p_vaddr < g.p_filesz → g.p_offset + (x - g.p_vaddr) < v.len) (sym is)
    (segment_within v j x sound first_of.0 first_of.1)

-- The bytes up to the first zero of a list, or the whole list without a zero, are `before_first` of it (`before_zero`, `no_zero`). Both
-- follow from `position_or_len_is`. `rest_from` cuts a list at an offset, or at its end if the offset is past it.

not_true : (b : Bool) → (b ≡ true → ⊥) → b ≡ false
not_true true never = absurd (never refl)
not_true false never = refl

-- the first zero ends a string
pub before_zero : (xs : List ℕ) (k : ℕ) → k < length xs → ((j : ℕ) → 0 ≤ j → j < k → ((slice_index xs j == 0) ≡ true → ⊥)) →
    (slice_index xs k == 0) ≡ true →
    take k xs ≡ before_first (λ byte. byte == 0) xs
before_zero xs k within before here =
    ap (λ (n : ℕ). take n xs)
    (sym (position_or_len_is (λ byte. byte == 0) xs k 0 (omega arith)
    (λ j below. not_true (slice_index xs j == 0) (before j (omega arith) below)) (λ _. here)))

-- and the end does, where there is none
pub no_zero : (xs : List ℕ) → ((j : ℕ) → 0 ≤ j → j < length xs → ((slice_index xs j == 0) ≡ true → ⊥)) →
    xs ≡ before_first (λ byte. byte == 0) xs
no_zero xs before =
    sym (take_all (length xs) xs (omega arith)) ∙
    ap (λ (n : ℕ). take n xs)
    (sym (position_or_len_is (λ byte. byte == 0) xs (length xs) 0 (omega arith)
    (λ j below. not_true (slice_index xs j == 0) (before j (omega arith) below)) (λ lt. absurd (omega arith))))

-- what is left from an offset, or nothing past the end
pub rest_from : (xs : List ℕ) (x : ℕ) → take (length xs - min x (length xs)) (drop (min x (length xs)) xs) ≡ drop x xs
rest_from xs x =
    take_rest xs (min x (length xs)) ∙ elim (cases_lt x (length xs)) [
      | inl below ↦ ap (λ (n : ℕ). drop n xs) (omega arith)
      | inr past ↦ drop_of_length-le xs (omega arith) ∙ sym (drop_of_length-le xs (omega arith))
    ]
