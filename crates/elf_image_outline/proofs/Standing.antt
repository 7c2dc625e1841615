-- A value that breaks no rule, and has as many records as it counts (`IsCounted`), has extents that share no byte and lie in its length.
-- The extents of the value are those that the rules look at (`extents_are`), so this follows from the facts on clean files. Small facts
-- on lists by index come first. A written file is validated by its parts and owners: that no byte is shared follows from their order, and
-- needs no proof about every two.
use Rattle.std.proofs.Common.{◌≡◌, ◌+◌, ℕ, List, [], ◌∷◌, ◌++◌, length, take, drop, map, sym, ap, ap₂, ◌∙◌, arith, append_assoc}
use Rattle.std.proofs.Common.{length-append, ◌≢◌, ◌≤◌, ◌<◌, ◌*◌, zero, suc, None, Some, get_or, refl, subst, inl, inr, add-zero, lit≤}
use Rattle.std.specs.List.{AllByRecursion, flat_map, range_with_len}
use Rattle.std.proofs.lemmas.List.{drop-drop, drop_at, take_at, take-append-drop, nil_from_length, take-take}
use Rattle.std.proofs.Math.ListN.{drop_of_length-le}
use Rattle.std.specs.Prelude.{slice_get}
use Rattle.std.proofs.lemmas.Bool.{cases_lt, cases_eq}
use Rattle.std.proofs.lemmas.List.FromFn.{get_or-map-range_with_len}
use Rattle.elf_extent.proofs.Public.{piece_for, IsPiece, in_piece, piece_at, pieces_ascend}
use Rattle.elf_extent.specs.Account.{Accounts, IsOwned}
use Rattle.elf_extent.specs.Extent.{AreDisjoint, AreWithin}
use Rattle.elf_extent.specs.declared.extent.Extent.{Extent}
use Rattle.elf_extent.specs.declared.extent.Piece.{Piece}
use Rattle.elf_field.proofs.RecordTableLaws.{length-table, IsBytes-table, entries_read, record_read}
use Rattle.elf_field.specs.Abi.{EHDR_SIZE, PHDR_SIZE, SHDR_SIZE}
use Rattle.elf_field.specs.Bytes.{IsBytes, bytes_of, first_bytes}
use Rattle.elf_field.specs.laws.Bytes.{IsBytes-append, IsBytes-nil, first_bytes-all, length-first_bytes}
use Rattle.elf_field.specs.Headers.{ehdr_bytes, shdr_bytes, phdr_bytes, IsEhdr, ehdr_values, ehdr_widths}
use Rattle.elf_field.specs.laws.Headers.{shdr_laws, phdr_laws, ehdr_laws}
use Rattle.elf_field.specs.Headers.{IsShdr, IsPhdr}
use Rattle.elf_field.specs.Record.{spelled}
use Rattle.elf_field.specs.laws.Record.{spelled-front}
use Rattle.elf_field.specs.declared.ehdr.Ehdr.{Ehdr}
use Rattle.elf_field.specs.declared.phdr.Phdr.{Phdr}
use Rattle.elf_field.specs.declared.shdr.Shdr.{Shdr}
use Rattle.elf_image_outline.specs.Image.{PlacedPart, piece_of, AreWithinBytes, ImageValue, IsSoundImage, value_rules, no_section_header}
use Rattle.elf_image_outline.specs.Image.{section_header_of, program_header_of, value_extents, value_names, gap_len, if_gap, joined}
use Rattle.elf_image_outline.specs.Image.{owned_bytes, owner_index, part_bytes, Stands, gap_in, part_piece, AreParts, IsExtentOf}
use Rattle.elf_image_outline.specs.Image.{IsOnlyPartAt}
use Rattle.elf_image_outline.specs.declared.outline.Owner.TheVariants.{Header, ProgramTable, SectionTable, Content, Gap}
use Rattle.elf_image_outline.specs.declared.outline.Owner.{Owner}
use Rattle.elf_image_outline.specs.declared.outline.Part.{Part}
use Rattle.elf_image_rules.proofs.Public.{clean_records, content_some, extents_disjoint, sound_tables, sections_none, sections_read_at}
use Rattle.elf_image_rules.specs.KeepsRules.{HasSoundTables}
use Rattle.elf_image_rules.specs.Rows.{FirstIn}
use Rattle.elf_image_rules.specs.Rules.{extents}
use Rattle.elf_image_rules.specs.Tables.{content_extent, program_header_count, section_header_count, order_of, bytes_in, header, sections}
use Rattle.elf_image_rules.specs.Tables.{segments}

-- Parts that account for every offset, joined: the list has the length of the account, and each part's bytes are at its offset. Conversely,
-- parts that have a list's bytes at their offsets join to that list. By induction on the parts; each begins where the one before it ends.

-- each part's bytes are as many as its length
abbrev pub HaveLengths : (PlacedPart → List ℕ) → List PlacedPart → Type 0
HaveLengths f ps = AllByRecursion (λ p. length (f p) ≡ p.part.len) ps

-- the parts' bytes reach from the first part to the end
pub length-flat_parts : (f : PlacedPart → List ℕ) (es : List Extent) (total at : ℕ) (ps : List PlacedPart) →
    Accounts es total at (map piece_of ps) → HaveLengths f ps → at + length (flat_map f ps) ≡ total
length-flat_parts f es total at [] accounts lengths = omega (arith, accounts)
length-flat_parts f es total at (p ∷ ps) accounts lengths =
    let rest = length-flat_parts f es total (at + p.part.len) ps accounts.3 lengths.1 in
    let more = length-append (f p) (flat_map f ps) in
    let here = lengths.0 in
    omega arith

-- the bytes of each part are at its offset, after bytes that reach to the first part
pub in_flat_parts : (f : PlacedPart → List ℕ) (es : List Extent) (total at : ℕ) (front : List ℕ) (ps : List PlacedPart) →
    Accounts es total at (map piece_of ps) → HaveLengths f ps → length front ≡ at →
    AllByRecursion (λ p. take p.part.len (drop p.part.start (front ++ flat_map f ps)) ≡ f p) ps
in_flat_parts f es total at front [] accounts lengths long = tt
in_flat_parts f es total at front (p ∷ ps) accounts lengths long =
    let start : p.part.start ≡ at = accounts.0 in
    let rest = drop_at front (f p ++ flat_map f ps) p.part.start (long ∙ sym start) in
    let here : take p.part.len (drop p.part.start (front ++ (f p ++ flat_map f ps))) ≡ f p =
    ap (take p.part.len) rest ∙ take_at (f p) (flat_map f ps) p.part.len lengths.0 in
    let longer : length (front ++ f p) ≡ at + p.part.len = let e = length-append front (f p) in let l = lengths.0 in omega arith in
    let later = in_flat_parts f es total (at + p.part.len) (front ++ f p) ps accounts.3 lengths.1 longer in
    (here, rw (append_assoc front (f p) (flat_map f ps)) at later)

-- parts that have a list's bytes at their offsets make the rest of the list
pub flat_parts_are : (f : PlacedPart → List ℕ) (b : List ℕ) (es : List Extent) (total at : ℕ) (ps : List PlacedPart) →
    Accounts es total at (map piece_of ps) → total ≡ length b →
    AllByRecursion (λ p. f p ≡ take p.part.len (drop p.part.start b)) ps → flat_map f ps ≡ drop at b
flat_parts_are f b es total at [] accounts whole are = sym (drop_of_length-le b (omega (arith, accounts)))
flat_parts_are f b es total at (p ∷ ps) accounts whole are =
    let start : p.part.start ≡ at = accounts.0 in
    let rest = flat_parts_are f b es total (at + p.part.len) ps accounts.3 whole are.1 in
    let here : f p ≡ take p.part.len (drop at b) = are.0 ∙ ap (λ (n : ℕ). take p.part.len (drop n b)) start in
    ap₂ (λ (s t : List ℕ). s ++ t) here (rest ∙ sym (drop-drop p.part.len at b)) ∙ take-append-drop p.part.len (drop at b)

-- ---- lists by index

pub at_index : {A : Type 0} (P : A → Type 0) (xs : List A) (k : ℕ) (x : A) → AllByRecursion P xs → slice_get xs k ≡ Some x → P x
at_index P [] k x all here = absurd (let none : None ≡ Some x = here in cc)
at_index P (y ∷ ys) zero x all here = let same : y ≡ x = cc in subst P same all.0
at_index P (y ∷ ys) (suc k) x all here = at_index P ys k x all.1 here

-- where a mapped list has an element, it comes from one of the list
pub mapped_at : {A B : Type 0} (f : A → B) (xs : List A) (k : ℕ) (y : B) → slice_get (map f xs) k ≡ Some y →
    (x : A) × (slice_get xs k ≡ Some x) × (f x ≡ y)
mapped_at f [] k y here = absurd (let none : None ≡ Some y = here in cc)
mapped_at f (x ∷ xs) zero y here = (x, refl, cc)
mapped_at f (x ∷ xs) (suc k) y here = mapped_at f xs k y here

pub within_list : {A : Type 0} (xs : List A) (k : ℕ) (x : A) → slice_get xs k ≡ Some x → k < length xs
within_list [] k x here = absurd (let none : None ≡ Some x = here in cc)
within_list (y ∷ ys) zero x here = omega arith
within_list (y ∷ ys) (suc k) x here = let rest = within_list ys k x here in omega arith

pub get_or_at : {A : Type 0} (xs : List A) (k : ℕ) (x d : A) → slice_get xs k ≡ Some x → get_or xs k d ≡ x
get_or_at [] k x d here = absurd (let none : None ≡ Some x = here in cc)
get_or_at (y ∷ ys) zero x d here = cc
get_or_at (y ∷ ys) (suc k) x d here = get_or_at ys k x d here

-- a function of the elements of a list, by their indexes
map_shifted : {B : Type 0} (g : ℕ → B) (a n : ℕ) → map g (range_with_len (suc a) n) ≡ map (λ i. g (suc i)) (range_with_len a n)
map_shifted g a zero = refl
map_shifted g a (suc n) =
    let next : suc a + 1 ≡ suc (a + 1) = omega arith in
    ap (λ (xs : List _). g (suc a) ∷ xs) (ap (λ (k : ℕ). map g (range_with_len k n)) next ∙ map_shifted g (a + 1) n)

pub map_by_index : {A B : Type 0} (f : A → B) (xs : List A) (d : A) → map (λ i. f (get_or xs i d)) (range_with_len 0 (length xs)) ≡ map f xs
map_by_index f [] d = refl
map_by_index f (x ∷ xs) d =
    let first : 0 + 1 ≡ suc 0 = refl in
    ap (λ (ys : List _). f x ∷ ys) (map_shifted (λ i. f (get_or (x ∷ xs) i d)) 0 (length xs) ∙ map_by_index f xs d)

-- ---- the extents of a value

-- the extents that the rules speak of are those of the value
pub extents_are : (h : Ehdr) (ss : List Shdr) (gs : List Phdr) (n m : ℕ) → length ss ≡ n → length gs ≡ m →
    extents h n m (section_header_of ss) ≡ value_extents h ss gs
unfolding extents
extents_are h ss gs n m sections segments =
    subst (λ (k : ℕ). extents h k m (section_header_of ss) ≡ value_extents h ss gs) sections
    (subst (λ (k : ℕ). extents h (length ss) k (section_header_of ss) ≡ value_extents h ss gs) segments
    (ap (λ (cs : List Extent). record { start = 0; len = EHDR_SIZE } ∷ record { start = h.e_shoff; len = SHDR_SIZE * length ss } ∷ record
    { start = h.e_phoff; len = PHDR_SIZE * length gs } ∷ cs)
    (map_by_index content_extent ss no_section_header)))

-- a value whose records are as many as it says, and that breaks no rule
pub record IsCounted (v : ImageValue) : Type 0 where
  pub section_count : length v.sections ≡ section_header_count v.header (section_header_of v.sections 0)
  pub segment_count : length v.segments ≡ program_header_count v.header (section_header_of v.sections 0)
  pub clean : FirstIn (value_rules v) None

pub counted_of : (v : ImageValue) → IsSoundImage v → IsCounted v
counted_of v sound = record { section_count = sound.section_count; segment_count = sound.segment_count; clean = sound.clean }

-- what is known of a counted value from the rules that it keeps
pub clean_of : (v : ImageValue) → IsCounted v → HasSoundTables v.len v.header (section_header_of v.sections)
clean_of v counted =
    let names = value_names v.header v.sections v.contents in
    sound_tables v.len v.header (section_header_of v.sections) (program_header_of v.segments) names
    (clean_records v.len v.header (section_header_of v.sections) (program_header_of v.segments) names counted.clean)

pub disjoint_of : (v : ImageValue) → IsCounted v → AreDisjoint (value_extents v.header v.sections v.segments)
disjoint_of v counted =
    let same = extents_are v.header v.sections v.segments _ _ counted.section_count counted.segment_count in
    subst AreDisjoint same
    (extents_disjoint v.len v.header (section_header_of v.sections) (program_header_of v.segments)
    (value_names v.header v.sections v.contents) counted.clean)

-- a section table that is not empty is there
pub table_there : (v : ImageValue) → IsCounted v → 0 < length v.sections → v.header.e_shoff ≢ 0
table_there v counted some none =
    let count = counted.section_count in
    let zero_count : section_header_count v.header (section_header_of v.sections 0) ≡ 0 = rw none refl in
    omega arith

-- a content that is not empty lies in the file
pub content_within : (v : ImageValue) → IsCounted v → (k : ℕ) (s : Shdr) → slice_get v.sections k ≡ Some s → 0 < (content_extent s).len →
    s.sh_offset + (content_extent s).len ≤ v.len
content_within v counted zero s at some =
    let is_first : section_header_of v.sections 0 ≡ s = get_or_at v.sections 0 s no_section_header at in
    let null : s.sh_type ≡ 0 =
    ap (λ (t : Shdr). t.sh_type) (sym is_first) ∙ (clean_of v counted).null (table_there v counted (within_list v.sections 0 s at)) in
    absurd ((content_some s some).0 null)
content_within v counted (suc k) s at some =
    let is : section_header_of v.sections (suc k) ≡ s = get_or_at v.sections (suc k) s no_section_header at in
    let facts = content_some s some in
    let below : suc k < section_header_count v.header (section_header_of v.sections 0) = let lt = within_list v.sections (suc k) s at in
    let count = counted.section_count in omega arith in
    let P : Shdr → Type 0 = λ t. t.sh_type ≢ 0 → t.sh_type ≢ 8 → 0 < t.sh_size → t.sh_offset + t.sh_size ≤ v.len in
    let rule : P s = subst P is ((clean_of v counted).content (suc k) (omega arith) below) in
    rw facts.2 (rule facts.0 facts.1 (let same = facts.2 in omega arith))

-- each extent of the value lies in the file
pub within_of : (v : ImageValue) → IsCounted v → AreWithin (value_extents v.header v.sections v.segments) v.len
within_of v counted i e here some = by_index i here where
  clean : HasSoundTables v.len v.header (section_header_of v.sections)
  clean = clean_of v counted

  in_table : 0 < length v.sections → v.header.e_shoff + SHDR_SIZE * length v.sections ≤ v.len
  in_table some = rw counted.section_count (clean.section_table (table_there v counted some))

  in_program : 0 < length v.segments → v.header.e_phoff + PHDR_SIZE * length v.segments ≤ v.len
  in_program some = rw counted.segment_count (clean.program_table (let count = counted.segment_count in omega arith))

  -- an extent by its fields
  fields : (d : Extent) → Some d ≡ Some e → d.start + d.len ≤ v.len → e.start + e.len ≤ v.len
  fields d same le = let equal : d ≡ e = cc in subst (λ (x : Extent). x.start + x.len ≤ v.len) equal le

  some_of : (d : Extent) → Some d ≡ Some e → 0 < d.len
  some_of d same = let equal : d ≡ e = cc in subst (λ (x : Extent). 0 < x.len) (sym equal) some

  by_index : (k : ℕ) → slice_get (value_extents v.header v.sections v.segments) k ≡ Some e → e.start + e.len ≤ v.len
  by_index zero at = fields _ at (let l = clean.header in omega arith)
  by_index (suc zero) at = fields _ at (in_table (let l = some_of _ at in omega arith))
  by_index (suc (suc zero)) at = fields _ at (in_program (let l = some_of _ at in omega arith))
  by_index (suc (suc (suc k))) at =
      let from = mapped_at content_extent v.sections k e at in
      let P : Extent → Type 0 = λ x. 0 < x.len → x.start + x.len ≤ v.len in
      subst P from.2 (content_within v counted k from.0 from.1) some

-- so do its records
pub records_within : (v : ImageValue) (b : List ℕ) → IsCounted v → v.len ≡ length b → AreWithinBytes b v.header v.sections v.segments
records_within v b counted len =
    let clean = clean_of v counted in
    let sections_count = counted.section_count in
    let segments_count = counted.segment_count in
    record {
      header = (let long = clean.header in omega arith);
      section_headers = λ i lt. (let within = clean.section_table (table_there v counted (omega arith)) in omega arith);
      program_headers = λ j lt. (let within = clean.program_table (omega arith) in omega arith);
    }

-- What is where in the joined parts of a sound image value. Each part has as many bytes as its length and the parts account for every
-- offset, so each part's bytes are at its offset; an extent's bytes are those of its part.

-- ---- each part's bytes are as many as its length

pub same_start : (d e : Extent) → Some d ≡ Some e → d.start ≡ e.start
same_start d e same = let equal : d ≡ e = cc in ap (λ (x : Extent). x.start) equal

pub same_len : (d e : Extent) → Some d ≡ Some e → d.len ≡ e.len
same_len d e same = let equal : d ≡ e = cc in ap (λ (x : Extent). x.len) equal

-- a content is as long as its extent
pub length-content : (cs : List (List ℕ)) (ss : List Shdr) (i : ℕ) (e : Extent) → map length cs ≡ map (λ s. (content_extent s).len) ss →
    slice_get (map content_extent ss) i ≡ Some e → length (get_or cs i []) ≡ e.len
length-content [] [] i e lengths at = absurd (let none : None ≡ Some e = at in cc)
length-content [] (s ∷ ss) i e lengths at = absurd cc
length-content (c ∷ cs) [] i e lengths at = absurd cc
length-content (c ∷ cs) (s ∷ ss) zero e lengths at = let head : length c ≡ (content_extent s).len = cc in
    head ∙ same_len (content_extent s) e at
length-content (c ∷ cs) (s ∷ ss) (suc i) e lengths at =
    let tail : map length cs ≡ map (λ s. (content_extent s).len) ss = cc in length-content cs ss i e tail at

length-owned : (v : ImageValue) → IsSoundImage v → (o : Owner) (gap : List ℕ) (start len : ℕ) →
    IsOwned (value_extents v.header v.sections v.segments) v.len start len (owner_index o) → length gap ≡ if_gap o len 0 →
    length (owned_bytes v gap o) ≡ len
length-owned v sound Header gap start len owned gaps = ehdr_laws.length_is _ v.header ∙ same_len _ _ owned
length-owned v sound SectionTable gap start len owned gaps = length-table shdr_laws _ v.sections ∙ same_len _ _ owned
length-owned v sound ProgramTable gap start len owned gaps = length-table phdr_laws _ v.segments ∙ same_len _ _ owned
length-owned v sound (Content i) gap start len owned gaps = length-content v.contents v.sections i _ sound.lengths owned
length-owned v sound Gap gap start len owned gaps = gaps

lengths_from : (v : ImageValue) → IsSoundImage v → (at : ℕ) (ps : List PlacedPart) →
    Accounts (value_extents v.header v.sections v.segments) v.len at (map piece_of ps) →
    AllByRecursion (λ p. IsBytes p.gap × (length p.gap ≡ gap_len p.part)) ps → HaveLengths (part_bytes v) ps
lengths_from v sound at [] accounts gaps = tt
lengths_from v sound at (p ∷ ps) accounts gaps = (
  length-owned v sound p.part.owner p.gap p.part.start p.part.len accounts.2 gaps.0.1,
  lengths_from v sound (at + p.part.len) ps accounts.3 gaps.1,
)

pub lengths_of : (v : ImageValue) → IsSoundImage v → HaveLengths (part_bytes v) v.parts
lengths_of v sound = lengths_from v sound 0 v.parts sound.accounts sound.gaps

-- the joined parts have the value's length
pub length-joined : (v : ImageValue) → IsSoundImage v → length (joined v) ≡ v.len
unfolding joined
length-joined v sound =
    let e = length-flat_parts (part_bytes v) (value_extents v.header v.sections v.segments) v.len 0 v.parts sound.accounts
    (lengths_of v sound) in
    omega arith

-- each part's bytes are at its offset
pub in_joined : (v : ImageValue) → IsSoundImage v →
    AllByRecursion (λ p. take p.part.len (drop p.part.start (joined v)) ≡ part_bytes v p) v.parts
unfolding joined
in_joined v sound =
    in_flat_parts (part_bytes v) (value_extents v.header v.sections v.segments) v.len 0 [] v.parts sound.accounts (lengths_of v sound) refl

-- ---- an extent's bytes are at its offset

is_header : (o : Owner) → owner_index o ≡ Some 0 → o ≡ Header
is_header Header e = refl
is_header SectionTable e = absurd cc
is_header ProgramTable e = absurd cc
is_header (Content i) e = absurd (let h : suc (suc (suc i)) ≡ 0 = cc in omega arith)
is_header Gap e = absurd cc

is_section_table : (o : Owner) → owner_index o ≡ Some 1 → o ≡ SectionTable
is_section_table Header e = absurd cc
is_section_table SectionTable e = refl
is_section_table ProgramTable e = absurd cc
is_section_table (Content i) e = absurd (let h : suc (suc (suc i)) ≡ 1 = cc in omega arith)
is_section_table Gap e = absurd cc

is_program_table : (o : Owner) → owner_index o ≡ Some 2 → o ≡ ProgramTable
is_program_table Header e = absurd cc
is_program_table SectionTable e = absurd cc
is_program_table ProgramTable e = refl
is_program_table (Content i) e = absurd (let h : suc (suc (suc i)) ≡ 2 = cc in omega arith)
is_program_table Gap e = absurd cc

is_content : (i : ℕ) (o : Owner) → owner_index o ≡ Some (suc (suc (suc i))) → o ≡ Content i
is_content i Header e = absurd (let h : 0 ≡ suc (suc (suc i)) = cc in omega arith)
is_content i SectionTable e = absurd (let h : 1 ≡ suc (suc (suc i)) = cc in omega arith)
is_content i ProgramTable e = absurd (let h : 2 ≡ suc (suc (suc i)) = cc in omega arith)
is_content i (Content j) e = let h : suc (suc (suc j)) ≡ suc (suc (suc i)) = cc in let same : j ≡ i = omega arith in ap Content same
is_content i Gap e = absurd cc

-- the part of an extent that holds a byte
record IsPartOf (v : ImageValue) (i : ℕ) (e : Extent) (p : PlacedPart) : Type 0 where
  owner : owner_index p.part.owner ≡ Some i
  bytes : take e.len (drop e.start (joined v)) ≡ part_bytes v p

part_of_extent : (v : ImageValue) → IsSoundImage v → (i : ℕ) (e : Extent) →
    slice_get (value_extents v.header v.sections v.segments) i ≡ Some e → 0 < e.len → (p : PlacedPart) × IsPartOf v i e p
part_of_extent v sound i e here some =
    let es = value_extents v.header v.sections v.segments in
    let within = within_of v (counted_of v sound) i e here some in
    let found = piece_for es v.len (map piece_of v.parts) i e (disjoint_of v (counted_of v sound)) sound.accounts here some (omega arith) in
    let from = mapped_at piece_of v.parts found.0 _ found.1 in
    let stand = at_index (λ p. take p.part.len (drop p.part.start (joined v)) ≡ part_bytes v p) v.parts found.0 from.0
    (in_joined v sound) from.1 in
    let owner : owner_index from.0.part.owner ≡ Some i = ap (λ (q : Piece). q.owner) from.2 in
    let start : from.0.part.start ≡ e.start = ap (λ (q : Piece). q.start) from.2 in
    let len : from.0.part.len ≡ e.len = ap (λ (q : Piece). q.len) from.2 in (
      from.0,
      record {
        owner = owner;
        bytes = ap₂ (λ (m n : ℕ). take m (drop n (joined v))) (sym len) (sym start) ∙ stand;
      },
    )

-- the bytes at an extent are its owner's, also where it holds none
holds : (v : ImageValue) → IsSoundImage v → (i : ℕ) (e : Extent) (o : Owner) →
    slice_get (value_extents v.header v.sections v.segments) i ≡ Some e → ((p : Owner) → owner_index p ≡ Some i → p ≡ o) →
    length (owned_bytes v [] o) ≡ e.len →
    ((gap : List ℕ) → owned_bytes v gap o ≡ owned_bytes v [] o) →
    take e.len (drop e.start (joined v)) ≡ owned_bytes v [] o
holds v sound i e o here is long same =
    elim (cases_lt 0 e.len) [
      | inl some ↦
          (let found = part_of_extent v sound i e here some in
          let owner = is found.0.part.owner found.1.owner in
          found.1.bytes ∙ ap (owned_bytes v found.0.gap) owner ∙ same found.0.gap)
      | inr none ↦
          (let empty : e.len ≡ 0 = omega arith in
          ap (λ (n : ℕ). take n (drop e.start (joined v))) empty ∙ sym (nil_from_length (owned_bytes v [] o) (long ∙ empty)))
    ]

pub holds_header : (v : ImageValue) → IsSoundImage v → take EHDR_SIZE (joined v) ≡ ehdr_bytes (order_of v.header.e_ident) v.header
holds_header v sound =
    holds v sound 0 (record { start = 0; len = EHDR_SIZE }) Header refl is_header (ehdr_laws.length_is _ v.header) (λ gap. refl)

pub holds_sections : (v : ImageValue) → IsSoundImage v →
    take (SHDR_SIZE * length v.sections) (drop v.header.e_shoff (joined v)) ≡ flat_map (shdr_bytes (order_of v.header.e_ident)) v.sections
holds_sections v sound =
    holds v sound 1 (record { start = v.header.e_shoff; len = SHDR_SIZE * length v.sections }) SectionTable refl is_section_table
    (length-table shdr_laws _ v.sections) (λ gap. refl)

pub holds_segments : (v : ImageValue) → IsSoundImage v →
    take (PHDR_SIZE * length v.segments) (drop v.header.e_phoff (joined v)) ≡ flat_map (phdr_bytes (order_of v.header.e_ident)) v.segments
holds_segments v sound =
    holds v sound 2 (record { start = v.header.e_phoff; len = PHDR_SIZE * length v.segments }) ProgramTable refl is_program_table
    (length-table phdr_laws _ v.segments) (λ gap. refl)

pub holds_content : (v : ImageValue) → IsSoundImage v → (i : ℕ) (e : Extent) → slice_get (map content_extent v.sections) i ≡ Some e →
    take e.len (drop e.start (joined v)) ≡ get_or v.contents i []
holds_content v sound i e here =
    holds v sound (suc (suc (suc i))) e (Content i) here (is_content i) (length-content v.contents v.sections i e sound.lengths here)
    (λ gap. refl)

-- A sound image value is represented by its joined parts. These hold the bytes of each record and content at its offset (`Holds`), and a
-- record is read back from its bytes, so what is read of them is the value again.

-- ---- the joined parts are bytes

IsBytes-get : (cs : List (List ℕ)) (i : ℕ) → AllByRecursion IsBytes cs → IsBytes (get_or cs i [])
IsBytes-get [] i all = IsBytes-nil
IsBytes-get (c ∷ cs) zero all = all.0
IsBytes-get (c ∷ cs) (suc i) all = IsBytes-get cs i all.1

IsBytes-owned : (v : ImageValue) → IsSoundImage v → (o : Owner) (gap : List ℕ) → IsBytes gap → IsBytes (owned_bytes v gap o)
IsBytes-owned v sound Header gap are = ehdr_laws.are_bytes _ v.header sound.header
IsBytes-owned v sound SectionTable gap are = IsBytes-table shdr_laws _ v.sections sound.section_headers
IsBytes-owned v sound ProgramTable gap are = IsBytes-table phdr_laws _ v.segments sound.program_headers
IsBytes-owned v sound (Content i) gap are = IsBytes-get v.contents i sound.bytes
IsBytes-owned v sound Gap gap are = are

IsBytes-parts : (v : ImageValue) → IsSoundImage v → (ps : List PlacedPart) →
    AllByRecursion (λ p. IsBytes p.gap × (length p.gap ≡ gap_len p.part)) ps →
    IsBytes (flat_map (part_bytes v) ps)
IsBytes-parts v sound [] gaps = IsBytes-nil
IsBytes-parts v sound (p ∷ ps) gaps =
    IsBytes-append (part_bytes v p) (flat_map (part_bytes v) ps) (IsBytes-owned v sound p.part.owner p.gap gaps.0.0)
    (IsBytes-parts v sound ps gaps.1)

pub IsBytes-joined : (v : ImageValue) → IsSoundImage v → IsBytes (joined v)
unfolding joined
IsBytes-joined v sound = IsBytes-parts v sound v.parts sound.gaps

-- ---- what is read of a list that holds the records

-- the header of a list that begins with its bytes
pub header_read : (b : List ℕ) (h : Ehdr) → IsEhdr h → take EHDR_SIZE b ≡ ehdr_bytes (order_of h.e_ident) h → h ≡ header b
unfolding header
header_read b h fits stand =
    let o = order_of h.e_ident in
    let ident = first_bytes 16 h.e_ident in
    let same : take 16 b ≡ h.e_ident =
    sym (take-take 16 64 b (lit≤ tt)) ∙ ap (take 16) (stand ∙ spelled-front o ident ehdr_widths (ehdr_values h))
    ∙ take_at ident (spelled (bytes_of o) [] ehdr_widths (ehdr_values h)) 16 (length-first_bytes 16 h.e_ident)
    ∙ first_bytes-all 16 h.e_ident fits.e_ident in
    rw same (sym (record_read ehdr_laws o b 0 h fits stand))

-- the section headers, as many as there are
pub sections_read : (b : List ℕ) (h : Ehdr) (ss : List Shdr) → (0 < length ss → h.e_shoff ≢ 0) → AllByRecursion IsShdr ss →
    take (SHDR_SIZE * length ss) (drop h.e_shoff b) ≡ flat_map (shdr_bytes (order_of h.e_ident)) ss →
    map (sections b h) (range_with_len 0 (length ss)) ≡ ss
sections_read b h [] table fit stand = refl
sections_read b h (s ∷ ss) table fit stand =
    let there : h.e_shoff ≢ 0 = table (omega arith) in
    let n = length (s ∷ ss) in
    ap (λ (f : ℕ → Shdr). map f (range_with_len 0 n)) (sections_read_at b h there)
    ∙ entries_read shdr_laws (order_of h.e_ident) b h.e_shoff 0 (s ∷ ss) fit
    (ap (λ (x : ℕ). take (SHDR_SIZE * n) (drop x b)) (add-zero h.e_shoff) ∙ stand)

pub segments_read : (b : List ℕ) (h : Ehdr) (gs : List Phdr) → AllByRecursion IsPhdr gs →
    take (PHDR_SIZE * length gs) (drop h.e_phoff b) ≡ flat_map (phdr_bytes (order_of h.e_ident)) gs →
    map (segments b h) (range_with_len 0 (length gs)) ≡ gs
unfolding segments
segments_read b h gs fit stand =
    entries_read phdr_laws (order_of h.e_ident) b h.e_phoff 0 gs fit
    (ap (λ (x : ℕ). take (PHDR_SIZE * length gs) (drop x b)) (add-zero h.e_phoff) ∙ stand)

-- a list made by index has these elements
pub element_made : {A : Type 0} (f : ℕ → A) (xs : List A) (d : A) (n : ℕ) → map f (range_with_len 0 n) ≡ xs → (i : ℕ) → i < n →
    f i ≡ get_or xs i d
element_made f xs d n same i lt = sym (get_or-map-range_with_len f 0 n i i d lt (omega arith)) ∙ ap (λ (ys : List _). get_or ys i d) same

-- ---- the value and its joined parts agree, as far as the rules look

-- a list of no section headers has zeros for section header 0
pub first_of_none : (ss : List Shdr) → length ss ≡ 0 → section_header_of ss 0 ≡ no_section_header
first_of_none ss none = ap (λ (xs : List Shdr). section_header_of xs 0) (nil_from_length ss none)

sections_joined : (v : ImageValue) → IsSoundImage v → map (sections (joined v) v.header) (range_with_len 0 (length v.sections)) ≡ v.sections
sections_joined v sound =
    sections_read (joined v) v.header v.sections (table_there v (counted_of v sound)) sound.section_headers (holds_sections v sound)

-- section header 0 of the joined parts is the value's
first_of : (v : ImageValue) → IsSoundImage v → sections (joined v) v.header 0 ≡ section_header_of v.sections 0
first_of v sound = elim (cases_eq v.header.e_shoff 0) [
  | inl none ↦
      (let no_sections : length v.sections ≡ 0 = sound.section_count ∙ rw none refl in
      ap (λ (f : ℕ → Shdr). f 0) (sections_none (joined v) v.header none) ∙ sym (first_of_none v.sections no_sections))
  | inr there ↦
      (let some = (clean_of v (counted_of v sound)).some there in
      let count = sound.section_count in
      element_made (sections (joined v) v.header) v.sections no_section_header (length v.sections) (sections_joined v sound) 0
      (omega arith))
]

pub stands_sections : (v : ImageValue) → IsSoundImage v →
    v.sections ≡ map (sections (joined v) v.header) (range_with_len 0 (section_header_count v.header (sections (joined v) v.header 0)))
stands_sections v sound =
    let count = sound.section_count ∙ sym (ap (section_header_count v.header) (first_of v sound)) in
    sym (sections_joined v sound) ∙ ap (λ (n : ℕ). map (sections (joined v) v.header) (range_with_len 0 n)) count

pub stands_segments : (v : ImageValue) → IsSoundImage v →
    v.segments ≡ map (segments (joined v) v.header) (range_with_len 0 (program_header_count v.header (sections (joined v) v.header 0)))
stands_segments v sound =
    let read = segments_read (joined v) v.header v.segments sound.program_headers (holds_segments v sound) in
    let count = sound.segment_count ∙ sym (ap (program_header_count v.header) (first_of v sound)) in
    sym read ∙ ap (λ (n : ℕ). map (segments (joined v) v.header) (range_with_len 0 n)) count

-- contents that are at their extents are those read there
pub contents_read : (b : List ℕ) (cs : List (List ℕ)) (ss : List Shdr) → map length cs ≡ map (λ s. (content_extent s).len) ss →
    ((i : ℕ) (e : Extent) → slice_get (map content_extent ss) i ≡ Some e → take e.len (drop e.start b) ≡ get_or cs i []) →
    cs ≡ map (λ s. bytes_in b (content_extent s)) ss
contents_read b [] [] lengths stand = refl
contents_read b [] (s ∷ ss) lengths stand = absurd cc
contents_read b (c ∷ cs) [] lengths stand = absurd cc
contents_read b (c ∷ cs) (s ∷ ss) lengths stand =
    let tail : map length cs ≡ map (λ s. (content_extent s).len) ss = cc in
    ap₂ (λ (x : List ℕ) (xs : List (List ℕ)). x ∷ xs) (sym (stand 0 (content_extent s) refl))
    (contents_read b cs ss tail (λ i e at. stand (suc i) e at))

pub stands_contents : (v : ImageValue) → IsSoundImage v → v.contents ≡ map (λ s. bytes_in (joined v) (content_extent s)) v.sections
stands_contents v sound = contents_read (joined v) v.contents v.sections sound.lengths (holds_content v sound)

-- a gap's bytes are those at its offset, and no other part has any
gap_read : (v : ImageValue) (b gap : List ℕ) (o : Owner) (start len : ℕ) → take len (drop start b) ≡ owned_bytes v gap o →
    length gap ≡ if_gap o len 0 →
    gap ≡ if_gap o (take len (drop start b)) []
gap_read v b gap Header start len stand long = nil_from_length gap long
gap_read v b gap SectionTable start len stand long = nil_from_length gap long
gap_read v b gap ProgramTable start len stand long = nil_from_length gap long
gap_read v b gap (Content i) start len stand long = nil_from_length gap long
gap_read v b gap Gap start len stand long = sym stand

gaps_read : (v : ImageValue) (b : List ℕ) (ps : List PlacedPart) →
    AllByRecursion (λ p. take p.part.len (drop p.part.start b) ≡ part_bytes v p) ps →
    AllByRecursion (λ p. IsBytes p.gap × (length p.gap ≡ gap_len p.part)) ps → AllByRecursion (λ p. p.gap ≡ gap_in b p.part) ps
gaps_read v b [] stand gaps = tt
gaps_read v b (p ∷ ps) stand gaps =
    (gap_read v b p.gap p.part.owner p.part.start p.part.len stand.0 gaps.0.1, gaps_read v b ps stand.1 gaps.1)

-- ---- the theorem

pub joined_stands : (v : ImageValue) → IsSoundImage v → Stands v (joined v)
joined_stands v sound = record {
  bytes = IsBytes-joined v sound;
  len = sym (length-joined v sound);
  records = record {
    header = header_read (joined v) v.header sound.header (holds_header v sound);
    section_headers = stands_sections v sound;
    program_headers = stands_segments v sound;
  };
  within = records_within v (joined v) (counted_of v sound) (sym (length-joined v sound));
  contents = stands_contents v sound;
  accounts = sound.accounts;
  gaps = gaps_read v (joined v) v.parts (in_joined v sound) sound.gaps;
}

-- ---- a value and its byte list break the same rules

-- content k of a value is the bytes there
pub content_is : (b : List ℕ) (ss : List Shdr) (k : ℕ) → k < length ss →
    get_or (map (λ s. bytes_in b (content_extent s)) ss) k [] ≡ bytes_in b (content_extent (section_header_of ss k))
content_is b [] k lt = absurd (omega arith)
content_is b (s ∷ ss) zero lt = refl
content_is b (s ∷ ss) (suc k) lt = content_is b ss k (omega arith)

-- The parts of a sound image value hold each offset once, and each is its owner's extent or a gap. They are not empty, ascend, and end
-- within the length. All follow from the value's account, because the parts are its pieces with their owners.

-- where a list has an element, the mapped one has its image
pub at_mapped : {A B : Type 0} (f : A → B) (xs : List A) (k : ℕ) (x : A) → slice_get xs k ≡ Some x → slice_get (map f xs) k ≡ Some (f x)
at_mapped f [] k x here = absurd (let none : None ≡ Some x = here in cc)
at_mapped f (y ∷ ys) zero x here = let same : y ≡ x = cc in ap (λ (z : _). Some (f z)) same
at_mapped f (y ∷ ys) (suc k) x here = at_mapped f ys k x here

-- the part of a placed part
abbrev part_of : PlacedPart → Part
part_of p = p.part

-- part k and piece k are of one placed part
part_is_piece : (ps : List PlacedPart) (k : ℕ) (p : Part) → slice_get (map part_of ps) k ≡ Some p →
    slice_get (map piece_of ps) k ≡ Some (part_piece p)
part_is_piece ps k p here =
    let from = mapped_at part_of ps k p here in
    at_mapped piece_of ps k from.0 from.1 ∙ ap (λ (q : Part). Some (part_piece q)) from.2

is_only : (ps : List PlacedPart) (x k : ℕ) (q : Piece) (p : PlacedPart) → slice_get ps k ≡ Some p → piece_of p ≡ q → q.start ≤ x →
    x < q.start + q.len →
    ((j : ℕ) (r : Piece) → slice_get (map piece_of ps) j ≡ Some r → r.start ≤ x → x < r.start + r.len → j ≡ k) →
    IsOnlyPartAt (map part_of ps) x k p.part
is_only ps x k q p here same from below only =
    let start : p.part.start ≡ q.start = ap (λ (r : Piece). r.start) same in
    let len : p.part.len ≡ q.len = ap (λ (r : Piece). r.len) same in
    record {
      here = at_mapped part_of ps k p here;
      from = omega arith;
      below = omega arith;
      only = λ j r there above under. only j (part_piece r) (part_is_piece ps j r there) above under;
    }

each_offset : (v : ImageValue) → IsSoundImage v → (x : ℕ) → x < v.len → (k : ℕ) × (p : Part) × IsOnlyPartAt (map part_of v.parts) x k p
each_offset v sound x lt =
    let found = in_piece (value_extents v.header v.sections v.segments) v.len (map piece_of v.parts) x sound.accounts lt in
    let from = mapped_at piece_of v.parts found.0 found.1 found.2.here in
    (found.0, from.0.part, is_only v.parts x found.0 found.1 from.0 from.1 from.2 found.2.from found.2.below found.2.only)

-- an extent of the list is its owner's
place_by_index : (v : ImageValue) (o : Owner) (start len : ℕ) →
    IsOwned (value_extents v.header v.sections v.segments) v.len start len (owner_index o) → IsExtentOf v o start len
place_by_index v Header start len owned = (sym (same_start _ _ owned), sym (same_len _ _ owned))
place_by_index v SectionTable start len owned = (sym (same_start _ _ owned), sym (same_len _ _ owned))
place_by_index v ProgramTable start len owned = (sym (same_start _ _ owned), sym (same_len _ _ owned))
place_by_index v (Content i) start len owned =
    let e : Extent = record { start = start; len = len } in
    let from = mapped_at content_extent v.sections i e owned in
    let is : section_header_of v.sections i ≡ from.0 = get_or_at v.sections i from.0 no_section_header from.1 in
    let extent : content_extent (section_header_of v.sections i) ≡ e = ap content_extent is ∙ from.2 in (
      within_list v.sections i from.0 from.1,
      sym (ap (λ (x : Extent). x.start) extent),
      sym (ap (λ (x : Extent). x.len) extent),
    )
place_by_index v Gap start len owned = owned

piece_of_part : (v : ImageValue) → IsSoundImage v → (k : ℕ) (p : Part) → slice_get (map part_of v.parts) k ≡ Some p →
    IsPiece (value_extents v.header v.sections v.segments) v.len 0 (part_piece p)
piece_of_part v sound k p here =
    piece_at (value_extents v.header v.sections v.segments) v.len 0 (map piece_of v.parts) k (part_piece p) sound.accounts
    (part_is_piece v.parts k p here)

pub are_parts : (v : ImageValue) → IsSoundImage v → AreParts v (map part_of v.parts)
are_parts v sound = record {
  each_offset = each_offset v sound;
  owners = λ k p here. place_by_index v p.owner p.start p.len (piece_of_part v sound k p here).owned;
  nonempty = λ k p here. (piece_of_part v sound k p here).nonempty;
  ascending = λ j k p q lt first second.
      pieces_ascend (value_extents v.header v.sections v.segments) v.len 0 (map piece_of v.parts) j k (part_piece p)
      (part_piece q) sound.accounts lt
      (part_is_piece v.parts j p first) (part_is_piece v.parts k q second);
  within = λ k p here. (piece_of_part v sound k p here).within;
}
