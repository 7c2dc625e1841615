-- The parts of an outline are written one after the other: records and zeros of the outline, and bytes of its source at their offsets. Each
-- part has the bytes that the image has there, so after k parts exactly the first k are written. A part that fails adds a beginning of its
-- bytes, and a read that fails is at one of its bytes.
use Rattle.std.proofs.Common.{◌≡◌, ◌≤◌, ◌<◌, ◌+◌, ◌-◌, ℕ, List, ◌++◌, length, take, drop, Option, Some, Result, Ok, Err, sym, ap, ap₂}
use Rattle.std.proofs.Common.{subst, ◌∙◌, arith, length-append, take-add, zero, suc, Bool, [], ◌∷◌, map, get_or, ◌^◌, true, false, refl}
use Rattle.std.proofs.Common.{drop-cons, length-drop, take_all, zero-add}
use Rattle.std.specs.Result.{IsErrAnd}
use Rattle.std.specs.Io.KnownBytes.{Appends}
use Rattle.std.proofs.KnownBytes.{Appends-trans}
use Rattle.std.proofs.lemmas.List.{drop-drop, drop_at, length-take, length-take-le, take-append-le, take_at, append-nil, take-append-drop}
use Rattle.std.proofs.lemmas.List.{take_more}
use Rattle.std.specs.List.{flat_map}
use Rattle.std.proofs.lemmas.List.Folds.{flat_map-map}
use Rattle.std.specs.Prelude.{replicate, slice_get}
use Rattle.std.proofs.lemmas.Grind.{flat_map-append}
use Rattle.std.proofs.lemmas.Option.{slice_get-get_or}
use Rattle.elf_extent.specs.Account.{Accounts}
use Rattle.elf_extent.specs.declared.extent.Extent.{Extent}
use Rattle.elf_field.specs.Headers.{ehdr_bytes, phdr_bytes, shdr_bytes}
use Rattle.elf_image_outline.proofs.Edited.{parts-placed, len_short}
use Rattle.elf_image_outline.proofs.Standing.{HaveLengths, clean_of, counted_of, length-joined, lengths_of, are_parts, get_or_at}
use Rattle.elf_image_outline.proofs.Standing.{within_list, content_is}
use Rattle.elf_image_outline.specs.Image.{ImageValue, IsSoundImage, PlacedPart, joined, part_bytes, piece_of, owned_bytes, IsExtentOf}
use Rattle.elf_image_outline.specs.Outline.{Copies, CopiedOut, ReadsAfter, bytes_out, copy_failure, later, OutlineValue, image_of}
use Rattle.elf_image_outline.specs.Outline.{placed_part, IsOutlineOf, IsSoundOutline, blank_image, bytes_of_outline, contents_in, image_in}
use Rattle.elf_image_outline.specs.Outline.{ReadsOfSource, ReadsPart}
use Rattle.elf_image_outline.specs.declared.copying.CopyFault.TheVariants.{Read, Write}
use Rattle.elf_image_outline.specs.declared.copying.CopyFault.{CopyFault}
use Rattle.elf_image_outline.specs.declared.outline.Owner.TheVariants.{Header, ProgramTable, SectionTable, Content, Gap}
use Rattle.elf_image_outline.specs.declared.outline.Owner.{Owner}
use Rattle.elf_image_outline.specs.declared.outline.Part.{Part}
use Rattle.elf_image_rules.specs.Rules.{MAX_LEN}
use Rattle.elf_image_rules.specs.Tables.{content_extent, order_of}
use Rattle.elf_image_outline.proofs.EntriesOut.{flat_err}
use Rattle.elf_image_stream.proofs.Public.{failed_within}
use Rattle.elf_image_stream.specs.Source.{HasFailed, Reaches, Remembers}
use Rattle.elf_image_stream.specs.declared.source.Failures.{Failures}

-- Bytes that are copied piece by piece: a copied piece follows the earlier ones (`out_more`), and of a piece that fails its first bytes do
-- (`copies_after`). So a beginning of the whole is written, and the counts add up. A read that failed in a piece failed in the whole
-- (`after_within`); small facts on ranges follow from `take` and `drop`.

-- m bytes went out, and n more after them
pub out_more : (content now a b c : Option (List ℕ)) (m n : ℕ) (f g h : List ℕ → List ℕ) → now ≡ content → CopiedOut content a b m f →
    CopiedOut now b c n g →
    ((x : List ℕ) → f x ++ g x ≡ h x) → CopiedOut content a c (m + n) h
out_more content now a b c m n f g h same before went joins = record {
  out = before.out ++ went.out;
  many = length-append before.out went.out ∙ ap₂ (λ (i j : ℕ). i + j) before.many went.many;
  appends = Appends-trans a b c before.out went.out before.appends went.appends;
  are = λ x known. ap₂ (λ (s t : List ℕ). s ++ t) (before.are x known) (went.are x (same ∙ known)) ∙ joins x;
}

-- m bytes went out, and n of the next piece, which has more
out_some : (content now a b c : Option (List ℕ)) (m n : ℕ) (f g rest h : List ℕ → List ℕ) → now ≡ content → CopiedOut content a b m f →
    CopiedOut now b c n (λ x. take n (g x)) → ((x : List ℕ) → content ≡ Some x → n ≤ length (g x)) →
    ((x : List ℕ) → h x ≡ f x ++ (g x ++ rest x)) →
    CopiedOut content a c (m + n) (λ x. take (m + n) (h x))
out_some content now a b c m n f g rest h same before failed long splits = record {
  out = before.out ++ failed.out;
  many = length-append before.out failed.out ∙ ap₂ (λ (i j : ℕ). i + j) before.many failed.many;
  appends = Appends-trans a b c before.out failed.out before.appends failed.appends;
  are = λ x known.
      let first : before.out ≡ f x = before.are x known in
      let next : failed.out ≡ take n (g x) = failed.are x (same ∙ known) in
      let count : length (f x) ≡ m = ap (λ (s : List ℕ). length s) (sym first) ∙ before.many in
      ap₂ (λ (s t : List ℕ). s ++ t) first next
      ∙ sym (ap (take (m + n)) (splits x) ∙ take-add m n (f x ++ (g x ++ rest x))
      ∙ ap₂ (λ (s t : List ℕ). s ++ t) (take_at (f x) (g x ++ rest x) m count)
      (ap (take n) (drop_at (f x) (g x ++ rest x) m count) ∙ take-append-le n (g x) (rest x) (long x known)));
}

-- the first n of some bytes are n, so there are as many
long_enough : (n : ℕ) (xs ys : List ℕ) → length xs ≡ n → xs ≡ take n ys → n ≤ length ys
long_enough n xs ys many are =
    let count = length-take n ys in
    let same : length (take n ys) ≡ n = ap (λ (s : List ℕ). length s) (sym are) ∙ many in
    omega arith

-- a piece of the bytes failed after others
pub copies_after : (content now a b c : Option (List ℕ)) (m len total : ℕ) (f g rest h : List ℕ → List ℕ) (fault : CopyFault) →
    now ≡ content → m + len ≤ total →
    CopiedOut content a b m f → Copies now b c len g (Err fault) → ((x : List ℕ) → h x ≡ f x ++ (g x ++ rest x)) →
    Copies content a c total h (Err (later m fault))
copies_after content now a b c m len total f g rest h (Read at n) same within before (below, failed) splits = (
  omega arith,
  out_some content now a b c m n f g rest h same before failed
      (λ x known. long_enough n failed.out (g x) failed.many (failed.are x (same ∙ known))) splits,
)
copies_after content now a b c m len total f g rest h (Write n) same within before (below, failed) splits = (
  omega arith,
  out_some content now a b c m n f g rest h same before failed
      (λ x known. long_enough n failed.out (g x) failed.many (failed.are x (same ∙ known))) splits,
)

pub after_within : (block start m size len : ℕ) (fault : CopyFault) → m + size ≤ len → ReadsAfter block (start + m) size (Err fault) →
    ReadsAfter block start len (Err (later m fault))
after_within block start m size len (Read at n) within (above, near, below) = (omega arith, omega arith, omega arith)
after_within block start m size len (Write n) within is = tt

-- the part of a list from start on: what was written of it, the next piece, and the rest
pub range_more : (b : List ℕ) (start m n : ℕ) → take m (drop start b) ++ take n (drop (start + m) b) ≡ take (m + n) (drop start b)
range_more b start m n =
    ap (λ (s : List ℕ). take m (drop start b) ++ take n s) (sym (drop-drop m start b)) ∙ sym (take-add m n (drop start b))

pub range_splits : (b : List ℕ) (start m n len : ℕ) → m + n ≤ len →
    take len (drop start b) ≡ take m (drop start b) ++ (take n (drop (start + m) b) ++ take (len - (m + n)) (drop (start + (m + n)) b))
range_splits b start m n len within =
    ap (λ (k : ℕ). take k (drop start b)) (let e : len ≡ m + (n + (len - (m + n))) = omega arith in e)
    ∙ sym (range_more b start m (n + (len - (m + n))))
    ∙ ap (λ (s : List ℕ). take m (drop start b) ++ s)
    (sym (range_more b (start + m) n (len - (m + n)))
    ∙ ap (λ (k : ℕ). take n (drop (start + m) b) ++ take (len - (m + n)) (drop k b))
    (let e : start + m + n ≡ start + (m + n) = omega arith in e))

-- a read of bytes that the source has failed before anything went out
pub read_failed : (content : Option (List ℕ)) (old new : Failures) (at n x : ℕ) (result : Result (Unit {0}) CopyFault) →
    Reaches content (at + n) →
    HasFailed content old new at n x → IsErrAnd result (λ fault. fault ≡ Read x 0) → Remembers (copy_failure result) old new
read_failed content old new at n x (Ok u) reaches failed is = absurd is
read_failed content old new at n x (Err fault) reaches failed is =
    subst (λ (f : CopyFault). Remembers (copy_failure (Err f)) old new) (sym is) (failed_within content old new at n x reaches failed)

-- records or zeros that the source has no part in
pub out_own : (content a b : Option (List ℕ)) (len : ℕ) (own : List ℕ) (bytes : List ℕ → List ℕ) → length own ≡ len →
    ((x : List ℕ) → own ≡ bytes x) → Appends a b own →
    CopiedOut content a b len bytes
out_own content a b len own bytes long same went = record { out = own; many = long; appends = went; are = λ x known. same x }

pub copies_own : (content a b : Option (List ℕ)) (len n : ℕ) (own : List ℕ) (bytes : List ℕ → List ℕ)
    (result : Result (Unit {0}) CopyFault) → length own ≡ len →
    ((x : List ℕ) → own ≡ bytes x) → (n < length own) × Appends a b (take n own) → IsErrAnd result (λ fault. fault ≡ Write n) →
    Copies content a b len bytes result
copies_own content a b len n own bytes (Ok u) long same failed is = absurd is
copies_own content a b len n own bytes (Err fault) long same (below, went) is =
    let out : Copies content a b len bytes (Err (Write n)) = (
      omega arith,
      record {
        out = take n own;
        many = length-take-le n own (omega arith);
        appends = went;
        are = λ x known. ap (take n) (same x);
      },
    ) in
    subst (λ (f : CopyFault). Copies content a b len bytes (Err f)) (sym is) out

-- the same bytes, as another function of those of the source
pub copies_as : (content a b : Option (List ℕ)) (len : ℕ) (f g : List ℕ → List ℕ) (result : Result (Unit {0}) CopyFault) →
    ((x : List ℕ) → content ≡ Some x → f x ≡ g x) →
    Copies content a b len f result → Copies content a b len g result
copies_as content a b len f g (Ok u) same went =
    record { out = went.out; many = went.many; appends = went.appends; are = λ x known. went.are x known ∙ same x known }
copies_as content a b len f g (Err fault) same (below, went) = (
  below,
  record {
    out = went.out;
    many = went.many;
    appends = went.appends;
    are =
        λ x known. went.are x known ∙ ap (take (bytes_out fault)) (same x known);
  },
)

pub out_count : (content a b : Option (List ℕ)) (m n : ℕ) (bytes : List ℕ → List ℕ) → m ≡ n → CopiedOut content a b m bytes →
    CopiedOut content a b n bytes
out_count content a b m n bytes same went = subst (λ (k : ℕ). CopiedOut content a b k bytes) same went

-- The parts of an image are written one after the other. By induction on the account, part k begins where the parts before it end. So if
-- part k fails after n bytes, exactly the first `start + n` bytes of the image are written (`parts_err`).

-- a part begins where the ones before it end, and has as many bytes as its length says, and some
pub record IsPartAt (f : PlacedPart → List ℕ) (z : Bool) (file : List ℕ) (ps : List Part) (at k : ℕ) (p : Part) : Type 0 where
  pub start : at + length (flat_map (λ q. f (placed_part z file q)) (take k ps)) ≡ p.start
  pub some : 0 < p.len
  pub whole : length (f (placed_part z file p)) ≡ p.len

pub part_at : (f : PlacedPart → List ℕ) (z : Bool) (file : List ℕ) (es : List Extent) (total at : ℕ) (ps : List Part) (k : ℕ) (d : Part) →
    Accounts es total at (map piece_of (map (placed_part z file) ps)) → HaveLengths f (map (placed_part z file) ps) → k < length ps →
    IsPartAt f z file ps at k (get_or ps k d)
part_at f z file es total at [] k d accounts lengths within = absurd (omega arith)
part_at f z file es total at (p ∷ ps) zero d accounts lengths within =
    record { start = omega (arith, accounts.0); some = accounts.1; whole = lengths.0 }
part_at f z file es total at (p ∷ ps) (suc k) d accounts lengths within =
    let rest = part_at f z file es total (at + p.len) ps k d accounts.3 lengths.1 (omega arith) in
    let more = length-append (f (placed_part z file p)) (flat_map (λ q. f (placed_part z file q)) (take k ps)) in
    let here = lengths.0 in
    let later = rest.start in
    record { start = omega arith; some = rest.some; whole = rest.whole }

-- an image is not longer than a file may be
not_long : (v : ImageValue) → IsSoundImage v → v.len ≤ MAX_LEN
not_long v sound = (clean_of v (counted_of v sound)).short

-- ---- the parts of an image

abbrev pub bytes_in_parts : OutlineValue → List (List ℕ) → List ℕ → Part → List ℕ
bytes_in_parts o cs file p = part_bytes (image_of o cs file) (placed_part o.zeroed file p)

pub part_in : (o : OutlineValue) (cs : List (List ℕ)) (file : List ℕ) (ps : List Part) (k : ℕ) (d : Part) →
    IsSoundImage (image_of o cs file) → ps ≡ o.parts → k < length ps →
    IsPartAt (part_bytes (image_of o cs file)) o.zeroed file ps 0 k (get_or ps k d)
part_in o cs file ps k d sound same within =
    let f = part_bytes (image_of o cs file) in
    let P : List Part → Type 0 = λ qs. k < length qs → IsPartAt f o.zeroed file qs 0 k (get_or qs k d) in
    subst P (sym same) (part_at f o.zeroed file _ o.len 0 o.parts k d sound.accounts (lengths_of (image_of o cs file) sound)) within

pub joined_parts : (o : OutlineValue) (cs : List (List ℕ)) (file : List ℕ) (ps : List Part) → ps ≡ o.parts →
    flat_map (bytes_in_parts o cs file) ps ≡ joined (image_of o cs file)
unfolding joined
joined_parts o cs file ps same =
    ap (flat_map (bytes_in_parts o cs file)) same ∙ sym (flat_map-map (part_bytes (image_of o cs file)) (placed_part o.zeroed file) o.parts)

one_at : {A : Type 0} (f : A → List ℕ) (rs : List A) (k : ℕ) (d : A) → k < length rs → f (get_or rs k d) ≡ flat_map f (take 1 (drop k rs))
one_at f [] k d within = absurd (omega arith)
one_at f (r ∷ rs) zero d within = sym (append-nil (f r))
one_at f (r ∷ rs) (suc k) d within = one_at f rs k d (omega arith)

-- part k failed after the ones before it
pub parts_err : (o : OutlineValue) (cs : List (List ℕ)) (file : List ℕ) (ps : List Part) (k n : ℕ) (d : Part) (a b c : Option (List ℕ)) →
    IsSoundImage (image_of o cs file) → ps ≡ o.parts →
    k < length ps → Appends a b (flat_map (bytes_in_parts o cs file) (take k ps)) →
    (n < length (bytes_in_parts o cs file (get_or ps k d))) × Appends b c (take n (bytes_in_parts o cs file (get_or ps k d))) →
    ((get_or ps k d).start + n < length (joined (image_of o cs file))) ×
    Appends a c (take ((get_or ps k d).start + n) (joined (image_of o cs file)))
parts_err o cs file ps k n d a b c sound same within before failed =
    let f = bytes_in_parts o cs file in
    let part = part_in o cs file ps k d sound same within in
    let start = part.start in
    let P : List ℕ → Type 0 = λ s. ((get_or ps k d).start + n < length s) × Appends a c (take ((get_or ps k d).start + n) s) in
    subst P (joined_parts o cs file ps same)
    (flat_err f ps k 1 (get_or ps k d).start n a b c (f (get_or ps k d)) (omega arith) (one_at f ps k d within) before failed)

-- the number of bytes that are out fits
pub out_fits : (v : ImageValue) (n : ℕ) → IsSoundImage v → n < length (joined v) → n < 2 ^ 64
out_fits v n sound below = let all = length-joined v sound in let short = not_long v sound in omega arith

-- the bytes of a part with zeros for contents and gaps, and with those of the source
abbrev pub blank_bytes : OutlineValue → Part → List ℕ
blank_bytes o p = part_bytes (blank_image o) (placed_part true [] p)

abbrev pub known_bytes : OutlineValue → List ℕ → Part → List ℕ
known_bytes o b p = part_bytes (image_in o b) (placed_part o.zeroed b p)

-- ---- part k by itself

blank_part : (o : OutlineValue) (k : ℕ) (d : Part) → IsSoundOutline o → k < length o.parts →
    IsPartAt (part_bytes (blank_image o)) true [] o.parts 0 k (get_or o.parts k d)
blank_part o k d sound within =
    part_in (record o { zeroed = true }) (map (λ s. replicate (content_extent s).len 0) o.sections) [] o.parts k d sound refl within

blank_whole : (o : OutlineValue) (k : ℕ) (p : Part) → IsSoundOutline o → slice_get o.parts k ≡ Some p → length (blank_bytes o p) ≡ p.len
blank_whole o k p sound here =
    subst (λ (q : Part). length (blank_bytes o q) ≡ q.len) (get_or_at o.parts k p p here)
    (blank_part o k p sound (within_list o.parts k p here)).whole

pub own_whole : (o : OutlineValue) (k : ℕ) (p : Part) (own : List ℕ) → IsSoundOutline o → slice_get o.parts k ≡ Some p →
    own ≡ blank_bytes o p → length own ≡ p.len
own_whole o k p own sound here is = ap (λ (s : List ℕ). length s) is ∙ blank_whole o k p sound here

-- it ends within the file
part_within : (o : OutlineValue) (k : ℕ) (p : Part) → IsSoundOutline o → slice_get o.parts k ≡ Some p → p.start + p.len ≤ o.len
part_within o k p sound here =
    (are_parts (blank_image o) sound).within k p (subst (λ (ps : List Part). slice_get ps k ≡ Some p) (parts-placed true [] o.parts) here)

outline_short : (o : OutlineValue) → IsSoundOutline o → o.len ≤ MAX_LEN
outline_short o sound = len_short (blank_image o) sound

-- ---- the outline's own bytes

pub header_part : (v : ImageValue) (q : PlacedPart) → q.part.owner ≡ Header →
    flat_map (ehdr_bytes (order_of v.header.e_ident)) (v.header ∷ []) ≡ part_bytes v q
header_part v q is = append-nil (ehdr_bytes (order_of v.header.e_ident) v.header) ∙ ap (owned_bytes v q.gap) (sym is)

pub sections_part : (v : ImageValue) (q : PlacedPart) → q.part.owner ≡ SectionTable →
    flat_map (shdr_bytes (order_of v.header.e_ident)) v.sections ≡ part_bytes v q
sections_part v q is = ap (owned_bytes v q.gap) (sym is)

pub segments_part : (v : ImageValue) (q : PlacedPart) → q.part.owner ≡ ProgramTable →
    flat_map (phdr_bytes (order_of v.header.e_ident)) v.segments ≡ part_bytes v q
segments_part v q is = ap (owned_bytes v q.gap) (sym is)

pub zeroed_part : (v : ImageValue) (z : Bool) (file : List ℕ) (p : Part) → z ≡ true → p.owner ≡ Gap →
    replicate p.len 0 ≡ part_bytes v (placed_part z file p)
zeroed_part v z file p zeroed is = rw (zeroed, is) refl

-- ---- the source's bytes

-- a list within b is as long as it says
is_within : (b : List ℕ) (start len : ℕ) → 0 < len → length (take len (drop start b)) ≡ len → start + len ≤ length b
is_within b start len some whole = let count = length-take len (drop start b) in let rest = length-drop start b in omega arith

known_part : (o : OutlineValue) (b : List ℕ) (k : ℕ) (p : Part) → IsOutlineOf o b → slice_get o.parts k ≡ Some p →
    IsPartAt (part_bytes (image_in o b)) o.zeroed b o.parts 0 k p
known_part o b k p of here =
    subst (λ (q : Part). IsPartAt (part_bytes (image_in o b)) o.zeroed b o.parts 0 k q) (get_or_at o.parts k p p here)
    (part_in o (contents_in o b) b o.parts k p of refl (within_list o.parts k p here))

-- bytes of b that are a part lie in b
pub known_within : (o : OutlineValue) (b : List ℕ) (k : ℕ) (p : Part) → IsOutlineOf o b → slice_get o.parts k ≡ Some p →
    take p.len (drop p.start b) ≡ known_bytes o b p → p.start + p.len ≤ length b
known_within o b k p of here is =
    let part = known_part o b k p of here in
    is_within b p.start p.len part.some (ap (λ (s : List ℕ). length s) is ∙ part.whole)

-- a content is what is at its offset
pub content_part : (o : OutlineValue) (b : List ℕ) (k i : ℕ) (p : Part) → IsOutlineOf o b → slice_get o.parts k ≡ Some p →
    p.owner ≡ Content i →
    take p.len (drop p.start b) ≡ known_bytes o b p
content_part o b k i p of here is =
    let extent : IsExtentOf (image_in o b) (Content i) p.start p.len =
    subst (λ (w : Owner). IsExtentOf (image_in o b) w p.start p.len) is
    ((are_parts (image_in o b) of).owners k p
    (subst (λ (ps : List Part). slice_get ps k ≡ Some p) (parts-placed o.zeroed b o.parts) here)) in
    ap₂ (λ (n m : ℕ). take n (drop m b)) extent.2 extent.1
    ∙ sym (content_is b o.sections i extent.0)
    ∙ ap (owned_bytes (image_in o b) (placed_part o.zeroed b p).gap) (sym is)

pub gap_part : (o : OutlineValue) (b : List ℕ) (p : Part) → o.zeroed ≡ false → p.owner ≡ Gap →
    take p.len (drop p.start b) ≡ known_bytes o b p
gap_part o b p kept is = rw (kept, is) refl

-- ---- the parts one after the other

flat_more : (f : Part → List ℕ) (ps : List Part) (k : ℕ) (d : Part) → k < length ps →
    flat_map f (take (k + 1) ps) ≡ flat_map f (take k ps) ++ f (get_or ps k d)
flat_more f ps k d within =
    ap (flat_map f) (take_more ps k d within) ∙ flat_map-append f (take k ps) (get_or ps k d ∷ [])
    ∙ ap (λ (s : List ℕ). flat_map f (take k ps) ++ s) (append-nil (f (get_or ps k d)))

-- the element at an index, and what is after it
drop_here : (ps : List Part) (k : ℕ) (d : Part) → k < length ps → drop k ps ≡ get_or ps k d ∷ drop (k + 1) ps
drop_here ps k d within = drop-cons ps k d within ∙ ap (λ (n : ℕ). get_or ps k d ∷ drop n ps) (let e : suc k ≡ k + 1 = omega arith in e)

flat_splits : (f : Part → List ℕ) (ps : List Part) (k : ℕ) (d : Part) → k < length ps →
    flat_map f ps ≡ flat_map f (take k ps) ++ (f (get_or ps k d) ++ flat_map f (drop (k + 1) ps))
flat_splits f ps k d within =
    ap (flat_map f) (sym (take-append-drop k ps)) ∙ flat_map-append f (take k ps) (drop k ps)
    ∙ ap (λ (qs : List Part). flat_map f (take k ps) ++ flat_map f qs) (drop_here ps k d within)

start_of : (o : OutlineValue) (ps : List Part) (k : ℕ) (d : Part) → IsSoundOutline o → ps ≡ o.parts → k < length ps →
    length (flat_map (blank_bytes o) (take k ps)) ≡ (get_or ps k d).start
start_of o ps k d sound same within =
    let P : List Part → Type 0 = λ qs. k < length qs → length (flat_map (blank_bytes o) (take k qs)) ≡ (get_or qs k d).start in
    subst P (sym same) (λ below. (let part = blank_part o k d sound below in let start = part.start in omega arith)) within

at_index : (o : OutlineValue) (ps : List Part) (k : ℕ) (d : Part) → ps ≡ o.parts → k < length ps →
    slice_get o.parts k ≡ Some (get_or ps k d)
at_index o ps k d same within = subst (λ (qs : List Part). slice_get qs k ≡ Some (get_or ps k d)) same (slice_get-get_or ps k d within)

pub parts_more : (o : OutlineValue) (ps : List Part) (k : ℕ) (d : Part) (content now a b c : Option (List ℕ)) → IsSoundOutline o →
    ps ≡ o.parts → k < length ps → now ≡ content →
    CopiedOut content a b (length (flat_map (blank_bytes o) (take k ps))) (λ x. flat_map (known_bytes o x) (take k ps)) →
    CopiedOut now b c (get_or ps k d).len (λ x. known_bytes o x (get_or ps k d)) →
    CopiedOut content a c (length (flat_map (blank_bytes o) (take (k + 1) ps))) (λ x. flat_map (known_bytes o x) (take (k + 1) ps))
parts_more o ps k d content now a b c sound same within moved before went =
    let p = get_or ps k d in
    let m = length (flat_map (blank_bytes o) (take k ps)) in
    let count : m + p.len ≡ length (flat_map (blank_bytes o) (take (k + 1) ps)) =
    ap (λ (n : ℕ). m + n) (sym (blank_whole o k p sound (at_index o ps k d same within)))
    ∙ sym (length-append (flat_map (blank_bytes o) (take k ps)) (blank_bytes o p))
    ∙ ap (λ (s : List ℕ). length s) (sym (flat_more (blank_bytes o) ps k d within)) in
    out_count content a c (m + p.len) _ (λ x. flat_map (known_bytes o x) (take (k + 1) ps)) count
    (out_more content now a b c m p.len (λ x. flat_map (known_bytes o x) (take k ps)) (λ x. known_bytes o x p)
    (λ x. flat_map (known_bytes o x) (take (k + 1) ps))
    moved before went (λ x. sym (flat_more (known_bytes o x) ps k d within)))

pub parts_failed : (o : OutlineValue) (ps : List Part) (k : ℕ) (d : Part) (content now a b c : Option (List ℕ)) (fault : CopyFault) →
    IsSoundOutline o → ps ≡ o.parts → k < length ps →
    now ≡ content → CopiedOut content a b (length (flat_map (blank_bytes o) (take k ps))) (λ x. flat_map (known_bytes o x) (take k ps)) →
    Copies now b c (get_or ps k d).len (λ x. known_bytes o x (get_or ps k d)) (Err fault) →
    Copies content a c o.len (bytes_of_outline o) (Err (later (get_or ps k d).start fault))
parts_failed o ps k d content now a b c fault sound same within moved before failed =
    let p = get_or ps k d in
    copies_after content now a b c p.start p.len o.len (λ x. flat_map (known_bytes o x) (take k ps)) (λ x. known_bytes o x p)
    (λ x. flat_map (known_bytes o x) (drop (k + 1) ps)) (bytes_of_outline o) fault moved
    (part_within o k p sound (at_index o ps k d same within))
    (out_count content a b _ p.start _ (start_of o ps k d sound same within) before) failed
    (λ x. sym (joined_parts o (contents_in o x) x ps same) ∙ flat_splits (known_bytes o x) ps k d within)

-- all of them
pub parts_all : (o : OutlineValue) (ps : List Part) (k : ℕ) (content a b : Option (List ℕ)) → IsSoundOutline o → ps ≡ o.parts →
    length ps ≤ k →
    CopiedOut content a b (length (flat_map (blank_bytes o) (take k ps))) (λ x. flat_map (known_bytes o x) (take k ps)) →
    CopiedOut content a b o.len (bytes_of_outline o)
parts_all o ps k content a b sound same past went =
    let blank = record o { zeroed = true } in
    let cs = map (λ s. replicate (content_extent s).len 0) o.sections in
    let all = subst (λ (qs : List Part). CopiedOut content a b (length (flat_map (blank_bytes o) qs)) (λ x. flat_map (known_bytes o x) qs))
    (take_all k ps past) went in
    let whole : length (flat_map (blank_bytes o) ps) ≡ o.len =
    ap (λ (s : List ℕ). length s) (joined_parts blank cs [] ps same) ∙ length-joined (blank_image o) sound in
    let out = out_count content a b _ o.len (λ x. flat_map (known_bytes o x) ps) whole all in
    record {
      out = out.out;
      many = out.many;
      appends = out.appends;
      are =
          λ x known. out.are x known ∙ joined_parts o (contents_in o x) x ps same;
    }

pub part_fits : (o : OutlineValue) (k : ℕ) (p : Part) → IsSoundOutline o → slice_get o.parts k ≡ Some p → p.start + p.len < 2 ^ 64
part_fits o k p sound here = let within = part_within o k p sound here in let short = outline_short o sound in omega arith

-- what is said of part k, of the file
pub failed_fits : (o : OutlineValue) (ps : List Part) (k : ℕ) (d : Part) (content b c : Option (List ℕ)) (bytes : List ℕ → List ℕ)
    (fault : CopyFault) → IsSoundOutline o → ps ≡ o.parts →
    k < length ps → Copies content b c (get_or ps k d).len bytes (Err fault) → (get_or ps k d).start + bytes_out fault < 2 ^ 64
failed_fits o ps k d content b c bytes fault sound same within (below, failed) =
    let fits = part_fits o k (get_or ps k d) sound (at_index o ps k d same within) in omega arith

pub parts_after : (block : ℕ) (o : OutlineValue) (ps : List Part) (k : ℕ) (d : Part) (fault : CopyFault) → IsSoundOutline o →
    ps ≡ o.parts → k < length ps →
    ReadsAfter block (get_or ps k d).start (get_or ps k d).len (Err fault) →
    ReadsAfter block 0 o.len (Err (later (get_or ps k d).start fault))
parts_after block o ps k d fault sound same within is =
    let p = get_or ps k d in
    after_within block 0 p.start p.len o.len fault (part_within o k p sound (at_index o ps k d same within))
    (subst (λ (n : ℕ). ReadsAfter block n p.len (Err fault)) (sym (zero-add p.start)) is)

-- a read that failed in a part whose bytes are the source's failed at a byte of such a part
pub parts_read : (block : ℕ) (o : OutlineValue) (ps : List Part) (k : ℕ) (d : Part) (fault : CopyFault) → ps ≡ o.parts → k < length ps →
    ReadsAfter block (get_or ps k d).start (get_or ps k d).len (Err fault) → ReadsPart o.zeroed (get_or ps k d).owner (Err fault) →
    ReadsOfSource o (Err (later (get_or ps k d).start fault))
parts_read block o ps k d (Write written) same within following reads = tt
parts_read block o ps k d (Read at written) same within following reads =
    (k, get_or ps k d, at_index o ps k d same within, reads, omega (arith, following.0), following.2)
