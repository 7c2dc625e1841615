-- The executable as it is written: the header, the program header table, and each segment's bytes after zeros. These bytes are memory's, by
-- cases: commons, an output without bits, an output with bits. The length is the end of the last part.
use Rattle.std.proofs.Common.{◌≡◌, ◌<◌, ◌≤◌, ◌-◌, ℕ, List, length, refl, ap, inl, inr, arith, ◌+◌, ◌⊎◌, zero, suc, [], ◌∷◌, ◌++◌, map}
use Rattle.std.proofs.Common.{get_or, slice_index, replicate, sym, ap₂, ◌∙◌, append_assoc, length-append, true, false, subst, ◌*◌, Bool}
use Rattle.std.proofs.Common.{Result, Ok, Err}
use Rattle.std.proofs.lemmas.Bool.{cases_lt, eq-eqb, ne_eqb}
use Rattle.std.specs.List.{flat_map, range_with_len}
use Rattle.std.proofs.lemmas.List.{get_or-append_right, get_or-replicate, get_or_append_left, length-replicate, get_or-map, length-map}
use Rattle.std.specs.Prelude.{MatchOption, Option, None, Some, unwrap_or, IfErr}
use Rattle.std.proofs.lemmas.Simd.{map-map}
use Rattle.elf_link_relocate.proofs.Public.{load_of, any_options, memory_zero}
use Rattle.elf_exec.specs.ExecWriting.{EndTooFar, file_end, piece, member_content, output_content, IsTooLong, exec_text}
use Rattle.elf_exec.specs.ExecWriting.{load_content, load_contents, loads_text, placed_header, placed_table, IsPlacedExec, PlacedExecValue}
use Rattle.elf_exec.specs.ExecWriting.{IsExecFault, IsPartsFault, IsPlacingFault, exec_end, exec_fault, member_piece}
use Rattle.elf_link_relocate.specs.Loads.{file_size, commons_load, load_in, loads, no_load, output_load, EndInTime}
use Rattle.elf_exec.specs.Executable.{AreLoadBytes, ExecLaid, bytes_from, exec_bytes, exec_header, header_bytes, load_part, load_parts}
use Rattle.elf_exec.specs.Executable.{program_header, program_headers, table_bytes}
use Rattle.elf_exec.specs.declared.placed_exec.PlacingFault.TheVariants.{TooLong, OutOfMemory}
use Rattle.elf_exec.specs.declared.placed_exec.PlacingFault.{PlacingFault}
use Rattle.elf_link_relocate.specs.declared.load.Load.{Load}
use Rattle.elf_extent.proofs.Public.{above_earlier, above_from, fits_length}
use Rattle.elf_extent.specs.Place.{Fits, IsOverflowAt, end_of, Least}
use Rattle.elf_field.proofs.RecordTableLaws.{length-table}
use Rattle.elf_field.specs.laws.Headers.{ehdr_laws, phdr_laws}
use Rattle.elf_field.specs.declared.phdr.Phdr.{Phdr}
use Rattle.elf_image_stream.proofs.Public.{sends_after}
use Rattle.elf_image_stream.specs.Output.{Sends, WentOut}
use Rattle.elf_image_stream.specs.declared.fault.WriteFault.{WriteFault}
use Rattle.elf_image_type.proofs.Public.{length-unaligned, length-spread}
use Rattle.elf_image_type.specs.WrittenFile.{spread, unaligned}
use Rattle.elf_link_field.specs.declared.rule.RelocRule.{RelocRule}
use Rattle.elf_link_files.specs.Files.{section_in, is_loadable}
use Rattle.elf_link_files.specs.Rows.{AreEach}
use Rattle.elf_link_map.proofs.Public.{outputs_stand, parts_apart}
use Rattle.elf_link_map.specs.LinkMap.{LinkMapValue}
use Rattle.elf_link_map.specs.Standing.{size_in, MembersStand, address_in, member_address, member_at, member_part, no_member, or_zero}
use Rattle.elf_link_map.specs.Standing.{output_at}
use Rattle.elf_link_outputs.specs.Outputs.{is_no_bits, memory_size}
use Rattle.elf_link_outputs.specs.Placed.{OutputValue}
use Rattle.elf_link_outputs.specs.declared.placing.Member.{Member}
use Rattle.elf_link_relocate.specs.Fields.{content_of}
use Rattle.elf_link_relocate.specs.Linked.{AreBytesOf, HasLiveBits, LinkedValue, bytes_at, IsInNoMember}
use Rattle.elf_link_relocate.specs.Linked.{IsMemory, IsSoundLinked, identity_of}
use Rattle.elf_object_type.specs.Object.{BodyValue, bits, no_bits, relocs, group, ObjectValue, is_bits}

-- The end of the file is the end of its last part: places ascend, so no part ends after it. A part whose end does not fit 64 bits
-- therefore makes the whole too long.

pub end_none : (parts : List (ℕ × ℕ)) (from : ℕ) (places : List ℕ) → length parts ≡ 0 → file_end parts from places ≡ from
end_none parts from places none = rw (eq-eqb (length parts) 0 none) refl

pub end_some : (parts : List (ℕ × ℕ)) (from : ℕ) (places : List ℕ) → 0 < length parts →
    file_end parts from places ≡ end_of parts places (length parts - 1)
end_some parts from places some = rw (ne_eqb (length parts) 0 (λ none. omega arith)) refl

-- no part ends after the last one
end_last : (parts : List (ℕ × ℕ)) (from : ℕ) (places : List ℕ) (k : ℕ) → Fits parts from places → k < length parts →
    end_of parts places k ≤ end_of parts places (length parts - 1)
end_last parts from places k fits lt = elim (cases_lt k (length parts - 1)) [
  | inl earlier ↦ (let above = above_earlier parts from places k (length parts - 1) fits earlier (omega arith) in omega arith)
  | inr late ↦ (
      let same : k ≡ length parts - 1 = omega arith in
      let equal = ap (end_of parts places) same in
      omega arith)
]

-- a part that passes a u64 makes the whole too long
pub overflow_far : (parts : List (ℕ × ℕ)) (from k : ℕ) → ((places : List ℕ) × IsOverflowAt parts from k places) → EndTooFar parts from
overflow_far parts from k (places, over) =
    let within = over.within in
    let far = over.past in
    let last = end_last parts from places k over.least.fits within in
    let end = end_some parts from places (omega arith) in
    (places, over.least, omega arith)

-- Parts in a row, each at its place. The bytes that they make are their pieces one after the other, and each byte is a part's, or 0. Both
-- by induction on the parts.

-- ---- pieces

same_from : (g h : ℕ → List ℕ) (a b n : ℕ) → ((k : ℕ) → k < n → g (a + k) ≡ h (b + k)) →
    flat_map g (range_with_len a n) ≡ flat_map h (range_with_len b n)
same_from g h a b zero same = refl
same_from g h a b (suc n) same =
    let left : a ≡ a + 0 = omega arith in
    let right : b + 0 ≡ b = omega arith in
    ap₂ (λ (s t : List ℕ). s ++ t) (ap g left ∙ same 0 (omega arith) ∙ ap h right)
    (same_from g h (a + 1) (b + 1) n (λ k lt.
    let left : a + 1 + k ≡ a + suc k = omega arith in
    let right : b + suc k ≡ b + 1 + k = omega arith in
    ap g left ∙ same (suc k) (omega arith) ∙ ap h right))

same_piece : (from : ℕ) (place p size z : ℕ → ℕ) (content c : ℕ → List ℕ) (n : ℕ) → ((k : ℕ) → k < n → place k ≡ p k) →
    ((k : ℕ) → k < n → size k ≡ z k) →
    ((k : ℕ) → k < n → content k ≡ c k) → (k : ℕ) → k < n → piece from place size content k ≡ piece from p z c k
same_piece from place p size z content c n places sizes contents zero lt =
    ap₂ (λ (x : ℕ) (s : List ℕ). replicate (x - from) 0 ++ s) (places 0 lt) (contents 0 lt)
same_piece from place p size z content c n places sizes contents (suc k) lt =
    let end : place k + size k ≡ p k + z k = ap₂ (λ (x y : ℕ). x + y) (places k (omega arith)) (sizes k (omega arith)) in
    ap₂ (λ (x : ℕ) (s : List ℕ). replicate x 0 ++ s) (ap₂ (λ (x y : ℕ). x - y) (places (suc k) lt) end) (contents (suc k) lt)

pub same_pieces : (from : ℕ) (place p size z : ℕ → ℕ) (content c : ℕ → List ℕ) (n : ℕ) → ((k : ℕ) → k < n → place k ≡ p k) →
    ((k : ℕ) → k < n → size k ≡ z k) →
    ((k : ℕ) → k < n → content k ≡ c k) →
    flat_map (piece from place size content) (range_with_len 0 n) ≡ flat_map (piece from p z c) (range_with_len 0 n)
same_pieces from place p size z content c n places sizes contents =
    same_from (piece from place size content) (piece from p z c) 0 0 n
    (λ k lt. same_piece from place p size z content c n places sizes contents (0 + k) (omega arith))

-- the piece of a part in a list
part_piece : ℕ → List ℕ → List (List ℕ) → ℕ → List ℕ
part_piece from q ps = piece from (slice_index q) (λ k. length (get_or ps k [])) (λ k. get_or ps k [])

later_piece : (from x : ℕ) (q : List ℕ) (p : List ℕ) (ps : List (List ℕ)) (k : ℕ) →
    part_piece (x + length p) q ps k ≡ part_piece from (x ∷ q) (p ∷ ps) (suc k)
unfolding part_piece
later_piece from x q p ps zero = refl
later_piece from x q p ps (suc k) = refl

spread_by_pieces : (from : ℕ) (q : List ℕ) (ps : List (List ℕ)) → length q ≡ length ps →
    spread from q ps ≡ flat_map (part_piece from q ps) (range_with_len 0 (length ps))
unfolding part_piece
spread_by_pieces from [] [] many = refl
spread_by_pieces from (x ∷ q) [] many = absurd (omega arith)
spread_by_pieces from [] (p ∷ ps) many = absurd (omega arith)
spread_by_pieces from (x ∷ q) (p ∷ ps) many =
    let zeros : List ℕ = replicate (x - from) 0 in
    let rest = spread_by_pieces (x + length p) q ps (omega arith) in
    let moved = same_from (part_piece (x + length p) q ps) (part_piece from (x ∷ q) (p ∷ ps)) 0 1 (length ps) (λ k lt.
    let left : 0 + k ≡ k = omega arith in
    let right : suc k ≡ 1 + k = omega arith in
    ap (part_piece (x + length p) q ps) left ∙ later_piece from x q p ps k ∙ ap (part_piece from (x ∷ q) (p ∷ ps)) right) in
    sym (append_assoc zeros p (spread (x + length p) q ps)) ∙ ap (λ (s : List ℕ). (zeros ++ p) ++ s) (rest ∙ moved)

pub spread_pieces : (from : ℕ) (q : List ℕ) (ps : List (List ℕ)) → length q ≡ length ps →
    spread from q ps ≡
    flat_map (piece from (slice_index q) (λ k. length (get_or ps k [])) (λ k. get_or ps k [])) (range_with_len 0 (length ps))
unfolding part_piece
spread_pieces from q ps many = spread_by_pieces from q ps many

-- ---- bytes

-- offset x is so far in part j
abbrev pub IsInPart : List ℕ → List (List ℕ) → ℕ → ℕ → ℕ → Type 0
IsInPart q ps x j i = (j < length ps) × (i < length (get_or ps j [])) × (x ≡ get_or q j 0 + i)

-- a byte is a part's, or no part has it and it is 0
abbrev pub IsPartByte : List ℕ → List (List ℕ) → ℕ → ℕ → Type 0
IsPartByte q ps x v =
    ((j i : ℕ) × IsInPart q ps x j i × (v ≡ slice_index (get_or ps j []) i)) ⊎
    (((j i : ℕ) → IsInPart q ps x j i → ⊥) × (v ≡ 0))

pub byte_of_spread : (from : ℕ) (q : List ℕ) (ps : List (List ℕ)) → Fits (map unaligned ps) from q → (k : ℕ) →
    k < length (spread from q ps) →
    IsPartByte q ps (from + k) (slice_index (spread from q ps) k)
byte_of_spread from [] [] fits k lt = absurd (omega arith)
byte_of_spread from (x ∷ q) [] fits k lt = absurd fits
byte_of_spread from [] (p ∷ ps) fits k lt = absurd fits
byte_of_spread from (x ∷ q) (p ∷ ps) (multiple, le, rest) k lt =
    let zeros : List ℕ = replicate (x - from) 0 in
    let following : List ℕ = spread (x + length p) q ps in
    let pad : length zeros ≡ x - from = length-replicate (x - from) 0 in
    let whole = length-append zeros (p ++ following) in
    let part = length-append p following in
    let later : (j : ℕ) → j < length ps → x + length p ≤ get_or q j 0 =
    (λ j lt. let many = length-unaligned ps in above_from (map unaligned ps) (x + length p) q j rest (omega arith)) in
    elim (cases_lt k (x - from)) [
      | inl gap ↦ inr (
        in_gap q ps x p from k le gap later,
        get_or_append_left zeros (p ++ following) 0 k (omega arith) ∙ get_or-replicate (x - from) k 0 0 gap,
      )
      | inr past ↦
          (let first : get_or (zeros ++ (p ++ following)) k 0 ≡ get_or (p ++ following) (k - (x - from)) 0 =
          get_or-append_right zeros (p ++ following) (x - from) k 0 pad past in
          elim (cases_lt (k - (x - from)) (length p)) [
            | inl here ↦
                inl (0, k - (x - from), (omega arith, here, omega arith), first ∙ get_or_append_left p following 0 (k - (x - from)) here)
            | inr far ↦
                (let m = k - (x - from) - length p in
                let second : get_or (p ++ following) (k - (x - from)) 0 ≡ get_or following m 0 =
                get_or-append_right p following (length p) (k - (x - from)) 0 refl far in
                let same : x + length p + m ≡ from + k = omega arith in
                after_part q ps x p (from + k) (x + length p + m) (get_or (zeros ++ (p ++ following)) k 0) (get_or following m 0) same
                (omega arith) (first ∙ second)
                (byte_of_spread (x + length p) q ps rest m (omega arith)))
          ])
    ]
  where
    in_gap : (q : List ℕ) (ps : List (List ℕ)) (x : ℕ) (p : List ℕ) (from k : ℕ) → from ≤ x → k < x - from →
        ((j : ℕ) → j < length ps → x + length p ≤ get_or q j 0) →
        (j i : ℕ) → IsInPart (x ∷ q) (p ∷ ps) (from + k) j i → ⊥
    in_gap q ps x p from k le gap later zero i (lt, i_in, at) = omega arith
    in_gap q ps x p from k le gap later (suc j) i (lt, i_in, at) = (let above = later j (omega arith) in omega arith)

    after_part : (q : List ℕ) (ps : List (List ℕ)) (x : ℕ) (p : List ℕ) (y z v w : ℕ) → z ≡ y → x + length p ≤ y → v ≡ w →
        IsPartByte q ps z w → IsPartByte (x ∷ q) (p ∷ ps) y v
    after_part q ps x p y z v w same above equal (inl (j, i, (lt, i_in, at), is)) =
        inl (suc j, i, (omega arith, i_in, omega arith), equal ∙ is)
    after_part q ps x p y z v w same above equal (inr (none, is)) = inr (none_there, equal ∙ is)
      where
        none_there : (j i : ℕ) → IsInPart (x ∷ q) (p ∷ ps) y j i → ⊥
        none_there zero i (lt, i_in, at) = omega arith
        none_there (suc j) i (lt, i_in, at) = none j i (omega arith, i_in, omega arith)

-- ---- the items of a list, one by one

pub same_map : {A B : Type 0} (f g : A → B) (none : A) (xs : List A) →
    ((i : ℕ) → i < length xs → f (get_or xs i none) ≡ g (get_or xs i none)) → map f xs ≡ map g xs
same_map f g none [] same = refl
same_map f g none (x ∷ xs) same =
    ap₂ (λ (y : _) (ys : List _). y ∷ ys) (same 0 (omega arith)) (same_map f g none xs (λ i lt. same (suc i) (omega arith)))

pub size_at : (ps : List (List ℕ)) (k : ℕ) → get_or (map (λ (p : ℕ × ℕ). p.0) (map unaligned ps)) k 0 ≡ length (get_or ps k [])
size_at [] k = refl
size_at (p ∷ ps) zero = refl
size_at (p ∷ ps) (suc k) = size_at ps k

-- The bytes of an output with bits, as they are sent, are those of memory: its members' at their addresses, and zeros between.

-- ---- a body that takes memory, and not without bits

has_bits : (b : BodyValue) → is_loadable b ≡ true → is_no_bits b ≡ false → is_bits b ≡ true
has_bits (bits type content) loads with = refl
has_bits (no_bits size) loads with = absurd (let never : true ≡ false = with in cc)
has_bits (relocs rela target entries) loads with = absurd (let never : false ≡ true = loads in cc)
has_bits (group comdat signature members) loads with = absurd (let never : false ≡ true = loads in cc)

content_size : (b : BodyValue) → is_no_bits b ≡ false → memory_size b ≡ length (content_of b)
content_size (bits type content) with = refl
content_size (no_bits size) with = absurd (let never : true ≡ false = with in cc)
content_size (relocs rela target entries) with = refl
content_size (group comdat signature members) with = refl

copy_of : (fs : List ObjectValue) (m : LinkMapValue) (rules : List RelocRule) (f s : ℕ) (copy : Option (List ℕ)) →
    MatchOption copy (HasLiveBits fs f s → ⊥) (AreBytesOf fs m rules f s) → HasLiveBits fs f s →
    AreBytesOf fs m rules f s (unwrap_or copy [])
copy_of fs m rules f s None none has = absurd (none has)
copy_of fs m rules f s (Some bytes) are has = are

module _ (l : LinkedValue) (ready : IsSoundLinked l) (k : ℕ) (k_in : k < length l.map.outputs)
    (with : (output_at l.map k).no_bits ≡ false) where
  abbrev fs : List ObjectValue
  fs = l.objects

  abbrev m : LinkMapValue
  m = l.map

  abbrev o : OutputValue
  o = output_at l.map k

  abbrev addresses : List ℕ
  addresses = map (member_address l.map) (output_at l.map k).members

  abbrev parts : List (List ℕ)
  parts = map (member_content l) (output_at l.map k).members

  stand : MembersStand fs m o
  stand = (let (opt, is, sound) = ready.map in (outputs_stand opt fs m is).members k k_in)

  member_in : (i : ℕ) → i < length o.members → HasLiveBits fs (member_at o i).file (member_at o i).section
  member_in i lt =
      let alive = stand.live i lt in (
        (alive.0, alive.1),
        alive.2,
        has_bits (section_in fs (member_at o i).file (member_at o i).section).body alive.2.1 (stand.kind i lt ∙ with),
      )

  copy_at : (i : ℕ) → i < length o.members →
      AreBytesOf fs m l.rules (member_at o i).file (member_at o i).section (member_content l (member_at o i))
  copy_at i lt =
      let p = member_at o i in
      copy_of fs m l.rules p.file p.section (bytes_at l p.file p.section) (ready.linked.bytes p.file p.section) (member_in i lt)

  member_size : (i : ℕ) → i < length o.members →
      length (member_content l (member_at o i)) ≡ size_in fs (member_at o i).file (member_at o i).section
  member_size i lt =
      let p = member_at o i in
      (copy_at i lt).long ∙ sym (content_size (section_in fs p.file p.section).body (stand.kind i lt ∙ with))

  part_is : (i : ℕ) → i < length o.members → get_or parts i [] ≡ member_content l (member_at o i)
  part_is i lt = get_or-map (member_content l) o.members i no_member [] lt

  address_is : (i : ℕ) → i < length o.members → get_or addresses i 0 ≡ member_address m (member_at o i)
  address_is i lt = get_or-map (member_address m) o.members i no_member 0 lt

  same_parts : map (member_part fs) o.members ≡ map unaligned parts
  same_parts =
      same_map (member_part fs) (λ (p : Member). unaligned (member_content l p)) no_member o.members
      (λ i lt. ap (λ (n : ℕ). let q : ℕ × ℕ = (n, 1) in q) (sym (member_size i lt)))
      ∙ sym (map-map unaligned (member_content l) o.members)

  fits : Fits (map unaligned parts) o.address addresses
  fits = subst (λ (ps : List (ℕ × ℕ)). Fits ps o.address addresses) same_parts stand.order

  pub length-output : length (output_content l o) ≡ o.length
  length-output =
      let n = length o.members - 1 in
      let some = stand.some in
      let many = length-map o.members (member_content l) in
      let whole = length-spread o.address addresses parts n fits (omega arith) in
      let last : o.address + o.length ≡ end_of (map unaligned parts) addresses n =
      subst (λ (ps : List (ℕ × ℕ)). o.address + o.length ≡ end_of ps addresses n) same_parts stand.last in
      let size = size_at parts n in
      omega arith

  pub output_memory : (i : ℕ) → i < length (output_content l o) → IsMemory fs m l.rules (o.address + i) (slice_index (output_content l o) i)
  output_memory i lt = elim (byte_of_spread o.address addresses parts fits i lt) [
    | inl (j, n, (j_in, n_in, at), is) ↦ (
        let within : j < length o.members = (let many = length-map o.members (member_content l) in omega arith) in
        let p = member_at o j in
        let copy = copy_at j within in
        let (a, begins, bytes) = copy.memory in
        let here : address_in m p.file p.section ≡ a = ap or_zero begins in
        let address = address_is j within in
        let part = part_is j within in
        let long = ap (λ (s : List ℕ). length s) part in
        let x : a + n ≡ o.address + i = omega arith in
        let v : slice_index (member_content l p) n ≡ slice_index (output_content l o) i =
        ap (λ (s : List ℕ). slice_index s n) (sym part) ∙ sym is in
        subst (λ (y : ℕ). IsMemory fs m l.rules y (slice_index (output_content l o) i)) x
        (subst (λ (w : ℕ). IsMemory fs m l.rules (a + n) w) v (bytes n (omega arith))))
    | inr (none, is) ↦ (
        let long = length-output in
        subst (λ (w : ℕ). IsMemory fs m l.rules (o.address + i) w) (sym is)
        (memory_zero fs m l.rules (any_options fs m ready.map) ready.linked.sound (o.address + i) k k_in (omega arith, omega arith)
        (in_none i none)))
  ]
    where
      in_none : (i : ℕ) → ((j n : ℕ) → IsInPart addresses parts (o.address + i) j n → ⊥) → IsInNoMember fs m k (o.address + i)
      in_none i none j j_in (from, to) =
          let p = member_at o j in
          let address = address_is j j_in in
          let long = ap (λ (s : List ℕ). length s) (part_is j j_in) in
          let size = (copy_at j j_in).long in
          let many = length-map o.members (member_content l) in
          none j (o.address + i - member_address m p) (omega arith, omega arith, omega arith)

-- ---- the bytes of each segment are memory's

cases_bool : (b : Bool) → (b ≡ true) ⊎ (b ≡ false)
cases_bool true = inl refl
cases_bool false = inr refl

none_right : (l : LinkedValue) (load : Load) → load.no_bits ≡ true → AreLoadBytes l.objects l.map l.rules load (load_content l load)
none_right l load without =
    let content : load_content l load ≡ [] = rw without refl in
    let size : file_size load ≡ 0 = rw without refl in
    subst (λ (s : List ℕ). AreLoadBytes l.objects l.map l.rules load s) (sym content) (record {
      long = sym size;
      memory = λ k lt. absurd (omega arith);
    })

output_right : (l : LinkedValue) (k : ℕ) → IsSoundLinked l → k < length l.map.outputs → (output_at l.map k).no_bits ≡ false →
    AreLoadBytes l.objects l.map l.rules (output_load k (output_at l.map k)) (load_content l (output_load k (output_at l.map k)))
output_right l k ready lt with =
    let load = output_load k (output_at l.map k) in
    let content : load_content l load ≡ output_content l (output_at l.map k) = rw with refl in
    let size : file_size load ≡ (output_at l.map k).length = rw with refl in
    subst (λ (s : List ℕ). AreLoadBytes l.objects l.map l.rules load s) (sym content) (record {
      long = length-output l ready k lt with ∙ sym size;
      memory = output_memory l ready k lt with;
    })

pub content_right : (l : LinkedValue) (j : ℕ) → IsSoundLinked l → j < length (loads l.map) →
    AreLoadBytes l.objects l.map l.rules (load_in l.map j) (load_content l (load_in l.map j))
content_right l j ready lt =
    let P : Load → Type 0 = λ load. AreLoadBytes l.objects l.map l.rules load (load_content l load) in
    elim (load_of l.map j lt) [
      | inr commons ↦ subst P (sym commons) (none_right l (commons_load (length l.map.outputs) l.map.commons) refl)
      | inl (k, within, is) ↦ elim (cases_bool (output_at l.map k).no_bits) [
        | inl without ↦ subst P (sym is) (none_right l (output_load k (output_at l.map k)) without)
        | inr with ↦ subst P (sym is) (output_right l k ready within with)
      ]
    ]

content_at : (l : LinkedValue) (j : ℕ) → j < length (loads l.map) → get_or (load_contents l) j [] ≡ load_content l (load_in l.map j)
content_at l j lt = get_or-map (load_content l) (loads l.map) j no_load [] lt

length-contents : (l : LinkedValue) → length (load_contents l) ≡ length (loads l.map)
length-contents l = length-map (loads l.map) (load_content l)

contents_right : (l : LinkedValue) → IsSoundLinked l →
    AreEach [] (λ j. AreLoadBytes l.objects l.map l.rules (load_in l.map j)) (length (loads l.map)) (load_contents l)
contents_right l ready = record {
  count = length-contents l;
  each = λ j lt. subst (AreLoadBytes l.objects l.map l.rules (load_in l.map j)) (sym (content_at l j lt)) (content_right l j ready lt);
}

-- relocated bytes have an executable at these places
pub exec_laid : (l : LinkedValue) (places : List ℕ) → IsSoundLinked l → Least (load_parts l.map) (bytes_from l.map) places →
    ExecLaid l.objects l.map l.rules (exec_bytes l.objects l.map places (load_contents l))
exec_laid l places ready least = record {
  places = places;
  contents = load_contents l;
  least = least;
  memory = contents_right l ready;
  bytes = refl;
}

-- ---- the parts, and their places

pub many_parts : (m : LinkMapValue) → length (load_parts m) ≡ length (loads m)
unfolding load_parts
many_parts m = length-map (loads m) (load_part m.page)

part_size : (m : LinkMapValue) (j : ℕ) → j < length (loads m) → (get_or (load_parts m) j (0, 0)).0 ≡ file_size (load_in m j)
unfolding load_parts
part_size m j lt = ap (λ (p : ℕ × ℕ). p.0) (get_or-map (load_part m.page) (loads m) j no_load (0, 0) lt)

pub many_places : (m : LinkMapValue) (places : List ℕ) → Least (load_parts m) (bytes_from m) places → length places ≡ length (loads m)
many_places m places least = fits_length (load_parts m) (bytes_from m) places least.fits ∙ many_parts m

-- places that fit aligned parts fit the bytes of these sizes
loose : (ps : List (ℕ × ℕ)) (cs : List (List ℕ)) (from : ℕ) (q : List ℕ) → Fits ps from q → length cs ≡ length ps →
    ((i : ℕ) → i < length ps → length (get_or cs i []) ≡ (get_or ps i (0, 0)).0) → Fits (map unaligned cs) from q
loose [] [] from [] fits many sizes = tt
loose [] [] from (x ∷ q) fits many sizes = absurd fits
loose [] (c ∷ cs) from q fits many sizes = absurd (omega arith)
loose (p ∷ ps) [] from q fits many sizes = absurd (omega arith)
loose (p ∷ ps) (c ∷ cs) from [] fits many sizes = absurd fits
loose (p ∷ ps) (c ∷ cs) from (x ∷ q) (multiple, above, rest) many sizes =
    let size : p.0 ≡ length c = sym (sizes 0 (omega arith)) in (
      omega arith,
      above,
      loose ps cs (x + length c) q (subst (λ (n : ℕ). Fits ps (x + n) q) size rest) (omega arith) (λ i lt. sizes (suc i) (omega arith)),
    )

contents_fit : (l : LinkedValue) (places : List ℕ) → IsSoundLinked l → Least (load_parts l.map) (bytes_from l.map) places →
    Fits (map unaligned (load_contents l)) (bytes_from l.map) places
contents_fit l places ready least =
    let parts = many_parts l.map in
    let contents = length-contents l in
    loose (load_parts l.map) (load_contents l) (bytes_from l.map) places least.fits (omega arith)
    (λ i lt. (
    let within : i < length (loads l.map) = omega arith in
    ap (λ (s : List ℕ). length s) (content_at l i within) ∙ (content_right l i ready within).long ∙ sym (part_size l.map i within)))

-- ---- how long it is

pub length-header : (fs : List ObjectValue) (m : LinkMapValue) → length (header_bytes fs m) ≡ 64
unfolding header_bytes
length-header fs m = (let i = identity_of fs in ehdr_laws.length_is i.order (exec_header i m.entry (length (loads m))))

pub length-program_headers : (page : ℕ) (ls : List Load) (places : List ℕ) → length places ≡ length ls →
    length (program_headers page ls places) ≡ length ls
length-program_headers page [] places many = refl
length-program_headers page (load ∷ ls) [] many = absurd (omega arith)
length-program_headers page (load ∷ ls) (x ∷ places) many = ap suc (length-program_headers page ls places (omega arith))

pub header_found : (page : ℕ) (ls : List Load) (places : List ℕ) (k : ℕ) (h : Phdr) → length places ≡ length ls → k < length ls →
    get_or (program_headers page ls places) k h ≡ program_header page (get_or ls k no_load) (get_or places k 0)
header_found page [] places k h many lt = absurd (omega arith)
header_found page (load ∷ ls) [] k h many lt = absurd (omega arith)
header_found page (load ∷ ls) (x ∷ places) zero h many lt = refl
header_found page (load ∷ ls) (x ∷ places) (suc k) h many lt = header_found page ls places k h (omega arith) (omega arith)

pub length-table_bytes : (fs : List ObjectValue) (m : LinkMapValue) (places : List ℕ) → length places ≡ length (loads m) →
    length (table_bytes fs m places) ≡ 56 * length (loads m)
unfolding table_bytes
length-table_bytes fs m places many =
    length-table phdr_laws (identity_of fs).order (program_headers m.page (loads m) places)
    ∙ ap (λ (n : ℕ). 56 * n) (length-program_headers m.page (loads m) places many)

pub exec_is : (fs : List ObjectValue) (m : LinkMapValue) (places : List ℕ) (contents : List (List ℕ)) → length places ≡ length (loads m) →
    exec_bytes fs m places contents ≡ header_bytes fs m ++ (table_bytes fs m places ++ spread (bytes_from m) places contents)
unfolding exec_bytes
exec_is fs m places contents many =
    let h = header_bytes fs m in
    let t = table_bytes fs m places in
    let first : 0 + length h ≡ 64 = (let e = length-header fs m in omega arith) in
    let second : 64 + length t ≡ bytes_from m = (let e = length-table_bytes fs m places many in omega arith) in
    ap (λ (n : ℕ). h ++ (replicate (64 - n) 0 ++ (t ++ spread (64 + length t) places contents))) first
    ∙ ap (λ (n : ℕ). h ++ (t ++ spread n places contents)) second

-- it ends with the bytes of its last segment, or with the program header table
pub last_end : (m : LinkMapValue) (places : List ℕ) (k : ℕ) → k + 1 ≡ length (loads m) →
    exec_end m places ≡ slice_index places k + file_size (load_in m k)
last_end m places k last =
    let parts = many_parts m in
    let end = end_some (load_parts m) (bytes_from m) places (omega arith) in
    let same : length (load_parts m) - 1 ≡ k = omega arith in
    let at = ap (end_of (load_parts m) places) same in
    let size : get_or (map (λ (p : ℕ × ℕ). p.0) (load_parts m)) k 0 ≡ file_size (load_in m k) =
    get_or-map (λ (p : ℕ × ℕ). p.0) (load_parts m) k (0, 0) 0 (omega arith) ∙ part_size m k (omega arith) in
    omega arith

pub no_end : (m : LinkMapValue) (places : List ℕ) → length (loads m) ≡ 0 → exec_end m places ≡ bytes_from m
no_end m places none = (let parts = many_parts m in end_none (load_parts m) (bytes_from m) places (omega arith))

after_length : (l : LinkedValue) (places : List ℕ) → IsSoundLinked l → Least (load_parts l.map) (bytes_from l.map) places →
    bytes_from l.map + length (spread (bytes_from l.map) places (load_contents l)) ≡ exec_end l.map places
after_length l places ready least =
    let parts = many_parts l.map in
    let contents = length-contents l in
    let fits = contents_fit l places ready least in
    elim (cases_lt 0 (length (loads l.map))) [
      | inl some ↦ (
          let n = length (load_parts l.map) - 1 in
          let whole = length-spread (bytes_from l.map) places (load_contents l) n fits (omega arith) in
          let end = end_some (load_parts l.map) (bytes_from l.map) places (omega arith) in
          let size : get_or (map (λ (p : ℕ × ℕ). p.0) (load_parts l.map)) n 0 ≡ length (get_or (load_contents l) n []) =
          last_size l ready n (omega arith) in
          omega arith)
      | inr none ↦ (
          let end = end_none (load_parts l.map) (bytes_from l.map) places (omega arith) in
          let nothing = no_parts (bytes_from l.map) places (load_contents l) (omega arith) in
          omega arith)
    ]
  where
    no_parts : (from : ℕ) (q : List ℕ) (cs : List (List ℕ)) → length cs ≡ 0 → length (spread from q cs) ≡ 0
    no_parts from [] [] none = refl
    no_parts from (x ∷ q) [] none = refl
    no_parts from q (c ∷ cs) none = absurd (omega arith)

    last_size : (l : LinkedValue) → IsSoundLinked l → (n : ℕ) → n < length (loads l.map) →
        get_or (map (λ (p : ℕ × ℕ). p.0) (load_parts l.map)) n 0 ≡ length (get_or (load_contents l) n [])
    last_size l ready n lt =
        get_or-map (λ (p : ℕ × ℕ). p.0) (load_parts l.map) n (0, 0) 0 (let parts = many_parts l.map in omega arith)
        ∙ part_size l.map n lt ∙ sym (content_right l n ready lt).long ∙ ap (λ (s : List ℕ). length s) (sym (content_at l n lt))

pub length-exec : (l : LinkedValue) (places : List ℕ) → IsSoundLinked l → Least (load_parts l.map) (bytes_from l.map) places →
    length (exec_bytes l.objects l.map places (load_contents l)) ≡ exec_end l.map places
length-exec l places ready least =
    let fs = l.objects in
    let m = l.map in
    let many = many_places m places least in
    let h = header_bytes fs m in
    let t = table_bytes fs m places in
    let s = spread (bytes_from m) places (load_contents l) in
    let whole = ap (λ (b : List ℕ). length b) (exec_is fs m places (load_contents l) many) in
    let outer = length-append h (t ++ s) in
    let inner = length-append t s in
    let header = length-header fs m in
    let table = length-table_bytes fs m places many in
    let following = after_length l places ready least in
    omega arith

-- ---- piece by piece

loads_are : (p : PlacedExecValue) → IsPlacedExec p → spread (bytes_from p.linked.map) p.places (load_contents p.linked) ≡ loads_text p
loads_are p placed =
    let l = p.linked in
    let m = l.map in
    let from = bytes_from m in
    let cs = load_contents l in
    let n = length (loads m) in
    let many = many_places m p.places placed.least in
    let contents = length-contents l in
    let size : ℕ → ℕ = λ k. length (get_or cs k []) in
    let pieces = spread_pieces from p.places cs (omega arith) in
    pieces
    ∙ ap (λ (c : ℕ). flat_map (piece from (slice_index p.places) size (λ k. get_or cs k [])) (range_with_len 0 c)) contents
    ∙ same_pieces from (slice_index p.places) (slice_index p.places) size (λ k. file_size (load_in m k)) (λ k. get_or cs k [])
    (λ k. load_content l (load_in m k)) n
    (λ k lt. refl)
    (λ k lt. ap (λ (s : List ℕ). length s) (content_at l k lt) ∙ (content_right l k placed.ready lt).long)
    (λ k lt. content_at l k lt)

pub text_is : (p : PlacedExecValue) → IsPlacedExec p → exec_text p ≡ placed_header p ++ (placed_table p ++ loads_text p)
text_is p placed =
    let l = p.linked in
    exec_is l.objects l.map p.places (load_contents l) (many_places l.map p.places placed.least)
    ∙ ap (λ (s : List ℕ). placed_header p ++ (placed_table p ++ s)) (loads_are p placed)

-- ---- what goes out, and what does not

abbrev pub sent_text : PlacedExecValue → List ℕ
sent_text p = placed_header p ++ (placed_table p ++ loads_text p)

-- parts that end too far make the executable too long
pub too_long : (l : LinkedValue) → IsSoundLinked l → EndTooFar (load_parts l.map) (bytes_from l.map) → IsTooLong l
too_long l ready (places, least, far) =
    let long = length-exec l places ready least in
    inr (exec_bytes l.objects l.map places (load_contents l), exec_laid l places ready least, omega arith)

-- Facts for placing and sending an executable. The bytes of an output are the pieces of its members, each after zeros up to its address.
-- The parts that are placed, and their start, are those of the map, so a fault of placing is the link's.

-- zeros, and what is after them
pub padded_sent : (a b c : Option (List ℕ)) (out mid n k : ℕ) (s t : List ℕ) (result : Result ℕ WriteFault) →
    WentOut a b out (replicate n 0) mid → n ≡ k → s ≡ t →
    Sends b c mid s result → Sends a c out (replicate k 0 ++ t) result
padded_sent a b c out mid n k s t result zeros padding same sends =
    subst (λ (j : ℕ). Sends a c out (replicate j 0 ++ t) result) padding
    (subst (λ (u : List ℕ). Sends a c out (replicate n 0 ++ u) result) same
    (sends_after a b c out mid (replicate n 0) s result zeros sends))

-- the bytes of an output, member by member
pub output_text : (l : LinkedValue) (o : OutputValue) →
    output_content l o ≡ flat_map (member_piece l o) (range_with_len 0 (length o.members))
output_text l o =
    let q : List ℕ = map (member_address l.map) o.members in
    let ps : List (List ℕ) = map (member_content l) o.members in
    let n = length o.members in
    let places = length-map o.members (member_address l.map) in
    let contents = length-map o.members (member_content l) in
    let content_at : (k : ℕ) → k < n → get_or ps k [] ≡ member_content l (member_at o k) =
    (λ k lt. get_or-map (member_content l) o.members k no_member [] lt) in
    spread_pieces o.address q ps (omega arith)
    ∙ ap (λ (c : ℕ). flat_map (piece o.address (λ k. get_or q k 0) (λ k. length (get_or ps k [])) (λ k. get_or ps k []))
    (range_with_len 0 c)) contents
    ∙ same_pieces o.address (λ k. get_or q k 0) (λ k. member_address l.map (member_at o k)) (λ k. length (get_or ps k []))
    (λ k. length (member_content l (member_at o k)))
    (λ k. get_or ps k []) (λ k. member_content l (member_at o k)) n
    (λ k lt. get_or-map (member_address l.map) o.members k no_member 0 lt)
    (λ k lt. ap (λ (s : List ℕ). length s) (content_at k lt))
    content_at

-- ---- where the segments are

pub commons_end : (l : LinkedValue) → IsSoundLinked l → EndInTime l.map.commons
commons_end l ready = (let (opt, is, sound) = ready.map in (parts_apart opt l.objects l.map is).commons_within)

pub parts_are : (m : LinkMapValue) (page : ℕ) (ls : List Load) → page ≡ m.page → ls ≡ loads m → map (load_part page) ls ≡ load_parts m
unfolding load_parts
parts_are m page ls paged are = ap (λ (n : ℕ). map (load_part n) ls) paged ∙ ap (map (load_part m.page)) are

pub from_is : (m : LinkMapValue) (ls : List Load) (n : ℕ) → ls ≡ loads m → n ≡ length ls → 64 + 56 * n ≡ bytes_from m
from_is m ls n are count = (let long = ap (λ (xs : List Load). length xs) are in omega arith)

placing_fault : (l : LinkedValue) (fault : PlacingFault) → IsSoundLinked l → IsPartsFault (load_parts l.map) (bytes_from l.map) fault →
    IsPlacingFault l fault
placing_fault l TooLong ready far = too_long l ready far
placing_fault l OutOfMemory ready is = tt

pub if_fault : {T : Type 0} (l : LinkedValue) (r : Result T PlacingFault) → IsSoundLinked l →
    IfErr r (IsPartsFault (load_parts l.map) (bytes_from l.map)) → IfErr r (IsPlacingFault l)
if_fault l (Ok x) ready is = is
if_fault l (Err fault) ready is = placing_fault l fault ready is

-- before the first byte is written, why there are no places is why the executable is not written
pub unplaced : (l : LinkedValue) (held : Option (List ℕ)) (fault : PlacingFault) → IsPlacingFault l fault →
    IsExecFault l held held (exec_fault fault)
unplaced l held TooLong long = (refl, long)
unplaced l held OutOfMemory is = refl
