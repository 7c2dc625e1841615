-- The extents of a file in the slots of a buffer: the first k slots hold the extents so far that have a byte. An extent with a byte is one
-- slot more (`gathered_one`), and an empty one none (`gathered_none`). If slots ascend by their starts, so do their extents.
use Rattle.std.proofs.Common.{◌<◌, ◌^◌, ℕ, List, arith, length, refl, ◌≡◌, ◌+◌, ◌++◌, true, false, [], ◌∷◌, map, filter, take, get_or, ap}
use Rattle.std.proofs.Common.{sym, ◌∙◌, ◌==◌, Bool, cond, None, Option, subst}
use Rattle.std.specs.Prelude.{slice_set, Some}
use Rattle.std.specs.List.{slice_get}
use Rattle.std.specs.List.Sorted.{IsNonDecreasingBy, IsPermutation}
use Rattle.std.proofs.lemmas.Bool.Decides.{nat_tests}
use Rattle.std.proofs.lemmas.List.{append-nil, get_or-map, length-map, map-append, take_more_set, map_push}
use Rattle.std.proofs.lemmas.List.Elements.{filter_more}
use Rattle.std.proofs.lemmas.Option.{get_or_from_slice_get}
use Rattle.std.proofs.lemmas.Bool.{ne_eqb}
use Rattle.std.proofs.lemmas.List.Sorted.{IsPermutation-map}
use Rattle.elf_c_parts.specs.Slots.{no_owner, parts_wanted, extent_in, extent_of_part, member_of_part, piece_of_part}
use Rattle.elf_c_parts.specs.declared.parts.Part.{Part}
use Rattle.elf_c_parts.specs.declared.room.Slot.{Slot}
use Rattle.elf_extent.proofs.Public.{member_piece, member_start, members_permuted}
use Rattle.elf_extent.specs.Extent.{AreWithin, holds_any, AreMembers, IsMember}
use Rattle.elf_extent.specs.declared.extent.Extent.{Extent}
use Rattle.elf_extent.specs.declared.extent.Piece.{Piece}
use Rattle.elf_extent.specs.declared.sorted.Member.{Member}
use Rattle.elf_image_rules.proofs.Public.{extents_within, kept_short, length-extents, sections_there, sound_file}
use Rattle.elf_image_rules.specs.Rules.{KeepsRecordRules, extents_of_file}
use Rattle.elf_image_rules.specs.Tables.{file_counts, header, sections}

-- The extents of a file that keeps rules 1 to 32 end within the file. The file has at most 2^30 bytes, so there are fewer extents than
-- 2^64 - 1, and the count of slots that are needed fits too.

-- they end in the file
pub inside_file : (b : List ℕ) → KeepsRecordRules b → AreWithin (extents_of_file b) (length b)
inside_file b kept = extents_within (length b) (header b) (sections b (header b)) (sound_file b (header b) refl kept)

-- which is not long
pub short_file : (b : List ℕ) → KeepsRecordRules b → length b < 2 ^ 64
short_file b kept = omega (arith, kept_short b kept)

-- and no index of one is that of a gap
pub few_extents : (b : List ℕ) → KeepsRecordRules b → length (extents_of_file b) < no_owner
few_extents b kept =
    let h = header b in
    let n = file_counts b in
    let long = length-extents h n.sections n.segments (sections b h) in
    let there = sections_there b h (sound_file b h refl kept) in
    let short = kept_short b kept in
    omega arith

-- and how many parts are wanted fits in 64 bits
pub few_parts : (b : List ℕ) → KeepsRecordRules b → parts_wanted b < 2 ^ 64
few_parts b kept =
    let h = header b in
    let n = file_counts b in
    let long = length-extents h n.sections n.segments (sections b h) in
    let there = sections_there b h (sound_file b h refl kept) in
    let short = kept_short b kept in
    omega arith

-- where the slots ascend by their starts, so do the extents
pub ascending_slots : (ss : List Slot) → IsNonDecreasingBy (λ s. s.start) ss → IsNonDecreasingBy (λ e. e.start) (map extent_in ss)
ascending_slots [] up i j d le below = absurd (omega arith)
ascending_slots (s ∷ ss) up i j d le below =
    let within : j < length (s ∷ ss) = omega (arith, length-map (s ∷ ss) extent_in) in
    let first = get_or-map extent_in (s ∷ ss) i s d (omega arith) in
    let second = get_or-map extent_in (s ∷ ss) j s d within in
    rw (first, second) (up i j s le within)

-- the extents gathered so far go on by one that holds a byte
pub gathered_one : (es : List Extent) (room : List Slot) (i k : ℕ) (e : Extent) (s : Slot) → slice_get es i ≡ Some e → i < length es →
    0 < e.len → extent_in s ≡ e → k < length room → map extent_in (take k room) ≡ filter holds_any (take i es) →
    map extent_in (take (k + 1) (slice_set room k s)) ≡ filter holds_any (take (i + 1) es)
gathered_one es room i k e s read within some same room_for so_far =
    let test : holds_any e ≡ true = grind (arith, nat_tests) in
    let here : get_or es i e ≡ e = get_or_from_slice_get es i e e read in
    ap (map extent_in) (take_more_set room k s room_for)
    ∙ map-append extent_in (take k room) (s ∷ [])
    ∙ ap (λ (xs : List Extent). xs ++ extent_in s ∷ []) so_far
    ∙ ap (λ (x : Extent). filter holds_any (take i es) ++ x ∷ []) same
    ∙ sym (filter_more holds_any es i e within ∙ rw (here, test) refl)

-- and past one that holds none
pub gathered_none : (es : List Extent) (i : ℕ) (e : Extent) → slice_get es i ≡ Some e → i < length es → (0 < e.len → ⊥) →
    filter holds_any (take (i + 1) es) ≡ filter holds_any (take i es)
gathered_none es i e read within none =
    let test : holds_any e ≡ false = grind (arith, nat_tests) in
    let here : get_or es i e ≡ e = get_or_from_slice_get es i e e read in
    filter_more holds_any es i e within ∙ rw (here, test) (append-nil _)

-- The extents of a file, with their owners, in the slots of a buffer. The first k slots hold the extents so far that have a byte; one slot
-- more, or the slots in another order, keep that, so sorting them gives the members in ascending order.

-- where parts ascend by their starts, so do their extents
pub ascending_parts : (ps : List Part) → IsNonDecreasingBy (λ p. p.start) ps → IsNonDecreasingBy (λ e. e.start) (map extent_of_part ps)
ascending_parts [] up i j d le below = absurd (omega arith)
ascending_parts (p ∷ ps) up i j d le below =
    let within : j < length (p ∷ ps) = omega (arith, length-map (p ∷ ps) extent_of_part) in
    let first = get_or-map extent_of_part (p ∷ ps) i p d (omega arith) in
    let second = get_or-map extent_of_part (p ∷ ps) j p d within in
    rw (first, second) (up i j p le within)

-- and so do their members
pub ascending_members : (ps : List Part) → IsNonDecreasingBy (λ p. p.start) ps → IsNonDecreasingBy member_start (map member_of_part ps)
ascending_members [] up i j d le below = absurd (omega arith)
ascending_members (p ∷ ps) up i j d le below =
    let within : j < length (p ∷ ps) = omega (arith, length-map (p ∷ ps) member_of_part) in
    let first = get_or-map member_of_part (p ∷ ps) i p d (omega arith) in
    let second = get_or-map member_of_part (p ∷ ps) j p d within in
    rw (first, second) (up i j p le within)

-- one slot more, whatever it is read as
pub map_more : {B : Type 0} (f : Part → B) (room : List Part) (k : ℕ) (p : Part) → k < length room →
    map f (take (k + 1) (slice_set room k p)) ≡ map f (take k room) ++ f p ∷ []
map_more f room k p within = ap (map f) (take_more_set room k p within) ∙ map_push f (take k room) p

-- the extents gathered so far go on by one that holds a byte
pub held_then : (es : List Extent) (room : List Part) (i k : ℕ) (e : Extent) (p : Part) → slice_get es i ≡ Some e → i < length es →
    0 < e.len → extent_of_part p ≡ e → k < length room → map extent_of_part (take k room) ≡ filter holds_any (take i es) →
    map extent_of_part (take (k + 1) (slice_set room k p)) ≡ filter holds_any (take (i + 1) es)
held_then es room i k e p read within some same room_for so_far =
    let test : holds_any e ≡ true = grind (arith, nat_tests) in
    let here : get_or es i e ≡ e = get_or_from_slice_get es i e e read in
    map_more extent_of_part room k p room_for
    ∙ ap (λ (xs : List Extent). xs ++ extent_of_part p ∷ []) so_far
    ∙ ap (λ (x : Extent). filter holds_any (take i es) ++ x ∷ []) same
    ∙ sym (filter_more holds_any es i e within ∙ rw (here, test) refl)

-- and past one that holds none
pub held_past : (es : List Extent) (i : ℕ) (e : Extent) → slice_get es i ≡ Some e → i < length es → (0 < e.len → ⊥) →
    filter holds_any (take (i + 1) es) ≡ filter holds_any (take i es)
held_past es i e read within none =
    let test : holds_any e ≡ false = grind (arith, nat_tests) in
    let here : get_or es i e ≡ e = get_or_from_slice_get es i e e read in
    filter_more holds_any es i e within ∙ rw (here, test) (append-nil _)

-- the members that are in the first slots, in another order
pub members_moved : (es : List Extent) (room front moved : List Part) (k : ℕ) →
    AreMembers es (length es) (map member_of_part (take k room)) →
    front ≡ take k room → IsPermutation front moved → AreMembers es (length es) (map member_of_part moved)
members_moved es room front moved k given same permuted =
    members_permuted es (length es) (map member_of_part front) (map member_of_part moved)
    (IsPermutation-map member_of_part front moved permuted)
    (subst (λ (ps : List Part). AreMembers es (length es) (map member_of_part ps)) (sym same) given)

-- and their extents
pub held_moved : (es : List Extent) (room front moved : List Part) (k : ℕ) → map extent_of_part (take k room) ≡ filter holds_any es →
    front ≡ take k room → IsPermutation front moved → IsPermutation (filter holds_any es) (map extent_of_part moved)
held_moved es room front moved k given same permuted =
    subst (λ (xs : List Extent). IsPermutation xs (map extent_of_part moved)) (ap (map extent_of_part) same ∙ given)
    (IsPermutation-map extent_of_part front moved permuted)

-- a part whose owner is an index is the piece of its member
pub owned_piece : (p : Part) → p.owner < no_owner → piece_of_part p ≡ member_piece (member_of_part p)
owned_piece p lt =
    let test : (p.owner == no_owner) ≡ false = ne_eqb p.owner no_owner (λ same. omega arith) in
    let piece : Option ℕ → Piece = λ owner. record { owner = owner; start = p.start; len = p.len } in
    ap (λ (b : Bool). piece (cond b None (Some p.owner))) test

-- member i of these parts, read as a list of members
pub record IsMemberAt (es : List Extent) (ps : List Part) (i : ℕ) (p : Part) (member : Member) : Type 0 where
  pub within : i < length (map member_of_part ps)
  pub read : get_or (map member_of_part ps) i member ≡ member_of_part p
  pub here : slice_get es p.owner ≡ Some (extent_of_part p)
  pub below : p.owner < length es
  pub nonempty : 0 < p.len

pub no_member : Member
no_member = record { index = 0; extent = record { start = 0; len = 0 } }

pub member_at : (es : List Extent) (ps : List Part) (i : ℕ) (d : Part) → AreMembers es (length es) (map member_of_part ps) → i < length ps →
    IsMemberAt es ps i (get_or ps i d) no_member
member_at es ps i d given lt =
    let within : i < length (map member_of_part ps) = omega (arith, length-map ps member_of_part) in
    let read : get_or (map member_of_part ps) i no_member ≡ member_of_part (get_or ps i d) =
    get_or-map member_of_part ps i d no_member lt in
    let each : IsMember es (member_of_part (get_or ps i d)) = subst (IsMember es) read (given.each i no_member within) in
    record {
      within = within;
      read = read;
      here = each.here;
      below = subst (λ (m : Member). m.index < length es) read (given.below i no_member within);
      nonempty = each.nonempty;
    }
