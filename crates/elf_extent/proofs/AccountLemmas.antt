-- The account of a file by its extents: it exists, and it is the only one.
use Rattle.std.proofs.Common.{◌≡◌, ℕ, zero, suc, ◌+◌, ◌<◌, ◌≤◌, List, [], ◌∷◌, Option, None, Some, inl, inr, refl, ap, sym, subst, ◌∙◌}
use Rattle.std.proofs.Common.{arith, ◌-◌, ◌⊎◌, true, false, cond, ◌++◌, length, get_or, nat_lt, append_assoc}
use Rattle.std.specs.Prelude.{slice_get}
use Rattle.std.proofs.lemmas.Bool.{cases_lt}
use Rattle.std.proofs.lemmas.Option.{same_Some, slice_get-get_or}
use Rattle.std.specs.List.Sorted.{IsNonDecreasingBy}
use Rattle.std.proofs.lemmas.Bool.Decides.{nat_tests}
use Rattle.std.proofs.lemmas.List.{append-nil, get_or_default}
use Rattle.std.specs.List.{insert}
use Rattle.std.proofs.lemmas.List.Sorted.{IsNonDecreasingBy-insert, IsPermutation-insert, IsPermutation-push_more, IsPermutation-refl}
use Rattle.elf_extent.proofs.ExtentLists.{once, covering_member, members_more, members_none, members_permuted, members_skip}
use Rattle.elf_extent.specs.Account.{IsGap, IsOwned, Accounts, IsOnlyPieceAt, gap_between}
use Rattle.elf_extent.specs.Extent.{HasAt, AreDisjoint, IsHeld, AreWithin, AreMembers}
use Rattle.elf_extent.specs.declared.extent.Extent.{Extent}
use Rattle.elf_extent.specs.declared.extent.Piece.{Piece}
use Rattle.elf_extent.specs.declared.sorted.Member.{Member}

-- Disjoint extents have at most one account: two pieces that start at one offset are equal, by induction on both lists. Each offset below
-- the total lies in exactly one piece, because the pieces ascend. Of disjoint extents, each that is not empty and starts below the total is
-- a piece: the one that holds its start.

-- an account ends at the total
pub accounts_le : (es : List Extent) (total at : ℕ) (ps : List Piece) → Accounts es total at ps → at ≤ total
accounts_le es total at [] done = omega arith
accounts_le es total at (p ∷ ps) (start, nonempty, owned, rest) =
    let le = accounts_le es total (at + p.len) ps rest in
    omega arith

-- each piece is nonempty, is a gap or its owner's extent, and lies between at and the total
pub record IsPiece (es : List Extent) (total at : ℕ) (p : Piece) : Type 0 where
  pub nonempty : 0 < p.len
  pub owned : IsOwned es total p.start p.len p.owner
  pub above : at ≤ p.start
  pub within : p.start + p.len ≤ total

pub piece_at : (es : List Extent) (total at : ℕ) (ps : List Piece) (k : ℕ) (p : Piece) →
    Accounts es total at ps → slice_get ps k ≡ Some p → IsPiece es total at p
piece_at es total at [] k p accounts here = absurd (let none : None ≡ Some p = here in cc)
piece_at es total at (q ∷ qs) zero p (start, nonempty, owned, rest) here =
    let le = accounts_le es total (at + q.len) qs rest in
    subst (IsPiece es total at) (same_Some q p here) (record {
      nonempty = nonempty;
      owned = owned;
      above = omega arith;
      within = omega arith;
    })
piece_at es total at (q ∷ qs) (suc k) p (start, nonempty, owned, rest) here =
    let later = piece_at es total (at + q.len) qs k p rest here in
    record {
      nonempty = later.nonempty;
      owned = later.owned;
      above = (let above = later.above in omega arith);
      within = later.within;
    }

-- an earlier piece ends before a later one
pub pieces_ascend : (es : List Extent) (total at : ℕ) (ps : List Piece) (j k : ℕ) (p q : Piece) →
    Accounts es total at ps → j < k → slice_get ps j ≡ Some p → slice_get ps k ≡ Some q →
    p.start + p.len ≤ q.start
pieces_ascend es total at [] j k p q accounts lt first second =
    absurd (let none : None ≡ Some p = first in cc)
pieces_ascend es total at (r ∷ rs) j zero p q accounts lt first second =
    let no : ⊥ = omega arith in absurd no
pieces_ascend es total at (r ∷ rs) zero (suc k) p q (start, nonempty, owned, rest) lt first second =
    let later = (piece_at es total (at + r.len) rs k q rest second).above in
    let same = same_Some r p first in
    let starts : r.start ≡ p.start = ap (λ (x : Piece). x.start) same in
    let lens : r.len ≡ p.len = ap (λ (x : Piece). x.len) same in
    omega arith
pieces_ascend es total at (r ∷ rs) (suc j) (suc k) p q (start, nonempty, owned, rest) lt first second =
    pieces_ascend es total (at + r.len) rs j k p q rest (omega arith) first second

-- some piece holds each offset from at on
pub some_piece : (es : List Extent) (total at : ℕ) (ps : List Piece) (x : ℕ) → Accounts es total at ps →
    at ≤ x → x < total →
    (k : ℕ) × (p : Piece) × (slice_get ps k ≡ Some p) × (p.start ≤ x) × (x < p.start + p.len)
some_piece es total at [] x done above below = let no : ⊥ = omega arith in absurd no
some_piece es total at (p ∷ ps) x (start, nonempty, owned, rest) above below =
    elim (cases_lt x (at + p.len)) [
      | inl here ↦ (0, p, refl, omega arith, omega arith)
      | inr there ↦
          let later = some_piece es total (at + p.len) ps x rest there below in
          (suc later.0, later.1, later.2, later.3, later.4)
    ]

-- each offset below the total lies in one piece, and in no other
pub in_piece : (es : List Extent) (total : ℕ) (ps : List Piece) (x : ℕ) → Accounts es total 0 ps →
    x < total → (k : ℕ) × (p : Piece) × IsOnlyPieceAt ps x k p
in_piece es total ps x accounts below =
    let found = some_piece es total 0 ps x accounts (omega arith) below in
    let from = found.3 in
    let to = found.4 in (
      found.0,
      found.1,
      record {
        here = found.2;
        from = from;
        below = to;
        only = λ j q there above under. elim (cases_lt j found.0) [
          | inl earlier ↦
              let apart = pieces_ascend es total 0 ps j found.0 q found.1 accounts earlier there found.2 in
              let no : ⊥ = omega arith in
              absurd no
          | inr other ↦ elim (cases_lt found.0 j) [
            | inl later ↦
                let apart = pieces_ascend es total 0 ps found.0 j found.1 q accounts later found.2 there in
                let no : ⊥ = omega arith in
                absurd no
            | inr same ↦ omega arith
          ]
        ];
      },
    )

-- an owned piece's extent holds what lies in the piece
pub owner_holds : (es : List Extent) (start len i x : ℕ) →
    slice_get es i ≡ Some (record { start = start; len = len }) → start ≤ x → x < start + len → HasAt es i x
owner_holds es start len i x here above below = (record { start = start; len = len }, here, (above, below))

-- an extent that holds a byte below the total is a piece
pub piece_for : (es : List Extent) (total : ℕ) (ps : List Piece) (i : ℕ) (e : Extent) → AreDisjoint es →
    Accounts es total 0 ps → slice_get es i ≡ Some e → 0 < e.len → e.start < total →
    (k : ℕ) × (slice_get ps k ≡ Some (record { owner = Some i; start = e.start; len = e.len }))
piece_for es total ps i e disjoint accounts here nonempty below =
    let found = some_piece es total 0 ps e.start accounts (omega arith) below in
    let piece = piece_at es total 0 ps found.0 found.1 accounts found.2 in
    (found.0, found.2 ∙ ap Some (named found.1.owner found.1.start found.1.len piece.owned found.3 found.4))
  where
    held : HasAt es i e.start
    held = (e, here, (omega arith, omega arith))

    named : (o : Option ℕ) (start len : ℕ) → IsOwned es total start len o → start ≤ e.start →
        e.start < start + len →
        let p : Piece = record { owner = o; start = start; len = len } in
        let q : Piece = record { owner = Some i; start = e.start; len = e.len } in p ≡ q
    named None start len gap above under = absurd (gap.free e.start above under (i, held))
    named (Some j) start len owned above under =
        let same : j ≡ i = disjoint j i e.start (owner_holds es start len j e.start owned above under) held in
        let at_i : slice_get es i ≡ Some (record { start = start; len = len }) =
        subst (λ k. slice_get es k ≡ Some (record { start = start; len = len })) same owned in
        let equal = same_Some (record { start = start; len = len }) e (sym at_i ∙ here) in
        let starts : start ≡ e.start = ap (λ (x : Extent). x.start) equal in
        let lens : len ≡ e.len = ap (λ (x : Extent). x.len) equal in
        cc

-- two gaps from one offset on are equally long
pub gaps_equal : (es : List Extent) (total at m n : ℕ) → at + m ≤ total → at + n ≤ total →
    IsGap es total at m → IsGap es total at n → m ≡ n
gaps_equal es total at m n le_m le_n one two = elim (cases_lt m n) [
  | inl less ↦ absurd (shorter m n less le_n one two)
  | inr other ↦ elim (cases_lt n m) [
    | inl less ↦ absurd (shorter n m less le_m two one)
    | inr same ↦ omega arith
  ]
]
  where
    shorter : (a b : ℕ) → a < b → at + b ≤ total → IsGap es total at a → IsGap es total at b → ⊥
    shorter a b less le small large = elim small.after [
      | inl end ↦ omega arith
      | inr held ↦ large.free (at + a) (omega arith) (omega arith) held
    ]

-- two pieces from one offset on are one
pub same_owner : (es : List Extent) (total at m n : ℕ) (a b : Option ℕ) → AreDisjoint es →
    0 < m → 0 < n → at + m ≤ total → at + n ≤ total →
    IsOwned es total at m a → IsOwned es total at n b → (a ≡ b) × (m ≡ n)
same_owner es total at m n None None disjoint pos_m pos_n le_m le_n one two =
    (refl, gaps_equal es total at m n le_m le_n one two)
same_owner es total at m n None (Some j) disjoint pos_m pos_n le_m le_n one two =
    absurd (one.free at (omega arith) (omega arith)
    (j, owner_holds es at n j at two (omega arith) (omega arith)))
same_owner es total at m n (Some i) None disjoint pos_m pos_n le_m le_n one two =
    absurd (two.free at (omega arith) (omega arith)
    (i, owner_holds es at m i at one (omega arith) (omega arith)))
same_owner es total at m n (Some i) (Some j) disjoint pos_m pos_n le_m le_n one two =
    let same : i ≡ j = disjoint i j at (owner_holds es at m i at one (omega arith) (omega arith))
    (owner_holds es at n j at two (omega arith) (omega arith)) in
    let at_j : slice_get es j ≡ Some (record { start = at; len = m }) =
    subst (λ k. slice_get es k ≡ Some (record { start = at; len = m })) same one in
    let equal = same_Some (record { start = at; len = m }) (record { start = at; len = n }) (sym at_j ∙ two) in
    (ap Some same, ap (λ (x : Extent). x.len) equal)

-- pieces are equal where their fields are
pub same_piece : (a b : Option ℕ) (s t m n : ℕ) → a ≡ b → s ≡ t → m ≡ n →
    let p : Piece = record { owner = a; start = s; len = m } in
    let q : Piece = record { owner = b; start = t; len = n } in p ≡ q
same_piece a b s t m n owners starts lens = cc

-- one list of pieces accounts for the offsets from at on
pub one_account_from : (es : List Extent) (total at : ℕ) (ps qs : List Piece) → AreDisjoint es →
    Accounts es total at ps → Accounts es total at qs → ps ≡ qs
one_account_from es total at [] [] disjoint one two = refl
one_account_from es total at [] (q ∷ qs) disjoint done (start, nonempty, owned, rest) =
    let le = accounts_le es total (at + q.len) qs rest in
    let no : ⊥ = omega arith in
    absurd no
one_account_from es total at (p ∷ ps) [] disjoint (start, nonempty, owned, rest) done =
    let le = accounts_le es total (at + p.len) ps rest in
    let no : ⊥ = omega arith in
    absurd no
one_account_from es total at (p ∷ ps) (q ∷ qs) disjoint (start_p, pos_p, own_p, rest_p) (start_q, pos_q, own_q, rest_q) =
    let at_p : IsOwned es total at p.len p.owner =
    subst (λ s. IsOwned es total s p.len p.owner) start_p own_p in
    let at_q : IsOwned es total at q.len q.owner =
    subst (λ s. IsOwned es total s q.len q.owner) start_q own_q in
    let same = same_owner es total at p.len q.len p.owner q.owner disjoint pos_p pos_q
    (accounts_le es total (at + p.len) ps rest_p) (accounts_le es total (at + q.len) qs rest_q) at_p at_q in
    let heads : p ≡ q =
    same_piece p.owner q.owner p.start q.start p.len q.len same.0 (start_p ∙ sym start_q) same.1 in
    let moved : Accounts es total (at + p.len) qs =
    subst (λ n. Accounts es total (at + n) qs) (sym same.1) rest_q in
    let tails : ps ≡ qs = one_account_from es total (at + p.len) ps qs disjoint rest_p moved in
    cc

-- and so does one list alone for all of them
pub one_account : (es : List Extent) (total : ℕ) (ps qs : List Piece) → AreDisjoint es →
    Accounts es total 0 ps → Accounts es total 0 qs → ps ≡ qs
one_account es total ps qs = one_account_from es total 0 ps qs

-- The walk over the ascending members of disjoint extents accounts for each offset below a total, if all extents end at or below it.
-- `AccountsBelow` is what the walk keeps. At each step no byte is held from the last end to the next start, because earlier members have
-- ended and later ones start higher.

abbrev pub member_start : Member → ℕ
member_start m = m.extent.start

abbrev pub member_end : Member → ℕ
member_end m = m.extent.start + m.extent.len

-- the piece of a member
abbrev pub member_piece : Member → Piece
member_piece m = record { owner = Some m.index; start = m.extent.start; len = m.extent.len }

-- a member holds what lies between its start and its end
pub held_by : (es : List Extent) (n : ℕ) (ms : List Member) → AreMembers es n ms → (k : ℕ) (d : Member) (x : ℕ) →
    k < length ms → member_start (get_or ms k d) ≤ x → x < member_end (get_or ms k d) →
    HasAt es (get_or ms k d).index x
held_by es n ms given k d x within above below =
    ((get_or ms k d).extent, (given.each k d within).here, (above, below))

-- of ascending members that share no byte, an earlier one ends before a later one
pub disjoint_far : (es : List Extent) (n : ℕ) (ms : List Member) → AreDisjoint es → AreMembers es n ms →
    IsNonDecreasingBy member_start ms → (j k : ℕ) (d : Member) → j < k → k < length ms →
    member_end (get_or ms j d) ≤ member_start (get_or ms k d)
disjoint_far es n ms disjoint given up j k d lt within =
    let rises = up j k d (omega arith) within in
    let nonempty = (given.each k d within).nonempty in
    elim (cases_lt (member_start (get_or ms k d)) (member_end (get_or ms j d))) [
      | inl shared ↦ absurd (once es n ms given d j k lt within
          (disjoint _ _ (member_start (get_or ms k d))
          (held_by es n ms given j d _ (omega arith) rises shared)
          (held_by es n ms given k d _ within (omega arith) (omega arith))))
      | inr apart ↦ apart
    ]

-- the gap is one piece, or none where it is empty
pub gap_cases : (start end : ℕ) →
    ((start < end) × (gap_between start end ≡
    record { owner = None; start = start; len = end - start } ∷ []))
    ⊎ ((end ≤ start) × (gap_between start end ≡ []))
gap_cases start end =
    let gap : Piece = record { owner = None; start = start; len = end - start } in
    elim (cases_lt start end) [
      | inl lt ↦
          (let test : nat_lt start end ≡ true = grind (arith, nat_tests) in
          inl (lt, ap (λ b. cond b (gap ∷ []) []) test))
      | inr ge ↦
          (let test : nat_lt start end ≡ false = grind (arith, nat_tests) in
          inr (ge, ap (λ b. cond b (gap ∷ []) []) test))
    ]

-- an account that goes on after a gap
pub gap_then : (es : List Extent) (total at end : ℕ) (rest : List Piece) → at ≤ end →
    (at < end → IsGap es total at (end - at)) → Accounts es total end rest →
    Accounts es total at (gap_between at end ++ rest)
gap_then es total at end rest le gap accounts = elim (gap_cases at end) [
  | inl (lt, one) ↦
      let ends : end ≡ at + (end - at) = omega arith in
      subst (λ ps. Accounts es total at (ps ++ rest)) (sym one)
      (refl, omega arith, gap lt, subst (λ x. Accounts es total x rest) ends accounts)
  | inr (ge, none) ↦
      let same : end ≡ at = omega arith in
      subst (λ ps. Accounts es total at (ps ++ rest)) (sym none)
      (subst (λ x. Accounts es total x rest) same accounts)
]

-- the pieces so far account for what lies below at, where the members before i end and no other begins
pub record AccountsBelow (es : List Extent) (total : ℕ) (ms : List Member) (i at : ℕ) (ps : List Piece) : Type 0 where
  pub within : at ≤ total
  pub before : (at ≡ 0) ⊎ IsHeld es (at - 1)
  pub passed : (k : ℕ) (d : Member) → k < i → k < length ms → member_end (get_or ms k d) ≤ at
  pub ahead : (k : ℕ) (d : Member) → i ≤ k → k < length ms → at ≤ member_start (get_or ms k d)
  pub continues : (rest : List Piece) → Accounts es total at rest → Accounts es total 0 (ps ++ rest)

pub walk_begins : (es : List Extent) (total : ℕ) (ms : List Member) → AccountsBelow es total ms 0 0 []
walk_begins es total ms = record {
  within = omega arith;
  before = inl refl;
  passed = λ k d lt. absurd (omega arith);
  ahead = λ k d le lt. omega arith;
  continues = λ rest accounts. accounts;
}

-- between at and an offset up to which no member begins, no byte is held
pub walk_free : (es : List Extent) (total : ℕ) (ms : List Member) (i at end : ℕ) (ps : List Piece) →
    AreMembers es (length es) ms → AccountsBelow es total ms i at ps →
    ((k : ℕ) (d : Member) → i ≤ k → k < length ms → end ≤ member_start (get_or ms k d)) →
    (x : ℕ) → at ≤ x → x < at + (end - at) → IsHeld es x → ⊥
walk_free es total ms i at end ps given walk later x above below (j, held) =
    let m : Member = record { index = 0; extent = record { start = 0; len = 0 } } in
    let p = covering_member es ms j x given held in
    let has = p.1.has m in
    elim (cases_lt p.0 i) [
      | inl earlier ↦ (let ends = walk.passed p.0 m earlier p.1.within in omega arith)
      | inr other ↦ (let begins = later p.0 m other p.1.within in omega arith)
    ]

-- the gap before member i, if there is one
pub gap_before : (es : List Extent) (total : ℕ) (ms : List Member) (i at : ℕ) (ps : List Piece) (d : Member) →
    AreMembers es (length es) ms → IsNonDecreasingBy member_start ms → AccountsBelow es total ms i at ps →
    i < length ms → at < member_start (get_or ms i d) →
    IsGap es total at (member_start (get_or ms i d) - at)
gap_before es total ms i at ps d given up walk within lt =
    let m = get_or ms i d in
    let nonempty = (given.each i d within).nonempty in
    let ends : member_start m ≡ at + (member_start m - at) = omega arith in
    record {
      free = walk_free es total ms i at (member_start m) ps given walk
          (λ k e le below. subst (λ (n : Member). member_start n ≤ member_start (get_or ms k e))
          (get_or_default ms i e d within) (up i k e le below));
      before = walk.before;
      after = inr (subst (IsHeld es) ends
          (m.index, held_by es (length es) ms given i d (member_start m) within (omega arith) (omega arith)));
    }

-- one member further
pub walk_on : (es : List Extent) (total : ℕ) (ms : List Member) (i at : ℕ) (ps : List Piece) (d : Member) →
    AreDisjoint es → AreWithin es total → AreMembers es (length es) ms →
    IsNonDecreasingBy member_start ms → i < length ms → AccountsBelow es total ms i at ps →
    AccountsBelow es total ms (i + 1) (member_end (get_or ms i d))
    ((ps ++ gap_between at (member_start (get_or ms i d))) ++ member_piece (get_or ms i d) ∷ [])
walk_on es total ms i at ps d disjoint inside given up within walk =
    let m = get_or ms i d in
    let member = given.each i d within in
    let begins = walk.ahead i d (omega arith) within in
    record {
      within = inside m.index m.extent member.here member.nonempty;
      before = inr (
        m.index,
        held_by es (length es) ms given i d (member_end m - 1) within
            (omega (arith, member.nonempty)) (omega (arith, member.nonempty)),
      );
      passed = λ k e lt below. elim (cases_lt k i) [
        | inl earlier ↦ (let ends = walk.passed k e earlier below in omega arith)
        | inr other ↦
            let same : k ≡ i = omega arith in
            let read : get_or ms k e ≡ m = ap (λ j. get_or ms j e) same ∙ get_or_default ms i e d within in
            let ends : member_end (get_or ms k e) ≡ member_end m = ap member_end read in
            omega arith
      ];
      ahead = λ k e le below.
          subst (λ (n : Member). member_end n ≤ member_start (get_or ms k e)) (get_or_default ms i e d within)
          (disjoint_far es (length es) ms disjoint given up i k e (omega arith) below);
      continues = λ rest accounts.
          let gap = gap_between at (member_start m) in
          let grouped : ps ++ (gap ++ (member_piece m ∷ rest)) ≡ ((ps ++ gap) ++ member_piece m ∷ []) ++ rest =
          sym (append_assoc (ps ++ gap) (member_piece m ∷ []) rest ∙ append_assoc ps gap (member_piece m ∷ rest)) in
          subst (Accounts es total 0) grouped
          (walk.continues (gap ++ (member_piece m ∷ rest))
          (gap_then es total at (member_start m) (member_piece m ∷ rest) begins
          (gap_before es total ms i at ps d given up walk within)
          (refl, member.nonempty, member.here, accounts)));
    }

-- the same of the lists that the two pushes left
pub walk_pushed : (es : List Extent) (total : ℕ) (ms : List Member) (i at : ℕ) (ps gapped pushed : List Piece)
    (d : Member) →
    AreDisjoint es → AreWithin es total → AreMembers es (length es) ms →
    IsNonDecreasingBy member_start ms → i < length ms → AccountsBelow es total ms i at ps →
    gapped ≡ ps ++ gap_between at (member_start (get_or ms i d)) →
    pushed ≡ gapped ++ member_piece (get_or ms i d) ∷ [] →
    AccountsBelow es total ms (i + 1) (member_end (get_or ms i d)) pushed
walk_pushed es total ms i at ps gapped pushed d disjoint inside given up within walk gap piece =
    subst (AccountsBelow es total ms (i + 1) (member_end (get_or ms i d)))
    (sym (piece ∙ ap (λ qs. qs ++ member_piece (get_or ms i d) ∷ []) gap))
    (walk_on es total ms i at ps d disjoint inside given up within walk)

-- after the last member there is a gap or nothing
pub walk_ends : (es : List Extent) (total : ℕ) (ms : List Member) (i at : ℕ) (ps : List Piece) →
    AreMembers es (length es) ms → length ms ≤ i → AccountsBelow es total ms i at ps →
    Accounts es total 0 (ps ++ gap_between at total)
walk_ends es total ms i at ps given done walk =
    let le = walk.within in
    subst (λ qs. Accounts es total 0 (ps ++ qs)) (append-nil (gap_between at total))
    (walk.continues (gap_between at total ++ [])
    (gap_then es total at total [] le
    (λ lt. record {
      free = walk_free es total ms i at total ps given walk
          (λ k e from below. absurd (omega arith));
      before = walk.before;
      after = inl (omega arith);
    })
    refl))

-- Extents that share no byte and lie below a total have an account. By induction on the extents, each one that holds a byte is inserted at
-- its place among the ascending members. Then the walk over the members accounts for every offset.

-- ---- the members in ascending order, one extent after the other

-- before position i no member begins after m, and from there on none before it
record IsRoomFor (ms : List Member) (m : Member) (i : ℕ) : Type 0 where
  within : i ≤ length ms
  low : (k : ℕ) (d : Member) → k < i → member_start (get_or ms k d) ≤ member_start m
  high : (k : ℕ) (d : Member) → i ≤ k → k < length ms → member_start m ≤ member_start (get_or ms k d)

-- among ascending members there is room for each
room_for : (ms : List Member) (m : Member) → IsNonDecreasingBy member_start ms → (i : ℕ) × IsRoomFor ms m i
room_for [] m up = (
  0,
  record {
    within = omega arith;
    low = λ k d lt. absurd (omega arith);
    high = λ k d le lt. absurd (omega arith);
  },
)
room_for (n ∷ ns) m up = elim (cases_lt (member_start m) (member_start n)) [
  | inl first ↦ (
    0,
    record {
      within = omega arith;
      low = λ k d lt. absurd (omega arith);
      high = λ k d le lt. (let rises : member_start n ≤ member_start (get_or (n ∷ ns) k d) = up 0 k d (omega arith) lt in omega arith);
    },
  )
  | inr past ↦
      let later = room_for ns m (λ a b d le lt. up (suc a) (suc b) d (omega arith) (omega arith)) in
      (suc later.0, later_room ns later.0 past later.1)
]
  where
    later_room : (ns : List Member) (i : ℕ) → member_start n ≤ member_start m → IsRoomFor ns m i → IsRoomFor (n ∷ ns) m (suc i)
    later_room ns i past room = record {
      within = (let le = room.within in omega arith);
      low = low_at;
      high = high_at;
    } where
      low_at : (k : ℕ) (d : Member) → k < suc i → member_start (get_or (n ∷ ns) k d) ≤ member_start m
      low_at zero d lt = past
      low_at (suc k) d lt = room.low k d (omega arith)

      high_at : (k : ℕ) (d : Member) → suc i ≤ k → k < length (n ∷ ns) → member_start m ≤ member_start (get_or (n ∷ ns) k d)
      high_at zero d le lt = absurd (omega arith)
      high_at (suc k) d le lt = room.high k d (omega arith) (omega arith)

-- the members among the first n extents, ascending
record AreAscending (es : List Extent) (n : ℕ) (ms : List Member) : Type 0 where
  members : AreMembers es n ms
  ascending : IsNonDecreasingBy member_start ms

ascending_more : (es : List Extent) (n : ℕ) (ms : List Member) (e : Extent) → slice_get es n ≡ Some e →
    AreAscending es n ms → (ns : List Member) × AreAscending es (n + 1) ns
ascending_more es n ms e here given = elim (cases_lt 0 e.len) [
  | inl holds ↦
      let m : Member = record { index = n; extent = e } in
      let room = room_for ms m given.ascending in
      let moved = IsPermutation-push_more ms ms (insert ms room.0 m) m (IsPermutation-refl ms) (IsPermutation-insert ms room.0 m) in (
        insert ms room.0 m,
        record {
          members = members_permuted es (n + 1) _ _ moved (members_more es n ms e here holds given.members);
          ascending = IsNonDecreasingBy-insert member_start ms room.0 m given.ascending room.1.within room.1.low room.1.high;
        },
      )
  | inr none ↦ (ms, record { members = members_skip es n ms e here none given.members; ascending = given.ascending })
]

ascending_members : (es : List Extent) (n : ℕ) → n ≤ length es → (ms : List Member) × AreAscending es n ms
ascending_members es zero le = ([], record { members = members_none es; ascending = λ a b d le lt. absurd (omega arith) })
ascending_members es (suc n) le =
    let fewer = ascending_members es n (omega arith) in
    let none : Extent = record { start = 0; len = 0 } in
    let next : n + 1 ≡ suc n = omega arith in
    subst (λ (k : ℕ). (ms : List Member) × AreAscending es k ms) next
    (ascending_more es n fewer.0 (get_or es n none) (slice_get-get_or es n none (omega arith)) fewer.1)

-- ---- the account

walk_to : (es : List Extent) (total : ℕ) (ms : List Member) → AreDisjoint es → AreWithin es total →
    AreAscending es (length es) ms → (i : ℕ) → i ≤ length ms → (at : ℕ) × (ps : List Piece) × AccountsBelow es total ms i at ps
walk_to es total ms disjoint inside given zero le = (0, [], walk_begins es total ms)
walk_to es total ms disjoint inside given (suc i) le =
    let so_far = walk_to es total ms disjoint inside given i (omega arith) in
    let none : Member = record { index = 0; extent = record { start = 0; len = 0 } } in
    let next : i + 1 ≡ suc i = omega arith in
    subst (λ (k : ℕ). (at : ℕ) × (ps : List Piece) × AccountsBelow es total ms k at ps) next
    (_, _, walk_on es total ms i so_far.0 so_far.1 none disjoint inside given.members given.ascending (omega arith) so_far.2)

pub some_account : (es : List Extent) (total : ℕ) → AreDisjoint es → AreWithin es total → (ps : List Piece) × Accounts es total 0 ps
some_account es total disjoint inside =
    let ascending = ascending_members es (length es) (omega arith) in
    let ms = ascending.0 in
    let walk = walk_to es total ms disjoint inside ascending.1 (length ms) (omega arith) in
    (walk.1 ++ gap_between walk.0 total, walk_ends es total ms (length ms) walk.0 walk.1 ascending.1.members (omega arith) walk.2)
