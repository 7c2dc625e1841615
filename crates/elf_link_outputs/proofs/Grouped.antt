-- Sections in order are grouped by number, site by site. A section joins the group whose first section has its number, or opens one if none
-- has. The groups of those with bits, and then the others, are the outputs, in the order of their openers (`outputs_all`).
use Rattle.std.proofs.Common.{◌≡◌, ℕ, ◌+◌, ◌<◌, List, [], ◌∷◌, ◌++◌, length, inl, inr, refl, sym, ◌∙◌, subst, arith, Bool, true, false}
use Rattle.std.proofs.Common.{get_or, map, set, zero, suc, ap, length-append, nat_eq, position, Some, None}
use Rattle.std.proofs.lemmas.Bool.{cases_lt, cases_eq, eq-eqb, eqb-true, true≢false}
use Rattle.std.specs.Global.{Vec}
use Rattle.std.specs.List.{slice_index}
use Rattle.std.specs.Map.{keys_of, values_of, lookup}
use Rattle.std.specs.Option.{unwrap_or}
use Rattle.std.specs.Prelude.{slice_get}
use Rattle.std.proofs.lemmas.List.Quantifiers.{position-Some}
use Rattle.std.proofs.lemmas.Option.{none-some, slice_get-get_or}
use Rattle.std.proofs.lemmas.List.{get_or-map, get_or_push, get_or-set_other, get_or-set_same, length-set, map-set}
use Rattle.std.proofs.Math.ListN.{get_or-append}
use Rattle.indexmap.specs.IndexMap.{set_value_at}
use Rattle.elf_image_rules.specs.Rows.{Row}
use Rattle.elf_link_files.proofs.Public.{lists_more, lists_same, not_true, one_before, each_more}
use Rattle.elf_link_files.specs.Rows.{Lists, site_at, Before, site, AreEach}
use Rattle.elf_link_files.specs.declared.site.Site.{Site}
use Rattle.elf_link_outputs.proofs.OutputLists.{key_join, key_swap}
use Rattle.elf_link_outputs.specs.Outputs.{Picks, AreGrouped, AreGroups, AreHeaded, AreHeadNumbers, AreInOrder, AreLiveGroups}
use Rattle.elf_link_outputs.specs.Outputs.{AreKeyNumbers, AreOfKind, AreOutputs, AreSplit, IsHead, IsJoined, IsMemberAdded, IsOpened}
use Rattle.elf_link_outputs.specs.Outputs.{IsOpener, HaveOneKey, is_no_bits, live, members, openers, section_at_site, AreOutputMembers}
use Rattle.elf_object_type.specs.Object.{ObjectValue}

-- What is picked from a list of sites, in order: a site that passes is one more, and any other adds nothing. After the whole list all that
-- pass are picked.

pub picked_more : (row : Row Site) (ps : List Site) (k : ℕ) (P : Site → Type 0) (out : List Site) → Lists row ps → k < length ps →
    P (site_at ps k) → Picks ps k P out → Picks ps (k + 1) P (out ++ site_at ps k ∷ [])
picked_more row ps k P out is lt here picks =
    lists_more (λ p. P p × ((j : ℕ) × (j < k) × (site_at ps j ≡ p))) (λ p. P p × ((j : ℕ) × (j < k + 1) × (site_at ps j ≡ p))) out
    (site_at ps k)
    (λ p (holds, earlier). (let (j, below, at) = earlier in (holds, (j, omega arith, at))))
    (here, (k, omega arith, refl))
    (λ p (holds, earlier). (let (j, below, at) = earlier in elim (cases_lt j k) [
      | inl before ↦ inl (holds, (j, before, at))
      | inr above ↦ (let same : j ≡ k = omega arith in inr (sym at ∙ subst (λ n. site_at ps j ≡ site_at ps n) same refl))
    ]))
    (λ p (holds, earlier). (let (j, below, at) = earlier in subst (λ q. Before q (site_at ps k)) at (is.order j k below lt)))
    picks

pub picked_past : (ps : List Site) (k : ℕ) (P : Site → Type 0) (out : List Site) → (P (site_at ps k) → ⊥) → Picks ps k P out →
    Picks ps (k + 1) P out
picked_past ps k P out other picks =
    lists_same (λ p. P p × ((j : ℕ) × (j < k) × (site_at ps j ≡ p))) (λ p. P p × ((j : ℕ) × (j < k + 1) × (site_at ps j ≡ p))) out
    (λ p (holds, earlier). (let (j, below, at) = earlier in (holds, (j, omega arith, at))))
    (λ p (holds, earlier). (let (j, below, at) = earlier in elim (cases_lt j k) [
      | inl before ↦ (holds, (j, before, at))
      | inr above ↦ (let same : j ≡ k = omega arith in absurd (other (subst (λ n. P (site_at ps n)) same (subst P (sym at) holds))))
    ]))
    picks

pub picked_done : (row : Row Site) (ps : List Site) (P : Site → Type 0) (out : List Site) → Lists row ps → Picks ps (length ps) P out →
    Lists (λ p. row p × P p) out
picked_done row ps P out is picks =
    lists_same (λ p. P p × ((j : ℕ) × (j < length ps) × (site_at ps j ≡ p))) (λ p. row p × P p) out
    (λ p (holds, earlier). (let (j, below, at) = earlier in (subst row at (is.each j below), holds)))
    (λ p (there, holds). (holds, is.all p there)) picks

-- ---- picks in order

-- as `picked_more`, of a list in order
picks_more : (ps : List Site) (k : ℕ) (P : Site → Type 0) (out : List Site) → AreInOrder ps → k < length ps → P (site_at ps k) →
    Picks ps k P out →
    Picks ps (k + 1) P (out ++ site_at ps k ∷ [])
picks_more ps k P out order lt here picks =
    lists_more (λ p. P p × ((j : ℕ) × (j < k) × (site_at ps j ≡ p))) (λ p. P p × ((j : ℕ) × (j < k + 1) × (site_at ps j ≡ p))) out
    (site_at ps k)
    (λ p (holds, earlier). (let (j, below, at) = earlier in (holds, (j, omega arith, at))))
    (here, (k, omega arith, refl))
    (λ p (holds, earlier). (let (j, below, at) = earlier in elim (cases_lt j k) [
      | inl before ↦ inl (holds, (j, before, at))
      | inr above ↦ (let same : j ≡ k = omega arith in inr (sym at ∙ subst (λ n. site_at ps j ≡ site_at ps n) same refl))
    ]))
    (λ p (holds, earlier). (let (j, below, at) = earlier in subst (λ q. Before q (site_at ps k)) at (order j k below lt)))
    picks

picks_none : (ps : List Site) (k : ℕ) (P : Site → Type 0) → ((j : ℕ) → j < k → P (site_at ps j) → ⊥) → Picks ps k P []
picks_none ps k P none = record {
  each = λ i lt. absurd (omega arith);
  all = λ p (holds, (j, below, at)). absurd (none j below (subst P (sym at) holds));
  order = λ i j lt within. absurd (omega arith);
}

-- ---- a section joins a group

not_head : (fs : List ObjectValue) (ps : List Site) (k : ℕ) (heads : List Site) (r : ℕ) → AreInOrder ps → k < length ps →
    Picks ps k (IsHead fs ps) heads →
    r < length heads → HaveOneKey fs (site_at ps k) (site_at heads r) → IsHead fs ps (site_at ps k) → ⊥
not_head fs ps k heads r order lt picks within key head =
    let (j, below, at) = (picks.each r within).1 in
    head j (omega arith) (order j k below lt)
    (subst (λ p. HaveOneKey fs p (site_at ps k)) (sym at) (key_swap fs (site_at ps k) (site_at heads r) key))

-- two heads have two keys
heads_apart : (fs : List ObjectValue) (ps : List Site) (k : ℕ) (heads : List Site) (q r : ℕ) → k < length ps + 1 →
    Picks ps k (IsHead fs ps) heads →
    q < r → r < length heads → HaveOneKey fs (site_at heads q) (site_at heads r) → ⊥
heads_apart fs ps k heads q r le picks lt within key =
    let (j, below, at) = (picks.each q (omega arith)).1 in
    (picks.each r within).0 j (omega arith) (subst (λ p. Before p (site_at heads r)) (sym at) (picks.order q r lt within))
    (subst (λ p. HaveOneKey fs p (site_at heads r)) (sym at) key)

other_head : (fs : List ObjectValue) (ps : List Site) (k : ℕ) (heads : List Site) (q r : ℕ) → k < length ps →
    Picks ps k (IsHead fs ps) heads →
    (q ≡ r → ⊥) → q < length heads → r < length heads → HaveOneKey fs (site_at ps k) (site_at heads r) →
    HaveOneKey fs (site_at ps k) (site_at heads q) → ⊥
other_head fs ps k heads q r lt picks differ q_in r_in one other = elim (cases_lt q r) [
  | inl below ↦ heads_apart fs ps k heads q r (omega arith) picks below r_in
      (key_join fs (site_at heads q) (site_at ps k) (site_at heads r) (key_swap fs (site_at ps k) (site_at heads q) other) one)
  | inr above ↦ elim (cases_lt r q) [
    | inl below ↦ heads_apart fs ps k heads r q (omega arith) picks below q_in
        (key_join fs (site_at heads r) (site_at ps k) (site_at heads q) (key_swap fs (site_at ps k) (site_at heads r) one) other)
    | inr same ↦ absurd (differ (omega arith))
  ]
]

joins : (fs : List ObjectValue) (ps : List Site) (k : ℕ) (heads : List Site) (groups : List (List Site)) (r : ℕ) → AreInOrder ps →
    k < length ps →
    r < length heads → HaveOneKey fs (site_at ps k) (site_at heads r) → AreHeaded fs ps k heads groups →
    AreHeaded fs ps (k + 1) heads (set groups r (get_or groups r [] ++ site_at ps k ∷ []))
joins fs ps k heads groups r order lt within key are = record {
  opened = picked_past ps k (IsHead fs ps) heads (not_head fs ps k heads r order lt are.opened within key) are.opened;
  covers = λ j below. elim (cases_lt j k) [
    | inl before ↦ are.covers j before
    | inr above ↦ (let same : k ≡ j = omega arith in (r, within, subst (λ n. HaveOneKey fs (site_at ps n) (site_at heads r)) same key))
  ];
  grouped = record {
    count = length-set groups r (get_or groups r [] ++ site_at ps k ∷ []) ∙ are.grouped.count;
    each = λ q q_in. (
        let count = are.grouped.count in
        elim (cases_eq q r) [
          | inl same ↦ (
              let here = get_or-set_same groups r (get_or groups r [] ++ site_at ps k ∷ []) [] (omega arith) in
              rw same (subst (λ g. Picks ps (k + 1) (λ p. HaveOneKey fs p (site_at heads r)) g) (sym here)
              (picks_more ps k (λ p. HaveOneKey fs p (site_at heads r)) (get_or groups r []) order lt key (are.grouped.each r within))))
          | inr differ ↦ subst (λ g. Picks ps (k + 1) (λ p. HaveOneKey fs p (site_at heads q)) g)
              (sym (get_or-set_other groups r q (get_or groups r [] ++ site_at ps k ∷ []) [] differ))
              (picked_past ps k (λ p. HaveOneKey fs p (site_at heads q)) (get_or groups q [])
              (λ other. other_head fs ps k heads q r lt are.opened differ q_in within key other) (are.grouped.each q q_in))
        ]);
  };
}

-- ---- a section opens a group

is_head : (fs : List ObjectValue) (ps : List Site) (k : ℕ) (heads : List Site) (groups : List (List Site)) → AreInOrder ps → k < length ps →
    ((r : ℕ) → r < length heads → HaveOneKey fs (site_at ps k) (site_at heads r) → ⊥) → AreHeaded fs ps k heads groups →
    IsHead fs ps (site_at ps k)
is_head fs ps k heads groups order lt none are j j_in before key = elim (cases_lt j k) [
  | inl below ↦ (
      let (r, r_in, other) = are.covers j below in
      none r r_in (key_join fs (site_at ps k) (site_at ps j) (site_at heads r) (key_swap fs (site_at ps j) (site_at ps k) key) other))
  | inr above ↦ elim (cases_lt k j) [
    | inl after ↦ one_before (site_at ps j) (site_at ps k) before (order k j after j_in)
    | inr same ↦ (
        let at : j ≡ k = omega arith in
        let self = subst (λ n. Before (site_at ps n) (site_at ps k)) at before in
        one_before (site_at ps k) (site_at ps k) self self)
  ]
]

opens : (fs : List ObjectValue) (ps : List Site) (k : ℕ) (heads : List Site) (groups : List (List Site)) → AreInOrder ps → k < length ps →
    ((r : ℕ) → r < length heads → HaveOneKey fs (site_at ps k) (site_at heads r) → ⊥) → AreHeaded fs ps k heads groups →
    AreHeaded fs ps (k + 1) (heads ++ site_at ps k ∷ []) (groups ++ (site_at ps k ∷ []) ∷ [])
opens fs ps k heads groups order lt none are =
    let s = site_at ps k in
    let long : length (heads ++ s ∷ []) ≡ length heads + 1 = simp length-append in
    let last : site_at (heads ++ s ∷ []) (length heads) ≡ s = get_or_push heads s (site 0 0) (length heads) refl in
    record {
      opened = picks_more ps k (IsHead fs ps) heads order lt (is_head fs ps k heads groups order lt none are) are.opened;
      covers = λ j below. elim (cases_lt j k) [
        | inl before ↦ (
            let (r, r_in, key) = are.covers j before in
            (r, omega arith, subst (λ p. HaveOneKey fs (site_at ps j) p) (sym (get_or-append heads (s ∷ []) (site 0 0) r r_in)) key))
        | inr above ↦ (
            let same : k ≡ j = omega arith in (
              length heads,
              omega arith,
              subst (λ n. HaveOneKey fs (site_at ps n) (site_at (heads ++ s ∷ []) (length heads))) same
                  (subst (λ p. HaveOneKey fs s p) (sym last) (refl, refl, refl)),
            ))
      ];
      grouped = subst
          (λ n. AreEach [] (λ r. Picks ps (k + 1) (λ p. HaveOneKey fs p (site_at (heads ++ s ∷ []) r))) n (groups ++ (s ∷ []) ∷ []))
          (sym long)
          (each_more [] (λ r. Picks ps (k + 1) (λ p. HaveOneKey fs p (site_at (heads ++ s ∷ []) r))) (length heads) groups (s ∷ [])
          (subst (λ q. Picks ps (k + 1) (λ p. HaveOneKey fs p q) (s ∷ [])) (sym last)
          (picks_more ps k (λ p. HaveOneKey fs p s) [] order lt (refl, refl, refl)
          (picks_none ps k (λ p. HaveOneKey fs p s) (λ j below key. (
          let (r, r_in, other) = are.covers j below in
          none r r_in (key_join fs s (site_at ps j) (site_at heads r) (key_swap fs (site_at ps j) s key) other))))))
          (record {
            count = are.grouped.count;
            each = λ r r_in. subst (λ q. Picks ps (k + 1) (λ p. HaveOneKey fs p q) (get_or groups r []))
                (sym (get_or-append heads (s ∷ []) (site 0 0) r r_in))
                (picked_past ps k (λ p. HaveOneKey fs p (site_at heads r)) (get_or groups r []) (none r r_in) (are.grouped.each r r_in));
          }));
    }

-- ---- no section yet

pub grouped_none : (fs : List ObjectValue) (ps : List Site) (numbers keys : List ℕ) (groups : List (List Site)) → keys ≡ [] → groups ≡ [] →
    AreGrouped fs ps numbers 0 keys groups
grouped_none fs ps numbers keys groups no_keys none = rw (no_keys, none) (
  [],
  record { count = refl; each = λ r lt. absurd (omega arith) },
  record {
    opened = picks_none ps 0 (IsHead fs ps) (λ j lt. absurd (omega arith));
    covers = λ j lt. absurd (omega arith);
    grouped = record { count = refl; each = λ r lt. absurd (omega arith) };
  },
)

-- ---- the next section

module _ (fs : List ObjectValue) (ps : List Site) (numbers : List ℕ) (k number : ℕ) (keys : List ℕ) (groups : List (List Site))
    (keys_now : List ℕ) (now : List (List Site))
    (order : AreInOrder ps) (lt : k < length ps) (numbered : AreKeyNumbers fs ps numbers) (its : slice_index numbers k ≡ number) where
  grouped_again : IsJoined keys groups number (site_at ps k) keys_now now → AreGrouped fs ps numbers k keys groups →
      AreGrouped fs ps numbers (k + 1) keys_now now
  grouped_again (r, r_in, at, keys_are, groups_are) (heads, named, are) =
      let count = named.count in
      let within : r < length heads = omega arith in
      let (j, j_in, here, is) = named.each r within in
      let key = subst (λ p. HaveOneKey fs (site_at ps k) p) here ((numbered.same k j lt j_in).0 (its ∙ sym at ∙ sym is)) in (
        heads,
        subst (AreHeadNumbers ps numbers heads) (sym keys_are) named,
        subst (AreHeaded fs ps (k + 1) heads) (sym groups_are) (joins fs ps k heads groups r order lt within key are),
      )

  grouped_new : IsOpened keys groups number (site_at ps k) keys_now now → AreGrouped fs ps numbers k keys groups →
      AreGrouped fs ps numbers (k + 1) keys_now now
  grouped_new (none, keys_are, groups_are) (heads, named, are) =
      let s = site_at ps k in
      let count = named.count in
      let long : length (heads ++ s ∷ []) ≡ length heads + 1 = simp length-append in
      let last : site_at (heads ++ s ∷ []) (length heads) ≡ s = get_or_push heads s (site 0 0) (length heads) refl in
      let other : (r : ℕ) → r < length heads → HaveOneKey fs s (site_at heads r) → ⊥ =
      λ r r_in one. (
      let (j, j_in, here, is) = named.each r r_in in
      none r (omega arith) (sym is ∙ sym ((numbered.same k j lt j_in).1 (subst (λ p. HaveOneKey fs s p) (sym here) one)) ∙ its)) in (
        heads ++ s ∷ [],
        subst (AreHeadNumbers ps numbers (heads ++ s ∷ [])) (sym keys_are)
            (subst (λ n. AreEach 0
            (λ r m. (j : ℕ) × (j < length ps) × (site_at ps j ≡ site_at (heads ++ s ∷ []) r) × (slice_index numbers j ≡ m)) n
            (keys ++ number ∷ [])) (sym long)
            (each_more 0 (λ r m. (j : ℕ) × (j < length ps) × (site_at ps j ≡ site_at (heads ++ s ∷ []) r) × (slice_index numbers j ≡ m))
            (length heads) keys number
            (k, lt, sym last, its)
            (record {
              count = count;
              each = λ r r_in. (
                  let (j, j_in, here, is) = named.each r r_in in
                  (j, j_in, here ∙ sym (get_or-append heads (s ∷ []) (site 0 0) r r_in), is));
            }))),
        subst (AreHeaded fs ps (k + 1) (heads ++ s ∷ [])) (sym groups_are) (opens fs ps k heads groups order lt other are),
      )

  -- so a section is passed
  pub grouped_next : IsMemberAdded keys groups number (site_at ps k) keys_now now → AreGrouped fs ps numbers k keys groups →
      AreGrouped fs ps numbers (k + 1) keys_now now
  grouped_next (inl joined) are = grouped_again joined are
  grouped_next (inr opened) are = grouped_new opened are

pub grouped_all : (fs : List ObjectValue) (ps : List Site) (numbers keys : List ℕ) (groups : List (List Site)) →
    AreGrouped fs ps numbers (length ps) keys groups →
    AreGroups fs ps groups
grouped_all fs ps numbers keys groups (heads, named, are) = (heads, are)

-- ---- a site joins a group of a map, or opens one

keys_kept : (es : List (ℕ × Vec Site)) (r : ℕ) (v : Vec Site) → keys_of (set_value_at es r v) ≡ keys_of es
keys_kept [] r v = refl
keys_kept (e ∷ es) zero v = refl
keys_kept (e ∷ es) (suc r) v = ap (λ ks. e.0 ∷ ks) (keys_kept es r v)

value_set : (es : List (ℕ × Vec Site)) (r : ℕ) (v : Vec Site) → values_of (set_value_at es r v) ≡ set (values_of es) r v
value_set [] r v = refl
value_set (e ∷ es) zero v = refl
value_set (e ∷ es) (suc r) v = ap (λ vs. e.1 ∷ vs) (value_set es r v)

pub member_added : (groups : List (Vec Site)) (group more : Vec Site) (rank : ℕ) (s : Site) → rank < length groups →
    group ≡ get_or groups rank group →
    more.items ≡ group.items ++ s ∷ [] →
    map (λ ms. ms.items) (set groups rank more) ≡
    set (map (λ ms. ms.items) groups) rank (get_or (map (λ ms. ms.items) groups) rank [] ++ s ∷ [])
member_added groups group more rank s lt at added =
    let items : Vec Site → List Site = λ ms. ms.items in
    map-set items groups rank more ∙
    ap (λ ms. set (map items groups) rank ms)
    (added ∙ ap (λ ms. ms ++ s ∷ []) (ap items at ∙ sym (get_or-map items groups rank group [] lt)))

lengths : (es : List (ℕ × Vec Site)) → length (values_of es) ≡ length (keys_of es)
lengths [] = refl
lengths (e ∷ es) = ap suc (lengths es)

no_key : (es : List (ℕ × Vec Site)) (n : ℕ) → lookup (nat_eq n) es ≡ None → (r : ℕ) → r < length (keys_of es) →
    get_or (keys_of es) r 0 ≡ n → ⊥
no_key [] n none r lt at = absurd (omega arith)
no_key (e ∷ es) n none zero lt at = none-some e.1 (sym (rw (eq-eqb n e.0 (sym at)) at none))
no_key (e ∷ es) n none (suc r) lt at = elim (cases_eq n e.0) [
  | inl same ↦ none-some e.1 (sym (rw (eq-eqb n e.0 same) at none))
  | inr differ ↦ no_key es n (rw (not_true (nat_eq n e.0) (λ is. differ (eqb-true n e.0 is))) at none) r (omega arith) at
]

pub entry_joined : (es : List (ℕ × Vec Site)) (n r : ℕ) (group more : Vec Site) (s : Site) → position (nat_eq n) (keys_of es) ≡ Some r →
    slice_get (values_of es) r ≡ Some group → more.items ≡ group.items ++ s ∷ [] →
    IsMemberAdded (keys_of es) (map (λ ms. ms.items) (values_of es)) n s (keys_of (set_value_at es r more))
    (map (λ ms. ms.items) (values_of (set_value_at es r more)))
entry_joined es n r group more s found at added =
    let (r_in, passes, first) = position-Some (nat_eq n) (keys_of es) r 0 found in
    let many = lengths es in
    let within : r < length (values_of es) = omega arith in
    let read : group ≡ get_or (values_of es) r group =
    ap (λ o. unwrap_or o group) (sym at ∙ slice_get-get_or (values_of es) r group within) in
    inl (
      r,
      r_in,
      sym (eqb-true n (get_or (keys_of es) r 0) passes),
      keys_kept es r more,
      ap (map (λ (ms : Vec Site). ms.items)) (value_set es r more) ∙ member_added (values_of es) group more r s within read added,
    )

keys_more : (es : List (ℕ × Vec Site)) (n : ℕ) (v : Vec Site) → keys_of (es ++ (n, v) ∷ []) ≡ keys_of es ++ n ∷ []
keys_more [] n v = refl
keys_more (e ∷ es) n v = ap (λ ks. e.0 ∷ ks) (keys_more es n v)

values_more : (es : List (ℕ × Vec Site)) (n : ℕ) (v : Vec Site) →
    map (λ ms. ms.items) (values_of (es ++ (n, v) ∷ [])) ≡ map (λ ms. ms.items) (values_of es) ++ v.items ∷ []
values_more [] n v = refl
values_more (e ∷ es) n v = ap (λ vs. e.1.items ∷ vs) (values_more es n v)

pub entry_opened : (es : List (ℕ × Vec Site)) (n : ℕ) (v : Vec Site) (s : Site) → lookup (nat_eq n) es ≡ None → v.items ≡ s ∷ [] →
    IsMemberAdded (keys_of es) (map (λ ms. ms.items) (values_of es)) n s (keys_of (es ++ (n, v) ∷ []))
    (map (λ ms. ms.items) (values_of (es ++ (n, v) ∷ [])))
entry_opened es n v s none one = inr (
  no_key es n none,
  keys_more es n v,
  values_more es n v ∙ ap (λ ms. map (λ (ms : Vec Site). ms.items) (values_of es) ++ ms ∷ []) one,
)

-- the openers of live sections, and their members
pub groups_live : (fs : List ObjectValue) (ps : List Site) (groups : List (List Site)) → Lists (live fs) ps → AreGroups fs ps groups →
    AreLiveGroups fs groups
groups_live fs ps groups is (heads, are) = (
  heads,
  lists_same (λ p. live fs p × IsHead fs ps p) (λ p. live fs p × IsOpener fs p) heads
      (λ p (row, head). (
        row,
        (λ q there before key. (
            let (j, j_in, at) = is.all q there in
            head j j_in (subst (λ r. Before r p) (sym at) before) (subst (λ r. HaveOneKey fs r p) (sym at) key))),
      ))
      (λ p (row, opener). (row, (λ j j_in before key. opener (site_at ps j) (is.each j j_in) before key)))
      (picked_done (live fs) ps (IsHead fs ps) heads is are.opened),
  record {
    count = are.grouped.count;
    each = λ r r_in. picked_done (live fs) ps (λ p. HaveOneKey fs p (site_at heads r)) (get_or groups r []) is (are.grouped.each r r_in);
  },
)

-- ---- the outputs

-- all numbers below n + 1, from 0 and the others
first_or : (P : ℕ → Type 0) (n : ℕ) → P 0 → ((k : ℕ) → suc k < n → P (suc k)) → (k : ℕ) → k < n → P k
first_or P n first rest zero lt = first
first_or P n first rest (suc k) lt = rest k lt

each_append : (fs : List ObjectValue) (xs ys : List Site) (gs hs : List (List Site)) → AreOutputMembers fs xs (length xs) gs →
    AreOutputMembers fs ys (length ys) hs →
    AreOutputMembers fs (xs ++ ys) (length (xs ++ ys)) (gs ++ hs)
each_append fs [] ys [] hs front back = back
each_append fs [] ys (g ∷ gs) hs front back = absurd (let count = front.count in omega arith)
each_append fs (x ∷ xs) ys [] hs front back = absurd (let count = front.count in omega arith)
each_append fs (x ∷ xs) ys (g ∷ gs) hs front back =
    let rest = each_append fs xs ys gs hs
    (record { count = (let count = front.count in omega arith); each = λ k lt. front.each (suc k) (omega arith) }) back in
    record {
      count = ap suc rest.count;
      each = first_or (λ k. Lists (members fs (site_at (x ∷ xs ++ ys) k)) (get_or (g ∷ gs ++ hs) k [])) (length (x ∷ xs ++ ys))
          (front.each 0 (omega arith))
          (λ k lt. rest.each k (omega arith));
    }

-- ---- groups split by kind

kind_none : (fs : List ObjectValue) (heads : List Site) (without : Bool) → AreOfKind fs heads 0 without []
kind_none fs heads without = (
  [],
  picks_none heads 0 (λ p. is_no_bits (section_at_site fs p).body ≡ without) (λ j lt. absurd (omega arith)),
  record { count = refl; each = λ r lt. absurd (omega arith) },
)

kind_more : (fs : List ObjectValue) (heads : List Site) (k : ℕ) (without : Bool) (ms : List Site) (outputs : List (List Site)) →
    Lists (λ p. live fs p × IsOpener fs p) heads → k < length heads → is_no_bits (section_at_site fs (site_at heads k)).body ≡ without →
    Lists (members fs (site_at heads k)) ms → AreOfKind fs heads k without outputs → AreOfKind fs heads (k + 1) without (outputs ++ ms ∷ [])
kind_more fs heads k without ms outputs is lt kind those (ps, picks, are) = (
  ps ++ site_at heads k ∷ [],
  picked_more (λ p. live fs p × IsOpener fs p) heads k (λ p. is_no_bits (section_at_site fs p).body ≡ without) ps is lt kind picks,
  each_append fs ps (site_at heads k ∷ []) outputs (ms ∷ []) are
      (record {
        count = refl;
        each =
            first_or (λ i. Lists (members fs (site_at (site_at heads k ∷ []) i)) (get_or (ms ∷ []) i [])) 1 those
            (λ i below. absurd (omega arith));
      }),
)

kind_past : (fs : List ObjectValue) (heads : List Site) (k : ℕ) (without : Bool) (outputs : List (List Site)) →
    (is_no_bits (section_at_site fs (site_at heads k)).body ≡ without → ⊥) → AreOfKind fs heads k without outputs →
    AreOfKind fs heads (k + 1) without outputs
kind_past fs heads k without outputs other (ps, picks, are) =
    (ps, picked_past heads k (λ p. is_no_bits (section_at_site fs p).body ≡ without) ps other picks, are)

pub split_none : (fs : List ObjectValue) (groups : List (List Site)) → AreLiveGroups fs groups → AreSplit fs groups [] []
split_none fs groups (heads, is, are) =
    let count = are.count in (
      heads,
      0,
      is,
      omega arith,
      (λ r i r_in at.
          (let same : r ≡ i = omega arith in
          subst (λ n. Lists (members fs (site_at heads n)) (get_or groups r [])) same (are.each r (omega arith)))),
      kind_none fs heads false,
      kind_none fs heads true,
    )

-- the first group of the rest has a member, and its kind is that of its opener
pub split_first : (fs : List ObjectValue) (ms : List Site) (rest outputs later : List (List Site)) →
    AreSplit fs (ms ∷ rest) outputs later →
    (0 < length ms) × live fs (site_at ms 0)
split_first fs ms rest outputs later (heads, k, is, count, those, with, without) =
    let here = those 0 k (omega arith) (omega arith) in
    let (j, j_in, at) = here.all (site_at heads k) ((is.each k (omega arith)).0, (refl, refl, refl)) in
    (omega arith, (here.each 0 (omega arith)).0)

pub split_bits : (fs : List ObjectValue) (ms : List Site) (rest outputs later : List (List Site)) →
    is_no_bits (section_at_site fs (site_at ms 0)).body ≡ false →
    AreSplit fs (ms ∷ rest) outputs later → AreSplit fs rest (outputs ++ ms ∷ []) later
split_bits fs ms rest outputs later kind split =
    let some = (split_first fs ms rest outputs later split).0 in
    let (heads, k, is, count, those, with, without) = split in
    let here = those 0 k (omega arith) (omega arith) in
    let its = sym (here.each 0 some).1.2 ∙ kind in (
      heads,
      k + 1,
      is,
      omega arith,
      (λ r i r_in at. those (suc r) i (omega arith) (omega arith)),
      kind_more fs heads k false ms outputs is (omega arith) its here with,
      kind_past fs heads k true later (λ other. true≢false (sym other ∙ its)) without,
    )

pub split_no_bits : (fs : List ObjectValue) (ms : List Site) (rest outputs later : List (List Site)) →
    is_no_bits (section_at_site fs (site_at ms 0)).body ≡ true →
    AreSplit fs (ms ∷ rest) outputs later → AreSplit fs rest outputs (later ++ ms ∷ [])
split_no_bits fs ms rest outputs later kind split =
    let some = (split_first fs ms rest outputs later split).0 in
    let (heads, k, is, count, those, with, without) = split in
    let here = those 0 k (omega arith) (omega arith) in
    let its = sym (here.each 0 some).1.2 ∙ kind in (
      heads,
      k + 1,
      is,
      omega arith,
      (λ r i r_in at. those (suc r) i (omega arith) (omega arith)),
      kind_past fs heads k false outputs (λ other. true≢false (sym its ∙ other)) with,
      kind_more fs heads k true ms later is (omega arith) its here without,
    )

kind_all : (fs : List ObjectValue) (heads : List Site) (without : Bool) (ps : List Site) → Lists (λ p. live fs p × IsOpener fs p) heads →
    Picks heads (length heads) (λ p. is_no_bits (section_at_site fs p).body ≡ without) ps → Lists (openers fs without) ps
kind_all fs heads without ps is picks =
    lists_same (λ p. (live fs p × IsOpener fs p) × (is_no_bits (section_at_site fs p).body ≡ without)) (openers fs without) ps
    (λ p (row, kind). (row.0, (row.1, kind))) (λ p (there, (opener, kind)). ((there, opener), kind))
    (picked_done (λ p. live fs p × IsOpener fs p) heads (λ p. is_no_bits (section_at_site fs p).body ≡ without) ps is picks)

pub split_all : (fs : List ObjectValue) (outputs later : List (List Site)) → AreSplit fs [] outputs later →
    AreOutputs fs (outputs ++ later)
split_all fs outputs later (heads, k, is, count, those, (ps, picks, are), (qs, picks_2, are_2)) =
    let end : k ≡ length heads = omega arith in (
      ps ++ qs,
      (
        ps,
        qs,
        kind_all fs heads false ps is (subst (λ n. Picks heads n (λ p. is_no_bits (section_at_site fs p).body ≡ false) ps) end picks),
        kind_all fs heads true qs is (subst (λ n. Picks heads n (λ p. is_no_bits (section_at_site fs p).body ≡ true) qs) end picks_2),
        refl,
      ),
      each_append fs ps qs outputs later are are_2,
    )
