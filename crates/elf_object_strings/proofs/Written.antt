-- The names that are written, one by one. A name is written exactly if it is not empty and is its own owner (`written_is`). A name's offset
-- is where its owner ends, less its own length (`offset_is`); that of the empty name is 0. A pass of the loop that writes adds one name's
-- end (`written_more`).
use Rattle.std.proofs.Common.{◌≡◌, ℕ, Bool, true, false, cond, not, List, [], ◌∷◌, ◌++◌, refl, sym, ap, ◌∙◌, ◌<◌, ◌≤◌, ◌+◌, ◌-◌, zero, suc}
use Rattle.std.proofs.Common.{◌&&◌, ◌⊎◌, inl, inr, length, take, drop, get_or, map, subst, append_assoc, arith, length-append}
use Rattle.std.specs.Prelude.{◌||◌, ◌==◌}
use Rattle.std.specs.List.{filter, list_any, flat_map}
use Rattle.std.specs.Str.{bytes_eq}
use Rattle.std.specs.Bool.{one_answer}
use Rattle.std.proofs.lemmas.List.{append-nil, flat_map_more, get_or-map, length-map, get_or-take, get_or_append_left, get_or_default}
use Rattle.std.proofs.lemmas.List.{get_or_push, length-take-le, length_push, take-append-drop, take_all, take_more}
use Rattle.std.proofs.lemmas.List.Elements.{filter-append}
use Rattle.std.proofs.lemmas.Map.Views.{any-filter_same}
use Rattle.std.proofs.lemmas.Slice.Eq.{bytes_eq-Decides}
use Rattle.std.proofs.lemmas.Bool.{and_from, and_parts, cases_eq, cases_lt, eq-eqb, false_from_ne_true, ne_eqb, not-true, not_from_false}
use Rattle.std.proofs.lemmas.Bool.{or_from, true≢false}
use Rattle.std.proofs.lemmas.List.Folds.{list_any-append, list_any_at, list_any_none}
use Rattle.elf_object_strings.proofs.Ends.{end_after, suffix_fits, suffix_from, suffix_named, suffix_same, suffix_test}
use Rattle.elf_object_strings.specs.StringTable.{AreOwners, AreTheirOwn, HaveZeros, distinct, IsFirstOfHeld, IsOwner, IsSuffix, closed}
use Rattle.elf_object_strings.specs.StringTable.{end_from, held, is_held, is_named, is_proper_suffix, is_suffix, name_offset, string_table}
use Rattle.elf_object_strings.specs.StringTable.{HasEnds, held_to, is_written, with_name}

-- Each name of a list once, one name more: a name that is already there adds nothing, and any other is put at the end. A name is in the
-- result exactly if it is in the list.

-- ---- equal names

pub same_name : (a b : List ℕ) → bytes_eq a b ≡ true → a ≡ b
same_name a b equal = (bytes_eq-Decides a b).0 equal

pub bytes_eq-self : (a : List ℕ) → bytes_eq a a ≡ true
bytes_eq-self a = (bytes_eq-Decides a a).1 refl

pub bytes_eq-swap : (a b : List ℕ) → bytes_eq a b ≡ bytes_eq b a
bytes_eq-swap a b =
    let one = bytes_eq-Decides a b in
    let other = bytes_eq-Decides b a in
    one_answer {P = a ≡ b} (bytes_eq a b) (bytes_eq b a) one ((λ equal. sym (other.0 equal)), (λ equal. other.1 (sym equal)))

-- ---- each name once

abbrev differs : List ℕ → List ℕ → Bool
differs name other = not (bytes_eq name other)

kept_when : (m n : List ℕ) (e : Bool) → bytes_eq m n ≡ e → filter (differs m) (n ∷ []) ≡ cond e [] (n ∷ [])
kept_when m n true is = rw is refl
kept_when m n false is = rw is refl

-- a name that differs from m is found as well without those that equal m
found_still : (m n : List ℕ) (ds : List (List ℕ)) → bytes_eq n m ≡ false →
    list_any (bytes_eq n) (filter (differs m) ds) ≡ list_any (bytes_eq n) ds
found_still m n ds other = any-filter_same (bytes_eq n) (differs m) true kept ds where
  kept : (k : List ℕ) → bytes_eq n k ≡ true → differs m k ≡ true
  kept k equal = let is : bytes_eq m k ≡ false = ap (bytes_eq m) (sym (same_name n k equal)) ∙ bytes_eq-swap m n ∙ other in rw is refl

pushed : (m n : List ℕ) (ds es : List (List ℕ)) (e b : Bool) → bytes_eq n m ≡ e → list_any (bytes_eq n) ds ≡ b →
    es ≡ cond b ds (ds ++ (n ∷ [])) →
    m ∷ filter (differs m) es ≡
    cond (e || list_any (bytes_eq n) (filter (differs m) ds)) (m ∷ filter (differs m) ds) (m ∷ (filter (differs m) ds ++ (n ∷ [])))
pushed m n ds es true true equal found is = ap (λ (xs : List (List ℕ)). m ∷ filter (differs m) xs) is
pushed m n ds es true false equal found is =
    let gone = kept_when m n true (bytes_eq-swap m n ∙ equal) in
    ap (λ (xs : List (List ℕ)). m ∷ filter (differs m) xs) is
    ∙ ap (λ (xs : List (List ℕ)). m ∷ xs)
    (filter-append (differs m) ds (n ∷ []) ∙ ap (λ (xs : List (List ℕ)). filter (differs m) ds ++ xs) gone ∙
    append-nil (filter (differs m) ds))
pushed m n ds es false true equal found is =
    rw (found_still m n ds equal ∙ found) (ap (λ (xs : List (List ℕ)). m ∷ filter (differs m) xs) is)
pushed m n ds es false false equal found is =
    let stays = kept_when m n false (bytes_eq-swap m n ∙ equal) in
    rw (found_still m n ds equal ∙ found)
    (ap (λ (xs : List (List ℕ)). m ∷ filter (differs m) xs) is
    ∙ ap (λ (xs : List (List ℕ)). m ∷ xs)
    (filter-append (differs m) ds (n ∷ []) ∙ ap (λ (xs : List (List ℕ)). filter (differs m) ds ++ xs) stays))

pub distinct-push : (ns : List (List ℕ)) (n : List ℕ) →
    distinct (ns ++ (n ∷ [])) ≡ cond (list_any (bytes_eq n) (distinct ns)) (distinct ns) (distinct ns ++ (n ∷ []))
distinct-push [] n = refl
distinct-push (m ∷ ns) n =
    pushed m n (distinct ns) (distinct (ns ++ (n ∷ []))) (bytes_eq n m) (list_any (bytes_eq n) (distinct ns)) refl refl (distinct-push ns n)

-- a name is among them exactly if the list has it
pub in_distinct : (n : List ℕ) (ns : List (List ℕ)) → list_any (bytes_eq n) (distinct ns) ≡ list_any (bytes_eq n) ns
in_distinct n [] = refl
in_distinct n (m ∷ ns) = by_first (bytes_eq n m) refl (in_distinct n ns) where
  by_first : (e : Bool) → bytes_eq n m ≡ e → list_any (bytes_eq n) (distinct ns) ≡ list_any (bytes_eq n) ns →
      list_any (bytes_eq n) (distinct (m ∷ ns)) ≡ list_any (bytes_eq n) (m ∷ ns)
  by_first true is rest = rw is refl
  by_first false is rest = rw is (found_still m n (distinct ns) is ∙ rest)

-- ---- one name more

-- the names that pass a test, each once
abbrev so_far : (List ℕ → Bool) → List (List ℕ) → List (List ℕ)
so_far p names = filter p (distinct names)

so_far-push : (p : List ℕ → Bool) (ns : List (List ℕ)) (n : List ℕ) →
    so_far p (ns ++ (n ∷ [])) ≡ cond (p n && not (list_any (bytes_eq n) ns)) (so_far p ns ++ (n ∷ [])) (so_far p ns)
so_far-push p ns n = ap (filter p) (distinct-push ns n) ∙ by_tests (p n) (list_any (bytes_eq n) (distinct ns)) refl refl where
  by_tests : (a b : Bool) → p n ≡ a → list_any (bytes_eq n) (distinct ns) ≡ b →
      filter p (cond (list_any (bytes_eq n) (distinct ns)) (distinct ns) (distinct ns ++ (n ∷ [])))
      ≡ cond (p n && not (list_any (bytes_eq n) ns)) (so_far p ns ++ (n ∷ [])) (so_far p ns)
  by_tests true true passes there = let found = sym (in_distinct n ns) ∙ there in rw (there, passes, found) refl
  by_tests false true passes there = let found = sym (in_distinct n ns) ∙ there in rw (there, passes) refl
  by_tests true false passes there =
      let fresh = sym (in_distinct n ns) ∙ there in
      let one : filter p (n ∷ []) ≡ n ∷ [] = rw passes refl in
      rw (there, passes, fresh) (filter-append p (distinct ns) (n ∷ []) ∙ ap (λ (xs : List (List ℕ)). so_far p ns ++ xs) one)
  by_tests false false passes there =
      let none : filter p (n ∷ []) ≡ [] = rw passes refl in
      rw (there, passes)
      (filter-append p (distinct ns) (n ∷ []) ∙ ap (λ (xs : List (List ℕ)). so_far p ns ++ xs) none ∙ append-nil (so_far p ns))

-- names that follow add some
so_far-append : (p : List ℕ → Bool) (ns ms : List (List ℕ)) → (more : List (List ℕ)) × (so_far p (ns ++ ms) ≡ so_far p ns ++ more)
so_far-append p ns [] = ([], ap (so_far p) (append-nil ns) ∙ sym (append-nil (so_far p ns)))
so_far-append p ns (m ∷ ms) =
    let rest = so_far-append p (ns ++ (m ∷ [])) ms in
    let split : ns ++ (m ∷ ms) ≡ (ns ++ (m ∷ [])) ++ ms = sym (append_assoc ns (m ∷ []) ms) in
    let one = by_test (p m && not (list_any (bytes_eq m) ns)) in (
      one.0 ++ rest.0,
      ap (so_far p) split ∙ rest.1 ∙ ap (λ (xs : List (List ℕ)). xs ++ rest.0) (so_far-push p ns m ∙ one.1)
          ∙ append_assoc (so_far p ns) one.0 rest.0,
    )
  where
    by_test : (b : Bool) → (more : List (List ℕ)) × (cond b (so_far p ns ++ (m ∷ [])) (so_far p ns) ≡ so_far p ns ++ more)
    by_test true = (m ∷ [], refl)
    by_test false = ([], sym (append-nil (so_far p ns)))

pub held_to_more : (names : List (List ℕ)) (i : ℕ) → i < length names →
    held_to names (i + 1) ≡ cond (is_written names i) (held_to names i ++ (get_or names i [] ∷ [])) (held_to names i)
held_to_more names i lt =
    ap (so_far (is_held names)) (take_more names i [] lt) ∙ so_far-push (is_held names) (take i names) (get_or names i [])

pub held_to_all : (names : List (List ℕ)) (i : ℕ) → length names ≤ i → held_to names i ≡ held names
unfolding held
held_to_all names i all = ap (so_far (is_held names)) (take_all i names all)

-- ---- which names are written

-- a name that ends with a held one is the same
kept_same : (names : List (List ℕ)) (n : List ℕ) (j : ℕ) → is_held names n ≡ true → j < length names → IsSuffix n (get_or names j []) →
    get_or names j [] ≡ n
kept_same names n j kept lt ends = by_equal (bytes_eq n (get_or names j [])) refl where
  by_equal : (b : Bool) → bytes_eq n (get_or names j []) ≡ b → get_or names j [] ≡ n
  by_equal true is = sym (same_name n (get_or names j []) is)
  by_equal false is =
      let other = get_or names j [] in
      let none = not-true _ (and_parts (is_named n) (not (list_any (is_proper_suffix n) names)) kept).1 in
      let proper : is_proper_suffix n other ≡ true =
      and_from (is_suffix n other) (not (bytes_eq n other)) (suffix_test n other ends) (not_from_false _ is) in
      absurd (true≢false (sym (list_any_at (is_proper_suffix n) names j [] lt proper) ∙ none))

-- where a name is not among the first ones it is not before
not_before : (names : List (List ℕ)) (n : List ℕ) (i j : ℕ) → i < length names → list_any (bytes_eq n) (take i names) ≡ false →
    get_or names j [] ≡ n → i ≤ j
not_before names n i j lt none same = by_order (cases_lt j i) where
  by_order : (j < i) ⊎ (i ≤ j) → i ≤ j
  by_order (inr le) = le
  by_order (inl less) =
      let long : length (take i names) ≡ i = length-take-le i names (omega arith) in
      let equal : bytes_eq n (get_or (take i names) j []) ≡ true =
      ap (bytes_eq n) (get_or-take i names j [] less ∙ same) ∙ bytes_eq-self n in
      absurd (true≢false (sym (list_any_at (bytes_eq n) (take i names) j [] (omega arith) equal) ∙ none))

written_first : (names : List (List ℕ)) (i : ℕ) → i < length names → is_written names i ≡ true → IsFirstOfHeld names i
written_first names i lt written =
    let n = get_or names i [] in
    let parts = and_parts (is_held names n) (not (list_any (bytes_eq n) (take i names))) written in
    let kept : is_held names n ≡ true = parts.0 in
    let fresh : list_any (bytes_eq n) (take i names) ≡ false = not-true _ parts.1 in
    record {
      below = lt;
      kept = λ j below ends.
          (let same : get_or names j [] ≡ n = kept_same names n j kept below ends in
          (same, not_before names n i j lt fresh same));
    }

no_longer : (names : List (List ℕ)) (i : ℕ) → IsFirstOfHeld names i → (j : ℕ) (d : List ℕ) → j < length names →
    is_proper_suffix (get_or names i []) (get_or names j d) ≡ false
no_longer names i first j d lt =
    let n = get_or names i [] in
    let m = get_or names j [] in
    let differs : is_proper_suffix n m ≡ true → ⊥ = λ is.
    (let parts = and_parts (is_suffix n m) (not (bytes_eq n m)) is in
    let same : m ≡ n = (first.kept j lt (suffix_from n m parts.0)).0 in
    true≢false (sym (ap (bytes_eq n) same ∙ bytes_eq-self n) ∙ not-true _ parts.1)) in
    ap (is_proper_suffix n) (get_or_default names j d [] lt) ∙ false_from_ne_true (is_proper_suffix n m) differs

no_earlier : (names : List (List ℕ)) (i : ℕ) → IsFirstOfHeld names i → (j : ℕ) (d : List ℕ) → j < length (take i names) →
    bytes_eq (get_or names i []) (get_or (take i names) j d) ≡ false
no_earlier names i first j d lt =
    let n = get_or names i [] in
    let m = get_or names j [] in
    let below = first.below in
    let long : length (take i names) ≡ i = length-take-le i names (omega arith) in
    let less : j < i = omega arith in
    let within : j < length names = omega arith in
    let differs : bytes_eq n m ≡ true → ⊥ = λ is.
    (let le : i ≤ j = (first.kept j within (suffix_same n m (sym (same_name n m is)))).1 in
    absurd (omega arith)) in
    ap (bytes_eq n) (get_or-take i names j d less ∙ get_or_default names j d [] within) ∙ false_from_ne_true (bytes_eq n m) differs

first_written : (names : List (List ℕ)) (i : ℕ) → IsFirstOfHeld names i → is_named (get_or names i []) ≡ true → is_written names i ≡ true
first_written names i first named =
    let n = get_or names i [] in
    let none = list_any_none (is_proper_suffix n) names (no_longer names i first) in
    let fresh = list_any_none (bytes_eq n) (take i names) (no_earlier names i first) in
    let kept : is_held names n ≡ true = and_from (is_named n) (not (list_any (is_proper_suffix n) names)) named (not_from_false _ none) in
    and_from (is_held names n) (not (list_any (bytes_eq n) (take i names))) kept (not_from_false _ fresh)

-- the names that are their own owners, but for the empty one
pub written_is : (names : List (List ℕ)) (i o : ℕ) → i < length names → IsOwner names (get_or names i []) o →
    ((o == i) && is_named (get_or names i [])) ≡ is_written names i
written_is names i o lt is = by_same (cases_eq o i) where
  by_named : (b : Bool) → is_named (get_or names i []) ≡ b → IsFirstOfHeld names i → is_named (get_or names i []) ≡ is_written names i
  by_named true named first = named ∙ sym (first_written names i first named)
  by_named false named first = rw named refl

  by_same : (o ≡ i) ⊎ (o ≡ i → ⊥) → ((o == i) && is_named (get_or names i [])) ≡ is_written names i
  by_same (inl same) =
      let P : ℕ → Type 0 = IsFirstOfHeld names in
      rw (eq-eqb o i same) (by_named (is_named (get_or names i [])) refl (subst P same is.first))
  by_same (inr other) =
      let n = get_or names i [] in
      let differs : is_written names i ≡ true → ⊥ = λ written.
      (let parts = and_parts (is_held names n) (not (list_any (bytes_eq n) (take i names))) written in
      let same : get_or names o [] ≡ n = kept_same names n o parts.0 is.first.below is.ends in
      let later : i ≤ o = not_before names n i o lt (not-true _ parts.1) same in
      let earlier : o ≤ i = (is.first.kept i lt (suffix_same (get_or names o []) n (sym same))).1 in
      other (omega arith)) in
      rw (ne_eqb o i other) (sym (false_from_ne_true (is_written names i) differs))

-- ---- where a name begins whose owner ends there

none_earlier : (names : List (List ℕ)) (n : List ℕ) (o : ℕ) → IsOwner names n o → (i : ℕ) → i ≤ o →
    list_any (is_suffix n) (held_to names i) ≡ false
none_earlier names n o is zero le = refl
none_earlier names n o is (suc i) le =
    let below = is.first.below in
    let one : suc i ≡ i + 1 = omega arith in
    let lt : i < length names = omega arith in
    ap (λ (k : ℕ). list_any (is_suffix n) (held_to names k)) one ∙ ap (list_any (is_suffix n)) (held_to_more names i lt)
    ∙ by_written (is_written names i) refl lt (none_earlier names n o is i (omega arith))
  where
    by_written : (b : Bool) → is_written names i ≡ b → i < length names → list_any (is_suffix n) (held_to names i) ≡ false →
        list_any (is_suffix n) (cond (is_written names i) (held_to names i ++ (get_or names i [] ∷ [])) (held_to names i)) ≡ false
    by_written false written lt rest = rw written rest
    by_written true written lt rest =
        let m = get_or names i [] in
        let differs : is_suffix n m ≡ true → ⊥ = λ ends.
        (let from : o ≤ i = is.least i (written_first names i lt written) (suffix_from n m ends) in absurd (omega arith)) in
        let not_here = or_from (is_suffix n m) false (false_from_ne_true (is_suffix n m) differs) refl in
        rw written (list_any-append (is_suffix n) (held_to names i) (m ∷ []) ∙ or_from _ _ rest not_here)

held_split : (names : List (List ℕ)) (o : ℕ) → o < length names → is_written names o ≡ true →
    (more : List (List ℕ)) × (held names ≡ held_to names o ++ (get_or names o [] ∷ more))
unfolding held
held_split names o lt written =
    let n = get_or names o [] in
    let added = so_far-append (is_held names) (take (o + 1) names) (drop (o + 1) names) in
    let here = held_to_more names o lt ∙ ap (λ (b : Bool). cond b (held_to names o ++ (n ∷ [])) (held_to names o)) written in (
      added.0,
      ap (so_far (is_held names)) (sym (take-append-drop (o + 1) names)) ∙ added.1 ∙ ap (λ (xs : List (List ℕ)). xs ++ added.0) here
          ∙ append_assoc (held_to names o) (n ∷ []) added.0,
    )

end_of_owner : (names : List (List ℕ)) (n : List ℕ) (o : ℕ) → IsOwner names n o → is_written names o ≡ true →
    end_from 1 (held names) n ≡ 1 + length (flat_map closed (held_to names o)) + length (get_or names o [])
end_of_owner names n o is written =
    let split = held_split names o is.first.below written in
    let le : o ≤ o = omega arith in
    ap (λ (ks : List (List ℕ)). end_from 1 ks n) split.1
    ∙ end_after 1 (held_to names o) (get_or names o []) split.0 n (none_earlier names n o is o le)
    (suffix_test n (get_or names o []) is.ends)

offset_is : (names : List (List ℕ)) (n ends : List ℕ) (o : ℕ) → IsOwner names n o → HasEnds names (length names) ends →
    is_named n ≡ true → (length n ≤ get_or ends o 0) × (get_or ends o 0 - length n ≡ name_offset names n)
unfolding name_offset
offset_is names n ends o is has named =
    let written = first_written names o is.first (suffix_named n (get_or names o []) is.ends named) in
    let each = has.each o is.first.below written in
    let end : get_or ends o 0 ≡ end_from 1 (held names) n = each ∙ sym (end_of_owner names n o is written) in
    let fits = suffix_fits n (get_or names o []) is.ends in
    (omega arith, rw named (ap (λ (e : ℕ). e - length n) end))

-- each owner is the one of its own name
pub owners_own : (names : List (List ℕ)) (owners : List ℕ) → AreOwners names owners → AreTheirOwn owners
owners_own names owners are i lt =
    let all = are.all in
    let o = get_or owners i 0 in
    let is = are.each i (omega arith) in
    let below = is.first.below in
    let own = are.each o below in
    let earlier : get_or owners o 0 ≤ o = own.least o is.first (suffix_same (get_or names o []) (get_or names o []) refl) in
    let later : o ≤ get_or owners o 0 = (is.first.kept (get_or owners o 0) own.first.below own.ends).1 in
    (omega arith, omega arith)

-- where each name ends, if each owner ends there
pub ends_of_owners : (names : List (List ℕ)) (owners ends : List ℕ) → AreOwners names owners → HasEnds names (length names) ends →
    HaveZeros names (map (λ o. get_or ends o 0) owners)
ends_of_owners names owners ends are has = record {
  all = length-map owners (λ o. get_or ends o 0) ∙ are.all;
  each = λ i lt named.
      (let all = are.all in
      let o = get_or owners i 0 in
      let (fits, is) = offset_is names (get_or names i []) ends o (are.each i lt) has named in
      get_or-map (λ o. get_or ends o 0) owners i 0 0 (omega arith) ∙ omega arith);
}

-- a name begins so far before its end as it is long, and the empty one at 0
pub begins_at : (names : List (List ℕ)) (n : List ℕ) (end offset : ℕ) → (is_named n ≡ true → end ≡ name_offset names n + length n) →
    (is_named n ≡ false → offset ≡ 0) → (is_named n ≡ true → offset ≡ end - length n) → offset ≡ name_offset names n
unfolding name_offset
begins_at names n end offset is empty named = by_named (is_named n) refl where
  by_named : (b : Bool) → is_named n ≡ b → offset ≡ name_offset names n
  by_named true some =
      let ends = is some in
      let begins = named some in
      omega arith
  by_named false none = rw none (empty none)

-- ---- the loop that writes

-- the table of the first names, and where those end
pub record IsWrittenTo (names : List (List ℕ)) (i : ℕ) (bytes ends : List ℕ) : Type 0 where
  pub table : bytes ≡ 0 ∷ flat_map closed (held_to names i)
  pub places : HasEnds names i ends

pub written_all : (names : List (List ℕ)) (i : ℕ) (bytes ends : List ℕ) → i ≡ length names → IsWrittenTo names i bytes ends →
    (bytes ≡ string_table names) × HasEnds names (length names) ends
unfolding string_table
written_all names i bytes ends all is = (
  is.table ∙ ap (λ (ks : List (List ℕ)). 0 ∷ flat_map closed ks) (held_to_all names i (omega arith)),
  (let P : ℕ → Type 0 = λ k. HasEnds names k ends in subst P all is.places),
)

written_bytes : (names : List (List ℕ)) (i : ℕ) (bytes new : List ℕ) → i < length names → bytes ≡ 0 ∷ flat_map closed (held_to names i) →
    new ≡ cond (is_written names i) (bytes ++ closed (get_or names i [])) bytes → new ≡ 0 ∷ flat_map closed (held_to names (i + 1))
written_bytes names i bytes new lt table is =
    is ∙ by_written (is_written names i) ∙ ap (λ (ks : List (List ℕ)). 0 ∷ flat_map closed ks) (sym (held_to_more names i lt)) where
      by_written : (b : Bool) →
          cond b (bytes ++ closed (get_or names i [])) bytes
          ≡ 0 ∷ flat_map closed (cond b (held_to names i ++ (get_or names i [] ∷ [])) (held_to names i))
      by_written true = ap (λ (s : List ℕ). s ++ closed (get_or names i [])) table
          ∙ flat_map_more closed (0 ∷ []) (held_to names i) (get_or names i [])
      by_written false = table

written_end : (names : List (List ℕ)) (i : ℕ) (bytes new : List ℕ) → bytes ≡ 0 ∷ flat_map closed (held_to names i) →
    new ≡ cond (is_written names i) (bytes ++ closed (get_or names i [])) bytes → is_written names i ≡ true →
    length new - 1 ≡ 1 + length (flat_map closed (held_to names i)) + length (get_or names i [])
written_end names i bytes new table is written =
    let n = get_or names i [] in
    let whole : new ≡ bytes ++ closed n = is ∙ ap (λ (b : Bool). cond b (bytes ++ closed n) bytes) written in
    let long : length new ≡ length bytes + length (closed n) = ap length whole ∙ length-append bytes (closed n) in
    let before : length bytes ≡ suc (length (flat_map closed (held_to names i))) = ap length table in
    let one : length (closed n) ≡ length n + 1 = length-append n (0 ∷ []) in
    omega arith

pub written_more : (names : List (List ℕ)) (i o e : ℕ) (bytes new ends : List ℕ) → i < length names → IsOwner names (get_or names i []) o →
    new ≡ with_name bytes (get_or names i []) (o == i) → e ≡ length new - 1 →
    IsWrittenTo names i bytes ends → IsWrittenTo names (i + 1) new (ends ++ (e ∷ []))
written_more names i o e bytes new ends lt owner is end so_far_is =
    let n = get_or names i [] in
    let added : new ≡ cond (is_written names i) (bytes ++ closed n) bytes =
    is ∙ ap (λ (b : Bool). cond b (bytes ++ closed n) bytes) (written_is names i o lt owner) in
    let many = so_far_is.places.as_many in
    record {
      table = written_bytes names i bytes new lt so_far_is.table added;
      places = record {
        as_many = length_push ends e ∙ ap (λ (k : ℕ). k + 1) many;
        each = λ q below written. by_order q (cases_lt q i) below written many added;
      };
    }
  where
    by_order : (q : ℕ) → (q < i) ⊎ (i ≤ q) → q < i + 1 → is_written names q ≡ true → length ends ≡ i →
        new ≡ cond (is_written names i) (bytes ++ closed (get_or names i [])) bytes →
        get_or (ends ++ (e ∷ [])) q 0 ≡ 1 + length (flat_map closed (held_to names q)) + length (get_or names q [])
    by_order q (inl less) below written many added =
        get_or_append_left ends (e ∷ []) 0 q (omega arith) ∙ so_far_is.places.each q less written
    by_order q (inr more) below written many added =
        let here : q ≡ i = omega arith in
        let at_i : is_written names i ≡ true = ap (is_written names) (sym here) ∙ written in
        let whole : get_or (ends ++ (e ∷ [])) i 0 ≡ 1 + length (flat_map closed (held_to names i)) + length (get_or names i []) =
        get_or_push ends e 0 i many ∙ end ∙ written_end names i bytes new so_far_is.table added at_i in
        let P : ℕ → Type 0 = λ k. get_or (ends ++ (e ∷ [])) k 0
        ≡ 1 + length (flat_map closed (held_to names k)) + length (get_or names k []) in
        subst P (sym here) whole
