-- Lists of bytes, one after the other. The byte at an offset is in the first list that ends after it. All lists before that one end at or
-- before the offset, so what is left of the list from the offset on begins what is left of all bytes.
use Rattle.std.proofs.Common.{arith, ◌≡◌, ◌∙◌, ◌+◌, ◌-◌, ◌≤◌, ◌<◌, ◌^◌, ◌++◌, ap, refl, subst, sym, ℕ, List, [], ◌∷◌, drop, get_or, length}
use Rattle.std.proofs.Common.{lit<, take-add, append_assoc, append-nil, length-append, map, take, min, take-append-drop, inl, inr}
use Rattle.std.proofs.lemmas.List.{take_at, get_or_append_left, get_or-append_right, length-drop, take-append-le}
use Rattle.std.proofs.lemmas.List.{take_more, take_all, take_rest}
use Rattle.std.proofs.lemmas.List.{drop-append-le, length-take-le}
use Rattle.std.proofs.lemmas.Bool.{cases_lt}
use Rattle.std.proofs.lemmas.Grind.{get_or_default_zero}
use Rattle.std.proofs.lemmas.List.Folds.{concat-append}
use Rattle.std.specs.Borrow.{Bor}
use Rattle.std.specs.List.{concat}
use Rattle.std.specs.List.Sorted.{IsNonDecreasingBy}
use lib.Seq.{drop-append-add}
use Rattle.elf_image_stream.specs.Source.{GivesAt}
use Rattle.elf_field.specs.Bytes.{IsBytes}
use Rattle.elf_field.specs.laws.Bytes.{IsBytes-append, IsBytes-nil}
use Rattle.elf_image_sources.specs.Joined.{AreListEnds, IsCountUpTo, IsFrom, bytes_of_lists}

map-append : (xs ys : List (Bor (List ℕ))) → map (λ (x : Bor (List ℕ)). x.now) (xs ++ ys) ≡ map (λ x. x.now) xs ++ map (λ x. x.now) ys
map-append [] ys = refl
map-append (x ∷ xs) ys = ap (λ (zs : List (List ℕ)). x.now ∷ zs) (map-append xs ys)

joined-append : (xs ys : List (Bor (List ℕ))) → bytes_of_lists (xs ++ ys) ≡ bytes_of_lists xs ++ bytes_of_lists ys
joined-append xs ys = ap concat (map-append xs ys) ∙ concat-append (map (λ x. x.now) xs) (map (λ x. x.now) ys)

-- one list more
joined-snoc : (xs : List (Bor (List ℕ))) (x : Bor (List ℕ)) → bytes_of_lists (xs ++ x ∷ []) ≡ bytes_of_lists xs ++ x.now
joined-snoc xs x = joined-append xs (x ∷ []) ∙ ap (λ (bs : List ℕ). bytes_of_lists xs ++ bs) (append-nil x.now)

-- The offsets after the lists.

-- before the first list
pub no_ends : AreListEnds [] []
no_ends = record {
  all = refl;
  each = λ i within. absurd (omega arith);
  bytes = IsBytes-nil;
  fits = lit< tt;
}

first_of : (e k : ℕ) → k ≡ 0 → get_or (e ∷ []) k 0 ≡ e
first_of e k none = ap (λ (n : ℕ). get_or (e ∷ []) n 0) none

-- one list more
pub ends_more : (xs : List (Bor (List ℕ))) (ends : List ℕ) (x : Bor (List ℕ)) (e : ℕ) → AreListEnds xs ends → IsBytes x.now →
    e ≡ length (bytes_of_lists xs) + length x.now → e < 2 ^ 64 → AreListEnds (xs ++ x ∷ []) (ends ++ e ∷ [])
ends_more xs ends x e are bytes end fits =
    let longer = ap length (joined-snoc xs x) ∙ length-append (bytes_of_lists xs) x.now in
    let one = length-append xs (x ∷ []) in
    record {
      all = omega (arith, are.all, one, length-append ends (e ∷ []));
      each = λ i within. elim (cases_lt i (length xs)) [
        | inl less ↦
            get_or_append_left ends (e ∷ []) 0 i (omega (arith, are.all))
            ∙ are.each i less
            ∙ ap (λ (ys : List (Bor (List ℕ))). length (bytes_of_lists ys)) (sym (take-append-le (i + 1) xs (x ∷ []) (omega arith)))
        | inr last ↦ (let is : i ≡ length xs = omega (arith, one) in
            get_or-append_right ends (e ∷ []) (length xs) i 0 are.all (omega arith)
            ∙ first_of e (i - length xs) (omega arith)
            ∙ end ∙ sym longer
            ∙ ap (λ (ys : List (Bor (List ℕ))). length (bytes_of_lists ys)) (sym (take_all (i + 1) (xs ++ x ∷ []) (omega (arith, one)))))
      ];
      bytes = subst IsBytes (sym (joined-snoc xs x)) (IsBytes-append (bytes_of_lists xs) x.now are.bytes bytes);
      fits = omega (arith, longer);
    }

-- where a list begins
abbrev start : List (Bor (List ℕ)) → ℕ → ℕ
start lists k = length (bytes_of_lists (take k lists))

-- and where it ends
end_of : (lists : List (Bor (List ℕ))) (k : ℕ) (d : Bor (List ℕ)) → k < length lists →
    length (bytes_of_lists (take (k + 1) lists)) ≡ length (bytes_of_lists (take k lists)) + length (get_or lists k d).now
end_of lists k d within =
    ap (λ (ys : List (Bor (List ℕ))). length (bytes_of_lists ys)) (take_more lists k d within)
    ∙ ap length (joined-snoc (take k lists) (get_or lists k d))
    ∙ length-append (bytes_of_lists (take k lists)) (get_or lists k d).now

-- a later list begins no earlier
start_ascends : (lists : List (Bor (List ℕ))) (i j : ℕ) → i ≤ j → start lists i ≤ start lists j
start_ascends lists i j le =
    let there : i + (j - i) ≡ j = omega arith in
    let both = ap (λ (k : ℕ). start lists k) (sym there)
    ∙ ap (λ (ys : List (Bor (List ℕ))). length (bytes_of_lists ys)) (take-add i (j - i) lists)
    ∙ ap length (joined-append (take i lists) (take (j - i) (drop i lists)))
    ∙ length-append (bytes_of_lists (take i lists)) (bytes_of_lists (take (j - i) (drop i lists))) in
    omega (arith, both)

-- while they are added one by one
module _ (lists : List (Bor (List ℕ))) (k : ℕ) (d : Bor (List ℕ)) (within : k < length lists) (end n : ℕ)
    (at : end ≡ start lists k) (is : n ≡ length (get_or lists k d).now) where
  pub next_end : length (bytes_of_lists (take (k + 1) lists)) ≡ end + n
  next_end = omega (arith, end_of lists k d within, at, is)

  -- the offset after one of them is too large
  pub too_long : (end + n < 2 ^ 64 → ⊥) → 2 ^ 64 ≤ length (bytes_of_lists lists)
  too_long past =
      let ascends = start_ascends lists (k + 1) (length lists) (omega arith) in
      let all = ap (λ (ys : List (Bor (List ℕ))). length (bytes_of_lists ys)) (take_all (length lists) lists (omega arith)) in
      elim (cases_lt (end + n) (2 ^ 64)) [
        | inl less ↦ absurd (past less)
        | inr more ↦ omega (arith, more, next_end, ascends, all)
      ]

  pub ends_so_far : (ends : List ℕ) → IsBytes (get_or lists k d).now → end + n < 2 ^ 64 → AreListEnds (take k lists) ends →
      AreListEnds (take (k + 1) lists) (ends ++ (end + n) ∷ [])
  ends_so_far ends bytes fits are =
      subst (λ (ys : List (Bor (List ℕ))). AreListEnds ys (ends ++ (end + n) ∷ [])) (sym (take_more lists k d within))
      (ends_more (take k lists) ends (get_or lists k d) (end + n) are bytes (omega (arith, at, is)) fits)

-- the last offset is the length of all
pub last_end : (lists : List (Bor (List ℕ))) (ends : List ℕ) → AreListEnds lists ends →
    get_or ends (length ends - 1) 0 ≡ length (bytes_of_lists lists)
last_end [] [] are = refl
last_end [] (e ∷ ends) are = absurd (omega (arith, are.all))
last_end (x ∷ lists) ends are =
    let here : length ends - 1 < length (x ∷ lists) = omega (arith, are.all) in
    are.each (length ends - 1) here
    ∙ ap (λ (ys : List (Bor (List ℕ))). length (bytes_of_lists ys)) (take_all (length ends - 1 + 1) (x ∷ lists) (omega (arith, are.all)))

-- the offsets do not fall, so that one of them is found by halves
pub ends_ascend : (lists : List (Bor (List ℕ))) (ends : List ℕ) → AreListEnds lists ends → IsNonDecreasingBy (λ (e : ℕ). e) ends
ends_ascend lists ends are i j d le within =
    let first = get_or_default_zero ends i d (omega arith) ∙ are.each i (omega (arith, are.all)) in
    let second = get_or_default_zero ends j d within ∙ are.each j (omega (arith, are.all)) in
    let ascends = start_ascends lists (i + 1) (j + 1) (omega arith) in
    omega (arith, first, second, ascends)

-- the last bytes of a list, so many
abbrev pub last_of : List ℕ → ℕ → List ℕ
last_of list n = take (length list - (length list - n)) (drop (length list - n) list)

-- The list that is found: all before it end at or before an offset, and it is the first that ends after it.

module _ (lists : List (Bor (List ℕ))) (ends : List ℕ) (at k : ℕ) (are : AreListEnds lists ends)
    (found : IsCountUpTo at ends k) where
  -- it begins at or before the offset
  starts_before : k ≤ length lists → start lists k ≤ at
  starts_before within = elim (cases_lt 0 k) [
    | inl some ↦ (let last = found.0 (k - 1) 0 (omega arith) (omega arith) in
        let is = are.each (k - 1) (omega arith) in
        let here : k - 1 + 1 ≡ k = omega arith in
        let there = ap (λ (n : ℕ). start lists n) here in
        omega (arith, last, is, there))
    | inr none ↦ (let here : k ≡ 0 = omega arith in
        let there = ap (λ (n : ℕ). start lists n) here in
        omega (arith, there))
  ]

  -- no list ends after it
  pub all_before : length lists ≤ k → k ≤ length ends → length (bytes_of_lists lists) ≤ at
  all_before past within =
      let here : k ≡ length lists = omega (arith, are.all) in
      let before = starts_before (omega (arith, are.all)) in
      let there = ap (λ (ys : List (Bor (List ℕ))). length (bytes_of_lists ys)) (take_all k lists past) in
      omega (arith, before, there)

  module _ (d : Bor (List ℕ)) (within : k < length lists) where
    -- it ends after the offset
    ends_after : at < get_or ends k 0
    ends_after = found.1 k 0 (omega arith) (omega (arith, are.all))

    -- and begins so far before it
    reaches_back : get_or ends k 0 - at ≤ length (get_or lists k d).now
    reaches_back =
        let before = starts_before (omega arith) in
        let end = are.each k within ∙ end_of lists k d within in
        omega (arith, before, end)

    place : length (get_or lists k d).now - (get_or ends k 0 - at) ≡ at - start lists k
    place =
        let before = starts_before (omega arith) in
        let after = ends_after in
        let end = are.each k within ∙ end_of lists k d within in
        omega (arith, before, after, end)

    -- all bytes: those of the lists before it, its own, and those of the lists after it
    parts : bytes_of_lists lists ≡ bytes_of_lists (take k lists) ++ ((get_or lists k d).now ++ bytes_of_lists (drop (k + 1) lists))
    parts =
        ap bytes_of_lists (sym (take-append-drop (k + 1) lists))
        ∙ joined-append (take (k + 1) lists) (drop (k + 1) lists)
        ∙ ap (λ (bs : List ℕ). bs ++ bytes_of_lists (drop (k + 1) lists))
        (ap bytes_of_lists (take_more lists k d within) ∙ joined-snoc (take k lists) (get_or lists k d))
        ∙ append_assoc (bytes_of_lists (take k lists)) (get_or lists k d).now (bytes_of_lists (drop (k + 1) lists))

    -- what is left of it begins what is left of all
    from_found : (n : ℕ) → n ≡ get_or ends k 0 - at →
        IsFrom (bytes_of_lists lists) at (last_of (get_or lists k d).now n)
    from_found n is =
        let own = (get_or lists k d).now in
        let rest = bytes_of_lists (drop (k + 1) lists) in
        let before = starts_before (omega arith) in
        let after = ends_after in
        let back = reaches_back in
        let i = length own - n in
        let there : at ≡ start lists k + i = omega (arith, place, before) in
        let whole = take_rest own i in
        record {
          some = omega (arith, ap length whole, length-drop i own, is, after, back);
          rest = rest;
          begins =
              ap (drop at) parts
              ∙ ap (λ (x : ℕ). drop x (bytes_of_lists (take k lists) ++ (own ++ rest))) there
              ∙ drop-append-add (bytes_of_lists (take k lists)) (own ++ rest) i
              ∙ drop-append-le i own rest (omega arith)
              ∙ ap (λ (bs : List ℕ). bs ++ rest) (sym whole);
        }

    -- the same of the offset after it, however that is read
    module _ (e : ℕ) (is : e ≡ get_or ends k e) where
      read : e ≡ get_or ends k 0
      read = is ∙ get_or_default_zero ends k e (omega (arith, are.all))

      pub after_found : at ≤ e
      after_found = omega (arith, read, ends_after)

      pub back_found : e - at ≤ length (get_or lists k d).now
      back_found = omega (arith, read, reaches_back)

      pub rest_found : (b : List ℕ) → bytes_of_lists lists ≡ b → IsFrom b at (last_of (get_or lists k d).now (e - at))
      rest_found b all =
          subst (λ (bytes : List ℕ). IsFrom bytes at (last_of (get_or lists k d).now (e - at))) all
          (from_found (e - at) (omega (arith, read)))

-- a read of what is left of a list is a read of all bytes
pub gives_from : (b list buf old : List ℕ) (at n : ℕ) → IsFrom b at list → n ≡ min (length list - 0) (length old) →
    buf ≡ take n (drop 0 list) ++ drop n old → GivesAt b at n buf
gives_from b list buf old at n is many made =
    let left = length-drop at b in
    let long = ap length is.begins ∙ length-append list is.rest in
    let some = is.some in
    let short : n ≤ length list = omega (arith, many) in
    let stayed = ap length made ∙ length-append (take n list) (drop n old) in
    record {
      bytes = ap (take n) made ∙ take_at (take n list) (drop n old) n (length-take-le n list short)
          ∙ sym (ap (take n) is.begins ∙ take-append-le n list is.rest short);
      within = λ some. omega (arith, left, long);
      some = λ none room. absurd (omega (arith, stayed, length-take-le n list short, length-drop n old, many));
    }
