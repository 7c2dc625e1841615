-- A string table holds its names (`holds_names`). It begins and ends with a zero. A name lies at its offset with a zero after it
-- (`held_at`), because a name that is held ends with it. So what is read there up to the first zero is the name, if the name has no zero
-- itself.
use Rattle.std.proofs.Common.{◌≡◌, ◌≢◌, ◌<◌, ◌≤◌, ℕ, zero, suc, ◌+◌, ◌-◌, Bool, true, false, cond, List, [], ◌∷◌, ◌++◌, length, take, drop}
use Rattle.std.proofs.Common.{get_or, refl, sym, ap, ap₂, ◌∙◌, append_assoc, arith, inl, inr, length-append, map}
use Rattle.std.specs.Prelude.{◌⊎◌, ⊤, ◌&&◌, not, ◌==◌}
use Rattle.std.specs.List.{AllByRecursion, flat_map, list_any, filter, before_first}
use Rattle.std.proofs.lemmas.Bool.{cases_lt, true≢false, and_parts, not-true, or_left, or_right, and_from, not_from_false, or_cases, ne_eqb}
use Rattle.std.proofs.lemmas.List.{drop-append-le, drop-drop, drop_at, length-drop, take-append-drop, get_or_default, get_or-append-add}
use Rattle.std.proofs.lemmas.List.{get_or-map, length-map}
use Rattle.std.specs.Str.{bytes_eq}
use Rattle.std.proofs.lemmas.Slice.Eq.{bytes_eq-Decides}
use Rattle.std.proofs.lemmas.List.Folds.{Any-from_list_any, list_any_at}
use Rattle.std.proofs.lemmas.Map.Views.{any-filter_same}
use Rattle.elf_field.specs.Bytes.{IsBytes}
use Rattle.elf_field.specs.laws.Bytes.{IsBytes-append, IsBytes-cons, IsBytes-nil}
use Rattle.elf_field.specs.Strings.{string}
use Rattle.elf_object_strings.proofs.Ends.{suffix_from, suffix_length, suffix_test, length-closed, suffix_named, suffix_same, suffix_trans}
use Rattle.elf_object_strings.proofs.Ends.{IsEndAt, end_stands}
use Rattle.elf_object_strings.proofs.Written.{bytes_eq-self, in_distinct, same_name}
use Rattle.elf_object_strings.specs.StringTable.{AreZeroFree, IsLowestAt, StandsClosedAt, closed, end_from, is_suffix, IsSuffix, distinct}
use Rattle.elf_object_strings.specs.StringTable.{held, is_held, is_named, is_proper_suffix, HasNoZero, HoldsNames, name_offset}
use Rattle.elf_object_strings.specs.StringTable.{string_table, HoldsEach, IsShortest, Shares, SharesTails}

-- The lowest offset of a name among closed names is in the first of them that ends with it. A zero ends each name and none has one inside,
-- so a name that is found at an offset lies at the end of one closed name.

abbrev pub IsZeroFree : List ℕ → Type 0
IsZeroFree name = AllByRecursion (λ byte. 0 < byte) name

-- ---- names that a zero ends

pub heads : (b c : ℕ) (bs cs : List ℕ) → b ∷ bs ≡ c ∷ cs → b ≡ c
heads b c bs cs is = ap (λ (xs : List ℕ). get_or xs 0 0) is

pub rests : (b c : ℕ) (bs cs : List ℕ) → b ∷ bs ≡ c ∷ cs → bs ≡ cs
rests b c bs cs is = ap (λ (xs : List ℕ). drop 1 xs) is

-- two names that begin at one place and that a zero ends are the same
pub one_name : (k n bs cs : List ℕ) → IsZeroFree k → IsZeroFree n → k ++ (0 ∷ bs) ≡ n ++ (0 ∷ cs) → k ≡ n
one_name [] [] bs cs free other is = refl
one_name [] (c ∷ n) bs cs free other is = absurd (let same = heads 0 c _ _ is in let above = other.0 in omega arith)
one_name (b ∷ k) [] bs cs free other is = absurd (let same = heads b 0 _ _ is in let above = free.0 in omega arith)
one_name (b ∷ k) (c ∷ n) bs cs free other is =
    ap₂ (λ (x : ℕ) (xs : List ℕ). x ∷ xs) (heads b c _ _ is) (one_name k n bs cs free.1 other.1 (rests b c _ _ is))

pub zero_free-drop : (y : ℕ) (k : List ℕ) → IsZeroFree k → IsZeroFree (drop y k)
zero_free-drop zero k free = free
zero_free-drop (suc y) [] free = free
zero_free-drop (suc y) (b ∷ k) free = zero_free-drop y k free.1

-- ---- where a name is

-- the start of the suffix of the first of the names that ends with this one
abbrev pub place_in : List (List ℕ) → List ℕ → ℕ
place_in [] n = 0
place_in (k ∷ ks) n = cond (is_suffix n k) (length k - length n) (suc (length k) + place_in ks n)

closed_first : (k : List ℕ) (ks : List (List ℕ)) → flat_map closed (k ∷ ks) ≡ k ++ (0 ∷ flat_map closed ks)
closed_first k ks = append_assoc k (0 ∷ []) (flat_map closed ks)

-- within a name and its zero
within : (k t : List ℕ) (y : ℕ) → y ≤ length k → drop y (k ++ (0 ∷ t)) ≡ drop y k ++ (0 ∷ t)
within k t y le = drop-append-le y k (0 ∷ t) le

-- after them
beyond : (k t : List ℕ) (y : ℕ) → drop (suc (length k) + y) (k ++ (0 ∷ t)) ≡ drop y t
beyond k t y =
    let split : suc (length k) + y ≡ length (k ++ (0 ∷ [])) + y = (let both = length-append k (0 ∷ []) in omega arith) in
    let joined : k ++ (0 ∷ t) ≡ (k ++ (0 ∷ [])) ++ t = sym (append_assoc k (0 ∷ []) t) in
    ap₂ (λ (i : ℕ) (s : List ℕ). drop i s) split joined
    ∙ sym (drop-drop y (length (k ++ (0 ∷ []))) ((k ++ (0 ∷ [])) ++ t))
    ∙ ap (drop y) (drop_at (k ++ (0 ∷ [])) t (length (k ++ (0 ∷ []))) refl)

-- a name that is within another is its suffix
found : (k t n : List ℕ) (y : ℕ) → IsZeroFree k → IsZeroFree n → y ≤ length k → StandsClosedAt (k ++ (0 ∷ t)) n y → drop y k ≡ n
found k t n y free other le stands =
    one_name (drop y k) n t stands.0 (zero_free-drop y k free) other (sym (within k t y le) ∙ stands.1)

-- it is there
stands_end : (k t n : List ℕ) → is_suffix n k ≡ true → StandsClosedAt (k ++ (0 ∷ t)) n (length k - length n)
stands_end k t n is =
    let suffix = suffix_from n k is in
    let long = suffix_length n k suffix in
    let start : length k - length n ≡ length suffix.0 = omega arith in
    let le : length k - length n ≤ length k = omega arith in
    let here : drop (length k - length n) k ≡ n =
    ap₂ (λ (i : ℕ) (s : List ℕ). drop i s) start suffix.1 ∙ drop_at suffix.0 n (length suffix.0) refl in
    (t, within k t (length k - length n) le ∙ ap (λ (s : List ℕ). s ++ (0 ∷ t)) here)

stands_step : (k : List ℕ) (ks : List (List ℕ)) (n : List ℕ) (b : Bool) → is_suffix n k ≡ b →
    (list_any (is_suffix n) ks ≡ true → StandsClosedAt (flat_map closed ks) n (place_in ks n)) → list_any (is_suffix n) (k ∷ ks) ≡ true →
    StandsClosedAt (k ++ (0 ∷ flat_map closed ks)) n (cond b (length k - length n) (suc (length k) + place_in ks n))
stands_step k ks n true is rest any = stands_end k (flat_map closed ks) n is
stands_step k ks n false is rest any =
    let there = rest (rw is at any) in
    (there.0, beyond k (flat_map closed ks) (place_in ks n) ∙ there.1)

pub stands_in : (ks : List (List ℕ)) (n : List ℕ) → list_any (is_suffix n) ks ≡ true → StandsClosedAt (flat_map closed ks) n (place_in ks n)
stands_in [] n any = absurd (true≢false (sym any))
stands_in (k ∷ ks) n any = rw (closed_first k ks) (stands_step k ks n (is_suffix n k) refl (stands_in ks n) any)

least_end : (k t n : List ℕ) (y : ℕ) → IsZeroFree k → IsZeroFree n → StandsClosedAt (k ++ (0 ∷ t)) n y → (length k < y) ⊎ (y ≤ length k) →
    length k - length n ≤ y
least_end k t n y free other stands (inl past) = omega arith
least_end k t n y free other stands (inr le) =
    let same = found k t n y free other le stands in
    let left = length-drop y k in
    let count = ap (λ (s : List ℕ). length s) same in
    omega arith

at_end : (k t n : List ℕ) → IsZeroFree k → IsZeroFree n → is_suffix n k ≡ true → IsLowestAt (k ++ (0 ∷ t)) n (length k - length n)
at_end k t n free other is = record {
  here = stands_end k t n is;
  lowest = λ y stands. least_end k t n y free other stands (cases_lt (length k) y);
}

least_rest : (k t n : List ℕ) (x y : ℕ) → IsZeroFree k → IsZeroFree n → is_suffix n k ≡ false → IsLowestAt t n x →
    StandsClosedAt (k ++ (0 ∷ t)) n y → (length k < y) ⊎ (y ≤ length k) → suc (length k) + x ≤ y
least_rest k t n x y free other unlike rest stands (inl past) =
    let split : y ≡ suc (length k) + (y - suc (length k)) = omega arith in
    let there : drop (y - suc (length k)) t ≡ n ++ (0 ∷ stands.0) =
    sym (ap (λ (i : ℕ). drop i (k ++ (0 ∷ t))) split ∙ beyond k t (y - suc (length k))) ∙ stands.1 in
    let le = rest.lowest (y - suc (length k)) (stands.0, there) in
    omega arith
least_rest k t n x y free other unlike rest stands (inr le) =
    let same = found k t n y free other le stands in
    let whole : k ≡ take y k ++ n = sym (take-append-drop y k) ∙ ap (λ (s : List ℕ). take y k ++ s) same in
    absurd (true≢false (sym (suffix_test n k (take y k, whole)) ∙ unlike))

at_rest : (k t n : List ℕ) (x : ℕ) → IsZeroFree k → IsZeroFree n → is_suffix n k ≡ false → IsLowestAt t n x →
    IsLowestAt (k ++ (0 ∷ t)) n (suc (length k) + x)
at_rest k t n x free other unlike rest = record {
  here = (rest.here.0, beyond k t x ∙ rest.here.1);
  lowest = λ y stands. least_rest k t n x y free other unlike rest stands (cases_lt (length k) y);
}

lowest_step : (k : List ℕ) (ks : List (List ℕ)) (n : List ℕ) (b : Bool) → is_suffix n k ≡ b → IsZeroFree k → IsZeroFree n →
    (list_any (is_suffix n) ks ≡ true → IsLowestAt (flat_map closed ks) n (place_in ks n)) → list_any (is_suffix n) (k ∷ ks) ≡ true →
    IsLowestAt (k ++ (0 ∷ flat_map closed ks)) n (cond b (length k - length n) (suc (length k) + place_in ks n))
lowest_step k ks n true is free other rest any = at_end k (flat_map closed ks) n free other is
lowest_step k ks n false is free other rest any =
    at_rest k (flat_map closed ks) n (place_in ks n) free other is (rest (rw is at any))

pub lowest_in : (ks : List (List ℕ)) (n : List ℕ) → AreZeroFree ks → IsZeroFree n → list_any (is_suffix n) ks ≡ true →
    IsLowestAt (flat_map closed ks) n (place_in ks n)
lowest_in [] n free other any = absurd (true≢false (sym any))
lowest_in (k ∷ ks) n free other any =
    rw (closed_first k ks) (lowest_step k ks n (is_suffix n k) refl free.0 other (lowest_in ks n free.1 other) any)

-- ---- after the zero at the table's beginning

pub not_first : (n t bs : List ℕ) → IsZeroFree n → n ≢ [] → 0 ∷ t ≢ n ++ (0 ∷ bs)
not_first [] t bs free some = λ is. some refl
not_first (c ∷ n) t bs free some = λ is. (let same = heads 0 c _ _ is in let above = free.0 in omega arith)

least_after : (t n : List ℕ) (x y : ℕ) → IsZeroFree n → n ≢ [] → IsLowestAt t n x → StandsClosedAt (0 ∷ t) n y → suc x ≤ y
least_after t n x zero free some is stands = absurd (not_first n t stands.0 free some stands.1)
least_after t n x (suc y) free some is stands = let le = is.lowest y (stands.0, stands.1) in omega arith

pub lowest_after : (t n : List ℕ) (x : ℕ) → IsZeroFree n → n ≢ [] → IsLowestAt t n x → IsLowestAt (0 ∷ t) n (suc x)
lowest_after t n x free some is = record {
  here = (is.here.0, is.here.1);
  lowest = λ y stands. least_after t n x y free some is stands;
}

pub lowest_empty : (t : List ℕ) → IsLowestAt (0 ∷ t) [] 0
lowest_empty t = record { here = (t, refl); lowest = λ y stands. omega arith }

-- ---- the end of the first

end_step : (at : ℕ) (k : List ℕ) (ks : List (List ℕ)) (n : List ℕ) (b : Bool) → is_suffix n k ≡ b →
    (list_any (is_suffix n) ks ≡ true → end_from (at + suc (length k)) ks n ≡ (at + suc (length k)) + place_in ks n + length n) →
    list_any (is_suffix n) (k ∷ ks) ≡ true →
    cond b (at + length k) (end_from (at + suc (length k)) ks n) ≡ at + cond b (length k - length n)
    (suc (length k) + place_in ks n) + length n
end_step at k ks n true is rest any = let long = suffix_length n k (suffix_from n k is) in omega arith
end_step at k ks n false is rest any = let there = rest (rw is at any) in omega arith

pub end_is : (at : ℕ) (ks : List (List ℕ)) (n : List ℕ) → list_any (is_suffix n) ks ≡ true →
    end_from at ks n ≡ at + place_in ks n + length n
end_is at [] n any = absurd (true≢false (sym any))
end_is at (k ∷ ks) n any = end_step at k ks n (is_suffix n k) refl (end_is (at + suc (length k)) ks n) any

-- Names without zeros, of which none ends with another, take the bytes of all of them, with a zero each, in whatever list holds them. Cut
-- out
-- one name with its zero. Another name that met the cut would end with it, or it with that one. So the others are still there, and by
-- induction the list is at least that long.

-- the name is in the list, with a zero after it
pub record Stands (t n : List ℕ) : Type 0 where
  pub front : List ℕ
  pub after : List ℕ
  pub is : t ≡ front ++ (n ++ (0 ∷ after))

-- none of the names ends with another of them
abbrev pub AreApart : List (List ℕ) → Type 0
AreApart [] = ⊤
AreApart (k ∷ ks) = AllByRecursion (λ n. (IsSuffix n k → ⊥) × (IsSuffix k n → ⊥)) ks × AreApart ks

-- ---- a name is cut out of a list with its zero; another one is its suffix, or still is there

longer_front : (b : ℕ) (t n : List ℕ) → Stands t n → Stands (b ∷ t) n
longer_front b t n s = record { front = b ∷ s.front; after = s.after; is = ap (λ (xs : List ℕ). b ∷ xs) s.is }

longer_suffix : (b : ℕ) (n k : List ℕ) → IsSuffix n k → IsSuffix n (b ∷ k)
longer_suffix b n k s = (b ∷ s.0, ap (λ (xs : List ℕ). b ∷ xs) s.1)

-- the other one begins within the name, its zero or after
inside : (k bs front n cs : List ℕ) → IsZeroFree k → IsZeroFree n → k ++ (0 ∷ bs) ≡ front ++ (n ++ (0 ∷ cs)) → IsSuffix n k ⊎ Stands bs n
inside k bs [] n cs free other is = inl ([], one_name k n bs cs free other is)
inside [] bs (c ∷ front) n cs free other is = inr (record { front = front; after = cs; is = rests 0 c _ _ is })
inside (b ∷ k) bs (c ∷ front) n cs free other is = by_rest (inside k bs front n cs free.1 other (rests b c _ _ is)) where
  by_rest : IsSuffix n k ⊎ Stands bs n → IsSuffix n (b ∷ k) ⊎ Stands bs n
  by_rest (inl s) = inl (longer_suffix b n k s)
  by_rest (inr s) = inr s

-- the other one begins first: it ends with the name, or its zero is before the name
before : (front k bs n cs : List ℕ) → IsZeroFree k → IsZeroFree n → front ++ (k ++ (0 ∷ bs)) ≡ n ++ (0 ∷ cs) →
    IsSuffix k n ⊎ ((rest : List ℕ) × (front ++ bs ≡ n ++ (0 ∷ rest)))
before [] k bs n cs free other is = inl ([], sym (one_name k n bs cs free other is))
before (b ∷ front) k bs [] cs free other is = inr (front ++ bs, ap (λ (x : ℕ). x ∷ (front ++ bs)) (heads b 0 _ _ is))
before (b ∷ front) k bs (c ∷ n) cs free other is =
    by_rest (heads b c _ _ is) (before front k bs n cs free other.1 (rests b c _ _ is)) where
      by_rest : b ≡ c → IsSuffix k n ⊎ ((rest : List ℕ) × (front ++ bs ≡ n ++ (0 ∷ rest))) →
          IsSuffix k (c ∷ n) ⊎ ((rest : List ℕ) × (b ∷ (front ++ bs) ≡ c ∷ (n ++ (0 ∷ rest))))
      by_rest same (inl s) = inl (longer_suffix c k n s)
      by_rest same (inr s) = inr (s.0, ap₂ (λ (x : ℕ) (xs : List ℕ). x ∷ xs) same s.1)

left_over : (front k bs before_other n cs : List ℕ) → IsZeroFree k → IsZeroFree n →
    front ++ (k ++ (0 ∷ bs)) ≡ before_other ++ (n ++ (0 ∷ cs)) →
    IsSuffix n k ⊎ (IsSuffix k n ⊎ Stands (front ++ bs) n)
left_over [] k bs os n cs free other is = by_inside (inside k bs os n cs free other is) where
  by_inside : IsSuffix n k ⊎ Stands bs n → IsSuffix n k ⊎ (IsSuffix k n ⊎ Stands bs n)
  by_inside (inl s) = inl s
  by_inside (inr s) = inr (inr s)
left_over (b ∷ front) k bs [] n cs free other is = by_before (before (b ∷ front) k bs n cs free other is) where
  by_before : IsSuffix k n ⊎ ((rest : List ℕ) × (b ∷ (front ++ bs) ≡ n ++ (0 ∷ rest))) →
      IsSuffix n k ⊎ (IsSuffix k n ⊎ Stands (b ∷ (front ++ bs)) n)
  by_before (inl s) = inr (inl s)
  by_before (inr s) = inr (inr (record { front = []; after = s.0; is = s.1 }))
left_over (b ∷ front) k bs (c ∷ os) n cs free other is = by_rest (left_over front k bs os n cs free other (rests b c _ _ is)) where
  by_rest : IsSuffix n k ⊎ (IsSuffix k n ⊎ Stands (front ++ bs) n) → IsSuffix n k ⊎ (IsSuffix k n ⊎ Stands (b ∷ (front ++ bs)) n)
  by_rest (inl s) = inl s
  by_rest (inr (inl s)) = inr (inl s)
  by_rest (inr (inr s)) = inr (inr (longer_front b (front ++ bs) n s))

-- ---- all of them

one_left : (t k n : List ℕ) (s : Stands t k) → IsZeroFree k → IsZeroFree n → (IsSuffix n k → ⊥) × (IsSuffix k n → ⊥) → Stands t n →
    Stands (s.front ++ s.after) n
one_left t k n s free other apart o = by_left (left_over s.front k s.after o.front n o.after free other (sym s.is ∙ o.is)) where
  by_left : IsSuffix n k ⊎ (IsSuffix k n ⊎ Stands (s.front ++ s.after) n) → Stands (s.front ++ s.after) n
  by_left (inl is) = absurd (apart.0 is)
  by_left (inr (inl is)) = absurd (apart.1 is)
  by_left (inr (inr is)) = is

all_left : (t k : List ℕ) (s : Stands t k) (ks : List (List ℕ)) → IsZeroFree k → AreZeroFree ks →
    AllByRecursion (λ n. (IsSuffix n k → ⊥) × (IsSuffix k n → ⊥)) ks → AllByRecursion (Stands t) ks →
    AllByRecursion (Stands (s.front ++ s.after)) ks
all_left t k s [] free others apart all = tt
all_left t k s (n ∷ ks) free others apart all =
    (one_left t k n s free others.0 apart.0 all.0, all_left t k s ks free others.1 apart.1 all.1)

pub no_shorter_rest : (ks : List (List ℕ)) (t : List ℕ) → AreZeroFree ks → AreApart ks → AllByRecursion (Stands t) ks →
    length (flat_map closed ks) ≤ length t
no_shorter_rest [] t free apart all = omega arith
no_shorter_rest (k ∷ ks) t free apart all =
    let s = all.0 in
    let rest = no_shorter_rest ks (s.front ++ s.after) free.1 apart.1 (all_left t k s ks free.0 free.1 apart.0 all.1) in
    let whole = ap (λ (xs : List ℕ). length xs) s.is in
    let outer = length-append s.front (k ++ (0 ∷ s.after)) in
    let inner = length-append k (0 ∷ s.after) in
    let cut = length-append s.front s.after in
    let all_closed = length-append (closed k) (flat_map closed ks) in
    let one_closed = length-append k (0 ∷ []) in
    omega arith

-- None of the names that a table holds ends with another one, and no two are the same: a held name is no proper suffix of any name, and
-- the list has each name once.

-- ---- what holds of each

pub all_weaker : {X : Type 0} (P Q : X → Type 0) → ((x : X) → P x → Q x) → (xs : List X) → AllByRecursion P xs → AllByRecursion Q xs
all_weaker P Q weaker [] all = tt
all_weaker P Q weaker (x ∷ xs) all = (weaker x all.0, all_weaker P Q weaker xs all.1)

pub all_both : {X : Type 0} (P Q : X → Type 0) (xs : List X) → AllByRecursion P xs → AllByRecursion Q xs →
    AllByRecursion (λ x. P x × Q x) xs
all_both P Q [] all other = tt
all_both P Q (x ∷ xs) all other = ((all.0, other.0), all_both P Q xs all.1 other.1)

filter_step : {X : Type 0} (P : X → Type 0) (p : X → Bool) (x : X) (xs : List X) (b : Bool) → p x ≡ b → P x →
    AllByRecursion (λ x. P x × (p x ≡ true)) (filter p xs) → AllByRecursion (λ x. P x × (p x ≡ true)) (filter p (x ∷ xs))
filter_step P p x xs true is here rest = rw is ((here, is), rest)
filter_step P p x xs false is here rest = rw is rest

pub all_filter : {X : Type 0} (P : X → Type 0) (p : X → Bool) (xs : List X) → AllByRecursion P xs →
    AllByRecursion (λ x. P x × (p x ≡ true)) (filter p xs)
all_filter P p [] all = tt
all_filter P p (x ∷ xs) all = filter_step P p x xs (p x) refl all.0 (all_filter P p xs all.1)

pub all_distinct : (P : List ℕ → Type 0) (ns : List (List ℕ)) → AllByRecursion P ns → AllByRecursion P (distinct ns)
all_distinct P [] all = tt
all_distinct P (n ∷ ns) all =
    (all.0, all_weaker _ P (λ x both. both.0) _ (all_filter P (λ other. not (bytes_eq n other)) (distinct ns) (all_distinct P ns all.1)))

-- what holds of each name holds of each that the table holds, and those are kept
pub all_held : (P : List ℕ → Type 0) (names : List (List ℕ)) → AllByRecursion P names →
    AllByRecursion (λ n. P n × (is_held names n ≡ true)) (held names)
unfolding held
all_held P names all = all_filter P (is_held names) (distinct names) (all_distinct P names all)

-- ---- each name is among the names

abbrev pub IsAmong : List (List ℕ) → List ℕ → Type 0
IsAmong names n = (p : List ℕ → Bool) → p n ≡ true → list_any p names ≡ true

among_rest : (names ms : List (List ℕ)) → ((p : List ℕ → Bool) → list_any p ms ≡ true → list_any p names ≡ true) →
    AllByRecursion (IsAmong names) ms
among_rest names [] includes = tt
among_rest names (m ∷ ms) includes =
    ((λ p is. includes p (or_left (p m) (list_any p ms) is)), among_rest names ms (λ p is. includes p (or_right (p m) (list_any p ms) is)))

pub all_among : (names : List (List ℕ)) → AllByRecursion (IsAmong names) names
all_among names = among_rest names names (λ p is. is)

-- ---- no two of them are the same

abbrev AreDifferent : List (List ℕ) → Type 0
AreDifferent [] = ⊤
AreDifferent (d ∷ ds) = AllByRecursion (λ e. d ≢ e) ds × AreDifferent ds

differs : (n e : List ℕ) → not (bytes_eq n e) ≡ true → n ≢ e
differs n e is = λ same. true≢false (sym ((bytes_eq-Decides n e).1 same) ∙ not-true (bytes_eq n e) is)

different_step : (p : List ℕ → Bool) (d : List ℕ) (ds : List (List ℕ)) (b : Bool) → p d ≡ b → AllByRecursion (λ e. d ≢ e) ds →
    AreDifferent (filter p ds) → AreDifferent (filter p (d ∷ ds))
different_step p d ds true is here rest = rw is (all_weaker _ (λ e. d ≢ e) (λ x both. both.0) _ (all_filter (λ e. d ≢ e) p ds here), rest)
different_step p d ds false is here rest = rw is rest

different_filter : (p : List ℕ → Bool) (ds : List (List ℕ)) → AreDifferent ds → AreDifferent (filter p ds)
different_filter p [] all = tt
different_filter p (d ∷ ds) all = different_step p d ds (p d) refl all.0 (different_filter p ds all.1)

all_true : (ds : List (List ℕ)) → AllByRecursion (λ d. ⊤) ds
all_true [] = tt
all_true (d ∷ ds) = (tt, all_true ds)

different_distinct : (ns : List (List ℕ)) → AreDifferent (distinct ns)
different_distinct [] = tt
different_distinct (n ∷ ns) = (
  all_weaker _ (λ e. n ≢ e) (λ e both. differs n e both.1) _
      (all_filter (λ d. ⊤) (λ other. not (bytes_eq n other)) (distinct ns) (all_true (distinct ns))),
  different_filter (λ other. not (bytes_eq n other)) (distinct ns) (different_distinct ns),
)

-- ---- none ends with another

proper : (n k : List ℕ) → IsSuffix n k → n ≢ k → is_proper_suffix n k ≡ true
proper n k suffix other = both (is_suffix n k) (bytes_eq n k) (suffix_test n k suffix) (unequal (bytes_eq n k) refl) where
  both : (a b : Bool) → a ≡ true → b ≡ false → (a && not b) ≡ true
  both a b is unlike = rw (is, unlike) refl

  unequal : (b : Bool) → bytes_eq n k ≡ b → b ≡ false
  unequal true is = absurd (other ((bytes_eq-Decides n k).0 is))
  unequal false is = refl

pub ends_none : (names : List (List ℕ)) (n k : List ℕ) → is_held names n ≡ true → IsAmong names k → n ≢ k → IsSuffix n k → ⊥
ends_none names n k kept among other suffix =
    let none = not-true (list_any (is_proper_suffix n) names) (and_parts (is_named n) (not (list_any (is_proper_suffix n) names)) kept).1 in
    true≢false (sym (among (is_proper_suffix n) (proper n k suffix other)) ∙ none)

apart_step : (names : List (List ℕ)) (d : List ℕ) (ds : List (List ℕ)) (b : Bool) → is_held names d ≡ b → IsAmong names d →
    AllByRecursion (IsAmong names) ds → AllByRecursion (λ e. d ≢ e) ds → AreApart (filter (is_held names) ds) →
    AreApart (filter (is_held names) (d ∷ ds))
apart_step names d ds true is here all others rest =
    rw is (
      all_weaker _ (λ n. (IsSuffix n d → ⊥) × (IsSuffix d n → ⊥))
          (λ e both. (
            (λ suffix. ends_none names e d both.1 here (λ same. both.0.1 (sym same)) suffix),
            (λ suffix. ends_none names d e is both.0.0 both.0.1 suffix),
          ))
          _ (all_filter (λ e. IsAmong names e × (d ≢ e)) (is_held names) ds (all_both (IsAmong names) (λ e. d ≢ e) ds all others)),
      rest,
    )
apart_step names d ds false is here all others rest = rw is rest

apart_filter : (names ds : List (List ℕ)) → AllByRecursion (IsAmong names) ds → AreDifferent ds → AreApart (filter (is_held names) ds)
apart_filter names [] all different = tt
apart_filter names (d ∷ ds) all different =
    apart_step names d ds (is_held names d) refl all.0 all.1 different.0 (apart_filter names ds all.1 different.1)

pub apart_held : (names : List (List ℕ)) → AreApart (held names)
unfolding held
apart_held names = apart_filter names (distinct names) (all_distinct (IsAmong names) names (all_among names)) (different_distinct names)

-- Each name that is not empty has one that is held and ends with it. If the name itself is not held, a longer one ends with it; lengths
-- are bounded, so the climb from name to longer name ends.

-- what passes one test passes the other
pub any_weaker : (p q : List ℕ → Bool) → ((k : List ℕ) → p k ≡ true → q k ≡ true) →
    (ks : List (List ℕ)) → list_any p ks ≡ true → list_any q ks ≡ true
any_weaker p q weaker [] found = found
any_weaker p q weaker (k ∷ ks) found = by_first (or_cases (p k) (list_any p ks) found) (any_weaker p q weaker ks) where
  by_first : (p k ≡ true) ⊎ (list_any p ks ≡ true) → (list_any p ks ≡ true → list_any q ks ≡ true) → list_any q (k ∷ ks) ≡ true
  by_first (inl is) rest = or_left (q k) (list_any q ks) (weaker k is)
  by_first (inr is) rest = or_right (q k) (list_any q ks) (rest is)

-- a name that is not the same as one that ends with it is shorter
shorter : (name other : List ℕ) → IsSuffix name other → bytes_eq name other ≡ false → length name < length other
shorter name other ([], is) differ = absurd (true≢false (sym (ap (bytes_eq name) is ∙ bytes_eq-self name) ∙ differ))
shorter name other (b ∷ front, is) differ =
    let long : length other ≡ suc (length front + length name) = ap length is ∙ length-append (b ∷ front) name ∙ omega arith in
    omega arith

-- no name is longer than all together
not_longer : (names : List (List ℕ)) (i : ℕ) → i < length names → length (get_or names i []) ≤ length (flat_map closed names)
not_longer [] i lt = absurd (omega arith)
not_longer (n ∷ names) zero lt =
    let whole = length-closed n (flat_map closed names) in
    omega arith
not_longer (n ∷ names) (suc i) lt =
    let whole = length-closed n (flat_map closed names) in
    let rest : length (get_or names i []) ≤ length (flat_map closed names) = not_longer names i (omega arith) in
    omega arith

-- a name that is to be held is held
pub in_held : (names : List (List ℕ)) (n : List ℕ) → is_held names n ≡ true → list_any (bytes_eq n) names ≡ true →
    list_any (bytes_eq n) (held names) ≡ true
unfolding held
in_held names n kept found =
    any-filter_same (bytes_eq n) (is_held names) true (λ k equal. ap (is_held names) (sym (same_name n k equal)) ∙ kept) (distinct names)
    ∙ in_distinct n names ∙ found

climb : (names : List (List ℕ)) (fuel i : ℕ) → i < length names → is_named (get_or names i []) ≡ true →
    length (flat_map closed names) < length (get_or names i []) + fuel → list_any (is_suffix (get_or names i [])) (held names) ≡ true
climb names zero i lt named some = let fits = not_longer names i lt in absurd (omega arith)
climb names (suc fuel) i lt named some = by_longer (list_any (is_proper_suffix (get_or names i [])) names) refl (climb names fuel) where
  by_longer : (b : Bool) → list_any (is_proper_suffix (get_or names i [])) names ≡ b →
      ((j : ℕ) → j < length names → is_named (get_or names j []) ≡ true →
      length (flat_map closed names) < length (get_or names j []) + fuel → list_any (is_suffix (get_or names j [])) (held names) ≡ true) →
      list_any (is_suffix (get_or names i [])) (held names) ≡ true
  by_longer false none further =
      let n = get_or names i [] in
      let kept : is_held names n ≡ true = and_from (is_named n) (not (list_any (is_proper_suffix n) names)) named (not_from_false _ none) in
      let there = list_any_at (bytes_eq n) names i [] lt (bytes_eq-self n) in
      any_weaker (bytes_eq n) (is_suffix n) (λ k equal. suffix_test n k (suffix_same n k (sym (same_name n k equal))))
      (held names) (in_held names n kept there)
  by_longer true found further =
      let n = get_or names i [] in
      let longer = Any-from_list_any (is_proper_suffix n) names found in
      let j = longer.0 in
      let m = get_or names j [] in
      let same : m ≡ longer.1 = get_or_default names j [] longer.1 longer.2 ∙ longer.3 in
      let parts = and_parts (is_suffix n m) (not (bytes_eq n m)) (ap (is_proper_suffix n) same ∙ longer.4) in
      let ends : IsSuffix n m = suffix_from n m parts.0 in
      let more : length n < length m = shorter n m ends (not-true (bytes_eq n m) parts.1) in
      any_weaker (is_suffix m) (is_suffix n) (λ k is. suffix_test n k (suffix_trans n m k ends (suffix_from m k is))) (held names)
      (further j longer.2 (suffix_named n m ends named) (omega arith))

-- each name of the list that is not empty
pub ends_held : (names : List (List ℕ)) (i : ℕ) → i < length names → is_named (get_or names i []) ≡ true →
    list_any (is_suffix (get_or names i [])) (held names) ≡ true
ends_held names i lt named = climb names (suc (length (flat_map closed names))) i lt named (omega arith)

-- ---- the ends of the table

last_zero : (ds : List (List ℕ)) → get_or (0 ∷ flat_map closed ds) (length (flat_map closed ds)) 0 ≡ 0
last_zero [] = refl
last_zero (d ∷ ds) =
    let rest = flat_map closed ds in
    let whole : closed d ++ rest ≡ d ++ (0 ∷ rest) = append_assoc d (0 ∷ []) rest in
    let long : length (closed d ++ rest) ≡ suc (length d + length rest) = length-closed d rest ∙ omega arith in
    ap₂ (λ (s : List ℕ) (k : ℕ). get_or (0 ∷ s) k 0) whole long ∙ get_or-append-add d (0 ∷ rest) (length rest) 0 ∙ last_zero ds

pub first_is_zero : (ns : List (List ℕ)) → get_or (string_table ns) 0 0 ≡ 0
unfolding string_table
first_is_zero ns = refl

pub last_is_zero : (ns : List (List ℕ)) → get_or (string_table ns) (length (string_table ns) - 1) 0 ≡ 0
unfolding string_table
last_is_zero ns =
    let end : suc (length (flat_map closed (held ns))) - 1 ≡ length (flat_map closed (held ns)) = omega arith in
    ap (λ (k : ℕ). get_or (0 ∷ flat_map closed (held ns)) k 0) end ∙ last_zero (held ns)

-- ---- what is read at a name's offset

before_zero : (n : List ℕ) (following : List ℕ) → HasNoZero n → before_first (λ byte. byte == 0) (n ++ (0 ∷ following)) ≡ n
before_zero [] following all = refl
before_zero (b ∷ n) following all =
    let one : (k : ℕ) → 1 + k ≡ suc k = λ k. omega arith in
    let other : b ≢ 0 = λ is. all (0, omega arith, is) in
    let rest : HasNoZero n = λ (k, lt, is). all (suc k, omega arith, is) in
    rw (ne_eqb b 0 other)
    (ap (λ (k : ℕ). take k (b ∷ (n ++ (0 ∷ following)))) (one _) ∙ ap (λ (s : List ℕ). b ∷ s) (before_zero n following rest))

record IsHeldAt (names : List (List ℕ)) (name : List ℕ) : Type 0 where
  within : name_offset names name < length (string_table names)
  read : HasNoZero name → string (string_table names) (name_offset names name) ≡ name

held_at : (names : List (List ℕ)) (name : List ℕ) → is_named name ≡ true → list_any (is_suffix name) (held names) ≡ true →
    IsHeldAt names name
unfolding name_offset string_table
held_at names name named ends =
    let bytes = flat_map closed (held names) in
    let x = end_from 1 (held names) name in
    let is : IsEndAt 1 (held names) name x = end_stands 1 (held names) name ends in
    let from = is.from in
    let within = is.within in
    let place : name_offset names name ≡ x - length name = rw named refl in
    record {
      within = omega arith;
      read = λ all.
          (let split : x - length name ≡ suc (x - length name - 1) = omega arith in
          ap (string (0 ∷ bytes)) (place ∙ split) ∙ ap (before_first (λ byte. byte == 0)) is.stands ∙ before_zero name is.after all);
    }

empty_held : (names : List (List ℕ)) → IsHeldAt names []
unfolding name_offset string_table
empty_held names = record { within = omega arith; read = λ all. refl }

each_held : (names : List (List ℕ)) (i : ℕ) → i < length names → IsHeldAt names (get_or names i [])
each_held names i lt = by_name (get_or names i []) (is_named (get_or names i [])) refl refl where
  by_name : (name : List ℕ) (named : Bool) → name ≡ get_or names i [] → is_named name ≡ named → IsHeldAt names name
  by_name [] named same is = empty_held names
  by_name (b ∷ n) false same is = absurd (true≢false is)
  by_name (b ∷ n) true same is =
      let ends = ends_held names i lt (ap is_named (sym same)) in
      held_at names (b ∷ n) refl (ap (λ (m : List ℕ). list_any (is_suffix m) (held names)) same ∙ ends)

-- ---- bytes

IsBytes-closed : (ds : List (List ℕ)) → AllByRecursion IsBytes ds → IsBytes (flat_map closed ds)
IsBytes-closed [] all = IsBytes-nil
IsBytes-closed (d ∷ ds) all =
    let zero_byte = IsBytes-cons 0 [] (omega arith) IsBytes-nil in
    IsBytes-append (closed d) (flat_map closed ds) (IsBytes-append d (0 ∷ []) all.0 zero_byte) (IsBytes-closed ds all.1)

IsBytes-string_table : (ns : List (List ℕ)) → AllByRecursion IsBytes ns → IsBytes (string_table ns)
unfolding string_table
IsBytes-string_table ns all =
    let each = all_weaker _ IsBytes (λ n both. both.0) (held ns) (all_held IsBytes ns all) in
    IsBytes-cons 0 (flat_map closed (held ns)) (omega arith) (IsBytes-closed (held ns) each)

-- ---- the law

some_byte : (names : List (List ℕ)) → 0 < length (string_table names)
unfolding string_table
some_byte names = omega arith

pub empty_at_zero : (names : List (List ℕ)) → name_offset names [] ≡ 0
unfolding name_offset
empty_at_zero names = refl

pub holds_names : (names : List (List ℕ)) → HoldsNames names (string_table names) (name_offset names)
holds_names names = record {
  nonempty = some_byte names;
  first = first_is_zero names;
  last = last_is_zero names;
  empty_name = empty_at_zero names;
  within = λ i lt. (each_held names i lt).within;
  read = λ i lt. (each_held names i lt).read;
  bytes = IsBytes-string_table names;
}

-- A string table that shares tails holds each name. If no name has a zero, each is at its lowest offset, and no list that holds the names
-- is shorter. The last holds because none of the names that are held ends with another (`no_shorter_rest`).

-- ---- each at its lowest offset

place_is : (names : List (List ℕ)) (n : List ℕ) → is_named n ≡ true → list_any (is_suffix n) (held names) ≡ true →
    name_offset names n ≡ suc (place_in (held names) n)
unfolding name_offset
place_is names n named any =
    let from : end_from 1 (held names) n - length n ≡ suc (place_in (held names) n) =
    (let end = end_is 1 (held names) n any in omega arith) in
    rw named from

some_of : (n : List ℕ) → is_named n ≡ true → n ≢ []
some_of [] named = absurd (true≢false (sym named))
some_of (b ∷ n) named = λ is. true≢false (ap is_named is)

zero_free_at : (names : List (List ℕ)) (i : ℕ) → AreZeroFree names → i < length names → IsZeroFree (get_or names i [])
zero_free_at [] i free lt = absurd (omega arith)
zero_free_at (n ∷ names) zero free lt = free.0
zero_free_at (n ∷ names) (suc i) free lt = zero_free_at names i free.1 (omega arith)

zero_free_held : (names : List (List ℕ)) → AreZeroFree names → AreZeroFree (held names)
zero_free_held names free = all_weaker _ IsZeroFree (λ n both. both.0) (held names) (all_held IsZeroFree names free)

lowest_of : (names : List (List ℕ)) (n : List ℕ) (b : Bool) → is_named n ≡ b → AreZeroFree names → IsZeroFree n →
    (is_named n ≡ true → list_any (is_suffix n) (held names) ≡ true) → IsLowestAt (string_table names) n (name_offset names n)
unfolding string_table
lowest_of names [] b is free one any = rw (empty_at_zero names) (lowest_empty (flat_map closed (held names)))
lowest_of names (c ∷ n) true is free one any =
    rw (place_is names (c ∷ n) is (any is))
    (lowest_after (flat_map closed (held names)) (c ∷ n) (place_in (held names) (c ∷ n)) one (some_of (c ∷ n) is)
    (lowest_in (held names) (c ∷ n) (zero_free_held names free) one (any is)))
lowest_of names (c ∷ n) false is free one any = absurd (true≢false is)

pub shares_each : (names : List (List ℕ)) → AreZeroFree names → Shares names (string_table names) (map (name_offset names) names)
shares_each names free = record {
  bytes = refl;
  as_many = length-map names (name_offset names);
  each = λ i lt.
      rw (get_or-map (name_offset names) names i [] 0 lt)
      (lowest_of names (get_or names i []) (is_named (get_or names i [])) refl free (zero_free_at names i free lt) (ends_held names i lt));
}

-- ---- each is held

stands_of : (names : List (List ℕ)) (n : List ℕ) (b : Bool) → is_named n ≡ b →
    (is_named n ≡ true → list_any (is_suffix n) (held names) ≡ true) →
    (x : ℕ) × StandsClosedAt (string_table names) n x
unfolding string_table
stands_of names [] b is any = (0, (flat_map closed (held names), refl))
stands_of names (c ∷ n) true is any = let there = stands_in (held names) (c ∷ n) (any is) in
    (suc (place_in (held names) (c ∷ n)), (there.0, there.1))
stands_of names (c ∷ n) false is any = absurd (true≢false is)

all_stand : (names ms : List (List ℕ)) →
    ((i : ℕ) → i < length ms → is_named (get_or ms i []) ≡ true → list_any (is_suffix (get_or ms i [])) (held names) ≡ true) →
    AllByRecursion (λ n. (x : ℕ) × StandsClosedAt (string_table names) n x) ms
all_stand names [] found = tt
all_stand names (m ∷ ms) found = (
  stands_of names m (is_named m) refl (λ named. found 0 (omega arith) named),
  all_stand names ms (λ i lt named. found (suc i) (omega arith) named),
)

begins_with_zero : (names : List (List ℕ)) → string_table names ≡ 0 ∷ flat_map closed (held names)
unfolding string_table
begins_with_zero names = refl

pub holds_each : (names : List (List ℕ)) → HoldsEach (string_table names) names
holds_each names =
    record { rest = flat_map closed (held names); begins = begins_with_zero names; each = all_stand names names (ends_held names) }

-- ---- none that holds them is shorter

stands_after : (t n : List ℕ) (x : ℕ) → IsZeroFree n → n ≢ [] → StandsClosedAt (0 ∷ t) n x → Stands t n
stands_after t n zero free some is = absurd (not_first n t is.0 free some is.1)
stands_after t n (suc x) free some is =
    record { front = take x t; after = is.0; is = sym (take-append-drop x t) ∙ ap (λ (s : List ℕ). take x t ++ s) is.1 }

each_stands : (names : List (List ℕ)) (t : List ℕ) → AreZeroFree names → AllByRecursion (λ n. (x : ℕ) × StandsClosedAt (0 ∷ t) n x) names →
    AllByRecursion (Stands t) (held names)
each_stands names t free all =
    all_weaker _ (Stands t)
    (λ n both. stands_after t n both.0.1.0 both.0.0
    (some_of n (and_parts (is_named n) (not (list_any (is_proper_suffix n) names)) both.1).0) both.0.1.1) (held names)
    (all_held (λ n. IsZeroFree n × ((x : ℕ) × StandsClosedAt (0 ∷ t) n x)) names (all_both IsZeroFree _ names free all))

pub least_table : (names : List (List ℕ)) → AreZeroFree names → IsShortest names (string_table names)
least_table names free other holds =
    let begins = holds.begins in
    let each = each_stands names holds.rest free (rw begins at holds.each) in
    let less = no_shorter_rest (held names) holds.rest (zero_free_held names free) (apart_held names) each in
    let long = ap (λ (s : List ℕ). length s) begins in
    let mine = ap (λ (s : List ℕ). length s) (begins_with_zero names) in
    omega arith

pub shares_tails : (names : List (List ℕ)) → AreZeroFree names → SharesTails names
shares_tails names free = record { shares = shares_each names free; holds = holds_each names; shortest = least_table names free }

-- ---- whatever has these bytes and offsets

pub shares_of : (names : List (List ℕ)) (table offsets : List ℕ) → table ≡ string_table names → offsets ≡ map (name_offset names) names →
    AreZeroFree names → Shares names table offsets
shares_of names table offsets bytes places free = rw (bytes, places) (shares_each names free)

pub holds_of : (names : List (List ℕ)) (table : List ℕ) → table ≡ string_table names → HoldsEach table names
holds_of names table bytes = rw bytes (holds_each names)

pub least_of : (names : List (List ℕ)) (table : List ℕ) → table ≡ string_table names → AreZeroFree names → IsShortest names table
least_of names table bytes free other holds = rw bytes (least_table names free other holds)
