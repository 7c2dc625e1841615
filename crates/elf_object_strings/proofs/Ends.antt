-- Where the first of a list of names that ends with a given name has its zero. A name that does not end with it takes its length and a
-- zero; the first that does has its zero at the end of the given name.
use Rattle.std.proofs.Common.{◌≡◌, ◌≤◌, ◌+◌, ◌-◌, ℕ, true, false, List, [], ◌∷◌, ◌++◌, length, take, refl, sym, ap, ◌∙◌, append_assoc}
use Rattle.std.proofs.Common.{arith, length-append, ◌<◌, suc, Bool, drop, get_or, reverse, inl, inr}
use Rattle.std.proofs.lemmas.Bool.{true≢false, or_parts, cases_lt, cases_order}
use Rattle.std.proofs.lemmas.Bool.Decides.{Decides-eqb, leb_tells}
use Rattle.std.proofs.lemmas.Slice.Eq.{ends_is}
use Rattle.std.specs.List.{flat_map, list_any, position_or_len}
use Rattle.std.proofs.Math.Seq.{drop-append-add, take-add}
use Rattle.std.proofs.lemmas.List.{drop_at, length-reverse, reverse-append, drop-drop, length-take, take_min}
use Rattle.std.specs.declared.cmp.Ordering.TheVariants.{Less, Equal, Greater}
use Rattle.std.specs.Cmp.{nat_cmp_is}
use Rattle.std.specs.Cmp.Lexicographic.{slice_cmp}
use Rattle.std.specs.Ordering.{nat_cmp}
use Rattle.std.proofs.Math.Dec.{leb}
use Rattle.std.specs.Prelude.{◌==◌}
use Rattle.elf_field.specs.Strings.{string}
use Rattle.elf_object_strings.specs.StringTable.{IsSuffix, is_named, is_suffix, closed, end_from, IsTailOf, AreEndsIn, AreTails}

-- Facts on names that end with others: the test is the definition, the relation is reflexive and transitive, and a suffix is no longer
-- than the name.

pub suffix_from : (name other : List ℕ) → is_suffix name other ≡ true → IsSuffix name other
suffix_from name other is = (take (length other - length name) other, (ends_is Decides-eqb other name (is_suffix name other) refl).0 is)

pub suffix_test : (name other : List ℕ) → IsSuffix name other → is_suffix name other ≡ true
suffix_test name other (front, is) = (ends_is Decides-eqb other name (is_suffix name other) refl).1 front is

pub suffix_none : (name other : List ℕ) → is_suffix name other ≡ false → ¬ IsSuffix name other
suffix_none name other unlike suffix = true≢false (sym (suffix_test name other suffix) ∙ unlike)

pub suffix_same : (name other : List ℕ) → other ≡ name → IsSuffix name other
suffix_same name other same = ([], same)

pub suffix_trans : (a b c : List ℕ) → IsSuffix a b → IsSuffix b c → IsSuffix a c
suffix_trans a b c (front, is) (more, has) =
    (more ++ front, has ∙ ap (λ (s : List ℕ). more ++ s) is ∙ sym (append_assoc more front a))

pub suffix_length : (name other : List ℕ) (suffix : IsSuffix name other) → length other ≡ length suffix.0 + length name
suffix_length name other (front, is) = ap length is ∙ length-append front name

pub suffix_fits : (name other : List ℕ) → IsSuffix name other → length name ≤ length other
suffix_fits name other suffix = let long = suffix_length name other suffix in omega arith

-- what ends with a name that is not empty is not empty
pub suffix_named : (name other : List ℕ) → IsSuffix name other → is_named name ≡ true → is_named other ≡ true
suffix_named name other (front, is) named = ap is_named is ∙ by_front front where
  by_front : (s : List ℕ) → is_named (s ++ name) ≡ true
  by_front [] = named
  by_front (b ∷ s) = refl

pub length-closed : (k rest : List ℕ) → length (closed k ++ rest) ≡ suc (length k) + length rest
length-closed k rest =
    let both = length-append (closed k) rest in
    let one = length-append k (0 ∷ []) in
    omega arith

-- after names of which none ends with it
pub end_after : (at : ℕ) (ks : List (List ℕ)) (k : List ℕ) (more : List (List ℕ)) (n : List ℕ) →
    list_any (is_suffix n) ks ≡ false → is_suffix n k ≡ true →
    end_from at (ks ++ (k ∷ more)) n ≡ at + length (flat_map closed ks) + length k
end_after at [] k more n none ends = rw ends (omega arith)
end_after at (j ∷ ks) k more n none ends =
    let parts = or_parts (is_suffix n j) (list_any (is_suffix n) ks) none in
    let long : length (flat_map closed (j ∷ ks)) ≡ suc (length j) + length (flat_map closed ks) = length-closed j (flat_map closed ks) in
    let rest = end_after (at + suc (length j)) ks k more n parts.1 ends in
    rw parts.0 (omega arith)

-- the name is before x in the closed names, which begin at an offset, with a zero after it
pub record IsEndAt (at : ℕ) (ks : List (List ℕ)) (n : List ℕ) (x : ℕ) : Type 0 where
  pub from : at + length n ≤ x
  pub within : x < at + length (flat_map closed ks)
  pub after : List ℕ
  pub stands : drop (x - length n - at) (flat_map closed ks) ≡ n ++ (0 ∷ after)

ends_here : (at : ℕ) (k : List ℕ) (ks : List (List ℕ)) (n : List ℕ) → IsSuffix n k → IsEndAt at (k ∷ ks) n (at + length k)
ends_here at k ks n (front, is) =
    let rest = flat_map closed ks in
    let long : length k ≡ length front + length n = ap length is ∙ length-append front n in
    let whole : length (closed k ++ rest) ≡ suc (length k) + length rest = length-closed k rest in
    let skip : at + length k - length n - at ≡ length front = omega arith in
    let split : closed k ++ rest ≡ front ++ (n ++ (0 ∷ rest)) =
    append_assoc k (0 ∷ []) rest ∙ ap (λ (s : List ℕ). s ++ (0 ∷ rest)) is ∙ append_assoc front n (0 ∷ rest) in
    record {
      from = omega arith;
      within = omega arith;
      after = rest;
      stands =
          ap (drop (at + length k - length n - at)) split ∙ ap (λ (x : ℕ). drop x (front ++ (n ++ (0 ∷ rest)))) skip
          ∙ drop_at front (n ++ (0 ∷ rest)) (length front) refl;
    }

ends_later : (at : ℕ) (k : List ℕ) (ks : List (List ℕ)) (n : List ℕ) (x : ℕ) → IsEndAt (at + suc (length k)) ks n x →
    IsEndAt at (k ∷ ks) n x
ends_later at k ks n x is =
    let rest = flat_map closed ks in
    let whole : length (closed k ++ rest) ≡ suc (length k) + length rest = length-closed k rest in
    let one : length (closed k) ≡ length k + 1 = length-append k (0 ∷ []) in
    let from = is.from in
    let within = is.within in
    let skip : x - length n - at ≡ length (closed k) + (x - length n - (at + suc (length k))) = omega arith in
    record {
      from = omega arith;
      within = omega arith;
      after = is.after;
      stands =
          ap (λ (y : ℕ). drop y (closed k ++ rest)) skip
          ∙ drop-append-add (closed k) rest (x - length n - (at + suc (length k))) ∙ is.stands;
    }

pub end_stands : (at : ℕ) (ks : List (List ℕ)) (n : List ℕ) → list_any (is_suffix n) ks ≡ true → IsEndAt at ks n (end_from at ks n)
end_stands at [] n found = absurd (true≢false (sym found))
end_stands at (k ∷ ks) n found = by_first (is_suffix n k) refl (end_stands (at + suc (length k)) ks n) where
  by_first : (b : Bool) → is_suffix n k ≡ b →
      (list_any (is_suffix n) ks ≡ true → IsEndAt (at + suc (length k)) ks n (end_from (at + suc (length k)) ks n)) →
      IsEndAt at (k ∷ ks) n (end_from at (k ∷ ks) n)
  by_first true is rest = rw is (ends_here at k ks n (suffix_from n k is))
  by_first false is rest = rw is (ends_later at k ks n _ (rest (rw is at found)))

-- Names of which one ends the other are in the order of their lengths, read from their last bytes on. So if two names have one end, their
-- lengths decide the order and which one is the tail of the other.

-- ---- the order

same_number : (a : ℕ) → nat_cmp a a ≡ Equal
same_number a = sym (nat_cmp_is a a Equal refl)

next_number : (a b : ℕ) → nat_cmp (suc a) (suc b) ≡ nat_cmp a b
next_number a b = elim (cases_order a b) [
  | inl same ↦ sym (nat_cmp_is (suc a) (suc b) Equal (omega arith)) ∙ nat_cmp_is a b Equal same
  | inr other ↦ elim other [
    | inl below ↦ sym (nat_cmp_is (suc a) (suc b) Less (omega arith)) ∙ nat_cmp_is a b Less below
    | inr above ↦ sym (nat_cmp_is (suc a) (suc b) Greater (omega arith)) ∙ nat_cmp_is a b Greater above
  ]
]

-- a list that another begins with is before it, unless they are equal
begin_first : (xs ys : List ℕ) → slice_cmp nat_cmp xs (xs ++ ys) ≡ nat_cmp (length xs) (length xs + length ys)
begin_first [] [] = refl
begin_first [] (y ∷ ys) = nat_cmp_is 0 (length {A = ℕ} [] + length (y ∷ ys)) Less (omega arith)
begin_first (x ∷ xs) ys =
    let sum : suc (length xs + length ys) ≡ suc (length xs) + length ys = omega arith in
    rw (same_number x)
    (begin_first xs ys ∙ sym (next_number (length xs) (length xs + length ys)) ∙ ap (λ (n : ℕ). nat_cmp (suc (length xs)) n) sum)

begin_last : (xs ys : List ℕ) → slice_cmp nat_cmp (xs ++ ys) xs ≡ nat_cmp (length xs + length ys) (length xs)
begin_last [] [] = refl
begin_last [] (y ∷ ys) = nat_cmp_is (length {A = ℕ} [] + length (y ∷ ys)) 0 Greater (omega arith)
begin_last (x ∷ xs) ys =
    let sum : suc (length xs + length ys) ≡ suc (length xs) + length ys = omega arith in
    rw (same_number x)
    (begin_last xs ys ∙ sym (next_number (length xs + length ys) (length xs)) ∙ ap (λ (n : ℕ). nat_cmp n (suc (length xs))) sum)

pub shorter : (name other : List ℕ) → IsSuffix name other →
    slice_cmp nat_cmp (reverse name) (reverse other) ≡ nat_cmp (length name) (length other)
shorter name other (front, is) =
    let turned : reverse other ≡ reverse name ++ reverse front = ap reverse is ∙ reverse-append front name in
    let long : length (reverse name) ≡ length name = length-reverse name in
    let more : length (reverse front) ≡ length front = length-reverse front in
    let all : length other ≡ length front + length name = ap length is ∙ length-append front name in
    let sum : length name + length front ≡ length other = omega arith in
    rw turned (begin_first (reverse name) (reverse front) ∙ rw (long, more, sum) refl)

pub longer : (name other : List ℕ) → IsSuffix name other →
    slice_cmp nat_cmp (reverse other) (reverse name) ≡ nat_cmp (length other) (length name)
longer name other (front, is) =
    let turned : reverse other ≡ reverse name ++ reverse front = ap reverse is ∙ reverse-append front name in
    let long : length (reverse name) ≡ length name = length-reverse name in
    let more : length (reverse front) ≡ length front = length-reverse front in
    let all : length other ≡ length front + length name = ap length is ∙ length-append front name in
    let sum : length name + length front ≡ length other = omega arith in
    rw turned (begin_last (reverse name) (reverse front) ∙ rw (long, more, sum) refl)

pub tails_order : (names : List (List ℕ)) (i j : ℕ) → IsTailOf names i j → IsTailOf names j i →
    slice_cmp nat_cmp (reverse (get_or names i [])) (reverse (get_or names j [])) ≡
    nat_cmp (length (get_or names i [])) (length (get_or names j []))
tails_order names i j first second =
    let a = get_or names i [] in
    let b = get_or names j [] in
    elim (cases_lt (length b) (length a)) [
      | inl below ↦ longer b a (second (omega arith))
      | inr above ↦ shorter a b (first (omega arith))
    ]

-- ---- the test

pub tail_by_length : (name other : List ℕ) → (length name ≤ length other → IsSuffix name other) →
    leb (length name) (length other) ≡ is_suffix name other
tail_by_length name other tail = elim (leb_tells (length name) (length other)) [
  | inl (is, le) ↦ is ∙ sym (suffix_test name other (tail le))
  | inr (is, above) ↦ is ∙ sym (by (is_suffix name other) refl above)
] where
  by : (b : Bool) → is_suffix name other ≡ b → length other < length name → b ≡ false
  by false is above = refl
  by true is above = (let fits = suffix_fits name other (suffix_from name other is) in absurd (omega arith))

-- Names of one string table with the offsets after them. Two strings of a table that end at one offset are the bytes of the table up to
-- there. So the longer one is those before the shorter one, and then the shorter one (`tails_of_table`).

-- a string is as many bytes of its table as it is long
string_taken : (table : List ℕ) (s : ℕ) → string table s ≡ take (length (string table s)) (drop s table)
string_taken table s =
    let rest = drop s table in
    let k = position_or_len (λ byte. byte == 0) rest in
    sym (ap (λ (n : ℕ). take n rest) (length-take k rest) ∙ take_min k rest)

-- what is taken from an offset is what is taken up to a later one, and from there on
taken_from : (table : List ℕ) (s d l : ℕ) → take (d + l) (drop s table) ≡ take d (drop s table) ++ take l (drop (s + d) table)
taken_from table s d l =
    take-add d l (drop s table) ∙ ap (λ (rest : List ℕ). take d (drop s table) ++ take l rest) (drop-drop d s table)

pub tails_of_table : (table : List ℕ) (names : List (List ℕ)) (ends : List ℕ) → AreEndsIn table names ends → AreTails names ends
tails_of_table table names ends are i j some one le =
    let (s, name_is, end_is) = are i some in
    let (t, other_is, other_end_is) = are j (omega arith) in
    let a = get_or names i [] in
    let b = get_or names j [] in
    let d = length b - length a in
    let start : t + d ≡ s = omega arith in
    let long : d + length a ≡ length b = omega arith in
    let own : a ≡ take (length a) (drop s table) =
    name_is ∙ string_taken table s ∙ ap (λ (n : List ℕ). take (length n) (drop s table)) (sym name_is) in
    let whole : b ≡ take (length b) (drop t table) =
    other_is ∙ string_taken table t ∙ ap (λ (n : List ℕ). take (length n) (drop t table)) (sym other_is) in (
      take d (drop t table),
      whole ∙ ap (λ (n : ℕ). take n (drop t table)) (sym long) ∙ taken_from table t d (length a)
          ∙ ap (λ (n : ℕ). take d (drop t table) ++ take (length a) (drop n table)) start
          ∙ ap (λ (n : List ℕ). take d (drop t table) ++ n) (sym own),
    )

pub tails_none : (names : List (List ℕ)) → AreTails names []
tails_none names i j some one = absurd (omega arith)
