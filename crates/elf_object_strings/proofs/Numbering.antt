-- Names with their indexes: in the order of their list, in another order, and sorted. Each pair has a name and its index in the list, also
-- after a permutation. Pairs sorted by `numbered_order`, which is a total order, are in the order by ends, if each has the number of its
-- end (`end_decides`).
use Rattle.std.proofs.Common.{◌≡◌, ℕ, zero, suc, ◌+◌, ◌-◌, ◌*◌, ◌%◌, ◌^◌, ◌<◌, ◌≤◌, ◌⊎◌, List, [], ◌∷◌, ◌++◌, length, get_or, take, drop}
use Rattle.std.proofs.Common.{min, replicate, reverse, Ordering, Bool, true, false, refl, sym, ap, ap₂, subst, ◌∙◌, inl, inr, add-one}
use Rattle.std.proofs.Common.{arith, nat_eq}
use Rattle.std.specs.declared.cmp.Ordering.TheVariants.{Less, Equal, Greater}
use Rattle.std.specs.Cmp.{nat_cmp_is, IsTotalOrder}
use Rattle.std.specs.Cmp.Lexicographic.{slice_cmp}
use Rattle.std.specs.Int.{byte_worth, from_le_bytes, sum_through, w64}
use Rattle.std.specs.Ordering.{nat_cmp, ordering_then, is_lt}
use Rattle.std.proofs.Math.Nat.{add-mul, mul-le-mul_right, one-le-pow, pow-succ'}
use Rattle.std.proofs.lemmas.Bool.{cases_lt, cases_order}
use Rattle.std.proofs.lemmas.List.{append-nil, drop_all, get_or-reverse, get_or_past, length-append, length-drop, length-replicate}
use Rattle.std.proofs.lemmas.List.{length-reverse, replicate_more, reverse-append, take-append-drop, take-replicate, take_all, take_more}
use Rattle.std.proofs.lemmas.List.{take_rest, get_or-map, get_or_default, length-map, map-append, get_or_append_left, get_or-append_right}
use Rattle.std.specs.List.{All, Contains}
use Rattle.std.specs.List.Sorted.{IsPermutation, IsSortedBy}
use Rattle.std.proofs.lemmas.Cmp.{back_total, nat_cmp_total, nat_list_cmp_total, on_total, then_total, tied_itself}
use Rattle.std.proofs.lemmas.List.Elements.{All-push}
use Rattle.std.proofs.lemmas.List.Sorted.{All-permutation, Contains-permutation, IsPermutation-map, length_permutation, ranks_by}
use Rattle.std.proofs.lemmas.List.Sorted.{sorted_far}
use Rattle.std.proofs.lemmas.Bool.Decides.{Decides-eqb, nat_tests}
use Rattle.std.proofs.lemmas.Map.Keys.{IsDistinct-IsPermutation}
use Rattle.std.proofs.lemmas.Map.Made.{AllPairs-from_IsDistinct, IsDistinct-from_AllPairs}
use borrow.Rule.Slice.PartMut.{post_of, put_mid}
use Rattle.elf_field.specs.Bytes.{IsBytes}
use Rattle.elf_field.specs.laws.Bytes.{IsBytes-rest}
use Rattle.elf_object_strings.specs.Sorting.{AreWithoutEqualEnds, HasEnd, end_number, ends_order, is_whole, leading, left_of}
use Rattle.elf_object_strings.specs.Sorting.{numbered_order, AreInEndsOrder, AreNumbered, indexes_in, names_by_ends}
use Rattle.elf_object_strings.specs.StringTable.{IsSuffix}
use Rattle.elf_object_strings.specs.declared.sorting.Numbered.{Numbered}

-- Names as numbers of their last seven bytes, read from the end on: the last byte is the leading digit to the base 256. The last digit is
-- the length, up to 8. So if two numbers differ, they are in the order of the names; if they are equal, the names are, or the names decide.
-- The code's number is this one.

-- ---- the order of the numbers

leading-lt : (n : ℕ) (bytes : List ℕ) → IsBytes bytes → leading n bytes < 256 ^ n
unfolding leading
leading-lt zero bytes are = omega arith
leading-lt (suc n) [] are = let positive = one-le-pow (suc n) 256 (omega arith) in omega arith
leading-lt (suc n) (byte ∷ bytes) are =
    let small : byte < 256 = are 0 in
    let rest = leading-lt n bytes (IsBytes-rest byte bytes are) in
    let top : byte * 256 ^ n ≤ 255 * 256 ^ n = mul-le-mul_right (256 ^ n) (omega arith) in
    rw (pow-succ' 256 n) (omega arith)

less : (a b : ℕ) → a < b → nat_cmp a b ≡ Less
less a b below = sym (nat_cmp_is a b Less below)

equal : (a b : ℕ) → a ≡ b → nat_cmp a b ≡ Equal
equal a b same = sym (nat_cmp_is a b Equal same)

greater : (a b : ℕ) → b < a → nat_cmp a b ≡ Greater
greater a b above = sym (nat_cmp_is a b Greater above)

below_zero : (m : ℕ) → ordering_then (nat_cmp 0 m) Less ≡ Less
below_zero zero = refl
below_zero (suc m) = rw (less 0 (suc m) (omega arith)) refl

above_zero : (m : ℕ) → ordering_then (nat_cmp m 0) Greater ≡ Greater
above_zero zero = refl
above_zero (suc m) = rw (greater (suc m) 0 (omega arith)) refl

-- what is added to both does not count
added : (a r s : ℕ) → nat_cmp (a + r) (a + s) ≡ nat_cmp r s
added a r s =
    elim (cases_order r s) [
      | inl same ↦ equal (a + r) (a + s) (omega arith) ∙ sym (equal r s same)
      | inr other ↦ elim other [
        | inl below ↦ less (a + r) (a + s) (omega arith) ∙ sym (less r s below)
        | inr above ↦ greater (a + r) (a + s) (omega arith) ∙ sym (greater r s above)
      ]
    ]

-- two digits to the base p
digits-lt : (x y p r s : ℕ) → x < y → r < p → x * p + r < y * p + s
digits-lt x y p r s below low =
    let top : (x + 1) * p ≤ y * p = mul-le-mul_right p (omega arith) in
    let split = add-mul x 1 p in
    omega arith

same_digits : (x y p r s : ℕ) → r < p → s < p → x * p + r ≡ y * p + s → (x ≡ y) × (r ≡ s)
same_digits x y p r s low other_low same =
    elim (cases_order x y) [
      | inl first ↦ (let tops : x * p ≡ y * p = ap (λ (n : ℕ). n * p) first in (first, omega arith))
      | inr other ↦ elim other [
        | inl below ↦ (let lt = digits-lt x y p r s below low in absurd (omega arith))
        | inr above ↦ (let lt = digits-lt y x p s r above other_low in absurd (omega arith))
      ]
    ]

digits : (x y p r s : ℕ) (o : Ordering) → r < p → s < p → ordering_then (nat_cmp r s) o ≡ o →
    ordering_then (nat_cmp (x * p + r) (y * p + s)) (ordering_then (nat_cmp x y) o) ≡ ordering_then (nat_cmp x y) o
digits x y p r s o low other_low rest =
    elim (cases_order x y) [
      | inl same ↦
          let P : ℕ → Type 0 = λ z.
          ordering_then (nat_cmp (x * p + r) (z * p + s)) (ordering_then (nat_cmp x z) o) ≡ ordering_then (nat_cmp x z) o in
          subst P same (rw (added (x * p) r s, equal x x refl) rest)
      | inr other ↦ elim other [
        | inl below ↦ rw (less (x * p + r) (y * p + s) (digits-lt x y p r s below low), less x y below) refl
        | inr above ↦ rw (greater (x * p + r) (y * p + s) (digits-lt y x p s r above other_low), greater x y above) refl
      ]
    ]

pub leading-order : (n : ℕ) (bytes others : List ℕ) → IsBytes bytes → IsBytes others →
    ordering_then (nat_cmp (leading n bytes) (leading n others)) (slice_cmp nat_cmp bytes others) ≡ slice_cmp nat_cmp bytes others
unfolding leading
leading-order zero bytes others are too = refl
leading-order (suc n) [] [] are too = refl
leading-order (suc n) [] (other ∷ others) are too = below_zero (other * 256 ^ n + leading n others)
leading-order (suc n) (byte ∷ bytes) [] are too = above_zero (byte * 256 ^ n + leading n bytes)
leading-order (suc n) (byte ∷ bytes) (other ∷ others) are too =
    let are_rest = IsBytes-rest byte bytes are in
    let too_rest = IsBytes-rest other others too in
    digits byte other (256 ^ n) (leading n bytes) (leading n others) (slice_cmp nat_cmp bytes others)
    (leading-lt n bytes are_rest) (leading-lt n others too_rest) (leading-order n bytes others are_rest too_rest)

-- of names with equal ends the longer one is the greater one
leading-length : (n : ℕ) (bytes others : List ℕ) → IsBytes bytes → IsBytes others → leading n bytes ≡ leading n others →
    ordering_then (nat_cmp (min (length bytes) (suc n)) (min (length others) (suc n))) (slice_cmp nat_cmp bytes others)
    ≡ slice_cmp nat_cmp bytes others
unfolding leading
leading-length n [] [] are too same = rw (equal (min 0 (suc n)) (min 0 (suc n)) refl) refl
leading-length n [] (other ∷ others) are too same =
    rw (less (min 0 (suc n)) (min (length (other ∷ others)) (suc n)) (omega arith)) refl
leading-length n (byte ∷ bytes) [] are too same =
    rw (greater (min (length (byte ∷ bytes)) (suc n)) (min 0 (suc n)) (omega arith)) refl
leading-length zero (byte ∷ bytes) (other ∷ others) are too same =
    rw (equal (min (length (byte ∷ bytes)) 1) (min (length (other ∷ others)) 1) (omega arith)) refl
leading-length (suc n) (byte ∷ bytes) (other ∷ others) are too same =
    let are_rest = IsBytes-rest byte bytes are in
    let too_rest = IsBytes-rest other others too in
    let (first, rest) = same_digits byte other (256 ^ n) (leading n bytes) (leading n others)
    (leading-lt n bytes are_rest) (leading-lt n others too_rest) same in
    let shorter = leading-length n bytes others are_rest too_rest rest in
    let few = min (length bytes) (suc n) in
    let other_few = min (length others) (suc n) in
    let more : min (length (byte ∷ bytes)) (suc (suc n)) ≡ 1 + few = omega arith in
    let other_more : min (length (other ∷ others)) (suc (suc n)) ≡ 1 + other_few = omega arith in
    rw (more, other_more, added 1 few other_few, equal byte other first) shorter

-- the order of the numbers is that of the names, read from the end on
number-order : (bytes others : List ℕ) → IsBytes bytes → IsBytes others →
    ordering_then (nat_cmp (leading 7 bytes * 256 + min (length bytes) 8) (leading 7 others * 256 + min (length others) 8))
    (slice_cmp nat_cmp bytes others) ≡ slice_cmp nat_cmp bytes others
number-order bytes others are too =
    let x = leading 7 bytes in
    let y = leading 7 others in
    let r = min (length bytes) 8 in
    let s = min (length others) 8 in
    let low : r < 256 = omega arith in
    let other_low : s < 256 = omega arith in
    let o = slice_cmp nat_cmp bytes others in
    let by_ends = leading-order 7 bytes others are too in
    elim (cases_order x y) [
      | inl same ↦
          let P : ℕ → Type 0 = λ z. ordering_then (nat_cmp (x * 256 + r) (z * 256 + s)) o ≡ o in
          subst P same (rw (added (x * 256) r s) (leading-length 7 bytes others are too same))
      | inr other ↦ elim other [
        | inl below ↦ rw (less (x * 256 + r) (y * 256 + s) (digits-lt x y 256 r s below low))
            (ap (λ (p : Ordering). ordering_then p o) (sym (less x y below)) ∙ by_ends)
        | inr above ↦ rw (greater (x * 256 + r) (y * 256 + s) (digits-lt y x 256 s r above other_low))
            (ap (λ (p : Ordering). ordering_then p o) (sym (greater x y above)) ∙ by_ends)
      ]
    ]

-- names of one length up to n are known by their numbers
leading-same : (n : ℕ) (bytes others : List ℕ) → IsBytes bytes → IsBytes others → length bytes ≡ length others → length bytes ≤ n →
    leading n bytes ≡ leading n others → bytes ≡ others
unfolding leading
leading-same n [] [] are too long within same = refl
leading-same n [] (other ∷ others) are too long within same = absurd (omega arith)
leading-same n (byte ∷ bytes) [] are too long within same = absurd (omega arith)
leading-same zero (byte ∷ bytes) (other ∷ others) are too long within same = absurd (omega arith)
leading-same (suc n) (byte ∷ bytes) (other ∷ others) are too long within same =
    let are_rest = IsBytes-rest byte bytes are in
    let too_rest = IsBytes-rest other others too in
    let (first, rest) = same_digits byte other (256 ^ n) (leading n bytes) (leading n others)
    (leading-lt n bytes are_rest) (leading-lt n others too_rest) same in
    ap₂ (λ (x : ℕ) (xs : List ℕ). x ∷ xs) first
    (leading-same n bytes others are_rest too_rest (omega arith) (omega arith) rest)

-- ---- what the numbers are made of

abbrev zeros : ℕ → List ℕ
zeros k = replicate k 0

leading-nil : (n : ℕ) → leading n [] ≡ 0
unfolding leading
leading-nil zero = refl
leading-nil (suc n) = refl

leading-zeros : (n k : ℕ) → leading n (zeros k) ≡ 0
unfolding leading
leading-zeros zero k = refl
leading-zeros (suc n) zero = refl
leading-zeros (suc n) (suc k) = let rest = leading-zeros n k in omega arith

-- zeros after the bytes do not count
leading-closed : (n : ℕ) (bytes : List ℕ) (k : ℕ) → leading n (bytes ++ zeros k) ≡ leading n bytes
unfolding leading
leading-closed n [] k = leading-zeros n k ∙ sym (leading-nil n)
leading-closed zero (byte ∷ bytes) k = refl
leading-closed (suc n) (byte ∷ bytes) k = ap (λ (x : ℕ). byte * 256 ^ n + x) (leading-closed n bytes k)

-- nor does anything after n bytes
leading-append : (n : ℕ) (bytes rest : List ℕ) → n ≤ length bytes → leading n (bytes ++ rest) ≡ leading n bytes
unfolding leading
leading-append zero bytes rest long = refl
leading-append (suc n) [] rest long = absurd (omega arith)
leading-append (suc n) (byte ∷ bytes) rest long =
    ap (λ (x : ℕ). byte * 256 ^ n + x) (leading-append n bytes rest (omega arith))

reverse-zeros : (k : ℕ) → reverse (zeros k) ≡ zeros k
reverse-zeros zero = refl
reverse-zeros (suc k) =
    let first : List ℕ = 0 ∷ [] in
    reverse-append first (zeros k) ∙ ap (λ (xs : List ℕ). xs ++ 0 ∷ []) (reverse-zeros k)
    ∙ replicate_more k 0 ∙ ap zeros (add-one k)

-- the first bytes of a little-endian number
worth : (k : ℕ) (bytes : List ℕ) → k < length bytes →
    sum_through (λ i. byte_worth i (get_or bytes i 0)) k ≡ leading (suc k) (reverse (take (suc k) bytes))
unfolding leading
worth zero [] within = absurd (omega arith)
worth zero (byte ∷ bytes) within = omega arith
worth (suc k) bytes within =
    let before = worth k bytes (omega arith) in
    let more : take (suc (suc k)) bytes ≡ take (suc k) bytes ++ get_or bytes (suc k) 0 ∷ [] =
    ap (λ (n : ℕ). take n bytes) (sym (add-one (suc k))) ∙ take_more bytes (suc k) 0 within in
    let turned : reverse (take (suc (suc k)) bytes) ≡ get_or bytes (suc k) 0 ∷ reverse (take (suc k) bytes) =
    ap reverse more ∙ reverse-append (take (suc k) bytes) (get_or bytes (suc k) 0 ∷ []) in
    rw turned (omega arith)

number-is : (bytes : List ℕ) → length bytes ≡ 8 → from_le_bytes w64 bytes ≡ leading 8 (reverse bytes)
number-is bytes eight =
    worth 7 bytes (omega arith) ∙ ap (λ (xs : List ℕ). leading 8 (reverse xs)) (take_all 8 bytes (omega arith))

-- a digit more
last_digit : (n : ℕ) (bytes : List ℕ) (digit : ℕ) → length bytes ≡ n → leading (suc n) (bytes ++ digit ∷ []) ≡ leading n bytes * 256 + digit
unfolding leading
last_digit zero [] digit many = omega arith
last_digit zero (byte ∷ bytes) digit many = absurd (omega arith)
last_digit (suc n) [] digit many = absurd (omega arith)
last_digit (suc n) (byte ∷ bytes) digit many =
    let rest = last_digit n bytes digit (omega arith) in
    omega (arith, rest, ap (λ (p : ℕ). byte * p) (pow-succ' 256 n))

-- of the last seven bytes of a name, or of all of them, the others make no difference
last_ones : (name : List ℕ) (m : ℕ) → m ≡ length name - 7 → leading 7 (reverse (drop m name)) ≡ leading 7 (reverse name)
last_ones name zero is = refl
last_ones name (suc m) is =
    let parts : reverse name ≡ reverse (drop (suc m) name) ++ reverse (take (suc m) name) =
    ap reverse (sym (take-append-drop (suc m) name)) ∙ reverse-append (take (suc m) name) (drop (suc m) name) in
    let long : 7 ≤ length (reverse (drop (suc m) name)) = simp (length-reverse, length-drop) (omega arith) in
    sym (ap (leading 7) parts ∙ leading-append 7 (reverse (drop (suc m) name)) (reverse (take (suc m) name)) long)

-- the last bytes after the length and zeros, eight in all
closed_end : (name tail : List ℕ) (k : ℕ) → k + length tail ≡ 7 → tail ≡ drop (length name - length tail) name →
    length tail ≡ min (length name) 7 → from_le_bytes w64 (min (length name) 8 ∷ (zeros k ++ tail)) ≡ end_number name
closed_end name tail k long is count =
    let digit = min (length name) 8 in
    let seven : length (zeros k ++ tail) ≡ 7 = simp (length-append, length-replicate) long in
    let turned : reverse (zeros k ++ tail) ≡ reverse tail ++ zeros k =
    reverse-append (zeros k) tail ∙ ap (λ (xs : List ℕ). reverse tail ++ xs) (reverse-zeros k) in
    let ends : leading 7 (reverse (zeros k ++ tail)) ≡ leading 7 (reverse name) =
    ap (leading 7) turned ∙ leading-closed 7 (reverse tail) k ∙ ap (λ (xs : List ℕ). leading 7 (reverse xs)) is
    ∙ last_ones name (length name - length tail) (omega arith) in
    number-is (digit ∷ (zeros k ++ tail)) (omega arith)
    ∙ ap (leading 8) (reverse-append (digit ∷ []) (zeros k ++ tail))
    ∙ last_digit 7 (reverse (zeros k ++ tail)) digit (length-reverse (zeros k ++ tail) ∙ seven)
    ∙ ap (λ (n : ℕ). n * 256 + digit) ends

-- as a write over the last of the zeros leaves them
after_zeros : (a : ℕ) (digit : ℕ) (written : List ℕ) → a ≤ 7 →
    put_mid (suc a) (8 - suc a) (digit ∷ zeros 7) written ≡ digit ∷ (zeros a ++ written)
after_zeros a digit written within =
    let short : length (drop a (zeros 7)) ≤ 8 - suc a = simp (length-drop, length-replicate) (omega arith) in
    let none_left : post_of (suc a) (8 - suc a) (digit ∷ zeros 7) ≡ [] = drop_all (8 - suc a) (drop a (zeros 7)) short in
    let front : take a (zeros 7) ≡ zeros a = take-replicate a 7 0 within in
    rw (none_left, append-nil, front) refl

pub padded_end : (name written : List ℕ) (count digit : ℕ) → count ≡ min (length name) 7 → digit ≡ min (length name) 8 →
    written ≡ take (length name - (length name - count)) (drop (length name - count) name) →
    from_le_bytes w64 (put_mid (8 - count) (8 - (8 - count)) (digit ∷ zeros 7) written) ≡ end_number name
padded_end name written count digit is digit_is made =
    let all : written ≡ drop (length name - count) name = made ∙ take_rest name (length name - count) in
    let long : length written ≡ count = ap length all ∙ length-drop (length name - count) name ∙ omega arith in
    let ends : written ≡ drop (length name - length written) name = rw long all in
    let one : 8 - count ≡ suc (7 - count) = omega arith in
    rw (one, after_zeros (7 - count) digit written (omega arith), digit_is)
    (closed_end name written (7 - count) (omega arith) ends (omega arith))

-- ---- the number of a tail, and of a whole name

-- a name of eight bytes or more has the number of each name that ends with it
pub tail_number : (name other : List ℕ) → IsSuffix name other → (end_number name ≡ end_number other) ⊎ (end_number name % 256 < 8)
tail_number name other (front, is) = elim (cases_lt (length name) 8) [
  | inl few ↦ inr (omega arith)
  | inr long ↦
      let many : 7 ≤ length (reverse name) = omega (arith, length-reverse name) in
      let turned : reverse other ≡ reverse name ++ reverse front = ap reverse is ∙ reverse-append front name in
      let ends : leading 7 (reverse other) ≡ leading 7 (reverse name) =
      ap (leading 7) turned ∙ leading-append 7 (reverse name) (reverse front) many in
      inl (omega (arith, ap length is, length-append front name))
]

-- names of one number are equal, if it says the whole name
same_whole : (name other : List ℕ) → IsBytes (reverse name) → IsBytes (reverse other) → end_number name ≡ end_number other →
    end_number name % 256 < 8 → reverse name ≡ reverse other
same_whole name other are too same whole =
    let (ends, lengths) =
    same_digits (leading 7 (reverse name)) (leading 7 (reverse other)) 256 (min (length name) 8) (min (length other) 8)
    (omega arith) (omega arith) same in
    leading-same 7 (reverse name) (reverse other) are too (omega (arith, length-reverse name, length-reverse other))
    (omega (arith, length-reverse name)) ends

-- ---- ends in common

same_beginning : (bytes xs ys : List ℕ) → slice_cmp nat_cmp (bytes ++ xs) (bytes ++ ys) ≡ slice_cmp nat_cmp xs ys
same_beginning [] xs ys = refl
same_beginning (byte ∷ bytes) xs ys = rw (equal byte byte refl) (same_beginning bytes xs ys)

pub without_equal_ends : (name other rest other_rest : List ℕ) → AreWithoutEqualEnds name other rest other_rest →
    slice_cmp nat_cmp (reverse rest) (reverse other_rest) ≡ slice_cmp nat_cmp (reverse name) (reverse other)
without_equal_ends name other rest other_rest are =
    let whole : reverse name ≡ reverse are.ending ++ reverse rest = ap reverse are.name_is ∙ reverse-append rest are.ending in
    let other_whole : reverse other ≡ reverse are.ending ++ reverse other_rest =
    ap reverse are.other_is ∙ reverse-append other_rest are.ending in
    rw (whole, other_whole) (sym (same_beginning (reverse are.ending) (reverse rest) (reverse other_rest)))

-- ---- the order by the numbers first

IsBytes-reverse : (bytes : List ℕ) → IsBytes bytes → IsBytes (reverse bytes)
IsBytes-reverse bytes are i = elim (cases_lt i (length bytes)) [
  | inl within ↦ subst (λ (x : ℕ). x < 256) (sym (get_or-reverse bytes i 0 within)) (are (length bytes - 1 - i))
  | inr past ↦
      let none : get_or (reverse bytes) i 0 ≡ 0 = get_or_past (reverse bytes) i 0 (omega (arith, length-reverse bytes)) in
      omega arith
]

-- of equal numbers: what is left is in the order of the names
left_decides : (names : List (List ℕ)) (it other : Numbered) → HasEnd names it → HasEnd names other → other.end ≡ it.end →
    (whole : Bool) → is_whole it.end ≡ whole →
    slice_cmp nat_cmp (reverse (left_of names other)) (reverse (left_of names it))
    ≡ slice_cmp nat_cmp (reverse (get_or names other.index [])) (reverse (get_or names it.index []))
left_decides names it other end other_end same true is =
    let name : List ℕ = get_or names it.index [] in
    let other_name : List ℕ = get_or names other.index [] in
    let other_is : is_whole other.end ≡ true = ap is_whole same ∙ is in
    let digit : it.end % 256 < 8 = grind (arith, nat_tests) in
    let equal_names : reverse other_name ≡ reverse name =
    same_whole other_name name (IsBytes-reverse other_name other_end.bytes) (IsBytes-reverse name end.bytes)
    (sym other_end.number ∙ same ∙ end.number) (omega (arith, other_end.number)) in
    rw (is, other_is)
    (sym (ap (λ (xs : List ℕ). slice_cmp nat_cmp xs (reverse name)) equal_names ∙ tied_itself nat_list_cmp_total (reverse name)))
left_decides names it other end other_end same false is =
    let other_is : is_whole other.end ≡ false = ap is_whole same ∙ is in
    rw (is, other_is) refl

-- the order by the numbers first is that of the names
pub end_decides : (names : List (List ℕ)) (it other : Numbered) → HasEnd names it → HasEnd names other →
    numbered_order names it other ≡ ends_order (get_or names it.index []) it.index (get_or names other.index []) other.index
end_decides names it other end other_end =
    let name : List ℕ = get_or names it.index [] in
    let other_name : List ℕ = get_or names other.index [] in
    let by_names = slice_cmp nat_cmp (reverse other_name) (reverse name) in
    let by_index = nat_cmp it.index other.index in
    let ordered : ordering_then (nat_cmp other.end it.end) by_names ≡ by_names =
    rw (end.number, other_end.number, sym (length-reverse name), sym (length-reverse other_name))
    (number-order (reverse other_name) (reverse name) (IsBytes-reverse other_name other_end.bytes) (IsBytes-reverse name end.bytes)) in
    elim (cases_order other.end it.end) [
      | inl same ↦ rw (equal other.end it.end same, left_decides names it other end other_end same (is_whole it.end) refl) refl
      | inr unlike ↦ elim unlike [
        | inl below ↦
            let first : by_names ≡ Less = sym ordered ∙ ap (λ (o : Ordering). ordering_then o by_names) (less other.end it.end below) in
            rw (less other.end it.end below, first) refl
        | inr above ↦
            let first : by_names ≡ Greater =
            sym ordered ∙ ap (λ (o : Ordering). ordering_then o by_names) (greater other.end it.end above) in
            rw (greater other.end it.end above, first) refl
      ]
    ]

abbrev name_of : List (List ℕ) → Numbered → List ℕ
name_of names it = get_or names it.index []

abbrev index_of : Numbered → ℕ
index_of it = it.index

abbrev nothing : Numbered
nothing = record { index = 0; end = 0 }

named_there : (names : List (List ℕ)) (xs : List Numbered) (q : ℕ) → q < length xs →
    get_or names (get_or (indexes_in xs) q 0) [] ≡ get_or (names_by_ends names xs) q []
named_there names xs q lt =
    ap (λ (i : ℕ). get_or names i []) (get_or-map index_of xs q nothing 0 lt) ∙ sym (get_or-map (name_of names) xs q nothing [] lt)

-- ---- in the order of the list

-- the names below an index, with their indexes
pub record AreNumberedTo (names : List (List ℕ)) (i : ℕ) (numbered : List Numbered) : Type 0 where
  pub as_many : length numbered ≡ i
  pub indexes : (k : ℕ) → k < i → get_or (indexes_in numbered) k 0 ≡ k
  pub ends : All (HasEnd names) numbered

-- one name more
pub numbered_more : (names : List (List ℕ)) (i : ℕ) (numbered : List Numbered) (it : Numbered) → it.index ≡ i → HasEnd names it →
    AreNumberedTo names i numbered → AreNumberedTo names (i + 1) (numbered ++ it ∷ [])
numbered_more names i numbered it index end so_far =
    let many = so_far.as_many in
    let indexes_many = length-map numbered index_of in
    record {
      as_many = length-append numbered (it ∷ []) ∙ ap (λ (n : ℕ). n + 1) many;
      indexes = λ k lt. rw (map-append index_of numbered (it ∷ []))
          (elim (cases_lt k i) [
            | inl below ↦ get_or_append_left (indexes_in numbered) (it.index ∷ []) 0 k (omega arith) ∙ so_far.indexes k below
            | inr above ↦ (let is : k - i ≡ 0 = omega arith in
                get_or-append_right (indexes_in numbered) (it.index ∷ []) i k 0 (omega arith) above
                ∙ ap (λ (q : ℕ). get_or (it.index ∷ []) q 0) is ∙ omega arith)
          ]);
      ends = All-push (HasEnd names) numbered it so_far.ends end;
    }

pub numbered_all : (names : List (List ℕ)) (numbered : List Numbered) → AreNumberedTo names (length names) numbered →
    AreNumbered names (names_by_ends names numbered) (indexes_in numbered)
numbered_all names numbered are =
    let name_count : length (names_by_ends names numbered) ≡ length names = length-map numbered (name_of names) ∙ are.as_many in
    let long : length numbered ≡ length names = are.as_many in
    record {
      as_many = name_count;
      all = length-map numbered index_of ∙ are.as_many;
      below = λ q lt. let is = are.indexes q (omega arith) in omega arith;
      named = λ q lt. named_there names numbered q (omega arith);
      each = λ i lt. (i, omega arith, are.indexes i lt);
      once = λ i j d less lt same.
          (let long_indexes = length-map numbered index_of in
          let at_i = get_or_default (indexes_in numbered) i d 0 (omega arith) ∙ are.indexes i (omega arith) in
          let at_j = get_or_default (indexes_in numbered) j d 0 lt ∙ are.indexes j (omega arith) in
          absurd (omega arith));
    }

-- ---- another order

-- the index of a name of a list
abbrev IsIndexIn : List (List ℕ) → Numbered → Type 0
IsIndexIn names it = it.index < length names

each_index : (names : List (List ℕ)) (xs : List Numbered) → AreNumbered names (names_by_ends names xs) (indexes_in xs) →
    All (IsIndexIn names) xs
each_index names xs are = λ k d lt.
    let within : k < length (names_by_ends names xs) = omega (arith, length-map xs (name_of names)) in
    subst (λ (i : ℕ). i < length names) (get_or-map index_of xs k d 0 lt) (are.below k within)

pub numbered_permuted : (names : List (List ℕ)) (xs ys : List Numbered) → IsPermutation xs ys →
    AreNumbered names (names_by_ends names xs) (indexes_in xs) → AreNumbered names (names_by_ends names ys) (indexes_in ys)
numbered_permuted names xs ys moved are =
    let each = All-permutation (IsIndexIn names) xs ys moved (each_index names xs are) in
    let same : length ys ≡ length xs = length_permutation xs ys moved in
    let long = length-map xs (name_of names) in
    let long_names = length-map ys (name_of names) in
    let long_indexes = length-map ys index_of in
    let many = are.as_many in
    record {
      as_many = omega arith;
      all = omega arith;
      below = λ q lt.
          let within : q < length ys = omega arith in
          subst (λ (i : ℕ). i < length names) (sym (get_or-map index_of ys q nothing 0 within)) (each q nothing within);
      named = λ q lt. named_there names ys q (omega arith);
      each = λ i lt.
          let (q, within, is) = are.each i lt in
          let within_xs : q < length xs = omega arith in
          let it : Numbered = get_or xs q nothing in
          let there : Contains xs it = (q, within_xs, get_or_default xs q it nothing within_xs) in
          let (r, below, at) = Contains-permutation xs ys it moved there in (
            r,
            omega arith,
            get_or-map index_of ys r it 0 below ∙ ap index_of at ∙ sym (get_or-map index_of xs q nothing 0 within_xs) ∙ is,
          );
      once = AllPairs-from_IsDistinct Decides-eqb (indexes_in ys)
          (IsDistinct-IsPermutation nat_eq (λ x y. grind (arith, nat_tests)) (indexes_in xs) (indexes_in ys)
          (IsPermutation-map index_of xs ys moved)
          (IsDistinct-from_AllPairs Decides-eqb (indexes_in xs) are.once));
    }

-- ---- sorted

abbrev turned : List (List ℕ) → Numbered → List ℕ
turned names it = reverse (left_of names it)

pub numbered_total : (names : List (List ℕ)) → IsTotalOrder (numbered_order names)
numbered_total names =
    let end_of : Numbered → ℕ = λ it. it.end in
    then_total (on_total end_of (back_total nat_cmp_total))
    (then_total (on_total (turned names) (back_total nat_list_cmp_total)) (on_total index_of nat_cmp_total))

pub numbered_in_order : (names : List (List ℕ)) (sorted : List Numbered) → All (HasEnd names) sorted →
    IsSortedBy (λ a b. is_lt (numbered_order names a b)) sorted → AreInEndsOrder (names_by_ends names sorted) (indexes_in sorted)
numbered_in_order names sorted ends up = λ q r le lt.
    let within : r < length sorted = omega (arith, length-map sorted (name_of names)) in
    let q_within : q < length sorted = omega arith in
    let far = sorted_far (λ a b. is_lt (numbered_order names a b))
    (ranks_by (numbered_total names) (λ it. it)) sorted up q r nothing le within in
    let later : Numbered = get_or sorted r nothing in
    let earlier : Numbered = get_or sorted q nothing in
    let by_names = end_decides names later earlier (ends r nothing within) (ends q nothing q_within) in
    rw (
      get_or-map (name_of names) sorted r nothing [] within,
      get_or-map index_of sorted r nothing 0 within,
      get_or-map (name_of names) sorted q nothing [] q_within,
      get_or-map index_of sorted q nothing 0 q_within,
    )
    (ap is_lt (sym by_names) ∙ far)
