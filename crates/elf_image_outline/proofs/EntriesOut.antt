-- Entries of a table that are written several at a time. After k pieces exactly these are written. If the next piece fails, its first bytes
-- follow, so what is written is a beginning of all, and its count is the sum of both. In a buffer each record is put right after the
-- earlier ones.
use Rattle.std.proofs.Common.{◌≡◌, ◌<◌, ◌≤◌, ◌+◌, ℕ, List, length, take, drop, get_or, sym, ◌∙◌, arith, length-drop, ◌*◌, [], ◌∷◌, ◌++◌}
use Rattle.std.proofs.Common.{Option, ap, ap₂, subst, length-append, mul-le-mul_left}
use Rattle.std.proofs.lemmas.List.{get_or-drop, get_or-take, length-take-le, append-nil, drop_at, take-append-drop, take-append-le, take_at}
use Rattle.std.proofs.lemmas.List.{take_more}
use Rattle.std.specs.List.{flat_map}
use Rattle.std.specs.Io.KnownBytes.{Appends}
use Rattle.std.proofs.KnownBytes.{Appends-trans}
use Rattle.std.proofs.Math.Nat.{mul-add, mul-one}
use Rattle.std.proofs.Math.Seq.{take-add}
use Rattle.std.proofs.lemmas.Grind.{flat_map-append}
use Rattle.std.proofs.lemmas.Slice.{take-put_mid}
use borrow.Rule.Slice.PartMut.{put_mid}

-- Several entries of a table, from an index on.

pub length-several : {A : Type 0} (from several : ℕ) (entries : List A) → from + several ≤ length entries →
    length (take several (drop from entries)) ≡ several
length-several from several entries within =
    length-take-le several (drop from entries) (let rest = length-drop from entries in omega arith)

pub several_at : {A : Type 0} (from several i : ℕ) (entries : List A) (entry : A) → i < several → entry ≡ get_or entries (from + i) entry →
    entry ≡ get_or (take several (drop from entries)) i entry
several_at from several i entries entry within is =
    is ∙ sym (get_or-drop from entries i entry) ∙ sym (get_or-take several (drop from entries) i entry within)

-- a piece failed after bytes that are out
pub went_err : (a b c : Option (List ℕ)) (m n : ℕ) (xs ys zs : List ℕ) → length xs ≡ m → Appends a b xs →
    (n < length ys) × Appends b c (take n ys) → (m + n < length (xs ++ (ys ++ zs))) × Appends a c (take (m + n) (xs ++ (ys ++ zs)))
went_err a b c m n xs ys zs long before failed =
    let below = failed.0 in
    let all = length-append xs (ys ++ zs) in
    let rest = length-append ys zs in
    let first : take (m + n) (xs ++ (ys ++ zs)) ≡ xs ++ take n ys =
    take-add m n (xs ++ (ys ++ zs)) ∙
    ap₂ (λ (s t : List ℕ). s ++ t) (take_at xs (ys ++ zs) m long)
    (ap (take n) (drop_at xs (ys ++ zs) m long) ∙ take-append-le n ys zs (omega arith)) in
    (omega arith, subst (λ (s : List ℕ). Appends a c s) (sym first) (Appends-trans a b c xs (take n ys) before failed.1))

-- ---- lists of things that have bytes

flat_split : {A : Type 0} (f : A → List ℕ) (rs : List A) (k m : ℕ) →
    flat_map f rs ≡ flat_map f (take k rs) ++ (flat_map f (take m (drop k rs)) ++ flat_map f (drop m (drop k rs)))
flat_split f rs k m =
    ap (flat_map f) (sym (take-append-drop k rs)) ∙ flat_map-append f (take k rs) (drop k rs) ∙
    ap (λ (s : List ℕ). flat_map f (take k rs) ++ s)
    (ap (flat_map f) (sym (take-append-drop m (drop k rs))) ∙ flat_map-append f (take m (drop k rs)) (drop m (drop k rs)))

-- the next m of them failed after the first k
pub flat_err : {A : Type 0} (f : A → List ℕ) (rs : List A) (k m start n : ℕ) (a b c : Option (List ℕ)) (ys : List ℕ) →
    length (flat_map f (take k rs)) ≡ start → ys ≡ flat_map f (take m (drop k rs)) → Appends a b (flat_map f (take k rs)) →
    (n < length ys) × Appends b c (take n ys) → (start + n < length (flat_map f rs)) × Appends a c (take (start + n) (flat_map f rs))
flat_err f rs k m start n a b c ys long here before failed =
    let P : List ℕ → Type 0 = λ s. (start + n < length s) × Appends a c (take (start + n) s) in
    let later : (n < length (flat_map f (take m (drop k rs)))) × Appends b c (take n (flat_map f (take m (drop k rs)))) =
    subst (λ (s : List ℕ). (n < length s) × Appends b c (take n s)) here failed in
    subst P (sym (flat_split f rs k m))
    (went_err a b c start n (flat_map f (take k rs)) (flat_map f (take m (drop k rs))) (flat_map f (drop m (drop k rs))) long before later)

-- they went out
pub flat_ok : {A : Type 0} (f : A → List ℕ) (rs : List A) (k m : ℕ) (a b c : Option (List ℕ)) (ys : List ℕ) →
    ys ≡ flat_map f (take m (drop k rs)) → Appends a b (flat_map f (take k rs)) → Appends b c ys →
    Appends a c (flat_map f (take (k + m) rs))
flat_ok f rs k m a b c ys here before went =
    let both : flat_map f (take k rs) ++ ys ≡ flat_map f (take (k + m) rs) =
    ap (λ (s : List ℕ). flat_map f (take k rs) ++ s) here ∙ sym (flat_map-append f (take k rs) (take m (drop k rs))) ∙
    ap (flat_map f) (sym (take-add k m rs)) in
    subst (λ (s : List ℕ). Appends a c s) both (Appends-trans a b c (flat_map f (take k rs)) ys before went)

pub flat_more : {A : Type 0} (f : A → List ℕ) (rs : List A) (i : ℕ) (r : A) → i < length rs → r ≡ get_or rs i r →
    flat_map f (take (i + 1) rs) ≡ flat_map f (take i rs) ++ f r
flat_more f rs i r within is =
    ap (flat_map f) (take_more rs i r within ∙ ap (λ (e : _). take i rs ++ e ∷ []) (sym is)) ∙ flat_map-append f (take i rs) (r ∷ []) ∙
    ap (λ (s : List ℕ). flat_map f (take i rs) ++ s) (append-nil (f r))

pub length-put_mid : (a k : ℕ) (s new : List ℕ) → a + k ≤ length s → length new ≡ k → length (put_mid a k s new) ≡ length s
length-put_mid a k s new within long =
    let front = length-take-le a s (omega arith) in
    let rest = length-drop k (drop a s) in
    let back = length-drop a s in
    let one = length-append new (drop k (drop a s)) in
    let all = length-append (take a s) (new ++ drop k (drop a s)) in
    omega arith

next_place : (size i : ℕ) → size * (i + 1) ≡ size * i + size
next_place size i = let e = mul-add size i 1 in let f = mul-one size in omega arith

-- the bytes of a record lie in the slice of all of them
pub in_records : (size i n : ℕ) → i < n → size * i + size ≤ size * n
in_records size i n within = let next = next_place size i in let le : size * (i + 1) ≤ size * n = mul-le-mul_left size (omega arith) in
    omega arith

-- one more record after the ones before it
pub record_put : {A : Type 0} (f : A → List ℕ) (rs : List A) (size i k : ℕ) (s new : List ℕ) (r : A) → i < length rs → r ≡ get_or rs i r →
    length (f r) ≡ size →
    size * i ≤ length s → take (size * i) s ≡ flat_map f (take i rs) → new ≡ f r →
    take (size * (i + 1)) (put_mid (size * i) k s new) ≡ flat_map f (take (i + 1) rs)
record_put f rs size i k s new r within is long room front put =
    let next = next_place size i in
    let count : length new ≡ size = ap (λ (t : List ℕ). length t) put ∙ long in
    take-put_mid (size * i) k s new (size * (i + 1)) (omega arith) room ∙ ap₂ (λ (u t : List ℕ). u ++ t) front put ∙
    sym (flat_more f rs i r within is)
