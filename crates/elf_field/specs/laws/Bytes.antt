-- How numbers and their bytes go together, in both orders, and what first bytes are. A lemma that a contract names, or that such a
-- lemma uses, is here: the toolchain lets no file of `specs/` name one of `proofs/`.
use Rattle.std.specs.Prelude.{◌≡◌, ◌≤◌, ◌<◌, ◌+◌, ℕ, zero, suc, List, [], ◌∷◌, length, drop}
use Rattle.std.proofs.Common.{◌*◌, ◌^◌, ◌++◌, take, refl, sym, ap, ◌∙◌, inl, inr, arith, length-append, lit<}
use Rattle.std.proofs.Math.Nat.{add-mul, mod-lt, mul-le-mul_right}
use Rattle.std.proofs.lemmas.Bool.{cases_lt}
use Rattle.std.proofs.lemmas.List.{append-nil, get_or-drop, length-take-le, take_all, take_at}
use Rattle.std.specs.Int.{byte_at, bytes_high_first, bytes_low_first}
use Rattle.byteorder.specs.Endian.{big_from, little_from}
use Rattle.byteorder.specs.Numbers.{big_from-cons, big_from-lt, big_from-take, big_number-reads_back, length-bytes_high_first}
use Rattle.byteorder.specs.Numbers.{length-bytes_low_first, little_from-cons, little_from-lt, little_from-take, little_number-reads_back}
use Rattle.elf_field.specs.declared.number.Order.TheVariants.{Little, Big}
use Rattle.elf_field.specs.declared.number.Order.{Order}
use Rattle.elf_field.specs.Bytes.{IsBytes, first_bytes, num, bytes_of, from}

-- ---- lists of bytes

pub IsBytes-nil : IsBytes []
IsBytes-nil i = omega arith

pub IsBytes-cons : (a : ℕ) (b : List ℕ) → a < 256 → IsBytes b → IsBytes (a ∷ b)
IsBytes-cons a b small bytes zero = small
IsBytes-cons a b small bytes (suc i) = bytes i

pub IsBytes-rest : (a : ℕ) (b : List ℕ) → IsBytes (a ∷ b) → IsBytes b
IsBytes-rest a b bytes i = bytes (suc i)

pub IsBytes-append : (a b : List ℕ) → IsBytes a → IsBytes b → IsBytes (a ++ b)
IsBytes-append [] b p q = q
IsBytes-append (x ∷ a) b p q = IsBytes-cons x (a ++ b) (p 0) (IsBytes-append a b (IsBytes-rest x a p) q)

pub IsBytes-drop : (n : ℕ) (b : List ℕ) → IsBytes b → IsBytes (drop n b)
IsBytes-drop n b p i = let e = get_or-drop n b i 0 in let h = p (n + i) in omega arith

pub IsBytes-take : (n : ℕ) (b : List ℕ) → IsBytes b → IsBytes (take n b)
IsBytes-take zero b p = IsBytes-nil
IsBytes-take (suc n) [] p = IsBytes-nil
IsBytes-take (suc n) (a ∷ b) p = IsBytes-cons a (take n b) (p 0) (IsBytes-take n b (IsBytes-rest a b p))

-- ---- the first bytes of a list

pub length-first_bytes : (n : ℕ) (s : List ℕ) → length (first_bytes n s) ≡ n
unfolding first_bytes
length-first_bytes zero s = refl
length-first_bytes (suc n) [] = let e = length-first_bytes n [] in omega arith
length-first_bytes (suc n) (a ∷ s) = let e = length-first_bytes n s in omega arith

pub IsBytes-first_bytes : (n : ℕ) (s : List ℕ) → IsBytes s → IsBytes (first_bytes n s)
unfolding first_bytes
IsBytes-first_bytes zero s p = IsBytes-nil
IsBytes-first_bytes (suc n) [] p = IsBytes-cons 0 (first_bytes n []) (lit< tt) (IsBytes-first_bytes n [] p)
IsBytes-first_bytes (suc n) (a ∷ s) p = IsBytes-cons a (first_bytes n s) (p 0) (IsBytes-first_bytes n s (IsBytes-rest a s p))

-- where there are n bytes, these
pub first_bytes-take : (n : ℕ) (s : List ℕ) → n ≤ length s → first_bytes n s ≡ take n s
unfolding first_bytes
first_bytes-take zero s h = refl
first_bytes-take (suc n) [] h = absurd (omega arith)
first_bytes-take (suc n) (a ∷ s) h = ap (λ (t : List ℕ). a ∷ t) (first_bytes-take n s (omega arith))

pub first_bytes-append : (n : ℕ) (s t : List ℕ) → length s ≡ n → first_bytes n (s ++ t) ≡ s
first_bytes-append n s t long = first_bytes-take n (s ++ t) (let e = length-append s t in omega arith) ∙ take_at s t n long

pub first_bytes-all : (n : ℕ) (s : List ℕ) → length s ≡ n → first_bytes n s ≡ s
first_bytes-all n s long = first_bytes-take n s (omega arith) ∙ take_all n s (omega arith)

-- those of a part that reaches so far
pub first_bytes-part : (n m : ℕ) (s : List ℕ) → n ≤ m → first_bytes n (take m s) ≡ first_bytes n s
unfolding first_bytes
first_bytes-part zero m s h = refl
first_bytes-part (suc n) zero s h = absurd (omega arith)
first_bytes-part (suc n) (suc m) [] h = refl
first_bytes-part (suc n) (suc m) (a ∷ s) h = ap (λ (t : List ℕ). a ∷ t) (first_bytes-part n m s (omega arith))

-- ---- what a number's bytes are

byte_at-lt : (k x : ℕ) → byte_at k x < 256
byte_at-lt zero x = mod-lt x (omega arith)
byte_at-lt (suc k) x = mod-lt _ (omega arith)

IsBytes-low : (i n x : ℕ) → IsBytes (bytes_low_first i n x)
IsBytes-low i zero x = IsBytes-nil
IsBytes-low i (suc n) x = IsBytes-cons (byte_at i x) _ (byte_at-lt i x) (IsBytes-low (suc i) n x)

IsBytes-high : (n x : ℕ) → IsBytes (bytes_high_first n x)
IsBytes-high zero x = IsBytes-nil
IsBytes-high (suc n) x = IsBytes-cons (byte_at n x) _ (byte_at-lt n x) (IsBytes-high n x)

pub IsBytes-bytes_of : (o : Order) (w v : ℕ) → IsBytes (bytes_of o w v)
unfolding bytes_of
IsBytes-bytes_of Little w v = IsBytes-low 0 w v
IsBytes-bytes_of Big w v = IsBytes-high w v

pub length-bytes_of : (o : Order) (w v : ℕ) → length (bytes_of o w v) ≡ w
unfolding bytes_of
length-bytes_of Little w v = length-bytes_low_first 0 w v
length-bytes_of Big w v = length-bytes_high_first w v

-- ---- reading

-- a number is read back from its bytes
pub num-bytes_of : (o : Order) (w v : ℕ) (rest : List ℕ) → v < 256 ^ w → num o w (bytes_of o w v ++ rest) ≡ v
unfolding num bytes_of
num-bytes_of Little w v rest fits = little_number-reads_back w v rest fits
num-bytes_of Big w v rest fits = big_number-reads_back w v rest fits

pub num-lt : (o : Order) (w : ℕ) (s : List ℕ) → IsBytes s → num o w s < 256 ^ w
unfolding num
num-lt Little w s bytes = little_from-lt 0 w s bytes
num-lt Big w s bytes = big_from-lt 0 w s bytes

-- a number of w bytes reads no byte past them
pub num-take : (o : Order) (w m : ℕ) (s : List ℕ) → w ≤ m → num o w (take m s) ≡ num o w s
unfolding num
num-take Little w m s h = little_from-take 0 w m s (omega arith)
num-take Big w m s h = big_from-take 0 w m s (omega arith)

-- ---- two lists of n bytes that represent one number are one list

-- two numbers of two digits to the base p
digits : (p a b r q : ℕ) → r < p → q < p → a * p + r ≡ b * p + q → a ≡ b
digits p a b r q lr lq e =
    elim (cases_lt a b) [
      | inl below ↦ let h : (a + 1) * p ≤ b * p = mul-le-mul_right p (omega arith) in let k = add-mul a 1 p in absurd (omega arith)
      | inr above ↦ elim (cases_lt b a) [
        | inl below ↦ let h : (b + 1) * p ≤ a * p = mul-le-mul_right p (omega arith) in let k = add-mul b 1 p in absurd (omega arith)
        | inr equal ↦ omega arith
      ]
    ]

same_little : (n : ℕ) (s t : List ℕ) → length s ≡ n → length t ≡ n → IsBytes s → IsBytes t → little_from 0 n s ≡ little_from 0 n t → s ≡ t
same_little zero [] [] p q bs bt e = refl
same_little zero (a ∷ s) t p q bs bt e = absurd (omega arith)
same_little zero [] (b ∷ t) p q bs bt e = absurd (omega arith)
same_little (suc n) [] t p q bs bt e = absurd (omega arith)
same_little (suc n) (a ∷ s) [] p q bs bt e = absurd (omega arith)
same_little (suc n) (a ∷ s) (b ∷ t) p q bs bt e =
    let la = little_from-cons 0 n a s in
    let lb = little_from-cons 0 n b t in
    let sa = bs 0 in
    let sb = bt 0 in
    let front : a ≡ b = omega arith in
    let back : little_from 0 n s ≡ little_from 0 n t = omega arith in
    let rest = same_little n s t (omega arith) (omega arith) (IsBytes-rest a s bs) (IsBytes-rest b t bt) back in
    cc

same_big : (n : ℕ) (s t : List ℕ) → length s ≡ n → length t ≡ n → IsBytes s → IsBytes t → big_from 0 n s ≡ big_from 0 n t → s ≡ t
same_big zero [] [] p q bs bt e = refl
same_big zero (a ∷ s) t p q bs bt e = absurd (omega arith)
same_big zero [] (b ∷ t) p q bs bt e = absurd (omega arith)
same_big (suc n) [] t p q bs bt e = absurd (omega arith)
same_big (suc n) (a ∷ s) [] p q bs bt e = absurd (omega arith)
same_big (suc n) (a ∷ s) (b ∷ t) p q bs bt e =
    let la = big_from-cons 0 n a s in
    let lb = big_from-cons 0 n b t in
    let ls = big_from-lt 0 n s (IsBytes-rest a s bs) in
    let lt = big_from-lt 0 n t (IsBytes-rest b t bt) in
    let whole : a * 256 ^ n + big_from 0 n s ≡ b * 256 ^ n + big_from 0 n t =
    ap (λ (x : ℕ). a * 256 ^ n + x) (sym la) ∙ e ∙ ap (λ (x : ℕ). b * 256 ^ n + x) lb in
    let front : a ≡ b = digits (256 ^ n) a b (big_from 0 n s) (big_from 0 n t) ls lt whole in
    let top : a * 256 ^ n ≡ b * 256 ^ n = ap (λ (x : ℕ). x * 256 ^ n) front in
    let back : big_from 0 n s ≡ big_from 0 n t = omega arith in
    let rest = same_big n s t (omega arith) (omega arith) (IsBytes-rest a s bs) (IsBytes-rest b t bt) back in
    cc

same_bytes : (o : Order) (n : ℕ) (s t : List ℕ) → length s ≡ n → length t ≡ n → IsBytes s → IsBytes t → num o n s ≡ num o n t → s ≡ t
unfolding num
same_bytes Little n s t p q bs bt e = same_little n s t p q bs bt e
same_bytes Big n s t p q bs bt e = same_big n s t p q bs bt e

-- the bytes of the number that bytes represent are these bytes
pub bytes_of-num : (o : Order) (w : ℕ) (s : List ℕ) → IsBytes s → w ≤ length s → bytes_of o w (num o w s) ≡ take w s
bytes_of-num o w s bytes long =
    let again = num-bytes_of o w (num o w s) [] (num-lt o w s bytes) in
    let first = num-take o w w s (omega arith) in
    let made : num o w (bytes_of o w (num o w s)) ≡ num o w s = rw (append-nil (bytes_of o w (num o w s))) at again in
    same_bytes o w (bytes_of o w (num o w s)) (take w s) (length-bytes_of o w _) (length-take-le w s long) (IsBytes-bytes_of o w _)
    (IsBytes-take w s bytes) (made ∙ sym first)
