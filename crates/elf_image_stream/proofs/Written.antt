-- Bytes that are written piece by piece. After k pieces exactly these are written. If the next piece fails, its first bytes follow, so what
-- is written is a beginning of all, and its count is the sum of both.
use Rattle.std.proofs.Common.{◌≡◌, ◌<◌, ◌≤◌, ◌+◌, ℕ, List, length, take, drop, get_or, sym, ◌∙◌, arith, [], ◌∷◌, ◌++◌, Option, ap, subst}
use Rattle.std.proofs.Common.{length-append, ◌^◌, Result, Ok, Err, take_all, refl, zero-add}
use Rattle.std.proofs.lemmas.List.{append-nil, length-replicate, replicate-append-replicate, take-append-drop, take-append-le}
use Rattle.std.proofs.lemmas.List.{take-replicate, take_more}
use Rattle.std.specs.Prelude.{replicate}
use Rattle.std.specs.List.{flat_map, range_with_len}
use Rattle.std.specs.Io.KnownBytes.{Appends}
use Rattle.std.proofs.KnownBytes.{Appends-trans, Appends-nil}
use Rattle.std.proofs.Math.Seq.{take-append-add}
use Rattle.std.proofs.lemmas.Grind.{flat_map-append}
use Rattle.std.proofs.lemmas.List.FromFn.{get_or-range_with_len, length-range_with_len}
use Rattle.elf_image_stream.specs.Output.{Sends, StoppedIn, WentOut}
use Rattle.elf_image_stream.specs.declared.fault.WriteFault.{WriteFault}

-- ---- zeros

pub zeros_ok : (m n : ℕ) (a b c : Option (List ℕ)) (ys : List ℕ) → ys ≡ replicate n 0 → Appends a b (replicate m 0) → Appends b c ys →
    Appends a c (replicate (m + n) 0)
zeros_ok m n a b c ys here before went =
    subst (λ (s : List ℕ). Appends a c s) (ap (λ (s : List ℕ). replicate m 0 ++ s) here ∙ replicate-append-replicate {A = ℕ} m n 0)
    (Appends-trans a b c (replicate m 0) ys before went)

pub zeros_err : (count m size n : ℕ) (a b c : Option (List ℕ)) (ys : List ℕ) → m + size ≤ count → ys ≡ replicate size 0 →
    Appends a b (replicate m 0) →
    (n < length ys) × Appends b c (take n ys) →
    (m + n < length {A = ℕ} (replicate count 0)) × Appends a c (take (m + n) (replicate count 0))
zeros_err count m size n a b c ys within here before failed =
    let long = length-replicate {A = ℕ} count 0 in
    let short : length ys ≡ size = ap (λ (s : List ℕ). length s) here ∙ length-replicate {A = ℕ} size 0 in
    let below = failed.0 in
    let some : take n ys ≡ replicate n 0 = ap (take n) here ∙ take-replicate n size 0 (omega arith) in
    let first = take-replicate (m + n) count 0 (omega arith) in
    (omega arith, subst (λ (s : List ℕ). Appends a c s) (sym first) (zeros_ok m n a b c (take n ys) some before failed.1))

-- Texts that are sent one after the other: after k texts these k, joined, are written (`chunk_out`). If one stops, a beginning of all texts
-- is written (`chunk_stopped`), by the laws of `take` and `++`. The count of a text that stopped is exact if the text has less than 2^64
-- bytes (`stopped_whole`).

pub nothing_out : (a : Option (List ℕ)) (out : ℕ) → out < 2 ^ 64 → WentOut a a out [] out
nothing_out a out fits = (omega arith, Appends-nil a)

pub both_out : (a b c : Option (List ℕ)) (out mid all : ℕ) (s t : List ℕ) → WentOut a b out s mid → WentOut b c mid t all →
    WentOut a c out (s ++ t) all
both_out a b c out mid all s t first second =
    let whole = length-append s t in
    let before = first.0 in
    let after = second.0 in
    (omega arith, Appends-trans a b c s t first.1 second.1)

pub stopped_later : (a b c : Option (List ℕ)) (out mid written : ℕ) (s t : List ℕ) → WentOut a b out s mid → StoppedIn b c mid t written →
    StoppedIn a c out (s ++ t) written
stopped_later a b c out mid written s t first (n, is, below, went) =
    let whole = length-append s t in
    let before = first.0 in (
      length s + n,
      omega arith,
      omega arith,
      subst (Appends a c) (sym (take-append-add s t n)) (Appends-trans a b c s (take n t) first.1 went),
    )

pub stopped_longer : (a c : Option (List ℕ)) (out written : ℕ) (s t : List ℕ) → StoppedIn a c out s written →
    StoppedIn a c out (s ++ t) written
stopped_longer a c out written s t (n, is, below, went) =
    let whole = length-append s t in
    (n, is, omega arith, subst (Appends a c) (sym (take-append-le n s t (omega arith))) went)

pub sends_after : (a b c : Option (List ℕ)) (out mid : ℕ) (s t : List ℕ) (result : Result ℕ WriteFault) → WentOut a b out s mid →
    Sends b c mid t result →
    Sends a c out (s ++ t) result
sends_after a b c out mid s t (Ok all) first second = both_out a b c out mid all s t first second
sends_after a b c out mid s t (Err fault) first second = stopped_later a b c out mid fault.written s t first second

-- the count is exact where the text is no longer than a count can report
pub stopped_whole : (a c : Option (List ℕ)) (text : List ℕ) (written : ℕ) → length text < 2 ^ 64 → StoppedIn a c 0 text written
    → (written < length text) × Appends a c (take written text)
stopped_whole a c text written short (n, is, below, went) =
    let same : n ≡ written = omega arith in
    subst (λ (k : ℕ). (k < length text) × Appends a c (take k text)) same (below, went)

pub stopped_exactly : (a c : Option (List ℕ)) (text : List ℕ) (written : ℕ) → written < 2 ^ 64 → written < length text →
    Appends a c (take written text)
    → StoppedIn a c 0 text written
stopped_exactly a c text written fits below went = (written, omega arith, below, went)

-- ---- numbers below an end

pub is_index : (i end n : ℕ) → i < end → end ≡ n → i < length (range_with_len 0 n)
is_index i end n below same = let long = length-range_with_len 0 n in omega arith

pub no_index : (i end n : ℕ) → end ≤ i → end ≡ n → length (range_with_len 0 n) ≤ i
no_index i end n past same = let long = length-range_with_len 0 n in omega arith

pub line_at : (f : ℕ → List ℕ) (i end n : ℕ) (line : List ℕ) → i < end → end ≡ n → line ≡ f i → line ≡ f (get_or (range_with_len 0 n) i 0)
line_at f i end n line below same is = is ∙ ap f (sym (get_or-range_with_len 0 n i 0 (omega arith) ∙ zero-add i))

-- ---- text by text

module _ (f : ℕ → List ℕ) (j end n : ℕ) (a b c : Option (List ℕ)) (out mid : ℕ) (below : j < end) (count : end ≡ n)
    (before : WentOut a b out (flat_map f (take j (range_with_len 0 n))) mid) where
  xs : List ℕ
  xs = range_with_len 0 n

  more : flat_map f (take (j + 1) xs) ≡ flat_map f (take j xs) ++ f j
  unfolding xs
  more =
      ap (flat_map f) (take_more xs j 0 (is_index j end n below count)) ∙ flat_map-append f (take j xs) (get_or xs j 0 ∷ [])
      ∙ ap (λ (s : List ℕ). flat_map f (take j xs) ++ s) (append-nil (f (get_or xs j 0)) ∙ sym (line_at f j end n (f j) below count refl))

  pub chunk_out : (all : ℕ) → WentOut b c mid (f j) all → WentOut a c out (flat_map f (take (j + 1) (range_with_len 0 n))) all
  unfolding xs
  chunk_out all next =
      subst (λ (s : List ℕ). WentOut a c out s all) (sym more) (both_out a b c out mid all (flat_map f (take j xs)) (f j) before next)

  pub chunk_stopped : (written : ℕ) → StoppedIn b c mid (f j) written → StoppedIn a c out (flat_map f (range_with_len 0 n)) written
  unfolding xs
  chunk_stopped written stop =
      let all : flat_map f xs ≡ flat_map f (take (j + 1) xs) ++ flat_map f (drop (j + 1) xs) =
      ap (flat_map f) (sym (take-append-drop (j + 1) xs)) ∙ flat_map-append f (take (j + 1) xs) (drop (j + 1) xs) in
      subst (λ (s : List ℕ). StoppedIn a c out s written) (sym all)
      (stopped_longer a c out written (flat_map f (take (j + 1) xs)) (flat_map f (drop (j + 1) xs))
      (subst (λ (s : List ℕ). StoppedIn a c out s written) (sym more)
      (stopped_later a b c out mid written (flat_map f (take j xs)) (f j) before stop)))

pub chunks_out : (f : ℕ → List ℕ) (j end n : ℕ) (a b : Option (List ℕ)) (out all : ℕ) → end ≤ j → end ≡ n →
    WentOut a b out (flat_map f (take j (range_with_len 0 n))) all → WentOut a b out (flat_map f (range_with_len 0 n)) all
chunks_out f j end n a b out all past count went =
    subst (λ (xs : List ℕ). WentOut a b out (flat_map f xs) all) (take_all j (range_with_len 0 n) (no_index j end n past count)) went
