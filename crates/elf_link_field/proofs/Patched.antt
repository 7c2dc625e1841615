-- The bytes of a list with a number in a field, one by one.
use Rattle.std.proofs.Common.{arith, ◌≡◌, ◌∙◌, ap, ℕ, ◌+◌, ◌-◌, ◌≤◌, ◌<◌, ◌⊎◌, inl, inr, List, ◌++◌, drop, get_or, length, take, append-nil}
use Rattle.std.proofs.Common.{refl, ℤ}
use Rattle.std.proofs.lemmas.List.{get_or_append_left, get_or-append_right, get_or-drop, get_or-take, length-append, length-drop}
use Rattle.std.proofs.lemmas.List.{length-take-le, drop-drop, drop_all, take_rest}
use borrow.Rule.Slice.PartMut.{put_mid}
use Rattle.elf_field.specs.Bytes.{bytes_of}
use Rattle.elf_field.specs.laws.Bytes.{length-bytes_of}
use Rattle.elf_field.specs.declared.number.Order.{Order}
use Rattle.elf_link_field.specs.Field.{modulo, IsPatched, patched}

-- The n elements of a list from position x on are replaced by n others. The length stays, those positions have the new elements, and all
-- others the old ones. Each position is read in the part of the three joined ones that has it.

module _ {X : Type 0} (d : X) (b new : List X) (x n : ℕ) (within : x + n ≤ length b) (long : length new ≡ n) where
  front : length (take x b) ≡ x
  front = length-take-le x b (omega arith)

  pub between_long : length (take x b ++ (new ++ drop (x + n) b)) ≡ length b
  between_long =
      omega (
        arith,
        length-append (take x b) (new ++ drop (x + n) b),
        length-append new (drop (x + n) b),
        front,
        long,
        length-drop (x + n) b,
        within,
      )

  pub between_inside : (k : ℕ) → k < n → get_or (take x b ++ (new ++ drop (x + n) b)) (x + k) d ≡ get_or new k d
  between_inside k below =
      get_or-append_right (take x b) (new ++ drop (x + n) b) x (x + k) d front (omega arith)
      ∙ ap (λ i. get_or (new ++ drop (x + n) b) i d) (omega arith)
      ∙ get_or_append_left new (drop (x + n) b) d k (omega arith)

  between_before : (k : ℕ) → k < x → get_or (take x b ++ (new ++ drop (x + n) b)) k d ≡ get_or b k d
  between_before k below =
      get_or_append_left (take x b) (new ++ drop (x + n) b) d k (omega (arith, front)) ∙ get_or-take x b k d below

  between_after : (k : ℕ) → x + n ≤ k → get_or (take x b ++ (new ++ drop (x + n) b)) k d ≡ get_or b k d
  between_after k above =
      get_or-append_right (take x b) (new ++ drop (x + n) b) x k d front (omega arith)
      ∙ get_or-append_right new (drop (x + n) b) n (k - x) d long (omega arith)
      ∙ get_or-drop (x + n) b (k - x - n) d
      ∙ ap (λ i. get_or b i d) (omega arith)

  pub between_outside : (k : ℕ) → (k < x) ⊎ (x + n ≤ k) → get_or (take x b ++ (new ++ drop (x + n) b)) k d ≡ get_or b k d
  between_outside k (inl below) = between_before k below
  between_outside k (inr above) = between_after k above

-- A field that is written at the front of the rest of a slice.

pub put_front : (x n : ℕ) (b new after : List ℕ) → x ≤ length b → after ≡ new ++ drop n (take (length b - x) (drop x b)) →
    put_mid x (length b - x) b after ≡ take x b ++ (new ++ drop (x + n) b)
put_front x n b new after within is =
    rw (is, take_rest b x, drop-drop n x b, drop-drop (length b - x) x b, drop_all (x + (length b - x)) b (omega arith), append-nil) refl

pub is_patched : (o : Order) (b : List ℕ) (x n : ℕ) (z : ℤ) → x + n ≤ length b → IsPatched o b x n z (patched o b x n z)
is_patched o b x n z within =
    let new = bytes_of o n (modulo n z) in
    let long = length-bytes_of o n (modulo n z) in
    record {
      long = between_long 0 b new x n within long;
      inside = between_inside 0 b new x n within long;
      outside = between_outside 0 b new x n within long;
    }
