-- What holds of every kind of record, as one value that a lemma can take as an argument: a list of records is then spoken of once for all
-- kinds.
use Rattle.std.specs.Prelude.{◌<◌, ◌+◌, ◌-◌, ◌==◌, ◌^◌, ℕ, if◌then◌else◌, List, [], ◌∷◌, ◌++◌, ⊤, ◌≡◌, length, take, drop}
use Rattle.elf_field.specs.Bytes.{At, bytes_of, field, IsBytes}
use Rattle.elf_field.specs.declared.number.Order.{Order}

-- A record as a list of widths and a list of numbers: what all records have in common.

-- how many bytes fields of these widths take
abbrev pub width_of : List ℕ → ℕ
width_of [] = 0
width_of (w ∷ ws) = w + width_of ws

-- the numbers of fields of these widths, one after the other from offset x + k of b
abbrev pub fields_from : Order → List ℕ → ℕ → ℕ → List ℕ → List ℕ
fields_from o b x k [] = []
fields_from o b x k (w ∷ ws) = field o b (x + k) w ∷ fields_from o b x (k + w) ws

-- these bytes and after them the numbers, each in its width, by a way of writing numbers
abbrev pub spelled : (ℕ → ℕ → List ℕ) → List ℕ → List ℕ → List ℕ → List ℕ
spelled put front [] vs = front
spelled put front (w ∷ ws) [] = front
spelled put front (w ∷ ws) (v ∷ vs) = spelled put (front ++ put w v) ws vs

-- each number fits its width
abbrev pub FitWidths : List ℕ → List ℕ → Type 0
FitWidths [] [] = ⊤
FitWidths [] (v ∷ vs) = ⊥
FitWidths (w ∷ ws) [] = ⊥
FitWidths (w ∷ ws) (v ∷ vs) = (v < 256 ^ w) × FitWidths ws vs

-- fields of these widths are one after the other from offset x + k of b, for these numbers
abbrev pub AreAt : Order → List ℕ → ℕ → ℕ → List ℕ → List ℕ → Type 0
AreAt o b x k [] [] = ⊤
AreAt o b x k [] (v ∷ vs) = ⊥
AreAt o b x k (w ∷ ws) [] = ⊥
AreAt o b x k (w ∷ ws) (v ∷ vs) = At o b (x + k) w v × AreAt o b x (k + w) ws vs

-- the number at offset k of numbers that are one after the other, 0 where none begins
abbrev pub number_in : List ℕ → List ℕ → ℕ → ℕ
number_in [] vs k = 0
number_in (w ∷ ws) [] k = 0
number_in (w ∷ ws) (v ∷ vs) k = if k == 0 then v else number_in ws vs (k - w)

-- ---- a kind of record, of which only this is said of each: the rest is computed

pub record Layout (A : Type 0) : Type 0 where
  -- the record whose number at offset k, of w bytes, is (number k w)
  pub of : (ℕ → ℕ → ℕ) → A
  -- its numbers, in their order
  pub values : A → List ℕ

-- the widths of its numbers
abbrev pub widths : {A : Type 0} → Layout A → List ℕ
widths l = l.values (l.of (λ k w. w))

-- the record with these numbers
abbrev pub record_of : {A : Type 0} → Layout A → List ℕ → A
record_of l vs = l.of (λ k w. number_in (widths l) vs k)

-- the record at offset x of b, in an order
abbrev pub record_at : {A : Type 0} → Layout A → Order → List ℕ → ℕ → A
record_at l o b x = record_of l (fields_from o b x 0 (widths l))

-- its bytes, in an order: each number in its width
abbrev pub record_bytes : {A : Type 0} → Layout A → Order → A → List ℕ
record_bytes l o v = spelled (bytes_of o) [] (widths l) (l.values v)

-- its fields are at their offsets from offset x of b
abbrev pub StandsAt : {A : Type 0} → Layout A → Order → List ℕ → ℕ → A → Type 0
StandsAt l o b x v = AreAt o b x 0 (widths l) (l.values v)

pub record IsRecord {A : Type 0} (size : ℕ) (at : Order → List ℕ → ℕ → A) (bytes : Order → A → List ℕ) (IsValid : A → Type 0) : Type 0 where
  -- what is read of a record's bytes is the record
  pub gets_put : (o : Order) (v : A) → IsValid v → at o (bytes o v) 0 ≡ v
  -- what is written of a record that was read is its bytes
  pub puts_got : (o : Order) (b : List ℕ) → length b ≡ size → IsBytes b → bytes o (at o b 0) ≡ b
  -- the record at an offset of a list is that of its own bytes
  pub part : (o : Order) (b : List ℕ) (x : ℕ) → at o (take size (drop x b)) 0 ≡ at o b x
  -- its bytes are as many as its size, whether it fits or not
  pub length_is : (o : Order) (v : A) → length (bytes o v) ≡ size
  -- the record at any offset of a list of bytes fits
  pub valid : (o : Order) (b : List ℕ) (x : ℕ) → IsBytes b → IsValid (at o b x)
  -- its bytes are bytes
  pub are_bytes : (o : Order) (v : A) → IsValid v → IsBytes (bytes o v)
