-- The laws of a kind of record, from what its layout computes to. They are lemmas that contracts name.
use Rattle.std.specs.Prelude.{◌<◌, ◌+◌, ◌-◌, ◌^◌, ℕ, List, [], ◌∷◌, ◌++◌, ◌≡◌, length, take, drop}
use Rattle.std.proofs.Common.{◌≤◌, refl, sym, ap, ap₂, subst, ◌∙◌, arith, append_assoc, length-append, length-drop, zero-add}
use Rattle.std.proofs.Math.Seq.{take-add}
use Rattle.std.proofs.lemmas.List.{append-nil, drop-drop, drop-take, drop_at, take_all}
use Rattle.elf_field.specs.Bytes.{bytes_of, field, IsBytes, num}
use Rattle.elf_field.specs.laws.Bytes.{IsBytes-append, IsBytes-bytes_of, IsBytes-drop, IsBytes-nil}
use Rattle.elf_field.specs.laws.Bytes.{bytes_of-num, length-bytes_of, num-bytes_of, num-lt, num-take}
use Rattle.elf_field.specs.declared.number.Order.{Order}
use Rattle.elf_field.specs.Record.{width_of, fields_from, spelled, FitWidths, AreAt, Layout, widths, record_of, record_at}
use Rattle.elf_field.specs.Record.{record_bytes, StandsAt, IsRecord}

-- What holds of every record, said of its widths and numbers.

-- what is in front stays in front
pub spelled-front : (o : Order) (front ws vs : List ℕ) → spelled (bytes_of o) front ws vs ≡ front ++ spelled (bytes_of o) [] ws vs
spelled-front o front [] vs = sym (append-nil front)
spelled-front o front (w ∷ ws) [] = sym (append-nil front)
spelled-front o front (w ∷ ws) (v ∷ vs) =
    let long = spelled-front o (front ++ bytes_of o w v) ws vs in
    let short = spelled-front o (bytes_of o w v) ws vs in
    long ∙ append_assoc front (bytes_of o w v) (spelled (bytes_of o) [] ws vs) ∙ ap (λ (x : List ℕ). front ++ x) (sym short)

-- ---- numbers are read back from their bytes

field-spelled : (o : Order) (front : List ℕ) (k w v : ℕ) (ws vs : List ℕ) → v < 256 ^ w → length front ≡ k →
    field o (spelled (bytes_of o) front (w ∷ ws) (v ∷ vs)) (0 + k) w ≡ v
field-spelled o front k w v ws vs fits long =
    let whole : spelled (bytes_of o) front (w ∷ ws) (v ∷ vs) ≡ front ++ (bytes_of o w v ++ spelled (bytes_of o) [] ws vs) =
    spelled-front o (front ++ bytes_of o w v) ws vs ∙ append_assoc front (bytes_of o w v) (spelled (bytes_of o) [] ws vs) in
    let rest : drop (0 + k) (spelled (bytes_of o) front (w ∷ ws) (v ∷ vs)) ≡ bytes_of o w v ++ spelled (bytes_of o) [] ws vs =
    ap₂ (λ (n : ℕ) (s : List ℕ). drop n s) (zero-add k) whole ∙ drop_at front (bytes_of o w v ++ spelled (bytes_of o) [] ws vs) k long in
    ap (num o w) rest ∙ num-bytes_of o w v (spelled (bytes_of o) [] ws vs) fits

pub fields_from-spelled : (o : Order) (front : List ℕ) (k : ℕ) (ws vs : List ℕ) → FitWidths ws vs → length front ≡ k →
    fields_from o (spelled (bytes_of o) front ws vs) 0 k ws ≡ vs
fields_from-spelled o front k [] [] fits long = refl
fields_from-spelled o front k [] (v ∷ vs) fits long = absurd fits
fields_from-spelled o front k (w ∷ ws) [] fits long = absurd fits
fields_from-spelled o front k (w ∷ ws) (v ∷ vs) fits long =
    let longer : length (front ++ bytes_of o w v) ≡ k + w =
    length-append front (bytes_of o w v) ∙ ap₂ (λ (m n : ℕ). m + n) long (length-bytes_of o w v) in
    let rest = fields_from-spelled o (front ++ bytes_of o w v) (k + w) ws vs fits.1 longer in
    ap₂ (λ (x : ℕ) (xs : List ℕ). x ∷ xs) (field-spelled o front k w v ws vs fits.0 long) rest

-- ---- bytes are written back from the numbers that they represent

pub spelled-fields_from : (o : Order) (b : List ℕ) (k : ℕ) (ws : List ℕ) → IsBytes b → k + width_of ws ≤ length b →
    spelled (bytes_of o) (take k b) ws (fields_from o b 0 k ws) ≡ take (k + width_of ws) b
spelled-fields_from o b k [] bytes long = ap (λ (n : ℕ). take n b) (let e : k ≡ k + 0 = omega arith in e)
spelled-fields_from o b k (w ∷ ws) bytes long =
    let there : w ≤ length (drop (0 + k) b) = rw (zero-add k) (let e = length-drop k b in omega arith) in
    let one : bytes_of o w (field o b (0 + k) w) ≡ take w (drop (0 + k) b) =
    bytes_of-num o w (drop (0 + k) b) (IsBytes-drop (0 + k) b bytes) there in
    let front : take k b ++ bytes_of o w (field o b (0 + k) w) ≡ take (k + w) b =
    ap (λ (s : List ℕ). take k b ++ s) (one ∙ ap (λ (n : ℕ). take w (drop n b)) (zero-add k)) ∙ sym (take-add k w b) in
    let rest = spelled-fields_from o b (k + w) ws bytes (omega arith) in
    ap (λ (s : List ℕ). spelled (bytes_of o) s ws (fields_from o b 0 (k + w) ws)) front ∙ rest ∙
    ap (λ (n : ℕ). take n b) (let e : k + w + width_of ws ≡ k + (w + width_of ws) = omega arith in e)

-- ---- a part of a list

-- a field of a part is the field of the whole list
pub field-part : (o : Order) (b : List ℕ) (n x k w : ℕ) → k + w ≤ n → field o (take n (drop x b)) k w ≡ field o b (x + k) w
field-part o b n x k w within =
    let m : n ≡ k + (n - k) = omega arith in
    let cut : drop k (take n (drop x b)) ≡ take (n - k) (drop (x + k) b) =
    ap (λ (j : ℕ). drop k (take j (drop x b))) m ∙ drop-take k (n - k) (drop x b) ∙ ap (take (n - k)) (drop-drop k x b) in
    ap (num o w) cut ∙ num-take o w (n - k) (drop (x + k) b) (omega arith)

pub fields_from-part : (o : Order) (b : List ℕ) (n x k : ℕ) (ws : List ℕ) → k + width_of ws ≤ n →
    fields_from o (take n (drop x b)) 0 k ws ≡ fields_from o b x k ws
fields_from-part o b n x k [] within = refl
fields_from-part o b n x k (w ∷ ws) within =
    let one : field o (take n (drop x b)) (0 + k) w ≡ field o b (x + k) w =
    ap (λ (j : ℕ). field o (take n (drop x b)) j w) (zero-add k) ∙ field-part o b n x k w (omega arith) in
    ap₂ (λ (v : ℕ) (vs : List ℕ). v ∷ vs) one (fields_from-part o b n x (k + w) ws (omega arith))

-- ---- lengths, ranges, places

-- as many numbers as widths
abbrev pub SameCount : List ℕ → List ℕ → Type 0
SameCount ws vs = length ws ≡ length vs

pub length-spelled : (o : Order) (front ws vs : List ℕ) → SameCount ws vs →
    length (spelled (bytes_of o) front ws vs) ≡ length front + width_of ws
length-spelled o front [] vs same = let e : length front ≡ length front + 0 = omega arith in e
length-spelled o front (w ∷ ws) [] same = absurd (omega arith)
length-spelled o front (w ∷ ws) (v ∷ vs) same =
    let rest = length-spelled o (front ++ bytes_of o w v) ws vs (omega arith) in
    let more = length-append front (bytes_of o w v) in
    let wide = length-bytes_of o w v in
    omega arith

pub IsBytes-spelled : (o : Order) (front ws vs : List ℕ) → IsBytes front → IsBytes (spelled (bytes_of o) front ws vs)
IsBytes-spelled o front [] vs bytes = bytes
IsBytes-spelled o front (w ∷ ws) [] bytes = bytes
IsBytes-spelled o front (w ∷ ws) (v ∷ vs) bytes =
    IsBytes-spelled o (front ++ bytes_of o w v) ws vs (IsBytes-append front (bytes_of o w v) bytes (IsBytes-bytes_of o w v))

pub FitWidths-fields_from : (o : Order) (b : List ℕ) (x k : ℕ) (ws : List ℕ) → IsBytes b → FitWidths ws (fields_from o b x k ws)
FitWidths-fields_from o b x k [] bytes = tt
FitWidths-fields_from o b x k (w ∷ ws) bytes =
    (num-lt o w (drop (x + k) b) (IsBytes-drop (x + k) b bytes), FitWidths-fields_from o b x (k + w) ws bytes)

pub AreAt-fields_from : (o : Order) (b : List ℕ) (x k : ℕ) (ws : List ℕ) → x + (k + width_of ws) ≤ length b →
    AreAt o b x k ws (fields_from o b x k ws)
AreAt-fields_from o b x k [] within = tt
AreAt-fields_from o b x k (w ∷ ws) within = ((omega arith, refl), AreAt-fields_from o b x (k + w) ws (omega arith))

-- ---- the laws of a kind of record, from what its layout computes to

pub record IsLayout {A : Type 0} (l : Layout A) (size : ℕ) (IsValid : A → Type 0) : Type 0 where
  -- its numbers take its size
  pub wide : width_of (widths l) ≡ size
  -- there are as many as widths
  pub counted : (v : A) → SameCount (widths l) (l.values v)
  -- its numbers make it
  pub makes : (v : A) → IsValid v → record_of l (l.values v) ≡ v
  -- what was made of numbers that are in bytes has these numbers
  pub made : (o : Order) (b : List ℕ) (x : ℕ) → FitWidths (widths l) (fields_from o b x 0 (widths l)) →
      l.values (record_at l o b x) ≡ fields_from o b x 0 (widths l)
  -- it fits where its numbers fit their widths, and they where it does
  pub fits : (v : A) → IsValid v → FitWidths (widths l) (l.values v)
  pub valid : (o : Order) (b : List ℕ) (x : ℕ) → FitWidths (widths l) (fields_from o b x 0 (widths l)) → IsValid (record_at l o b x)

module _ {A : Type 0} (l : Layout A) (size : ℕ) (IsValid : A → Type 0) (is : IsLayout l size IsValid) where
  values-at : (o : Order) (b : List ℕ) (x : ℕ) → IsBytes b → l.values (record_at l o b x) ≡ fields_from o b x 0 (widths l)
  values-at o b x bytes = is.made o b x (FitWidths-fields_from o b x 0 (widths l) bytes)

  pub layout_laws : IsRecord size (record_at l) (record_bytes l) IsValid
  layout_laws = let wide = is.wide in record {
    gets_put = λ o v fits. ap (record_of l) (fields_from-spelled o [] 0 (widths l) (l.values v) (is.fits v fits) refl) ∙ is.makes v fits;
    puts_got = λ o b long bytes. ap (spelled (bytes_of o) [] (widths l)) (values-at o b 0 bytes) ∙
        spelled-fields_from o b 0 (widths l) bytes (omega arith) ∙ take_all (0 + width_of (widths l)) b (omega arith);
    part = λ o b x. ap (record_of l) (fields_from-part o b size x 0 (widths l) (omega arith));
    length_is = λ o v. length-spelled o [] (widths l) (l.values v) (is.counted v) ∙
        (let e : 0 + width_of (widths l) ≡ size = omega arith in e);
    valid = λ o b x bytes. is.valid o b x (FitWidths-fields_from o b x 0 (widths l) bytes);
    are_bytes = λ o v fits. IsBytes-spelled o [] (widths l) (l.values v) IsBytes-nil;
  }

  pub layout_fields_at : (o : Order) (b : List ℕ) (x : ℕ) → x + size ≤ length b → IsBytes b → StandsAt l o b x (record_at l o b x)
  layout_fields_at o b x within bytes =
      let wide = is.wide in
      subst (AreAt o b x 0 (widths l)) (sym (values-at o b x bytes)) (AreAt-fields_from o b x 0 (widths l) (omega arith))
