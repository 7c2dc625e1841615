-- Records of a source, and the ends of a string table of it.
use Rattle.std.proofs.Common.{◌≡◌, ◌∙◌, ◌+◌, inl, inr, ℕ, List, Option, ap, arith, refl, sym, ◌++◌, take, drop, ap₂, ◌-◌, ◌≤◌, ◌⊎◌, []}
use Rattle.std.proofs.Common.{length, length-append, ◌<◌, ◌*◌, ◌∷◌, map, subst, zero-add, zero, suc, replicate, get_or, slice_index}
use Rattle.std.proofs.Common.{length-drop, rules}
use Rattle.std.proofs.lemmas.List.{drop-drop, drop-take, take-take, get_or-drop, get_or-take, get_or-append_right, length-replicate}
use Rattle.std.proofs.lemmas.List.{length-take-le}
use Rattle.std.specs.List.{AllByRecursion, range_with_len}
use Rattle.std.proofs.Math.Nat.{mul-add}
use Rattle.std.proofs.lemmas.List.FromFn.{map-range_with_len_more}
use Rattle.elf_field.specs.Bytes.{IsBytes}
use Rattle.elf_field.specs.laws.Bytes.{IsBytes-append, IsBytes-cons, IsBytes-nil}
use Rattle.elf_field.specs.Record.{IsRecord}
use Rattle.elf_field.specs.declared.number.Order.{Order}
use Rattle.elf_image_rules.specs.Rules.{AreEnds}
use Rattle.elf_image_stream.specs.Source.{Fails, EndsBy}
use Rattle.elf_image_outline.specs.Records.{Extends, IsRecordsFault, table_at}
use Rattle.elf_image_outline.specs.declared.records.RecordsFault.TheVariants.{Io, OutOfMemory}
use Rattle.elf_image_outline.specs.declared.records.RecordsFault.{RecordsFault}
use Rattle.elf_image_stream.specs.declared.source.Failures.{Failures}
use Rattle.elf_image_outline.proofs.EntriesOut.{in_records}

-- A block of several records, read at its place, extends a table by its next records (`table_on`). A record in a part of the bytes is that
-- of the whole, and record i is at i times the size. A fault in a later part of a table is a fault of the table, because the part lies in
-- it (`fault_later`).

-- one value more
pub extends_on : {T : Type 0} → (value : ℕ → T) (several : ℕ) (old now next : List T) (one : T) →
    Extends value several old now → one ≡ value several → next ≡ now ++ one ∷ [] → Extends value (several + 1) old next
extends_on {T = T} value several old now next one before is grown from f same first =
    grown
    ∙ ap₂ (λ (xs : List T) (x : T). xs ++ x ∷ []) (before from f (λ i lt. same i (omega arith)) first)
    (is ∙ sym (same several (omega arith)))
    ∙ sym (map-range_with_len_more f 0 (from + several) (from + several) (zero-add (from + several)))
    ∙ ap (λ (n : ℕ). map f (range_with_len 0 n)) (let e : from + several + 1 ≡ from + (several + 1) = omega arith in e)

-- what holds of each, and of one more
pub all_more : {T : Type 0} (P : T → Type 0) (xs : List T) (x : T) → AllByRecursion P xs → P x → AllByRecursion P (xs ++ x ∷ [])
all_more P [] x all one = (one, tt)
all_more P (y ∷ ys) x all one = (all.0, all_more P ys x all.1 one)

-- the record at an offset of a part of a list is the one after it in the list
pub record_in_part : {A : Type 0} {size : ℕ} {at : Order → List ℕ → ℕ → A} {bytes : Order → A → List ℕ} {V : A → Type 0} →
    IsRecord size at bytes V → (o : Order) (b : List ℕ) (start len x : ℕ) →
    x + size ≤ len → at o (take len (drop start b)) x ≡ at o b (start + x)
record_in_part {size = size} {at = at} laws o b start len x within =
    let rest : take size (drop x (take len (drop start b))) ≡ take size (drop (start + x) b) =
    ap (λ (n : ℕ). take size (drop x (take n (drop start b)))) (let e : len ≡ x + (len - x) = omega arith in e)
    ∙ ap (take size) (drop-take x (len - x) (drop start b))
    ∙ take-take size (len - x) (drop x (drop start b)) (omega arith)
    ∙ ap (take size) (drop-drop x start b) in
    sym (laws.part o (take len (drop start b)) x) ∙ ap (λ (s : List ℕ). at o s 0) rest ∙ laws.part o b (start + x)

-- the next several records of a table
pub table_on : {A : Type 0} {size : ℕ} {at : Order → List ℕ → ℕ → A} {bytes : Order → A → List ℕ} {V : A → Type 0} →
    IsRecord size at bytes V → (o : Order) (b block : List ℕ) (start table from several : ℕ) (old now : List A) →
    block ≡ take (size * several) (drop start b) → start ≡ table + size * from →
    Extends (λ i. at o block (size * i)) several old now → old ≡ table_at (at o) size b table from →
    now ≡ table_at (at o) size b table (from + several)
table_on {size = size} {at = at} laws o b block start table from several old now is begins extends first =
    extends from (λ i. at o b (table + size * i)) (λ i lt. same i lt) first
  where
    same : (i : ℕ) → i < several → at o b (table + size * (from + i)) ≡ at o block (size * i)
    same i lt =
        let e = mul-add size from i in
        let inside : size * i + size ≤ size * several = in_records size i several lt in
        ap (at o b) (let sum : table + size * (from + i) ≡ start + size * i = omega arith in sum)
        ∙ sym (record_in_part laws o b start (size * several) (size * i) inside)
        ∙ ap (λ (s : List ℕ). at o s (size * i)) (sym is)

-- what failed in a later part of some bytes failed in them
failed_later : (content before : Option (List ℕ)) (old start new : Failures) (x : ℕ) → before ≡ content → start ≡ old →
    Fails start new x ⊎ ((new ≡ start) × EndsBy before x) → Fails old new x ⊎ ((new ≡ old) × EndsBy content x)
failed_later content before old start new x same left (inl fails) = inl (subst (λ (f : Failures). Fails f new x) left fails)
failed_later content before old start new x same left (inr (still, (b, known, short))) = inr (still ∙ left, (b, sym same ∙ known, short))

-- a fault of a later part of a table is one of the table
pub fault_later : (content before : Option (List ℕ)) (old start new : Failures) (at n from m : ℕ) (fault : RecordsFault) →
    before ≡ content → start ≡ old → at ≤ from → from + m ≤ at + n → IsRecordsFault before start new from m fault →
    IsRecordsFault content old new at n fault
fault_later content before old start new at n from m OutOfMemory same left low high is = is ∙ left
fault_later content before old start new at n from m (Io x) same left low high (above, below, fails) = (
  omega arith,
  omega arith,
  failed_later content before old start new x same left fails,
)

-- If a table lies inside a list, the bytes that the list has at the table's two ends are its ends (`ends_in`). For each length above 1 and
-- any two bytes, some table has these ends, with zeros between them (`some_table`). A table of one byte has it as both ends
-- (`one_byte_table`).

-- the byte at an index of a part of a list
byte_in_part : (b : List ℕ) (byte start len i : ℕ) → i < len → byte ∷ [] ≡ take 1 (drop (start + i) b) →
    slice_index (take len (drop start b)) i ≡ byte
byte_in_part b byte start len i within is =
    let there : slice_index (drop start b) i ≡ slice_index (drop (start + i) b) 0 =
    get_or-drop start b i 0 ∙ ap (λ (n : ℕ). get_or b n 0) (let e : start + i ≡ start + i + 0 = omega arith in e) ∙
    sym (get_or-drop (start + i) b 0 0) in
    let one : slice_index (drop (start + i) b) 0 ≡ byte =
    sym (get_or-take 1 (drop (start + i) b) 0 0 (omega arith)) ∙ ap (λ (s : List ℕ). slice_index s 0) (sym is) in
    get_or-take len (drop start b) i 0 within ∙ there ∙ one

part_long : (b : List ℕ) (start len : ℕ) → start + len ≤ length b → length (take len (drop start b)) ≡ len
part_long b start len within = let e = length-drop start b in length-take-le len (drop start b) (omega arith)

-- a table within a list has the ends that are there
pub ends_in : (b : List ℕ) (start len first last : ℕ) → 0 < len → start + len ≤ length b →
    first ∷ [] ≡ take 1 (drop start b) → last ∷ [] ≡ take 1 (drop (start + (len - 1)) b) →
    AreEnds (record { len = len; first = first; last = last }) (take len (drop start b))
ends_in b start len first last some within begins ends =
    let long = part_long b start len within in record {
      len = sym long;
      first = λ _. byte_in_part b first start len 0 some
          (begins ∙ ap (λ (n : ℕ). take 1 (drop n b)) (let e : start ≡ start + 0 = omega arith in e));
      last = λ _. ap (λ (n : ℕ). slice_index (take len (drop start b)) (n - 1)) long ∙
          byte_in_part b last start len (len - 1) (omega arith) ends;
    }

-- a byte
IsBytes-one : (byte : ℕ) → byte < 256 → IsBytes (byte ∷ [])
IsBytes-one byte is i = search rules

IsBytes-zeros : (n : ℕ) → IsBytes (replicate n 0)
IsBytes-zeros zero = IsBytes-nil
IsBytes-zeros (suc n) = IsBytes-cons 0 (replicate n 0) (omega arith) (IsBytes-zeros n)

-- a table of two bytes or more that has these ends
pub some_table : (len first last : ℕ) → 1 < len → first < 256 → last < 256 →
    (table : List ℕ) × AreEnds (record { len = len; first = first; last = last }) table × IsBytes table
some_table len first last many f l =
    let inner : List ℕ = replicate (len - 2) 0 in
    let table : List ℕ = (first ∷ inner) ++ last ∷ [] in
    let between : length inner ≡ len - 2 = length-replicate (len - 2) 0 in
    let long : length (first ∷ inner) ≡ len - 1 = omega arith in
    let all : length table ≡ len =
    length-append (first ∷ inner) (last ∷ []) ∙ (let e : length (first ∷ inner) + 1 ≡ len = omega arith in e) in (
      table,
      record {
        len = sym all;
        first = λ _. refl;
        last = λ _. ap (λ (n : ℕ). slice_index table (n - 1)) all ∙
            get_or-append_right (first ∷ inner) (last ∷ []) (len - 1) (len - 1) 0 long (omega arith)
            ∙ ap (λ (n : ℕ). slice_index (last ∷ []) n) (let e : (len - 1) - (len - 1) ≡ 0 = omega arith in e);
      },
      IsBytes-append (first ∷ inner) (last ∷ []) (IsBytes-append (first ∷ []) inner (IsBytes-one first f) (IsBytes-zeros (len - 2)))
          (IsBytes-one last l),
    )

-- a table of one byte
pub one_byte_table : (byte : ℕ) → byte < 256 →
    (table : List ℕ) × AreEnds (record { len = 1; first = byte; last = byte }) table × IsBytes table
one_byte_table byte is = (byte ∷ [], record { len = refl; first = λ _. refl; last = λ _. refl }, IsBytes-one byte is)
