-- A table of records, for each kind of record that keeps `IsRecord`, by induction on the entries. Valid records are read back as they were
-- written, and bytes inside the list are written back as they were read. From these, `record_at` reads record k at k times the size, and
-- `record_of_part` reads a record of a part in the whole.
use Rattle.std.proofs.Common.{◌≡◌, ◌≤◌, ◌<◌, ◌+◌, ◌-◌, ◌*◌, ℕ, zero, suc, List, [], ◌∷◌, ◌++◌, length, take, drop, get_or, take_all, map}
use Rattle.std.proofs.Common.{refl, sym, ap, ap₂, ◌∙◌, arith, length-append, length-drop}
use Rattle.std.specs.List.{AllByRecursion, flat_map, range_with_len}
use Rattle.std.proofs.Math.Nat.{mul-add, mul-one, mul-suc, mul-zero}
use Rattle.std.proofs.Math.Seq.{take-add}
use Rattle.std.proofs.lemmas.List.FromFn.{get_or-map-range_with_len}
use Rattle.std.proofs.lemmas.List.{drop-drop, drop-take, drop_at, length-take-le, take-take, take_at}
use Rattle.elf_field.specs.declared.number.Order.{Order}
use Rattle.elf_field.specs.Bytes.{IsBytes}
use Rattle.elf_field.specs.laws.Bytes.{IsBytes-append, IsBytes-drop, IsBytes-nil, IsBytes-take}
use Rattle.elf_field.specs.Record.{IsRecord}

mul_step : (size n : ℕ) → size * suc n ≡ size + size * n
mul_step size n = let e = mul-suc size n in omega arith

-- a table has its entries' sizes
pub length-table : {A : Type 0} {size : ℕ} {at : Order → List ℕ → ℕ → A} {bytes : Order → A → List ℕ} {V : A → Type 0} →
    IsRecord size at bytes V → (o : Order) (vs : List A) → length (flat_map (bytes o) vs) ≡ size * length vs
length-table {size = size} laws o [] = let e = mul-zero size in omega arith
length-table {size = size} {bytes = bytes} laws o (v ∷ vs) =
    let rest = length-table laws o vs in
    let one = laws.length_is o v in
    let both = length-append (bytes o v) (flat_map (bytes o) vs) in
    let more = mul_step size (length vs) in
    omega arith

pub IsBytes-table : {A : Type 0} {size : ℕ} {at : Order → List ℕ → ℕ → A} {bytes : Order → A → List ℕ} {V : A → Type 0} →
    IsRecord size at bytes V → (o : Order) (vs : List A) → AllByRecursion V vs → IsBytes (flat_map (bytes o) vs)
IsBytes-table laws o [] fit = IsBytes-nil
IsBytes-table {bytes = bytes} laws o (v ∷ vs) fit =
    IsBytes-append (bytes o v) (flat_map (bytes o) vs) (laws.are_bytes o v fit.0) (IsBytes-table laws o vs fit.1)

-- the record whose bytes are at a place is the one read there
pub record_read : {A : Type 0} {size : ℕ} {at : Order → List ℕ → ℕ → A} {bytes : Order → A → List ℕ} {V : A → Type 0} →
    IsRecord size at bytes V → (o : Order) (b : List ℕ) (x : ℕ) (v : A) → V v → take size (drop x b) ≡ bytes o v → at o b x ≡ v
record_read {at = at} laws o b x v fits stand = sym (laws.part o b x) ∙ ap (λ (s : List ℕ). at o s 0) stand ∙ laws.gets_put o v fits

-- the bytes of the record read at a place are those that are there
pub record_bytes : {A : Type 0} {size : ℕ} {at : Order → List ℕ → ℕ → A} {bytes : Order → A → List ℕ} {V : A → Type 0} →
    IsRecord size at bytes V → (o : Order) (b : List ℕ) (x : ℕ) → IsBytes b → x + size ≤ length b →
    bytes o (at o b x) ≡ take size (drop x b)
record_bytes {size = size} {bytes = bytes} laws o b x are within =
    let there : size ≤ length (drop x b) = let e = length-drop x b in omega arith in
    ap (bytes o) (sym (laws.part o b x)) ∙
    laws.puts_got o (take size (drop x b)) (length-take-le size (drop x b) there) (IsBytes-take size (drop x b) (IsBytes-drop x b are))

-- what is first, and what is after it
front_of : (n m : ℕ) (s f g : List ℕ) → length f ≡ n → take (n + m) s ≡ f ++ g → take n s ≡ f
front_of n m s f g long whole = sym (take-take n (n + m) s (omega arith)) ∙ ap (take n) whole ∙ take_at f g n long

rest_of : (n m : ℕ) (s f g : List ℕ) → length f ≡ n → take (n + m) s ≡ f ++ g → take m (drop n s) ≡ g
rest_of n m s f g long whole = sym (drop-take n m s) ∙ ap (drop n) whole ∙ drop_at f g n long

next_place : (x size a : ℕ) → x + size * a + size ≡ x + size * (a + 1)
next_place x size a = let e = mul-add size a 1 in let f : size * 1 ≡ size = mul-one size in omega arith

-- the records whose bytes are one after the other are those read there
pub entries_read : {A : Type 0} {size : ℕ} {at : Order → List ℕ → ℕ → A} {bytes : Order → A → List ℕ} {V : A → Type 0} →
    IsRecord size at bytes V → (o : Order) (b : List ℕ) (x a : ℕ) (vs : List A) → AllByRecursion V vs →
    take (size * length vs) (drop (x + size * a) b) ≡ flat_map (bytes o) vs →
    map (λ i. at o b (x + size * i)) (range_with_len a (length vs)) ≡ vs
entries_read laws o b x a [] fit stand = refl
entries_read {size = size} {at = at} {bytes = bytes} laws o b x a (v ∷ vs) fit stand =
    let y = x + size * a in
    let whole : take (size + size * length vs) (drop y b) ≡ bytes o v ++ flat_map (bytes o) vs =
    ap (λ (n : ℕ). take n (drop y b)) (sym (mul_step size (length vs))) ∙ stand in
    let one = front_of size (size * length vs) (drop y b) (bytes o v) (flat_map (bytes o) vs) (laws.length_is o v) whole in
    let others = rest_of size (size * length vs) (drop y b) (bytes o v) (flat_map (bytes o) vs) (laws.length_is o v) whole in
    let moved : drop size (drop y b) ≡ drop (x + size * (a + 1)) b = drop-drop size y b ∙ ap (λ (n : ℕ). drop n b) (next_place x size a) in
    let rest = entries_read laws o b x (a + 1) vs fit.1 (ap (take (size * length vs)) (sym moved) ∙ others) in
    ap₂ (λ (u : _) (us : List _). u ∷ us) (record_read laws o b y v fit.0 one) rest

-- the bytes of the records read one after the other are those that are there
pub entries_bytes : {A : Type 0} {size : ℕ} {at : Order → List ℕ → ℕ → A} {bytes : Order → A → List ℕ} {V : A → Type 0} →
    IsRecord size at bytes V → (o : Order) (b : List ℕ) (x a n : ℕ) → IsBytes b → x + size * a + size * n ≤ length b →
    flat_map (bytes o) (map (λ i. at o b (x + size * i)) (range_with_len a n)) ≡ take (size * n) (drop (x + size * a) b)
entries_bytes {size = size} laws o b x a zero are within = ap (λ (k : ℕ). take k (drop (x + size * a) b)) (sym (mul-zero size))
entries_bytes {size = size} {at = at} {bytes = bytes} laws o b x a (suc n) are within =
    let y = x + size * a in
    let step = mul_step size n in
    let one = record_bytes laws o b y are (omega arith) in
    let next = next_place x size a in
    let rest = entries_bytes laws o b x (a + 1) n are (omega arith) in
    let moved : drop size (drop y b) ≡ drop (x + size * (a + 1)) b = drop-drop size y b ∙ ap (λ (k : ℕ). drop k b) next in
    let both : take (size + size * n) (drop y b) ≡ take size (drop y b) ++ take (size * n) (drop (x + size * (a + 1)) b) =
    take-add size (size * n) (drop y b) ∙ ap (λ (s : List ℕ). take size (drop y b) ++ take (size * n) s) moved in
    ap₂ (λ (s t : List ℕ). s ++ t) one rest ∙ sym both ∙ ap (λ (k : ℕ). take k (drop y b)) (sym step)

-- the records read one after the other fit
pub entries_fit : {A : Type 0} {size : ℕ} {at : Order → List ℕ → ℕ → A} {bytes : Order → A → List ℕ} {V : A → Type 0} →
    IsRecord size at bytes V → (o : Order) (b : List ℕ) (x a n : ℕ) → IsBytes b →
    AllByRecursion V (map (λ i. at o b (x + size * i)) (range_with_len a n))
entries_fit laws o b x a zero are = tt
entries_fit {size = size} laws o b x a (suc n) are = (laws.valid o b (x + size * a) are, entries_fit laws o b x (a + 1) n are)

-- record k of a table is the one read at its place in the table's bytes
pub record_at : {A : Type 0} {size : ℕ} {at : Order → List ℕ → ℕ → A} {bytes : Order → A → List ℕ} {V : A → Type 0} →
    IsRecord size at bytes V → (o : Order) (vs : List A) (k : ℕ) (d : A) → AllByRecursion V vs → k < length vs →
    at o (flat_map (bytes o) vs) (size * k) ≡ get_or vs k d
record_at {size = size} {at = at} {bytes = bytes} laws o vs k d fit lt =
    let b = flat_map (bytes o) vs in
    let front : 0 + size * 0 ≡ 0 = let e = mul-zero size in omega arith in
    let place : size * k ≡ 0 + size * k = omega arith in
    let whole : take (size * length vs) (drop (0 + size * 0) b) ≡ b =
    ap (λ (x : ℕ). take (size * length vs) (drop x b)) front ∙
    take_all (size * length vs) b (let e = length-table laws o vs in omega arith) in
    let read = entries_read laws o b 0 0 vs fit whole in
    ap (at o b) place ∙ sym (get_or-map-range_with_len (λ i. at o b (0 + size * i)) 0 (length vs) k k d lt (omega arith)) ∙
    ap (λ (us : List _). get_or us k d) read

-- the record at a place of a part is that at its place in the whole
pub record_of_part : {A : Type 0} {size : ℕ} {at : Order → List ℕ → ℕ → A} {bytes : Order → A → List ℕ} {V : A → Type 0} →
    IsRecord size at bytes V → (o : Order) (b : List ℕ) (start len x : ℕ) → x + size ≤ len →
    at o (take len (drop start b)) x ≡ at o b (start + x)
record_of_part {size = size} {at = at} laws o b start len x within =
    let split : len ≡ x + (len - x) = omega arith in
    let rest : drop x (take len (drop start b)) ≡ take (len - x) (drop x (drop start b)) =
    ap (λ (n : ℕ). drop x (take n (drop start b))) split ∙ drop-take x (len - x) (drop start b) in
    let moved : take size (drop x (take len (drop start b))) ≡ take size (drop (start + x) b) =
    ap (take size) rest ∙ take-take size (len - x) (drop x (drop start b)) (omega arith) ∙ ap (take size) (drop-drop x start b) in
    sym (laws.part o (take len (drop start b)) x) ∙ ap (λ (s : List ℕ). at o s 0) moved ∙ laws.part o b (start + x)
