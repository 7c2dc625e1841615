-- Sites of a link in order: lists of them, the first one, and that there is at most one.
use Rattle.std.proofs.Common.{◌≡◌, ℕ, ◌+◌, ◌⊎◌, inl, inr, arith, sym, ◌<◌, List, [], ◌∷◌, ◌++◌, get_or, length, map, ◌∙◌, ap, subst}
use Rattle.std.proofs.Common.{length-append, refl, Option, zero, suc}
use Rattle.std.proofs.lemmas.Bool.{cases_lt}
use Rattle.std.specs.Global.{Vec}
use Rattle.std.proofs.lemmas.List.{get_or-map, get_or_default, get_or_push, ext_get_or, length-map}
use Rattle.std.proofs.Math.ListN.{get_or-append}
use Rattle.elf_extent.specs.Extent.{IsLeast}
use Rattle.elf_image_rules.proofs.Public.{one_fault_by, HasFirst, least_or_never, some_first}
use Rattle.elf_image_rules.specs.Rows.{Row, Ruled}
use Rattle.elf_link_files.specs.Files.{IsEarlier, object_at}
use Rattle.elf_link_files.specs.Rows.{IsFirstAt, AreEach, Lists, UpTo, site, site_at, AtEach, Before, AreOnce, FirstAt, AtSymbol}
use Rattle.elf_link_files.specs.declared.site.Site.{Site}
use Rattle.elf_object_type.specs.Object.{ObjectValue}

-- A position that is earlier than the next section of a file is earlier than this one, or is this one. A position that is earlier than this
-- one is earlier than the next section, and than the next file.

-- what is earlier than the next section is earlier than this one, or this one
pub earlier_next : (e h f g : ℕ) → IsEarlier e h f (g + 1) → IsEarlier e h f g ⊎ ((e ≡ f) × (h ≡ g))
earlier_next e h f g (inl before) = inl (inl before)
earlier_next e h f g (inr (same, before)) = elim (cases_lt h g) [
  | inl below ↦ inl (inr (same, below))
  | inr above ↦ inr (same, omega arith)
]

pub earlier_more : (e h f g : ℕ) → IsEarlier e h f g → IsEarlier e h f (g + 1)
earlier_more e h f g (inl before) = inl before
earlier_more e h f g (inr (same, before)) = inr (same, omega arith)

pub file_before : (e h f n : ℕ) → IsEarlier e h f n → IsEarlier e h (f + 1) 0
file_before e h f n (inl before) = inl (omega arith)
file_before e h f n (inr (same, before)) = inl (omega arith)

-- If a site of a row is earlier than a position, so is the row's first site. Two first sites have one file and one index. Both by comparing
-- files, then indices: a lower one contradicts that the other is first.

-- a site is as early as any of its row's, where it is the first
pub first_earlier : (row : Row Site) (p : Site) (e h f i : ℕ) → IsFirstAt row p → row (record { file = e; index = h; entry = 0 }) →
    IsEarlier e h f i → IsEarlier p.file p.index f i
first_earlier row p e h f i first there before = elim (cases_lt p.file f) [
  | inl below ↦ inl below
  | inr above ↦ elim before [
    | inl file ↦ absurd (first.first (record { file = e; index = h; entry = 0 }) there (inl (omega arith)))
    | inr same ↦ elim (cases_lt e p.file) [
      | inl file ↦ absurd (first.first (record { file = e; index = h; entry = 0 }) there (inl file))
      | inr not_before ↦ elim (cases_lt h p.index) [
        | inl index ↦ (
            let at : e ≡ p.file = (let eq = same.0 in omega arith) in
            absurd (first.first (record { file = e; index = h; entry = 0 }) there (inr (at, inl index))))
        | inr index ↦ (
            let eq = same.0 in
            let lt = same.1 in
            inr (omega arith, omega arith))
      ]
    ]
  ]
]

-- two first sites are of one file and position
pub first_same : (row : Row Site) (p q : Site) → IsFirstAt row p → IsFirstAt row q → (p.file ≡ q.file) × (p.index ≡ q.index)
first_same row p q first other = elim (cases_lt p.file q.file) [
  | inl file ↦ absurd (other.first p first.stands (inl file))
  | inr not_before ↦ elim (cases_lt q.file p.file) [
    | inl file ↦ absurd (first.first q other.stands (inl file))
    | inr not_after ↦ (
        let same : p.file ≡ q.file = omega arith in
        elim (cases_lt p.index q.index) [
          | inl index ↦ absurd (other.first p first.stands (inr (same, inl index)))
          | inr index ↦ elim (cases_lt q.index p.index) [
            | inl after ↦ absurd (first.first q other.stands (inr (sym same, inl after)))
            | inr never ↦ (same, omega arith)
          ]
        ])
  ]
]

-- Lists that are described item by item. One more item extends the description; two lists with one description are equal, if it leaves one
-- choice for each item. An item of a table in rows is read by its row and the position in it.

pub each_more : {A : Type 0} (none : A) (P : ℕ → A → Type 0) (n : ℕ) (xs : List A) (x : A) → P n x → AreEach none P n xs →
    AreEach none P (n + 1) (xs ++ x ∷ [])
each_more none P n xs x here are = record {
  count = (let count = are.count in simp length-append (omega arith));
  each = λ k lt. elim (cases_lt k n) [
    | inl below ↦ subst (P k) (sym (get_or-append xs (x ∷ []) none k (rw are.count below))) (are.each k below)
    | inr above ↦ (
        let same : k ≡ n = omega arith in
        subst (P k) (sym (get_or_push xs x none k (are.count ∙ sym same))) (subst (λ (m : ℕ). P m x) (sym same) here))
  ];
}

pub one_each : {A : Type 0} (none : A) (P : ℕ → A → Type 0) (n : ℕ) (xs ys : List A) → ((k : ℕ) (x y : A) → k < n → P k x → P k y → x ≡ y) →
    AreEach none P n xs → AreEach none P n ys → xs ≡ ys
one_each none P n xs ys same one other =
    ext_get_or none xs ys (one.count ∙ sym other.count)
    (λ k lt. (
    let within : k < n = (let count = one.count in omega arith) in
    same k (get_or xs k none) (get_or ys k none) within (one.each k within) (other.each k within)))

-- an item of a table in rows is read
pub item_read : {A : Type 0} (none : A) (rows : List (Vec A)) (row : Vec A) (f i : ℕ) (x : A) → f < length rows →
    i < length (get_or (map (λ (r : Vec A). r.items) rows) f []) → row ≡ get_or rows f row → x ≡ get_or row.items i x →
    get_or (get_or (map (λ (r : Vec A). r.items) rows) f []) i none ≡ x
item_read {A} none rows row f i x f_in i_in row_is x_is =
    let here : get_or (map (λ (r : Vec A). r.items) rows) f [] ≡ row.items =
    get_or-map (λ (r : Vec A). r.items) rows f row [] f_in ∙ ap (λ (r : Vec A). r.items) (sym row_is) in
    ap (λ (xs : List A). get_or xs i none) here ∙ get_or_default row.items i none x (rw (← here) i_in) ∙ sym x_is

-- so what is said of each by its row and its position there holds of it
pub table_read : {A : Type 0} (none : A) (P : ℕ → ℕ → A → Type 0) (wide : ℕ → ℕ) (n : ℕ) (rows : List (Vec A)) (row : Vec A) (f i : ℕ)
    (x : A) → f < n →
    i < wide f → row ≡ get_or rows f row → x ≡ get_or row.items i x →
    AreEach [] (λ g. AreEach none (P g) (wide g)) n (map (λ (r : Vec A). r.items) rows) → P f i x
table_read {A} none P wide n rows row f i x f_in i_in row_is x_is are =
    let many = length-map rows (λ (r : Vec A). r.items) in
    let count = are.count in
    let each = are.each f f_in in
    subst (P f i) (item_read none rows row f i x (omega arith) (rw each.count i_in) row_is x_is) (each.each i i_in)

-- Lists of sites that grow at their end. The list has the sites of a row before a position, in order; passing the position adds it if the
-- row has it. Of two sites at most one is before the other, so no site is in such a list twice.

pub site_is : (p : Site) (f i : ℕ) → p.file ≡ f → p.index ≡ i → p.entry ≡ 0 → p ≡ site f i
site_is p f i file index entry =
    ap (λ (n : ℕ). record { file = n; index = p.index; entry = p.entry }) file ∙
    ap (λ (n : ℕ). record { file = f; index = n; entry = p.entry }) index
    ∙ ap (λ (n : ℕ). record { file = f; index = i; entry = n }) entry

kept : (ps : List Site) (q : Site) (k : ℕ) → k < length ps → site_at (ps ++ q ∷ []) k ≡ site_at ps k
kept ps q k lt = get_or-append ps (q ∷ []) (site 0 0) k lt

last : (ps : List Site) (q : Site) (k : ℕ) → length ps ≡ k → site_at (ps ++ q ∷ []) k ≡ q
last ps q k end = get_or_push ps q (site 0 0) k end

longer : (ps : List Site) (q : Site) → length (ps ++ q ∷ []) ≡ length ps + 1
longer ps q = simp length-append

-- one more site, after all others
pub lists_more : (row next : Row Site) (ps : List Site) (q : Site) → ((p : Site) → row p → next p) → next q →
    ((p : Site) → next p → row p ⊎ (p ≡ q)) →
    ((p : Site) → row p → Before p q) → Lists row ps → Lists next (ps ++ q ∷ [])
lists_more row next ps q into here split before is = record {
  each = λ k lt. (
      let long = longer ps q in
      elim (cases_lt k (length ps)) [
        | inl below ↦ subst next (sym (kept ps q k below)) (into (site_at ps k) (is.each k below))
        | inr above ↦ (let end : length ps ≡ k = omega arith in subst next (sym (last ps q k end)) here)
      ]);
  all = λ p holds. (
      let long = longer ps q in
      elim (split p holds) [
        | inl old ↦ (let (k, lt, at) = is.all p old in (k, omega arith, kept ps q k lt ∙ at))
        | inr new ↦ (length ps, omega arith, last ps q (length ps) refl ∙ sym new)
      ]);
  order = λ j k lt within. (
      let long = longer ps q in
      elim (cases_lt k (length ps)) [
        | inl below ↦ (
            let j_below : j < length ps = omega arith in
            subst (λ (p : Site). Before p (site_at (ps ++ q ∷ []) k)) (sym (kept ps q j j_below))
            (subst (λ (p : Site). Before (site_at ps j) p) (sym (kept ps q k below)) (is.order j k lt below)))
        | inr above ↦ (
            let end : length ps ≡ k = omega arith in
            let j_below : j < length ps = omega arith in
            subst (λ (p : Site). Before p (site_at (ps ++ q ∷ []) k)) (sym (kept ps q j j_below))
            (subst (λ (p : Site). Before (site_at ps j) p) (sym (last ps q k end)) (before (site_at ps j) (is.each j j_below))))
      ]);
}

pub lists_same : (row next : Row Site) (ps : List Site) → ((p : Site) → row p → next p) → ((p : Site) → next p → row p) → Lists row ps →
    Lists next ps
lists_same row next ps into back is = record {
  each = λ k lt. into (site_at ps k) (is.each k lt);
  all = λ p holds. is.all p (back p holds);
  order = is.order;
}

pub earlier_before : (p : Site) (f i : ℕ) → IsEarlier p.file p.index f i → Before p (site f i)
earlier_before p f i (inl file) = inl file
earlier_before p f i (inr (file, index)) = inr (file, inl index)

-- a section or symbol that is listed
pub listed_more : (count : ObjectValue → ℕ) (fs : List ObjectValue) (P : ℕ → ℕ → Type 0) (f i : ℕ) (ps : List Site) → f < length fs →
    i < count (object_at fs f) → P f i → Lists (UpTo (AtEach count fs P) f i) ps →
    Lists (UpTo (AtEach count fs P) f (i + 1)) (ps ++ site f i ∷ [])
listed_more count fs P f i ps file index here is =
    lists_more (UpTo (AtEach count fs P) f i) (UpTo (AtEach count fs P) f (i + 1)) ps (site f i)
    (λ p (row, before). (row, earlier_more p.file p.index f i before)) ((file, index, here, refl), inr (refl, omega arith))
    (λ p (row, before). elim (earlier_next p.file p.index f i before) [
      | inl earlier ↦ inl (row, earlier)
      | inr same ↦ inr (site_is p f i same.0 same.1 row.3)
    ])
    (λ p (row, before). earlier_before p f i before) is

-- one that is not
pub listed_past : (count : ObjectValue → ℕ) (fs : List ObjectValue) (P : ℕ → ℕ → Type 0) (f i : ℕ) (ps : List Site) → (P f i → ⊥) →
    Lists (UpTo (AtEach count fs P) f i) ps → Lists (UpTo (AtEach count fs P) f (i + 1)) ps
listed_past count fs P f i ps other is =
    lists_same (UpTo (AtEach count fs P) f i) (UpTo (AtEach count fs P) f (i + 1)) ps
    (λ p (row, before). (row, earlier_more p.file p.index f i before))
    (λ p (row, before). elim (earlier_next p.file p.index f i before) [
      | inl earlier ↦ (row, earlier)
      | inr same ↦ absurd (other (subst (λ n. P f n) same.1 (subst (λ n. P n p.index) same.0 row.2)))
    ]) is

-- what is before the next file is before the end of this one
pub row_back : (count : ObjectValue → ℕ) (fs : List ObjectValue) (P : ℕ → ℕ → Type 0) (f : ℕ) (p : Site) → AtEach count fs P p →
    IsEarlier p.file p.index (f + 1) 0 → IsEarlier p.file p.index f (count (object_at fs f))
row_back count fs P f p there (inr (same, never)) = absurd (omega arith)
row_back count fs P f p there (inl below) = elim (cases_lt p.file f) [
  | inl first ↦ inl first
  | inr above ↦ (
      let same : p.file ≡ f = omega arith in
      inr (same, subst (λ (n : ℕ). p.index < count (object_at fs n)) same there.1))
]

-- what is listed of a row up to the end of a file is listed up to the next one
pub listed_file : (count : ObjectValue → ℕ) (fs : List ObjectValue) (P : ℕ → ℕ → Type 0) (f : ℕ) (ps : List Site) →
    Lists (UpTo (AtEach count fs P) f (count (object_at fs f))) ps → Lists (UpTo (AtEach count fs P) (f + 1) 0) ps
listed_file count fs P f ps =
    lists_same (UpTo (AtEach count fs P) f (count (object_at fs f))) (UpTo (AtEach count fs P) (f + 1) 0) ps
    (λ p (row, earlier). (row, file_before p.file p.index f (count (object_at fs f)) earlier))
    (λ p (row, earlier). (row, row_back count fs P f p row earlier))

-- of two sites at most one comes before the other
pub one_before : (p q : Site) → Before p q → Before q p → ⊥
one_before p q (inl file) (inl other) = omega arith
one_before p q (inl file) (inr other) = (let same = other.0 in omega arith)
one_before p q (inr same) (inl other) = (let eq = same.0 in omega arith)
one_before p q (inr same) (inr other) = elim same.1 [
  | inl index ↦ elim other.1 [ inl lower ↦ omega arith | inr entry ↦ (let eq = entry.0 in omega arith) ]
  | inr entry ↦
      elim other.1 [ inl lower ↦ (let eq = entry.0 in omega arith) | inr again ↦ (let a = entry.1 in let b = again.1 in omega arith) ]
]

-- the earlier one of two sites of a list is before the other
pub position_before : (row : Row Site) (ps : List Site) (j k : ℕ) → Lists row ps → j < length ps → k < length ps →
    Before (site_at ps j) (site_at ps k) → j < k
position_before row ps j k is j_in k_in before = elim (cases_lt j k) [
  | inl below ↦ below
  | inr above ↦ elim (cases_lt k j) [
    | inl after ↦ absurd (one_before (site_at ps j) (site_at ps k) before (is.order k j after j_in))
    | inr same ↦ (
        let at : k ≡ j = omega arith in
        let self = subst (λ n. Before (site_at ps j) (site_at ps n)) at before in
        absurd (one_before (site_at ps j) (site_at ps j) self self))
  ]
]

pub once_of : (row : Row Site) (ps : List Site) → Lists row ps → AreOnce ps
once_of row ps is j k lt within same =
    let before = subst (λ (p : Site). Before p (site_at ps k)) same (is.order j k lt within) in
    one_before (site_at ps k) (site_at ps k) before before

-- A row has at most one first site, and one list of its sites: of two different sites one is earlier, so the heads of two lists are the
-- same, and by induction the rest. Therefore a list of rules has one fault.

-- ---- sites

same_site : (p q : Site) → p.file ≡ q.file → p.index ≡ q.index → p.entry ≡ q.entry → p ≡ q
same_site p q file index entry =
    ap (λ (n : ℕ). record { file = n; index = p.index; entry = p.entry }) file ∙
    ap (λ (n : ℕ). record { file = q.file; index = n; entry = p.entry }) index
    ∙ ap (λ (n : ℕ). record { file = q.file; index = q.index; entry = n }) entry

pub one_first : (row : Row Site) (p q : Site) → IsFirstAt row p → IsFirstAt row q → p ≡ q
one_first row p q first other =
    let (file, index) = first_same row p q first other in
    elim (cases_lt p.entry q.entry) [
      | inl below ↦ absurd (other.first p first.stands (inr (file, inr (index, below))))
      | inr not_below ↦ elim (cases_lt q.entry p.entry) [
        | inl above ↦ absurd (first.first q other.stands (inr (sym file, inr (sym index, above))))
        | inr not_above ↦ same_site p q file index (omega arith)
      ]
    ]

-- ---- lists of sites

in_rest : (x : Site) (xs : List Site) (p : Site) → Before x p → (k : ℕ) → k < length (x ∷ xs) → site_at (x ∷ xs) k ≡ p →
    (j : ℕ) × (j < length xs) × (site_at xs j ≡ p)
in_rest x xs p before zero lt at = (let self = subst (Before x) (sym at) before in absurd (one_before x x self self))
in_rest x xs p before (suc k) lt at = (k, omega arith, at)

-- a list of a row without its first site is that of the sites after it
later : (row : Row Site) (x : Site) (xs : List Site) → Lists row (x ∷ xs) → Lists (λ p. row p × Before x p) xs
later row x xs is = record {
  each = λ k lt. (is.each (suc k) (omega arith), is.order 0 (suc k) (omega arith) (omega arith));
  all = λ p (there, before). (let (k, lt, at) = is.all p there in in_rest x xs p before k lt at);
  order = λ j k lt within. is.order (suc j) (suc k) (omega arith) (omega arith);
}

first_or_after : (x : Site) (xs : List Site) (k : ℕ) → ((j : ℕ) → 0 < j → j < length (x ∷ xs) → Before x (site_at (x ∷ xs) j)) →
    k < length (x ∷ xs) → (x ≡ site_at (x ∷ xs) k) ⊎ Before x (site_at (x ∷ xs) k)
first_or_after x xs zero order lt = inl refl
first_or_after x xs (suc k) order lt = inr (order (suc k) (omega arith) lt)

-- the first site of a list of the row is no site after another one of the row
first_of : (row : Row Site) (x : Site) (xs : List Site) (p : Site) → Lists row (x ∷ xs) → row p → (x ≡ p) ⊎ Before x p
first_of row x xs p is there =
    let (k, lt, at) = is.all p there in
    subst (λ (q : Site). (x ≡ q) ⊎ Before x q) at (first_or_after x xs k (λ j above within. is.order 0 j above within) lt)

one_head : (row : Row Site) (x y : Site) (xs ys : List Site) → Lists row (x ∷ xs) → Lists row (y ∷ ys) → x ≡ y
one_head row x y xs ys is are = elim (first_of row x xs y is (are.each 0 (omega arith))) [
  | inl same ↦ same
  | inr before ↦ elim (first_of row y ys x are (is.each 0 (omega arith))) [
    | inl same ↦ sym same
    | inr other ↦ absurd (one_before x y before other)
  ]
]

pub one_site_list : (row : Row Site) (ps qs : List Site) → Lists row ps → Lists row qs → ps ≡ qs
one_site_list row [] [] is are = refl
one_site_list row [] (y ∷ ys) is are = (let (k, lt, at) = is.all y (are.each 0 (omega arith)) in absurd (omega arith))
one_site_list row (x ∷ xs) [] is are = (let (k, lt, at) = are.all x (is.each 0 (omega arith)) in absurd (omega arith))
one_site_list row (x ∷ xs) (y ∷ ys) is are =
    let same = one_head row x y xs ys is are in
    let rest = subst (λ (p : Site). Lists (λ q. row q × Before p q) ys) (sym same) (later row y ys are) in
    ap (λ (p : Site). p ∷ xs) same ∙
    ap (λ (ps : List Site). y ∷ ps) (one_site_list (λ q. row q × Before x q) xs ys (later row x xs is) rest)

-- ---- rules

-- rules at sites have one fault
pub one_found : (rules : List {1} (Ruled Site)) (a b : Option (ℕ × Site)) → FirstAt rules a → FirstAt rules b → a ≡ b
one_found = one_fault_by IsFirstAt (λ row p first. first.stands) one_first

-- A row that is broken somewhere is broken at a first site, if it can be tested at each symbol. Look for the least file that has such a
-- symbol, and in it for the least symbol: both searches end, since they are bounded.

-- the least number below n that P holds of, or none
least_below : (P : ℕ → Type 0) → ((k : ℕ) → P k ⊎ (P k → ⊥)) → (n : ℕ) →
    ((m : ℕ) × (m < n) × P m × ((j : ℕ) → j < m → P j → ⊥)) ⊎ ((j : ℕ) → j < n → P j → ⊥)
least_below P known zero = inr (λ j lt here. omega arith)
least_below P known (suc n) = elim (least_below P known n) [
  | inl (m, lt, here, first) ↦ inl (m, omega arith, here, first)
  | inr none ↦ elim (known n) [
    | inl here ↦ inl (n, omega arith, here, none)
    | inr other ↦ inr (λ j lt here. elim (cases_lt j n) [
      | inl below ↦ none j below here
      | inr above ↦ (let same : j ≡ n = omega arith in other (subst P same here))
    ])
  ]
]

-- P holds of some symbol of file f
abbrev SomeIn : List ObjectValue → (ℕ → ℕ → Type 0) → ℕ → Type 0
SomeIn fs P f = (i : ℕ) × (i < length (object_at fs f).symbols) × P f i × ((j : ℕ) → j < i → P f j → ⊥)

some_in : (fs : List ObjectValue) (P : ℕ → ℕ → Type 0) → ((f i : ℕ) → P f i ⊎ (P f i → ⊥)) → (f : ℕ) → SomeIn fs P f ⊎ (SomeIn fs P f → ⊥)
some_in fs P known f = elim (least_below (P f) (known f) (length (object_at fs f).symbols)) [
  | inl found ↦ inl found
  | inr none ↦ inr (λ (i, lt, here, first). none i lt here)
]

least_in : (fs : List ObjectValue) (P : ℕ → ℕ → Type 0) → ((f i : ℕ) → P f i ⊎ (P f i → ⊥)) → (f i : ℕ) →
    i < length (object_at fs f).symbols → P f i → SomeIn fs P f
least_in fs P known f i lt here = elim (least_below (P f) (known f) (length (object_at fs f).symbols)) [
  | inl found ↦ found
  | inr none ↦ absurd (none i lt here)
]

pub first_in_row : (fs : List ObjectValue) (P : ℕ → ℕ → Type 0) → ((f i : ℕ) → P f i ⊎ (P f i → ⊥)) → (p : Site) → AtSymbol fs P p →
    (q : Site) × IsFirstAt (AtSymbol fs P) q
first_in_row fs P known p (file, index, here, entry) = elim (least_below (SomeIn fs P) (some_in fs P known) (suc p.file)) [
  | inr none ↦ absurd (none p.file (omega arith) (least_in fs P known p.file p.index index here))
  | inl (f, lt, (i, i_in, stands, first), earlier) ↦ (
    site f i,
    record {
      stands = (omega arith, i_in, stands, refl);
      first = λ r (r_file, r_index, r_here, r_entry) before. elim before [
        | inl below ↦ earlier r.file below (least_in fs P known r.file r.index r_index r_here)
        | inr (same, rest) ↦ elim rest [
          | inl below ↦ first r.index below (subst (λ (n : ℕ). P n r.index) same r_here)
          | inr (again, never) ↦ omega arith
        ]
      ];
    },
  )
]

-- A list of rules at sites has an answer: it is absurd that it has none. The first site of a row is the least entry of the least index of
-- the least file. Each of these three is there, or never.

abbrev at : ℕ → ℕ → ℕ → Site
at f i e = record { file = f; index = i; entry = e }

-- the row holds at some site of this file; of this index in it
abbrev InFile : Row Site → ℕ → Type 0
InFile row f = (i e : ℕ) × row (at f i e)

abbrev AtIndex : Row Site → ℕ → ℕ → Type 0
AtIndex row f i = (e : ℕ) × row (at f i e)

-- the least entry of the least index of the least file is the first site
first_site : (row : Row Site) (f i e : ℕ) → IsLeast (InFile row) f → IsLeast (AtIndex row f) i → IsLeast (λ x. row (at f i x)) e →
    IsFirstAt row (at f i e)
first_site row f i e file index entry = record { stands = entry.holds; first = before } where
  before : (q : Site) → row q → Before q (at f i e) → ⊥
  before q stands (inl less) = (let least = file.lowest q.file (q.index, q.entry, stands) in omega arith)
  before q stands (inr (same, inl less)) =
      let here : AtIndex row f q.index = (q.entry, subst (λ x. row (at x q.index q.entry)) same stands) in
      let least = index.lowest q.index here in omega arith
  before q stands (inr (same, inr (alike, less))) =
      let here : row (at f q.index q.entry) = subst (λ x. row (at x q.index q.entry)) same stands in
      let least = entry.lowest q.entry (subst (λ x. row (at f x q.entry)) alike here) in omega arith

first_or_never : (row : Row Site) → ¬ (¬ HasFirst IsFirstAt row)
first_or_never row none = least_or_never (InFile row) by_file where
  by_entry : (f i : ℕ) → IsLeast (InFile row) f → IsLeast (AtIndex row f) i → ¬ HasFirst IsLeast (λ e. row (at f i e))
  by_entry f i file index (inl (e, entry)) = none (inl (at f i e, first_site row f i e file index entry))
  by_entry f i file index (inr never) = (let (e, stands) = index.holds in never e stands)

  by_index : (f : ℕ) → IsLeast (InFile row) f → ¬ HasFirst IsLeast (AtIndex row f)
  by_index f file (inl (i, index)) = least_or_never (λ e. row (at f i e)) (by_entry f i file index)
  by_index f file (inr never) = (let (i, e, stands) = file.holds in never i (e, stands))

  by_file : ¬ HasFirst IsLeast (InFile row)
  by_file (inl (f, file)) = least_or_never (AtIndex row f) (by_index f file)
  by_file (inr never) = none (inr (λ p stands. never p.file (p.index, p.entry, stands)))

pub some_site : (rules : List {1} (Ruled Site)) → ¬ ((x : Option (ℕ × Site)) → ¬ FirstAt rules x)
some_site rules = some_first IsFirstAt first_or_never rules
