-- Places of the parts of a plan, by position (`ArePlaced`): there is one for each part, and they ascend. By induction on the outputs,
-- output k starts after as many parts as the earlier outputs have. There are also small facts on counts of parts and on cells.
use Rattle.std.proofs.Common.{◌≡◌, ℕ, ◌+◌, ◌<◌, ◌≤◌, ◌^◌, List, [], ◌∷◌, ◌++◌, get_or, length, map, set, take, zero, suc, inl, inr, refl}
use Rattle.std.proofs.Common.{sym, ◌∙◌, ap, subst, arith, length-append, add-one, drop, append_assoc, drop-cons, ◌≢◌, ◌⊎◌}
use Rattle.std.specs.Global.{Vec}
use Rattle.std.specs.Prelude.{Option, Some, slice_index, None, MatchOption, replicate}
use Rattle.std.specs.List.{flat_map}
use Rattle.std.specs.Vec.{with_item}
use Rattle.std.proofs.lemmas.Bool.{cases_lt, cases_eq}
use Rattle.std.proofs.lemmas.List.{append-nil, get_or-map, length-map, map-set, take_more, get_or-set_other, get_or-set_same, length-set}
use Rattle.std.proofs.lemmas.List.{length-replicate}
use Rattle.std.proofs.lemmas.Grind.{flat_map-append}
use Rattle.std.proofs.lemmas.List.Folds.{length-flat_map-take}
use Rattle.std.proofs.Math.Seq.{get_or-append_seam}
use Rattle.elf_extent.proofs.Public.{above_earlier, fits_length, least_cons, least_places}
use Rattle.elf_extent.specs.Place.{end_of, Fits, HasNoPlace, IsLeastPlace, Least}
use Rattle.elf_link_files.proofs.Public.{site_is}
use Rattle.elf_link_files.specs.Files.{object_at}
use Rattle.elf_link_files.specs.Rows.{site, site_at}
use Rattle.elf_link_files.specs.declared.site.Chosen.{Chosen}
use Rattle.elf_link_files.specs.declared.site.Site.{Site}
use Rattle.elf_link_outputs.specs.Addresses.{HasNoValue, HasValue, IsCursor, StartsAt, StartsPast}
use Rattle.elf_link_outputs.specs.Outputs.{part_of, raised, common_part, flat, output_parts, parts_of, placed, PlanValue, plan_parts, live}
use Rattle.elf_link_outputs.specs.Placed.{members_at, start_of, ArePlaced, with_cell, AreAddresses, cell, AreEmptyRows, AreFilled, AreLive}
use Rattle.elf_link_outputs.specs.declared.addresses.Target.TheVariants.{Lost, Fixed}
use Rattle.elf_object_type.specs.Object.{ObjectValue}

pub places_long : (parts : List (ℕ × ℕ)) (places : List ℕ) → ArePlaced parts places → length places ≡ length parts
places_long parts places (base, least, fits) = fits_length parts base places least.fits

pub place_order : (parts : List (ℕ × ℕ)) (places : List ℕ) (first last : ℕ) → ArePlaced parts places → first ≤ last → last < length parts →
    slice_index places first ≤ slice_index places last
place_order parts places first last (base, least, fits) order within = elim (cases_lt first last) [
  | inl before ↦ (let above = above_earlier parts base places first last least.fits before within in omega arith)
  | inr after ↦
      (let same : first ≡ last = omega arith in subst (λ (n : ℕ). slice_index places first ≤ slice_index places n) same (omega arith))
]

pub end_fits : (parts : List (ℕ × ℕ)) (places : List ℕ) (last : ℕ) → ArePlaced parts places → last < length parts →
    end_of parts places last < 2 ^ 64
end_fits parts places last (base, least, fits) within = fits last within

pub size_is : (parts : List (ℕ × ℕ)) (k : ℕ) → k < length parts → slice_index (map (λ (p : ℕ × ℕ). p.0) parts) k ≡ (get_or parts k (0, 0)).0
size_is parts k lt = get_or-map (λ (p : ℕ × ℕ). p.0) parts k (0, 0) 0 lt

-- ---- where outputs begin

pub item_is : (outputs : List (Vec Site)) (i : ℕ) (v : Vec Site) → i < length outputs → v ≡ get_or outputs i v →
    members_at (map (λ ms. ms.items) outputs) i ≡ v.items
item_is outputs i v lt at =
    let items : Vec Site → List Site = λ ms. ms.items in
    get_or-map items outputs i v [] lt ∙ ap items (sym at)

pub start_next : (oss : List (List Site)) (i : ℕ) → i < length oss → start_of oss (suc i) ≡ start_of oss i + length (members_at oss i)
start_next [] i lt = absurd (omega arith)
start_next (o ∷ oss) zero lt = omega (arith, length-append o [])
start_next (o ∷ oss) (suc i) lt =
    omega (arith, length-append o (flat (take (suc i) oss)), length-append o (flat (take i oss)), start_next oss i (omega arith))

pub start_more : (oss : List (List Site)) (i : ℕ) → i < length oss → start_of oss (i + 1) ≡ start_of oss i + length (members_at oss i)
start_more oss i lt = subst (λ (n : ℕ). start_of oss n ≡ start_of oss i + length (members_at oss i)) (sym (add-one i)) (start_next oss i lt)

pub within_all : (oss : List (List Site)) (i : ℕ) → i < length oss → start_of oss i + length (members_at oss i) ≤ length (flat oss)
within_all oss i lt = length-flat_map-take (λ (ms : List Site). ms) oss i [] lt

pub length-raised : (page : ℕ) (ps : List (ℕ × ℕ)) → length (raised page ps) ≡ length ps
length-raised page [] = refl
length-raised page (p ∷ ps) = refl

pub length-outputs : (fs : List ObjectValue) (page : ℕ) (oss : List (List Site)) →
    length (flat_map (output_parts fs page) oss) ≡ length (flat oss)
length-outputs fs page [] = refl
length-outputs fs page (o ∷ oss) =
    omega (
      arith,
      length-append o (flat oss),
      length-append (output_parts fs page o) (flat_map (output_parts fs page) oss),
      length-raised page (map (part_of fs) o),
      length-map o (part_of fs),
      length-outputs fs page oss,
    )

pub parts_long : (fs : List ObjectValue) (page : ℕ) (oss : List (List Site)) (cs : List Chosen) →
    length (parts_of fs page (record { outputs = oss; commons = cs })) ≡ length (flat oss) + length cs
parts_long fs page oss cs =
    omega (
      arith,
      length-append (flat_map (output_parts fs page) oss) (raised page (map common_part cs)),
      length-outputs fs page oss,
      length-raised page (map common_part cs),
      length-map cs common_part,
    )

-- ---- one output more

pub flat_more : {A : Type 0} (f : List Site → List A) (groups : List (Vec Site)) (oss : List (List Site)) (i : ℕ) (v : Vec Site) →
    map (λ ms. ms.items) groups ≡ oss → i < length groups → v ≡ get_or groups i v →
    flat_map f (take (i + 1) oss) ≡ flat_map f (take i oss) ++ f v.items
flat_more f groups oss i v same lt at =
    let many = length-map groups (λ ms. ms.items) in
    let all = map (λ ms. ms.items) groups in
    subst (λ (os : List (List Site)). flat_map f (take (i + 1) os) ≡ flat_map f (take i os) ++ f v.items) same
    (ap (flat_map f) (take_more all i [] (omega arith) ∙ ap (λ (ms : List Site). take i all ++ ms ∷ []) (item_is groups i v lt at)) ∙
    flat_map-append f (take i all) (v.items ∷ []) ∙ ap (λ (xs : List _). flat_map f (take i all) ++ xs) (append-nil (f v.items)))

-- ---- the places of a plan

pub plan_long : (p : PlanValue) → length (plan_parts p) ≡ length (placed p.plan) + length p.plan.commons
plan_long p = parts_long p.objects p.page p.plan.outputs p.plan.commons

-- they are as many as its sections and commons
pub plan_places : (p : PlanValue) (places : List ℕ) → ArePlaced (plan_parts p) places →
    length places ≡ length (placed p.plan) + length p.plan.commons
plan_places p places are = places_long (plan_parts p) places are ∙ plan_long p

-- ---- a cell of rows

pub cell_set : (rows : List (Vec (Option ℕ))) (row : Vec (Option ℕ)) (f s a : ℕ) → f < length rows → row ≡ get_or rows f row →
    map (λ r. r.items) (set rows f (with_item row s (Some a))) ≡ with_cell (map (λ r. r.items) rows) f s a
cell_set rows row f s a lt at =
    let items : Vec (Option ℕ) → List (Option ℕ) = λ r. r.items in
    map-set items rows f (with_item row s (Some a)) ∙
    ap (λ (r : List (Option ℕ)). set (map items rows) f (set r s (Some a))) (ap items at ∙ sym (get_or-map items rows f row [] lt))

-- Where a part starts at the least places, by a walk with a cursor, the end of the part passed last. A part without a place below 2^64
-- starts there or later. So does each part after it, and each part after one that ends at 2^64 or later. A lost entry symbol has no value,
-- and a fixed one below 2^64 its own.

-- from a part at its least place on, all parts have their least places
placed_here : (parts : List (ℕ × ℕ)) (from i cursor x : ℕ) (p : ℕ × ℕ) (done rest : List ℕ) → i < length parts → p ≡ get_or parts i p →
    IsLeastPlace cursor p.1 x → Least (drop (i + 1) parts) (x + p.0) rest →
    ((rest : List ℕ) → Least (drop i parts) cursor rest → Least parts from (done ++ rest)) → Least parts from (done ++ x ∷ rest)
placed_here parts from i cursor x p done rest lt is place least goes =
    goes (x ∷ rest) (subst (λ (ps : List (ℕ × ℕ)). Least ps cursor (x ∷ rest))
    (sym (drop-cons parts i p lt ∙ ap (λ (q : ℕ × ℕ). q ∷ drop (suc i) parts) (sym is)))
    (least_cons p (drop (suc i) parts) cursor x rest place (subst (λ (n : ℕ). Least (drop n parts) (x + p.0) rest) (add-one i) least)))

pub cursor_more : (parts : List (ℕ × ℕ)) (from i cursor x : ℕ) (p : ℕ × ℕ) → i < length parts → p ≡ get_or parts i p →
    IsLeastPlace cursor p.1 x →
    IsCursor parts from i cursor → IsCursor parts from (i + 1) (x + p.0)
cursor_more parts from i cursor x p lt is place (done, long, goes) = (
  done ++ x ∷ [],
  simp length-append (omega arith),
  λ rest least. rw append_assoc (placed_here parts from i cursor x p done rest lt is place least goes),
)

-- the part at the cursor starts at its least place
pub starts_here : (parts : List (ℕ × ℕ)) (from i cursor x : ℕ) (p : ℕ × ℕ) → i < length parts → p ≡ get_or parts i p →
    IsLeastPlace cursor p.1 x →
    IsCursor parts from i cursor → StartsAt parts from i x
starts_here parts from i cursor x p lt is place (done, long, goes) =
    let (rest, least) = least_places (drop (i + 1) parts) (x + p.0) in (
      done ++ x ∷ rest,
      placed_here parts from i cursor x p done rest lt is place least goes,
      subst (λ (n : ℕ). get_or (done ++ x ∷ rest) n 0 ≡ x) long (get_or-append_seam done x rest 0),
    )

first_past : (p : ℕ × ℕ) (ps : List (ℕ × ℕ)) (cursor : ℕ) (rest : List ℕ) → HasNoPlace cursor p.1 → Fits (p ∷ ps) cursor rest →
    2 ^ 64 ≤ slice_index rest 0
first_past p ps cursor [] none fits = absurd fits
first_past p ps cursor (x ∷ xs) none (multiple, from, others) = none x multiple from

seam : (done rest : List ℕ) (i : ℕ) → length done ≡ i → slice_index (done ++ rest) i ≡ slice_index rest 0
seam [] rest i long = ap (λ (n : ℕ). slice_index rest n) (sym long)
seam (d ∷ done) rest zero long = absurd (omega arith)
seam (d ∷ done) rest (suc i) long = seam done rest i (omega arith)

-- it starts past the last address where it has no place
pub past_here : (parts : List (ℕ × ℕ)) (from i cursor : ℕ) (p : ℕ × ℕ) → i < length parts → p ≡ get_or parts i p → HasNoPlace cursor p.1 →
    IsCursor parts from i cursor → StartsPast parts from i
past_here parts from i cursor p lt is none (done, long, goes) =
    let (rest, least) = least_places (drop i parts) cursor in
    let whole : drop i parts ≡ p ∷ drop (suc i) parts = drop-cons parts i p lt ∙ ap (λ (q : ℕ × ℕ). q ∷ drop (suc i) parts) (sym is) in
    let past = first_past p (drop (suc i) parts) cursor rest none (subst (λ (ps : List (ℕ × ℕ)). Fits ps cursor rest) whole least.fits) in
    (done ++ rest, goes rest least, subst (λ (n : ℕ). 2 ^ 64 ≤ n) (sym (seam done rest i long)) past)

-- and each part after one that starts past the last address, or ends there
pub past_after : (parts : List (ℕ × ℕ)) (from i t : ℕ) → i < t → t < length parts → StartsPast parts from i → StartsPast parts from t
past_after parts from i t lt within (places, least, past) =
    let following = above_earlier parts from places i t least.fits lt within in
    (places, least, omega arith)

size_at : (parts : List (ℕ × ℕ)) (i : ℕ) (p : ℕ × ℕ) → i < length parts → p ≡ get_or parts i p →
    slice_index (map (λ (q : ℕ × ℕ). q.0) parts) i ≡ p.0
size_at [] i p lt is = absurd (omega arith)
size_at (q ∷ parts) zero p lt is = ap (λ (r : ℕ × ℕ). r.0) (sym is)
size_at (q ∷ parts) (suc i) p lt is = size_at parts i p (omega arith) is

pub past_end : (parts : List (ℕ × ℕ)) (from i t x : ℕ) (p : ℕ × ℕ) → i < t → t < length parts → p ≡ get_or parts i p → 2 ^ 64 ≤ x + p.0 →
    StartsAt parts from i x → StartsPast parts from t
past_end parts from i t x p lt within is past (places, least, at) =
    let following = above_earlier parts from places i t least.fits lt within in
    let size = size_at parts i p (omega arith) is in
    (places, least, omega arith)

pub starts_match : (parts : List (ℕ × ℕ)) (from t cursor : ℕ) (p : ℕ × ℕ) → t < length parts → p ≡ get_or parts t p →
    IsCursor parts from t cursor →
    (found : Option ℕ) → MatchOption found (HasNoPlace cursor p.1) (IsLeastPlace cursor p.1) →
    MatchOption found (StartsPast parts from t) (StartsAt parts from t)
starts_match parts from t cursor p lt is at None none = past_here parts from t cursor p lt is none at
starts_match parts from t cursor p lt is at (Some x) place = starts_here parts from t cursor x p lt is place at

-- ---- the entry symbol

none_some : (x : ℕ) → None ≡ Some x → ⊥
none_some x e = cc

pub no_value_lost : (parts : List (ℕ × ℕ)) (base : ℕ) → HasNoValue parts base Lost
no_value_lost parts base = let (places, least) = least_places parts base in (places, least, λ x e. absurd (none_some x e))

pub value_fixed : (parts : List (ℕ × ℕ)) (base value : ℕ) → value < 2 ^ 64 → HasValue parts base (Fixed value) value
value_fixed parts base value fits = let (places, least) = least_places parts base in (places, least, refl, fits)

-- The addresses in rows, one cell for each section. Filling a cell changes no other, and no section is placed twice; so after all members
-- each live section has its place, and every other cell is empty.

no_cell : (a : ℕ) → ◌≡◌ {A = Option ℕ} None (Some a) → ⊥
no_cell a e = cc

cell_here : (rows : List (List (Option ℕ))) (f s a : ℕ) → f < length rows → s < length (get_or rows f []) →
    cell (with_cell rows f s a) f s ≡ Some a
cell_here rows f s a f_in s_in =
    ap (λ (row : List (Option ℕ)). get_or row s None) (get_or-set_same rows f (set (get_or rows f []) s (Some a)) [] f_in) ∙
    get_or-set_same (get_or rows f []) s (Some a) None s_in

cell_other : (rows : List (List (Option ℕ))) (f s a g t : ℕ) → f < length rows → (g ≢ f) ⊎ (t ≢ s) →
    cell (with_cell rows f s a) g t ≡ cell rows g t
cell_other rows f s a g t f_in other = elim (cases_eq g f) [
  | inr away ↦ ap (λ (row : List (Option ℕ)). get_or row t None) (get_or-set_other rows f g (set (get_or rows f []) s (Some a)) [] away)
  | inl same ↦ elim other [
    | inl away ↦ absurd (away same)
    | inr away ↦
        rw same (ap (λ (row : List (Option ℕ)). get_or row t None) (get_or-set_same rows f (set (get_or rows f []) s (Some a)) [] f_in) ∙
        get_or-set_other (get_or rows f []) s t (Some a) None away)
  ]
]

row_length : (rows : List (List (Option ℕ))) (f s a g : ℕ) → f < length rows →
    length (get_or (with_cell rows f s a) g []) ≡ length (get_or rows g [])
row_length rows f s a g f_in = elim (cases_eq g f) [
  | inl same ↦
      rw same (ap (λ (row : List (Option ℕ)). length row) (get_or-set_same rows f (set (get_or rows f []) s (Some a)) [] f_in) ∙
      length-set (get_or rows f []) s (Some a))
  | inr away ↦ ap (λ (row : List (Option ℕ)). length row) (get_or-set_other rows f g (set (get_or rows f []) s (Some a)) [] away)
]

-- two sites of live sections at one position are the same
same_site : (fs : List ObjectValue) (p q : Site) → live fs p → live fs q → p.file ≡ q.file → p.index ≡ q.index → p ≡ q
same_site fs p q here there file index = site_is p q.file q.index file index here.3 ∙ sym (site_is q q.file q.index refl refl there.3)

apart : (fs : List ObjectValue) (ps : List Site) (j k : ℕ) → AreLive fs ps → j < k → k < length ps →
    ((site_at ps j).file ≢ (site_at ps k).file) ⊎ ((site_at ps j).index ≢ (site_at ps k).index)
apart fs ps j k are lt within = elim (cases_eq (site_at ps j).file (site_at ps k).file) [
  | inr away ↦ inl away
  | inl file ↦
      inr (λ index. are.once j k lt within
      (same_site fs (site_at ps j) (site_at ps k) (are.each j (omega arith)) (are.each k within) file index))
]

pub filled_more : (fs : List ObjectValue) (ps : List Site) (places : List ℕ) (k : ℕ) (rows : List (List (Option ℕ))) → AreLive fs ps →
    k < length ps →
    AreFilled fs ps places k rows →
    AreFilled fs ps places (k + 1) (with_cell rows (site_at ps k).file (site_at ps k).index (slice_index places k))
filled_more fs ps places k rows are within filled =
    let f = (site_at ps k).file in
    let s = (site_at ps k).index in
    let a = slice_index places k in
    let here = are.each k within in
    let files = filled.files in
    let f_in : f < length rows = (let below = here.0 in omega arith) in
    let long = filled.long f here.0 in
    let s_in : s < length (get_or rows f []) = (let below = here.1 in omega arith) in
    record {
      files = length-set rows f (set (get_or rows f []) s (Some a)) ∙ filled.files;
      long = λ g lt. row_length rows f s a g f_in ∙ filled.long g lt;
      placed = λ j lt. elim (cases_lt j k) [
        | inl below ↦
            cell_other rows f s a (site_at ps j).file (site_at ps j).index f_in (apart fs ps j k are below within) ∙ filled.placed j below
        | inr above ↦ (
            let same : k ≡ j = omega arith in
            subst (λ (n : ℕ). cell (with_cell rows f s a) (site_at ps n).file (site_at ps n).index ≡ Some (slice_index places n)) same
            (cell_here rows f s a f_in s_in))
      ];
      others = λ g t b at. elim (cases_eq g f) [
        | inr away ↦
            (let (j, lt, same_file, same_index) = filled.others g t b (sym (cell_other rows f s a g t f_in (inl away)) ∙ at) in
            (j, omega arith, same_file, same_index))
        | inl file ↦ elim (cases_eq t s) [
          | inr away ↦
              (let (j, lt, same_file, same_index) = filled.others g t b (sym (cell_other rows f s a g t f_in (inr away)) ∙ at) in
              (j, omega arith, same_file, same_index))
          | inl index ↦ (k, omega arith, sym file, sym index)
        ]
      ];
    }

none_all : (n s : ℕ) → ◌≡◌ {A = Option ℕ} (get_or (replicate n None) s None) None
none_all zero s = refl
none_all (suc n) zero = refl
none_all (suc n) (suc s) = none_all n s

past : (xs : List (List (Option ℕ))) (n : ℕ) → length xs ≤ n → get_or xs n [] ≡ []
past [] n le = refl
past (x ∷ xs) zero le = absurd (omega arith)
past (x ∷ xs) (suc n) le = past xs n (omega arith)

empty_cell : (rows : List (List (Option ℕ))) (fs : List ObjectValue) (f s : ℕ) → AreEmptyRows fs (length fs) rows → cell rows f s ≡ None
empty_cell rows fs f s are = elim (cases_lt f (length fs)) [
  | inl below ↦ ap (λ (row : List (Option ℕ)). get_or row s None) (are.each f below) ∙ none_all (length (object_at fs f).sections) s
  | inr above ↦ ap (λ (row : List (Option ℕ)). get_or row s None) (past rows f (let count = are.count in omega arith))
]

pub filled_none : (fs : List ObjectValue) (ps : List Site) (places : List ℕ) (rows : List (List (Option ℕ))) →
    AreEmptyRows fs (length fs) rows →
    AreFilled fs ps places 0 rows
filled_none fs ps places rows are = record {
  files = are.count;
  long = λ f lt. ap (λ (row : List (Option ℕ)). length row) (are.each f lt) ∙ length-replicate (length (object_at fs f).sections) None;
  placed = λ k lt. absurd (omega arith);
  others = λ f s a at. absurd (no_cell a (sym (empty_cell rows fs f s are) ∙ at));
}

absent : (fs : List ObjectValue) (ps : List Site) (places : List ℕ) (rows : List (List (Option ℕ))) (f s : ℕ) → AreLive fs ps →
    AreFilled fs ps places (length ps) rows → (live fs (site f s) → ⊥) → (o : Option ℕ) → cell rows f s ≡ o → cell rows f s ≡ None
absent fs ps places rows f s are filled never None at = at
absent fs ps places rows f s are filled never (Some a) at =
    let (k, lt, file, index) = filled.others f s a at in
    absurd (never (subst (live fs) (site_is (site_at ps k) f s file index (are.each k lt).3) (are.each k lt)))

pub addresses_are : (fs : List ObjectValue) (ps : List Site) (places : List ℕ) (rows : List (List (Option ℕ))) → AreLive fs ps →
    AreFilled fs ps places (length ps) rows → AreAddresses fs ps places rows
addresses_are fs ps places rows are filled = record {
  files = filled.files;
  long = filled.long;
  placed = filled.placed;
  only = filled.others;
  none = λ f s. (
    (λ none there. (
        let (k, lt, at) = are.all (site f s) there in
        no_cell (slice_index places k)
        (sym none ∙ subst (λ (p : Site). cell rows p.file p.index ≡ Some (slice_index places k)) at (filled.placed k lt)))),
    (λ never. absent fs ps places rows f s are filled never (cell rows f s) refl),
  );
}
