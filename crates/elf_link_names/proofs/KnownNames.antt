-- Names by their indexes, in the order in which they come first, with what is known of each.
use Rattle.std.proofs.Common.{◌≡◌, ℕ, ◌+◌, ◌<◌, ◌⊎◌, Bool, List, length, inl, inr, refl, sym, ◌∙◌, ap, subst, arith, ◌≢◌, true, false, []}
use Rattle.std.proofs.Common.{get_or, map, ◌↔◌, ◌∷◌, ◌++◌, set, length-append}
use Rattle.std.specs.Prelude.{if◌then◌else◌, IfSome, Option, Some, MatchOption, cond, None}
use Rattle.std.specs.Str.{bytes_eq}
use Rattle.std.proofs.lemmas.Bool.{cases_eq, cases_lt}
use Rattle.std.proofs.lemmas.Slice.Eq.{bytes_eq-Decides}
use Rattle.std.specs.Global.{Vec}
use Rattle.std.proofs.lemmas.List.{get_or_push, get_or-set_other, get_or-set_same, length-map, length-set, map-append}
use Rattle.std.proofs.Math.ListN.{get_or-append}
use Rattle.std.proofs.Math.Seq.{map-set_same}
use Rattle.elf_extent.specs.Extent.{Never}
use Rattle.elf_field.specs.Abi.{STB_LOCAL}
use Rattle.elf_link_files.proofs.Public.{first_in_row, site_is, same_name, match_map, not_true, table_read, first_earlier, lists_same}
use Rattle.elf_link_files.proofs.Public.{listed_file, listed_more, listed_past, file_before, row_back, known_other, first_here}
use Rattle.elf_link_files.proofs.Public.{strong_entry, weak_entry}
use Rattle.elf_link_files.specs.Files.{symbol_in, IsEntry, object_at, IsEarlier, IsCommon, IsNotWeak, IsStrong, IsWeak}
use Rattle.elf_link_files.specs.Rows.{Lists, site, site_at, name_at, Before, IsFirstAt, UpTo, AtSymbol, symbol_count, entries, IsLargest}
use Rattle.elf_link_files.specs.Rows.{commons, strong, weak}
use Rattle.elf_link_files.specs.declared.inputs.SymbolId.{SymbolId}
use Rattle.elf_link_files.specs.declared.site.Site.{Site}
use Rattle.elf_link_files.specs.KnownBefore.{IsBest, IsCommonBest, IsKnownBefore, NoneBefore, SomeBefore, id_in, id_site}
use Rattle.elf_link_names.specs.Binds.{first_entries, IsUnbound, IsFirstEntry}
use Rattle.elf_link_names.specs.KnownNames.{ArePositionsOf, AreNameIndexes, AreIndexRows, IsNameIndex, IsIndexRow, KeepsPositions}
use Rattle.elf_link_names.specs.KnownNames.{AreAllKnown, AreKnownBefore, IsKnownWhole, IsWholeBest, IsWholeBlock, first_site, known_at}
use Rattle.elf_link_names.specs.KnownNames.{no_known}
use Rattle.elf_link_files.specs.declared.known.Block.{Block}
use Rattle.elf_link_files.specs.declared.known.Known.{Known}
use Rattle.elf_link_names.specs.Tables.{IsSymbolLookup}
use Rattle.elf_link_names.specs.declared.name_index.Lookup.{Lookup}
use Rattle.elf_object_type.specs.Object.{ObjectValue, binding}

-- Names by position, in the order of their first entries: one more name extends the positions. Two first entries have two names, since one
-- is before the other. Each name with an entry has a first one (`first_in_row`), so it is listed.

-- ---- a name is noted at its position

pub positions_more : (fs : List ObjectValue) (ps : List Site) (n : ℕ) (m : List ℕ) (old now : List ℕ → Option ℕ) →
    m ≡ name_at fs (site_at ps n) →
    ((q : List ℕ) → now q ≡ (if bytes_eq m q then Some n else old q)) → ArePositionsOf fs ps n old → ArePositionsOf fs ps (n + 1) now
positions_more fs ps n m old now here added are name = elim (same_name m name) [
  | inl same ↦
      subst (λ (o : Option ℕ). MatchOption o ((k : ℕ) → k < n + 1 → name_at fs (site_at ps k) ≡ name → ⊥)
      (λ k. (k < n + 1) × (name_at fs (site_at ps k) ≡ name)))
      (sym (added name ∙ ap (λ (t : Bool). if t then Some n else old name) ((bytes_eq-Decides m name).1 same)))
      (omega arith, sym here ∙ same)
  | inr other ↦
      subst (λ (o : Option ℕ). MatchOption o ((k : ℕ) → k < n + 1 → name_at fs (site_at ps k) ≡ name → ⊥)
      (λ k. (k < n + 1) × (name_at fs (site_at ps k) ≡ name)))
      (sym (added name ∙
      ap (λ (t : Bool). if t then Some n else old name) (not_true (bytes_eq m name) (λ equal. other ((bytes_eq-Decides m name).0 equal)))))
      (match_map (old name) _ ((k : ℕ) → k < n + 1 → name_at fs (site_at ps k) ≡ name → ⊥) _
      (λ k. (k < n + 1) × (name_at fs (site_at ps k) ≡ name))
      (λ none k lt is. elim (cases_lt k n) [
        | inl below ↦ none k below is
        | inr above ↦ (let same : n ≡ k = omega arith in other (here ∙ ap (λ (j : ℕ). name_at fs (site_at ps j)) same ∙ is))
      ])
      (λ k (lt, is). (omega arith, is)) (are name))
]

-- ---- first entries

-- a first entry is an entry of its name
pub entry_there : (fs : List ObjectValue) (p : Site) → first_entries fs p → entries fs (name_at fs p) p
entry_there fs p (file, index, first, entry) = (file, index, first.0, entry)

first_there : (fs : List ObjectValue) (p : Site) (q : List ℕ) → first_entries fs p → name_at fs p ≡ q → IsFirstAt (entries fs q) p
first_there fs p q (file, index, first, entry) is =
    subst (λ (n : List ℕ). IsFirstAt (entries fs n) p) is
    (subst (λ (r : Site). IsFirstAt (entries fs (name_at fs p)) r) (sym (site_is p p.file p.index refl refl entry)) first.1)

-- two of them, one before the other, have two names
pub apart_names : (fs : List ObjectValue) (p q : Site) → first_entries fs p → first_entries fs q → Before p q → (n : List ℕ) →
    name_at fs p ≡ n →
    name_at fs q ≡ n → ⊥
apart_names fs p q p_row q_row before n one other =
    (first_there fs q n q_row other).first p (subst (λ (m : List ℕ). entries fs m p) one (entry_there fs p p_row)) before

pub names_once : (fs : List ObjectValue) (ps : List Site) → Lists (first_entries fs) ps → (j k : ℕ) → j < k → k < length ps → (q : List ℕ) →
    name_at fs (site_at ps j) ≡ q → name_at fs (site_at ps k) ≡ q → ⊥
names_once fs ps are j k lt within q one other =
    apart_names fs (site_at ps j) (site_at ps k) (are.each j (omega arith)) (are.each k within) (are.order j k lt within) q one other

pub entry_decided : (fs : List ObjectValue) (name : List ℕ) (f i : ℕ) → IsEntry fs name f i ⊎ (IsEntry fs name f i → ⊥)
entry_decided fs name f i = elim (cases_eq (binding (symbol_in fs f i)) STB_LOCAL) [
  | inl local ↦ inr (λ is. is.0 local)
  | inr not_local ↦ elim (same_name (symbol_in fs f i).name name) [
    | inr other ↦ inr (λ is. other is.1)
    | inl named ↦ inl (not_local, named)
  ]
]

-- each name with an entry is the name of one of them
pub entry_listed : (fs : List ObjectValue) (ps : List Site) (name : List ℕ) (p : Site) → Lists (first_entries fs) ps → entries fs name p →
    (k : ℕ) × (k < length ps) × (name_at fs (site_at ps k) ≡ name)
entry_listed fs ps name p are there =
    let (q, first) = first_in_row fs (IsEntry fs name) (entry_decided fs name) p there in
    let (file, index, is, entry) = first.stands in
    let at = site_is q q.file q.index refl refl entry in
    let stands = subst (λ (n : List ℕ). IsEntry fs n q.file q.index × IsFirstAt (entries fs n) (site q.file q.index)) (sym is.1)
    (is, subst (λ (r : Site). IsFirstAt (entries fs name) r) at first) in
    let (k, lt, here) = are.all q (file, index, stands, entry) in
    (k, lt, ap (name_at fs) here ∙ is.1)

-- Names keep their positions as new ones are added (`keeps_new`), so the rows of indexes noted for earlier symbols and files remain right.
-- An index read from the rows is the position of that symbol's name, if the symbol is not local.

-- ---- a name keeps its position

pub keeps_on : (first old now : List ℕ → Option ℕ) → KeepsPositions first old → KeepsPositions old now → KeepsPositions first now
keeps_on first old now one other q k at = other q k (one q k at)

pub keeps_new : (old now : List ℕ → Option ℕ) (n : List ℕ) (next : ℕ) → old n ≡ None →
    ((q : List ℕ) → now q ≡ cond (bytes_eq n q) (Some next) (old q)) →
    KeepsPositions old now
keeps_new old now n next none added q k at = by_name (bytes_eq n q) refl (added q) where
  by_name : (same : Bool) → bytes_eq n q ≡ same → now q ≡ cond same (Some next) (old q) → now q ≡ Some k
  by_name true same is = (let other : ◌≡◌ {A = Option ℕ} None (Some k) = sym none ∙ ap old ((bytes_eq-Decides n q).0 same) ∙ at in cc)
  by_name false same is = is ∙ at

-- ---- so what was said of an index stays true

pub row_kept : (fs : List ObjectValue) (old now : List ℕ → Option ℕ) (f n : ℕ) (row : List ℕ) → KeepsPositions old now →
    IsIndexRow fs old f n row →
    IsIndexRow fs now f n row
row_kept fs old now f n row kept are = record {
  count = are.count;
  each = λ i lt not_local. kept (symbol_in fs f i).name (get_or row i 0) (are.each i lt not_local);
}

pub rows_kept : (fs : List ObjectValue) (old now : List ℕ → Option ℕ) (n : ℕ) (rows : List (List ℕ)) → KeepsPositions old now →
    AreIndexRows fs old n rows →
    AreIndexRows fs now n rows
rows_kept fs old now n rows kept are = record {
  count = are.count;
  each = λ f lt. row_kept fs old now f (length (object_at fs f).symbols) (get_or rows f []) kept (are.each f lt);
}

-- nor a lookup what it found
found_kept : (old now : List ℕ → Option ℕ) (name : List ℕ) (found : Option ℕ) → KeepsPositions old now →
    IfSome found (λ p. old name ≡ Some p) → IfSome found (λ p. now name ≡ Some p)
found_kept old now name None kept is = tt
found_kept old now name (Some p) kept is = kept name p is

pub lookup_kept : (fs : List ObjectValue) (f i : ℕ) (lookup : Lookup) (old now : List ℕ → Option ℕ) → KeepsPositions old now →
    IsSymbolLookup fs old f i lookup → IsSymbolLookup fs now f i lookup
lookup_kept fs f i lookup old now kept is not_local =
    let its = is not_local in (its.0, found_kept old now (symbol_in fs f i).name lookup.position kept its.1)

-- ---- an index is read

pub index_read : (fs : List ObjectValue) (position : List ℕ → Option ℕ) (rows : List (Vec ℕ)) (row : Vec ℕ) (f i k : ℕ) → f < length fs →
    i < length (object_at fs f).symbols → binding (symbol_in fs f i) ≢ STB_LOCAL → row ≡ get_or rows f row → k ≡ get_or row.items i k →
    AreNameIndexes fs position (map (λ r. r.items) rows) → position (symbol_in fs f i).name ≡ Some k
unfolding AreNameIndexes
index_read fs position rows row f i k f_in i_in not_local row_is k_is are =
    table_read 0 (IsNameIndex fs position) (λ g. length (object_at fs g).symbols)
    (length fs) rows row f i k f_in i_in row_is k_is are not_local

-- What is known of each name, kept up symbol by symbol. A symbol changes only what is known of its own name: whether an entry is not
-- WEAK, the first definitions, and the largest common. After the last file this is what the whole link says of the name.

-- ---- all names

-- no entry of a name is before, where none of the first entries has it
none_listed : (fs : List ObjectValue) (f i : ℕ) (ps : List Site) (name : List ℕ) → Lists (UpTo (first_entries fs) f i) ps →
    ((k : ℕ) → k < length ps → name_at fs (site_at ps k) ≡ name → ⊥) → NoneBefore (entries fs name) f i
none_listed fs f i ps name are none p there earlier =
    let (q, first) = first_in_row fs (IsEntry fs name) (entry_decided fs name) p there in
    let (file, index, is, entry) = first.stands in
    let at = site_is q q.file q.index refl refl entry in
    let p_at = site_is p p.file p.index refl refl there.3 in
    let stands = subst (λ (n : List ℕ). IsEntry fs n q.file q.index × IsFirstAt (entries fs n) (site q.file q.index)) (sym is.1)
    (is, subst (λ (r : Site). IsFirstAt (entries fs name) r) at first) in
    let (k, lt, here) =
    are.all q (
      (file, index, stands, entry),
      first_earlier (entries fs name) q p.file p.index f i first (subst (entries fs name) p_at there) earlier,
    ) in
    none k lt (ap (name_at fs) here ∙ is.1)

-- where a name has its position
pub placed_at : (fs : List ObjectValue) (f i : ℕ) (position : List ℕ → Option ℕ) (ks : List Known) (name : List ℕ) (k : ℕ) →
    position name ≡ Some k → AreKnownBefore fs f i position ks → (k < length ks) × (name_at fs (site_at (map first_site ks) k) ≡ name)
placed_at fs f i position ks name k at is =
    subst (λ (o : Option ℕ). MatchOption o ((j : ℕ) → j < length ks → name_at fs (site_at (map first_site ks) j) ≡ name → ⊥)
    (λ j. (j < length ks) × (name_at fs (site_at (map first_site ks) j) ≡ name))) at (is.places name)

pub not_placed : (fs : List ObjectValue) (f i : ℕ) (position : List ℕ → Option ℕ) (ks : List Known) (name : List ℕ) →
    position name ≡ None → AreKnownBefore fs f i position ks → (k : ℕ) → k < length ks → name_at fs (site_at (map first_site ks) k) ≡ name →
    ⊥
not_placed fs f i position ks name at is =
    subst (λ (o : Option ℕ). MatchOption o ((j : ℕ) → j < length ks → name_at fs (site_at (map first_site ks) j) ≡ name → ⊥)
    (λ j. (j < length ks) × (name_at fs (site_at (map first_site ks) j) ≡ name))) at (is.places name)

pub none_placed : (fs : List ObjectValue) (f i : ℕ) (position : List ℕ → Option ℕ) (ks : List Known) (name : List ℕ) →
    position name ≡ None → AreKnownBefore fs f i position ks → NoneBefore (entries fs name) f i
none_placed fs f i position ks name at is =
    let many = length-map ks first_site in
    none_listed fs f i (map first_site ks) name is.firsts (λ k lt. not_placed fs f i position ks name at is k (omega arith))

pub names_local : (fs : List ObjectValue) (f i : ℕ) (position : List ℕ → Option ℕ) (ks : List Known) →
    binding (symbol_in fs f i) ≡ STB_LOCAL →
    AreKnownBefore fs f i position ks → AreKnownBefore fs f (i + 1) position ks
names_local fs f i position ks local is = record {
  places = is.places;
  firsts = listed_past symbol_count fs (IsFirstEntry fs) f i (map first_site ks) (λ first. first.0.0 local) is.firsts;
  each = λ k lt. known_other fs (name_at fs (site_at (map first_site ks) k)) f i (known_at ks k) (λ entry. entry.0 local) (is.each k lt);
}

-- no two first entries before a position have one name
names_once_before : (fs : List ObjectValue) (f i : ℕ) (ps : List Site) → Lists (UpTo (first_entries fs) f i) ps → (j k : ℕ) → j < k →
    k < length ps → (q : List ℕ) →
    name_at fs (site_at ps j) ≡ q → name_at fs (site_at ps k) ≡ q → ⊥
names_once_before fs f i ps are j k lt within q one other =
    apart_names fs (site_at ps j) (site_at ps k) (are.each j (omega arith)).0 (are.each k within).0 (are.order j k lt within) q one other

-- a name that has a position
pub names_again : (fs : List ObjectValue) (f i : ℕ) (old now : List ℕ → Option ℕ) (ks : List Known) (k : ℕ) (known : Known) →
    ((q : List ℕ) → now q ≡ old q) → old (symbol_in fs f i).name ≡ Some k → known.first ≡ (known_at ks k).first →
    IsKnownBefore fs (symbol_in fs f i).name f (i + 1) known → AreKnownBefore fs f i old ks →
    AreKnownBefore fs f (i + 1) now (set ks k known)
names_again fs f i old now ks k known same at first next is =
    let name = (symbol_in fs f i).name in
    let (lt, named) = placed_at fs f i old ks name k at is in
    let many = length-map ks first_site in
    let sites : map first_site (set ks k known) ≡ map first_site ks = map-set_same first_site ks k known no_known (ap id_site first) in
    let long : length (set ks k known) ≡ length ks = length-set ks k known in
    record {
      places = λ q. rw (same q, sites, long) (is.places q);
      firsts = rw sites (listed_past symbol_count fs (IsFirstEntry fs) f i (map first_site ks) (λ entry. (
          let (row, earlier) = is.firsts.each k (omega arith) in
          entry.1.first (site_at (map first_site ks) k)
          (row.0, row.1, (row.2.0.0, named), row.3)
          (elim earlier [ inl below ↦ inl below | inr (file, below) ↦ inr (file, inl below) ]))) is.firsts);
      each = λ j j_in. elim (cases_eq j k) [
        | inl equal ↦
            rw (equal, sites, get_or-set_same ks k known no_known lt) (subst (λ n. IsKnownBefore fs n f (i + 1) known) (sym named) next)
        | inr differ ↦ rw (sites, get_or-set_other ks k j known no_known differ)
            (known_other fs (name_at fs (site_at (map first_site ks) j)) f i (known_at ks j)
            (λ entry. elim (cases_lt j k) [
              | inl below ↦ names_once_before fs f i (map first_site ks) is.firsts j k below (omega arith) name (sym entry.1) named
              | inr above ↦ names_once_before fs f i (map first_site ks) is.firsts k j (omega arith) (omega arith) name named (sym entry.1)
            ]) (is.each j (omega arith)))
      ];
    }

-- a further name
pub names_new : (fs : List ObjectValue) (f i : ℕ) (old now : List ℕ → Option ℕ) (ks : List Known) (known : Known) → f < length fs →
    i < length (object_at fs f).symbols → binding (symbol_in fs f i) ≢ STB_LOCAL →
    ((q : List ℕ) → now q ≡ (if bytes_eq (symbol_in fs f i).name q then Some (length ks) else old q)) → old (symbol_in fs f i).name ≡ None →
    known.first ≡ id_in f i → IsKnownBefore fs (symbol_in fs f i).name f (i + 1) known → AreKnownBefore fs f i old ks →
    AreKnownBefore fs f (i + 1) now (ks ++ known ∷ [])
names_new fs f i old now ks known file index not_local added missing first next is =
    let name = (symbol_in fs f i).name in
    let none = not_placed fs f i old ks name missing is in
    let none_entry = none_placed fs f i old ks name missing is in
    let many = length-map ks first_site in
    let sites : map first_site (ks ++ known ∷ []) ≡ map first_site ks ++ site f i ∷ [] =
    map-append first_site ks (known ∷ []) ∙ ap (λ (s : SymbolId). map first_site ks ++ id_site s ∷ []) first in
    let long : length (ks ++ known ∷ []) ≡ length ks + 1 = simp length-append in
    let last : site_at (map first_site ks ++ site f i ∷ []) (length ks) ≡ site f i =
    get_or_push (map first_site ks) (site f i) (site 0 0) (length ks) many in
    let kept : (k : ℕ) → k < length ks → site_at (map first_site ks ++ site f i ∷ []) k ≡ site_at (map first_site ks) k =
    (λ k lt. get_or-append (map first_site ks) (site f i ∷ []) (site 0 0) k (omega arith)) in
    record {
      places = rw (sites, long)
          (positions_more fs (map first_site ks ++ site f i ∷ []) (length ks) name old now (ap (name_at fs) (sym last)) added
          (λ q. match_map (old q) _ ((k : ℕ) → k < length ks → name_at fs (site_at (map first_site ks ++ site f i ∷ []) k) ≡ q → ⊥) _
          (λ k. (k < length ks) × (name_at fs (site_at (map first_site ks ++ site f i ∷ []) k) ≡ q))
          (λ absent k lt at. absent k lt (ap (name_at fs) (sym (kept k lt)) ∙ at))
          (λ k (lt, at). (lt, ap (name_at fs) (kept k lt) ∙ at)) (is.places q)));
      firsts = rw sites (listed_more symbol_count fs (IsFirstEntry fs) f i (map first_site ks) file index
          ((not_local, refl), (first_here fs (IsEntry fs name) f i file index (not_local, refl) none_entry).0) is.firsts);
      each = λ k lt. elim (cases_lt k (length ks)) [
        | inl below ↦ rw (sites, kept k below, get_or-append ks (known ∷ []) no_known k below)
            (known_other fs (name_at fs (site_at (map first_site ks) k)) f i (known_at ks k) (λ entry. none k below (sym entry.1))
            (is.each k below))
        | inr above ↦ (
            let end : k ≡ length ks = omega arith in
            rw (end, sites, last, get_or_push ks known no_known (length ks) refl) next)
      ];
    }

-- ---- the end of a file

file_back : (fs : List ObjectValue) (P : ℕ → ℕ → Type 0) (f : ℕ) (p : Site) → AtSymbol fs P p → IsEarlier p.file p.index (f + 1) 0 →
    IsEarlier p.file p.index f (length (object_at fs f).symbols)
file_back fs P f p there earlier = row_back symbol_count fs P f p there earlier

best_file : (fs : List ObjectValue) (P : ℕ → ℕ → Type 0) (f : ℕ) (best : Option SymbolId) →
    IsBest (AtSymbol fs P) f (length (object_at fs f).symbols) best →
    IsBest (AtSymbol fs P) (f + 1) 0 best
best_file fs P f None none = λ p there earlier. none p there (file_back fs P f p there earlier)
best_file fs P f (Some s) (first, earlier) = (first, file_before s.file s.index f (length (object_at fs f).symbols) earlier)

largest_file : (fs : List ObjectValue) (P : ℕ → ℕ → Type 0) (f : ℕ) (measure : ℕ → ℕ → ℕ) (n : ℕ) →
    IsLargest (UpTo (AtSymbol fs P) f (length (object_at fs f).symbols)) measure n → IsLargest (UpTo (AtSymbol fs P) (f + 1) 0) measure n
largest_file fs P f measure n is = record {
  above = λ p (row, earlier). is.above p (row, file_back fs P f p row earlier);
  attained = (let (p, (row, earlier), at) = is.attained in
      (p, (row, file_before p.file p.index f (length (object_at fs f).symbols) earlier), at));
}

block_file : (fs : List ObjectValue) (name : List ℕ) (f : ℕ) (best : Option Block) →
    IsCommonBest fs name f (length (object_at fs f).symbols) best →
    IsCommonBest fs name (f + 1) 0 best
block_file fs name f None none = λ p there earlier. none p there (file_back fs (IsCommon fs name) f p there earlier)
block_file fs name f (Some b) is = record {
  first = (is.first.0, file_before b.first.file b.first.index f (length (object_at fs f).symbols) is.first.1);
  size = largest_file fs (IsCommon fs name) f _ b.size is.size;
  align = largest_file fs (IsCommon fs name) f _ b.align is.align;
}

found_file : (fs : List ObjectValue) (P : ℕ → ℕ → Type 0) (f : ℕ) (found : Bool) →
    (found ≡ true) ↔ SomeBefore (AtSymbol fs P) f (length (object_at fs f).symbols) → (found ≡ true) ↔ SomeBefore (AtSymbol fs P) (f + 1) 0
found_file fs P f found states = (
  (λ yes. (let (p, there, earlier) = states.0 yes in (p, there, file_before p.file p.index f (length (object_at fs f).symbols) earlier))),
  (λ (p, there, earlier). states.1 (p, there, file_back fs P f p there earlier)),
)

known_file : (fs : List ObjectValue) (name : List ℕ) (f : ℕ) (k : Known) → IsKnownBefore fs name f (length (object_at fs f).symbols) k →
    IsKnownBefore fs name (f + 1) 0 k
known_file fs name f k is = record {
  strong = best_file fs (IsStrong fs name) f k.strong is.strong;
  weak = best_file fs (IsWeak fs name) f k.weak is.weak;
  common = block_file fs name f k.common is.common;
  not_weak = found_file fs (IsNotWeak fs name) f k.not_weak is.not_weak;
}

pub names_file : (fs : List ObjectValue) (f : ℕ) (position : List ℕ → Option ℕ) (ks : List Known) →
    AreKnownBefore fs f (length (object_at fs f).symbols) position ks → AreKnownBefore fs (f + 1) 0 position ks
names_file fs f position ks is = record {
  places = is.places;
  firsts = listed_file symbol_count fs (IsFirstEntry fs) f (map first_site ks) is.firsts;
  each = λ k lt. known_file fs (name_at fs (site_at (map first_site ks) k)) f (known_at ks k) (is.each k lt);
}

-- ---- all symbols

best_whole : (fs : List ObjectValue) (P : ℕ → ℕ → Type 0) (best : Option SymbolId) → IsBest (AtSymbol fs P) (length fs) 0 best →
    IsWholeBest (AtSymbol fs P) best
best_whole fs P None none = λ p there. none p there (inl there.0)
best_whole fs P (Some s) is = is.0

largest_whole : (fs : List ObjectValue) (P : ℕ → ℕ → Type 0) (measure : ℕ → ℕ → ℕ) (n : ℕ) →
    IsLargest (UpTo (AtSymbol fs P) (length fs) 0) measure n → IsLargest (AtSymbol fs P) measure n
largest_whole fs P measure n is = record {
  above = λ p row. is.above p (row, inl row.0);
  attained = (let (p, (row, earlier), at) = is.attained in (p, row, at));
}

block_whole : (fs : List ObjectValue) (name : List ℕ) (best : Option Block) → IsCommonBest fs name (length fs) 0 best →
    MatchOption best (Never (commons fs name)) (IsWholeBlock fs name)
block_whole fs name None none = λ p there. none p there (inl there.0)
block_whole fs name (Some b) is = record {
  first = is.first.0;
  size = largest_whole fs (IsCommon fs name) _ b.size is.size;
  align = largest_whole fs (IsCommon fs name) _ b.align is.align;
}

whole : (fs : List ObjectValue) (name : List ℕ) (k : Known) → ((p : Site) × entries fs name p) → IsKnownBefore fs name (length fs) 0 k →
    IsKnownWhole fs name k
whole fs name k entry is = record {
  entry = entry;
  strong = best_whole fs (IsStrong fs name) k.strong is.strong;
  weak = best_whole fs (IsWeak fs name) k.weak is.weak;
  common = block_whole fs name k.common is.common;
  not_weak = (
    (λ yes. (let (p, there, earlier) = is.not_weak.0 yes in (p, there))),
    (λ (p, there). is.not_weak.1 (p, there, inl there.0)),
  );
}

-- each name is known as a whole
pub whole_at : (fs : List ObjectValue) (position : List ℕ → Option ℕ) (ks : List Known) (k : ℕ) → k < length ks →
    AreAllKnown fs position ks →
    IsKnownWhole fs (name_at fs (site_at (map first_site ks) k)) (known_at ks k)
whole_at fs position ks k lt is =
    let many = length-map ks first_site in
    let row = (is.firsts.each k (omega arith)).0 in
    whole fs (name_at fs (site_at (map first_site ks) k)) (known_at ks k)
    (site_at (map first_site ks) k, entry_there fs (site_at (map first_site ks) k) row) (is.each k lt)

pub found_none : (fs : List ObjectValue) (position : List ℕ → Option ℕ) (ks : List Known) (name : List ℕ) → position name ≡ None →
    AreAllKnown fs position ks → Never (entries fs name)
found_none fs position ks name at is p there = none_placed fs (length fs) 0 position ks name at is p there (inl there.0)

pub whole_firsts : (fs : List ObjectValue) (position : List ℕ → Option ℕ) (ks : List Known) → AreAllKnown fs position ks →
    Lists (first_entries fs) (map first_site ks)
whole_firsts fs position ks is =
    lists_same (UpTo (first_entries fs) (length fs) 0) (first_entries fs) (map first_site ks) (λ p (row, earlier). row)
    (λ p row. (row, inl row.0)) is.firsts

pub whole_places : (fs : List ObjectValue) (position : List ℕ → Option ℕ) (ks : List Known) → AreAllKnown fs position ks →
    ArePositionsOf fs (map first_site ks) (length (map first_site ks)) position
whole_places fs position ks is = subst (λ n. ArePositionsOf fs (map first_site ks) n position) (sym (length-map ks first_site)) is.places

-- ---- what a name without entries is bound to

pub no_strong : (fs : List ObjectValue) (name : List ℕ) → Never (entries fs name) → Never (strong fs name)
no_strong fs name none p (file, index, here, entry) = none p (file, index, strong_entry fs name p.file p.index here, entry)

pub no_commons : (fs : List ObjectValue) (name : List ℕ) → Never (entries fs name) → Never (commons fs name)
no_commons fs name none p (file, index, here, entry) = none p (file, index, here.0, entry)

pub unbound : (fs : List ObjectValue) (name : List ℕ) → Never (entries fs name) → IsUnbound fs name
unbound fs name none = (
  no_strong fs name none,
  no_commons fs name none,
  (λ p (file, index, here, entry). none p (file, index, weak_entry fs name p.file p.index here, entry)),
  inl none,
)

-- ---- by what is known

pub strong_known : (fs : List ObjectValue) (name : List ℕ) (k : Known) (s : SymbolId) → k.strong ≡ Some s → IsKnownWhole fs name k →
    IsFirstAt (strong fs name) (id_site s)
strong_known fs name k s at is = subst (IsWholeBest (strong fs name)) at is.strong

pub strong_unknown : (fs : List ObjectValue) (name : List ℕ) (k : Known) → k.strong ≡ None → IsKnownWhole fs name k → Never (strong fs name)
strong_unknown fs name k at is = subst (IsWholeBest (strong fs name)) at is.strong

pub weak_known : (fs : List ObjectValue) (name : List ℕ) (k : Known) (s : SymbolId) → k.weak ≡ Some s → IsKnownWhole fs name k →
    IsFirstAt (weak fs name) (id_site s)
weak_known fs name k s at is = subst (IsWholeBest (weak fs name)) at is.weak

pub common_known : (fs : List ObjectValue) (name : List ℕ) (k : Known) (b : Block) → k.common ≡ Some b → IsKnownWhole fs name k →
    IsWholeBlock fs name b
common_known fs name k b at is = subst (λ o. MatchOption o (Never (commons fs name)) (IsWholeBlock fs name)) at is.common

pub common_unknown : (fs : List ObjectValue) (name : List ℕ) (k : Known) → k.common ≡ None → IsKnownWhole fs name k →
    Never (commons fs name)
common_unknown fs name k at is = subst (λ o. MatchOption o (Never (commons fs name)) (IsWholeBlock fs name)) at is.common
