-- The chosen commons, gathered symbol by symbol: a name without a GLOBAL definition chooses its first common, with the largest size and
-- alignment of all. So each name that is bound to a common has one in the list.
use Rattle.std.proofs.Common.{◌≡◌, ℕ, ◌+◌, ◌<◌, ◌⊎◌, true, List, [], ◌∷◌, ◌++◌, length, inl, inr, refl, sym, ◌∙◌, ap, subst, arith}
use Rattle.std.proofs.Common.{length-append, map, set}
use Rattle.std.proofs.lemmas.List.{get_or_push, get_or-set_other, get_or-set_same, length-map, length-set}
use Rattle.std.proofs.Math.ListN.{get_or-append}
use Rattle.std.proofs.lemmas.Bool.{cases_eq, cases_lt}
use Rattle.std.specs.Prelude.{Option, None, Some, MatchOption}
use Rattle.elf_extent.specs.Extent.{Never}
use Rattle.elf_field.specs.Abi.{STB_LOCAL}
use Rattle.elf_link_files.proofs.Public.{listed_file, each_more, first_in_row, first_same, listed_more, listed_past, lists_same, site_is}
use Rattle.elf_link_files.proofs.Public.{same_bool, same_name, one_site_list}
use Rattle.elf_link_files.specs.Files.{object_at, symbol_in, IsCommon, is_common}
use Rattle.elf_link_files.specs.Rows.{UpTo, site, site_at, name_at, AreSymbols, no_common, IsFirstAt, symbol_count, chosen_at, Lists}
use Rattle.elf_link_files.specs.Rows.{IsLargest, align_at, commons, size_at, strong, entries}
use Rattle.elf_link_files.specs.declared.inputs.SymbolId.{SymbolId}
use Rattle.elf_link_files.specs.declared.site.Chosen.{Chosen}
use Rattle.elf_link_files.specs.declared.site.Site.{Site}
use Rattle.elf_link_names.proofs.KnownNames.{names_once, found_none, placed_at, whole_firsts}
use Rattle.elf_link_files.specs.KnownBefore.{id_site}
use Rattle.elf_link_names.specs.Binds.{IsChosen, chosen_commons, first_entries}
use Rattle.elf_link_names.specs.KnownNames.{IsWholeBlock, AreAllKnown, first_site}
use Rattle.elf_link_names.specs.Resolution.{AreChosen, AreChosenAt, AreChosenIn, HaveChosen, IsBlockOf, IsChosenFor, IsOfLargest}
use Rattle.elf_link_names.specs.Resolution.{IsCommonOf, AreRanks, IsNameCount, IsIndex, IsIndexOf, indexed}
use Rattle.elf_link_files.specs.declared.known.Block.{Block}
use Rattle.elf_link_files.specs.declared.known.Known.{Known}
use Rattle.elf_object_type.specs.Object.{ObjectValue, binding}

same_id : (a b : SymbolId) → a.file ≡ b.file → a.index ≡ b.index → a ≡ b
same_id a b file index =
    ap (λ (n : ℕ). record { file = n; index = a.index }) file ∙ ap (λ (n : ℕ). record { file = b.file; index = n }) index

-- ---- the list grows

pub chosen_none : (fs : List ObjectValue) → AreChosenIn (UpTo (chosen_commons fs) 0 0) fs []
chosen_none fs = (
  [],
  record {
    each = λ k lt. absurd (omega arith);
    all = λ p (row, earlier). absurd (elim earlier [ inl below ↦ omega arith | inr (same, below) ↦ omega arith ]);
    order = λ j k lt within. absurd (omega arith);
  },
  record { count = refl; each = λ k lt. absurd (omega arith) },
)

pub chosen_past : (fs : List ObjectValue) (f i : ℕ) (cs : List Chosen) → (IsChosen fs f i → ⊥) →
    AreChosenIn (UpTo (chosen_commons fs) f i) fs cs →
    AreChosenIn (UpTo (chosen_commons fs) f (i + 1)) fs cs
chosen_past fs f i cs other (ps, lists, are) = (ps, listed_past symbol_count fs (IsChosen fs) f i ps other lists, are)

pub chosen_more : (fs : List ObjectValue) (f i : ℕ) (cs : List Chosen) (c : Chosen) → f < length fs → i < length (object_at fs f).symbols →
    IsChosen fs f i →
    c.site ≡ site f i → IsOfLargest fs c → AreChosenIn (UpTo (chosen_commons fs) f i) fs cs →
    AreChosenIn (UpTo (chosen_commons fs) f (i + 1)) fs (cs ++ c ∷ [])
chosen_more fs f i cs c file index here at largest (ps, lists, are) =
    let qs = ps ++ site f i ∷ [] in
    let long : length ps + 1 ≡ length qs = simp length-append in
    let last : site_at qs (length ps) ≡ site f i = get_or_push ps (site f i) (site 0 0) (length ps) refl in
    let kept : AreChosenAt fs qs (length ps) cs = record {
      count = are.count;
      each = λ k lt. ((are.each k lt).0 ∙ sym (get_or-append ps (site f i ∷ []) (site 0 0) k lt), (are.each k lt).1);
    } in (
      qs,
      listed_more symbol_count fs (IsChosen fs) f i ps file index here lists,
      subst (λ (n : ℕ). AreChosenAt fs qs n (cs ++ c ∷ [])) long
          (each_more no_common (λ k x. (x.site ≡ site_at qs k) × IsOfLargest fs x) (length ps) cs c (at ∙ sym last, largest) kept),
    )

pub chosen_file : (fs : List ObjectValue) (f : ℕ) (cs : List Chosen) →
    AreChosenIn (UpTo (chosen_commons fs) f (length (object_at fs f).symbols)) fs cs →
    AreChosenIn (UpTo (chosen_commons fs) (f + 1) 0) fs cs
chosen_file fs f cs (ps, lists, are) = (ps, listed_file symbol_count fs (IsChosen fs) f ps lists, are)

pub chosen_all : (fs : List ObjectValue) (cs : List Chosen) → AreChosenIn (UpTo (chosen_commons fs) (length fs) 0) fs cs → AreChosen fs cs
chosen_all fs cs (ps, lists, are) = (
  ps,
  lists_same (UpTo (chosen_commons fs) (length fs) 0) (chosen_commons fs) ps (λ p (row, earlier). row)
      (λ p row. (row, inl row.0)) lists,
  are,
)

-- the block of a name without a GLOBAL definition
pub chosen_known : (fs : List ObjectValue) (name : List ℕ) (block : Block) (id : SymbolId) (chosen : Option Chosen) →
    Never (strong fs name) →
    IsWholeBlock fs name block → IsBlockOf block id chosen →
    MatchOption chosen (IsChosenFor fs name id → ⊥)
    (λ c. IsChosenFor fs name id × (c.site ≡ id_site id) × IsLargest (commons fs name) (size_at fs) c.size ×
    IsLargest (commons fs name) (align_at fs) c.align)
chosen_known fs name block id None none whole other = λ (first, never).
    (let same = first_same (commons fs name) (id_site block.first) (id_site id) whole.first first in
    other (same_id block.first id same.0 same.1))
chosen_known fs name block id (Some c) none whole (same, at, size, align) = (
  (subst (λ (s : SymbolId). IsFirstAt (commons fs name) (id_site s)) same whole.first, none),
  at,
  subst (IsLargest (commons fs name) (size_at fs)) (sym size) whole.size,
  subst (IsLargest (commons fs name) (align_at fs)) (sym align) whole.align,
)

-- ---- what is said of all

pub chosen_symbols : (fs : List ObjectValue) (cs : List Chosen) → AreChosen fs cs → AreSymbols fs cs
chosen_symbols fs cs (ps, lists, are) k lt =
    let count = are.count in
    let below : k < length ps = omega arith in
    let row = lists.each k below in
    subst (λ (p : Site). (p.file < length fs) × (p.index < length (object_at fs p.file).symbols)) (sym (are.each k below).0) (row.0, row.1)

-- a symbol is a common of the name, or not
common_decided : (fs : List ObjectValue) (name : List ℕ) (f i : ℕ) → IsCommon fs name f i ⊎ (IsCommon fs name f i → ⊥)
common_decided fs name f i = elim (cases_eq (binding (symbol_in fs f i)) STB_LOCAL) [
  | inl local ↦ inr (λ is. is.0.0 local)
  | inr not_local ↦ elim (same_name (symbol_in fs f i).name name) [
    | inr other ↦ inr (λ is. other is.0.1)
    | inl named ↦ elim (same_bool (is_common (symbol_in fs f i).place) true) [
      | inr other ↦ inr (λ is. other is.1)
      | inl common ↦ inl ((not_local, named), common)
    ]
  ]
]

-- the first common of a name without a GLOBAL definition is chosen
first_chosen : (fs : List ObjectValue) (name : List ℕ) (q : Site) → IsFirstAt (commons fs name) q → Never (strong fs name) →
    IsChosen fs q.file q.index
first_chosen fs name q first none =
    let (file, index, is, entry) = first.stands in
    let at = site_is q q.file q.index refl refl entry in
    subst (λ (n : List ℕ). IsCommon fs n q.file q.index × IsFirstAt (commons fs n) (site q.file q.index) × Never (strong fs n)) (sym is.0.1)
    (is, subst (λ (p : Site). IsFirstAt (commons fs name) p) at first, none)

pub have_chosen : (fs : List ObjectValue) (cs : List Chosen) → AreChosen fs cs → HaveChosen fs cs
have_chosen fs cs (ps, lists, are) name size align (none, largest, aligned) =
    let (p, common, at) = largest.attained in
    let (q, first) = first_in_row fs (IsCommon fs name) (common_decided fs name) p common in
    let (file, index, is, entry) = first.stands in
    let (k, lt, here) = lists.all q (file, index, first_chosen fs name q first none, entry) in
    let count = are.count in
    (k, (omega arith, ap (name_at fs) ((are.each k lt).0 ∙ here) ∙ is.0.1))

-- The position of a name among those known is its index, since there is one list of the first entries (`one_site_list`). Noting the rank
-- of one name leaves those of the others, as no two first entries have one name.

-- what is known is in the order of the first entries
pub firsts_are : (fs : List ObjectValue) (position : List ℕ → Option ℕ) (ks : List Known) (firsts : List Site) →
    AreAllKnown fs position ks →
    Lists (first_entries fs) firsts → map first_site ks ≡ firsts
firsts_are fs position ks firsts known lists =
    one_site_list (first_entries fs) (map first_site ks) firsts (whole_firsts fs position ks known) lists

pub count_is : (fs : List ObjectValue) (position : List ℕ → Option ℕ) (ks : List Known) (n : ℕ) → AreAllKnown fs position ks →
    n ≡ length ks → IsNameCount fs n
count_is fs position ks n known is firsts lists =
    let many = length-map ks first_site in
    let same = firsts_are fs position ks firsts known lists in
    is ∙ sym many ∙ ap (λ (ps : List Site). length ps) same

pub index_is : (fs : List ObjectValue) (position : List ℕ → Option ℕ) (ks : List Known) (name : List ℕ) (k : ℕ) →
    AreAllKnown fs position ks →
    position name ≡ Some k → IsIndexOf fs name k
index_is fs position ks name k known at =
    let (lt, named) = placed_at fs (length fs) 0 position ks name k at known in
    let many = length-map ks first_site in
    (map first_site ks, whole_firsts fs position ks known, (omega arith, named))

-- whichever list of the first entries is asked of
pub index_by : (fs : List ObjectValue) (name : List ℕ) (k : ℕ) (firsts : List Site) → Lists (first_entries fs) firsts →
    IsIndexOf fs name k → IsIndex fs firsts name k
index_by fs name k firsts lists (others, they, is) =
    subst (λ (ps : List Site). IsIndex fs ps name k) (one_site_list (first_entries fs) others firsts they lists) is

pub ranks_more : (fs : List ObjectValue) (firsts : List Site) (cs : List Chosen) (n index : ℕ) (ranks : List ℕ) →
    Lists (first_entries fs) firsts → n < length cs →
    IsIndex fs firsts (name_at fs (chosen_at cs n).site) index → AreRanks fs firsts cs n ranks →
    AreRanks fs firsts cs (n + 1) (set ranks index n)
ranks_more fs firsts cs n index ranks lists n_in (lt, named) are =
    let long = are.long in
    record {
      long = length-set ranks index n ∙ long;
      right = λ k j k_in j_in is. elim (cases_eq k index) [
        | inl same ↦ rw (same, get_or-set_same ranks index n 0 (omega arith)) (n_in, sym named)
        | inr other ↦ rw (get_or-set_other ranks index k n 0 other) (are.right k j k_in (elim (cases_lt j n) [
          | inl below ↦ below
          | inr above ↦ (
              let last : j ≡ n = omega arith in
              let here : indexed fs firsts index ≡ indexed fs firsts k =
              named ∙ (subst (IsCommonOf fs cs (indexed fs firsts k)) last is).1 in
              absurd (elim (cases_lt k index) [
                | inl below ↦ names_once fs firsts lists k index below lt (indexed fs firsts k) refl here
                | inr never ↦ names_once fs firsts lists index k (omega arith) k_in (indexed fs firsts k) here refl
              ]))
        ]) is)
      ];
    }

-- a name that none of those has that are known is in no entry
pub index_never : (fs : List ObjectValue) (position : List ℕ → Option ℕ) (ks : List Known) (name : List ℕ) → AreAllKnown fs position ks →
    ((k : ℕ) → k < length (map first_site ks) → indexed fs (map first_site ks) k ≡ name → ⊥) → Never (entries fs name)
index_never fs position ks name known none = by_position (position name) refl where
  by_position : (o : Option ℕ) → position name ≡ o → Never (entries fs name)
  by_position None at = found_none fs position ks name at known
  by_position (Some k) at = absurd (
      let (lt, named) = placed_at fs (length fs) 0 position ks name k at known in
      let many = length-map ks first_site in
      none k (omega arith) named)

-- a name is found among those that are known
pub index_found : (fs : List ObjectValue) (position : List ℕ → Option ℕ) (ks : List Known) (name : List ℕ) → AreAllKnown fs position ks →
    MatchOption (position name) (Never (entries fs name)) (IsIndex fs (map first_site ks) name)
index_found fs position ks name known = by_position (position name) refl where
  by_position : (o : Option ℕ) → position name ≡ o → MatchOption o (Never (entries fs name)) (IsIndex fs (map first_site ks) name)
  by_position None at = found_none fs position ks name at known
  by_position (Some k) at = (
      let (lt, named) = placed_at fs (length fs) 0 position ks name k at known in
      let many = length-map ks first_site in
      (omega arith, named))
