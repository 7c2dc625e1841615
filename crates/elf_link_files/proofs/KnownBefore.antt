-- What is known of a name, kept up symbol by symbol. A symbol changes only what is known of its own name: whether an entry is not WEAK, the
-- first definitions, and the largest common.
use Rattle.std.proofs.Common.{◌≡◌, ℕ, ◌+◌, ◌<◌, ◌⊎◌, Bool, List, length, inl, inr, refl, sym, ◌∙◌, ap, subst, arith, true, false, ◌↔◌, ◌≤◌}
use Rattle.std.specs.Prelude.{Option, Some, None}
use Rattle.elf_field.specs.Abi.{STB_LOCAL, STB_GLOBAL, STB_WEAK}
use Rattle.elf_image_rules.specs.Rows.{Row}
use Rattle.elf_link_files.proofs.SiteLists.{earlier_more, earlier_next}
use Rattle.elf_link_files.specs.Files.{symbol_in, IsEntry, object_at, IsCommon, IsNotWeak, IsStrong, IsWeak}
use Rattle.elf_link_files.specs.KnownBefore.{IsBest, IsBlock, IsCommonBest, IsFirstBefore, IsKnownBefore, IsLargerOf, NoneBefore}
use Rattle.elf_link_files.specs.KnownBefore.{SomeBefore, first_or, id_in, marked_known}
use Rattle.elf_link_files.specs.Rows.{site, UpTo, AtSymbol, commons, entries, IsLargest}
use Rattle.elf_link_files.specs.declared.inputs.SymbolId.{SymbolId}
use Rattle.elf_link_files.specs.declared.known.Block.{Block}
use Rattle.elf_link_files.specs.declared.known.Known.{Known}
use Rattle.elf_link_files.specs.declared.site.Site.{Site}
use Rattle.elf_object_type.specs.Object.{ObjectValue, binding}

-- ---- the sites of a row before a position

at_here : (fs : List ObjectValue) (P : ℕ → ℕ → Type 0) (p : Site) (f i : ℕ) → AtSymbol fs P p → p.file ≡ f → p.index ≡ i → P f i
at_here fs P p f i (file, index, here, entry) same at = subst (λ n. P f n) at (subst (λ n. P n p.index) same here)

pub none_past : (fs : List ObjectValue) (P : ℕ → ℕ → Type 0) (f i : ℕ) → (P f i → ⊥) → NoneBefore (AtSymbol fs P) f i →
    NoneBefore (AtSymbol fs P) f (i + 1)
none_past fs P f i other none p row earlier = elim (earlier_next p.file p.index f i earlier) [
  | inl before ↦ none p row before
  | inr same ↦ other (at_here fs P p f i row same.0 same.1)
]

-- a row that has this site and none before it
pub first_here : (fs : List ObjectValue) (P : ℕ → ℕ → Type 0) (f i : ℕ) → f < length fs → i < length (object_at fs f).symbols → P f i →
    NoneBefore (AtSymbol fs P) f i → IsFirstBefore (AtSymbol fs P) f (i + 1) (id_in f i)
first_here fs P f i file index here none = (
  record {
    stands = (file, index, here, refl);
    first = λ q row before. none q row (elim before [
      | inl below ↦ inl below
      | inr (same, rest) ↦ elim rest [ inl below ↦ inr (same, below) | inr (again, never) ↦ absurd (omega arith) ]
    ]);
  },
  inr (refl, omega arith),
)

first_past : (row : Row Site) (f i : ℕ) (s : SymbolId) → IsFirstBefore row f i s → IsFirstBefore row f (i + 1) s
first_past row f i s (first, earlier) = (first, earlier_more s.file s.index f i earlier)

pub best_past : (fs : List ObjectValue) (P : ℕ → ℕ → Type 0) (f i : ℕ) (best : Option SymbolId) → (P f i → ⊥) →
    IsBest (AtSymbol fs P) f i best →
    IsBest (AtSymbol fs P) f (i + 1) best
best_past fs P f i None other none = none_past fs P f i other none
best_past fs P f i (Some s) other is = first_past (AtSymbol fs P) f i s is

pub best_next : (fs : List ObjectValue) (P : ℕ → ℕ → Type 0) (f i : ℕ) (best now : Option SymbolId) (passes : Bool) → f < length fs →
    i < length (object_at fs f).symbols → (passes ≡ true) ↔ P f i → now ≡ first_or best passes (id_in f i) →
    IsBest (AtSymbol fs P) f i best →
    IsBest (AtSymbol fs P) f (i + 1) now
best_next fs P f i (Some s) now passes file index says is best =
    subst (IsBest (AtSymbol fs P) f (i + 1)) (sym is) (first_past (AtSymbol fs P) f i s best)
best_next fs P f i None now true file index says is none =
    subst (IsBest (AtSymbol fs P) f (i + 1)) (sym is) (first_here fs P f i file index (says.0 refl) none)
best_next fs P f i None now false file index says is none =
    subst (IsBest (AtSymbol fs P) f (i + 1)) (sym is)
    (none_past fs P f i (λ here. (let never : false ≡ true = says.1 here in absurd (cc))) none)

some_past : (row : Row Site) (f i : ℕ) → SomeBefore row f i → SomeBefore row f (i + 1)
some_past row f i (p, there, earlier) = (p, there, earlier_more p.file p.index f i earlier)

some_back : (fs : List ObjectValue) (P : ℕ → ℕ → Type 0) (f i : ℕ) → SomeBefore (AtSymbol fs P) f (i + 1) →
    SomeBefore (AtSymbol fs P) f i ⊎ P f i
some_back fs P f i (p, there, earlier) = elim (earlier_next p.file p.index f i earlier) [
  | inl before ↦ inl (p, there, before)
  | inr same ↦ inr (at_here fs P p f i there same.0 same.1)
]

pub found_past : (fs : List ObjectValue) (P : ℕ → ℕ → Type 0) (f i : ℕ) (found : Bool) → (P f i → ⊥) →
    (found ≡ true) ↔ SomeBefore (AtSymbol fs P) f i →
    (found ≡ true) ↔ SomeBefore (AtSymbol fs P) f (i + 1)
found_past fs P f i found other says = (
  (λ yes. some_past (AtSymbol fs P) f i (says.0 yes)),
  (λ some. elim (some_back fs P f i some) [ inl before ↦ says.1 before | inr here ↦ absurd (other here) ]),
)

pub found_here : (fs : List ObjectValue) (P : ℕ → ℕ → Type 0) (f i : ℕ) → f < length fs → i < length (object_at fs f).symbols → P f i →
    (true ≡ true) ↔ SomeBefore (AtSymbol fs P) f (i + 1)
found_here fs P f i file index here = ((λ is. (site f i, (file, index, here, refl), inr (refl, omega arith))), (λ some. refl))

-- ---- the largest

largest_past : (fs : List ObjectValue) (P : ℕ → ℕ → Type 0) (f i : ℕ) (measure : ℕ → ℕ → ℕ) (n : ℕ) → (P f i → ⊥) →
    IsLargest (UpTo (AtSymbol fs P) f i) measure n → IsLargest (UpTo (AtSymbol fs P) f (i + 1)) measure n
largest_past fs P f i measure n other is = record {
  above = λ p (row, earlier). elim (earlier_next p.file p.index f i earlier) [
    | inl before ↦ is.above p (row, before)
    | inr same ↦ absurd (other (at_here fs P p f i row same.0 same.1))
  ];
  attained = (let (p, (row, earlier), at) = is.attained in (p, (row, earlier_more p.file p.index f i earlier), at));
}

here_measures : (p : Site) (f i : ℕ) (measure : ℕ → ℕ → ℕ) → p.file ≡ f → p.index ≡ i → measure p.file p.index ≡ measure f i
here_measures p f i measure file index = ap (λ n. measure n p.index) file ∙ ap (λ n. measure f n) index

largest_next : (fs : List ObjectValue) (P : ℕ → ℕ → Type 0) (f i : ℕ) (measure : ℕ → ℕ → ℕ) (most n : ℕ) → f < length fs →
    i < length (object_at fs f).symbols → P f i → IsLargerOf most (measure f i) n → IsLargest (UpTo (AtSymbol fs P) f i) measure most →
    IsLargest (UpTo (AtSymbol fs P) f (i + 1)) measure n
largest_next fs P f i measure most n file index here (left, right, either) is = record {
  above = λ p (row, earlier). elim (earlier_next p.file p.index f i earlier) [
    | inl before ↦ (let below = is.above p (row, before) in omega arith)
    | inr same ↦ subst (λ m. m ≤ n) (sym (here_measures p f i measure same.0 same.1)) right
  ];
  attained = elim either [
    | inl old ↦ (let (p, (row, earlier), at) = is.attained in (p, (row, earlier_more p.file p.index f i earlier), at ∙ sym old))
    | inr new ↦ (site f i, ((file, index, here, refl), inr (refl, omega arith)), sym new)
  ];
}

largest_one : (fs : List ObjectValue) (P : ℕ → ℕ → Type 0) (f i : ℕ) (measure : ℕ → ℕ → ℕ) (n : ℕ) → f < length fs →
    i < length (object_at fs f).symbols →
    P f i → n ≡ measure f i → NoneBefore (AtSymbol fs P) f i → IsLargest (UpTo (AtSymbol fs P) f (i + 1)) measure n
largest_one fs P f i measure n file index here is none = record {
  above = λ p (row, earlier). elim (earlier_next p.file p.index f i earlier) [
    | inl before ↦ absurd (none p row before)
    | inr same ↦ subst (λ m. m ≤ n) (sym (here_measures p f i measure same.0 same.1)) (subst (λ m. m ≤ n) is (omega arith))
  ];
  attained = (site f i, ((file, index, here, refl), inr (refl, omega arith)), sym is);
}

pub block_past : (fs : List ObjectValue) (name : List ℕ) (f i : ℕ) (best : Option Block) → (IsCommon fs name f i → ⊥) →
    IsCommonBest fs name f i best →
    IsCommonBest fs name f (i + 1) best
block_past fs name f i None other none = none_past fs (IsCommon fs name) f i other none
block_past fs name f i (Some b) other is = record {
  first = first_past (commons fs name) f i b.first is.first;
  size = largest_past fs (IsCommon fs name) f i _ b.size other is.size;
  align = largest_past fs (IsCommon fs name) f i _ b.align other is.align;
}

pub block_more : (fs : List ObjectValue) (name : List ℕ) (f i : ℕ) (b now : Block) → f < length fs → i < length (object_at fs f).symbols →
    IsCommon fs name f i → now.first ≡ b.first → IsLargerOf b.size (symbol_in fs f i).size now.size →
    IsLargerOf b.align (symbol_in fs f i).value now.align →
    IsBlock fs name f i b → IsBlock fs name f (i + 1) now
block_more fs name f i b now file index here first size align is = record {
  first = subst (IsFirstBefore (commons fs name) f (i + 1)) (sym first) (first_past (commons fs name) f i b.first is.first);
  size = largest_next fs (IsCommon fs name) f i _ b.size now.size file index here size is.size;
  align = largest_next fs (IsCommon fs name) f i _ b.align now.align file index here align is.align;
}

pub block_one : (fs : List ObjectValue) (name : List ℕ) (f i : ℕ) (now : Block) → f < length fs → i < length (object_at fs f).symbols →
    IsCommon fs name f i → now.first ≡ id_in f i → now.size ≡ (symbol_in fs f i).size → now.align ≡ (symbol_in fs f i).value →
    NoneBefore (commons fs name) f i → IsBlock fs name f (i + 1) now
block_one fs name f i now file index here first size align none = record {
  first = subst (IsFirstBefore (commons fs name) f (i + 1)) (sym first) (first_here fs (IsCommon fs name) f i file index here none);
  size = largest_one fs (IsCommon fs name) f i _ now.size file index here size none;
  align = largest_one fs (IsCommon fs name) f i _ now.align file index here align none;
}

-- ---- what is known of a name

local_apart : (n : ℕ) → n ≡ STB_GLOBAL → n ≡ STB_LOCAL → ⊥
local_apart n global local = omega arith

local_weak : (n : ℕ) → n ≡ STB_WEAK → n ≡ STB_LOCAL → ⊥
local_weak n weak local = omega arith

pub strong_entry : (fs : List ObjectValue) (name : List ℕ) (f i : ℕ) → IsStrong fs name f i → IsEntry fs name f i
strong_entry fs name f i (is, global, defined) = ((λ local. local_apart (binding (symbol_in fs f i)) global local), is)

pub weak_entry : (fs : List ObjectValue) (name : List ℕ) (f i : ℕ) → IsWeak fs name f i → IsEntry fs name f i
weak_entry fs name f i (is, weak, defined) = ((λ local. local_weak (binding (symbol_in fs f i)) weak local), is)

-- a symbol that is no entry of the name changes nothing
pub known_other : (fs : List ObjectValue) (name : List ℕ) (f i : ℕ) (k : Known) → (IsEntry fs name f i → ⊥) → IsKnownBefore fs name f i k →
    IsKnownBefore fs name f (i + 1) k
known_other fs name f i k other is = record {
  strong = best_past fs (IsStrong fs name) f i k.strong (λ here. other (strong_entry fs name f i here)) is.strong;
  weak = best_past fs (IsWeak fs name) f i k.weak (λ here. other (weak_entry fs name f i here)) is.weak;
  common = block_past fs name f i k.common (λ here. other here.0) is.common;
  not_weak = found_past fs (IsNotWeak fs name) f i k.not_weak (λ here. other here.0) is.not_weak;
}

pub known_reference : (fs : List ObjectValue) (name : List ℕ) (f i : ℕ) (k : Known) → f < length fs → i < length (object_at fs f).symbols →
    (IsCommon fs name f i → ⊥) → (IsStrong fs name f i → ⊥) → IsNotWeak fs name f i → IsKnownBefore fs name f i k →
    IsKnownBefore fs name f (i + 1) (marked_known k)
known_reference fs name f i k file index no_common no_strong here is = record {
  strong = best_past fs (IsStrong fs name) f i k.strong no_strong is.strong;
  weak = best_past fs (IsWeak fs name) f i k.weak (λ weak. here.1 weak.1) is.weak;
  common = block_past fs name f i k.common no_common is.common;
  not_weak = found_here fs (IsNotWeak fs name) f i file index here;
}

-- nothing is known of a name without entries
pub known_none : (fs : List ObjectValue) (name : List ℕ) (f i : ℕ) → NoneBefore (entries fs name) f i →
    IsKnownBefore fs name f i (record { first = id_in f i; strong = None; weak = None; common = None; not_weak = false })
known_none fs name f i none = record {
  strong = λ p (file, index, here, entry) earlier. none p (file, index, strong_entry fs name p.file p.index here, entry) earlier;
  weak = λ p (file, index, here, entry) earlier. none p (file, index, weak_entry fs name p.file p.index here, entry) earlier;
  common = λ p (file, index, here, entry) earlier. none p (file, index, here.0, entry) earlier;
  not_weak = (
    (λ (yes : false ≡ true). absurd (cc)),
    (λ (p, (file, index, here, entry), earlier). absurd (none p (file, index, here.0, entry) earlier)),
  );
}
