-- What a name is bound to: there is one choice, and it is that of the files.
use Rattle.std.proofs.Common.{ℕ, List, inl, inr, ◌≡◌, ◌≢◌, ◌<◌, true, refl, sym, subst, arith, length, ◌∙◌, ap, ap₂}
use Rattle.std.specs.Prelude.{None}
use Rattle.std.proofs.lemmas.Bool.{cases_lt}
use Rattle.elf_field.specs.Abi.{STB_GLOBAL, STB_LOCAL, STB_WEAK}
use Rattle.elf_image_rules.specs.Rows.{Row}
use Rattle.elf_link_files.proofs.Public.{site_is, one_first, one_site_list, once_of, one_each}
use Rattle.elf_link_files.specs.Files.{symbol_in, IsDefinedAt, IsUndefinedAt, is_common}
use Rattle.elf_link_files.specs.Rows.{FirstAt, Lists, site, site_at, name_at, no_common, IsFirstAt, IsLargest, align_at, commons}
use Rattle.elf_link_files.specs.Rows.{size_at, strong, weak}
use Rattle.elf_link_files.specs.declared.fault.Options.{Options}
use Rattle.elf_link_files.specs.declared.site.Chosen.{Chosen}
use Rattle.elf_link_files.specs.declared.site.Site.{Site}
use Rattle.elf_link_names.specs.Binds.{Binds, IsUnbound, AllBound, input_rules, chosen_commons}
use Rattle.elf_link_names.specs.Resolution.{IsCommonOf, AreChosen, AreChosenAt, IsOfLargest}
use Rattle.elf_link_names.specs.declared.name_rules.Choice.TheVariants.{Strong, Common, Weak, Zero}
use Rattle.elf_link_names.specs.declared.name_rules.Choice.{Choice}
use Rattle.elf_object_type.specs.Object.{ObjectValue, binding}
use Rattle.elf_object_type.specs.declared.parts.Place.TheVariants.{Undef, Abs, Common as PlaceCommon, In}
use Rattle.elf_object_type.specs.declared.parts.Place.{Place}

-- A name that is bound is not unbound.

pub bound_excludes : (fs : List ObjectValue) (name : List ℕ) (d : Choice) → Binds fs name d → IsUnbound fs name → ⊥
bound_excludes fs name (Strong file symbol) first (strong, common, weak, rest) = strong _ first.stands
bound_excludes fs name (Common size align) (none, largest, aligned) (strong, common, weak, rest) = common _ largest.attained.1
bound_excludes fs name (Weak file symbol) (none, nothing, first) (strong, common, weak, rest) = weak _ first.stands
bound_excludes fs name Zero (none, nothing, never, weak_alone, entry) (strong, common, weak, inl empty) = empty entry.0 entry.1
bound_excludes fs name Zero (none, nothing, never, weak_alone, entry) (strong, common, weak, inr other) = weak_alone other.0 other.1

-- If no input rule is broken, each name with an entry is bound. An unbound name would have an entry that is not WEAK, which rule 6 makes
-- GLOBAL. It is defined or common, so the name is bound, or undefined, so rule 9 is broken.

no_other_place : (fs : List ObjectValue) (f : ℕ) (p : Place) → (IsDefinedAt fs f p → ⊥) → (is_common p ≡ true → ⊥) →
    (IsUndefinedAt fs f p → ⊥) → ⊥
no_other_place fs f Undef defined common undefined = undefined tt
no_other_place fs f Abs defined common undefined = defined tt
no_other_place fs f PlaceCommon defined common undefined = common refl
no_other_place fs f (In s) defined common undefined = defined undefined

global : (n : ℕ) → n ≢ STB_LOCAL → n ≢ STB_WEAK → (STB_WEAK < n → ⊥) → n ≡ STB_GLOBAL
global n local weak above = elim (cases_lt STB_WEAK n) [ inl past ↦ absurd (above past) | inr below ↦ omega arith ]

pub all_bound : (opt : Options) (fs : List ObjectValue) → FirstAt (input_rules opt fs) None → AllBound fs
all_bound opt fs clean name p there (strong, common, weak, inl nothing) = nothing p there
all_bound opt fs clean name p there (strong, common, weak, inr (q, (file, index, (is, not_weak), entry))) =
    let bad_symbol = clean.1.1.1.1.1.0 in
    let undefined_name = clean.1.1.1.1.1.1.1.1.0 in
    let bound : binding (symbol_in fs q.file q.index) ≡ STB_GLOBAL =
    global (binding (symbol_in fs q.file q.index)) is.0 not_weak (λ above. bad_symbol q (file, index, inl above, entry)) in
    no_other_place fs q.file (symbol_in fs q.file q.index).place
    (λ defined. strong q (file, index, (is.1, bound, defined), entry))
    (λ block. common q (file, index, (is, block), entry))
    (λ nowhere. undefined_name q (
      file,
      index,
      (bound, nowhere, subst (IsUnbound fs) (sym is.1) (strong, common, weak, inr (q, (file, index, (is, not_weak), entry)))),
      entry,
    ))

-- A name has at most one choice, by cases on both choices. Two kinds exclude each other; a first definition, a largest size and a largest
-- alignment are unique. So the list of chosen commons is unique too, and a name is in it at most once.

-- ---- the choice of a name

one_largest : (row : Row Site) (measure : ℕ → ℕ → ℕ) (m n : ℕ) → IsLargest row measure m → IsLargest row measure n → m ≡ n
one_largest row measure m n one other =
    let (p, p_row, p_at) = one.attained in
    let (q, q_row, q_at) = other.attained in
    let below = other.above p p_row in
    let above = one.above q q_row in
    omega arith

one_strong : (f s g t : ℕ) → site f s ≡ site g t → Strong f s ≡ Strong g t
one_strong f s g t same = ap (λ (p : Site). Strong p.file p.index) same

one_weak : (f s g t : ℕ) → site f s ≡ site g t → Weak f s ≡ Weak g t
one_weak f s g t same = ap (λ (p : Site). Weak p.file p.index) same

pub one_choice : (fs : List ObjectValue) (name : List ℕ) (c d : Choice) → Binds fs name c → Binds fs name d → c ≡ d
one_choice fs name (Strong f s) (Strong g t) one other = one_strong f s g t (one_first (strong fs name) (site f s) (site g t) one other)
one_choice fs name (Strong f s) (Common size align) one other = absurd (other.0 (site f s) one.stands)
one_choice fs name (Strong f s) (Weak g t) one other = absurd (other.0 (site f s) one.stands)
one_choice fs name (Strong f s) Zero one other = absurd (other.0 (site f s) one.stands)
one_choice fs name (Common size align) (Strong g t) one other = absurd (one.0 (site g t) other.stands)
one_choice fs name (Common size align) (Common width step) (none, largest, aligned) (never, other, besides) =
    ap₂ (λ (m n : ℕ). Common m n) (one_largest (commons fs name) (size_at fs) size width largest other)
    (one_largest (commons fs name) (align_at fs) align step aligned besides)
one_choice fs name (Common size align) (Weak g t) (none, largest, aligned) (never, nothing, first) = absurd (nothing _ largest.attained.1)
one_choice fs name (Common size align) Zero (none, largest, aligned) (never, nothing, empty, alone, entry) =
    absurd (nothing _ largest.attained.1)
one_choice fs name (Weak f s) (Strong g t) one other = absurd (one.0 (site g t) other.stands)
one_choice fs name (Weak f s) (Common size align) (none, nothing, first) (never, largest, aligned) = absurd (nothing _ largest.attained.1)
one_choice fs name (Weak f s) (Weak g t) (none, nothing, first) (never, neither, other) =
    one_weak f s g t (one_first (weak fs name) (site f s) (site g t) first other)
one_choice fs name (Weak f s) Zero (none, nothing, first) (never, neither, empty, alone, entry) = absurd (empty (site f s) first.stands)
one_choice fs name Zero (Strong g t) one other = absurd (one.0 (site g t) other.stands)
one_choice fs name Zero (Common size align) (none, nothing, empty, alone, entry) (never, largest, aligned) =
    absurd (nothing _ largest.attained.1)
one_choice fs name Zero (Weak g t) (none, nothing, empty, alone, entry) (never, neither, first) = absurd (empty (site g t) first.stands)
one_choice fs name Zero Zero one other = refl

-- ---- the commons

same_chosen : (c d : Chosen) → c.site ≡ d.site → c.size ≡ d.size → c.align ≡ d.align → c ≡ d
same_chosen c d place size align =
    ap (λ (p : Site). record { site = p; size = c.size; align = c.align }) place ∙
    ap (λ (n : ℕ). record { site = d.site; size = n; align = c.align }) size
    ∙ ap (λ (n : ℕ). record { site = d.site; size = d.size; align = n }) align

one_of_largest : (fs : List ObjectValue) (p : Site) (c d : Chosen) → (c.site ≡ p) × IsOfLargest fs c → (d.site ≡ p) × IsOfLargest fs d →
    c ≡ d
one_of_largest fs p c d (here, (size, align)) (there, (width, step)) =
    let place = here ∙ sym there in
    let name = ap (name_at fs) (sym place) in
    same_chosen c d place
    (one_largest (commons fs (name_at fs c.site)) (size_at fs) c.size d.size size
    (subst (λ (n : List ℕ). IsLargest (commons fs n) (size_at fs) d.size) name width))
    (one_largest (commons fs (name_at fs c.site)) (align_at fs) c.align d.align align
    (subst (λ (n : List ℕ). IsLargest (commons fs n) (align_at fs) d.align) name step))

pub one_chosen : (fs : List ObjectValue) (cs ds : List Chosen) → AreChosen fs cs → AreChosen fs ds → cs ≡ ds
one_chosen fs cs ds (ps, lists, one) (qs, others, other) =
    let same = one_site_list (chosen_commons fs) qs ps others lists in
    one_each no_common (λ k c. (c.site ≡ site_at ps k) × IsOfLargest fs c) (length ps) cs ds
    (λ k c d lt. one_of_largest fs (site_at ps k) c d) one
    (subst (λ (rs : List Site). AreChosenAt fs rs (length rs) ds) same other)

-- the first common of the name
first_common : (fs : List ObjectValue) (cs : List Chosen) (ps : List Site) (name : List ℕ) (k : ℕ) → Lists (chosen_commons fs) ps →
    AreChosenAt fs ps (length ps) cs → IsCommonOf fs cs name k → (k < length ps) × IsFirstAt (commons fs name) (site_at ps k)
first_common fs cs ps name k lists are (lt, named) =
    let within : k < length ps = (let count = are.count in omega arith) in
    let (file, index, (is, first, none), entry) = lists.each k within in
    let at = site_is (site_at ps k) (site_at ps k).file (site_at ps k).index refl refl entry in
    let called = ap (name_at fs) (sym (are.each k within).0) ∙ named in (
      within,
      subst (λ (n : List ℕ). IsFirstAt (commons fs n) (site_at ps k)) called
          (subst (λ (p : Site). IsFirstAt (commons fs (name_at fs (site_at ps k))) p) (sym at) first),
    )

-- a name has one chosen common
pub one_common : (fs : List ObjectValue) (cs : List Chosen) (name : List ℕ) (j k : ℕ) → AreChosen fs cs → IsCommonOf fs cs name j →
    IsCommonOf fs cs name k → j ≡ k
one_common fs cs name j k (ps, lists, are) one other =
    let (j_in, first) = first_common fs cs ps name j lists are one in
    let (k_in, second) = first_common fs cs ps name k lists are other in
    let same = one_first (commons fs name) (site_at ps j) (site_at ps k) first second in
    let once = once_of (chosen_commons fs) ps lists in
    elim (cases_lt j k) [
      | inl below ↦ absurd (once j k below k_in same)
      | inr not_below ↦ elim (cases_lt k j) [
        | inl above ↦ absurd (once k j above j_in (sym same))
        | inr not_above ↦ omega arith
      ]
    ]
