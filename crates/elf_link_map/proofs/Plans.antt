-- A plan of the files or a fault of theirs exists, and there is at most one.
use Rattle.std.proofs.Common.{◌≡◌, ℕ, ◌+◌, List, length, inl, inr, sym, ◌∙◌, ap, subst, arith, refl, ◌<◌, ◌≤◌, ◌⊎◌, zero, suc, false, true}
use Rattle.std.proofs.Common.{[], ◌∷◌, ◌++◌, add-one}
use Rattle.std.specs.Prelude.{Option, None, Some, IfErr, Result, Ok, Err}
use Rattle.std.specs.Borrow.{Bor}
use Rattle.std.proofs.lemmas.Bool.{cases_lt}
use Rattle.elf_extent.proofs.Public.{same_least, least_places}
use Rattle.elf_extent.specs.Extent.{Never}
use Rattle.elf_extent.specs.Place.{EndsFit, Least}
use Rattle.elf_image_rules.specs.Rows.{Row, rule}
use Rattle.elf_link_files.proofs.Public.{site_is, one_found, each_more, file_before, listed_more, listed_past, lists_same, some_site}
use Rattle.elf_link_files.specs.FileRules.{option_rules}
use Rattle.elf_link_files.specs.Files.{symbol_in, IsEarlier, object_at, IsCommon}
use Rattle.elf_link_files.specs.Rows.{site_at, FirstAt, no_common, AreEach, Lists, UpTo, name_at, site, AtEach, IsFirstAt, section_count}
use Rattle.elf_link_files.specs.Rows.{symbol_count, IsLargest, align_at, commons, entries, not_weak, size_at, strong, weak}
use Rattle.elf_link_files.specs.declared.fault.LinkFault.TheVariants.{Rule, OutOfMemory}
use Rattle.elf_link_files.specs.declared.fault.LinkFault.{LinkFault}
use Rattle.elf_link_files.specs.declared.fault.Options.{Options}
use Rattle.elf_link_files.specs.declared.site.Chosen.{Chosen}
use Rattle.elf_link_files.specs.declared.site.Site.{Site}
use Rattle.elf_link_map.specs.Entry.{HasSite, IsChoiceTarget, IsEntrySymbolTarget, IsNameTarget, IsPlaceTarget, IsSectionTarget}
use Rattle.elf_link_map.specs.LinkMap.{IsLinkPlan, LinkPlan, link_parts, IsPlan, FirstOfAddresses, FirstOfLink, IsLinkFault, IsOnlyFault}
use Rattle.elf_link_map.specs.LinkMap.{IsPlacedAt, IsAddressingFault}
use Rattle.elf_link_names.proofs.ChosenCommons.{have_chosen}
use Rattle.elf_link_names.proofs.Public.{bound_excludes, one_choice, one_chosen, one_common}
use Rattle.elf_link_names.specs.Binds.{input_rules, Binds, IsUnbound, IsChosen}
use Rattle.elf_link_names.specs.Resolution.{AreChosen, HaveChosen, IsOfLargest}
use Rattle.elf_link_names.specs.declared.name_rules.Choice.TheVariants.{Strong, Common, Weak, Zero}
use Rattle.elf_link_names.specs.declared.name_rules.Choice.{Choice}
use Rattle.elf_link_outputs.proofs.Public.{members_live, placed_once, all_flat, one_outputs}
use Rattle.elf_link_outputs.specs.Addresses.{address_rules, IsAddressedFrom, IsAddressFault, HasValue}
use Rattle.elf_link_outputs.specs.Outputs.{live, openers, AreOutputs, Plan, flat, members, parts_of, placed, AddressedValue, PlanValue}
use Rattle.elf_link_outputs.specs.Outputs.{plan_parts}
use Rattle.elf_link_outputs.specs.declared.addresses.Target.TheVariants.{Part, Lost, Fixed}
use Rattle.elf_link_outputs.specs.declared.addresses.Target.{Target}
use Rattle.elf_object_type.specs.Object.{ObjectValue}
use Rattle.elf_object_type.specs.declared.parts.Place.TheVariants.{Undef, Abs, In, Common as CommonPlace}
use Rattle.elf_object_type.specs.declared.parts.Place.{Place}

-- Objects and options have at most one plan. Live sections are in one order, a section is placed once, a name has one choice, and least
-- places are one list; so the target of the entry symbol is one too.

one_plan : (fs : List ObjectValue) (p q : Plan) → IsPlan fs p → IsPlan fs q → p ≡ q
one_plan fs p q one other =
    ap (λ (oss : List (List Site)). record { outputs = oss; commons = p.commons })
    (one_outputs fs p.outputs q.outputs one.outputs other.outputs) ∙
    ap (λ (cs : List Chosen). record { outputs = q.outputs; commons = cs }) (one_chosen fs p.commons q.commons one.commons other.commons)

-- ---- positions

-- a section is placed once
pub one_position : (fs : List ObjectValue) (oss : List (List Site)) (f s j k : ℕ) → AreOutputs fs oss → HasSite (flat oss) f s j →
    HasSite (flat oss) f s k → j ≡ k
one_position fs oss f s j k (ps, openers, mem) (j_in, j_file, j_index) (k_in, k_file, k_index) =
    let once = placed_once fs ps oss openers mem in
    let live_at = all_flat (live fs) oss (λ i lt. members_live fs ps oss i mem lt) in
    let first = site_is (site_at (flat oss) j) f s j_file j_index (live_at j j_in).3 in
    let second = site_is (site_at (flat oss) k) f s k_file k_index (live_at k k_in).3 in
    elim (cases_lt j k) [
      | inl below ↦ absurd (once j k below k_in (first ∙ sym second))
      | inr not_below ↦ elim (cases_lt k j) [
        | inl above ↦ absurd (once k j above j_in (second ∙ sym first))
        | inr not_above ↦ omega arith
      ]
    ]

-- ---- the entry symbol

one_section_target : (fs : List ObjectValue) (oss : List (List Site)) (f s offset : ℕ) (t u : Target) → AreOutputs fs oss →
    IsSectionTarget (flat oss) f s offset t → IsSectionTarget (flat oss) f s offset u → t ≡ u
one_section_target fs oss f s offset t u are (inl (j, here, is)) (inl (k, there, other)) =
    is ∙ ap (λ (n : ℕ). Part n offset) (one_position fs oss f s j k are here there) ∙ sym other
one_section_target fs oss f s offset t u are (inl (j, here, is)) (inr (none, other)) = absurd (none j here)
one_section_target fs oss f s offset t u are (inr (none, is)) (inl (k, there, other)) = absurd (none k there)
one_section_target fs oss f s offset t u are (inr (none, is)) (inr (never, other)) = is ∙ sym other

one_place_target : (fs : List ObjectValue) (oss : List (List Site)) (f value : ℕ) (p : Place) (t u : Target) → AreOutputs fs oss →
    IsPlaceTarget (flat oss) f value p t → IsPlaceTarget (flat oss) f value p u → t ≡ u
one_place_target fs oss f value Undef t u are is other = is ∙ sym other
one_place_target fs oss f value Abs t u are is other = is ∙ sym other
one_place_target fs oss f value CommonPlace t u are is other = is ∙ sym other
one_place_target fs oss f value (In s) t u are is other = one_section_target fs oss f s value t u are is other

one_choice_target : (fs : List ObjectValue) (oss : List (List Site)) (cs : List Chosen) (name : List ℕ) (choice : Choice) (t u : Target) →
    AreOutputs fs oss →
    AreChosen fs cs → IsChoiceTarget fs (flat oss) cs name choice t → IsChoiceTarget fs (flat oss) cs name choice u → t ≡ u
one_choice_target fs oss cs name (Strong f s) t u are chosen is other =
    one_place_target fs oss f (symbol_in fs f s).value (symbol_in fs f s).place t u are is other
one_choice_target fs oss cs name (Common size align) t u are chosen (j, here, is) (k, there, other) =
    is ∙ ap (λ (n : ℕ). Part (length (flat oss) + n) 0) (one_common fs cs name j k chosen here there) ∙ sym other
one_choice_target fs oss cs name (Weak f s) t u are chosen is other =
    one_place_target fs oss f (symbol_in fs f s).value (symbol_in fs f s).place t u are is other
one_choice_target fs oss cs name Zero t u are chosen is other = is ∙ sym other

one_name_target : (fs : List ObjectValue) (oss : List (List Site)) (cs : List Chosen) (name : List ℕ) (t u : Target) → AreOutputs fs oss →
    AreChosen fs cs →
    IsNameTarget fs (flat oss) cs name t → IsNameTarget fs (flat oss) cs name u → t ≡ u
one_name_target fs oss cs name t u are chosen (inl (unbound, is)) (inl (again, other)) = is ∙ sym other
one_name_target fs oss cs name t u are chosen (inl (unbound, is)) (inr (choice, binds, other)) =
    absurd (bound_excludes fs name choice binds unbound)
one_name_target fs oss cs name t u are chosen (inr (choice, binds, is)) (inl (unbound, other)) =
    absurd (bound_excludes fs name choice binds unbound)
one_name_target fs oss cs name t u are chosen (inr (choice, binds, is)) (inr (another, besides, other)) =
    one_choice_target fs oss cs name choice t u are chosen is
    (subst (λ (c : Choice). IsChoiceTarget fs (flat oss) cs name c u) (one_choice fs name another choice besides binds) other)

one_entry_target : (fs : List ObjectValue) (oss : List (List Site)) (cs : List Chosen) (entry : Option (Bor (List ℕ))) (t u : Target) →
    AreOutputs fs oss →
    AreChosen fs cs → IsEntrySymbolTarget fs (flat oss) cs entry t → IsEntrySymbolTarget fs (flat oss) cs entry u → t ≡ u
one_entry_target fs oss cs None t u are chosen is other = is ∙ sym other
one_entry_target fs oss cs (Some name) t u are chosen is other = one_name_target fs oss cs name.now t u are chosen is other

-- ---- all of it

-- two of one plan have one target and one list of places
one_rest : (opt : Options) (fs : List ObjectValue) (plan : Plan) (places others : List ℕ) (t u : Target) →
    IsLinkPlan opt fs (record { plan = plan; places = places; target = t }) →
    IsLinkPlan opt fs (record { plan = plan; places = others; target = u }) →
    (places ≡ others) × (t ≡ u)
one_rest opt fs plan places others t u one other = (
  same_least (link_parts fs opt (record { plan = plan; places = places; target = t })) opt.base places others one.least other.least,
  one_entry_target fs plan.outputs plan.commons opt.entry t u one.plan.outputs one.plan.commons one.target other.target,
)

pub one_link_plan : (opt : Options) (fs : List ObjectValue) (l k : LinkPlan) → IsLinkPlan opt fs l → IsLinkPlan opt fs k → l ≡ k
one_link_plan opt fs l k one other =
    let same = one_plan fs k.plan l.plan other.plan one.plan in
    let (places, target) = one_rest opt fs l.plan l.places k.places l.target k.target one
    (subst (λ (p : Plan). IsLinkPlan opt fs (record { plan = p; places = k.places; target = k.target })) same other) in
    ap (λ (p : Plan). record { plan = p; places = l.places; target = l.target }) (sym same) ∙
    ap (λ (ps : List ℕ). record { plan = k.plan; places = ps; target = l.target }) places ∙
    ap (λ (t : Target). record { plan = k.plan; places = k.places; target = t }) target

-- A link has at most one answer: the first rule that is broken, or that none is. By cases on both: the input rules have one answer
-- (`one_found`), and so have the address rules, asked of the one plan (`one_link_plan`).

one_of_addresses : (opt : Options) (fs : List ObjectValue) (a b : Option (ℕ × Site)) → FirstOfAddresses opt fs a →
    FirstOfAddresses opt fs b → a ≡ b
one_of_addresses opt fs a b (l, is, found) (k, are, other) =
    one_found (address_rules (link_parts fs opt l) opt.base l.target) a b found
    (subst (λ (n : LinkPlan). FirstAt (address_rules (link_parts fs opt n) opt.base n.target) b) (one_link_plan opt fs k l are is) other)

none_some : (b : ℕ × Site) → ◌≡◌ {A = Option (ℕ × Site)} None (Some b) → ⊥
none_some b e = cc

pub one_link_fault : (opt : Options) (fs : List ObjectValue) (a b : Option (ℕ × Site)) → FirstOfLink opt fs a → FirstOfLink opt fs b → a ≡ b
one_link_fault opt fs None None p q = refl
one_link_fault opt fs None (Some b) p (inl here) = one_found (input_rules opt fs) None (Some b) p.0 here
one_link_fault opt fs None (Some b) p (inr later) = one_of_addresses opt fs None (Some b) p.1 later.1
one_link_fault opt fs (Some a) None (inl here) q = one_found (input_rules opt fs) (Some a) None here q.0
one_link_fault opt fs (Some a) None (inr later) q = one_of_addresses opt fs (Some a) None later.1 q.1
one_link_fault opt fs (Some a) (Some b) (inl here) (inl there) = one_found (input_rules opt fs) (Some a) (Some b) here there
one_link_fault opt fs (Some a) (Some b) (inl here) (inr later) =
    absurd (none_some a (one_found (input_rules opt fs) None (Some a) later.0 here))
one_link_fault opt fs (Some a) (Some b) (inr later) (inl here) =
    absurd (none_some b (one_found (input_rules opt fs) None (Some b) later.0 here))
one_link_fault opt fs (Some a) (Some b) (inr one) (inr other) = one_of_addresses opt fs (Some a) (Some b) one.1 other.1

-- It is absurd that objects and options have no plan, or that no answer is the first rule of their link. A row has a list of its sites, by
-- induction on files and positions. A name that is not unbound has a choice, by cases on its first sites. These are double negations, since
-- nothing is decided.

-- ---- lists of sites

-- the sites of a row in file f, position by position
in_file : (count : ObjectValue → ℕ) (fs : List ObjectValue) (P : ℕ → ℕ → Type 0) (f i : ℕ) → f < length fs → i ≤ count (object_at fs f) →
    ¬ ((ps : List Site) → ¬ Lists (UpTo (AtEach count fs P) f 0) ps) → ¬ ((ps : List Site) → ¬ Lists (UpTo (AtEach count fs P) f i) ps)
in_file count fs P f zero lt le before none = before none
in_file count fs P f (suc i) lt le before none =
    in_file count fs P f i lt (omega arith) before
    (λ ps is. (
    let up : (qs : List Site) → ¬ Lists (UpTo (AtEach count fs P) f (i + 1)) qs =
    λ qs are. none qs (subst (λ (n : ℕ). Lists (UpTo (AtEach count fs P) f n) qs) (add-one i) are) in
    up ps (listed_past count fs P f i ps (λ here. up (ps ++ site f i ∷ []) (listed_more count fs P f i ps lt (omega arith) here is)) is)))

within_file : (count : ObjectValue → ℕ) (fs : List ObjectValue) (P : ℕ → ℕ → Type 0) (f : ℕ) (p : Site) → AtEach count fs P p →
    IsEarlier p.file p.index (f + 1) 0 → IsEarlier p.file p.index f (count (object_at fs f))
within_file count fs P f p row (inl less) = elim (cases_lt p.file f) [
  | inl below ↦ inl below
  | inr above ↦ (let same : p.file ≡ f = omega arith in inr (same, subst (λ (n : ℕ). p.index < count (object_at fs n)) same row.1))
]
within_file count fs P f p row (inr (same, less)) = absurd (omega arith)

nothing_before : (p : Site) → ¬ IsEarlier p.file p.index 0 0
nothing_before p (inl less) = omega arith
nothing_before p (inr (same, less)) = omega arith

-- and file by file
before_file : (count : ObjectValue → ℕ) (fs : List ObjectValue) (P : ℕ → ℕ → Type 0) (f : ℕ) → f ≤ length fs →
    ¬ ((ps : List Site) → ¬ Lists (UpTo (AtEach count fs P) f 0) ps)
before_file count fs P zero le none = none [] (record {
  each = λ k lt. absurd (omega arith);
  all = λ p (row, before). absurd (nothing_before p before);
  order = λ j k lt within. absurd (omega arith);
})
before_file count fs P (suc f) le none =
    in_file count fs P f (count (object_at fs f)) (omega arith) (omega arith) (before_file count fs P f (omega arith))
    (λ ps is. none ps
    (subst (λ (n : ℕ). Lists (UpTo (AtEach count fs P) n 0) ps) (add-one f)
    (lists_same (UpTo (AtEach count fs P) f (count (object_at fs f))) (UpTo (AtEach count fs P) (f + 1) 0) ps
    (λ p (row, before). (row, file_before p.file p.index f (count (object_at fs f)) before))
    (λ p (row, before). (row, within_file count fs P f p row before)) is)))

pub some_list : (count : ObjectValue → ℕ) (fs : List ObjectValue) (P : ℕ → ℕ → Type 0) →
    ¬ ((ps : List Site) → ¬ Lists (AtEach count fs P) ps)
some_list count fs P none =
    before_file count fs P (length fs) (omega arith)
    (λ ps is. none ps
    (lists_same (UpTo (AtEach count fs P) (length fs) 0) (AtEach count fs P) ps (λ p up. up.0) (λ p row. (row, inl row.0)) is))

-- so there is one of each row of sites that are there
pub some_row : (count : ObjectValue → ℕ) (fs : List ObjectValue) (row : Row Site) →
    ((p : Site) → row p → (p.file < length fs) × (p.index < count (object_at fs p.file)) × (p.entry ≡ 0)) →
    ¬ ((ps : List Site) → ¬ Lists row ps)
some_row count fs row there none =
    some_list count fs (λ f i. row (site f i))
    (λ ps is. none ps (lists_same (AtEach count fs (λ f i. row (site f i))) row ps
    (λ p at. subst row (sym (site_is p p.file p.index refl refl at.3)) at.2)
    (λ p holds. (
    let (file, index, entry) = there p holds in (file, index, subst row (site_is p p.file p.index refl refl entry) holds, entry))) is))

-- a list that has what is said of each position
pub some_each : {A : Type 0} (none : A) (P : ℕ → A → Type 0) (n : ℕ) → ((k : ℕ) → k < n → ¬ ((x : A) → ¬ P k x)) →
    ¬ ((xs : List A) → ¬ AreEach none P n xs)
some_each none P zero each lacks = lacks [] (record { count = refl; each = λ k lt. absurd (omega arith) })
some_each {A} none P (suc n) each lacks =
    some_each none P n (λ k lt. each k (omega arith))
    (λ xs are. each n (omega arith)
    (λ x here. lacks (xs ++ x ∷ []) (subst (λ (m : ℕ). AreEach none P m (xs ++ x ∷ [])) (add-one n) (each_more none P n xs x here are))))

pub first_or_never : (row : Row Site) → ¬ (¬ (((p : Site) × IsFirstAt row p) ⊎ Never row))
first_or_never row none = some_site (rule 0 row ∷ []) known where
  known : (x : Option (ℕ × Site)) → ¬ FirstAt (rule 0 row ∷ []) x
  known None (never, rest) = none (inr never)
  known (Some found) (inl (is, first)) = none (inl (found.1, first))
  known (Some found) (inr (never, rest)) = rest

-- ---- what a name is bound to

bound_cons : (m : Site → ℕ) (p : Site) (qs : List Site) (n : ℕ) → m p ≤ n → ((k : ℕ) → k < length qs → m (site_at qs k) ≤ n) →
    (k : ℕ) → k < length (p ∷ qs) → m (site_at (p ∷ qs) k) ≤ n
bound_cons m p qs n here rest zero lt = here
bound_cons m p qs n here rest (suc k) lt = rest k (omega arith)

-- the largest number at the sites of a list, and where it is
record IsTop (m : Site → ℕ) (ps : List Site) (n : ℕ) : Type 0 where
  above : (k : ℕ) → k < length ps → m (site_at ps k) ≤ n
  attained : (k : ℕ) × (k < length ps) × (m (site_at ps k) ≡ n)

top : (m : Site → ℕ) (p : Site) (qs : List Site) → (n : ℕ) × IsTop m (p ∷ qs) n
top m p [] =
    (m p, record { above = bound_cons m p [] (m p) (omega arith) (λ k lt. absurd (omega arith)); attained = (0, omega arith, refl) })
top m p (q ∷ qs) =
    let (n, is) = top m q qs in
    let (k, lt, at) = is.attained in
    elim (cases_lt n (m p)) [
      | inl less ↦ (
        m p,
        record {
          above = bound_cons m p (q ∷ qs) (m p) (omega arith) (λ j within. (let le = is.above j within in omega arith));
          attained = (0, omega arith, refl);
        },
      )
      | inr more ↦ (n, record { above = bound_cons m p (q ∷ qs) n more is.above; attained = (suc k, omega arith, at) })
    ]

largest_in : (row : Row Site) (measure : ℕ → ℕ → ℕ) (ps : List Site) (p : Site) → Lists row ps → row p → (n : ℕ) × IsLargest row measure n
largest_in row measure [] p is there = absurd (let (k, lt, at) = is.all p there in omega arith)
largest_in row measure (q ∷ qs) p is there =
    let m : Site → ℕ = λ s. measure s.file s.index in
    let (n, top_is) = top m q qs in
    let (k, lt, at) = top_is.attained in (
      n,
      record {
        above = λ s holds. (let (j, j_in, is_s) = is.all s holds in subst (λ (x : Site). m x ≤ n) is_s (top_is.above j j_in));
        attained = (site_at (q ∷ qs) k, is.each k lt, at);
      },
    )

-- a name with a common has a largest size and a largest alignment
some_block : (fs : List ObjectValue) (name : List ℕ) (p : Site) → commons fs name p →
    ¬ ((size align : ℕ) → IsLargest (commons fs name) (size_at fs) size → ¬ IsLargest (commons fs name) (align_at fs) align)
some_block fs name p there none =
    some_list symbol_count fs (IsCommon fs name)
    (λ ps is. (
    let (size, largest) = largest_in (commons fs name) (size_at fs) ps p is there in
    let (align, aligned) = largest_in (commons fs name) (align_at fs) ps p is there in
    none size align largest aligned))

-- a first site of symbols is one of a file and an index
first_is : (row : Row Site) (p : Site) → IsFirstAt row p → p.entry ≡ 0 → IsFirstAt row (site p.file p.index)
first_is row p first entry = subst (IsFirstAt row) (site_is p p.file p.index refl refl entry) first

-- each name is bound, or it is bound to nothing
pub some_choice : (fs : List ObjectValue) (name : List ℕ) → ¬ IsUnbound fs name → ¬ ((c : Choice) → ¬ Binds fs name c)
some_choice fs name bound none = first_or_never (strong fs name) by_strong where
  by_entry : Never (strong fs name) → Never (commons fs name) → Never (weak fs name) → Never (not_weak fs name) →
      ¬ (((p : Site) × IsFirstAt (entries fs name) p) ⊎ Never (entries fs name))
  by_entry a b c d (inl (p, first)) = none Zero (a, b, c, d, (p, first.stands))
  by_entry a b c d (inr never) = bound (a, b, c, inl never)

  by_not_weak : Never (strong fs name) → Never (commons fs name) → Never (weak fs name) →
      ¬ (((p : Site) × IsFirstAt (not_weak fs name) p) ⊎ Never (not_weak fs name))
  by_not_weak a b c (inl (p, first)) = bound (a, b, c, inr (p, first.stands))
  by_not_weak a b c (inr never) = first_or_never (entries fs name) (by_entry a b c never)

  by_weak : Never (strong fs name) → Never (commons fs name) → ¬ (((p : Site) × IsFirstAt (weak fs name) p) ⊎ Never (weak fs name))
  by_weak a b (inl (p, first)) = none (Weak p.file p.index) (a, b, first_is (weak fs name) p first first.stands.3)
  by_weak a b (inr never) = first_or_never (not_weak fs name) (by_not_weak a b never)

  by_common : Never (strong fs name) → ¬ (((p : Site) × IsFirstAt (commons fs name) p) ⊎ Never (commons fs name))
  by_common a (inl (p, first)) =
      some_block fs name p first.stands (λ size align largest aligned. none (Common size align) (a, largest, aligned))
  by_common a (inr never) = first_or_never (weak fs name) (by_weak a never)

  by_strong : ¬ (((p : Site) × IsFirstAt (strong fs name) p) ⊎ Never (strong fs name))
  by_strong (inl (p, first)) = none (Strong p.file p.index) (first_is (strong fs name) p first first.stands.3)
  by_strong (inr never) = first_or_never (commons fs name) (by_common never)

-- ---- what the entry symbol's value is made of

some_place_target : (ps : List Site) (f value : ℕ) (p : Place) → ¬ ((t : Target) → ¬ IsPlaceTarget ps f value p t)
some_place_target ps f value Undef none = none Lost refl
some_place_target ps f value Abs none = none (Fixed value) refl
some_place_target ps f value CommonPlace none = none Lost refl
some_place_target ps f value (In s) none = none Lost (inr ((λ k is. none (Part k value) (inl (k, is, refl))), refl))

some_choice_target : (fs : List ObjectValue) (ps : List Site) (cs : List Chosen) (name : List ℕ) (c : Choice) → HaveChosen fs cs →
    Binds fs name c →
    ¬ ((t : Target) → ¬ IsChoiceTarget fs ps cs name c t)
some_choice_target fs ps cs name (Strong file symbol) have binds none =
    some_place_target ps file (symbol_in fs file symbol).value (symbol_in fs file symbol).place none
some_choice_target fs ps cs name (Common size align) have binds none =
    let (k, is) = have name size align binds in none (Part (length ps + k) 0) (k, is, refl)
some_choice_target fs ps cs name (Weak file symbol) have binds none =
    some_place_target ps file (symbol_in fs file symbol).value (symbol_in fs file symbol).place none
some_choice_target fs ps cs name Zero have binds none = none Lost refl

some_target : (fs : List ObjectValue) (ps : List Site) (cs : List Chosen) (entry : Option (Bor (List ℕ))) → HaveChosen fs cs →
    ¬ ((t : Target) → ¬ IsEntrySymbolTarget fs ps cs entry t)
some_target fs ps cs None have none = none (Fixed 0) refl
some_target fs ps cs (Some name) have none =
    some_choice fs name.now (λ unbound. none Lost (inl (unbound, refl)))
    (λ c binds. some_choice_target fs ps cs name.now c have binds (λ t is. none t (inr (c, binds, is))))

-- ---- the plan

some_outputs : (fs : List ObjectValue) → ¬ ((oss : List (List Site)) → ¬ AreOutputs fs oss)
some_outputs fs none =
    some_row section_count fs (openers fs false) (λ p at. (at.0.0, at.0.1, at.0.3))
    (λ with is_with. some_row section_count fs (openers fs true) (λ p at. (at.0.0, at.0.1, at.0.3))
    (λ without is_without. some_each [] (λ k. Lists (members fs (site_at (with ++ without) k))) (length (with ++ without))
    (λ k lt. some_row section_count fs (members fs (site_at (with ++ without) k)) (λ p at. (at.0.0, at.0.1, at.0.3)))
    (λ oss are. none oss (with ++ without, (with, without, is_with, is_without, refl), are))))

some_commons : (fs : List ObjectValue) → ¬ ((cs : List Chosen) → ¬ AreChosen fs cs)
some_commons fs none =
    some_list symbol_count fs (IsChosen fs)
    (λ ps is. some_each no_common (λ k c. (c.site ≡ site_at ps k) × IsOfLargest fs c) (length ps)
    (λ k lt lacks. (
    let p = site_at ps k in
    let (file, index, chosen, entry) = is.each k lt in
    some_block fs (name_at fs p) p (file, index, chosen.0, entry)
    (λ size align largest aligned. lacks (record { site = p; size = size; align = align }) (refl, (largest, aligned)))))
    (λ cs are. none cs (ps, is, are)))

pub some_plan : (opt : Options) (fs : List ObjectValue) → ¬ ((l : LinkPlan) → ¬ IsLinkPlan opt fs l)
some_plan opt fs none =
    some_outputs fs (λ oss are. some_commons fs (λ cs chosen. (
    let plan : Plan = record { outputs = oss; commons = cs } in
    let least = least_places (parts_of fs opt.page plan) opt.base in
    some_target fs (placed plan) cs opt.entry (have_chosen fs cs chosen)
    (λ t is. none (record { plan = plan; places = least.0; target = t })
    (record { plan = record { outputs = are; commons = chosen }; target = is; least = least.1 })))))

-- ---- the first rule that is broken

pub some_link_fault : (opt : Options) (fs : List ObjectValue) → ¬ ((x : Option (ℕ × Site)) → ¬ FirstOfLink opt fs x)
some_link_fault opt fs none = some_site (input_rules opt fs) of_inputs where
  of_addresses : FirstAt (input_rules opt fs) None → (l : LinkPlan) → IsLinkPlan opt fs l →
      (x : Option (ℕ × Site)) → ¬ FirstAt (address_rules (link_parts fs opt l) opt.base l.target) x
  of_addresses clean l is None found = none None (clean, (l, is, found))
  of_addresses clean l is (Some broken) found = none (Some broken) (inr (clean, (l, is, found)))

  of_inputs : (x : Option (ℕ × Site)) → ¬ FirstAt (input_rules opt fs) x
  of_inputs None clean =
      some_plan opt fs (λ l is. some_site (address_rules (link_parts fs opt l) opt.base l.target) (of_addresses clean l is))
  of_inputs (Some broken) found = none (Some broken) (inl found)

-- A plan at its addresses is the link's, since its parts are those of the link's files and page. If no input rule is broken, a fault of
-- rules 10 and 11 at the plan is the link's. The witness is the plan with its least places.

pub placed_at : (opt : Options) (fs : List ObjectValue) (p : PlanValue) (a : AddressedValue) (target : Target) → a.plan.objects ≡ fs →
    a.plan.page ≡ opt.page →
    AreOutputs fs a.plan.plan.outputs → AreChosen fs a.plan.plan.commons →
    IsEntrySymbolTarget fs (placed a.plan.plan) a.plan.plan.commons opt.entry target → IsAddressedFrom p opt.base target a →
    IsPlacedAt opt fs a target
placed_at opt fs p a target objects page outputs chosen entry from =
    let parts : plan_parts a.plan ≡ parts_of fs opt.page a.plan.plan =
    ap (λ (os : List ObjectValue). parts_of os a.plan.page a.plan.plan) objects ∙ ap (λ (n : ℕ). parts_of fs n a.plan.plan) page in
    record {
      objects = objects;
      page = page;
      plan = record {
        plan = record { outputs = outputs; commons = chosen };
        target = entry;
        least = subst (λ (ps : List (ℕ × ℕ)). Least ps opt.base a.places) parts from.least;
      };
      sound = subst (λ (ps : List (ℕ × ℕ)). FirstAt (address_rules ps opt.base target) None) parts from.sound;
      fits = subst (λ (ps : List (ℕ × ℕ)). EndsFit ps a.places (length ps)) parts from.fits;
      entry = subst (λ (ps : List (ℕ × ℕ)). HasValue ps opt.base target a.entry) parts from.entry;
    }

pub placing_fault : (opt : Options) (fs : List ObjectValue) (plan : Plan) (target : Target) (fault : LinkFault) →
    AreOutputs fs plan.outputs →
    AreChosen fs plan.commons → IsEntrySymbolTarget fs (placed plan) plan.commons opt.entry target →
    IsAddressFault (parts_of fs opt.page plan) opt.base target fault → IsAddressingFault opt fs fault
placing_fault opt fs plan target (Rule number file index entry) outputs chosen is first =
    let (places, least) = least_places (parts_of fs opt.page plan) opt.base in (
      record { plan = plan; places = places; target = target },
      record { plan = record { outputs = outputs; commons = chosen }; target = is; least = least },
      first,
    )
placing_fault opt fs plan target OutOfMemory outputs chosen is first = tt

pub link_fault : (opt : Options) (fs : List ObjectValue) (fault : LinkFault) → FirstAt (input_rules opt fs) None →
    FirstAt (option_rules opt fs) None →
    IsAddressingFault opt fs fault → IsLinkFault opt fs fault
link_fault opt fs (Rule number file index entry) clean options is = inr (clean, is)
link_fault opt fs OutOfMemory clean options is = options

pub if_err_map : {A : Type 0} (P Q : LinkFault → Type 0) (r : Result A LinkFault) → ((fault : LinkFault) → P fault → Q fault) → IfErr r P →
    IfErr r Q
if_err_map P Q (Ok a) into is = tt
if_err_map P Q (Err fault) into is = into fault is

-- the first rule that is broken is the only answer
pub only_fault : (opt : Options) (fs : List ObjectValue) (fault : LinkFault) → IsLinkFault opt fs fault →
    IsOnlyFault (FirstOfLink opt fs) fault
only_fault opt fs (Rule number file index entry) is = λ x there.
    one_link_fault opt fs x (Some (number, record { file = file; index = index; entry = entry })) there is
only_fault opt fs OutOfMemory is = tt
