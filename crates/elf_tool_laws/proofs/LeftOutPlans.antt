-- Without symbols that are left out a link has the same outputs, the same commons, but for where their symbols are, and so the same places.
-- A plan of the smaller files is, with the positions before, one of all. So with the bindings before the link map after is the link map
-- before, of which there is one.
use Rattle.std.proofs.Common.{◌≡◌, ◌∙◌, ◌<◌, ◌≤◌, ℕ, List, [], ◌∷◌, ◌++◌, ap, ap₂, arith, get_or, inl, inr, length}
use Rattle.std.proofs.Common.{Bool, false, map, refl, subst, sym, true}
use Rattle.std.proofs.Math.ListN.{get_or-map}
use Rattle.std.proofs.lemmas.Bool.{cases_lt}
use Rattle.std.proofs.lemmas.List.{get_or-map as get_or-map-in, get_or_past, length-map}
use Rattle.std.proofs.lemmas.List.Concat.{flat_map-cons}
use Rattle.std.proofs.lemmas.Simd.{map-map}
use Rattle.std.specs.List.{flat_map}
use Rattle.elf_extent.specs.Extent.{Never}
use Rattle.elf_field.specs.Abi.{SHF_ALLOC}
use Rattle.elf_image_rules.specs.Rows.{Row}
use Rattle.elf_link_files.specs.Files.{IsCommon, IsStrong, Live, is_loadable, no_object, object_at, section_in, symbol_in}
use Rattle.elf_link_files.specs.Rows.{AreEach, AtSymbol, Before, IsFirstAt, IsLargest, Lists, align_at, chosen_at, commons, name_at}
use Rattle.elf_link_files.specs.Rows.{no_common, site, site_at, size_at, strong}
use Rattle.elf_link_files.specs.declared.site.Chosen.{Chosen}
use Rattle.elf_link_files.specs.declared.site.Site.{Site}
use Rattle.elf_link_names.specs.Binds.{IsChosen, chosen_commons}
use Rattle.elf_link_names.specs.Resolution.{AreChosen, IsOfLargest}
use Rattle.elf_link_outputs.specs.Outputs.{AreOutputs, HaveOneKey, is_no_bits, live, memory_size, members, openers, output_flags}
use Rattle.elf_link_outputs.specs.Outputs.{output_parts, part_of, parts_of, raised, common_part, Plan}
use Rattle.elf_object_type.specs.Object.{BodyValue, HasFlag, ObjectValue, SectionValue, SymbolValue, bits, group, no_bits, no_section}
use Rattle.elf_object_type.specs.Object.{relocs, section_at, symbol_at}
use Rattle.elf_tool_laws.proofs.LeftOut.{IsKeptKind, commons_kept, strong_kept, discarded_here, first_here, largest_here, loadable_by}
use Rattle.elf_tool_laws.proofs.LeftOut.{row_here, row_there, site_before, strong_never}
use Rattle.elf_tool_laws.proofs.LeftOut.{discarded_there}
use Rattle.elf_tool_laws.specs.LeftOut.{AreLessSymbols, body_by, section_by}

-- ---- lists

pub map_same : {A B : Type 0} (f g : A → B) → ((x : A) → f x ≡ g x) → (xs : List A) → map f xs ≡ map g xs
map_same f g same [] = refl
map_same f g same (x ∷ xs) = ap₂ ◌∷◌ (same x) (map_same f g same xs)

pub flat_map_same : {A B : Type 0} (f g : A → List B) → ((x : A) → f x ≡ g x) → (xs : List A) → flat_map f xs ≡ flat_map g xs
flat_map_same f g same [] = refl
flat_map_same f g same (x ∷ xs) =
    flat_map-cons f x xs ∙ ap₂ ◌++◌ (same x) (flat_map_same f g same xs) ∙ sym (flat_map-cons g x xs)

lists_as : (R S : Row Site) → ((p : Site) → R p → S p) → ((p : Site) → S p → R p) → (ps : List Site) → Lists R ps → Lists S ps
lists_as R S to from ps are =
    record { each = λ k lt. to (site_at ps k) (are.each k lt); all = λ p is. are.all p (from p is); order = are.order }

pub each_as : {A : Type 0} (none : A) (P Q : ℕ → A → Type 0) (n : ℕ) (xs : List A) → ((k : ℕ) (x : A) → k < n → P k x → Q k x) →
    AreEach none P n xs → AreEach none Q n xs
each_as none P Q n xs to are = record { count = are.count; each = λ k lt. to k (get_or xs k none) lt (are.each k lt) }

-- ---- bodies

pub no_bits_by : (at : ℕ → ℕ) (b : BodyValue) → is_no_bits (body_by at b) ≡ is_no_bits b
no_bits_by at (bits type content) = refl
no_bits_by at (no_bits size) = refl
no_bits_by at (relocs rela target entries) = refl
no_bits_by at (group comdat signature members) = refl

pub memory_by : (at : ℕ → ℕ) (b : BodyValue) → memory_size (body_by at b) ≡ memory_size b
memory_by at (bits type content) = refl
memory_by at (no_bits size) = refl
memory_by at (relocs rela target entries) = refl
memory_by at (group comdat signature members) = refl

-- ---- what is placed, by the positions before

abbrev pub chosen_before : (ℕ → ℕ → ℕ) → Chosen → Chosen
chosen_before at c = record { site = site_before at c.site; size = c.size; align = c.align }

abbrev pub plan_before : (ℕ → ℕ → ℕ) → Plan → Plan
plan_before at plan = record { outputs = plan.outputs; commons = map (chosen_before at) plan.commons }

module _ (fs gs : List ObjectValue) (at : ℕ → ℕ → ℕ) (r : AreLessSymbols fs gs at) where
  -- ---- sections, also of a file that isn't there

  not_there : (f : ℕ) → length fs ≤ f → object_at gs f ≡ object_at fs f
  not_there f past = (let files = r.files in get_or_past gs f no_object (omega arith) ∙ sym (get_or_past fs f no_object past))

  no_file : (f s : ℕ) → length fs ≤ f → section_in fs f s ≡ no_section
  no_file f s past = ap (λ (o : ObjectValue). section_at o s) (get_or_past fs f no_object past)

  pub section_before : (f s : ℕ) → section_by (at f) (section_in gs f s) ≡ section_in fs f s
  section_before f s = elim (cases_lt f (length fs)) [
    | inl f_in ↦ sym (get_or-map (section_by (at f)) (object_at gs f).sections s no_section)
        ∙ ap (λ (ss : List SectionValue). get_or ss s no_section) (r.each f f_in).sections
    | inr past ↦ (
        let files = r.files in
        ap (λ (o : ObjectValue). section_by (at f) (section_at o s)) (get_or_past gs f no_object (omega arith)) ∙ sym (no_file f s past))
  ]

  pub body_before : {A : Type 0} (of : BodyValue → A) → ((to : ℕ → ℕ) (b : BodyValue) → of (body_by to b) ≡ of b) → (f s : ℕ) →
      of (section_in gs f s).body ≡ of (section_in fs f s).body
  body_before of keeps f s =
      sym (keeps (at f) (section_in gs f s).body) ∙ ap (λ (x : SectionValue). of x.body) (section_before f s)

  pub name_before : (f s : ℕ) → (section_in gs f s).name ≡ (section_in fs f s).name
  name_before f s = ap (λ (x : SectionValue). x.name) (section_before f s)

  pub flags_before : (f s : ℕ) → (section_in gs f s).flags ≡ (section_in fs f s).flags
  flags_before f s = ap (λ (x : SectionValue). x.flags) (section_before f s)

  pub count_before : (f : ℕ) → length (object_at gs f).sections ≡ length (object_at fs f).sections
  count_before f = elim (cases_lt f (length fs)) [
    | inl f_in ↦ sym (length-map (object_at gs f).sections (section_by (at f)))
        ∙ ap (λ (ss : List SectionValue). length ss) (r.each f f_in).sections
    | inr past ↦ ap (λ (o : ObjectValue). length o.sections) (not_there f past)
  ]

  -- ---- outputs

  pub live_there : (f s : ℕ) → Live fs f s → Live gs f s
  live_there f s (alloc, loadable, kept) = (
    subst (λ (n : ℕ). HasFlag n SHF_ALLOC) (sym (flags_before f s)) alloc,
    body_before is_loadable loadable_by f s ∙ loadable,
    λ gone. kept (discarded_here fs gs at r f s gone),
  )

  pub live_here : (f s : ℕ) → Live gs f s → Live fs f s
  live_here f s (alloc, loadable, kept) = (
    subst (λ (n : ℕ). HasFlag n SHF_ALLOC) (flags_before f s) alloc,
    sym (body_before is_loadable loadable_by f s) ∙ loadable,
    λ gone. kept (discarded_there fs gs at r f s gone),
  )

  pub row_live_there : (p : Site) → live fs p → live gs p
  row_live_there p (f_in, s_in, is, entry) =
      let files = r.files in
      let count = count_before p.file in
      (omega arith, omega arith, live_there p.file p.index is, entry)

  pub row_live_here : (p : Site) → live gs p → live fs p
  row_live_here p (f_in, s_in, is, entry) =
      let files = r.files in
      let count = count_before p.file in
      (omega arith, omega arith, live_here p.file p.index is, entry)

  key_here : (p q : Site) → HaveOneKey gs p q → HaveOneKey fs p q
  key_here p q (name, flags, without) = (
    sym (name_before p.file p.index) ∙ name ∙ name_before q.file q.index,
    ap output_flags (sym (flags_before p.file p.index)) ∙ flags ∙ ap output_flags (flags_before q.file q.index),
    sym (body_before is_no_bits no_bits_by p.file p.index) ∙ without ∙ body_before is_no_bits no_bits_by q.file q.index,
  )

  key_there : (p q : Site) → HaveOneKey fs p q → HaveOneKey gs p q
  key_there p q (name, flags, without) = (
    name_before p.file p.index ∙ name ∙ sym (name_before q.file q.index),
    ap output_flags (flags_before p.file p.index) ∙ flags ∙ ap output_flags (sym (flags_before q.file q.index)),
    body_before is_no_bits no_bits_by p.file p.index ∙ without ∙ sym (body_before is_no_bits no_bits_by q.file q.index),
  )

  openers_here : (without : Bool) (p : Site) → openers gs without p → openers fs without p
  openers_here without p (is, (opener, kind)) = (
    row_live_here p is,
    (
      (λ q q_is before one. opener q (row_live_there q q_is) before (key_there q p one)),
      sym (body_before is_no_bits no_bits_by p.file p.index) ∙ kind,
    ),
  )

  openers_there : (without : Bool) (p : Site) → openers fs without p → openers gs without p
  openers_there without p (is, (opener, kind)) = (
    row_live_there p is,
    (
      (λ q q_is before one. opener q (row_live_here q q_is) before (key_here q p one)),
      body_before is_no_bits no_bits_by p.file p.index ∙ kind,
    ),
  )

  pub outputs_here : (outputs : List (List Site)) → AreOutputs gs outputs → AreOutputs fs outputs
  outputs_here outputs (ps, (with_bits, without, first, second, joined), are) = (
    ps,
    (
      with_bits,
      without,
      lists_as (openers gs false) (openers fs false) (openers_here false) (openers_there false) with_bits first,
      lists_as (openers gs true) (openers fs true) (openers_here true) (openers_there true) without second,
      joined,
    ),
    each_as [] (λ k. Lists (members gs (site_at ps k))) (λ k. Lists (members fs (site_at ps k))) (length ps) outputs
        (λ k ms lt. lists_as (members gs (site_at ps k)) (members fs (site_at ps k))
        (λ q (is, one). (row_live_here q is, key_here q (site_at ps k) one))
        (λ q (is, one). (row_live_there q is, key_there q (site_at ps k) one)) ms) are,
  )

  -- ---- commons

  pub symbol_before : (f j : ℕ) → symbol_in gs f j ≡ symbol_in fs f (at f j)
  symbol_before f j = elim (cases_lt f (length fs)) [
    | inl f_in ↦ (r.each f f_in).symbols j
    | inr past ↦ (
        let files = r.files in
        ap (λ (o : ObjectValue). symbol_at o j) (get_or_past gs f no_object (omega arith))
        ∙ sym (ap (λ (o : ObjectValue). symbol_at o (at f j)) (get_or_past fs f no_object past)))
  ]

  pub site_name_before : (q : Site) → name_at gs q ≡ name_at fs (site_before at q)
  site_name_before q = ap (λ (s : SymbolValue). s.name) (symbol_before q.file q.index)

  before_here : (q p : Site) → q.file < length fs → Before q p → Before (site_before at q) (site_before at p)
  before_here q p f_in (inl file) = inl file
  before_here q p f_in (inr (same, inl index)) =
      inr (same, inl (subst (λ (f : ℕ). at q.file q.index < at f p.index) same ((r.each q.file f_in).ascend q.index p.index index)))
  before_here q p f_in (inr (same, inr (index, entry))) = inr (same, inr (ap₂ at same index, entry))

  -- the first of a kind that is kept was the first one: the other way of `first_here`
  first_there : (P Q : ℕ → ℕ → Type 0) → IsKeptKind fs gs at r P Q → (q : Site) → AtSymbol gs Q q →
      IsFirstAt (AtSymbol fs P) (site_before at q) → IsFirstAt (AtSymbol gs Q) q
  first_there P Q kind q is first = record {
    stands = is;
    first = λ other other_is before. (
        let here = row_here fs gs at r P Q kind.here other other_is in
        first.first (site_before at other) here (before_here other q here.0 before));
  }

  chosen_here : (f j : ℕ) → f < length fs → IsChosen gs f j → IsChosen fs f (at f j)
  chosen_here f j f_in (is, first, none) =
      let name = (symbol_in gs f j).name in
      subst (λ (n : List ℕ). IsCommon fs n f (at f j) × IsFirstAt (commons fs n) (site f (at f j)) × Never (strong fs n))
      (ap (λ (s : SymbolValue). s.name) (symbol_before f j)) (
        (commons_kept fs gs at r name).here f j f_in is,
        first_here fs gs at r (IsCommon fs name) (IsCommon gs name) (commons_kept fs gs at r name) (site f j) first,
        strong_never fs gs at r name none,
      )

  chosen_there : (f j : ℕ) → f < length fs → IsChosen fs f (at f j) → IsChosen gs f j
  chosen_there f j f_in chosen =
      let name = (symbol_in gs f j).name in
      let (is, first, none) =
      subst (λ (n : List ℕ). IsCommon fs n f (at f j) × IsFirstAt (commons fs n) (site f (at f j)) × Never (strong fs n))
      (sym (ap (λ (s : SymbolValue). s.name) (symbol_before f j))) chosen in
      let there = (commons_kept fs gs at r name).there f j f_in is in
      let files = r.files in
      let row : commons gs name (site f j) = (omega arith, ((r.each f f_in).within j).1 first.stands.1, there, refl) in (
        there,
        first_there (IsCommon fs name) (IsCommon gs name) (commons_kept fs gs at r name) (site f j) row first,
        λ q q_is. none (site_before at q)
            (row_here fs gs at r (IsStrong fs name) (IsStrong gs name) (strong_kept fs gs at r name).here q q_is),
      )

  chosen_kept : IsKeptKind fs gs at r (IsChosen fs) (IsChosen gs)
  chosen_kept = record {
    here = chosen_here;
    there = chosen_there;
    needed = λ f i chosen. (commons_kept fs gs at r (symbol_in fs f i).name).needed f i chosen.0;
  }

  site_of_before : (ps : List Site) (k : ℕ) → k < length ps → site_at (map (site_before at) ps) k ≡ site_before at (site_at ps k)
  site_of_before ps k lt = get_or-map-in (site_before at) ps k (site 0 0) (site 0 0) lt

  chosen_lists_here : (ps : List Site) → Lists (chosen_commons gs) ps → Lists (chosen_commons fs) (map (site_before at) ps)
  chosen_lists_here ps are =
      let count = length-map ps (site_before at) in
      record {
        each = λ k lt. subst (chosen_commons fs) (sym (site_of_before ps k (omega arith)))
            (row_here fs gs at r (IsChosen fs) (IsChosen gs) chosen_here (site_at ps k) (are.each k (omega arith)));
        all = λ p p_is. (
            let (q, there, same) = row_there fs gs at r (IsChosen fs) (IsChosen gs) chosen_kept p p_is in
            let (k, lt, is) = are.all q there in
            (k, omega arith, site_of_before ps k lt ∙ ap (site_before at) is ∙ same));
        order = λ j k before lt. (
            let j_in : j < length ps = omega arith in
            let k_in : k < length ps = omega arith in
            let files = r.files in
            let in_file : (site_at ps j).file < length fs = (let there = (are.each j j_in).0 in omega arith) in
            subst (λ (x : Site). Before x (site_at (map (site_before at) ps) k)) (sym (site_of_before ps j j_in))
            (subst (Before (site_before at (site_at ps j))) (sym (site_of_before ps k k_in))
            (before_here (site_at ps j) (site_at ps k) in_file (are.order j k before k_in))));
      }

  largest_chosen : (c : Chosen) → IsOfLargest gs c → IsOfLargest fs (chosen_before at c)
  largest_chosen c (size, align) =
      subst (λ (n : List ℕ). IsLargest (commons fs n) (size_at fs) c.size × IsLargest (commons fs n) (align_at fs) c.align)
      (site_name_before c.site) (
        largest_here fs gs at r (name_at gs c.site) (λ s. s.size) c.size size,
        largest_here fs gs at r (name_at gs c.site) (λ s. s.value) c.align align,
      )

  pub chosen_of_before : (cs : List Chosen) (k : ℕ) → k < length cs →
      chosen_at (map (chosen_before at) cs) k ≡ chosen_before at (chosen_at cs k)
  chosen_of_before cs k lt = get_or-map-in (chosen_before at) cs k no_common no_common lt

  pub commons_here : (cs : List Chosen) → AreChosen gs cs → AreChosen fs (map (chosen_before at) cs)
  commons_here cs (ps, lists, are) =
      let count = length-map ps (site_before at) in
      let long = length-map cs (chosen_before at) in
      let many = are.count in (
        map (site_before at) ps,
        chosen_lists_here ps lists,
        record {
          count = omega arith;
          each = λ k lt. (
              let k_in : k < length ps = omega arith in
              let c_in : k < length cs = omega arith in
              let (place, largest) = are.each k k_in in
              subst (λ (c : Chosen). (c.site ≡ site_at (map (site_before at) ps) k) × IsOfLargest fs c)
              (sym (chosen_of_before cs k c_in))
              (ap (site_before at) place ∙ sym (site_of_before ps k k_in), largest_chosen (chosen_at cs k) largest));
        },
      )

  -- ---- parts

  part_before : (p : Site) → part_of gs p ≡ part_of fs p
  part_before p =
      ap₂ (λ (size align : ℕ). (size, align)) (body_before memory_size memory_by p.file p.index)
      (ap (λ (x : SectionValue). x.align) (section_before p.file p.index))

  pub parts_before : (page : ℕ) (plan : Plan) → parts_of gs page plan ≡ parts_of fs page (plan_before at plan)
  parts_before page plan =
      ap₂ ◌++◌
      (flat_map_same (output_parts gs page) (output_parts fs page)
      (λ ms. ap (raised page) (map_same (part_of gs) (part_of fs) part_before ms)) plan.outputs)
      (ap (raised page) (sym (map-map common_part (chosen_before at) plan.commons)))
