-- If no rule of a link is broken, it is absurd that no value is its link map. There is a plan, its parts end below 2^64, and each field of
-- the map is filled from it. Whether a section is discarded need not be decided, so the claim is a double negation.
use Rattle.std.proofs.Common.{◌≡◌, ℕ, ◌+◌, ◌-◌, ◌^◌, ◌<◌, ◌≤◌, zero, suc, Bool, false, true, List, [], ◌∷◌, length, get_or, map, inl, inr}
use Rattle.std.proofs.Common.{refl, sym, ◌∙◌, ap, subst, arith, add-one}
use Rattle.std.specs.Prelude.{◌↔◌, cond, MatchOption, Option, None, Some, replicate, slice_index}
use Rattle.std.specs.Str.{bytes_eq}
use Rattle.std.proofs.lemmas.Bool.{cases_lt}
use Rattle.std.proofs.lemmas.Slice.Eq.{bytes_eq-Decides}
use Rattle.elf_extent.specs.Extent.{Never}
use Rattle.elf_extent.specs.Place.{EndsFit, Least, end_of}
use Rattle.elf_object_type.specs.Object.{ObjectValue}
use Rattle.elf_link_files.specs.declared.site.Chosen.{Chosen}
use Rattle.elf_link_files.specs.declared.fault.Options.{Options}
use Rattle.elf_link_files.specs.declared.site.Site.{Site}
use Rattle.elf_link_files.specs.Rows.{chosen_at, AreEach, Lists, name_at, site, site_at, FirstAt, section_count, symbol_count, entries}
use Rattle.elf_link_files.specs.Files.{AreDiscardMarks, Discarded, object_at}
use Rattle.elf_link_names.specs.declared.name_rules.Choice.{Choice}
use Rattle.elf_link_names.specs.declared.name_rules.Choice.TheVariants.{Strong, Common, Weak, Zero}
use Rattle.elf_link_names.specs.Binds.{AllBound, Binds, input_rules, IsFirstEntry, first_entries}
use Rattle.elf_link_names.specs.Resolution.{HaveChosen}
use Rattle.elf_link_names.proofs.ChosenCommons.{have_chosen}
use Rattle.elf_link_names.proofs.Public.{all_bound, entry_listed, entry_there}
use Rattle.elf_link_outputs.specs.declared.addresses.Target.{Target}
use Rattle.elf_link_outputs.specs.Addresses.{HasNoValue, HasValue, address_rules, target_value}
use Rattle.elf_link_outputs.specs.Outputs.{is_no_bits, live, output_flags, section_at_site, placed}
use Rattle.elf_link_outputs.specs.Placed.{AreAddresses, ArePlacedCommons, ArePlacedOutputs, CommonValue, IsOutput, OutputValue, common_at}
use Rattle.elf_link_outputs.specs.Placed.{member_of, members_at, no_output, no_placed, placed_common, start_of, AreFilled, AreLive}
use Rattle.elf_link_outputs.specs.Placed.{with_cell}
use Rattle.elf_link_outputs.proofs.Placings.{addresses_are, filled_more, filled_none, parts_long, place_order, within_all}
use Rattle.elf_link_outputs.proofs.OutputLists.{outputs_live, outputs_some}
use Rattle.elf_link_map.specs.declared.bindings.Binding.{Binding}
use Rattle.elf_link_map.specs.LinkMap.{FirstOfLink, AreBindings, AreNames, IsBinding, IsLinkMap, IsLinkPlan, LinkMapValue, LinkPlan}
use Rattle.elf_link_map.specs.LinkMap.{bound_in, link_parts, no_name}
use Rattle.elf_link_map.specs.Naming.{AreNamedAt, IsNamedAt}
use Rattle.elf_link_map.proofs.OneMap.{bound_here, names_are, common_names}
use Rattle.elf_link_map.proofs.Plans.{some_choice, some_each, some_list, some_row}
use Rattle.elf_link_map.specs.declared.bindings.Binding.TheVariants as bound

none_some : {A : Type 0} (x : A) → None ≡ Some x → ⊥
none_some x e = cc

false_true : false ≡ true → ⊥
false_true e = cc

-- ---- the entry's value, and the ends of the parts

some_value : (parts : List (ℕ × ℕ)) (base : ℕ) (target : Target) (places : List ℕ) → Least parts base places →
    ¬ HasNoValue parts base target →
    (x : ℕ) × HasValue parts base target x
some_value parts base target places least lacks = known (target_value places target) refl where
  known : (o : Option ℕ) → target_value places target ≡ o → (x : ℕ) × HasValue parts base target x
  known None is = absurd (lacks (places, least, λ x at. absurd (none_some x (sym is ∙ at))))
  known (Some x) is = elim (cases_lt x (2 ^ 64)) [
    | inl below ↦ (x, (places, least, is, below))
    | inr past ↦ absurd (lacks (places, least, λ y at. (let same : Some x ≡ Some y = sym is ∙ at in let one : x ≡ y = cc in omega arith)))
  ]

-- ---- addresses

filled : (fs : List ObjectValue) (ps : List Site) (places : List ℕ) (rows : List (List (Option ℕ))) (k : ℕ) → AreLive fs ps →
    AreFilled fs ps places 0 rows →
    k ≤ length ps → (now : List (List (Option ℕ))) × AreFilled fs ps places k now
filled fs ps places rows zero are start le = (rows, start)
filled fs ps places rows (suc k) are start le =
    let (now, is) = filled fs ps places rows k are start (omega arith) in (
      with_cell now (site_at ps k).file (site_at ps k).index (slice_index places k),
      subst (λ (n : ℕ). AreFilled fs ps places n (with_cell now (site_at ps k).file (site_at ps k).index (slice_index places k)))
          (add-one k)
          (filled_more fs ps places k now are (omega arith) is),
    )

some_addresses : (fs : List ObjectValue) (ps : List Site) (places : List ℕ) → AreLive fs ps →
    ¬ ((rows : List (List (Option ℕ))) → ¬ AreAddresses fs ps places rows)
some_addresses fs ps places are none =
    some_each [] (λ f row. row ≡ replicate (length (object_at fs f).sections) None) (length fs)
    (λ f lt lacks. lacks (replicate (length (object_at fs f).sections) None) refl)
    (λ rows empty. (
    let (now, is) = filled fs ps places rows (length ps) are (filled_none fs ps places rows empty) (omega arith) in
    none now (addresses_are fs ps places now are is)))

-- ---- which sections are discarded

abbrev IsMark : List ObjectValue → ℕ → ℕ → Bool → Type 0
IsMark fs f s b = (b ≡ true) ↔ Discarded fs f s

some_mark : (fs : List ObjectValue) (f s : ℕ) → ¬ ((b : Bool) → ¬ IsMark fs f s b)
some_mark fs f s none = none false ((λ is. absurd (false_true is)), (λ gone. absurd (none true ((λ is. gone), (λ again. refl)))))

some_marks : (fs : List ObjectValue) → ¬ ((marks : List (List Bool)) → ¬ AreDiscardMarks fs marks)
some_marks fs none =
    some_each [] (λ f. AreEach false (IsMark fs f) (length (object_at fs f).sections)) (length fs)
    (λ f lt. some_each false (IsMark fs f) (length (object_at fs f).sections) (λ s below. some_mark fs f s))
    (λ marks are. none marks (record {
      files = are.count;
      long = λ f lt. (are.each f lt).count;
      right = λ f s lt below. (are.each f lt).each s below;
    }))

-- ---- names

-- the binding b of a name is at a position of a list
abbrev Stands : List (List ℕ × Binding) → List ℕ → Binding → Type 0
Stands bs name b = (k : ℕ) × (k < length bs) × ((get_or bs k no_name).0 ≡ name) × ((get_or bs k no_name).1 ≡ b)

found_first : (e : List ℕ × Binding) (bs : List (List ℕ × Binding)) (name : List ℕ) (b : Binding) (t : Bool) → bytes_eq name e.0 ≡ t →
    bound_in (e ∷ bs) name ≡ Some b → (bound_in bs name ≡ Some b → Stands bs name b) → Stands (e ∷ bs) name b
found_first e bs name b true equal is rest =
    let here : Some e.1 ≡ Some b = sym (ap (λ (t : Bool). cond t (Some e.1) (bound_in bs name)) equal) ∙ is in
    let same : e.1 ≡ b = cc in
    (0, omega arith, sym ((bytes_eq-Decides name e.0).0 equal), same)
found_first e bs name b false other is rest =
    let (k, lt, named, at) = rest (sym (ap (λ (t : Bool). cond t (Some e.1) (bound_in bs name)) other) ∙ is) in
    (suc k, omega arith, named, at)

-- what a list has of a name is in it
found_in : (bs : List (List ℕ × Binding)) (name : List ℕ) (b : Binding) → bound_in bs name ≡ Some b → Stands bs name b
found_in [] name b is = absurd (none_some b is)
found_in (e ∷ bs) name b is = found_first e bs name b (bytes_eq name e.0) refl is (found_in bs name b)

bindings_of : (fs : List ObjectValue) (cs : List CommonValue) (ps : List Site) (bs : List (List ℕ × Binding)) →
    Lists (first_entries fs) ps →
    AreNamedAt fs cs ps (length ps) bs → AreBindings fs cs bs
bindings_of fs cs ps bs are named name = known (bound_in bs name) refl where
  known : (o : Option Binding) → bound_in bs name ≡ o → MatchOption (bound_in bs name) (Never (entries fs name)) (IsBinding fs cs name)
  known None is =
      subst (λ (o : Option Binding). MatchOption o (Never (entries fs name)) (IsBinding fs cs name)) (sym is)
      (λ p there. (
      let (k, lt, at) = entry_listed fs ps name p are there in
      none_some (get_or bs k no_name).1 (sym is ∙ bound_here fs cs ps bs name k are named lt at)))
  known (Some b) is =
      let (k, lt, at, here) = found_in bs name b is in
      let count = named.count in
      let each = named.each k (omega arith) in
      subst (λ (o : Option Binding). MatchOption o (Never (entries fs name)) (IsBinding fs cs name)) (sym is)
      (subst (λ (c : Binding). IsBinding fs cs name c) here
      (subst (λ (n : List ℕ). IsBinding fs cs n (get_or bs k no_name).1) (sym each.0 ∙ at) each.1))

-- the binding of a choice
some_binding : (fs : List ObjectValue) (chosen : List Chosen) (cs : List CommonValue) (places : List ℕ) (first : ℕ) (name : List ℕ)
    (c : Choice) →
    HaveChosen fs chosen → ArePlacedCommons fs chosen places first (length chosen) cs → Binds fs name c →
    (b : Binding) × IsBinding fs cs name b
some_binding fs chosen cs places first name (Strong file symbol) have are binds = (bound.Strong file symbol, binds)
some_binding fs chosen cs places first name (Common size align) have are binds =
    let (k, (lt, named)) = have name size align binds in
    let names = common_names fs chosen places first cs are in
    let count = names.count in
    (bound.Common (common_at cs k).address size align, (binds, (k, (omega arith, names.each k lt ∙ named), refl)))
some_binding fs chosen cs places first name (Weak file symbol) have are binds = (bound.Weak file symbol, binds)
some_binding fs chosen cs places first name Zero have are binds = (bound.Zero, binds)

some_named : (fs : List ObjectValue) (chosen : List Chosen) (cs : List CommonValue) (places : List ℕ) (first : ℕ) → AllBound fs →
    HaveChosen fs chosen →
    ArePlacedCommons fs chosen places first (length chosen) cs →
    ¬ ((bs : List (List ℕ × Binding)) → AreBindings fs cs bs → ¬ AreNames fs bs)
some_named fs chosen cs places first all have are none =
    some_list symbol_count fs (IsFirstEntry fs)
    (λ ps is. some_each no_name (λ k. IsNamedAt fs cs (site_at ps k)) (length ps)
    (λ k lt lacks. (
    let name = name_at fs (site_at ps k) in
    some_choice fs name (all name (site_at ps k) (entry_there fs (site_at ps k) (is.each k lt)))
    (λ c binds. (
    let (b, is_bound) = some_binding fs chosen cs places first name c have are binds in
    lacks (name, b) (refl, is_bound)))))
    (λ bs named. none bs (bindings_of fs cs ps bs is named) (names_are fs cs ps bs is named)))

-- ---- outputs and commons

some_output : (opt : Options) (fs : List ObjectValue) (l : LinkPlan) (k : ℕ) → IsLinkPlan opt fs l →
    EndsFit (link_parts fs opt l) l.places (length (link_parts fs opt l)) →
    k < length l.plan.outputs →
    (o : OutputValue) × IsOutput fs (members_at l.plan.outputs k) (link_parts fs opt l) l.places (start_of l.plan.outputs k) o
some_output opt fs l k is fits lt =
    let ms = members_at l.plan.outputs k in
    let parts = link_parts fs opt l in
    let start = start_of l.plan.outputs k in
    let last = start + length ms - 1 in
    let (ps, openers, members) = is.plan.outputs in
    let some = outputs_some fs ps l.plan.outputs openers members k lt in
    let within = within_all l.plan.outputs k lt in
    let long = parts_long fs opt.page l.plan.outputs l.plan.commons in
    let order = place_order parts l.places start last (opt.base, is.least, fits) (omega arith) (omega arith) in (
      record {
        name = (section_at_site fs (site_at ms 0)).name;
        flags = output_flags (section_at_site fs (site_at ms 0)).flags;
        no_bits = is_no_bits (section_at_site fs (site_at ms 0)).body;
        address = slice_index l.places start;
        length = end_of parts l.places last - slice_index l.places start;
        members = map member_of ms;
      },
      record { name = refl; flags = refl; no_bits = refl; members = refl; address = refl; end = omega arith },
    )

some_placed : (opt : Options) (fs : List ObjectValue) (l : LinkPlan) → IsLinkPlan opt fs l →
    EndsFit (link_parts fs opt l) l.places (length (link_parts fs opt l)) →
    ¬ ((os : List OutputValue) → ¬ ArePlacedOutputs fs l.plan.outputs (link_parts fs opt l) l.places (length l.plan.outputs) os)
some_placed opt fs l is fits =
    some_each no_output (λ k. IsOutput fs (members_at l.plan.outputs k) (link_parts fs opt l) l.places (start_of l.plan.outputs k))
    (length l.plan.outputs)
    (λ k lt lacks. (let (o, here) = some_output opt fs l k is fits lt in lacks o here))

some_placed_commons : (fs : List ObjectValue) (cs : List Chosen) (places : List ℕ) (first : ℕ) →
    ¬ ((vs : List CommonValue) → ¬ ArePlacedCommons fs cs places first (length cs) vs)
some_placed_commons fs cs places first =
    some_each no_placed (λ k c. c ≡ placed_common fs places (first + k) (chosen_at cs k)) (length cs)
    (λ k lt lacks. lacks (placed_common fs places (first + k) (chosen_at cs k)) refl)

-- ---- the map

some_map_of : (opt : Options) (fs : List ObjectValue) (l : LinkPlan) → FirstAt (input_rules opt fs) None → IsLinkPlan opt fs l →
    FirstAt (address_rules (link_parts fs opt l) opt.base l.target) None → ¬ ((m : LinkMapValue) → ¬ IsLinkMap opt fs m)
some_map_of opt fs l clean is sound none =
    let parts = link_parts fs opt l in
    let fits : EndsFit parts l.places (length parts) = λ k lt. elim (cases_lt (end_of parts l.places k) (2 ^ 64)) [
      | inl below ↦ below
      | inr past ↦ absurd (sound.1.0 (site 0 0) ((l.places, is.least, (k, lt, past)), refl, refl, refl))
    ] in
    let (entry, value) = some_value parts opt.base l.target l.places is.least (λ without. sound.0 (site 0 0) (without, refl, refl, refl)) in
    let (openings, openers, members) = is.plan.outputs in
    let have = have_chosen fs l.plan.commons is.plan.commons in
    some_row section_count fs (live fs) (λ p at. (at.0, at.1, at.3))
    (λ ls lives. some_addresses fs (placed l.plan) l.places (outputs_live fs ls openings l.plan.outputs lives openers members)
    (λ addresses are_addresses. some_marks fs
    (λ marks are_marks. some_placed opt fs l is fits
    (λ outputs are_outputs. some_placed_commons fs l.plan.commons l.places (length (placed l.plan))
    (λ commons are_commons. some_named fs l.plan.commons commons l.places (length (placed l.plan)) (all_bound opt fs clean) have are_commons
    (λ bindings are_bindings are_names. none
    (record {
      addresses = addresses;
      discarded = marks;
      bindings = bindings;
      outputs = outputs;
      commons = commons;
      base = opt.base;
      page = opt.page;
      entry = entry;
    }) (
      l,
      is,
      record {
        fits = fits;
        addresses = are_addresses;
        discarded = are_marks;
        bindings = are_bindings;
        names = are_names;
        outputs = are_outputs;
        commons = are_commons;
        base = refl;
        page = refl;
        entry = value;
      },
    )))))))

pub some_link_map : (opt : Options) (fs : List ObjectValue) → FirstOfLink opt fs None → ¬ ((m : LinkMapValue) → ¬ IsLinkMap opt fs m)
some_link_map opt fs (clean, (l, is, sound)) = some_map_of opt fs l clean is sound
