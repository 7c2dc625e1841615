-- The link map of files with fewer symbols is, with the bindings before, the link map of all files: each part of it says the same of both.
use Rattle.std.proofs.Common.{◌≡◌, ◌∙◌, ◌<◌, ◌⊎◌, ◌+◌, Bool, Bor, ℕ, List, ap, arith, inl, inr, length, map, subst, sym}
use Rattle.std.proofs.lemmas.List.{length-map}
use Rattle.std.specs.Prelude.{MatchOption, None, Option, Some, slice_index}
use Rattle.elf_extent.specs.Extent.{Never}
use Rattle.elf_extent.specs.Place.{EndsFit, Least}
use Rattle.elf_link_files.proofs.Public.{one_each}
use Rattle.elf_link_files.specs.Files.{AreDiscardMarks}
use Rattle.elf_link_files.specs.Rows.{chosen_at, commons, entries, name_at, site, site_at, strong, weak}
use Rattle.elf_link_files.specs.declared.fault.Options.{Options}
use Rattle.elf_link_files.specs.declared.site.Chosen.{Chosen}
use Rattle.elf_link_files.specs.declared.site.Site.{Site}
use Rattle.elf_link_map.proofs.Plans.{one_link_plan}
use Rattle.elf_link_map.proofs.Public.{one_link_map}
use Rattle.elf_link_map.specs.Entry.{IsEntrySymbolTarget, IsNameTarget, IsPlaceTarget, IsSymbolTarget}
use Rattle.elf_link_map.specs.LinkMap.{AreBindings, AreNames, IsBinding, IsLinkMap, IsLinkPlan, IsMapOf, LinkMapValue, LinkPlan, bound_in}
use Rattle.elf_link_map.specs.LinkMap.{link_parts}
use Rattle.elf_link_map.specs.declared.bindings.Binding.{Binding}
use Rattle.elf_link_names.proofs.Public.{unbound}
use Rattle.elf_link_names.specs.Binds.{Binds, IsUnbound}
use Rattle.elf_link_names.specs.Resolution.{IsCommonOf}
use Rattle.elf_link_names.specs.declared.name_rules.Choice.TheVariants.{Strong, Common, Weak, Zero}
use Rattle.elf_link_names.specs.declared.name_rules.Choice.{Choice}
use Rattle.elf_link_outputs.specs.Addresses.{HasValue}
use Rattle.elf_link_outputs.specs.Outputs.{is_no_bits, output_flags, placed}
use Rattle.elf_link_outputs.specs.Placed.{AreAddresses, ArePlacedCommons, ArePlacedOutputs, CommonValue, IsOutput, OutputValue}
use Rattle.elf_link_outputs.specs.Placed.{members_at, no_output, no_placed, placed_common, start_of}
use Rattle.elf_link_outputs.specs.declared.addresses.Target.TheVariants.{Lost}
use Rattle.elf_link_outputs.specs.declared.addresses.Target.{Target}
use Rattle.elf_object_type.specs.Object.{ObjectValue, SymbolValue}
use Rattle.elf_tool_laws.proofs.LeftOut.{binds_here, discarded_here, discarded_there}
use Rattle.elf_tool_laws.proofs.LeftOutNames.{zero_alone}
use Rattle.elf_tool_laws.proofs.LeftOutPlans.{body_before, chosen_before, commons_here, count_before, each_as, flags_before, name_before}
use Rattle.elf_tool_laws.proofs.LeftOutPlans.{no_bits_by, outputs_here, parts_before, plan_before, row_live_here, row_live_there}
use Rattle.elf_tool_laws.proofs.LeftOutPlans.{chosen_of_before, site_name_before, symbol_before}
use Rattle.elf_tool_laws.proofs.OrderNames.{bound_choice, choice_of}
use Rattle.elf_tool_laws.specs.LeftOut.{AreLessSymbols, with_bindings}

-- a name is bound or not, where a link map says so
pub bound_or_not : (fs : List ObjectValue) (cs : List CommonValue) (name : List ℕ) (b : Option Binding) →
    MatchOption b (Never (entries fs name)) (IsBinding fs cs name) → IsUnbound fs name ⊎ ((c : Choice) × Binds fs name c)
bound_or_not fs cs name None none = inl (unbound fs name none)
bound_or_not fs cs name (Some b) is = inr (choice_of b, bound_choice fs cs name b is)

abbrev pub link_plan_before : (ℕ → ℕ → ℕ) → LinkPlan → LinkPlan
link_plan_before at k = record { plan = plan_before at k.plan; places = k.places; target = k.target }

module _ (fs gs : List ObjectValue) (at : ℕ → ℕ → ℕ) (r : AreLessSymbols fs gs at) where
  -- ---- the entry symbol

  symbol_target : (ps : List Site) (f j : ℕ) (t : Target) → IsSymbolTarget gs ps f j t → IsSymbolTarget fs ps f (at f j) t
  symbol_target ps f j t is =
      subst (λ (s : SymbolValue). IsPlaceTarget ps f s.value s.place t) (symbol_before fs gs at r f j) is

  common_of : (cs : List Chosen) (name : List ℕ) (k : ℕ) → IsCommonOf gs cs name k → IsCommonOf fs (map (chosen_before at) cs) name k
  common_of cs name k (lt, named) =
      let long = length-map cs (chosen_before at) in (
        omega arith,
        ap (λ (c : Chosen). name_at fs c.site) (chosen_of_before fs gs at r cs k lt)
            ∙ sym (site_name_before fs gs at r (chosen_at cs k).site) ∙ named,
      )

  -- nothing defines the name after: it is unbound before, or bound to zero
  lost_target : (ps : List Site) (cs : List Chosen) (name : List ℕ) (t : Target) → t ≡ Lost →
      IsUnbound fs name ⊎ ((c : Choice) × Binds fs name c) → Never (strong gs name) → Never (commons gs name) → Never (weak gs name) →
      IsNameTarget fs ps cs name t
  lost_target ps cs name t lost (inl free) none nothing never = inl (free, lost)
  lost_target ps cs name t lost (inr (c, binds)) none nothing never =
      inr (Zero, subst (Binds fs name) (zero_alone fs gs at r name c binds none nothing never) binds, lost)

  name_target : (ps : List Site) (cs : List Chosen) (name : List ℕ) (t : Target) → IsUnbound fs name ⊎ ((c : Choice) × Binds fs name c) →
      IsNameTarget gs ps cs name t → IsNameTarget fs ps (map (chosen_before at) cs) name t
  name_target ps cs name t before (inl ((none, nothing, never, any), lost)) =
      lost_target ps (map (chosen_before at) cs) name t lost before none nothing never
  name_target ps cs name t before (inr (Strong f s, binds, is)) =
      inr (Strong f (at f s), binds_here fs gs at r name (Strong f s) (λ same. absurd cc) binds, symbol_target ps f s t is)
  name_target ps cs name t before (inr (Common size align, binds, (k, is, place))) =
      inr (Common size align, binds_here fs gs at r name (Common size align) (λ same. absurd cc) binds, (k, common_of cs name k is, place))
  name_target ps cs name t before (inr (Weak f s, binds, is)) =
      inr (Weak f (at f s), binds_here fs gs at r name (Weak f s) (λ same. absurd cc) binds, symbol_target ps f s t is)
  name_target ps cs name t before (inr (Zero, (none, nothing, never, alone, entry), lost)) =
      lost_target ps (map (chosen_before at) cs) name t lost before none nothing never

  entry_target : (ps : List Site) (cs : List Chosen) (entry : Option (Bor (List ℕ))) (t : Target) →
      ((name : List ℕ) → IsUnbound fs name ⊎ ((c : Choice) × Binds fs name c)) → IsEntrySymbolTarget gs ps cs entry t →
      IsEntrySymbolTarget fs ps (map (chosen_before at) cs) entry t
  entry_target ps cs None t before is = is
  entry_target ps cs (Some name) t before is = name_target ps cs name.now t (before name.now) is

  -- ---- the plan

  pub plan_here : (opt : Options) (k : LinkPlan) → ((name : List ℕ) → IsUnbound fs name ⊎ ((c : Choice) × Binds fs name c)) →
      IsLinkPlan opt gs k → IsLinkPlan opt fs (link_plan_before at k)
  plan_here opt k before is = record {
    plan = record {
      outputs = outputs_here fs gs at r k.plan.outputs is.plan.outputs;
      commons = commons_here fs gs at r k.plan.commons is.plan.commons;
    };
    target = entry_target (placed k.plan) k.plan.commons opt.entry k.target before is.target;
    least = subst (λ (parts : List (ℕ × ℕ)). Least parts opt.base k.places) (parts_before fs gs at r opt.page k.plan) is.least;
  }

  -- ---- the map, part by part

  common_placed : (places : List ℕ) (i : ℕ) (c : Chosen) → placed_common gs places i c ≡ placed_common fs places i (chosen_before at c)
  common_placed places i c =
      ap (λ (n : List ℕ). record { name = n; address = slice_index places i; size = c.size; align = c.align })
      (site_name_before fs gs at r c.site)

  commons_placed : (cs : List Chosen) (places : List ℕ) (first : ℕ) (xs : List CommonValue) →
      ArePlacedCommons gs cs places first (length cs) xs →
      ArePlacedCommons fs (map (chosen_before at) cs) places first (length (map (chosen_before at) cs)) xs
  commons_placed cs places first xs are =
      let long = length-map cs (chosen_before at) in
      record {
        count = (let many = are.count in omega arith);
        each = λ k lt. (
            let k_in : k < length cs = omega arith in
            are.each k k_in ∙ common_placed places (first + k) (chosen_at cs k)
            ∙ ap (placed_common fs places (first + k)) (sym (chosen_of_before fs gs at r cs k k_in)));
      }

  addresses_here : (ps : List Site) (places : List ℕ) (rows : List (List (Option ℕ))) → AreAddresses gs ps places rows →
      AreAddresses fs ps places rows
  addresses_here ps places rows are = record {
    files = are.files ∙ r.files;
    long = λ f f_in. (let files = r.files in are.long f (omega arith) ∙ count_before fs gs at r f);
    placed = are.placed;
    only = are.only;
    none = λ f s. (
      (λ empty is. (are.none f s).0 empty (row_live_there fs gs at r (site f s) is)),
      (λ dead. (are.none f s).1 (λ is. dead (row_live_here fs gs at r (site f s) is))),
    );
  }

  discarded_marks_here : (marks : List (List Bool)) → AreDiscardMarks gs marks → AreDiscardMarks fs marks
  discarded_marks_here marks are = record {
    files = are.files ∙ r.files;
    long = λ f f_in. (let files = r.files in are.long f (omega arith) ∙ count_before fs gs at r f);
    right = λ f s f_in s_in. (
        let files = r.files in
        let count = count_before fs gs at r f in
        let both = are.right f s (omega arith) (omega arith) in
        ((λ is. discarded_here fs gs at r f s (both.0 is)), (λ gone. both.1 (discarded_there fs gs at r f s gone))));
  }

  outputs_placed : (outputs : List (List Site)) (parts : List (ℕ × ℕ)) (places : List ℕ) (n : ℕ) (os : List OutputValue) →
      ArePlacedOutputs gs outputs parts places n os → ArePlacedOutputs fs outputs parts places n os
  outputs_placed outputs parts places n os =
      each_as no_output (λ k. IsOutput gs (members_at outputs k) parts places (start_of outputs k))
      (λ k. IsOutput fs (members_at outputs k) parts places (start_of outputs k)) n os
      (λ k o lt is. (
      let p = site_at (members_at outputs k) 0 in
      record {
        name = is.name ∙ name_before fs gs at r p.file p.index;
        flags = is.flags ∙ ap output_flags (flags_before fs gs at r p.file p.index);
        no_bits = is.no_bits ∙ body_before fs gs at r is_no_bits no_bits_by p.file p.index;
        members = is.members;
        address = is.address;
        end = is.end;
      }))

  -- ---- it is the map before

  pub one_commons : (opt : Options) (l k : LinkPlan) (m n : LinkMapValue) → l ≡ link_plan_before at k → IsMapOf opt fs l m →
      IsMapOf opt gs k n → m.commons ≡ n.commons
  one_commons opt l k m n same is also =
      let here : ArePlacedCommons fs (map (chosen_before at) k.plan.commons) k.places (length (placed k.plan))
      (length (map (chosen_before at) k.plan.commons)) m.commons =
      subst (λ (x : LinkPlan). ArePlacedCommons fs x.plan.commons x.places (length (placed x.plan)) (length x.plan.commons) m.commons) same
      is.commons in
      let cs = map (chosen_before at) k.plan.commons in
      let first = length (placed k.plan) in
      one_each no_placed (λ i c. c ≡ placed_common fs k.places (first + i) (chosen_at cs i)) (length cs) m.commons n.commons
      (λ i c d lt one other. one ∙ sym other) here (commons_placed k.plan.commons k.places first n.commons also.commons)

  -- by the bindings that there were
  map_here : (opt : Options) (k : LinkPlan) (m n : LinkMapValue) → AreBindings fs n.commons m.bindings → AreNames fs m.bindings →
      IsMapOf opt gs k n → IsMapOf opt fs (link_plan_before at k) (with_bindings n m.bindings)
  map_here opt k m n bound named is =
      let parts = parts_before fs gs at r opt.page k.plan in
      let count = length k.plan.outputs in
      let outputs = subst (λ (ps : List (ℕ × ℕ)). ArePlacedOutputs gs k.plan.outputs ps k.places count n.outputs) parts is.outputs in
      record {
        fits = subst (λ (ps : List (ℕ × ℕ)). EndsFit ps k.places (length ps)) parts is.fits;
        addresses = addresses_here (placed k.plan) k.places n.addresses is.addresses;
        discarded = discarded_marks_here n.discarded is.discarded;
        bindings = bound;
        names = named;
        outputs = outputs_placed k.plan.outputs (link_parts fs opt (link_plan_before at k)) k.places count n.outputs outputs;
        commons = commons_placed k.plan.commons k.places (length (placed k.plan)) n.commons is.commons;
        base = is.base;
        page = is.page;
        entry = subst (λ (ps : List (ℕ × ℕ)). HasValue ps opt.base k.target n.entry) parts is.entry;
      }

  pub same_map : (opt : Options) (m n : LinkMapValue) → IsLinkMap opt fs m → IsLinkMap opt gs n → m ≡ with_bindings n m.bindings
  same_map opt m n (l, plan, is) (k, planned, also) =
      let here = plan_here opt k (λ name. bound_or_not fs m.commons name (bound_in m.bindings name) (is.bindings name)) planned in
      let same = one_link_plan opt fs l (link_plan_before at k) plan here in
      let commons = one_commons opt l k m n same is also in
      one_link_map opt fs m (with_bindings n m.bindings) (l, plan, is) (
        link_plan_before at k,
        here,
        map_here opt k m n (subst (λ (cs : List CommonValue). AreBindings fs cs m.bindings) commons is.bindings) is.names also,
      )
