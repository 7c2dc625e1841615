-- What `link` says of files without the symbols that are left out it says of the files before: of the objects of both, their link maps, and
-- their executables. It says one thing of each.
use Rattle.std.proofs.Common.{◌≡◌, ◌⊎◌, ℕ, List, inl, inr, refl, subst}
use Rattle.std.specs.Prelude.{None, Option, Some}
use Rattle.elf_link_field.specs.declared.rule.RelocRule.{RelocRule}
use Rattle.elf_link_files.proofs.Public.{one_found}
use Rattle.elf_link_files.specs.Rows.{FirstAt}
use Rattle.elf_link_files.specs.declared.fault.Options.{Options}
use Rattle.elf_link_files.specs.declared.site.Site.{Site}
use Rattle.elf_link_map.proofs.Public.{one_link_fault}
use Rattle.elf_link_map.specs.LinkMap.{FirstOfLink, IsLinkMap, LinkMapValue, bound_in}
use Rattle.elf_link_names.specs.Binds.{Binds, IsUnbound, input_rules}
use Rattle.elf_link_names.specs.declared.name_rules.Choice.{Choice}
use Rattle.elf_link_outputs.specs.Addresses.{address_rules}
use Rattle.elf_link_relocate.specs.Fields.{applied_entry_rules}
use Rattle.elf_object_type.specs.Object.{ObjectValue}
use Rattle.elf_tool_check.specs.declared.calls.Refusal.TheVariants.{File, Link, TooLong}
use Rattle.elf_tool_check.specs.declared.calls.Verdict.TheVariants.{Done, Refused}
use Rattle.elf_tool_check.specs.declared.calls.Verdict.{Verdict}
use Rattle.elf_tool_laws.proofs.LeftOutExec.{first_here, fits_here, loads_here, long_here}
use Rattle.elf_tool_laws.proofs.LeftOutPlans.{parts_before}
use Rattle.elf_tool_laws.proofs.LeftOutRules.{clean_there}
use Rattle.elf_tool_laws.proofs.LeftOutMap.{bound_or_not, link_plan_before, plan_here, same_map}
use Rattle.elf_tool_laws.specs.LeftOut.{AreLessSymbols, with_bindings}
use Rattle.elf_tool_link.proofs.OneInput.{objects_not_refused, one_objects}
use Rattle.elf_tool_link.proofs.OneLink.{one_link}
use Rattle.elf_tool_link.specs.Link.{ExecSays, FilesLink, MapLinks, ObjectsLink, RuleRefuses}
use Rattle.elf_tool_link.specs.ObjectFiles.{AreObjectFiles}

none_some : (x : ℕ × Site) → ◌≡◌ {A = Option (ℕ × Site)} None (Some x) → ⊥
none_some x same = cc

module _ (opt : Options) (rules : List RelocRule) (fs gs : List ObjectValue) (at : ℕ → ℕ → ℕ) (r : AreLessSymbols fs gs at)
    (clean : FirstOfLink opt fs None) (m : LinkMapValue) (is : IsLinkMap opt fs m) where
  -- ---- rules 1 to 11: none is broken after either

  bound_before : (name : List ℕ) → IsUnbound fs name ⊎ ((c : Choice) × Binds fs name c)
  bound_before name = (let (l, plan, of) = is in bound_or_not fs m.commons name (bound_in m.bindings name) (of.bindings name))

  not_refused : (x : ℕ × Site) → FirstOfLink opt gs (Some x) → ⊥
  not_refused x (inl first) =
      none_some x (one_found (input_rules opt gs) None (Some x) (clean_there fs gs at r opt clean.0) first)
  not_refused x (inr (sound, (k, plan, first))) =
      let here = plan_here fs gs at r opt k bound_before plan in
      let parts = parts_before fs gs at r opt.page k.plan in
      let refused = subst (λ (ps : List (ℕ × ℕ)). FirstAt (address_rules ps opt.base k.target) (Some x)) parts first in
      none_some x (one_link_fault opt fs None (Some x) clean (inr (clean.0, (link_plan_before at k, here, refused))))

  pub still_sound : (x : Option (ℕ × Site)) → FirstOfLink opt gs x → x ≡ None
  still_sound None first = refl
  still_sound (Some x) first = absurd (not_refused x first)

  -- ---- the executable, or the rule of relocations that is broken

  module _ (n : LinkMapValue) (also : IsLinkMap opt gs n) where
    is_with : IsLinkMap opt fs (with_bindings n m.bindings)
    is_with = subst (IsLinkMap opt fs) (same_map fs gs at r opt m n is also) is

    exec_here : (v : Verdict) (s : List ℕ) → ExecSays gs n rules v s → ExecSays fs (with_bindings n m.bindings) rules v s
    exec_here Done s (fits, loads) =
        (fits_here fs gs at r opt n m.bindings is_with also rules s fits, loads_here fs gs at r opt n m.bindings is_with also rules s loads)
    exec_here (Refused (File file rule at_offset)) s never = absurd never
    exec_here (Refused (Link rule file index entry)) s never = absurd never
    exec_here (Refused TooLong) s (long, none) = (long_here fs gs at r opt n m.bindings is_with also rules long, none)

    rule_here : (v : Verdict) (s : List ℕ) → RuleRefuses (λ rule site. FirstAt (applied_entry_rules gs n rules) (Some (rule, site))) v s →
        RuleRefuses (λ rule site. FirstAt (applied_entry_rules fs (with_bindings n m.bindings) rules) (Some (rule, site))) v s
    rule_here Done s never = absurd never
    rule_here (Refused (File file rule at_offset)) s never = absurd never
    rule_here (Refused (Link rule file index entry)) s (first, none) = (
      first_here fs gs at r opt n m.bindings is_with also rules
          (Some (rule, record { file = file; index = index; entry = entry })) first,
      none,
    )
    rule_here (Refused TooLong) s never = absurd never

    map_links_here : (v : Verdict) (s : List ℕ) → MapLinks rules gs n v s → MapLinks rules fs (with_bindings n m.bindings) v s
    map_links_here v s (inl (sound, says)) =
        inl (first_here fs gs at r opt n m.bindings is_with also rules None sound, exec_here v s says)
    map_links_here v s (inr refuses) = inr (rule_here v s refuses)

  -- ---- objects

  objects_here : (v : Verdict) (s : List ℕ) → ObjectsLink opt rules gs v s → ObjectsLink opt rules fs v s
  objects_here v s (inl (sound, (n, also, says))) =
      inl (clean, (with_bindings n m.bindings, is_with n also, map_links_here n also v s says))
  objects_here Done s (inr never) = absurd never
  objects_here (Refused (File file rule at_offset)) s (inr never) = absurd never
  objects_here (Refused (Link rule file index entry)) s (inr (first, none)) =
      absurd (not_refused (rule, record { file = file; index = index; entry = entry }) first)
  objects_here (Refused TooLong) s (inr never) = absurd never

-- ---- files

-- what `link` says of objects of which none of rules 1 to 11 is broken has their link map
map_of : (opt : Options) (rules : List RelocRule) (fs : List ObjectValue) (v : Verdict) (s : List ℕ) → FirstOfLink opt fs None →
    ObjectsLink opt rules fs v s → (m : LinkMapValue) × IsLinkMap opt fs m
map_of opt rules fs v s clean (inl (sound, (m, is, says))) = (m, is)
map_of opt rules fs Done s clean (inr never) = absurd never
map_of opt rules fs (Refused (File file rule at_offset)) s clean (inr never) = absurd never
map_of opt rules fs (Refused (Link rule file index entry)) s clean (inr (first, none)) =
    let x : ℕ × Site = (rule, record { file = file; index = index; entry = entry }) in
    absurd (none_some x (one_link_fault opt fs None (Some x) clean first))
map_of opt rules fs (Refused TooLong) s clean (inr never) = absurd never

-- what is said of files that are these objects is said of the objects
of_objects : (opt : Options) (rules : List RelocRule) (files : List (List ℕ)) (fs : List ObjectValue) (v : Verdict) (s : List ℕ) →
    AreObjectFiles files fs → FilesLink opt rules files v s → ObjectsLink opt rules fs v s
of_objects opt rules files fs v s are (inl (gs, also, says)) =
    subst (λ (os : List ObjectValue). ObjectsLink opt rules os v s) (one_objects files gs fs also are) says
of_objects opt rules files fs Done s are (inr never) = absurd never
of_objects opt rules files fs (Refused (File file rule at_offset)) s are (inr (first, none)) =
    absurd (objects_not_refused files fs (file, rule, at_offset) are first)
of_objects opt rules files fs (Refused (Link rule file index entry)) s are (inr never) = absurd never
of_objects opt rules files fs (Refused TooLong) s are (inr never) = absurd never

pub same_link : (opt : Options) (rules : List RelocRule) (files others : List (List ℕ)) (fs gs : List ObjectValue) (at : ℕ → ℕ → ℕ)
    (v w : Verdict) (s t : List ℕ) → AreObjectFiles files fs → AreObjectFiles others gs → AreLessSymbols fs gs at →
    FirstOfLink opt fs None → FilesLink opt rules files v s → FilesLink opt rules others w t → (v ≡ w) × (s ≡ t)
same_link opt rules files others fs gs at v w s t are also r clean says other =
    let (m, is) = map_of opt rules fs v s clean (of_objects opt rules files fs v s are says) in
    let here = objects_here opt rules fs gs at r clean m is w t (of_objects opt rules others gs w t also other) in
    one_link opt rules files v w s t says (inl (fs, are, here))
