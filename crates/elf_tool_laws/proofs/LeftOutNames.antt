-- Two link maps bind a name alike, by cases on both bindings. A definition or a common that it is bound to after was there before, and all
-- that there were before are there still.
use Rattle.std.proofs.Common.{◌≡◌, ℕ, List, refl, subst, sym}
use Rattle.std.specs.Prelude.{MatchOption, None, Option, Some}
use Rattle.elf_extent.specs.Extent.{Never}
use Rattle.elf_link_files.specs.Rows.{commons, entries, strong, weak}
use Rattle.elf_link_files.specs.declared.fault.Options.{Options}
use Rattle.elf_link_map.specs.LinkMap.{IsBinding, IsLinkMap, LinkMapValue, bound_in}
use Rattle.elf_link_map.specs.declared.bindings.Binding.TheVariants as bound
use Rattle.elf_link_map.specs.declared.bindings.Binding.{Binding}
use Rattle.elf_link_names.proofs.Public.{bound_excludes, one_choice, unbound}
use Rattle.elf_link_names.specs.Binds.{Binds}
use Rattle.elf_link_names.specs.declared.name_rules.Choice.TheVariants.{Strong, Common, Weak, Zero}
use Rattle.elf_link_names.specs.declared.name_rules.Choice.{Choice}
use Rattle.elf_link_outputs.specs.Placed.{CommonValue}
use Rattle.elf_object_type.specs.Object.{ObjectValue}
use Rattle.elf_tool_laws.proofs.LeftOut.{binds_here, common_never, entry_here, site_before, strong_never, weak_never}
use Rattle.elf_tool_laws.proofs.OrderNames.{bound_choice, choice_of}
use Rattle.elf_tool_laws.specs.LeftOut.{AreLessSymbols, IsBindingAfter, as_before}

-- by the choices of both
after_of : (at : ℕ → ℕ → ℕ) (b d : Binding) → choice_of b ≡ as_before at (choice_of d) → IsBindingAfter at (Some b) (Some d)
after_of at (bound.Strong file symbol) (bound.Strong f s) same = (cc, cc)
after_of at (bound.Strong file symbol) (bound.Common a n m) same = absurd cc
after_of at (bound.Strong file symbol) (bound.Weak f s) same = absurd cc
after_of at (bound.Strong file symbol) bound.Zero same = absurd cc
after_of at (bound.Common address size align) (bound.Strong f s) same = absurd cc
after_of at (bound.Common address size align) (bound.Common a n m) same = (cc, cc)
after_of at (bound.Common address size align) (bound.Weak f s) same = absurd cc
after_of at (bound.Common address size align) bound.Zero same = absurd cc
after_of at (bound.Weak file symbol) (bound.Strong f s) same = absurd cc
after_of at (bound.Weak file symbol) (bound.Common a n m) same = absurd cc
after_of at (bound.Weak file symbol) (bound.Weak f s) same = (cc, cc)
after_of at (bound.Weak file symbol) bound.Zero same = absurd cc
after_of at bound.Zero (bound.Strong f s) same = absurd cc
after_of at bound.Zero (bound.Common a n m) same = absurd cc
after_of at bound.Zero (bound.Weak f s) same = absurd cc
after_of at bound.Zero bound.Zero same = tt

module _ (fs gs : List ObjectValue) (at : ℕ → ℕ → ℕ) (r : AreLessSymbols fs gs at) (name : List ℕ) where
  -- where nothing defines the name after, nothing did before
  pub zero_alone : (c : Choice) → Binds fs name c → Never (strong gs name) → Never (commons gs name) → Never (weak gs name) → c ≡ Zero
  zero_alone (Strong file symbol) first none nothing never = absurd (strong_never fs gs at r name none _ first.stands)
  zero_alone (Common size align) (no_strong, largest, aligned) none nothing never =
      absurd (common_never fs gs at r name nothing _ largest.attained.1)
  zero_alone (Weak file symbol) (no_strong, no_common, first) none nothing never =
      absurd (weak_never fs gs at r name never _ first.stands)
  zero_alone Zero binds none nothing never = refl

  only_zero : (b : Binding) → choice_of b ≡ Zero → b ≡ bound.Zero
  only_zero (bound.Strong file symbol) same = absurd cc
  only_zero (bound.Common address size align) same = absurd cc
  only_zero (bound.Weak file symbol) same = absurd cc
  only_zero bound.Zero same = refl

  gone : (b : Binding) → b ≡ bound.Zero → IsBindingAfter at (Some b) None
  gone b is = subst (λ (d : Binding). IsBindingAfter at (Some d) None) (sym is) tt

  two : (b d : Binding) → Binds fs name (choice_of b) → Binds gs name (choice_of d) → IsBindingAfter at (Some b) (Some d)
  two b (bound.Strong f s) before after =
      after_of at b (bound.Strong f s) (one_choice fs name (choice_of b) (Strong f (at f s)) before
      (binds_here fs gs at r name (Strong f s) (λ same. absurd cc) after))
  two b (bound.Common a n m) before after =
      after_of at b (bound.Common a n m) (one_choice fs name (choice_of b) (Common n m) before
      (binds_here fs gs at r name (Common n m) (λ same. absurd cc) after))
  two b (bound.Weak f s) before after =
      after_of at b (bound.Weak f s) (one_choice fs name (choice_of b) (Weak f (at f s)) before
      (binds_here fs gs at r name (Weak f s) (λ same. absurd cc) after))
  two b bound.Zero before (none, nothing, never, alone, entry) =
      subst (λ (d : Binding). IsBindingAfter at (Some d) (Some bound.Zero))
      (sym (only_zero b (zero_alone (choice_of b) before none nothing never))) tt

  after : (cs ds : List CommonValue) (b d : Option Binding) → MatchOption b (Never (entries fs name)) (IsBinding fs cs name) →
      MatchOption d (Never (entries gs name)) (IsBinding gs ds name) → IsBindingAfter at b d
  after cs ds None None none never = tt
  after cs ds None (Some d) none is =
      absurd (bound_excludes gs name (choice_of d) (bound_choice gs ds name d is)
      (unbound gs name (λ q entry. none (site_before at q) (entry_here fs gs at r name q entry))))
  after cs ds (Some b) None is never =
      let (none, nothing, undefined, empty) = unbound gs name never in
      gone b (only_zero b (zero_alone (choice_of b) (bound_choice fs cs name b is) none nothing undefined))
  after cs ds (Some b) (Some d) is also = two b d (bound_choice fs cs name b is) (bound_choice gs ds name d also)

  pub bindings_after : (opt other : Options) (m n : LinkMapValue) → IsLinkMap opt fs m → IsLinkMap other gs n →
      IsBindingAfter at (bound_in m.bindings name) (bound_in n.bindings name)
  bindings_after opt other m n (l, plan, is) (k, planned, also) =
      after m.commons n.commons (bound_in m.bindings name) (bound_in n.bindings name) (is.bindings name) (also.bindings name)
