-- In another order of the files each name is bound to the same symbol, and each of rules 1 to 9 is broken in both orders or in neither. So
-- two link maps have one binding of a name, and the first rule that is broken is the same.
use Rattle.std.proofs.Common.{◌≡◌, ◌∙◌, ◌<◌, ℕ, List, [], ◌∷◌, ◌++◌, ap, arith, inl, inr, length, refl, subst, sym}
use Rattle.std.specs.Prelude.{MatchOption, None, Option, Some, ◌↔◌}
use Rattle.elf_extent.specs.Extent.{Never}
use Rattle.elf_field.specs.Abi.{SHF_LINK_ORDER, SHF_TLS, STB_GLOBAL, STB_WEAK}
use Rattle.elf_image_rules.specs.Rows.{Ruled}
use Rattle.elf_link_files.specs.FileRules.{HasEmptySignature, IsBadCommon, IsBadSymbol, IsLiveWith, IsMismatch, bad_options}
use Rattle.elf_link_files.specs.FileRules.{link_symbol_rules, mismatch}
use Rattle.elf_link_files.specs.Files.{IsCommon, IsEarlier, IsEntry, IsNotWeak, IsStrong, IsUndefinedAt, IsWeak, object_at, symbol_in}
use Rattle.elf_link_files.specs.Rows.{AtEach, FirstAt, commons, entries, not_weak, section_count, site, strong, symbol_count, weak}
use Rattle.elf_link_files.specs.declared.fault.Options.{Options}
use Rattle.elf_link_files.specs.declared.site.Site.{Site}
use Rattle.elf_link_map.specs.LinkMap.{IsBinding, IsLinkMap, LinkMapValue, bound_in}
use Rattle.elf_link_map.specs.declared.bindings.Binding.TheVariants as bound
use Rattle.elf_link_map.specs.declared.bindings.Binding.{Binding}
use Rattle.elf_link_names.proofs.Public.{bound_excludes, one_choice, unbound}
use Rattle.elf_link_names.specs.Binds.{Binds, HasEarlier, HasTwoDefinitions, IsUnbound, IsUndefinedName, input_rules, link_name_rules}
use Rattle.elf_link_names.specs.declared.name_rules.Choice.TheVariants.{Strong, Common, Weak, Zero}
use Rattle.elf_link_names.specs.declared.name_rules.Choice.{Choice}
use Rattle.elf_link_outputs.specs.Placed.{CommonValue}
use Rattle.elf_object_type.specs.Object.{ObjectValue, SymbolValue, binding}
use Rattle.elf_tool_laws.proofs.Order.{common_moved, definition_moved, empty_moved, entry_moved, first_moved, largest_moved}
use Rattle.elf_tool_laws.proofs.Order.{live_with_moved, moved_site, never_moved, not_weak_moved, of_file, reversed, row_moved, same_file}
use Rattle.elf_tool_laws.proofs.Order.{same_symbol, symbol_moved, undefined_moved}
use Rattle.elf_tool_laws.specs.Order.{AreOneBinding, AreOneRule, AreReordered, moved}

-- ---- names: what each is bound to

module _ (fs gs : List ObjectValue) (to back : ℕ → ℕ) (r : AreReordered fs gs to back) (name : List ℕ) where
  away : AreReordered gs fs back to
  away = reversed fs gs to back r

  strong_never : Never (strong fs name) → Never (strong gs name)
  strong_never =
      never_moved fs gs to back r symbol_count (IsStrong fs name) (IsStrong gs name) (definition_moved gs fs back to away STB_GLOBAL name)

  weak_never : Never (weak fs name) → Never (weak gs name)
  weak_never =
      never_moved fs gs to back r symbol_count (IsWeak fs name) (IsWeak gs name) (definition_moved gs fs back to away STB_WEAK name)

  common_never : Never (commons fs name) → Never (commons gs name)
  common_never =
      never_moved fs gs to back r symbol_count (IsCommon fs name) (IsCommon gs name) (common_moved gs fs back to away name)

  entries_never : Never (entries fs name) → Never (entries gs name)
  entries_never = never_moved fs gs to back r symbol_count (IsEntry fs name) (IsEntry gs name) (entry_moved gs fs back to away name)

  not_weak_never : Never (not_weak fs name) → Never (not_weak gs name)
  not_weak_never =
      never_moved fs gs to back r symbol_count (IsNotWeak fs name) (IsNotWeak gs name) (not_weak_moved gs fs back to away name)

  pub binds_moved : (c : Choice) → Binds fs name c → Binds gs name (moved to c)
  binds_moved (Strong file symbol) first =
      first_moved fs gs to back r (IsStrong fs name) (IsStrong gs name) (definition_moved fs gs to back r STB_GLOBAL name)
      (definition_moved gs fs back to away STB_GLOBAL name) (λ e i f k one other. inr (name, i, k, inl (one, other)))
      (record { file = file; index = symbol; entry = 0 }) first
  binds_moved (Common size align) (none, largest, aligned) = (
    strong_never none,
    largest_moved fs gs to back r name (λ s. s.size) size largest,
    largest_moved fs gs to back r name (λ s. s.value) align aligned,
  )
  binds_moved (Weak file symbol) (none, nothing, first) = (
    strong_never none,
    common_never nothing,
    first_moved fs gs to back r (IsWeak fs name) (IsWeak gs name) (definition_moved fs gs to back r STB_WEAK name)
        (definition_moved gs fs back to away STB_WEAK name) (λ e i f k one other. inr (name, i, k, inr (one, other)))
        (record { file = file; index = symbol; entry = 0 }) first,
  )
  binds_moved Zero (none, nothing, never, alone, (p, is)) = (
    strong_never none,
    common_never nothing,
    weak_never never,
    not_weak_never alone,
    (moved_site to p, row_moved fs gs to back r symbol_count (IsEntry fs name) (IsEntry gs name) (entry_moved fs gs to back r name) p is),
  )

  pub unbound_moved : IsUnbound fs name → IsUnbound gs name
  unbound_moved (none, nothing, never, empty_or) = (
    strong_never none,
    common_never nothing,
    weak_never never,
    elim empty_or [
      | inl empty ↦ inl (entries_never empty)
      | inr (p, is) ↦ inr (
        moved_site to p,
        row_moved fs gs to back r symbol_count (IsNotWeak fs name) (IsNotWeak gs name) (not_weak_moved fs gs to back r name) p is,
      )
    ],
  )

-- ---- rules 1 to 9: each is broken in both orders or in neither

no_mismatch : (o p q : ObjectValue) → ¬ IsMismatch o p → ¬ IsMismatch o q → ¬ IsMismatch p q
no_mismatch o p q first second (inl order) = first (inl (λ one. second (inl (λ other. order (sym one ∙ other)))))
no_mismatch o p q first second (inr (inl machine)) =
    first (inr (inl (λ one. second (inr (inl (λ other. machine (sym one ∙ other)))))))
no_mismatch o p q first second (inr (inr flags)) = first (inr (inr (λ one. second (inr (inr (λ other. flags (sym one ∙ other)))))))

-- two lists of rules with the same numbers, of which each is broken in both or in neither
abbrev AreAsBroken : List {1} (Ruled Site) → List {1} (Ruled Site) → Type 0
AreAsBroken [] [] = Unit {0}
AreAsBroken [] (s ∷ others) = ⊥
AreAsBroken (r ∷ rules) [] = ⊥
AreAsBroken (r ∷ rules) (s ∷ others) =
    ((r.number ≡ s.number) × (Never r.row ↔ Never s.row)) × AreAsBroken rules others

first_alike : (rules others : List {1} (Ruled Site)) → AreAsBroken rules others → (x y : Option (ℕ × Site)) → FirstAt rules x →
    FirstAt others y → AreOneRule x y
first_alike [] [] are None None one other = tt
first_alike [] [] are None (Some g) one other = absurd other
first_alike [] [] are (Some f) y one other = absurd one
first_alike [] (s ∷ others) are x y one other = absurd are
first_alike (r ∷ rules) [] are x y one other = absurd are
first_alike (r ∷ rules) (s ∷ others) ((number, never), are) None None one other = tt
first_alike (r ∷ rules) (s ∷ others) ((number, never), are) None (Some g) (none, rest) (inl (is, first)) =
    absurd (never.0 none g.1 first.stands)
first_alike (r ∷ rules) (s ∷ others) ((number, never), are) None (Some g) (none, rest) (inr (also, later)) =
    first_alike rules others are None (Some g) rest later
first_alike (r ∷ rules) (s ∷ others) ((number, never), are) (Some f) None (inl (is, first)) (none, rest) =
    absurd (never.1 none f.1 first.stands)
first_alike (r ∷ rules) (s ∷ others) ((number, never), are) (Some f) None (inr (also, later)) (none, rest) =
    first_alike rules others are (Some f) None later rest
first_alike (r ∷ rules) (s ∷ others) ((number, never), are) (Some f) (Some g) (inl (is, first)) (inl (also, other)) =
    is ∙ number ∙ sym also
first_alike (r ∷ rules) (s ∷ others) ((number, never), are) (Some f) (Some g) (inl (is, first)) (inr (none, later)) =
    absurd (never.1 none f.1 first.stands)
first_alike (r ∷ rules) (s ∷ others) ((number, never), are) (Some f) (Some g) (inr (none, later)) (inl (also, other)) =
    absurd (never.0 none g.1 other.stands)
first_alike (r ∷ rules) (s ∷ others) ((number, never), are) (Some f) (Some g) (inr (none, later)) (inr (never_here, rest)) =
    first_alike rules others are (Some f) (Some g) later rest

module _ (fs gs : List ObjectValue) (to back : ℕ → ℕ) (r : AreReordered fs gs to back) where
  two_moved : (f i : ℕ) → f < length fs → HasTwoDefinitions fs f i → HasTwoDefinitions gs (to f) i
  two_moved f i f_in (is, (e, h, before, e_in, h_in, other)) =
      let name = (symbol_in fs f i).name in
      let later : IsEarlier (to e) h (to f) i = elim before [
        | inl file ↦ inl (r.kept e f file f_in (inr (name, h, i, inl (other, is))))
        | inr here ↦ inr (ap to here.0, here.1)
      ] in
      let named = ap (λ (s : SymbolValue). s.name) (same_symbol fs gs to back r f i f_in) in
      subst (λ (n : List ℕ). IsStrong gs n (to f) i × HasEarlier gs n (to f) i) (sym named) (
        definition_moved fs gs to back r STB_GLOBAL name f i f_in is,
        (
          to e,
          h,
          later,
          (r.there e e_in).0,
          of_file fs gs to back r e e_in (λ (o : ObjectValue). h < length o.symbols) h_in,
          definition_moved fs gs to back r STB_GLOBAL name e h e_in other,
        ),
      )

  undefined_name_moved : (f i : ℕ) → f < length fs → IsUndefinedName fs f i → IsUndefinedName gs (to f) i
  undefined_name_moved f i f_in (global, nowhere, unbound) =
      let s = symbol_in fs f i in
      subst (λ (t : SymbolValue). (binding t ≡ STB_GLOBAL) × IsUndefinedAt gs (to f) t.place × IsUnbound gs t.name)
      (sym (same_symbol fs gs to back r f i f_in))
      (global, undefined_moved fs gs to back r f s.place nowhere, unbound_moved fs gs to back r s.name unbound)

  no_mismatches : Never (mismatch fs) → Never (mismatch gs)
  no_mismatches never q (q_in, is, index, entry) =
      let away = reversed fs gs to back r in
      let none : (g : ℕ) → g < length gs → ¬ IsMismatch (object_at fs 0) (object_at gs g) =
      λ g g_in differ. never (site (back g) 0)
      ((r.here g g_in).0, subst (IsMismatch (object_at fs 0)) (sym (same_file gs fs back to away g g_in)) differ, refl, refl) in
      no_mismatch (object_at fs 0) (object_at gs 0) (object_at gs q.file) (none 0 (omega arith)) (none q.file q_in) is

module _ (opt : Options) (fs gs : List ObjectValue) (to back : ℕ → ℕ) (r : AreReordered fs gs to back) where
  back_again : AreReordered gs fs back to
  back_again = reversed fs gs to back r

  both : (count : ObjectValue → ℕ) (P Q : ℕ → ℕ → Type 0) → ((f i : ℕ) → f < length fs → P f i → Q (to f) i) →
      ((g i : ℕ) → g < length gs → Q g i → P (back g) i) → Never (AtEach count fs P) ↔ Never (AtEach count gs Q)
  both count P Q move return =
      (never_moved fs gs to back r count P Q return, never_moved gs fs back to back_again count Q P move)

  symbols_as_broken : AreAsBroken (link_symbol_rules fs ++ link_name_rules fs) (link_symbol_rules gs ++ link_name_rules gs)
  symbols_as_broken =
      let symbol = both symbol_count (λ f i. IsBadSymbol (symbol_in fs f i)) (λ f i. IsBadSymbol (symbol_in gs f i))
      (symbol_moved fs gs to back r IsBadSymbol) (symbol_moved gs fs back to back_again IsBadSymbol) in
      let common = both symbol_count (λ f i. IsBadCommon (symbol_in fs f i)) (λ f i. IsBadCommon (symbol_in gs f i))
      (symbol_moved fs gs to back r IsBadCommon) (symbol_moved gs fs back to back_again IsBadCommon) in
      let twice = both symbol_count (HasTwoDefinitions fs) (HasTwoDefinitions gs) (two_moved fs gs to back r)
      (two_moved gs fs back to back_again) in
      let undefined = both symbol_count (IsUndefinedName fs) (IsUndefinedName gs) (undefined_name_moved fs gs to back r)
      (undefined_name_moved gs fs back to back_again) in
      ((refl, symbol), ((refl, common), ((refl, twice), ((refl, undefined), tt))))

  mismatch_both : Never (mismatch fs) ↔ Never (mismatch gs)
  mismatch_both = (no_mismatches fs gs to back r, no_mismatches gs fs back to back_again)

  options_both : Never (bad_options opt) ↔ Never (bad_options opt)
  options_both = ((λ never. never), (λ never. never))

  as_broken : AreAsBroken (input_rules opt fs) (input_rules opt gs)
  as_broken =
      let tls = both section_count (IsLiveWith SHF_TLS fs) (IsLiveWith SHF_TLS gs) (live_with_moved fs gs to back r SHF_TLS)
      (live_with_moved gs fs back to back_again SHF_TLS) in
      let ordered = both section_count (IsLiveWith SHF_LINK_ORDER fs) (IsLiveWith SHF_LINK_ORDER gs)
      (live_with_moved fs gs to back r SHF_LINK_ORDER) (live_with_moved gs fs back to back_again SHF_LINK_ORDER) in
      let signature = both section_count (HasEmptySignature fs) (HasEmptySignature gs) (empty_moved fs gs to back r)
      (empty_moved gs fs back to back_again) in
      ((refl, options_both), ((refl, mismatch_both), ((refl, tls), ((refl, ordered), ((refl, signature), symbols_as_broken)))))

  pub one_rule : (x y : Option (ℕ × Site)) → FirstAt (input_rules opt fs) x → FirstAt (input_rules opt gs) y → AreOneRule x y
  one_rule = first_alike (input_rules opt fs) (input_rules opt gs) as_broken

-- ---- the bindings of two link maps

abbrev pub choice_of : Binding → Choice
choice_of (bound.Strong file symbol) = Strong file symbol
choice_of (bound.Common address size align) = Common size align
choice_of (bound.Weak file symbol) = Weak file symbol
choice_of bound.Zero = Zero

pub bound_choice : (fs : List ObjectValue) (cs : List CommonValue) (name : List ℕ) (b : Binding) → IsBinding fs cs name b →
    Binds fs name (choice_of b)
bound_choice fs cs name (bound.Strong file symbol) is = is
bound_choice fs cs name (bound.Common address size align) (is, placed) = is
bound_choice fs cs name (bound.Weak file symbol) is = is
bound_choice fs cs name bound.Zero is = is

-- by the choices of both
same_binding : (to : ℕ → ℕ) (b d : Binding) → moved to (choice_of b) ≡ choice_of d → AreOneBinding to (Some b) (Some d)
same_binding to (bound.Strong file symbol) (bound.Strong f s) same = (cc, cc)
same_binding to (bound.Strong file symbol) (bound.Common a n m) same = absurd cc
same_binding to (bound.Strong file symbol) (bound.Weak f s) same = absurd cc
same_binding to (bound.Strong file symbol) bound.Zero same = absurd cc
same_binding to (bound.Common address size align) (bound.Strong f s) same = absurd cc
same_binding to (bound.Common address size align) (bound.Common a n m) same = (cc, cc)
same_binding to (bound.Common address size align) (bound.Weak f s) same = absurd cc
same_binding to (bound.Common address size align) bound.Zero same = absurd cc
same_binding to (bound.Weak file symbol) (bound.Strong f s) same = absurd cc
same_binding to (bound.Weak file symbol) (bound.Common a n m) same = absurd cc
same_binding to (bound.Weak file symbol) (bound.Weak f s) same = (cc, cc)
same_binding to (bound.Weak file symbol) bound.Zero same = absurd cc
same_binding to bound.Zero (bound.Strong f s) same = absurd cc
same_binding to bound.Zero (bound.Common a n m) same = absurd cc
same_binding to bound.Zero (bound.Weak f s) same = absurd cc
same_binding to bound.Zero bound.Zero same = tt

module _ (fs gs : List ObjectValue) (to back : ℕ → ℕ) (r : AreReordered fs gs to back) where
  one_binding : (cs ds : List CommonValue) (name : List ℕ) (b d : Option Binding) →
      MatchOption b (Never (entries fs name)) (IsBinding fs cs name) → MatchOption d (Never (entries gs name)) (IsBinding gs ds name) →
      AreOneBinding to b d
  one_binding cs ds name None None none never = tt
  one_binding cs ds name None (Some d) none is =
      absurd (bound_excludes gs name (choice_of d) (bound_choice gs ds name d is)
      (unbound gs name (entries_never fs gs to back r name none)))
  one_binding cs ds name (Some b) None is none =
      absurd (bound_excludes fs name (choice_of b) (bound_choice fs cs name b is)
      (unbound fs name (entries_never gs fs back to (reversed fs gs to back r) name none)))
  one_binding cs ds name (Some b) (Some d) is also =
      same_binding to b d
      (one_choice gs name (moved to (choice_of b)) (choice_of d)
      (binds_moved fs gs to back r name (choice_of b) (bound_choice fs cs name b is)) (bound_choice gs ds name d also))

  pub one_binding_in_maps : (opt other : Options) (m n : LinkMapValue) → IsLinkMap opt fs m → IsLinkMap other gs n → (name : List ℕ) →
      AreOneBinding to (bound_in m.bindings name) (bound_in n.bindings name)
  one_binding_in_maps opt other m n (l, plan, is) (k, planned, also) name =
      one_binding m.commons n.commons name (bound_in m.bindings name) (bound_in n.bindings name) (is.bindings name) (also.bindings name)
