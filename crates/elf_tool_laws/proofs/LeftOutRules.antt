-- If none of rules 1 to 9 is broken, none is without the symbols that are left out, since what breaks a rule then broke it before.
use Rattle.std.proofs.Common.{◌≡◌, ◌∙◌, ◌<◌, ℕ, List, ap, arith, inl, inr, length, refl, subst, sym}
use Rattle.std.specs.Prelude.{None}
use Rattle.elf_extent.specs.Extent.{Never}
use Rattle.elf_field.specs.Abi.{SHF_ALLOC, SHF_LINK_ORDER, SHF_TLS, STB_GLOBAL}
use Rattle.elf_link_files.specs.FileRules.{HasEmptySignature, IsBadCommon, IsBadSymbol, IsLiveWith, IsMismatch, mismatch}
use Rattle.elf_link_files.specs.Files.{IsEarlier, IsStrong, IsUndefinedAt, Live, object_at, symbol_in}
use Rattle.elf_link_files.specs.Rows.{AtSection, AtSymbol, FirstAt, site}
use Rattle.elf_link_files.specs.declared.fault.Options.{Options}
use Rattle.elf_link_names.specs.Binds.{HasEarlier, HasTwoDefinitions, IsUnbound, IsUndefinedName, input_rules, undefined_name}
use Rattle.elf_object_type.specs.Object.{HasFlag, ObjectValue, SymbolValue, binding}
use Rattle.elf_object_type.specs.declared.parts.Place.TheVariants as place
use Rattle.elf_object_type.specs.declared.parts.Place.{Place}
use Rattle.elf_tool_laws.proofs.LeftOut.{comdat_here, common_never, definition_here, discarded_here, discarded_there, row_here, same_count}
use Rattle.elf_tool_laws.proofs.LeftOut.{same_flags}
use Rattle.elf_tool_laws.proofs.LeftOut.{same_loadable, same_signature, same_symbol, site_before, strong_never, symbol_here, weak_never}
use Rattle.elf_tool_laws.specs.LeftOut.{AreLessSymbols}

module _ (fs gs : List ObjectValue) (at : ℕ → ℕ → ℕ) (r : AreLessSymbols fs gs at) where
  -- ---- files and sections

  mismatch_here : Never (mismatch fs) → Never (mismatch gs)
  mismatch_here never q (f_there, differ, index, entry) =
      let files = r.files in
      let zero_in : 0 < length fs = omega arith in
      let f_in : q.file < length fs = omega arith in
      let first = r.each 0 zero_in in
      let of = r.each q.file f_in in
      let before : IsMismatch (object_at fs 0) (object_at fs q.file) = elim differ [
        | inl order ↦ inl (λ same. order (first.order ∙ same ∙ sym of.order))
        | inr (inl machine) ↦ inr (inl (λ same. machine (first.machine ∙ same ∙ sym of.machine)))
        | inr (inr flags) ↦ inr (inr (λ same. flags (first.flags ∙ same ∙ sym of.flags)))
      ] in
      never q (f_in, before, index, entry)

  section_never : (P Q : ℕ → ℕ → Type 0) → ((f s : ℕ) → f < length fs → Q f s → P f s) → Never (AtSection fs P) →
      Never (AtSection gs Q)
  section_never P Q here never q (f_there, s_there, is, entry) =
      let files = r.files in
      let f_in : q.file < length fs = omega arith in
      let count = same_count fs gs at r q.file f_in in
      never q (f_in, omega arith, here q.file q.index f_in is, entry)

  live_here : (f s : ℕ) → f < length fs → Live gs f s → Live fs f s
  live_here f s f_in (alloc, loadable, kept) = (
    subst (λ (n : ℕ). HasFlag n SHF_ALLOC) (same_flags fs gs at r f s f_in) alloc,
    sym (same_loadable fs gs at r f s f_in) ∙ loadable,
    λ gone. kept (discarded_there fs gs at r f s gone),
  )

  live_with_here : (flag f s : ℕ) → f < length fs → IsLiveWith flag gs f s → IsLiveWith flag fs f s
  live_with_here flag f s f_in (has, live) =
      (subst (λ (n : ℕ). HasFlag n flag) (same_flags fs gs at r f s f_in) has, live_here f s f_in live)

  empty_here : (f g : ℕ) → f < length fs → HasEmptySignature gs f g → HasEmptySignature fs f g
  empty_here f g f_in (is, empty) =
      (comdat_here fs gs at r f g is, sym (same_signature fs gs at r f g f_in is) ∙ empty)

  -- ---- symbols

  symbol_never : (P Q : ℕ → ℕ → Type 0) →
      ((f j : ℕ) → f < length fs → Q f j → P f (at f j)) → Never (AtSymbol fs P) →
      Never (AtSymbol gs Q)
  symbol_never P Q here never q is = never (site_before at q) (row_here fs gs at r P Q here q is)

  undefined_here : (f : ℕ) (p : Place) → IsUndefinedAt gs f p → IsUndefinedAt fs f p
  undefined_here f place.Undef is = is
  undefined_here f place.Abs is = is
  undefined_here f place.Common is = is
  undefined_here f (place.In s) gone = discarded_here fs gs at r f s gone

  two_here : (f j : ℕ) → f < length fs → HasTwoDefinitions gs f j → HasTwoDefinitions fs f (at f j)
  two_here f j f_in (is, (e, h, before, e_there, h_in, other)) =
      let name = (symbol_in gs f j).name in
      let files = r.files in
      let e_in : e < length fs = omega arith in
      let earlier : IsEarlier e (at e h) f (at f j) = elim before [
        | inl file ↦ inl file
        | inr (same, index) ↦ inr (
          same,
          subst (λ (g : ℕ). at g h < at f j) (sym same) ((r.each f f_in).ascend h j index),
        )
      ] in
      subst (λ (n : List ℕ). IsStrong fs n f (at f j) × HasEarlier fs n f (at f j))
      (ap (λ (s : SymbolValue). s.name) (same_symbol fs gs at r f j f_in)) (
        definition_here fs gs at r STB_GLOBAL name f j f_in is,
        (e, at e h, earlier, e_in, ((r.each e e_in).within h).0 h_in, definition_here fs gs at r STB_GLOBAL name e h e_in other),
      )

  -- a GLOBAL symbol that counts as undefined, and is there still
  undefined_name_here : (f j : ℕ) → f < length fs → j < length (object_at gs f).symbols → IsUndefinedName gs f j →
      IsUndefinedName fs f (at f j)
  undefined_name_here f j f_in j_in (global, nowhere, (none, nothing, never, any)) =
      let same = same_symbol fs gs at r f j f_in in
      let name = (symbol_in gs f j).name in
      let bound : binding (symbol_in fs f (at f j)) ≡ STB_GLOBAL = sym (ap binding same) ∙ global in
      let named : (symbol_in fs f (at f j)).name ≡ name = sym (ap (λ (s : SymbolValue). s.name) same) in
      let unbound : IsUnbound fs name = (
        strong_never fs gs at r name none,
        common_never fs gs at r name nothing,
        weak_never fs gs at r name never,
        inr (
          site f (at f j),
          (
            f_in,
            ((r.each f f_in).within j).0 j_in,
            (((λ local. absurd (omega (arith, bound, local))), named), (λ other. absurd (omega (arith, bound, other)))),
            refl,
          ),
        ),
      ) in (
        bound,
        undefined_here f (symbol_in fs f (at f j)).place
            (subst (λ (s : SymbolValue). IsUndefinedAt gs f s.place) same nowhere),
        subst (IsUnbound fs) (sym named) unbound,
      )

  undefined_never : Never (undefined_name fs) → Never (undefined_name gs)
  undefined_never never q (f_there, j_in, is, entry) =
      let files = r.files in
      let f_in : q.file < length fs = omega arith in
      never (site_before at q)
      (f_in, ((r.each q.file f_in).within q.index).0 j_in, undefined_name_here q.file q.index f_in j_in is, entry)

  pub clean_there : (opt : Options) → FirstAt (input_rules opt fs) None → FirstAt (input_rules opt gs) None
  clean_there opt (one, (two, (three, (four, (five, (six, (seven, (eight, (nine, done))))))))) =
      let tls = section_never (IsLiveWith SHF_TLS fs) (IsLiveWith SHF_TLS gs) (live_with_here SHF_TLS) three in
      let ordered = section_never (IsLiveWith SHF_LINK_ORDER fs) (IsLiveWith SHF_LINK_ORDER gs) (live_with_here SHF_LINK_ORDER) four in
      let signature = section_never (HasEmptySignature fs) (HasEmptySignature gs) empty_here five in
      let symbol = symbol_never (λ f i. IsBadSymbol (symbol_in fs f i)) (λ f i. IsBadSymbol (symbol_in gs f i))
      (symbol_here fs gs at r IsBadSymbol) six in
      let common = symbol_never (λ f i. IsBadCommon (symbol_in fs f i)) (λ f i. IsBadCommon (symbol_in gs f i))
      (symbol_here fs gs at r IsBadCommon) seven in
      let twice = symbol_never (HasTwoDefinitions fs) (HasTwoDefinitions gs) two_here eight in
      (one, (mismatch_here two, (tls, (ordered, (signature, (symbol, (common, (twice, (undefined_never nine, done)))))))))
