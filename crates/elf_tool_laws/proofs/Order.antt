-- In another order of the files the same sections are discarded, since COMDAT groups of one signature keep their order. So the same symbols
-- are definitions, and the first one of a name stays the first. What holds of the one order holds of the other, because the way back is a
-- change of order too.
use Rattle.std.proofs.Common.{◌≡◌, ◌≢◌, ◌∙◌, ◌<◌, ℕ, List, ap, arith, inl, inr, length, subst, sym, true}
use Rattle.std.proofs.lemmas.Bool.{cases_lt}
use Rattle.elf_extent.specs.Extent.{Never}
use Rattle.elf_field.specs.Abi.{SHF_ALLOC, STB_GLOBAL, STB_LOCAL, STB_WEAK}
use Rattle.elf_link_files.specs.FileRules.{HasEmptySignature, IsLiveWith}
use Rattle.elf_link_files.specs.Files.{Discarded, IsComdat, IsCommon, IsDefinedAt, IsDefinition, IsEarlier, IsEntry, IsNotWeak, IsSeen}
use Rattle.elf_link_files.specs.Files.{IsUndefinedAt, Live, is_comdat, is_common, is_loadable, object_at, signature, signature_position}
use Rattle.elf_link_files.specs.Files.{symbol_in}
use Rattle.elf_link_files.specs.Rows.{AtEach, IsFirstAt, IsLargest, commons, symbol_count}
use Rattle.elf_link_files.specs.declared.site.Site.{Site}
use Rattle.elf_object_type.specs.Object.{HasFlag, ObjectValue, SymbolValue, binding, members_of, section_at, symbol_at}
use Rattle.elf_object_type.specs.ObjectRules.{NamesMember}
use Rattle.elf_object_type.specs.declared.parts.Place.TheVariants as place
use Rattle.elf_object_type.specs.declared.parts.Place.{Place}
use Rattle.elf_tool_laws.specs.Order.{AreReordered, Compete}

-- ---- what a file has by itself

module _ (fs gs : List ObjectValue) (to back : ℕ → ℕ) (r : AreReordered fs gs to back) where
  pub same_file : (f : ℕ) → f < length fs → object_at gs (to f) ≡ object_at fs f
  same_file f f_in = (r.there f f_in).2

  -- what is said of the object of a file is said of it at its new position
  pub of_file : (f : ℕ) → f < length fs → (P : ObjectValue → Type 0) → P (object_at fs f) → P (object_at gs (to f))
  of_file f f_in P here = subst P (sym (same_file f f_in)) here

  same_signature : (f g : ℕ) → f < length fs → signature gs (to f) g ≡ signature fs f g
  same_signature f g f_in =
      ap (λ (o : ObjectValue). (symbol_at o (signature_position (section_at o g).body)).name) (same_file f f_in)

  comdat_moved : (f g : ℕ) → IsComdat fs f g → IsComdat gs (to f) g
  comdat_moved f g (f_in, index, is) = (
    (r.there f f_in).0,
    of_file f f_in (λ (o : ObjectValue). g < length o.sections) index,
    of_file f f_in (λ (o : ObjectValue). is_comdat (section_at o g).body ≡ true) is,
  )

  -- ---- which sections are discarded

  seen_moved : (f g : ℕ) → IsComdat fs f g → IsSeen fs f g (signature fs f g) → IsSeen gs (to f) g (signature gs (to f) g)
  seen_moved f g is (e, h, before, other, same) =
      let later : IsEarlier (to e) h (to f) g = elim before [
        | inl file ↦ inl (r.kept e f file is.0 (inl (h, g, other, is, same)))
        | inr here ↦ inr (ap to here.0, here.1)
      ] in
      (to e, h, later, comdat_moved e h other, same_signature e h other.0 ∙ same ∙ sym (same_signature f g is.0))

  pub discarded_moved : (f s : ℕ) → Discarded fs f s → Discarded gs (to f) s
  discarded_moved f s (g, is, member, seen) = (
    g,
    comdat_moved f g is,
    of_file f is.0
        (λ (o : ObjectValue). (let members = members_of (section_at o g).body in NamesMember members (length members) s)) member,
    seen_moved f g is seen,
  )

  -- ---- which symbols are definitions: back from the new position

  defined_back : (f : ℕ) (p : Place) → IsDefinedAt gs (to f) p → IsDefinedAt fs f p
  defined_back f place.Undef is = is
  defined_back f place.Abs is = is
  defined_back f place.Common is = is
  defined_back f (place.In s) kept = λ gone. kept (discarded_moved f s gone)

  definition_back : (bound : ℕ) (name : List ℕ) (f i : ℕ) → f < length fs → IsDefinition bound gs name (to f) i →
      IsDefinition bound fs name f i
  definition_back bound name f i f_in (named, is, defined) =
      let (n, b, d) = subst
      (λ (o : ObjectValue). ((symbol_at o i).name ≡ name) × (binding (symbol_at o i) ≡ bound) × IsDefinedAt gs (to f) (symbol_at o i).place)
      (same_file f f_in) (named, is, defined) in
      (n, b, defined_back f (symbol_in fs f i).place d)

  -- ---- the way back is a change of order too

  comdat_back : (f g : ℕ) → f < length fs → IsComdat gs (to f) g → IsComdat fs f g
  comdat_back f g f_in (there, index, is) = (
    f_in,
    subst (λ (o : ObjectValue). g < length o.sections) (same_file f f_in) index,
    subst (λ (o : ObjectValue). is_comdat (section_at o g).body ≡ true) (same_file f f_in) is,
  )

  compete_back : (e f : ℕ) → e < length fs → f < length fs → Compete gs (to e) (to f) → Compete fs e f
  compete_back e f e_in f_in (inl (g, h, one, other, same)) =
      inl (g, h, comdat_back e g e_in one, comdat_back f h f_in other, sym (same_signature e g e_in) ∙ same ∙ same_signature f h f_in)
  compete_back e f e_in f_in (inr (name, i, k, inl (one, other))) =
      inr (name, i, k, inl (definition_back STB_GLOBAL name e i e_in one, definition_back STB_GLOBAL name f k f_in other))
  compete_back e f e_in f_in (inr (name, i, k, inr (one, other))) =
      inr (name, i, k, inr (definition_back STB_WEAK name e i e_in one, definition_back STB_WEAK name f k f_in other))

  compete_other : (e f : ℕ) → Compete fs e f → Compete fs f e
  compete_other e f (inl (g, h, one, other, same)) = inl (h, g, other, one, sym same)
  compete_other e f (inr (name, i, k, inl (one, other))) = inr (name, k, i, inl (other, one))
  compete_other e f (inr (name, i, k, inr (one, other))) = inr (name, k, i, inr (other, one))

  kept_back : (e f : ℕ) → e < f → f < length gs → Compete gs e f → back e < back f
  kept_back e f before f_there compete =
      let (e_in, e_is) = r.here e (omega arith) in
      let (f_in, f_is) = r.here f f_there in
      let also : Compete fs (back e) (back f) =
      compete_back (back e) (back f) e_in f_in
      (subst (λ (n : ℕ). Compete gs n (to (back f))) (sym e_is) (subst (λ (n : ℕ). Compete gs e n) (sym f_is) compete)) in
      elim (cases_lt (back e) (back f)) [
        | inl below ↦ below
        | inr above ↦ elim (cases_lt (back f) (back e)) [
          | inl under ↦
              let turned = r.kept (back f) (back e) under e_in (compete_other (back e) (back f) also) in
              omega arith
          | inr same ↦
              let one : back e ≡ back f = omega arith in
              let still : to (back e) ≡ to (back f) = ap to one in
              omega arith
        ]
      ]

  pub reversed : AreReordered gs fs back to
  reversed = record {
    there = λ g g_in. (
        let (f_in, is) = r.here g g_in in
        (f_in, is, sym (same_file (back g) f_in) ∙ ap (object_at gs) is));
    here = λ f f_in. (let (there, is, same) = r.there f f_in in (there, is));
    kept = kept_back;
  }

-- ---- rows: what breaks a rule, or is a definition, is there in the other order

abbrev pub moved_site : (ℕ → ℕ) → Site → Site
moved_site to p = record { file = to p.file; index = p.index; entry = p.entry }

module _ (fs gs : List ObjectValue) (to back : ℕ → ℕ) (r : AreReordered fs gs to back) where
  pub row_moved : (count : ObjectValue → ℕ) (P Q : ℕ → ℕ → Type 0) → ((f i : ℕ) → f < length fs → P f i → Q (to f) i) → (p : Site) →
      AtEach count fs P p → AtEach count gs Q (moved_site to p)
  row_moved count P Q moves p (f_in, index, is, entry) = (
    (r.there p.file f_in).0,
    of_file fs gs to back r p.file f_in (λ (o : ObjectValue). p.index < count o) index,
    moves p.file p.index f_in is,
    entry,
  )

  pub discarded_back : (f s : ℕ) → f < length fs → Discarded gs (to f) s → Discarded fs f s
  discarded_back f s f_in gone =
      subst (λ (g : ℕ). Discarded fs g s) (r.there f f_in).1
      (discarded_moved gs fs back to (reversed fs gs to back r) (to f) s gone)

  -- ---- the predicates

  live_moved : (f s : ℕ) → f < length fs → Live fs f s → Live gs (to f) s
  live_moved f s f_in (flag, loadable, kept) =
      let (a, b) = of_file fs gs to back r f f_in
      (λ (o : ObjectValue). HasFlag (section_at o s).flags SHF_ALLOC × (is_loadable (section_at o s).body ≡ true)) (flag, loadable) in
      (a, b, λ gone. kept (discarded_back f s f_in gone))

  pub live_with_moved : (flag f s : ℕ) → f < length fs → IsLiveWith flag fs f s → IsLiveWith flag gs (to f) s
  live_with_moved flag f s f_in (has, live) =
      (of_file fs gs to back r f f_in (λ (o : ObjectValue). HasFlag (section_at o s).flags flag) has, live_moved f s f_in live)

  pub empty_moved : (f g : ℕ) → f < length fs → HasEmptySignature fs f g → HasEmptySignature gs (to f) g
  empty_moved f g f_in (is, empty) = (comdat_moved fs gs to back r f g is, same_signature fs gs to back r f g f_in ∙ empty)

  -- what is said of a symbol alone
  pub symbol_moved : (P : SymbolValue → Type 0) (f i : ℕ) → f < length fs → P (symbol_in fs f i) → P (symbol_in gs (to f) i)
  symbol_moved P f i f_in is = of_file fs gs to back r f f_in (λ (o : ObjectValue). P (symbol_at o i)) is

  pub same_symbol : (f i : ℕ) → f < length fs → symbol_in gs (to f) i ≡ symbol_in fs f i
  same_symbol f i f_in = ap (λ (o : ObjectValue). symbol_at o i) (same_file fs gs to back r f f_in)

  pub undefined_moved : (f : ℕ) (p : Place) → IsUndefinedAt fs f p → IsUndefinedAt gs (to f) p
  undefined_moved f place.Undef is = is
  undefined_moved f place.Abs is = is
  undefined_moved f place.Common is = is
  undefined_moved f (place.In s) gone = discarded_moved fs gs to back r f s gone

  pub definition_moved : (bound : ℕ) (name : List ℕ) (f i : ℕ) → f < length fs → IsDefinition bound fs name f i →
      IsDefinition bound gs name (to f) i
  definition_moved bound name f i f_in is =
      let (there, same, object) = r.there f f_in in
      definition_back gs fs back to (reversed fs gs to back r) bound name (to f) i there
      (subst (λ (g : ℕ). IsDefinition bound fs name g i) (sym same) is)

  pub entry_moved : (name : List ℕ) (f i : ℕ) → f < length fs → IsEntry fs name f i → IsEntry gs name (to f) i
  entry_moved name f i f_in is = symbol_moved (λ s. (binding s ≢ STB_LOCAL) × (s.name ≡ name)) f i f_in is

  pub common_moved : (name : List ℕ) (f i : ℕ) → f < length fs → IsCommon fs name f i → IsCommon gs name (to f) i
  common_moved name f i f_in is =
      symbol_moved (λ s. ((binding s ≢ STB_LOCAL) × (s.name ≡ name)) × (is_common s.place ≡ true)) f i f_in is

  pub not_weak_moved : (name : List ℕ) (f i : ℕ) → f < length fs → IsNotWeak fs name f i → IsNotWeak gs name (to f) i
  not_weak_moved name f i f_in is =
      symbol_moved (λ s. ((binding s ≢ STB_LOCAL) × (s.name ≡ name)) × (binding s ≢ STB_WEAK)) f i f_in is

-- ---- what holds of no site of a row, or of its first one, does in the other order

module _ (fs gs : List ObjectValue) (to back : ℕ → ℕ) (r : AreReordered fs gs to back) where
  pub never_moved : (count : ObjectValue → ℕ) (P Q : ℕ → ℕ → Type 0) → ((g i : ℕ) → g < length gs → Q g i → P (back g) i) →
      Never (AtEach count fs P) → Never (AtEach count gs Q)
  never_moved count P Q moves never q is =
      never (moved_site back q) (row_moved gs fs back to (reversed fs gs to back r) count Q P moves q is)

  -- of definitions of one name: those of two files compete
  pub first_moved : (P Q : ℕ → ℕ → Type 0) → ((f i : ℕ) → f < length fs → P f i → Q (to f) i) →
      ((g i : ℕ) → g < length gs → Q g i → P (back g) i) → ((e i f k : ℕ) → Q e i → Q f k → Compete gs e f) → (p : Site) →
      IsFirstAt (AtEach symbol_count fs P) p → IsFirstAt (AtEach symbol_count gs Q) (moved_site to p)
  first_moved P Q moves returns compete p first =
      let there = row_moved fs gs to back r symbol_count P Q moves p first.stands in
      record {
        stands = there;
        first = λ q q_is before. (
            let here = row_moved gs fs back to (reversed fs gs to back r) symbol_count Q P returns q q_is in
            let is : back (to p.file) ≡ p.file = (r.there p.file first.stands.0).1 in
            first.first (moved_site back q) here (elim before [
              | inl file ↦ inl (
                  let kept = kept_back fs gs to back r q.file (to p.file) file there.0
                  (compete q.file q.index (to p.file) p.index q_is.2 there.2) in
                  omega arith)
              | inr (same, rest) ↦ inr (ap back same ∙ is, rest)
            ]));
      }

  pub largest_moved : (name : List ℕ) (measure : SymbolValue → ℕ) (n : ℕ) →
      IsLargest (commons fs name) (λ f i. measure (symbol_in fs f i)) n → IsLargest (commons gs name) (λ f i. measure (symbol_in gs f i)) n
  largest_moved name measure n largest = record {
    above = λ q is. (
        let here = row_moved gs fs back to (reversed fs gs to back r) symbol_count (IsCommon gs name) (IsCommon fs name)
        (common_moved gs fs back to (reversed fs gs to back r) name) q is in
        let below = largest.above (moved_site back q) here in
        let same = ap measure (same_symbol gs fs back to (reversed fs gs to back r) q.file q.index is.0) in
        omega arith);
    attained = (
        let (p, is, measures) = largest.attained in (
          moved_site to p,
          row_moved fs gs to back r symbol_count (IsCommon fs name) (IsCommon gs name) (common_moved fs gs to back r name) p is,
          ap measure (same_symbol fs gs to back r p.file p.index is.0) ∙ measures,
        ));
  }
