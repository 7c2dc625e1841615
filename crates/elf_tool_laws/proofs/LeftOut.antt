-- Symbols that are defined nowhere or local are left out. The same sections are discarded, and all definitions of names and all commons are
-- still there, in the same order. So what a name is bound to by one of them, it was bound to before.
use Rattle.std.proofs.Common.{◌≡◌, ◌≢◌, ◌∙◌, ◌<◌, ◌≤◌, ℕ, List, zero, suc, [], ◌∷◌, ap, arith, get_or, inl, inr, length, map, refl}
use Rattle.std.proofs.Common.{subst, sym, true}
use Rattle.std.proofs.lemmas.List.{length-map}
use Rattle.std.proofs.lemmas.Bool.{cases_lt}
use Rattle.elf_extent.specs.Extent.{Never}
use Rattle.elf_field.specs.Abi.{STB_GLOBAL, STB_LOCAL, STB_WEAK}
use Rattle.elf_link_files.specs.Files.{Discarded, IsComdat, IsCommon, IsDefinedAt, IsDefinition, IsEntry}
use Rattle.elf_link_files.specs.Files.{IsStrong, IsWeak, is_comdat, is_common, is_loadable, object_at, section_in, signature}
use Rattle.elf_link_files.specs.Files.{signature_position, symbol_in}
use Rattle.elf_link_files.specs.Rows.{AtSymbol, Before, IsFirstAt, IsLargest, commons, entries, strong, weak}
use Rattle.elf_link_files.specs.declared.site.Site.{Site}
use Rattle.elf_link_names.specs.Binds.{Binds}
use Rattle.elf_link_names.specs.declared.name_rules.Choice.TheVariants.{Strong, Common, Weak, Zero}
use Rattle.elf_link_names.specs.declared.name_rules.Choice.{Choice}
use Rattle.elf_object_type.specs.Object.{BodyValue, ObjectValue, SectionValue, SymbolValue, binding, bits, group, members_of, no_bits}
use Rattle.elf_object_type.specs.Object.{no_section, relocs}
use Rattle.elf_object_type.specs.ObjectRules.{NamesMember}
use Rattle.elf_object_type.specs.declared.parts.Place.TheVariants as place
use Rattle.elf_object_type.specs.declared.parts.Place.{Place}
use Rattle.elf_tool_laws.specs.LeftOut.{AreLessSymbols, IsUnneeded, as_before, body_by, section_by}

-- ---- a section with references to symbols at other positions has the same of all else

pub loadable_by : (at : ℕ → ℕ) (b : BodyValue) → is_loadable (body_by at b) ≡ is_loadable b
loadable_by at (bits type content) = refl
loadable_by at (no_bits size) = refl
loadable_by at (relocs rela target entries) = refl
loadable_by at (group comdat signature members) = refl

pub comdat_by : (at : ℕ → ℕ) (b : BodyValue) → is_comdat (body_by at b) ≡ is_comdat b
comdat_by at (bits type content) = refl
comdat_by at (no_bits size) = refl
comdat_by at (relocs rela target entries) = refl
comdat_by at (group comdat signature members) = refl

pub members_by : (at : ℕ → ℕ) (b : BodyValue) → members_of (body_by at b) ≡ members_of b
members_by at (bits type content) = refl
members_by at (no_bits size) = refl
members_by at (relocs rela target entries) = refl
members_by at (group comdat signature members) = refl

signature_by : (at : ℕ → ℕ) (b : BodyValue) → is_comdat b ≡ true → signature_position (body_by at b) ≡ at (signature_position b)
signature_by at (bits type content) is = absurd cc
signature_by at (no_bits size) is = absurd cc
signature_by at (relocs rela target entries) is = absurd cc
signature_by at (group comdat signature members) is = refl

-- section s of a list, where each is changed: also of one that is not there, if this one does not change
mapped_at : {A : Type 0} (change : A → A) (none : A) → change none ≡ none → (xs : List A) (k : ℕ) →
    get_or (map change xs) k none ≡ change (get_or xs k none)
mapped_at change none still [] k = sym still
mapped_at change none still (x ∷ xs) zero = refl
mapped_at change none still (x ∷ xs) (suc k) = mapped_at change none still xs k

module _ (fs gs : List ObjectValue) (at : ℕ → ℕ → ℕ) (r : AreLessSymbols fs gs at) where
  pub same_section : (f s : ℕ) → f < length fs → section_by (at f) (section_in gs f s) ≡ section_in fs f s
  same_section f s f_in =
      let of = r.each f f_in in
      sym (mapped_at (section_by (at f)) no_section refl (object_at gs f).sections s)
      ∙ ap (λ (ss : List SectionValue). get_or ss s no_section) of.sections

  pub same_count : (f : ℕ) → f < length fs → length (object_at gs f).sections ≡ length (object_at fs f).sections
  same_count f f_in =
      let of = r.each f f_in in
      sym (length-map (object_at gs f).sections (section_by (at f))) ∙ ap (λ (ss : List SectionValue). length ss) of.sections

  pub same_symbol : (f j : ℕ) → f < length fs → symbol_in gs f j ≡ symbol_in fs f (at f j)
  same_symbol f j f_in = (r.each f f_in).symbols j

  -- what is said of the body of a section
  same_body : {A : Type 0} (of : BodyValue → A) → ((b : BodyValue) (to : ℕ → ℕ) → of (body_by to b) ≡ of b) → (f s : ℕ) → f < length fs →
      of (section_in gs f s).body ≡ of (section_in fs f s).body
  same_body of keeps f s f_in =
      sym (keeps (section_in gs f s).body (at f)) ∙ ap (λ (x : SectionValue). of x.body) (same_section f s f_in)

  pub same_flags : (f s : ℕ) → f < length fs → (section_in gs f s).flags ≡ (section_in fs f s).flags
  same_flags f s f_in = ap (λ (x : SectionValue). x.flags) (same_section f s f_in)

  pub same_loadable : (f s : ℕ) → f < length fs → is_loadable (section_in gs f s).body ≡ is_loadable (section_in fs f s).body
  same_loadable = same_body is_loadable (λ b to. loadable_by to b)

  -- ---- which sections are discarded

  comdat_there : (f g : ℕ) → IsComdat fs f g → IsComdat gs f g
  comdat_there f g (f_in, g_in, is) =
      let count = same_count f f_in in
      let files = r.files in
      (omega arith, omega arith, same_body is_comdat (λ b to. comdat_by to b) f g f_in ∙ is)

  pub comdat_here : (f g : ℕ) → IsComdat gs f g → IsComdat fs f g
  comdat_here f g (f_there, g_there, is) =
      let files = r.files in
      let f_in : f < length fs = omega arith in
      let count = same_count f f_in in
      (f_in, omega arith, sym (same_body is_comdat (λ b to. comdat_by to b) f g f_in) ∙ is)

  pub same_signature : (f g : ℕ) → f < length fs → IsComdat gs f g → signature gs f g ≡ signature fs f g
  same_signature f g f_in (f_there, g_there, is) =
      let here = same_symbol f (signature_position (section_in gs f g).body) f_in in
      let moves = signature_by (at f) (section_in gs f g).body is in
      let position = ap (λ (x : SectionValue). signature_position x.body) (same_section f g f_in) in
      ap (λ (s : SymbolValue). s.name) here ∙ ap (λ (i : ℕ). (symbol_in fs f i).name) (sym moves ∙ position)

  same_members : (f g : ℕ) → f < length fs → members_of (section_in gs f g).body ≡ members_of (section_in fs f g).body
  same_members = same_body members_of (λ b to. members_by to b)

  pub discarded_there : (f s : ℕ) → Discarded fs f s → Discarded gs f s
  discarded_there f s (g, is, member, (e, h, before, other, same)) =
      let there = comdat_there f g is in
      let first = comdat_there e h other in (
        g,
        there,
        subst (λ (ms : List ℕ). NamesMember ms (length ms) s) (sym (same_members f g is.0)) member,
        (e, h, before, first, same_signature e h other.0 first ∙ same ∙ sym (same_signature f g is.0 there)),
      )

  pub discarded_here : (f s : ℕ) → Discarded gs f s → Discarded fs f s
  discarded_here f s (g, is, member, (e, h, before, other, same)) =
      let here = comdat_here f g is in
      let there = comdat_here e h other in (
        g,
        here,
        subst (λ (ms : List ℕ). NamesMember ms (length ms) s) (same_members f g here.0) member,
        (e, h, before, there, sym (same_signature e h there.0 other) ∙ same ∙ same_signature f g here.0 is),
      )

  -- ---- symbols

  defined_here : (f : ℕ) (p : Place) → IsDefinedAt gs f p → IsDefinedAt fs f p
  defined_here f place.Undef is = is
  defined_here f place.Abs is = is
  defined_here f place.Common is = is
  defined_here f (place.In s) kept = λ gone. kept (discarded_there f s gone)

  defined_there : (f : ℕ) (p : Place) → IsDefinedAt fs f p → IsDefinedAt gs f p
  defined_there f place.Undef is = is
  defined_there f place.Abs is = is
  defined_there f place.Common is = is
  defined_there f (place.In s) kept = λ gone. kept (discarded_here f s gone)

  pub definition_here : (bound : ℕ) (name : List ℕ) (f j : ℕ) → f < length fs →
      IsDefinition bound gs name f j → IsDefinition bound fs name f (at f j)
  definition_here bound name f j f_in (named, is, defined) =
      subst (λ (s : SymbolValue). (s.name ≡ name) × (binding s ≡ bound) × IsDefinedAt fs f s.place) (same_symbol f j f_in)
      (named, is, defined_here f (symbol_in gs f j).place defined)

  definition_there : (bound : ℕ) (name : List ℕ) (f j : ℕ) → f < length fs →
      IsDefinition bound fs name f (at f j) → IsDefinition bound gs name f j
  definition_there bound name f j f_in (named, is, defined) =
      subst (λ (s : SymbolValue). (s.name ≡ name) × (binding s ≡ bound) × IsDefinedAt gs f s.place) (sym (same_symbol f j f_in))
      (named, is, defined_there f (symbol_in fs f (at f j)).place defined)

  defined_somewhere : (f : ℕ) (p : Place) → IsDefinedAt fs f p → p ≢ place.Undef
  defined_somewhere f place.Undef is same = is
  defined_somewhere f place.Abs is same = absurd cc
  defined_somewhere f place.Common is same = is
  defined_somewhere f (place.In s) is same = absurd cc

  pub common_somewhere : (p : Place) → is_common p ≡ true → p ≢ place.Undef
  common_somewhere place.Undef is same = absurd cc
  common_somewhere place.Abs is same = absurd cc
  common_somewhere place.Common is same = absurd cc
  common_somewhere (place.In s) is same = absurd cc

  -- what is said of a symbol alone
  pub symbol_here : (P : SymbolValue → Type 0) (f j : ℕ) → f < length fs → P (symbol_in gs f j) →
      P (symbol_in fs f (at f j))
  symbol_here P f j f_in is = subst P (same_symbol f j f_in) is

  pub symbol_there : (P : SymbolValue → Type 0) (f j : ℕ) → f < length fs → P (symbol_in fs f (at f j)) →
      P (symbol_in gs f j)
  symbol_there P f j f_in is = subst P (sym (same_symbol f j f_in)) is

-- ---- rows: the site of a symbol, by its position before

abbrev pub site_before : (ℕ → ℕ → ℕ) → Site → Site
site_before at q = record { file = q.file; index = at q.file q.index; entry = q.entry }

module _ (fs gs : List ObjectValue) (at : ℕ → ℕ → ℕ) (r : AreLessSymbols fs gs at) where
  -- what symbols of a kind there are: the same here and there, and none of them is left out
  pub record IsKeptKind (P Q : ℕ → ℕ → Type 0) : Type 0 where
    pub here : (f j : ℕ) → f < length fs → Q f j → P f (at f j)
    pub there : (f j : ℕ) → f < length fs → P f (at f j) → Q f j
    pub needed : (f i : ℕ) → P f i → ¬ IsUnneeded (symbol_in fs f i)

  pub row_here : (P Q : ℕ → ℕ → Type 0) →
      ((f j : ℕ) → f < length fs → Q f j → P f (at f j)) → (q : Site) → AtSymbol gs Q q →
      AtSymbol fs P (site_before at q)
  row_here P Q here q (f_there, j_in, is, entry) =
      let files = r.files in
      let f_in : q.file < length fs = omega arith in
      (f_in, ((r.each q.file f_in).within q.index).0 j_in, here q.file q.index f_in is, entry)

  pub row_there : (P Q : ℕ → ℕ → Type 0) → IsKeptKind P Q → (p : Site) → AtSymbol fs P p →
      (q : Site) × AtSymbol gs Q q × (site_before at q ≡ p)
  row_there P Q kind p (f_in, i_in, is, entry) =
      let files = r.files in
      elim ((r.each p.file f_in).others p.index i_in) [
        | inl (j, same) ↦ (
          record { file = p.file; index = j; entry = p.entry },
          (
            omega arith,
            ((r.each p.file f_in).within j).1 (subst (λ (i : ℕ). i < length (object_at fs p.file).symbols) (sym same) i_in),
            kind.there p.file j f_in (subst (λ (i : ℕ). P p.file i) (sym same) is),
            entry,
          ),
          ap (λ (i : ℕ). record { file = p.file; index = i; entry = p.entry }) same,
        )
        | inr unneeded ↦ absurd (kind.needed p.file p.index is unneeded)
      ]

  pub never_here : (P Q : ℕ → ℕ → Type 0) → IsKeptKind P Q → Never (AtSymbol gs Q) → Never (AtSymbol fs P)
  never_here P Q kind never p is = (let (q, there, same) = row_there P Q kind p is in never q there)

  -- positions in one file: a symbol that came first comes first

  pub index_before : (f j k : ℕ) → f < length fs → at f j < at f k → j < k
  index_before f j k f_in before = elim (cases_lt j k) [
    | inl below ↦ below
    | inr above ↦ elim (cases_lt k j) [
      | inl under ↦ (let turned = (r.each f f_in).ascend k j under in omega arith)
      | inr never ↦ (
          let one : j ≡ k = omega arith in
          let same : at f j ≡ at f k = ap (at f) one in
          omega arith)
    ]
  ]

  index_same : (f j k : ℕ) → f < length fs → at f j ≡ at f k → j ≡ k
  index_same f j k f_in same = elim (cases_lt j k) [
    | inl below ↦ (let less = (r.each f f_in).ascend j k below in omega arith)
    | inr above ↦ elim (cases_lt k j) [
      | inl under ↦ (let more = (r.each f f_in).ascend k j under in omega arith)
      | inr never ↦ omega arith
    ]
  ]

  pub before_there : (q p : Site) → p.file < length fs → Before (site_before at q) (site_before at p) → Before q p
  before_there q p f_in (inl file) = inl file
  before_there q p f_in (inr (same, later)) =
      inr (
        same,
        elim later [
          | inl index ↦ inl (index_before p.file q.index p.index f_in (subst (λ (f : ℕ). at f q.index < at p.file p.index) same index))
          | inr (index, entry) ↦ inr (
            index_same p.file q.index p.index f_in (subst (λ (f : ℕ). at f q.index ≡ at p.file p.index) same index),
            entry,
          )
        ],
      )

  pub first_here : (P Q : ℕ → ℕ → Type 0) → IsKeptKind P Q → (q : Site) → IsFirstAt (AtSymbol gs Q) q →
      IsFirstAt (AtSymbol fs P) (site_before at q)
  first_here P Q kind q first =
      let here = row_here P Q kind.here q first.stands in
      record {
        stands = here;
        first = λ p p_is before. (
            let (other, there, same) = row_there P Q kind p p_is in
            first.first other there
            (before_there other q here.0
            (subst (λ (x : Site). Before x (site_before at q)) (sym same) before)));
      }

  -- ---- kinds that are kept: definitions and commons

  pub definitions_kept : (bound : ℕ) (name : List ℕ) → bound ≢ STB_LOCAL →
      IsKeptKind (IsDefinition bound fs name) (IsDefinition bound gs name)
  definitions_kept bound name global = record {
    here = definition_here fs gs at r bound name;
    there = definition_there fs gs at r bound name;
    needed = λ f i is unneeded. elim unneeded [
      | inl nowhere ↦ defined_somewhere fs gs at r f (symbol_in fs f i).place is.2 nowhere
      | inr local ↦ global (sym is.1 ∙ local)
    ];
  }

  pub strong_kept : (name : List ℕ) → IsKeptKind (IsStrong fs name) (IsStrong gs name)
  strong_kept name = definitions_kept STB_GLOBAL name (λ same. absurd (omega (arith, same)))

  pub weak_kept : (name : List ℕ) → IsKeptKind (IsWeak fs name) (IsWeak gs name)
  weak_kept name = definitions_kept STB_WEAK name (λ same. absurd (omega (arith, same)))

  pub commons_kept : (name : List ℕ) → IsKeptKind (IsCommon fs name) (IsCommon gs name)
  commons_kept name = record {
    here = symbol_here fs gs at r (λ s. ((binding s ≢ STB_LOCAL) × (s.name ≡ name)) × (is_common s.place ≡ true));
    there = symbol_there fs gs at r (λ s. ((binding s ≢ STB_LOCAL) × (s.name ≡ name)) × (is_common s.place ≡ true));
    needed = λ f i is unneeded. elim unneeded [
      | inl nowhere ↦ common_somewhere fs gs at r (symbol_in fs f i).place is.1 nowhere
      | inr local ↦ is.0.0 local
    ];
  }

  pub largest_here : (name : List ℕ) (measure : SymbolValue → ℕ) (n : ℕ) →
      IsLargest (commons gs name) (λ f j. measure (symbol_in gs f j)) n → IsLargest (commons fs name) (λ f i. measure (symbol_in fs f i)) n
  largest_here name measure n largest = record {
    above = λ p is. (
        let (q, there, same) = row_there (IsCommon fs name) (IsCommon gs name) (commons_kept name) p is in
        let here = row_here (IsCommon fs name) (IsCommon gs name) (commons_kept name).here q there in
        let below : measure (symbol_in fs q.file (at q.file q.index)) ≤ n =
        subst (λ (s : SymbolValue). measure s ≤ n) (same_symbol fs gs at r q.file q.index here.0) (largest.above q there) in
        subst (λ (x : Site). measure (symbol_in fs x.file x.index) ≤ n) same below);
    attained = (
        let (q, there, measures) = largest.attained in
        let here = row_here (IsCommon fs name) (IsCommon gs name) (commons_kept name).here q there in
        (site_before at q, here, sym (ap measure (same_symbol fs gs at r q.file q.index here.0)) ∙ measures));
  }

  -- ---- names

  pub strong_never : (name : List ℕ) → Never (strong gs name) → Never (strong fs name)
  strong_never name = never_here (IsStrong fs name) (IsStrong gs name) (strong_kept name)

  pub weak_never : (name : List ℕ) → Never (weak gs name) → Never (weak fs name)
  weak_never name = never_here (IsWeak fs name) (IsWeak gs name) (weak_kept name)

  pub common_never : (name : List ℕ) → Never (commons gs name) → Never (commons fs name)
  common_never name = never_here (IsCommon fs name) (IsCommon gs name) (commons_kept name)

  pub entry_here : (name : List ℕ) (q : Site) → entries gs name q → entries fs name (site_before at q)
  entry_here name =
      row_here (IsEntry fs name) (IsEntry gs name) (symbol_here fs gs at r (λ s. (binding s ≢ STB_LOCAL) × (s.name ≡ name)))

  pub binds_here : (name : List ℕ) (c : Choice) → c ≢ Zero → Binds gs name c → Binds fs name (as_before at c)
  binds_here name (Strong file symbol) some first =
      first_here (IsStrong fs name) (IsStrong gs name) (strong_kept name)
      (record { file = file; index = symbol; entry = 0 }) first
  binds_here name (Common size align) some (none, largest, aligned) = (
    strong_never name none,
    largest_here name (λ s. s.size) size largest,
    largest_here name (λ s. s.value) align aligned,
  )
  binds_here name (Weak file symbol) some (none, nothing, first) = (
    strong_never name none,
    common_never name nothing,
    first_here (IsWeak fs name) (IsWeak gs name) (weak_kept name)
        (record { file = file; index = symbol; entry = 0 }) first,
  )
  binds_here name Zero some binds = absurd (some refl)
