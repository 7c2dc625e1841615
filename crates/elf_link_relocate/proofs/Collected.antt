-- The list of fields, entry by entry. It has the fields of the applied entries up to a site, in order, and each of these entries has a
-- relocation rule. An entry with a field adds it, and one without leaves the list. An entry without a rule is the first that breaks rule
-- 12. After the last file the list has all fields.
use Rattle.std.proofs.Common.{◌≡◌, ℕ, ◌+◌, ◌<◌, inl, inr, subst, arith, List, sym, ◌∙◌, ap, ◌⊎◌, refl, [], ◌∷◌, ◌++◌, length, length-append}
use Rattle.std.proofs.Common.{Bool, ◌↔◌, true, false, ◌≤◌}
use Rattle.std.proofs.lemmas.Bool.{cases_lt}
use Rattle.std.specs.Prelude.{Some, slice_get, Option, None, IfSome}
use Rattle.std.proofs.lemmas.List.{get_or_push}
use Rattle.std.proofs.Math.ListN.{get_or-append}
use Rattle.elf_extent.specs.Extent.{Never}
use Rattle.elf_link_field.specs.Field.{HasNoRelocationRule, IsFirstRelocationRule}
use Rattle.elf_link_field.specs.declared.rule.Form.TheVariants.{None as NoForm}
use Rattle.elf_link_field.specs.declared.rule.RelocRule.{RelocRule}
use Rattle.elf_link_files.specs.Files.{section_in}
use Rattle.elf_link_files.specs.Rows.{Before, IsFirstAt}
use Rattle.elf_link_files.specs.declared.site.Site.{Site}
use Rattle.elf_link_map.specs.LinkMap.{LinkMapValue}
use Rattle.elf_link_relocate.specs.Fields.{IsApplied, entry_at, HasField, no_rule, AreApplied, entries_of, Share, AtField}
use Rattle.elf_link_relocate.specs.Fields.{IsFieldOutOfRange, SharesEarlier, fields_overlap}
use Rattle.elf_link_relocate.specs.Passes.{entry_site, AreFields, AreFieldsBefore, field_at, no_field, BreaksFieldTest, HasNone, IsFirst}
use Rattle.elf_link_relocate.specs.Passes.{IsFirstOf, AreFoundBefore, IsValidatedField, first_of, AllWithin, HasNoOverlap}
use Rattle.elf_link_relocate.specs.Passes.{IsFirstOverlappingField, SharesBefore, IsSeenOf, IsSeenNext, none_seen, IsLast, StandsAfter}
use Rattle.elf_link_relocate.specs.Passes.{AreAscending, IsFirstSite}
use Rattle.elf_link_relocate.specs.declared.field.Field.{Field}
use Rattle.elf_link_relocate.specs.declared.field.FieldTest.TheVariants.{FieldOutOfRange, Unplaced, ValueOutOfRange}
use Rattle.elf_link_relocate.specs.declared.field.Found.{Found}
use Rattle.elf_link_relocate.specs.declared.field.Validated.{Validated}
use Rattle.elf_link_relocate.specs.declared.field.Seen.{Seen}
use Rattle.elf_object_type.specs.Object.{ObjectValue}
use Rattle.elf_object_type.specs.ObjectView.{body_value}
use Rattle.elf_object_type.specs.declared.parts.Body.TheVariants.{Bits, NoBits, Relocs, Group}
use Rattle.elf_object_type.specs.declared.parts.Body.{Body}
use Rattle.elf_object_type.specs.declared.relocations.Relocation.{Relocation}

-- The first of a list.

pub none_more : (P : ℕ → Type 0) (k : ℕ) → ((j : ℕ) → j < k → P j → ⊥) → (P k → ⊥) → (j : ℕ) → j < k + 1 → P j → ⊥
none_more P k none other j lt here = elim (cases_lt j k) [
  | inl below ↦ none j below here
  | inr above ↦ (let same : j ≡ k = omega arith in other (subst P same here))
]

-- The first relocation rule of a kind is one.

pub same_item : (a b : RelocRule) → Some a ≡ Some b → a ≡ b
same_item a b e = cc

pub one_rule : (kind : ℕ) (rules : List RelocRule) (r s : RelocRule) → IsFirstRelocationRule kind rules r →
    IsFirstRelocationRule kind rules s → r ≡ s
one_rule kind rules r s (j, at, first) (k, there, other) = elim (cases_lt j k) [
  | inl below ↦ absurd (other j r below at)
  | inr above ↦ elim (cases_lt k j) [
    | inl below ↦ absurd (first k s below there)
    | inr again ↦ (
        let same : j ≡ k = omega arith in
        same_item r s (sym at.0 ∙ ap (λ (n : ℕ). slice_get rules n) same ∙ there.0))
  ]
]

pub ruled : (kind : ℕ) (rules : List RelocRule) (r : RelocRule) → IsFirstRelocationRule kind rules r → HasNoRelocationRule kind rules → ⊥
ruled kind rules r (k, at, first) none = none k r at

-- The order of entries: by file, section and position. No entry is earlier than itself, and of two different entries exactly one is
-- earlier. The entries up to the next one are those up to this one and itself, also across the end of a section or file. All by cases on
-- which of the three numbers decides.

pub site_is : (p : Site) (f s e : ℕ) → p.file ≡ f → p.index ≡ s → p.entry ≡ e → p ≡ entry_site f s e
site_is p f s e file index entry =
    ap (λ (n : ℕ). record { file = n; index = p.index; entry = p.entry }) file ∙
    ap (λ (n : ℕ). record { file = f; index = n; entry = p.entry }) index
    ∙ ap (λ (n : ℕ). record { file = f; index = s; entry = n }) entry

-- ---- the next entry

pub before_next : (p : Site) (f s e : ℕ) → Before p (entry_site f s (e + 1)) → Before p (entry_site f s e) ⊎ (p ≡ entry_site f s e)
before_next p f s e (inl file) = inl (inl file)
before_next p f s e (inr (file, inl index)) = inl (inr (file, inl index))
before_next p f s e (inr (file, inr (index, entry))) = elim (cases_lt p.entry e) [
  | inl below ↦ inl (inr (file, inr (index, below)))
  | inr above ↦ inr (site_is p f s e file index (omega arith))
]

pub before_more : (p : Site) (f s e : ℕ) → Before p (entry_site f s e) → Before p (entry_site f s (e + 1))
before_more p f s e (inl file) = inl file
before_more p f s e (inr (file, inl index)) = inr (file, inl index)
before_more p f s e (inr (file, inr (index, entry))) = inr (file, inr (index, omega arith))

-- ---- the next section, after the n entries of this one

pub in_section : (p : Site) (f s n : ℕ) → (p.file ≡ f → p.index ≡ s → p.entry < n) → Before p (entry_site f (s + 1) 0) →
    Before p (entry_site f s n)
in_section p f s n last (inl file) = inl file
in_section p f s n last (inr (file, inl index)) = elim (cases_lt p.index s) [
  | inl below ↦ inr (file, inl below)
  | inr above ↦ (let same : p.index ≡ s = omega arith in inr (file, inr (same, last file same)))
]
in_section p f s n last (inr (file, inr (index, entry))) = absurd (omega arith)

pub next_section : (p : Site) (f s n : ℕ) → Before p (entry_site f s n) → Before p (entry_site f (s + 1) 0)
next_section p f s n (inl file) = inl file
next_section p f s n (inr (file, inl index)) = inr (file, inl (omega arith))
next_section p f s n (inr (file, inr (index, entry))) = inr (file, inl (omega arith))

-- ---- the next file, after the n sections of this one

pub in_file : (p : Site) (f n : ℕ) → (p.file ≡ f → p.index < n) → Before p (entry_site (f + 1) 0 0) → Before p (entry_site f n 0)
in_file p f n last (inl file) = elim (cases_lt p.file f) [
  | inl below ↦ inl below
  | inr above ↦ (let same : p.file ≡ f = omega arith in inr (same, inl (last same)))
]
in_file p f n last (inr (file, inl index)) = absurd (omega arith)
in_file p f n last (inr (file, inr (index, entry))) = absurd (omega arith)

pub next_file : (p : Site) (f n : ℕ) → Before p (entry_site f n 0) → Before p (entry_site (f + 1) 0 0)
next_file p f n (inl file) = inl (omega arith)
next_file p f n (inr (file, rest)) = inl (omega arith)

-- ---- none is before the first one; of two entries one is before the other, or they are the same

pub none_before : (p : Site) → Before p (entry_site 0 0 0) → ⊥
none_before p (inl file) = omega arith
none_before p (inr (file, inl index)) = omega arith
none_before p (inr (file, inr (index, entry))) = omega arith

pub never_itself : (p : Site) → Before p p → ⊥
never_itself p (inl file) = omega arith
never_itself p (inr (file, inl index)) = omega arith
never_itself p (inr (file, inr (index, entry))) = omega arith

pub never_both : (p q : Site) → Before p q → Before q p → ⊥
never_both p q (inl file) (inl other) = omega arith
never_both p q (inl file) (inr (other, rest)) = omega arith
never_both p q (inr (file, rest)) (inl other) = omega arith
never_both p q (inr (file, inl index)) (inr (other, inl again)) = omega arith
never_both p q (inr (file, inl index)) (inr (other, inr (again, entry))) = omega arith
never_both p q (inr (file, inr (index, entry))) (inr (other, inl again)) = omega arith
never_both p q (inr (file, inr (index, entry))) (inr (other, inr (again, later))) = omega arith

pub itself_next : (f s e : ℕ) → Before (entry_site f s e) (entry_site f s (e + 1))
itself_next f s e = inr (refl, inr (refl, omega arith))

-- of two entries one is before the other, or they are the same
abbrev pub Ordered : Site → Site → Type 0
Ordered p q = (p ≡ q) ⊎ (Before p q ⊎ Before q p)

pub ordered : (p q : Site) → Ordered p q
ordered p q = elim (cases_lt p.file q.file) [
  | inl file ↦ inr (inl (inl file))
  | inr file ↦ elim (cases_lt q.file p.file) [
    | inl other ↦ inr (inr (inl other))
    | inr again ↦ (
        let files : p.file ≡ q.file = omega arith in
        let back : q.file ≡ p.file = omega arith in
        elim (cases_lt p.index q.index) [
          | inl index ↦ inr (inl (inr (files, inl index)))
          | inr index ↦ elim (cases_lt q.index p.index) [
            | inl other ↦ inr (inr (inr (back, inl other)))
            | inr more ↦ (
                let indexes : p.index ≡ q.index = omega arith in
                let forth : q.index ≡ p.index = omega arith in
                elim (cases_lt p.entry q.entry) [
                  | inl entry ↦ inr (inl (inr (files, inr (indexes, entry))))
                  | inr entry ↦ elim (cases_lt q.entry p.entry) [
                    | inl other ↦ inr (inr (inr (back, inr (forth, other))))
                    | inr last ↦ inl (site_is p q.file q.index q.entry files indexes (omega arith))
                  ]
                ])
          ]
        ])
  ]
]

-- ---- a list with one more field

pub kept : (ds : List Field) (new : Field) (k : ℕ) → k < length ds → field_at (ds ++ new ∷ []) k ≡ field_at ds k
kept ds new k lt = get_or-append ds (new ∷ []) no_field k lt

pub last : (ds : List Field) (new : Field) (k : ℕ) → length ds ≡ k → field_at (ds ++ new ∷ []) k ≡ new
last ds new k end = get_or_push ds new no_field k end

pub longer : (ds : List Field) (new : Field) → length (ds ++ new ∷ []) ≡ length ds + 1
longer ds new = simp length-append

pub pushed : (P : Field → Type 0) (ds : List Field) (new : Field) → ((k : ℕ) → k < length ds → P (field_at ds k)) → P new → (k : ℕ) →
    k < length (ds ++ new ∷ []) → P (field_at (ds ++ new ∷ []) k)
pushed P ds new each here k lt =
    let long = longer ds new in
    elim (cases_lt k (length ds)) [
      | inl below ↦ subst P (sym (kept ds new k below)) (each k below)
      | inr above ↦ (let end : length ds ≡ k = omega arith in subst P (sym (last ds new k end)) here)
    ]

-- ---- the fields before a site

pub fields_none : (fs : List ObjectValue) (rules : List RelocRule) → AreFieldsBefore fs rules (entry_site 0 0 0) []
fields_none fs rules = record {
  each = λ k lt. absurd (omega arith);
  before = λ k lt. absurd (omega arith);
  all = λ p r has before. absurd (none_before p before);
  order = λ j k lt within. absurd (omega arith);
  ruled = λ p row before. none_before p before;
}

-- another site with the same applied entries before it
pub fields_same : (fs : List ObjectValue) (rules : List RelocRule) (stop next : Site) (ds : List Field) →
    ((p : Site) → Before p stop → Before p next) →
    ((p : Site) → IsApplied fs p → Before p next → Before p stop) → AreFieldsBefore fs rules stop ds → AreFieldsBefore fs rules next ds
fields_same fs rules stop next ds into back is = record {
  each = is.each;
  before = λ k lt. into (field_at ds k).site (is.before k lt);
  all = λ p r has before. is.all p r has (back p has.applied before);
  order = is.order;
  ruled = λ p row before. is.ruled p row (back p row.0 before);
}

module _ (fs : List ObjectValue) (rules : List RelocRule) (p : Site) (next : Site) (r : RelocRule) (ds : List Field)
    (into : (q : Site) → Before q p → Before q next) (split : (q : Site) → Before q next → Before q p ⊎ (q ≡ p))
    (first : IsFirstRelocationRule (entry_at fs p).kind rules r) (is : AreFieldsBefore fs rules p ds) where
  rule_at : (q : Site) (s : RelocRule) → q ≡ p → HasField fs rules q s → r ≡ s
  rule_at q s same has =
      one_rule (entry_at fs p).kind rules r s first (subst (λ (u : Site). IsFirstRelocationRule (entry_at fs u).kind rules s) same has.rule)

  rules_more : (q : Site) → no_rule fs rules q → Before q next → ⊥
  rules_more q row before = elim (split q before) [
    | inl earlier ↦ is.ruled q row earlier
    | inr same ↦ ruled (entry_at fs p).kind rules r first (subst (λ (u : Site). HasNoRelocationRule (entry_at fs u).kind rules) same row.1)
  ]

  -- an entry without a field
  pub fields_past : r.form ≡ NoForm → AreFieldsBefore fs rules next ds
  fields_past none = record {
    each = is.each;
    before = λ k lt. into (field_at ds k).site (is.before k lt);
    all = λ q s has before. elim (split q before) [
      | inl earlier ↦ is.all q s has earlier
      | inr same ↦ absurd (has.form (ap (λ (u : RelocRule). u.form) (sym (rule_at q s same has)) ∙ none))
    ];
    order = is.order;
    ruled = rules_more;
  }

  -- one more field
  pub fields_more : (new : Field) → new.site ≡ p → HasField fs rules new.site new.rule → Before p next →
      AreFieldsBefore fs rules next (ds ++ new ∷ [])
  fields_more new at has here =
      let here_new = subst (λ (u : Site). Before u next) (sym at) here in
      record {
        each = pushed (λ d. HasField fs rules d.site d.rule) ds new is.each has;
        before = pushed (λ d. Before d.site next) ds new (λ k lt. into (field_at ds k).site (is.before k lt)) here_new;
        all = λ q s its before. (
            let long = longer ds new in
            elim (split q before) [
              | inl earlier ↦
                  (let (k, lt, there) = is.all q s its earlier in (k, omega arith, ap (λ (d : Field). d.site) (kept ds new k lt) ∙ there))
              | inr same ↦ (length ds, omega arith, ap (λ (d : Field). d.site) (last ds new (length ds) refl) ∙ (at ∙ sym same))
            ]);
        order = λ j k lt within. (
            let long = longer ds new in
            let j_below : j < length ds = omega arith in
            subst (λ (d : Field). Before d.site (field_at (ds ++ new ∷ []) k).site) (sym (kept ds new j j_below))
            (elim (cases_lt k (length ds)) [
              | inl below ↦ subst (λ (d : Field). Before (field_at ds j).site d.site) (sym (kept ds new k below)) (is.order j k lt below)
              | inr above ↦ (
                  let end : length ds ≡ k = omega arith in
                  subst (λ (d : Field). Before (field_at ds j).site d.site) (sym (last ds new k end))
                  (subst (λ (u : Site). Before (field_at ds j).site u) (sym at) (is.before j j_below)))
            ]));
        ruled = rules_more;
      }

-- rule 12 is broken at an entry after those that have relocation rules
pub first_unruled : (fs : List ObjectValue) (rules : List RelocRule) (p : Site) (ds : List Field) → IsApplied fs p →
    HasNoRelocationRule (entry_at fs p).kind rules →
    AreFieldsBefore fs rules p ds → IsFirstAt (no_rule fs rules) p
first_unruled fs rules p ds applied none is = record {
  stands = (applied, none);
  first = is.ruled;
}

-- all files are before the site after the last one
all_before : (fs : List ObjectValue) (p : Site) → p.file < length fs → Before p (entry_site (length fs) 0 0)
all_before fs p lt = inl lt

pub fields_all : (fs : List ObjectValue) (rules : List RelocRule) (ds : List Field) →
    AreFieldsBefore fs rules (entry_site (length fs) 0 0) ds → AreFields fs rules ds
fields_all fs rules ds is = record {
  each = is.each;
  all = λ p r has. is.all p r has (all_before fs p has.applied.0.file);
  order = is.order;
}

pub none_unruled : (fs : List ObjectValue) (rules : List RelocRule) (ds : List Field) →
    AreFieldsBefore fs rules (entry_site (length fs) 0 0) ds →
    Never (no_rule fs rules)
none_unruled fs rules ds is p row = is.ruled p row (all_before fs p row.0.0.file)

-- A section with no entries, or whose entries are not applied, adds no field: no applied entry is in it. So the fields before the section
-- are those before the next one, as are those before the end of any section.

no_entries : (b : Body) → ((x : Bool) → (x' : ℕ) → (x'' : List Relocation) → b ≡ Relocs x x' x'' → ⊥) → entries_of (body_value b) ≡ []
no_entries (Bits type content) never = refl
no_entries (NoBits size) never = refl
no_entries (Relocs rela target entries) never = absurd (never rela target entries refl)
no_entries (Group comdat signature members) never = refl

entry_in : (fs : List ObjectValue) (f s : ℕ) (p : Site) → IsApplied fs p → p.file ≡ f → p.index ≡ s →
    p.entry < length (entries_of (section_in fs f s).body)
entry_in fs f s p applied file index =
    subst (λ (n : ℕ). p.entry < length (entries_of (section_in fs f n).body)) index
    (subst (λ (n : ℕ). p.entry < length (entries_of (section_in fs n p.index).body)) file applied.0.entry)

applied_in : (fs : List ObjectValue) (f s : ℕ) (p : Site) → IsApplied fs p → p.file ≡ f → p.index ≡ s → AreApplied fs f s
applied_in fs f s p applied file index =
    subst (λ (n : ℕ). AreApplied fs f n) index (subst (λ (n : ℕ). AreApplied fs n p.index) file applied.1)

module _ (fs : List ObjectValue) (rules : List RelocRule) (f s : ℕ) (ds : List Field) where
  skipped : ((p : Site) → IsApplied fs p → p.file ≡ f → p.index ≡ s → ⊥) → AreFieldsBefore fs rules (entry_site f s 0) ds →
      AreFieldsBefore fs rules (entry_site f (s + 1) 0) ds
  skipped none is =
      fields_same fs rules (entry_site f s 0) (entry_site f (s + 1) 0) ds (λ p. next_section p f s 0)
      (λ p applied before. in_section p f s 0 (λ file index. absurd (none p applied file index)) before) is

  -- a section of another body
  pub no_relocations : (b : Body) → body_value b ≡ (section_in fs f s).body →
      ((x : Bool) → (x' : ℕ) → (x'' : List Relocation) → b ≡ Relocs x x' x'' → ⊥) →
      AreFieldsBefore fs rules (entry_site f s 0) ds → AreFieldsBefore fs rules (entry_site f (s + 1) 0) ds
  no_relocations b same never is =
      let none : entries_of (section_in fs f s).body ≡ [] = rw (← same) (no_entries b never) in
      skipped (λ p applied file index. (
      let lt : p.entry < length (entries_of (section_in fs f s).body) = entry_in fs f s p applied file index in
      let count : length (entries_of (section_in fs f s).body) ≡ 0 = ap (λ (es : List Relocation). length es) none in
      omega arith)) is

  -- one whose entries are not applied
  pub not_applied : (AreApplied fs f s → ⊥) → AreFieldsBefore fs rules (entry_site f s 0) ds →
      AreFieldsBefore fs rules (entry_site f (s + 1) 0) ds
  not_applied never is = skipped (λ p applied file index. never (applied_in fs f s p applied file index)) is

  -- after the last entry of one
  pub section_done : (n : ℕ) → length (entries_of (section_in fs f s).body) ≡ n → AreFieldsBefore fs rules (entry_site f s n) ds →
      AreFieldsBefore fs rules (entry_site f (s + 1) 0) ds
  section_done n count is =
      fields_same fs rules (entry_site f s n) (entry_site f (s + 1) 0) ds (λ p. next_section p f s n)
      (λ p applied before. in_section p f s n
      (λ file index. subst (λ (m : ℕ). p.entry < m) count (entry_in fs f s p applied file index)) before) is

-- The first field that breaks a rule, kept up as fields are added. It changes only if nothing was found before and the new field breaks
-- the rule, so at the end it is the first of the list.

first_more : (P : Site → RelocRule → Type 0) (ds : List Field) (new : Field) (before : Option Site) (broken : Bool) →
    IsFirstOf P ds before → (broken ≡ true) ↔ P new.site new.rule → IsFirstOf P (ds ++ new ∷ []) (first_of before broken new.site)
first_more P ds new (Some p) broken (k, (lt, holds, first), at) is =
    let long = longer ds new in (
      k,
      (
        omega arith,
        subst (λ (d : Field). P d.site d.rule) (sym (kept ds new k lt)) holds,
        (λ j below there. first j below (subst (λ (d : Field). P d.site d.rule) (kept ds new j (omega arith)) there)),
      ),
      ap (λ (d : Field). d.site) (kept ds new k lt) ∙ at,
    )
first_more P ds new None true none is =
    let long = longer ds new in (
      length ds,
      (
        omega arith,
        subst (λ (d : Field). P d.site d.rule) (sym (last ds new (length ds) refl)) (is.0 refl),
        (λ j below there. none j below (subst (λ (d : Field). P d.site d.rule) (kept ds new j below) there)),
      ),
      ap (λ (d : Field). d.site) (last ds new (length ds) refl),
    )
first_more P ds new None false none is = λ k lt there.
    let long = longer ds new in
    elim (cases_lt k (length ds)) [
      | inl below ↦ none k below (subst (λ (d : Field). P d.site d.rule) (kept ds new k below) there)
      | inr above ↦ (
          let end : length ds ≡ k = omega arith in
          let never : false ≡ true = is.1 (subst (λ (d : Field). P d.site d.rule) (last ds new k end) there) in
          absurd (cc))
    ]

first_now : (P : Site → RelocRule → Type 0) (ds : List Field) (new : Field) (before after : Option Site) (broken : Bool) →
    after ≡ first_of before broken new.site → IsFirstOf P ds before → (broken ≡ true) ↔ P new.site new.rule →
    IsFirstOf P (ds ++ new ∷ []) after
first_now P ds new before after broken next first is = rw next (first_more P ds new before broken first is)

-- Fields that ascend, and the last of them.

last_more : (ds : List Field) (new : Field) (now : Option Field) → now ≡ Some new → IsLast (ds ++ new ∷ []) now
last_more ds new now is = rw is (length ds, longer ds new, last ds new (length ds) refl)

follows : (ds : List Field) (new : Field) (before : Option Field) (k : ℕ) → IsLast ds before → IfSome before (λ d. StandsAfter d new) →
    length ds ≡ k + 1 →
    StandsAfter (field_at ds k) new
follows ds new None k none later long = absurd (omega (arith, none))
follows ds new (Some d) k (j, count, at) later long =
    let same : j ≡ k = omega arith in
    subst (λ (i : ℕ). StandsAfter (field_at ds i) new) same (subst (λ (e : Field). StandsAfter e new) (sym at) later)

ascending_more : (ds : List Field) (new : Field) (before : Option Field) → AreAscending ds → IsLast ds before →
    IfSome before (λ d. StandsAfter d new) →
    AreAscending (ds ++ new ∷ [])
ascending_more ds new before are is_last later k lt =
    let long = longer ds new in
    let k_in : k < length ds = omega arith in
    subst (λ (d : Field). StandsAfter d (field_at (ds ++ new ∷ []) (k + 1))) (sym (kept ds new k k_in))
    (elim (cases_lt (k + 1) (length ds)) [
      | inl below ↦ subst (λ (d : Field). StandsAfter (field_at ds k) d) (sym (kept ds new (k + 1) below)) (are k below)
      | inr above ↦ (
          let end : length ds ≡ k + 1 = omega arith in
          subst (λ (d : Field). StandsAfter (field_at ds k) d) (sym (last ds new (k + 1) end))
          (follows ds new before k is_last later end))
    ])

-- and where they ascend, so do all but the last, which is after the one before it
ascending_before : (ds : List Field) (new : Field) → AreAscending (ds ++ new ∷ []) → AreAscending ds
ascending_before ds new are k lt =
    let long = longer ds new in
    let k_in : k < length ds = omega arith in
    subst (λ (d : Field). StandsAfter d (field_at ds (k + 1))) (kept ds new k k_in)
    (subst (λ (d : Field). StandsAfter (field_at (ds ++ new ∷ []) k) d) (kept ds new (k + 1) lt) (are k (omega arith)))

ascending_last : (ds : List Field) (new : Field) (before : Option Field) → IsLast ds before → AreAscending (ds ++ new ∷ []) →
    IfSome before (λ d. StandsAfter d new)
ascending_last ds new None none are = tt
ascending_last ds new (Some d) (k, count, at) are =
    let long = longer ds new in
    let k_in : k < length ds = omega arith in
    let later = are k (omega arith) in
    subst (λ (e : Field). StandsAfter e new) at
    (subst (λ (e : Field). StandsAfter e new) (kept ds new k k_in)
    (subst (λ (e : Field). StandsAfter (field_at (ds ++ new ∷ []) k) e) (last ds new (k + 1) count) later))

-- What is seen of the fields: of none, and of one more.

pub seen_none : (fs : List ObjectValue) (m : LinkMapValue) → IsSeenOf fs m [] none_seen
seen_none fs m = record {
  unplaced = λ k lt. absurd (omega arith);
  out_of_range = λ k lt. absurd (omega arith);
  refused = λ k lt. absurd (omega arith);
  last = refl;
  ascending = ((λ _ k lt. absurd (omega arith)), (λ _. refl));
}

pub seen_more : (fs : List ObjectValue) (m : LinkMapValue) (rules : List RelocRule) (p : Site) (ds : List Field) (seen : Seen)
    (j : Validated) (next : Seen) →
    IsValidatedField fs m rules p j → IsSeenOf fs m ds seen → IsSeenNext seen j next → IsSeenOf fs m (ds ++ j.field ∷ []) next
seen_more fs m rules p ds seen j next is old step = record {
  unplaced = first_now
      (BreaksFieldTest fs m Unplaced) ds j.field seen.unplaced next.unplaced j.unplaced step.unplaced old.unplaced is.unplaced;
  out_of_range =
      first_now (BreaksFieldTest fs m FieldOutOfRange) ds j.field seen.out_of_range next.out_of_range j.out_of_range step.out_of_range
      old.out_of_range is.out_of_range;
  refused = first_now
      (BreaksFieldTest fs m ValueOutOfRange) ds j.field seen.refused next.refused j.refused step.refused old.refused is.refused;
  last = last_more ds j.field next.last step.last;
  ascending = (
    (λ yes. (let (before, later) = step.ascending.0 yes in ascending_more ds j.field seen.last (old.ascending.0 before) old.last later)),
    (λ are. step.ascending.1 (old.ascending.1 (ascending_before ds j.field are), ascending_last ds j.field seen.last old.last are)),
  );
}

-- another site with the same fields before it
pub found_on : (fs : List ObjectValue) (m : LinkMapValue) (rules : List RelocRule) (listing : Bool) (stop next : Site) (found : Found) →
    ((ds : List Field) → AreFieldsBefore fs rules stop ds → AreFieldsBefore fs rules next ds) →
    AreFoundBefore fs m rules listing stop found →
    AreFoundBefore fs m rules listing next found
found_on fs m rules listing stop next found on (ds, before, is) = (ds, on ds before, is)

-- one field more
pub fields_next : (fs : List ObjectValue) (m : LinkMapValue) (rules : List RelocRule) (p : Site) (ds : List Field) (j : Validated) →
    IsValidatedField fs m rules p j →
    AreFieldsBefore fs rules p ds → AreFieldsBefore fs rules (entry_site p.file p.index (p.entry + 1)) (ds ++ j.field ∷ [])
fields_next fs m rules p ds j is before =
    let rule = subst (λ (q : Site). IsFirstRelocationRule (entry_at fs q).kind rules j.field.rule) is.site is.has.rule in
    fields_more fs rules p (entry_site p.file p.index (p.entry + 1)) j.field.rule ds (λ q. before_more q p.file p.index p.entry)
    (λ q. before_next q p.file p.index p.entry) rule before j.field is.site is.has (itself_next p.file p.index p.entry)

-- The rows of rules 13 to 16 by the list of all fields. The list has each applied entry with a field once, in order; so a rule is broken
-- at an entry exactly if it is at a field of the list, and the first one there is the first site.

module _ (fs : List ObjectValue) (rules : List RelocRule) (ds : List Field) (are : AreFields fs rules ds) where
  -- the position of a field in the list
  pub position : (p : Site) (r : RelocRule) → HasField fs rules p r →
      (k : ℕ) × (k < length ds) × ((field_at ds k).site ≡ p) × ((field_at ds k).rule ≡ r)
  position p r has =
      let (k, lt, at) = are.all p r has in
      let mine = subst (λ (q : Site). IsFirstRelocationRule (entry_at fs q).kind rules (field_at ds k).rule) at (are.each k lt).rule in
      (k, lt, at, one_rule (entry_at fs p).kind rules (field_at ds k).rule r mine has.rule)

  moved : (P : Site → RelocRule → Type 0) (p q : Site) (r s : RelocRule) → p ≡ q → r ≡ s → P q s → P p r
  moved P p q r s site rule holds = subst (λ (u : Site). P u r) (sym site) (subst (λ (u : RelocRule). P q u) (sym rule) holds)

  pub none_at_field : (P : Site → RelocRule → Type 0) → HasNone P ds → Never (AtField fs rules P)
  none_at_field P none p (r, has, holds) =
      let (k, lt, at, same) = position p r has in
      none k lt (moved P (field_at ds k).site p (field_at ds k).rule r at same holds)

  -- of two fields the one with the lower position is before the other
  pub below_of : (j k : ℕ) → j < length ds → k < length ds → Before (field_at ds j).site (field_at ds k).site → j < k
  below_of j k j_in k_in before = elim (cases_lt j k) [
    | inl below ↦ below
    | inr from ↦ elim (cases_lt k j) [
      | inl above ↦ absurd (never_both (field_at ds j).site (field_at ds k).site before (are.order k j above j_in))
      | inr to ↦ (
          let same : k ≡ j = omega arith in
          absurd (never_itself (field_at ds j).site (subst (λ (i : ℕ). Before (field_at ds j).site (field_at ds i).site) same before)))
    ]
  ]

  pub first_at_field : (P : Site → RelocRule → Type 0) (k : ℕ) → IsFirst P ds k → IsFirstAt (AtField fs rules P) (field_at ds k).site
  first_at_field P k (lt, holds, first) = record {
    stands = ((field_at ds k).rule, are.each k lt, holds);
    first = λ q (r, has, there) before. (
        let (j, j_in, at, same) = position q r has in
        let below = below_of j k j_in lt (subst (λ (u : Site). Before u (field_at ds k).site) (sym at) before) in
        first j below (moved P (field_at ds j).site q (field_at ds j).rule r at same there));
  }

  -- the first field of the list that breaks a rule stands at the first site of the row
  pub first_site : (P : Site → RelocRule → Type 0) (first : Option Site) → IsFirstOf P ds first → IsFirstSite (AtField fs rules P) first
  first_site P None none = none_at_field P none
  first_site P (Some p) (k, is, at) = subst (λ (q : Site). IsFirstAt (AtField fs rules P) q) at (first_at_field P k is)

  -- none of a row is none of the list
  pub none_in_list : (P : Site → RelocRule → Type 0) → Never (AtField fs rules P) → HasNone P ds
  none_in_list P never k lt holds = never (field_at ds k).site ((field_at ds k).rule, are.each k lt, holds)

  -- ---- rule 15

  pub shares_earlier : (k : ℕ) → k < length ds → SharesBefore fs ds k → SharesEarlier fs rules (field_at ds k).site (field_at ds k).rule
  shares_earlier k lt (j, below, share) =
      ((field_at ds j).site, (field_at ds j).rule, are.order j k below lt, are.each j (omega arith), share)

  pub shares_before : (k : ℕ) → k < length ds → SharesEarlier fs rules (field_at ds k).site (field_at ds k).rule → SharesBefore fs ds k
  shares_before k lt (q, s, before, has, share) =
      let (j, j_in, at, same) = position q s has in
      let below = below_of j k j_in lt (subst (λ (u : Site). Before u (field_at ds k).site) (sym at) before) in (
        j,
        below,
        moved (λ u v. Share fs u v (field_at ds k).site (field_at ds k).rule) (field_at ds j).site q (field_at ds j).rule s at
            same share,
      )

  pub none_shared : Never (fields_overlap fs rules) → HasNoOverlap fs ds
  none_shared never k lt shares = none_in_list (SharesEarlier fs rules) never k lt (shares_earlier k lt shares)

  pub no_overlap : HasNoOverlap fs ds → HasNone (SharesEarlier fs rules) ds
  no_overlap none k lt shares = none k lt (shares_before k lt shares)

  pub first_overlap : (k : ℕ) → IsFirstOverlappingField fs ds k → IsFirst (SharesEarlier fs rules) ds k
  first_overlap k (lt, shares, first) =
      (lt, shares_earlier k lt shares, (λ j below there. first j below (shares_before j (omega arith) there)))

-- ---- rule 14

within_or : (a b : ℕ) → ((a ≤ b → ⊥) → ⊥) → a ≤ b
within_or a b never = elim (cases_lt b a) [
  | inl above ↦ absurd (never (λ le. omega arith))
  | inr below ↦ below
]

pub within_unless : (broken : Bool) (a b : ℕ) → (broken ≡ true) ↔ (a ≤ b → ⊥) → broken ≡ false → a ≤ b
within_unless broken a b is unbroken = within_or a b (λ out. (let never : true ≡ false = sym (is.1 out) ∙ unbroken in absurd (cc)))

pub all_within : (fs : List ObjectValue) (ds : List Field) → HasNone (IsFieldOutOfRange fs) ds → AllWithin fs ds
all_within fs ds none k lt = within_or _ _ (none k lt)
