-- Copies with one more number in its field. Patching changes the bytes of that field alone, and fields share no byte; so after k fields
-- the copies have the numbers of the first k, and all else as it was.
use Rattle.std.proofs.Common.{◌≡◌, ℕ, ◌<◌, Bool, true, List, length, arith, ◌≢◌, map, ◌+◌, ◌≤◌, ◌⊎◌, ℤ, [], ◌∷◌, zero, suc, inl, inr, refl}
use Rattle.std.proofs.Common.{sym, ◌∙◌, ap, subst, ◌++◌, false}
use Rattle.std.specs.Prelude.{IfSome, None, Option, Some, get_or, option_map, slice_index}
use Rattle.std.specs.Global.{Vec}
use Rattle.std.proofs.lemmas.Bool.{cases_eq, cases_lt}
use Rattle.elf_field.specs.Abi.{STB_LOCAL}
use Rattle.elf_link_field.specs.Field.{relocation_number, IsPatched, size_of}
use Rattle.elf_link_field.specs.declared.rule.RelocRule.{RelocRule}
use Rattle.elf_link_files.proofs.Public.{table_read}
use Rattle.elf_link_files.specs.Files.{object_at, symbol_in}
use Rattle.elf_link_files.specs.declared.site.Site.{Site}
use Rattle.elf_link_map.specs.LinkMap.{LinkMapValue}
use Rattle.elf_link_map.specs.Naming.{AreBindingIndexes, IsBindingIndex, IsBindingAt}
use Rattle.elf_link_relocate.proofs.Collected.{kept, last, longer, pushed, fields_none, fields_next, seen_none, seen_more, first_site}
use Rattle.elf_link_relocate.proofs.Collected.{none_at_field, none_in_list, none_shared, no_overlap, all_within}
use Rattle.elf_link_relocate.proofs.Grids.{grid_with, item_here, item_other}
use Rattle.elf_link_relocate.proofs.Sharing.{ascending_apart}
use Rattle.elf_link_relocate.specs.Fields.{IsEntrySite, entries_of, entry_at, target_at, target_of, HasField, HasOffset, IsWithin}
use Rattle.elf_link_relocate.specs.Fields.{field_start, addend_of, field_address, number_at, value_at, Share, IsUnplaced, IsFieldOutOfRange}
use Rattle.elf_link_relocate.specs.Fields.{IsValueOutOfRange, SharesEarlier}
use Rattle.elf_link_relocate.specs.Linked.{IsSectionOf, HasLiveBits, IsGrid, item, with, number_byte}
use Rattle.elf_link_relocate.specs.Passes.{AreListed, IsListed, field_at, AreKept, IsRead, IsCovered, IsFieldIn, AreAllCopies, AreRelocated}
use Rattle.elf_link_relocate.specs.Passes.{IsCopy, IsRelocated, HaveCopies, IsFieldPatched, IsPatchedOrBroken, AreFoundBefore, AreAllFound}
use Rattle.elf_link_relocate.specs.Passes.{AreFoundInOrder, IsValidatedField, IsSeenNext, copies_view, entry_site, none_seen}
use Rattle.elf_link_relocate.specs.Views.{IsFileSymbol}
use Rattle.elf_link_relocate.specs.declared.field.Field.{Field}
use Rattle.elf_link_relocate.specs.declared.field.Found.{Found}
use Rattle.elf_link_relocate.specs.declared.field.Validated.{Validated}
use Rattle.elf_object_type.proofs.Public.{references_there, relocations_there}
use Rattle.elf_object_type.specs.Object.{BodyValue, bits, no_bits, relocs, group, ObjectValue, no_relocation, section_at, is_bits, binding}
use Rattle.elf_object_type.specs.ObjectRules.{HasReferences, IsObject}
use Rattle.elf_object_type.specs.declared.relocations.Relocation.{Relocation}

-- What the rules of objects say of relocation sections: the target is a section with bits, and the symbol of an entry is there. So the
-- target of an entry, and its symbol if it names one, are those of its own file.

-- the target of a relocation section is a section of the object
pub target_there : (o : ObjectValue) (s : ℕ) (rela : Bool) (target : ℕ) (es : List Relocation) → IsObject o → s < length o.sections →
    (section_at o s).body ≡ relocs rela target es → target < length o.sections
target_there o s rela target es is there body = (relocations_there o s rela target es is there body).target_there

-- it has bits
target_of_body : (o : ObjectValue) (b : BodyValue) (e : ℕ) → HasReferences o b → e < length (entries_of b) →
    (target_of b < length o.sections) × (is_bits (section_at o (target_of b)).body ≡ true)
target_of_body o (bits type content) e has lt = absurd (omega arith)
target_of_body o (no_bits size) e has lt = absurd (omega arith)
target_of_body o (relocs rela target es) e has lt = (has.target_there, has.target_bits)
target_of_body o (group comdat signature members) e has lt = absurd (omega arith)

pub target_has_bits : (o : ObjectValue) (s e : ℕ) → IsObject o → s < length o.sections → e < length (entries_of (section_at o s).body) →
    (target_of (section_at o s).body < length o.sections) × (is_bits (section_at o (target_of (section_at o s).body)).body ≡ true)
target_has_bits o s e is there lt = target_of_body o (section_at o s).body e (references_there o s is there) lt

symbol_of_body : (o : ObjectValue) (b : BodyValue) (e : ℕ) → HasReferences o b → e < length (entries_of b) →
    IfSome (get_or (entries_of b) e no_relocation).symbol (λ i. i < length o.symbols)
symbol_of_body o (bits type content) e has lt = absurd (omega arith)
symbol_of_body o (no_bits size) e has lt = absurd (omega arith)
symbol_of_body o (relocs rela target es) e has lt = has.symbols_there e lt
symbol_of_body o (group comdat signature members) e has lt = absurd (omega arith)

-- the symbol of an entry is one of the object
symbol_there : (o : ObjectValue) (s e : ℕ) → IsObject o → s < length o.sections → e < length (entries_of (section_at o s).body) →
    IfSome (get_or (entries_of (section_at o s).body) e no_relocation).symbol (λ i. i < length o.symbols)
symbol_there o s e is there lt = symbol_of_body o (section_at o s).body e (references_there o s is there) lt

with_file : (fs : List ObjectValue) (f : ℕ) (symbol : Option ℕ) → f < length fs → IfSome symbol (λ i. i < length (object_at fs f).symbols) →
    IfSome symbol (IsFileSymbol fs f)
with_file fs f None file there = tt
with_file fs f (Some i) file there = (file, there)

pub symbol_in_file : (fs : List ObjectValue) (p : Site) → IsEntrySite fs p → IsObject (object_at fs p.file) →
    IfSome (entry_at fs p).symbol (IsFileSymbol fs p.file)
symbol_in_file fs p there is =
    with_file fs p.file (entry_at fs p).symbol there.file (symbol_there (object_at fs p.file) p.index p.entry is there.section there.entry)

-- the target of an applied entry is a section of its file
pub target_section : (fs : List ObjectValue) (p : Site) → IsEntrySite fs p → IsObject (object_at fs p.file) →
    IsSectionOf fs p.file (target_at fs p)
target_section fs p there is = (there.file, (target_has_bits (object_at fs p.file) p.index p.entry is there.section there.entry).0)

-- The number of a symbol's name is read.

pub index_stands : (fs : List ObjectValue) (m : LinkMapValue) (rows : List (Vec ℕ)) (row : Vec ℕ) (f i k : ℕ) → f < length fs →
    i < length (object_at fs f).symbols → binding (symbol_in fs f i) ≢ STB_LOCAL → row ≡ get_or rows f row → k ≡ get_or row.items i k →
    AreBindingIndexes fs m (map (λ (r : Vec ℕ). r.items) rows) → IsBindingAt m.bindings (symbol_in fs f i).name k
unfolding AreBindingIndexes
index_stands fs m rows row f i k f_in i_in not_local row_is k_is are =
    table_read 0 (IsBindingIndex fs m) (λ g. length (object_at fs g).symbols) (length fs) rows row f i k f_in i_in row_is k_is are not_local

-- ---- at first

copied : (fs : List ObjectValue) (m : LinkMapValue) (ds : List Field) (f s : ℕ) (copy : Option (List ℕ)) → IsCopy fs f s copy →
    HasLiveBits fs f s →
    (after : List ℕ) × (copy ≡ Some after) × IsRelocated fs m ds 0 f s after
copied fs m ds f s None never live = absurd (never live)
copied fs m ds f s (Some bytes) (live, same) there = (
  bytes,
  refl,
  record {
    long = ap (λ (b : List ℕ). length b) same;
    inside = λ j lt at z number k below. absurd (omega arith);
    outside = λ x none. ap (λ (b : List ℕ). slice_index b x) same;
  },
)

past_rows : (xs : List (List (Option (List ℕ)))) (n : ℕ) → length xs ≤ n → get_or xs n [] ≡ []
past_rows [] n le = refl
past_rows (x ∷ xs) zero le = absurd (omega arith)
past_rows (x ∷ xs) (suc n) le = past_rows xs n (omega arith)

past_items : (xs : List (Option (List ℕ))) (n : ℕ) → length xs ≤ n → get_or xs n None ≡ None
past_items [] n le = refl
past_items (x ∷ xs) zero le = absurd (omega arith)
past_items (x ∷ xs) (suc n) le = past_items xs n (omega arith)

-- a section that is there, or none
item_or : (fs : List ObjectValue) (rows : List (List (Option (List ℕ)))) (f s : ℕ) → IsGrid fs rows →
    IsSectionOf fs f s ⊎ (item None rows f s ≡ None)
item_or fs rows f s grid = elim (cases_lt f (length fs)) [
  | inr above ↦
      inr (ap (λ (row : List (Option (List ℕ))). get_or row s None) (past_rows rows f (let files = grid.files in omega arith)) ∙ refl)
  | inl f_in ↦ elim (cases_lt s (length (object_at fs f).sections)) [
    | inl s_in ↦ inl (f_in, s_in)
    | inr above ↦ inr (past_items (get_or rows f []) s (let sections = grid.sections f f_in in omega arith))
  ]
]

live_copy : (fs : List ObjectValue) (f s : ℕ) (copy : Option (List ℕ)) (after : List ℕ) → IsCopy fs f s copy → copy ≡ Some after →
    HasLiveBits fs f s
live_copy fs f s None after never same = absurd (cc)
live_copy fs f s (Some bytes) after (live, is) same = live

pub relocated_none : (fs : List ObjectValue) (m : LinkMapValue) (ds : List Field) (rows : List (List (Option (List ℕ)))) →
    AreAllCopies fs (length fs) rows →
    AreRelocated fs m ds 0 rows
relocated_none fs m ds rows are =
    let grid : IsGrid fs rows = record { files = are.count; sections = λ f lt. (are.each f lt).count } in
    record {
      grid = grid;
      each = λ f s live. copied fs m ds f s (item None rows f s) ((are.each f live.0.0).each s live.0.1) live;
      others = λ f s after at. elim (item_or fs rows f s grid) [
        | inl there ↦ live_copy fs f s (item None rows f s) after ((are.each f there.0).each s there.1) at
        | inr none ↦ absurd (let never : ◌≡◌ {A = Option (List ℕ)} None (Some after) = sym none ∙ at in cc)
      ];
    }

-- ---- one field more

pub same_bytes : (a b : List ℕ) → Some a ≡ Some b → a ≡ b
same_bytes a b e = cc

same_number : (a b : ℤ) → Some a ≡ Some b → a ≡ b
same_number a b e = cc

-- the number that a field carries is its number
number_in : (g : ℕ → ℤ) (v : Option ℕ) (n : ℤ) → (v ≡ None → ⊥) → ((z : ℤ) → option_map g v ≡ Some z → z ≡ n) → option_map g v ≡ Some n
number_in g None n never is = absurd (never refl)
number_in g (Some x) n never is = ap (λ (z : ℤ). Some z) (is (g x) refl)

pub number_there : (fs : List ObjectValue) (m : LinkMapValue) (d : Field) → (value_at fs m d.site ≡ None → ⊥) → IsWithin fs d.site d.rule →
    IsRead fs m d → number_at fs m d.site d.rule ≡ Some d.number
number_there fs m d placed within read =
    number_in (λ (value : ℕ). relocation_number d.rule.form value (addend_of fs d.site d.rule) (field_address fs m d.site))
    (value_at fs m d.site) d.number placed
    (read.number within)

-- the target of a field is live and has bits
pub target_live : (fs : List ObjectValue) (rules : List RelocRule) (p : Site) (r : RelocRule) → HasField fs rules p r →
    IsObject (object_at fs p.file) →
    HasLiveBits fs p.file (target_at fs p)
target_live fs rules p r has is =
    let there = has.applied.0 in
    (target_section fs p there is, has.applied.1.1, (target_has_bits (object_at fs p.file) p.index p.entry is there.section there.entry).1)

module _ (fs : List ObjectValue) (m : LinkMapValue) (ds : List Field) (n : ℕ) (z : ℤ) (are : AreKept fs m ds) (n_in : n < length ds)
    (number : number_at fs m (field_at ds n).site (field_at ds n).rule ≡ Some z) where
  abbrev d : Field
  d = field_at ds n

  abbrev f : ℕ
  f = d.site.file

  abbrev t : ℕ
  t = target_at fs d.site

  abbrev start : ℕ
  start = field_start fs d.site

  abbrev size : ℕ
  size = size_of d.rule.width

  -- a field before it in the same section is apart from it
  apart : (j : ℕ) → j < n → IsFieldIn fs (field_at ds j) f t → (x : ℕ) → HasOffset fs (field_at ds j).site (field_at ds j).rule x →
      (x < start) ⊎ (start + size ≤ x)
  apart j below at x has = elim (cases_lt x start) [
    | inl before ↦ inl before
    | inr from ↦ elim (cases_lt x (start + size)) [
      | inl inside ↦ absurd (are.apart n n_in (j, below, (at, (x, has, (from, inside)))))
      | inr past ↦ inr past
    ]
  ]

  out_of_field : (x : ℕ) → (IsCovered fs ds (n + 1) f t x → ⊥) → (x < start) ⊎ (start + size ≤ x)
  out_of_field x none = elim (cases_lt x start) [
    | inl before ↦ inl before
    | inr from ↦ elim (cases_lt x (start + size)) [
      | inl inside ↦ absurd (none (n, omega arith, (refl, refl), (from, inside)))
      | inr past ↦ inr past
    ]
  ]

  covered_more : (g s x : ℕ) → IsCovered fs ds n g s x → IsCovered fs ds (n + 1) g s x
  covered_more g s x (j, lt, at, has) = (j, omega arith, at, has)

  -- the section that the field is in
  pub relocated_here : (copy after : List ℕ) → IsPatched (object_at fs f).order copy start size z after → IsRelocated fs m ds n f t copy →
      IsRelocated fs m ds (n + 1) f t after
  relocated_here copy after put is = record {
    long = put.long ∙ is.long;
    inside = λ j lt at other its k below. elim (cases_lt j n) [
      | inl earlier ↦
          put.outside (field_start fs (field_at ds j).site + k)
          (apart j earlier at (field_start fs (field_at ds j).site + k) (omega arith, omega arith)) ∙
          is.inside j earlier at other its k below
      | inr later ↦ (
          let same : j ≡ n = omega arith in
          let mine = subst (λ (i : ℕ). number_at fs m (field_at ds i).site (field_at ds i).rule ≡ Some other) same its in
          let value : z ≡ other = same_number z other (sym number ∙ mine) in
          let short = subst (λ (i : ℕ). k < size_of (field_at ds i).rule.width) same below in
          subst (λ (i : ℕ). slice_index after (field_start fs (field_at ds i).site + k) ≡
          number_byte fs (field_at ds i).site (field_at ds i).rule other k) (sym same)
          (put.inside k short ∙ ap (λ (y : ℤ). number_byte fs d.site d.rule y k) value))
    ];
    outside = λ x none. put.outside x (out_of_field x none) ∙ is.outside x (λ covered. none (covered_more f t x covered));
  }

  -- another section
  away_from : (g s j : ℕ) → (g ≢ f) ⊎ (s ≢ t) → IsFieldIn fs (field_at ds j) g s → j < n + 1 → j < n
  away_from g s j other at lt = elim (cases_lt j n) [
    | inl below ↦ below
    | inr above ↦ (
        let same : j ≡ n = omega arith in
        let mine = subst (λ (i : ℕ). IsFieldIn fs (field_at ds i) g s) same at in
        elim other [ inl file ↦ absurd (file (sym mine.0)) | inr section ↦ absurd (section (sym mine.1)) ])
  ]

  relocated_there : (g s : ℕ) (after : List ℕ) → (g ≢ f) ⊎ (s ≢ t) → IsRelocated fs m ds n g s after → IsRelocated fs m ds (n + 1) g s after
  relocated_there g s after other is = record {
    long = is.long;
    inside = λ j lt at z its k below. is.inside j (away_from g s j other at lt) at z its k below;
    outside = λ x none. is.outside x (λ covered. none (covered_more g s x covered));
  }

  abbrev Cases : ℕ → ℕ → Type 0
  Cases g s = ((g ≡ f) × (s ≡ t)) ⊎ ((g ≢ f) ⊎ (s ≢ t))

  cases : (g s : ℕ) → Cases g s
  cases g s = elim (cases_eq g f) [
    | inr file ↦ inr (inl file)
    | inl file ↦ elim (cases_eq s t) [ inl section ↦ inl (file, section) | inr section ↦ inr (inr section) ]
  ]

  pub relocated_more : (rows : List (List (Option (List ℕ)))) (copy after : List ℕ) → HasLiveBits fs f t → item None rows f t ≡ Some copy →
      IsPatched (object_at fs f).order copy start size z after → AreRelocated fs m ds n rows →
      AreRelocated fs m ds (n + 1) (with rows f t (Some after))
  relocated_more rows copy after there at put is =
      let f_in : f < length rows = (let files = is.grid.files in let lt = there.0.0 in omega arith) in
      let t_in : t < length (get_or rows f []) = (let sections = is.grid.sections f there.0.0 in let lt = there.0.1 in omega arith) in
      let (old, at_old, relocated) = is.each f t there in
      let same : old ≡ copy = same_bytes old copy (sym at_old ∙ at) in
      let here = subst (λ (b : List ℕ). IsRelocated fs m ds n f t b) same relocated in
      record {
        grid = grid_with None rows f t (Some after) f_in fs is.grid;
        each = λ g s live. elim (cases g s) [
          | inl (file, section) ↦
              rw (file, section) (after, item_here None rows f t (Some after) f_in t_in, relocated_here copy after put here)
          | inr other ↦ (
              let (its, its_at, its_relocated) = is.each g s live in
              (its, item_other None rows f t (Some after) f_in g s other ∙ its_at, relocated_there g s its other its_relocated))
        ];
        others = λ g s its its_at. elim (cases g s) [
          | inl (file, section) ↦ rw (file, section) there
          | inr other ↦ is.others g s its (sym (item_other None rows f t (Some after) f_in g s other) ∙ its_at)
        ];
      }

-- Copies while fields are found: each is as long as its section's content, and if the fields so far keep rules 13 to 15, it holds their
-- numbers.

-- at first
pub copies_none : (fs : List ObjectValue) (m : LinkMapValue) (rows : List (List (Option (List ℕ)))) → AreAllCopies fs (length fs) rows →
    HaveCopies fs rows
copies_none fs m rows are =
    let is = relocated_none fs m [] rows are in
    record {
      grid = is.grid;
      each = λ f s live. (let (after, at, relocated) = is.each f s live in (after, at, relocated.long));
    }

-- a patched copy is as long
copies_patched : (fs : List ObjectValue) (d : Field) (rows new : List (List (Option (List ℕ)))) → HaveCopies fs rows →
    IsFieldPatched fs d rows new →
    HaveCopies fs new
copies_patched fs d rows new have is =
    let f = d.site.file in
    let t = target_at fs d.site in
    let f_in : f < length rows = (let files = have.grid.files in let lt = is.live.0.0 in omega arith) in
    let t_in : t < length (get_or rows f []) = (let sections = have.grid.sections f is.live.0.0 in let lt = is.live.0.1 in omega arith) in
    rw is.new_is (record {
      grid = grid_with None rows f t (Some is.after) f_in fs have.grid;
      each = λ g s live. (
          let (copy, at, long) = have.each g s live in
          elim (cases_eq g f) [
            | inr file ↦ (copy, item_other None rows f t (Some is.after) f_in g s (inl file) ∙ at, long)
            | inl file ↦ elim (cases_eq s t) [
              | inr section ↦ (copy, item_other None rows f t (Some is.after) f_in g s (inr section) ∙ at, long)
              | inl section ↦ (
                  let (old, old_at, old_long) = have.each f t is.live in
                  let same : is.copy ≡ old = same_bytes is.copy old (sym is.at ∙ old_at) in
                  rw (file, section) (
                    is.after,
                    item_here None rows f t (Some is.after) f_in t_in,
                    is.patched.long ∙ (ap (λ (b : List ℕ). length b) same ∙ old_long),
                  ))
            ]
          ]);
    })

-- the fields before one more one
module _ (fs : List ObjectValue) (m : LinkMapValue) (ds : List Field) (new : Field) where
  abbrev now : List Field
  now = ds ++ new ∷ []

  share_kept : (j k : ℕ) → j < length ds → k < length ds →
      Share fs (field_at ds j).site (field_at ds j).rule (field_at ds k).site (field_at ds k).rule →
      Share fs (field_at now j).site (field_at now j).rule (field_at now k).site (field_at now k).rule
  share_kept j k j_in k_in share =
      subst (λ (d : Field). Share fs d.site d.rule (field_at now k).site (field_at now k).rule) (sym (kept ds new j j_in))
      (subst (λ (d : Field). Share fs (field_at ds j).site (field_at ds j).rule d.site d.rule) (sym (kept ds new k k_in)) share)

  kept_before : AreKept fs m now → AreKept fs m ds
  kept_before are =
      let long = longer ds new in
      record {
        placed = λ k lt none. are.placed k (omega arith) (subst (λ (d : Field). value_at fs m d.site ≡ None) (sym (kept ds new k lt)) none);
        within = λ k lt. subst (λ (d : Field). IsWithin fs d.site d.rule) (kept ds new k lt) (are.within k (omega arith));
        apart = λ k lt (j, below, share). are.apart k (omega arith) (j, below, share_kept j k (omega arith) lt share);
      }

  relocated_before : (rows : List (List (Option (List ℕ)))) → AreRelocated fs m ds (length ds) rows → AreRelocated fs m now (length ds) rows
  relocated_before rows is = record {
    grid = is.grid;
    each = λ f s live. (
        let (after, at, relocated) = is.each f s live in (
          after,
          at,
          record {
            long = relocated.long;
            inside = λ j lt. subst
                (λ (d : Field). IsFieldIn fs d f s → (z : ℤ) → number_at fs m d.site d.rule ≡ Some z → (k : ℕ) → k < size_of d.rule.width →
                slice_index after (field_start fs d.site + k) ≡ number_byte fs d.site d.rule z k)
                (sym (kept ds new j lt)) (relocated.inside j lt);
            outside = λ x none. relocated.outside x (λ (j, lt, at, has). none (
              j,
              lt,
              subst (λ (d : Field). IsFieldIn fs d f s) (sym (kept ds new j lt)) at,
              subst (λ (d : Field). HasOffset fs d.site d.rule x) (sym (kept ds new j lt)) has,
            ));
          },
        ));
    others = is.others;
  }

  -- the last one is patched
  relocated_now : (old rows : List (List (Option (List ℕ)))) → AreKept fs m now → IsRead fs m new → IsFieldPatched fs new old rows →
      AreRelocated fs m ds (length ds) old → AreRelocated fs m now (length now) rows
  relocated_now old rows are read put is =
      let n = length ds in
      let long = longer ds new in
      let n_in : n < length now = omega arith in
      let at = last ds new n refl in
      let number = subst (λ (d : Field). number_at fs m d.site d.rule ≡ Some new.number) (sym at)
      (number_there fs m new (subst (λ (d : Field). value_at fs m d.site ≡ None → ⊥) at (are.placed n n_in))
      (subst (λ (d : Field). IsWithin fs d.site d.rule) at (are.within n n_in)) read) in
      let patched =
      subst (λ (d : Field). IsPatched (object_at fs d.site.file).order put.copy (field_start fs d.site)
      (size_of d.rule.width) new.number put.after)
      (sym at) put.patched in
      let live = subst (λ (d : Field). HasLiveBits fs d.site.file (target_at fs d.site)) (sym at) put.live in
      let there = subst (λ (d : Field). item None old d.site.file (target_at fs d.site) ≡ Some put.copy) (sym at) put.at in
      let more = relocated_more fs m now n new.number are n_in number old put.copy put.after live there patched (relocated_before old is) in
      rw (put.new_is, long)
      (subst (λ (d : Field). AreRelocated fs m now (n + 1) (with old d.site.file (target_at fs d.site) (Some put.after))) at more)

-- What is found before the first field, and with one more.

none_listed : (listing : Bool) (list : List Field) → list ≡ [] → AreListed listing [] list
none_listed true list none = none
none_listed false list none = none

listed_more : (listing : Bool) (ds old new : List Field) (d : Field) → AreListed listing ds old → IsListed listing old d new →
    AreListed listing (ds ++ d ∷ []) new
listed_more true ds old new d is more = more ∙ ap (λ (l : List Field). l ++ d ∷ []) is
listed_more false ds old new d is more = more ∙ is

pub found_none : (fs : List ObjectValue) (m : LinkMapValue) (rules : List RelocRule) (listing : Bool) (found : Found) →
    found.list.items ≡ [] →
    found.seen ≡ none_seen → AreAllCopies fs (length fs) (copies_view found.copies.items) →
    AreFoundBefore fs m rules listing (entry_site 0 0 0) found
found_none fs m rules listing found none seen are = (
  [],
  fields_none fs rules,
  record {
    read = λ k lt. absurd (omega arith);
    seen = rw seen (seen_none fs m);
    list = none_listed listing found.list.items none;
    copies = copies_none fs m (copies_view found.copies.items) are;
    relocated = λ _. relocated_none fs m [] (copies_view found.copies.items) are;
  },
)

pub found_more : (fs : List ObjectValue) (m : LinkMapValue) (rules : List RelocRule) (listing : Bool) (p : Site) (found : Found)
    (j : Validated) (next : Found) →
    IsValidatedField fs m rules p j → AreFoundBefore fs m rules listing p found → IsSeenNext found.seen j next.seen →
    IsListed listing found.list.items j.field next.list.items →
    IsPatchedOrBroken fs j (copies_view found.copies.items) (copies_view next.copies.items) →
    AreFoundBefore fs m rules listing (entry_site p.file p.index (p.entry + 1)) next
found_more fs m rules listing p found j next is (ds, before, old) seen listed (inl put) = (
  ds ++ j.field ∷ [],
  fields_next fs m rules p ds j is before,
  record {
    read = pushed (IsRead fs m) ds j.field old.read is.read;
    seen = seen_more fs m rules p ds found.seen j next.seen is old.seen seen;
    list = listed_more listing ds found.list.items next.list.items j.field old.list listed;
    copies = copies_patched fs j.field (copies_view found.copies.items) (copies_view next.copies.items) old.copies put;
    relocated = λ are. relocated_now fs m ds j.field (copies_view found.copies.items) (copies_view next.copies.items) are is.read put
        (old.relocated (kept_before fs m ds j.field are));
  },
)
found_more fs m rules listing p found j next is (ds, before, old) seen listed (inr (broken, same)) = (
  ds ++ j.field ∷ [],
  fields_next fs m rules p ds j is before,
  record {
    read = pushed (IsRead fs m) ds j.field old.read is.read;
    seen = seen_more fs m rules p ds found.seen j next.seen is old.seen seen;
    list = listed_more listing ds found.list.items next.list.items j.field old.list listed;
    copies = rw same old.copies;
    relocated = λ are. (
        let n = length ds in
        let long = longer ds j.field in
        let n_in : n < length (ds ++ j.field ∷ []) = omega arith in
        let at = last ds j.field n refl in
        absurd (elim broken [
          | inl unplaced ↦ subst (λ (d : Field). value_at fs m d.site ≡ None → ⊥) at (are.placed n n_in) (is.unplaced.0 unplaced)
          | inr out ↦ is.out_of_range.0 out (subst (λ (d : Field). IsWithin fs d.site d.rule) at (are.within n n_in))
        ]));
  },
)

-- What is found of all fields, as the rows of rules 13 to 16.

pub found_in_order : (fs : List ObjectValue) (m : LinkMapValue) (rules : List RelocRule) (listing : Bool) (found : Found) →
    AreAllFound fs m rules listing found → (found.seen.ascending ≡ false → listing ≡ true) → AreFoundInOrder fs m rules found
found_in_order fs m rules listing found (ds, are, is) listed = record {
  first_unplaced = first_site fs rules ds are (IsUnplaced fs m) found.seen.unplaced is.seen.unplaced;
  first_out_of_range = first_site fs rules ds are (IsFieldOutOfRange fs) found.seen.out_of_range is.seen.out_of_range;
  first_refused = first_site fs rules ds are (IsValueOutOfRange fs m) found.seen.refused is.seen.refused;
  apart = λ yes. none_at_field fs rules ds are (SharesEarlier fs rules)
      (no_overlap fs rules ds are (ascending_apart fs m ds is.read (is.seen.ascending.0 yes)));
  fields = λ no. rw (subst (λ (b : Bool). AreListed b ds found.list.items) (listed no) is.list) are;
  read = λ no. rw (subst (λ (b : Bool). AreListed b ds found.list.items) (listed no) is.list) is.read;
  copies = λ placed within apart. (
      let kept_all : AreKept fs m ds = record {
        placed = none_in_list fs rules ds are (IsUnplaced fs m) placed;
        within = all_within fs ds (none_in_list fs rules ds are (IsFieldOutOfRange fs) within);
        apart = none_shared fs rules ds are apart;
      } in
      (ds, record { fields = are; kept = kept_all }, is.relocated kept_all));
}
