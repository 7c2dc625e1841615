-- The bytes of relocated copies are those of memory. A byte of a copy is one of a field's number or of the content, and memory at the
-- section's address plus its offset is defined by the same two cases.
use Rattle.std.proofs.Common.{◌≡◌, ℕ, ◌+◌, ◌-◌, ◌<◌, ◌≤◌, ◌⊎◌, ℤ, List, [], ◌∷◌, get_or, length, inl, inr, refl, sym, ◌∙◌, ap, subst, arith}
use Rattle.std.proofs.Common.{zero, suc, ◌≢◌, true}
use Rattle.std.specs.Prelude.{MatchOption, Option, None, Some, option_map, slice_index}
use Rattle.std.proofs.lemmas.Bool.{cases_eq, cases_lt}
use Rattle.elf_extent.specs.Extent.{Never}
use Rattle.elf_field.specs.Abi.{SHF_ALLOC}
use Rattle.elf_link_field.specs.Field.{size_of, relocation_number, IsFirstRelocationRule, HasNoRelocationRule, IsOfKind}
use Rattle.elf_link_field.specs.declared.rule.Form.TheVariants.{Abs, Pc, None as NoForm}
use Rattle.elf_link_field.specs.declared.rule.Form.{Form}
use Rattle.elf_link_field.specs.declared.rule.RelocRule.{RelocRule}
use Rattle.elf_link_files.proofs.Public.{same_bool}
use Rattle.elf_link_files.specs.Files.{object_at, section_in, Live, AreDiscardMarks, Discarded, mark}
use Rattle.elf_link_files.specs.Rows.{site, FirstAt}
use Rattle.elf_link_files.specs.declared.fault.Options.{Options}
use Rattle.elf_link_files.specs.declared.site.Site.{Site}
use Rattle.elf_link_map.proofs.Public.{outputs_stand, parts_apart}
use Rattle.elf_link_map.specs.LinkMap.{LinkMapValue, FirstOfLink, IsLinkMap, with_options}
use Rattle.elf_link_map.specs.Standing.{BeginsAt, ArePlacedApart, address_in, or_zero, MembersStand, OutputsStand, size_in}
use Rattle.elf_link_outputs.specs.Outputs.{live, memory_size}
use Rattle.elf_link_outputs.specs.Placed.{cell, OutputValue}
use Rattle.elf_link_outputs.specs.declared.addresses.Target.TheVariants.{Fixed}
use Rattle.elf_link_relocate.proofs.Collected.{position, one_rule, ordered, ruled, same_item}
use Rattle.elf_link_relocate.specs.Fields.{target_at, HasField, HasOffset, IsWithin, content_of, field_start, addend_of, field_address}
use Rattle.elf_link_relocate.specs.Fields.{applied_entry_rules, value_at, entry_at, content_in, number_at, field_out_of_range}
use Rattle.elf_link_relocate.specs.Fields.{fields_overlap, entries_of, field_end, unplaced}
use Rattle.elf_link_relocate.specs.Linked.{item, AreBytesOf, HasLiveBits, IsLinked, HasFieldAt, IsFieldByte, IsMemory, IsSoundMapButOptions}
use Rattle.elf_link_relocate.specs.Linked.{IsSoundMap, HasPlacedSections, IsContentByte, number_byte}
use Rattle.elf_link_relocate.specs.Passes.{field_at, AreValidated, IsCovered, IsFieldIn, AreRelocated, IsRelocated, entry_site}
use Rattle.elf_link_relocate.specs.declared.field.Field.{Field}
use Rattle.elf_object_type.specs.Object.{BodyValue, bits, no_bits, relocs, group, ObjectValue, SectionValue, no_section, HasFlag}

-- ---- small facts

pub content_fits : (b : BodyValue) → length (content_of b) ≤ memory_size b
content_fits (bits type content) = omega arith
content_fits (no_bits size) = omega arith
content_fits (relocs rela target entries) = omega arith
content_fits (group comdat signature members) = omega arith

past_section : (xs : List SectionValue) (n : ℕ) → length xs ≤ n → get_or xs n no_section ≡ no_section
past_section [] n le = refl
past_section (x ∷ xs) zero le = absurd (omega arith)
past_section (x ∷ xs) (suc n) le = past_section xs n (omega arith)

-- a live section is one of its file
pub live_in : (fs : List ObjectValue) (f s : ℕ) → f < length fs → Live fs f s → live fs (site f s)
live_in fs f s f_in is = elim (cases_lt s (length (object_at fs f).sections)) [
  | inl s_in ↦ (f_in, s_in, is, refl)
  | inr above ↦ absurd (
      let none = past_section (object_at fs f).sections s above in
      let never = subst (λ (x : SectionValue). HasFlag x.flags SHF_ALLOC) none is.0 in
      never refl)
]

pub some_number : (g : ℕ → ℤ) (v : Option ℕ) → (v ≡ None → ⊥) → (z : ℤ) × (option_map g v ≡ Some z)
some_number g None never = absurd (never refl)
some_number g (Some x) never = (g x, refl)

same_address : (a b : ℕ) → ◌≡◌ {A = Option ℕ} (Some a) (Some b) → a ≡ b
same_address a b e = cc

never_some : (b : List ℕ) → ◌≡◌ {A = Option (List ℕ)} None (Some b) → ⊥
never_some b e = cc

same_copy : (a b : List ℕ) → Some a ≡ Some b → a ≡ b
same_copy a b e = cc

module _ (fs : List ObjectValue) (m : LinkMapValue) (rules : List RelocRule) (ds : List Field) (are : AreValidated fs m rules ds)
    (stand : ArePlacedApart fs m) where
  -- whether one of the first n fields has a byte
  covered_or : (n f s x : ℕ) → IsCovered fs ds n f s x ⊎ (IsCovered fs ds n f s x → ⊥)
  covered_or zero f s x = inr (λ (j, lt, at, has). absurd (omega arith))
  covered_or (suc n) f s x =
      let p = (field_at ds n).site in
      let other : (IsCovered fs ds n f s x → ⊥) → (IsFieldIn fs (field_at ds n) f s → HasOffset fs p (field_at ds n).rule x → ⊥) →
      IsCovered fs ds (suc n) f s x → ⊥ =
      λ none away (j, lt, at, has). elim (cases_lt j n) [
        | inl below ↦ none (j, below, at, has)
        | inr above ↦ (
            let same : j ≡ n = omega arith in
            away (subst (λ (i : ℕ). IsFieldIn fs (field_at ds i) f s) same at)
            (subst (λ (i : ℕ). HasOffset fs (field_at ds i).site (field_at ds i).rule x) same has))
      ] in
      elim (covered_or n f s x) [
        | inl (j, lt, at, has) ↦ inl (j, omega arith, at, has)
        | inr none ↦ elim (cases_eq p.file f) [
          | inr file ↦ inr (other none (λ at has. file at.0))
          | inl file ↦ elim (cases_eq (target_at fs p) s) [
            | inr section ↦ inr (other none (λ at has. section at.1))
            | inl section ↦ elim (cases_lt x (field_start fs p)) [
              | inl before ↦ inr (other none (λ at has. (let from = has.0 in omega arith)))
              | inr from ↦ elim (cases_lt x (field_start fs p + size_of (field_at ds n).rule.width)) [
                | inr later ↦ inr (other none (λ at has. (let below = has.1 in omega arith)))
                | inl below ↦ inl (n, omega arith, (file, section), (from, below))
              ]
            ]
          ]
        ]
      ]

  -- where the target of a field begins
  target_begins : (p : Site) (r : RelocRule) → HasField fs rules p r → (b : ℕ) × BeginsAt m p.file (target_at fs p) b
  target_begins p r has =
      (stand.addressed p.file (target_at fs p)).0 (live_in fs p.file (target_at fs p) has.applied.0.file has.applied.1.1)

  -- ---- a byte of a section that begins at a

  module _ (f s a : ℕ) (after : List ℕ) (begins : BeginsAt m f s a) (is : IsRelocated fs m ds (length ds) f s after) where
    in_field : (k : ℕ) → IsCovered fs ds (length ds) f s k → IsFieldByte fs m rules (a + k) (slice_index after k)
    in_field k (j, lt, (file, target), (from, below)) =
        let p = (field_at ds j).site in
        let r = (field_at ds j).rule in
        let start = field_start fs p in
        let (z, number) =
        some_number (λ (value : ℕ). relocation_number r.form value (addend_of fs p r) (field_address fs m p)) (value_at fs m p)
        (are.kept.placed j lt) in
        let cell_at : cell m.addresses p.file (target_at fs p) ≡ Some a = rw (file, target) begins in
        let address : address_in m p.file (target_at fs p) ≡ a = ap (λ (o : Option ℕ). or_zero o) cell_at in
        let offset : start + (k - start) ≡ k = omega arith in (
          p,
          r,
          k - start,
          (are.fields.each j lt, omega arith, omega arith),
          (z, number, sym (ap (λ (i : ℕ). slice_index after i) offset) ∙ is.inside j lt (file, target) z number (k - start) (omega arith)),
        )

    no_field : (k : ℕ) → k < length after → (IsCovered fs ds (length ds) f s k → ⊥) → HasFieldAt fs m rules (a + k) → ⊥
    no_field k k_in none (p, r, i, (has, i_in, at)) =
        let (j, lt, site_is, rule_is) = position fs rules ds are.fields p r has in
        let (b, there) = target_begins p r has in
        let address : address_in m p.file (target_at fs p) ≡ b = ap (λ (o : Option ℕ). or_zero o) there in
        let start = field_start fs p in
        let within : IsWithin fs p r =
        subst (λ (q : Site). IsWithin fs q r) site_is
        (subst (λ (u : RelocRule). IsWithin fs (field_at ds j).site u) rule_is (are.kept.within j lt)) in
        let fits = content_fits (section_in fs p.file (target_at fs p)).body in
        let mine = content_fits (section_in fs f s).body in
        let long = is.long in
        elim (stand.apart f s a p.file (target_at fs p) b begins there) [
          | inl (file, section) ↦ (
              let same : a ≡ b = same_address a b (sym begins ∙ rw (file, section) there) in
              let from : start ≤ k = omega arith in
              let below : k < start + size_of r.width = omega arith in
              none (
                j,
                lt,
                (ap (λ (q : Site). q.file) site_is ∙ sym file, ap (λ (q : Site). target_at fs q) site_is ∙ sym section),
                subst (λ (q : Site). HasOffset fs q (field_at ds j).rule k) (sym site_is)
                    (subst (λ (u : RelocRule). HasOffset fs p u k) (sym rule_is) (from, below)),
              ))
          | inr away ↦ elim away [
            | inl before ↦ omega arith
            | inr later ↦ omega arith
          ]
        ]

    pub is_memory : (k : ℕ) → k < length after → IsMemory fs m rules (a + k) (slice_index after k)
    is_memory k k_in = elim (covered_or (length ds) f s k) [
      | inl covered ↦ inl (in_field k covered)
      | inr none ↦ inr (no_field k k_in none, inl (f, s, k, ((let long = is.long in omega arith), (a, begins, refl)), is.outside k none))
    ]

  are_bytes : (f s : ℕ) (after : List ℕ) → HasLiveBits fs f s → IsRelocated fs m ds (length ds) f s after → AreBytesOf fs m rules f s after
  are_bytes f s after there is =
      let (a, begins) = (stand.addressed f s).0 (there.0.0, there.0.1, there.1, refl) in
      record {
        live = there;
        long = is.long;
        memory = (a, begins, is_memory f s a after begins is);
      }

  bytes_of_item : (rows : List (List (Option (List ℕ)))) (f s : ℕ) (o : Option (List ℕ)) → item None rows f s ≡ o →
      AreRelocated fs m ds (length ds) rows →
      MatchOption o (¬ HasLiveBits fs f s) (AreBytesOf fs m rules f s)
  bytes_of_item rows f s None at is = λ there. (let (after, its, relocated) = is.each f s there in never_some after (sym at ∙ its))
  bytes_of_item rows f s (Some after) at is =
      let there = is.others f s after at in
      let (old, its, relocated) = is.each f s there in
      are_bytes f s after there
      (subst (λ (b : List ℕ). IsRelocated fs m ds (length ds) f s b) (same_copy old after (sym its ∙ at)) relocated)

  pub linked_of : (rows : List (List (Option (List ℕ)))) → AreRelocated fs m ds (length ds) rows →
      FirstAt (applied_entry_rules fs m rules) None →
      IsLinked fs m rules (record { map = m; objects = fs; rules = rules; copies = rows })
  linked_of rows is sound = record {
    sound = sound;
    grid = is.grid;
    same_map = refl;
    same_objects = refl;
    same_rules = refl;
    bytes = λ f s. bytes_of_item rows f s (item None rows f s) refl is;
  }

-- What a map says of its objects does not depend on its base, page and entry, which are other fields than outputs, members and addresses.
-- And it is a map for options that name no entry symbol: the same plan and places, with the value 0.

-- what says nothing of base, page and entry goes over from a map that has others
apart_from : (fs : List ObjectValue) (m : LinkMapValue) (base page entry : ℕ) → ArePlacedApart fs (with_options m base page entry) →
    ArePlacedApart fs m
apart_from fs m base page entry is = record {
  addressed = is.addressed;
  within = is.within;
  apart = is.apart;
  commons_within = is.commons_within;
  commons_after = is.commons_after;
  commons_apart = is.commons_apart;
}

members_from : (fs : List ObjectValue) (m : LinkMapValue) (base page entry : ℕ) (o : OutputValue) →
    MembersStand fs (with_options m base page entry) o →
    MembersStand fs m o
members_from fs m base page entry o is = record {
  some = is.some;
  live = is.live;
  begins = is.begins;
  kind = is.kind;
  first = is.first;
  order = is.order;
  last = is.last;
}

outputs_from : (fs : List ObjectValue) (m : LinkMapValue) (base page entry : ℕ) → OutputsStand fs (with_options m base page entry) →
    OutputsStand fs m
outputs_from fs m base page entry is = record {
  members = λ k lt. members_from fs m base page entry _ (is.members k lt);
  holds = is.holds;
  once = is.once;
  within = is.within;
  apart = is.apart;
  commons_after = is.commons_after;
}

pub apart_of : (fs : List ObjectValue) (m : LinkMapValue) → IsSoundMapButOptions fs m → ArePlacedApart fs m
apart_of fs m (base, page, entry, (opt, is, clean)) =
    apart_from fs m base page entry (parts_apart opt fs (with_options m base page entry) is)

pub outputs_of : (fs : List ObjectValue) (m : LinkMapValue) → IsSoundMapButOptions fs m → OutputsStand fs m
outputs_of fs m (base, page, entry, (opt, is, clean)) =
    outputs_from fs m base page entry (outputs_stand opt fs (with_options m base page entry) is)

pub sound_of : (fs : List ObjectValue) (m : LinkMapValue) → IsSoundMapButOptions fs m → HasPlacedSections fs m
sound_of fs m (base, page, entry, (opt, (l, placed, is), clean)) = record {
  discarded = is.discarded;
  places = apart_of fs m (base, page, entry, (opt, (l, placed, is), clean));
}

-- the map of some objects is one whatever its base, page and entry are
pub any_options : (fs : List ObjectValue) (m : LinkMapValue) → IsSoundMap fs m → IsSoundMapButOptions fs m
any_options fs m is = (m.base, m.page, m.entry, is)

-- such a map is the one for options that name no entry symbol too
pub without_entry : (fs : List ObjectValue) (m : LinkMapValue) → IsSoundMapButOptions fs m →
    (opt : Options) × (opt.entry ≡ None) × IsLinkMap opt fs (with_options m opt.base opt.page 0) × FirstOfLink opt fs None
without_entry fs m (base, page, entry, (opt, (l, placed, is), (rules, (k, planned, (named, (fits, nothing)))))) =
    let none = record opt { entry = None } in (
      none,
      refl,
      (
        record l { target = Fixed 0 },
        record { plan = placed.plan; target = refl; least = placed.least },
        record {
          fits = is.fits;
          addresses = is.addresses;
          discarded = is.discarded;
          bindings = is.bindings;
          names = is.names;
          outputs = is.outputs;
          commons = is.commons;
          base = refl;
          page = refl;
          entry = (l.places, placed.least, refl, omega arith);
        },
      ),
      (
        rules,
        (
          record k { target = Fixed 0 },
          record { plan = planned.plan; target = refl; least = planned.least },
          (λ p ((places, least, past), file, index, at). (let never = past 0 refl in omega arith), (fits, nothing)),
        ),
      ),
    )

-- In the map of a link that keeps rules 14 and 15, memory has at most one byte at each address. By cases on what two bytes come from:
-- fields or contents that have the address are in one section, as sections are apart. Fields share no byte, so both are one field or one
-- content, at one offset.

pub same_place : (a b : ℕ) → ◌≡◌ {A = Option ℕ} (Some a) (Some b) → a ≡ b
same_place a b e = cc

same_value : (a b : ℤ) → Some a ≡ Some b → a ≡ b
same_value a b e = cc

module _ (fs : List ObjectValue) (m : LinkMapValue) (rules : List RelocRule) (stand : ArePlacedApart fs m)
    (within : Never (field_out_of_range fs rules)) (apart : Never (fields_overlap fs rules)) where
  -- an address is in one section
  pub one_section : (f s a k g t b i : ℕ) → BeginsAt m f s a → BeginsAt m g t b → k < size_in fs f s → i < size_in fs g t → a + k ≡ b + i →
      (f ≡ g) × (s ≡ t)
  one_section f s a k g t b i at there k_in i_in same = elim (stand.apart f s a g t b at there) [
    | inl one ↦ one
    | inr away ↦ elim away [
      | inl before ↦ absurd (omega arith)
      | inr later ↦ absurd (omega arith)
    ]
  ]

  pub within_of : (p : Site) (r : RelocRule) → HasField fs rules p r → IsWithin fs p r
  within_of p r has = elim (cases_lt (length (content_in fs p.file (target_at fs p))) (field_start fs p + size_of r.width)) [
    | inl past ↦ absurd (within p (r, has, (λ fits. omega arith)))
    | inr fits ↦ fits
  ]

  pub begins : (p : Site) (r : RelocRule) → HasField fs rules p r → (a : ℕ) × BeginsAt m p.file (target_at fs p) a
  begins p r has = (stand.addressed p.file (target_at fs p)).0 (live_in fs p.file (target_at fs p) has.applied.0.file has.applied.1.1)

  same_bytes : (p q : Site) (r s : RelocRule) (k i : ℕ) (y z : ℤ) → p ≡ q → r ≡ s → k ≡ i → y ≡ z →
      number_byte fs p r y k ≡ number_byte fs q s z i
  same_bytes p q r s k i y z site rule place number =
      ap (λ (u : Site). number_byte fs u r y k) site ∙ ap (λ (u : RelocRule). number_byte fs q u y k) rule ∙
      ap (λ (n : ℕ). number_byte fs q s y n) place
      ∙ ap (λ (n : ℤ). number_byte fs q s n i) number

  one_field : (x v w : ℕ) → IsFieldByte fs m rules x v → IsFieldByte fs m rules x w → v ≡ w
  one_field x v w (p, r, k, (has, k_in, at), (y, number, is)) (q, s, i, (had, i_in, there), (z, other, was)) =
      let (a, from) = begins p r has in
      let (b, to) = begins q s had in
      let here : address_in m p.file (target_at fs p) ≡ a = ap (λ (o : Option ℕ). or_zero o) from in
      let away : address_in m q.file (target_at fs q) ≡ b = ap (λ (o : Option ℕ). or_zero o) to in
      let mine = within_of p r has in
      let yours = within_of q s had in
      let fits = content_fits (section_in fs p.file (target_at fs p)).body in
      let room = content_fits (section_in fs q.file (target_at fs q)).body in
      let (file, target) =
      one_section p.file (target_at fs p) a (field_start fs p + k) q.file (target_at fs q) b (field_start fs q + i) from to (omega arith)
      (omega arith) (omega arith) in
      let cells : cell m.addresses p.file (target_at fs p) ≡ cell m.addresses q.file (target_at fs q) =
      ap (λ (n : ℕ). cell m.addresses n (target_at fs p)) file ∙ ap (λ (n : ℕ). cell m.addresses q.file n) target in
      let bases : a ≡ b = same_place a b (sym from ∙ cells ∙ to) in
      let offset : field_start fs p + k ≡ field_start fs q + i = omega arith in
      let first : HasOffset fs p r (field_start fs p + k) = (omega arith, omega arith) in
      let second : HasOffset fs q s (field_start fs p + k) = (omega arith, omega arith) in
      elim (ordered p q) [
        | inl one ↦ (
            let rule = one_rule (entry_at fs q).kind rules r s
            (subst (λ (u : Site). IsFirstRelocationRule (entry_at fs u).kind rules r) one has.rule) had.rule in
            let starts = ap (λ (u : Site). field_start fs u) one in
            let place : k ≡ i = omega arith in
            let value = subst (λ (u : Site). number_at fs m u r ≡ Some y) one number in
            let sum = subst (λ (u : RelocRule). number_at fs m q u ≡ Some y) rule value in
            is ∙ same_bytes p q r s k i y z one rule place (same_value y z (sym sum ∙ other)) ∙ sym was)
        | inr two ↦ elim two [
          | inl before ↦ absurd (apart q (s, had, (p, r, before, has, ((file, target), (field_start fs p + k, first, second)))))
          | inr later ↦ absurd (apart p (r, has, (q, s, later, had, ((sym file, sym target), (field_start fs p + k, second, first)))))
        ]
      ]

  one_content : (x v w : ℕ) → IsContentByte fs m x v → IsContentByte fs m x w → v ≡ w
  one_content x v w (f, s, k, (k_in, (a, from, at)), is) (g, t, i, (i_in, (b, to, there)), was) =
      let fits = content_fits (section_in fs f s).body in
      let room = content_fits (section_in fs g t).body in
      let (file, section) = one_section f s a k g t b i from to (omega arith) (omega arith) (omega arith) in
      let bases : a ≡ b = same_place a b (sym from ∙ rw (file, section) to) in
      let place : k ≡ i = omega arith in
      is ∙ ap (λ (n : ℕ). slice_index (content_in fs n s) k) file ∙ ap (λ (n : ℕ). slice_index (content_in fs g n) k) section
      ∙ ap (λ (n : ℕ). slice_index (content_in fs g t) n) place ∙ sym was

  one_of : (x v w : ℕ) → IsMemory fs m rules x v → IsMemory fs m rules x w → v ≡ w
  one_of x v w (inl field) (inl other) = one_field x v w field other
  one_of x v w (inl (p, r, k, at, byte)) (inr (none, rest)) = absurd (none (p, r, k, at))
  one_of x v w (inr (none, rest)) (inl (p, r, k, at, byte)) = absurd (none (p, r, k, at))
  one_of x v w (inr (none, inl content)) (inr (never, inl other)) = one_content x v w content other
  one_of x v w (inr (none, inl (f, s, k, at, byte))) (inr (never, inr (outside, area, zero_is))) = absurd (outside (f, s, k, at))
  one_of x v w (inr (none, inr (outside, area, zero_is))) (inr (never, inl (f, s, k, at, byte))) = absurd (outside (f, s, k, at))
  one_of x v w (inr (none, inr (outside, area, zero_is))) (inr (never, inr (beyond, around, again))) = zero_is ∙ sym again

pub one_byte : (fs : List ObjectValue) (m : LinkMapValue) (rules : List RelocRule) → IsSoundMapButOptions fs m →
    FirstAt (applied_entry_rules fs m rules) None →
    (x v w : ℕ) → IsMemory fs m rules x v → IsMemory fs m rules x w → v ≡ w
one_byte fs m rules is clean = one_of fs m rules (apart_of fs m is) clean.1.1.0 clean.1.1.1.0

-- Memory has a byte at each address of a live section's content, if rules 13 to 15 are kept. It is that of a field's number, or else the
-- content's own. A search through the entries of the file decides which, since each test of an entry is decided.

-- ---- what is decided

abbrev pub IsDecided : Type 0 → Type 0
IsDecided P = P ⊎ (P → ⊥)

-- whether one number below n has it, where each has it or not
pub some_below : (P : ℕ → Type 0) (n : ℕ) → ((i : ℕ) → i < n → IsDecided (P i)) → IsDecided ((i : ℕ) × (i < n) × P i)
some_below P zero decide = inr (λ (i, lt, there). absurd (omega arith))
some_below P (suc n) decide = elim (some_below P n (λ i lt. decide i (omega arith))) [
  | inl (i, lt, there) ↦ inl (i, omega arith, there)
  | inr none ↦ elim (decide n (omega arith)) [
    | inl there ↦ inl (n, omega arith, there)
    | inr never ↦ inr (λ (i, lt, there). elim (cases_lt i n) [
      | inl below ↦ none (i, below, there)
      | inr above ↦ (let same : i ≡ n = omega arith in never (subst P same there))
    ])
  ]
]

-- ---- the relocation rule of a kind

none_more : (kind : ℕ) (q : RelocRule) (rules : List RelocRule) → (q.kind ≢ kind) → HasNoRelocationRule kind rules →
    HasNoRelocationRule kind (q ∷ rules)
none_more kind q rules other none zero r (at, is) = other (ap (λ (s : RelocRule). s.kind) (same_item q r at) ∙ is)
none_more kind q rules other none (suc k) r at = none k r at

first_more : (kind : ℕ) (q : RelocRule) (rules : List RelocRule) (k : ℕ) → (q.kind ≢ kind) →
    ((j : ℕ) (r : RelocRule) → j < k → IsOfKind kind rules j r → ⊥) → (j : ℕ) (r : RelocRule) → j < suc k → IsOfKind kind (q ∷ rules) j r →
    ⊥
first_more kind q rules k other first zero r lt (at, is) = other (ap (λ (s : RelocRule). s.kind) (same_item q r at) ∙ is)
first_more kind q rules k other first (suc j) r lt at = first j r (omega arith) at

rule_or : (kind : ℕ) (rules : List RelocRule) → ((r : RelocRule) × IsFirstRelocationRule kind rules r) ⊎ HasNoRelocationRule kind rules
rule_or kind [] = inr (λ k r (at, is). cc)
rule_or kind (q ∷ rules) = elim (cases_eq q.kind kind) [
  | inl same ↦ inl (q, (0, (refl, same), (λ j r lt at. absurd (omega arith))))
  | inr other ↦ elim (rule_or kind rules) [
    | inl (r, (k, at, first)) ↦ inl (r, (suc k, at, first_more kind q rules k other first))
    | inr none ↦ inr (none_more kind q rules other none)
  ]
]

form_or : (form : Form) → (form ≡ NoForm) ⊎ (form ≢ NoForm)
form_or Abs = inr (λ same. cc)
form_or Pc = inr (λ same. cc)
form_or NoForm = inl refl

offset_or : (fs : List ObjectValue) (p : Site) (r : RelocRule) (x : ℕ) → IsDecided (HasOffset fs p r x)
offset_or fs p r x = elim (cases_lt x (field_start fs p)) [
  | inl before ↦ inr (λ (from, below). omega arith)
  | inr from ↦ elim (cases_lt x (field_end fs p r)) [
    | inl below ↦ inl (from, below)
    | inr later ↦ inr (λ (start, below). omega arith)
  ]
]

module _ (fs : List ObjectValue) (m : LinkMapValue) (rules : List RelocRule) (marks : AreDiscardMarks fs m.discarded) where
  discarded_or : (f s : ℕ) → f < length fs → s < length (object_at fs f).sections → IsDecided (Discarded fs f s)
  discarded_or f s f_in s_in = elim (same_bool (mark m.discarded f s) true) [
    | inl marked ↦ inl ((marks.right f s f_in s_in).0 marked)
    | inr bare ↦ inr (λ gone. bare ((marks.right f s f_in s_in).1 gone))
  ]

  -- ---- the fields of a section's byte

  module _ (f t x : ℕ) (f_in : f < length fs) (live : Live fs f t) where
    -- an entry has a field with the byte
    abbrev HasByte : Site → Type 0
    HasByte p = (r : RelocRule) × HasField fs rules p r × (target_at fs p ≡ t) × HasOffset fs p r x

    abbrev entries_in : ℕ → ℕ
    entries_in s = length (entries_of (section_in fs f s).body)

    entry_or : (s e : ℕ) → s < length (object_at fs f).sections → e < entries_in s → IsDecided (HasByte (entry_site f s e))
    entry_or s e s_in e_in =
        let p = entry_site f s e in
        let kind = (entry_at fs p).kind in
        elim (cases_eq (target_at fs p) t) [
          | inr away ↦ inr (λ (r, has, target, offset). away target)
          | inl target ↦ elim (discarded_or f s f_in s_in) [
            | inl gone ↦ inr (λ (r, has, same, offset). has.applied.1.0 gone)
            | inr kept ↦ elim (rule_or kind rules) [
              | inr none ↦ inr (λ (r, has, same, offset). ruled kind rules r has.rule none)
              | inl (r, rule) ↦ elim (form_or r.form) [
                | inl no_form ↦
                    inr (λ (q, has, same, offset). has.form
                    (ap (λ (u : RelocRule). u.form) (one_rule kind rules q r has.rule rule) ∙ no_form))
                | inr form ↦ elim (offset_or fs p r x) [
                  | inr out ↦ inr
                      (λ (q, has, same, offset). out
                      (subst (λ (u : RelocRule). HasOffset fs p u x) (one_rule kind rules q r has.rule rule) offset))
                  | inl inside ↦ inl (
                    r,
                    record {
                      applied = (record { file = f_in; section = s_in; entry = e_in }, (kept, subst (Live fs f) (sym target) live));
                      rule = rule;
                      form = form;
                    },
                    target,
                    inside,
                  )
                ]
              ]
            ]
          ]
        ]

    abbrev IsInFile : Type 0
    IsInFile = (s : ℕ) × (s < length (object_at fs f).sections) × ((e : ℕ) × (e < entries_in s) × HasByte (entry_site f s e))

    file_or : IsDecided IsInFile
    file_or = some_below (λ s. (e : ℕ) × (e < entries_in s) × HasByte (entry_site f s e)) (length (object_at fs f).sections)
        (λ s s_in. some_below (λ e. HasByte (entry_site f s e)) (entries_in s) (λ e e_in. entry_or s e s_in e_in))

    -- each entry of the file with a field that has the byte is one of these
    in_file : (p : Site) (r : RelocRule) → HasField fs rules p r → p.file ≡ f → target_at fs p ≡ t → HasOffset fs p r x → IsInFile
    in_file p r has file target offset =
        let here : (s : ℕ) × (s < length (object_at fs p.file).sections) ×
        ((e : ℕ) × (e < length (entries_of (section_in fs p.file s).body)) × HasByte (entry_site p.file s e)) =
        (p.index, has.applied.0.section, (p.entry, has.applied.0.entry, (r, has, target, offset))) in
        subst (λ (g : ℕ). (s : ℕ) × (s < length (object_at fs g).sections) ×
        ((e : ℕ) × (e < length (entries_of (section_in fs g s).body)) × HasByte (entry_site g s e))) file here

begins_too : (m : LinkMapValue) (f s g t a : ℕ) → f ≡ g → s ≡ t → BeginsAt m g t a → BeginsAt m f s a
begins_too m f s g t a file section at = ap (λ (n : ℕ). cell m.addresses n s) file ∙ ap (λ (n : ℕ). cell m.addresses g n) section ∙ at

module _ (fs : List ObjectValue) (m : LinkMapValue) (rules : List RelocRule) (stand : ArePlacedApart fs m)
    (within : Never (field_out_of_range fs rules)) (apart : Never (fields_overlap fs rules)) (placed : Never (unplaced fs m rules)) where
  -- the byte of a field
  field_byte : (f t a x : ℕ) (p : Site) (r : RelocRule) → BeginsAt m f t a → HasField fs rules p r → p.file ≡ f → target_at fs p ≡ t →
      HasOffset fs p r x →
      (v : ℕ) × IsMemory fs m rules (a + x) v
  field_byte f t a x p r at has file target (from, below) =
      let start = field_start fs p in
      let (z, number) =
      some_number (λ (value : ℕ). relocation_number r.form value (addend_of fs p r) (field_address fs m p)) (value_at fs m p)
      (λ none. placed p (r, has, none)) in
      let address : address_in m p.file (target_at fs p) ≡ a = ap or_zero (begins_too m p.file (target_at fs p) f t a file target at) in
      (number_byte fs p r z (x - start), inl (p, r, x - start, (has, omega arith, omega arith), (z, number, refl)))

  -- a field at the address is one of this section
  field_here : (f t a x : ℕ) → BeginsAt m f t a → x < length (content_in fs f t) → (p : Site) (r : RelocRule) (k : ℕ) →
      HasField fs rules p r → k < size_of r.width →
      a + x ≡ field_address fs m p + k → (p.file ≡ f) × (target_at fs p ≡ t) × HasOffset fs p r x
  field_here f t a x at x_in p r k has k_in same =
      let (b, there) = begins fs m rules stand within apart p r has in
      let address : address_in m p.file (target_at fs p) ≡ b = ap or_zero there in
      let mine = within_of fs m rules stand within apart p r has in
      let fits = content_fits (section_in fs p.file (target_at fs p)).body in
      let room = content_fits (section_in fs f t).body in
      let (file, target) =
      one_section fs m rules stand within apart p.file (target_at fs p) b (field_start fs p + k) f t a x there at
      (omega arith) (omega arith) (omega arith) in
      let bases : b ≡ a = same_place b a (sym there ∙ begins_too m p.file (target_at fs p) f t a file target at) in
      (file, target, (omega arith, omega arith))

  pub content_byte : (f t a x : ℕ) → AreDiscardMarks fs m.discarded → f < length fs → Live fs f t → BeginsAt m f t a →
      x < length (content_in fs f t) →
      (v : ℕ) × IsMemory fs m rules (a + x) v
  content_byte f t a x marks f_in live at x_in = elim (file_or fs m rules marks f t x f_in live) [
    | inl (s, s_in, (e, e_in, (r, has, target, offset))) ↦ field_byte f t a x (entry_site f s e) r at has refl target offset
    | inr none ↦ (
      slice_index (content_in fs f t) x,
      inr (
        (λ (p, r, k, (has, k_in, same)). (
            let (file, target, offset) = field_here f t a x at x_in p r k has k_in same in
            none (in_file fs m rules marks f t x f_in live p r has file target offset))),
        inl (f, t, x, (x_in, (a, at, refl)), refl),
      ),
    )
  ]
