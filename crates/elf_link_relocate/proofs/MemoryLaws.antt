-- In a link that breaks no rule, memory has a byte at each address of an output and of the commons. It is that of a member's content
-- (`content_byte`), or 0 outside of contents. It has none elsewhere, since fields lie in contents, and contents in outputs. If contents are
-- bytes, each byte is below 256.
use Rattle.std.proofs.Common.{◌≡◌, ℕ, ◌+◌, ◌-◌, ◌<◌, ◌≤◌, List, length, inl, inr, refl, sym, ap, subst, arith, zero, suc, [], ◌∷◌, ◌++◌}
use Rattle.std.proofs.Common.{get_or, add-one, Result, Ok, Err}
use Rattle.std.specs.Prelude.{None, MatchOption, Option, Some, IfOk}
use Rattle.std.proofs.lemmas.Bool.{cases_lt}
use Rattle.elf_extent.specs.Extent.{Never}
use Rattle.elf_field.specs.laws.Bytes.{IsBytes-bytes_of}
use Rattle.elf_link_field.specs.Field.{modulo, size_of}
use Rattle.elf_link_field.specs.declared.rule.RelocRule.{RelocRule}
use Rattle.elf_link_files.proofs.Public.{each_more}
use Rattle.elf_link_files.specs.Files.{AreDiscardMarks, object_at, section_in}
use Rattle.elf_link_files.specs.Rows.{FirstAt, AreEach}
use Rattle.elf_link_map.proofs.Public.{member_within, some_each}
use Rattle.elf_link_map.specs.LinkMap.{LinkMapValue}
use Rattle.elf_link_map.specs.Standing.{BeginsAt, ArePlacedApart, size_in, IsMemberAt, OutputsStand, address_in, member_address, member_at}
use Rattle.elf_link_map.specs.Standing.{or_zero, output_at, output_end}
use Rattle.elf_link_outputs.specs.declared.placing.Member.{Member}
use Rattle.elf_link_relocate.proofs.Memories.{apart_of, outputs_of, sound_of, content_fits, begins, within_of, IsDecided, content_byte}
use Rattle.elf_link_relocate.proofs.Memories.{some_below}
use Rattle.elf_link_relocate.specs.Fields.{target_at, content_in, field_start, applied_entry_rules, field_out_of_range, fields_overlap}
use Rattle.elf_link_relocate.specs.Fields.{unplaced}
use Rattle.elf_link_relocate.specs.Linked.{IsLinked, LinkedValue, IsSoundMapButOptions, HasContentAt, HasFieldAt, HaveBytes, IsInCommons}
use Rattle.elf_link_relocate.specs.Linked.{IsInContent, IsInMember, IsInMemory, IsInNoMember, IsInOutput, IsInOutputAt, IsMemory}
use Rattle.elf_link_relocate.specs.Linked.{AreBytesOf, HasLiveBits, IsSoundMap, IsSoundLinked}
use Rattle.elf_object_type.specs.Object.{ObjectValue}

-- ---- sections in outputs

-- a section lies in the output that it is a member of
section_within : (fs : List ObjectValue) (m : LinkMapValue) (f s a k i : ℕ) → OutputsStand fs m → BeginsAt m f s a → IsMemberAt m f s k i →
    ((output_at m k).address ≤ a) × (a + size_in fs f s ≤ output_end m k)
section_within fs m f s a k i outputs at (k_in, i_in, same) =
    let (from, to) =
    subst (λ (p : Member). ((output_at m k).address ≤ member_address m p) ×
    (member_address m p + size_in fs p.file p.section ≤ output_end m k)) same
    (member_within fs m (output_at m k) (outputs.members k k_in) i i_in) in
    let here : address_in m f s ≡ a = ap or_zero at in
    (omega arith, omega arith)

-- an address is in one output
one_output : (fs : List ObjectValue) (m : LinkMapValue) (x j k : ℕ) → OutputsStand fs m → j < length m.outputs → k < length m.outputs →
    IsInOutputAt m j x → IsInOutputAt m k x → j ≡ k
one_output fs m x j k outputs j_in k_in (from, to) (start, end) = elim (cases_lt j k) [
  | inl before ↦ absurd (let apart = outputs.apart j k before k_in in omega arith)
  | inr above ↦ elim (cases_lt k j) [
    | inl after ↦ absurd (let apart = outputs.apart k j after j_in in omega arith)
    | inr below ↦ omega arith
  ]
]

-- an address is in the content of a member or not
member_or : (fs : List ObjectValue) (m : LinkMapValue) (k i x : ℕ) → IsDecided (IsInMember fs m k i x)
member_or fs m k i x =
    let p = member_at (output_at m k) i in
    elim (cases_lt x (member_address m p)) [
      | inl before ↦ inr (λ (from, to). omega arith)
      | inr from ↦ elim (cases_lt x (member_address m p + length (content_in fs p.file p.section))) [
        | inl to ↦ inl (from, to)
        | inr after ↦ inr (λ (start, to). omega arith)
      ]
    ]

module _ (fs : List ObjectValue) (m : LinkMapValue) (rules : List RelocRule) (stand : ArePlacedApart fs m) (outputs : OutputsStand fs m)
    (within : Never (field_out_of_range fs rules)) (apart : Never (fields_overlap fs rules)) where
  -- a field lies in the content of its target
  field_content : (x : ℕ) → HasFieldAt fs m rules x → HasContentAt fs m x
  field_content x (p, r, k, (has, k_in, at)) =
      let (a, there) = begins fs m rules stand within apart p r has in
      let here : address_in m p.file (target_at fs p) ≡ a = ap or_zero there in
      let fits = within_of fs m rules stand within apart p r has in
      (p.file, target_at fs p, field_start fs p + k, (omega arith, (a, there, omega arith)))

  -- a content lies in the output that its section is a member of
  content_output : (x f s j : ℕ) → IsInContent fs m x f s j → (k i : ℕ) × IsMemberAt m f s k i × IsInOutputAt m k x
  content_output x f s j (j_in, (a, there, at)) =
      let (k, i, member) = outputs.holds f s a there in
      let (from, to) = section_within fs m f s a k i outputs there member in
      let fits = content_fits (section_in fs f s).body in
      (k, i, member, (omega arith, omega arith))

  in_output : (x : ℕ) → HasContentAt fs m x → IsInOutput m x
  in_output x (f, s, j, content) = (let (k, i, member, here) = content_output x f s j content in (k, member.0, here))

  in_memory : (x v : ℕ) → IsMemory fs m rules x v → IsInMemory m x
  in_memory x v (inl (p, r, k, at, byte)) = inl (in_output x (field_content x (p, r, k, at)))
  in_memory x v (inr (none, inl (f, s, k, at, byte))) = inl (in_output x (f, s, k, at))
  in_memory x v (inr (none, inr (outside, area, zero_is))) = area

  zero_by : (x : ℕ) → (HasContentAt fs m x → ⊥) → IsInMemory m x → IsMemory fs m rules x 0
  zero_by x none area = inr ((λ field. none (field_content x field)), inr (none, area, refl))

  no_content : (x k : ℕ) → k < length m.outputs → IsInOutputAt m k x → IsInNoMember fs m k x → HasContentAt fs m x → ⊥
  no_content x k k_in here none (f, s, j, (j_in, (a, there, at))) =
      let (n, i, member, also) = content_output x f s j (j_in, (a, there, at)) in
      let same = one_output fs m x n k outputs member.0 k_in also here in
      let (in_k, i_in, is) = subst (λ (l : ℕ). IsMemberAt m f s l i) same member in
      let address : address_in m f s ≡ a = ap or_zero there in
      none i i_in (subst (λ (p : Member). (member_address m p ≤ x) × (x < member_address m p + length (content_in fs p.file p.section)))
      (sym is)
      (omega arith, omega arith))

  zero_at : (x k : ℕ) → k < length m.outputs → IsInOutputAt m k x → IsInNoMember fs m k x → IsMemory fs m rules x 0
  zero_at x k k_in here none = zero_by x (no_content x k k_in here none) (inl (k, k_in, here))

  zero_in_commons : (x : ℕ) → IsInCommons m x → IsMemory fs m rules x 0
  zero_in_commons x (j, k, j_in, k_in, from, to) = zero_by x
      (λ (f, s, n, content). (
      let (l, i, member, (start, end)) = content_output x f s n content in
      let after = outputs.commons_after l j member.0 j_in in
      omega arith))
      (inr (j, k, j_in, k_in, from, to))

  module _ (placed : Never (unplaced fs m rules)) (marks : AreDiscardMarks fs m.discarded) where
    member_byte : (x k i : ℕ) → k < length m.outputs → i < length (output_at m k).members → IsInMember fs m k i x →
        (v : ℕ) × IsMemory fs m rules x v
    member_byte x k i k_in i_in (from, to) =
        let p = member_at (output_at m k) i in
        let live = (outputs.members k k_in).live i i_in in
        let a = member_address m p in
        let (v, memory) =
        content_byte fs m rules stand within apart placed p.file p.section a (x - a) marks live.0 live.2
        ((outputs.members k k_in).begins i i_in) (omega arith) in
        let whole : a + (x - a) ≡ x = omega arith in
        (v, subst (λ (y : ℕ). IsMemory fs m rules y v) whole memory)

    byte_there : (x : ℕ) → IsInMemory m x → (v : ℕ) × IsMemory fs m rules x v
    byte_there x (inr commons) = (0, zero_in_commons x commons)
    byte_there x (inl (k, k_in, here)) =
        elim (some_below (λ i. IsInMember fs m k i x) (length (output_at m k).members) (λ i i_in. member_or fs m k i x)) [
          | inl (i, i_in, there) ↦ member_byte x k i k_in i_in there
          | inr none ↦ (0, zero_at x k k_in here (λ i i_in there. none (i, i_in, there)))
        ]

-- ---- the laws

pub field_in_content : (fs : List ObjectValue) (m : LinkMapValue) (rules : List RelocRule) → IsSoundMapButOptions fs m →
    FirstAt (applied_entry_rules fs m rules) None → (x : ℕ) → HasFieldAt fs m rules x → HasContentAt fs m x
field_in_content fs m rules is clean = field_content fs m rules (apart_of fs m is) (outputs_of fs m is) clean.1.1.0 clean.1.1.1.0

pub memory_in : (fs : List ObjectValue) (m : LinkMapValue) (rules : List RelocRule) → IsSoundMapButOptions fs m →
    FirstAt (applied_entry_rules fs m rules) None → (x v : ℕ) → IsMemory fs m rules x v → IsInMemory m x
memory_in fs m rules is clean = in_memory fs m rules (apart_of fs m is) (outputs_of fs m is) clean.1.1.0 clean.1.1.1.0

pub some_byte : (fs : List ObjectValue) (m : LinkMapValue) (rules : List RelocRule) → IsSoundMapButOptions fs m →
    FirstAt (applied_entry_rules fs m rules) None → (x : ℕ) → IsInMemory m x → (v : ℕ) × IsMemory fs m rules x v
some_byte fs m rules is clean =
    byte_there fs m rules (apart_of fs m is) (outputs_of fs m is) clean.1.1.0 clean.1.1.1.0 clean.1.0 (sound_of fs m is).discarded

pub memory_there : (fs : List ObjectValue) (m : LinkMapValue) (rules : List RelocRule) (l : LinkedValue) → IsSoundMapButOptions fs m →
    IsLinked fs m rules l →
    (x : ℕ) → IsInMemory m x → (v : ℕ) × IsMemory fs m rules x v
memory_there fs m rules l is linked = some_byte fs m rules is linked.sound

pub memory_zero : (fs : List ObjectValue) (m : LinkMapValue) (rules : List RelocRule) → IsSoundMapButOptions fs m →
    FirstAt (applied_entry_rules fs m rules) None → (x k : ℕ) → k < length m.outputs → IsInOutputAt m k x → IsInNoMember fs m k x →
    IsMemory fs m rules x 0
memory_zero fs m rules is clean = zero_at fs m rules (apart_of fs m is) (outputs_of fs m is) clean.1.1.0 clean.1.1.1.0

pub memory_bytes : (fs : List ObjectValue) (m : LinkMapValue) (rules : List RelocRule) → HaveBytes fs → (x v : ℕ) →
    IsMemory fs m rules x v → v < 256
memory_bytes fs m rules have x v (inl (p, r, k, at, (z, number, is))) =
    let n = size_of r.width in
    let small = IsBytes-bytes_of (object_at fs p.file).order n (modulo n z) k in
    omega arith
memory_bytes fs m rules have x v (inr (none, inl (f, s, k, at, is))) = (let small = have f s k in omega arith)
memory_bytes fs m rules have x v (inr (none, inr (outside, area, is))) = omega arith

-- In a map of the files, if none of rules 1 to 16 is broken, it cannot be that no bytes are the relocated ones: each address of a live
-- section has a byte, and bytes that are there one by one make a list.

-- numbers that are there one by one make a list
gathered : (P : ℕ → ℕ → Type 0) (n : ℕ) → ((k : ℕ) → k < n → (v : ℕ) × P k v) → (bytes : List ℕ) × AreEach 0 P n bytes
gathered P zero each = ([], record { count = refl; each = λ k lt. absurd (omega arith) })
gathered P (suc n) each =
    let (bytes, are) = gathered P n (λ k lt. each k (omega arith)) in
    let (v, here) = each n (omega arith) in
    (bytes ++ v ∷ [], subst (λ (m : ℕ). AreEach 0 P m (bytes ++ v ∷ [])) (add-one n) (each_more 0 P n bytes v here are))

past : {A : Type 0} (none : A) (xs : List A) (n : ℕ) → length xs ≤ n → get_or xs n none ≡ none
past none [] n le = refl
past none (x ∷ xs) zero le = absurd (omega arith)
past none (x ∷ xs) (suc n) le = past none xs n (omega arith)

module _ (fs : List ObjectValue) (m : LinkMapValue) (rules : List RelocRule) (is : IsSoundMapButOptions fs m)
    (clean : FirstAt (applied_entry_rules fs m rules) None) where
  abbrev IsCopy : ℕ → ℕ → Option (List ℕ) → Type 0
  IsCopy f s copy = MatchOption copy (¬ HasLiveBits fs f s) (AreBytesOf fs m rules f s)

  -- the bytes of a live section with bits are those of memory
  section_bytes : (f s : ℕ) → HasLiveBits fs f s → (bytes : List ℕ) × AreBytesOf fs m rules f s bytes
  section_bytes f s (section, live, bits) =
      let stand = apart_of fs m is in
      let (a, begins) = (stand.addressed f s).0 (section.0, section.1, live, refl) in
      let (bytes, are) = gathered (λ k v. IsMemory fs m rules (a + k) v) (length (content_in fs f s))
      (λ k lt. content_byte fs m rules stand clean.1.1.0 clean.1.1.1.0 clean.1.0 f s a k
      (sound_of fs m is).discarded section.0 live begins lt) in (
        bytes,
        record {
          live = (section, live, bits);
          long = are.count;
          memory = (a, begins, λ k lt. are.each k (let count = are.count in omega arith));
        },
      )

  some_copy : (f s : ℕ) → ¬ ((copy : Option (List ℕ)) → ¬ IsCopy f s copy)
  some_copy f s none = none None (λ there. (let (bytes, are) = section_bytes f s there in none (Some bytes) are))

  -- a section that no file has has no bytes
  copy_in : (copies : List (List (Option (List ℕ)))) →
      AreEach [] (λ f. AreEach None (IsCopy f) (length (object_at fs f).sections)) (length fs) copies → (f s : ℕ) →
      IsCopy f s (get_or (get_or copies f []) s None)
  copy_in copies are f s = elim (cases_lt f (length fs)) [
    | inr above ↦
        let row : get_or copies f [] ≡ [] = past [] copies f (let count = are.count in omega arith) in
        subst (λ (xs : List (Option (List ℕ))). IsCopy f s (get_or xs s None)) (sym row) (λ there. (let below = there.0.0 in omega arith))
    | inl f_in ↦ elim (cases_lt s (length (object_at fs f).sections)) [
      | inl s_in ↦ (are.each f f_in).each s s_in
      | inr above ↦
          let cell : get_or (get_or copies f []) s None ≡ None =
          past None (get_or copies f []) s (let count = (are.each f f_in).count in omega arith) in
          subst (IsCopy f s) (sym cell) (λ there. (let below = there.0.1 in omega arith))
    ]
  ]

  some_copies : ¬ ((l : LinkedValue) → ¬ IsLinked fs m rules l)
  some_copies none =
      some_each [] (λ f. AreEach None (IsCopy f) (length (object_at fs f).sections)) (length fs)
      (λ f f_in. some_each None (IsCopy f) (length (object_at fs f).sections) (λ s s_in. some_copy f s))
      (λ copies are. none (record { map = m; objects = fs; rules = rules; copies = copies }) (record {
        sound = clean;
        same_map = refl;
        same_objects = refl;
        same_rules = refl;
        grid = record { files = are.count; sections = λ f f_in. (are.each f f_in).count };
        bytes = copy_in copies are;
      }))

pub some_linked : (fs : List ObjectValue) (m : LinkMapValue) (rules : List RelocRule) → IsSoundMapButOptions fs m →
    FirstAt (applied_entry_rules fs m rules) None → ¬ ((l : LinkedValue) → ¬ IsLinked fs m rules l)
some_linked = some_copies

-- Relocated bytes of some objects, their map and relocation rules are ready to be written, where the map is one that `map` answers.

pub ready_of : (fs : List ObjectValue) (m : LinkMapValue) (rules : List RelocRule) (l : LinkedValue) → IsSoundMap fs m →
    IsLinked fs m rules l → IsSoundLinked l
ready_of fs m rules l is linked = record {
  map = subst (λ (n : LinkMapValue). IsSoundMap l.objects n) (sym linked.same_map)
      (subst (λ (gs : List ObjectValue). IsSoundMap gs m) (sym linked.same_objects) is);
  linked =
      subst (λ (rs : List RelocRule). IsLinked l.objects l.map rs l) (sym linked.same_rules)
      (subst (λ (n : LinkMapValue). IsLinked l.objects n rules l) (sym linked.same_map)
      (subst (λ (gs : List ObjectValue). IsLinked gs m rules l) (sym linked.same_objects) linked));
}

pub if_ready : {E : Type 0} (fs : List ObjectValue) (m : LinkMapValue) (rules : List RelocRule) (r : Result LinkedValue E) →
    IfOk r (IsLinked fs m rules) →
    IfOk r (λ linked. IsSoundMap fs m → IsSoundLinked linked)
if_ready fs m rules (Ok l) linked = λ is. ready_of fs m rules l is linked
if_ready fs m rules (Err fault) linked = linked
