-- In the relocated bytes of a link every applied field holds its number: the bytes of its target are those of memory, and memory has one
-- byte at each address. So there are no other relocated bytes, and no other answer.
use Rattle.std.proofs.Common.{◌≡◌, ℕ, ◌+◌, ◌<◌, List, [], get_or, length, true, inl, refl, sym, ◌∙◌, ap, subst, arith, Result, Ok, Err}
use Rattle.std.specs.Prelude.{IfErr, IfOk, MatchOption, None, OnOk, Option, Some, slice_index}
use Rattle.std.proofs.lemmas.List.{ext_get_or}
use Rattle.elf_link_field.specs.Field.{relocation_number, size_of}
use Rattle.elf_link_field.specs.declared.rule.RelocRule.{RelocRule}
use Rattle.elf_link_field.specs.declared.rule.Width.TheVariants.{W1, W2, W4, W8}
use Rattle.elf_link_field.specs.declared.rule.Width.{Width}
use Rattle.elf_link_files.proofs.Public.{one_found}
use Rattle.elf_link_files.specs.Files.{section_in}
use Rattle.elf_link_files.specs.Rows.{FirstAt}
use Rattle.elf_link_files.specs.declared.fault.LinkFault.TheVariants.{OutOfMemory, Rule}
use Rattle.elf_link_files.specs.declared.fault.LinkFault.{LinkFault}
use Rattle.elf_link_files.specs.declared.site.Site.{Site}
use Rattle.elf_link_map.specs.LinkMap.{IsOnlyFault, IsOnlyFirst, LinkMapValue}
use Rattle.elf_link_map.specs.Standing.{address_in, or_zero}
use Rattle.elf_link_relocate.proofs.Memories.{apart_of, live_in, one_byte, same_place, some_number, within_of}
use Rattle.elf_link_relocate.specs.Fields.{HasField, IsRelocationFault, IsWithin, addend_of, applied_entry_rules, content_of, field_address}
use Rattle.elf_link_relocate.specs.Fields.{field_start, target_at, value_at}
use Rattle.elf_link_relocate.specs.Linked.{AreBytesOf, FieldsHoldNumbers, HasLiveBits, HoldsNumber}
use Rattle.elf_link_relocate.specs.Linked.{IsLinked, IsSoundMapButOptions, IsMemory}
use Rattle.elf_link_relocate.specs.Linked.{LinkedValue, bytes_at, number_byte}
use Rattle.elf_object_type.specs.Object.{BodyValue, ObjectValue, bits, group, is_bits, no_bits, relocs}

-- ---- small facts

some_bits : (b : BodyValue) → 0 < length (content_of b) → is_bits b ≡ true
some_bits (bits type content) lt = refl
some_bits (no_bits size) lt = absurd (omega arith)
some_bits (relocs rela target entries) lt = absurd (omega arith)
some_bits (group comdat signature members) lt = absurd (omega arith)

pub some_width : (w : Width) → 0 < size_of w
some_width W1 = omega arith
some_width W2 = omega arith
some_width W4 = omega arith
some_width W8 = omega arith

same_linked : (l k : LinkedValue) → l.map ≡ k.map → l.objects ≡ k.objects → l.rules ≡ k.rules → l.copies ≡ k.copies → l ≡ k
same_linked l k map objects rules copies =
    ap (λ (m : LinkMapValue). record { map = m; objects = l.objects; rules = l.rules; copies = l.copies }) map ∙
    ap (λ (fs : List ObjectValue). record { map = k.map; objects = fs; rules = l.rules; copies = l.copies }) objects ∙
    ap (λ (rs : List RelocRule). record { map = k.map; objects = k.objects; rules = rs; copies = l.copies }) rules ∙
    ap (λ (rows : List (List (Option (List ℕ)))). record { map = k.map; objects = k.objects; rules = k.rules; copies = rows }) copies

-- ---- every field holds its number

module _ (fs : List ObjectValue) (m : LinkMapValue) (rules : List RelocRule) (l : LinkedValue) (is : IsSoundMapButOptions fs m)
    (linked : IsLinked fs m rules l) where
  fits : (p : Site) (r : RelocRule) → HasField fs rules p r → IsWithin fs p r
  fits = within_of fs m rules (apart_of fs m is) linked.sound.1.1.0 linked.sound.1.1.1.0

  target_live : (p : Site) (r : RelocRule) → HasField fs rules p r → HasLiveBits fs p.file (target_at fs p)
  target_live p r has =
      let there = live_in fs p.file (target_at fs p) has.applied.0.file has.applied.1.1 in
      let room = fits p r has in
      let some = some_width r.width in
      ((there.0, there.1), has.applied.1.1, some_bits (section_in fs p.file (target_at fs p)).body (omega arith))

  held_in : (p : Site) (r : RelocRule) → HasField fs rules p r → (copy : Option (List ℕ)) → bytes_at l p.file (target_at fs p) ≡ copy →
      MatchOption copy (¬ HasLiveBits fs p.file (target_at fs p)) (AreBytesOf fs m rules p.file (target_at fs p)) → HoldsNumber fs m l p r
  held_in p r has None at never = absurd (never (target_live p r has))
  held_in p r has (Some bytes) at are =
      let room = fits p r has in
      let long = are.long in
      let (a, begins, memory) = are.memory in
      let address : address_in m p.file (target_at fs p) ≡ a = ap or_zero begins in
      let (z, number) = some_number (λ value. relocation_number r.form value (addend_of fs p r) (field_address fs m p)) (value_at fs m p)
      (λ none. linked.sound.1.0 p (r, has, none)) in
      record {
        bytes = bytes;
        number = z;
        at = at;
        within = omega arith;
        is = number;
        holds = λ k k_in.
            one_byte fs m rules is linked.sound (a + (field_start fs p + k)) (slice_index bytes (field_start fs p + k))
            (number_byte fs p r z k)
            (memory (field_start fs p + k) (omega arith)) (inl (p, r, k, (has, k_in, omega arith), (z, number, refl)));
      }

  pub fields_held : FieldsHoldNumbers fs m rules l
  fields_held p r has = held_in p r has (bytes_at l p.file (target_at fs p)) refl (linked.bytes p.file (target_at fs p))

-- ---- no others

module _ (fs : List ObjectValue) (m : LinkMapValue) (rules : List RelocRule) (is : IsSoundMapButOptions fs m) where
  one_copy : (f s : ℕ) (x y : Option (List ℕ)) → FirstAt (applied_entry_rules fs m rules) None →
      MatchOption x (¬ HasLiveBits fs f s) (AreBytesOf fs m rules f s) → MatchOption y (¬ HasLiveBits fs f s) (AreBytesOf fs m rules f s) →
      x ≡ y
  one_copy f s None None clean never none = refl
  one_copy f s None (Some v) clean never are = absurd (never are.live)
  one_copy f s (Some u) None clean are never = absurd (never are.live)
  one_copy f s (Some u) (Some v) clean are other =
      let (a, begins, memory) = are.memory in
      let (b, starts, held) = other.memory in
      let same : a ≡ b = same_place a b (sym begins ∙ starts) in
      let long : length u ≡ length v = are.long ∙ sym other.long in
      ap Some (ext_get_or 0 u v long (λ i lt. one_byte fs m rules is clean (a + i) (slice_index u i) (slice_index v i) (memory i lt)
      (subst (λ c. IsMemory fs m rules (c + i) (slice_index v i)) (sym same) (held i (omega arith)))))

  pub one_linked : (l k : LinkedValue) → IsLinked fs m rules l → IsLinked fs m rules k → k ≡ l
  one_linked l k first second =
      same_linked k l
      (second.same_map ∙ sym first.same_map)
      (second.same_objects ∙ sym first.same_objects)
      (second.same_rules ∙ sym first.same_rules)
      (ext_get_or [] k.copies l.copies (second.grid.files ∙ sym first.grid.files) (λ f lt. (
      let f_in = subst (λ n. f < n) second.grid.files lt in
      ext_get_or None (get_or k.copies f []) (get_or l.copies f []) (second.grid.sections f f_in ∙ sym (first.grid.sections f f_in))
      (λ s s_lt. one_copy f s (bytes_at k f s) (bytes_at l f s) first.sound (second.bytes f s) (first.bytes f s)))))

pub only_first : (fs : List ObjectValue) (m : LinkMapValue) (rules : List RelocRule) (found : Option (ℕ × Site)) →
    FirstAt (applied_entry_rules fs m rules) found → IsOnlyFirst (FirstAt (applied_entry_rules fs m rules)) found
only_first fs m rules found is x there = one_found (applied_entry_rules fs m rules) x found there is

pub only_fault : (fs : List ObjectValue) (m : LinkMapValue) (rules : List RelocRule) (fault : LinkFault) →
    IsRelocationFault fs m rules fault →
    IsOnlyFault (FirstAt (applied_entry_rules fs m rules)) fault
only_fault fs m rules (Rule number file index entry) is =
    only_first fs m rules (Some (number, record { file = file; index = index; entry = entry })) is
only_fault fs m rules OutOfMemory is = tt

-- ---- the same of what a call returns

pub if_ok_linked : (P Q : LinkedValue → Type 0) (r : Result LinkedValue LinkFault) → ((l : LinkedValue) → P l → Q l) → IfOk r P → IfOk r Q
if_ok_linked P Q (Ok l) into is = into l is
if_ok_linked P Q (Err fault) into is = tt

pub on_ok_linked : (P : LinkedValue → Type 0) (Q : Type 0) (r : Result LinkedValue LinkFault) → ((l : LinkedValue) → P l → Q) → IfOk r P →
    OnOk r Q
on_ok_linked P Q (Ok l) into is = into l is
on_ok_linked P Q (Err fault) into is = tt

pub if_err_linked : (P Q : LinkFault → Type 0) (r : Result LinkedValue LinkFault) → ((fault : LinkFault) → P fault → Q fault) → IfErr r P →
    IfErr r Q
if_err_linked P Q (Ok l) into is = tt
if_err_linked P Q (Err fault) into is = into fault is
