-- Fields are the same before and after, with the same numbers. So memory has the same bytes.
use Rattle.std.proofs.Common.{◌≡◌, ◌∙◌, ◌<◌, ℕ, List, ap, arith, inl, inr, length, subst, sym}
use Rattle.std.proofs.lemmas.List.{length-map}
use Rattle.std.specs.Prelude.{ℤ, slice_index}
use Rattle.elf_field.specs.Bytes.{bytes_of}
use Rattle.elf_field.specs.declared.number.Order.{Order}
use Rattle.elf_link_field.specs.Field.{IsFirstRelocationRule, modulo, size_of}
use Rattle.elf_link_field.specs.declared.rule.RelocRule.{RelocRule}
use Rattle.elf_link_files.specs.Files.{Live, section_in}
use Rattle.elf_link_files.specs.declared.fault.Options.{Options}
use Rattle.elf_link_files.specs.declared.site.Site.{Site}
use Rattle.elf_link_map.specs.LinkMap.{IsLinkMap, LinkMapValue}
use Rattle.elf_link_map.specs.declared.bindings.Binding.{Binding}
use Rattle.elf_link_relocate.specs.Fields.{HasField, IsApplied, IsEntrySite}
use Rattle.elf_link_relocate.specs.Fields.{content_at, content_in}
use Rattle.elf_link_relocate.specs.Fields.{entries_of, entry_at, field_address, field_start, number_at, target_at}
use Rattle.elf_link_relocate.specs.Linked.{IsFieldByte, IsInContent, IsInField, IsMemory, number_byte}
use Rattle.elf_object_type.specs.Object.{ObjectValue, SectionValue}
use Rattle.elf_object_type.specs.declared.relocations.Relocation.{Relocation}
use Rattle.elf_tool_laws.proofs.LeftOut.{discarded_here, discarded_there}
use Rattle.elf_tool_laws.proofs.LeftOutNumbers.{address_same, content_before, entries_by, entry_before, number_same, order_before}
use Rattle.elf_tool_laws.proofs.LeftOutNumbers.{target_before, target_content_before}
use Rattle.elf_tool_laws.proofs.LeftOutPlans.{count_before, live_here, live_there, section_before}
use Rattle.elf_tool_laws.specs.LeftOut.{AreLessSymbols, relocation_by, with_bindings}

module _ (fs gs : List ObjectValue) (at : ℕ → ℕ → ℕ) (r : AreLessSymbols fs gs at) (opt : Options) (m : LinkMapValue)
    (bs : List (List ℕ × Binding)) (is : IsLinkMap opt fs (with_bindings m bs)) (also : IsLinkMap opt gs m) where
  -- ---- entries and their fields

  pub kind_before : (p : Site) → (entry_at gs p).kind ≡ (entry_at fs p).kind
  kind_before p = ap (λ (e : Relocation). e.kind) (entry_before fs gs at r opt m bs is also p)

  pub start_before : (p : Site) → field_start gs p ≡ field_start fs p
  start_before p = ap (λ (e : Relocation). e.offset) (entry_before fs gs at r opt m bs is also p)

  pub target_is : (p : Site) → target_at gs p ≡ target_at fs p
  target_is = target_before fs gs at r opt m bs is also

  pub content_is : (p : Site) → content_at gs p ≡ content_at fs p
  content_is = target_content_before fs gs at r opt m bs is also

  entries_before : (f s : ℕ) → length (entries_of (section_in gs f s).body) ≡ length (entries_of (section_in fs f s).body)
  entries_before f s =
      sym (length-map (entries_of (section_in gs f s).body) (relocation_by (at f)))
      ∙ ap (λ (es : List Relocation). length es)
      (sym (entries_by (at f) (section_in gs f s).body) ∙ ap (λ (x : SectionValue). entries_of x.body) (section_before fs gs at r f s))

  site_here : (p : Site) → IsEntrySite gs p → IsEntrySite fs p
  site_here p at_site = record {
    file = (let files = r.files in let lt = at_site.file in omega arith);
    section = (let count = count_before fs gs at r p.file in let lt = at_site.section in omega arith);
    entry = (let count = entries_before p.file p.index in let lt = at_site.entry in omega arith);
  }

  site_there : (p : Site) → IsEntrySite fs p → IsEntrySite gs p
  site_there p at_site = record {
    file = (let files = r.files in let lt = at_site.file in omega arith);
    section = (let count = count_before fs gs at r p.file in let lt = at_site.section in omega arith);
    entry = (let count = entries_before p.file p.index in let lt = at_site.entry in omega arith);
  }

  pub applied_here : (p : Site) → IsApplied gs p → IsApplied fs p
  applied_here p (at_site, (kept, live)) = (
    site_here p at_site,
    (
      (λ gone. kept (discarded_there fs gs at r p.file p.index gone)),
      subst (λ (t : ℕ). Live fs p.file t) (target_is p) (live_here fs gs at r p.file (target_at gs p) live),
    ),
  )

  pub applied_there : (p : Site) → IsApplied fs p → IsApplied gs p
  applied_there p (at_site, (kept, live)) = (
    site_there p at_site,
    (
      (λ gone. kept (discarded_here fs gs at r p.file p.index gone)),
      subst (λ (t : ℕ). Live gs p.file t) (sym (target_is p)) (live_there fs gs at r p.file (target_at fs p) live),
    ),
  )

  pub field_here : (rules : List RelocRule) (p : Site) (rule : RelocRule) → HasField gs rules p rule → HasField fs rules p rule
  field_here rules p rule field = record {
    applied = applied_here p field.applied;
    rule = subst (λ (kind : ℕ). IsFirstRelocationRule kind rules rule) (kind_before p) field.rule;
    form = field.form;
  }

  pub field_there : (rules : List RelocRule) (p : Site) (rule : RelocRule) → HasField fs rules p rule → HasField gs rules p rule
  field_there rules p rule field = record {
    applied = applied_there p field.applied;
    rule = subst (λ (kind : ℕ). IsFirstRelocationRule kind rules rule) (sym (kind_before p)) field.rule;
    form = field.form;
  }

  -- ---- memory

  pub number_is : (p : Site) (rule : RelocRule) (rules : List RelocRule) → HasField gs rules p rule →
      number_at fs (with_bindings m bs) p rule ≡ number_at gs m p rule
  number_is p rule rules field = number_same fs gs at r opt m bs is also p rule field.applied.0.file

  address_is : (p : Site) → field_address fs (with_bindings m bs) p ≡ field_address gs m p
  address_is = address_same fs gs at r opt m bs is also

  byte_is : (p : Site) (rule : RelocRule) (z : ℤ) (k : ℕ) → number_byte gs p rule z k ≡ number_byte fs p rule z k
  byte_is p rule z k =
      ap (λ (order : Order). (let n = size_of rule.width in slice_index (bytes_of order n (modulo n z)) k))
      (order_before fs gs at r opt m bs is also p.file)

  in_field_here : (rules : List RelocRule) (x : ℕ) (p : Site) (rule : RelocRule) (k : ℕ) → IsInField gs m rules x p rule k →
      IsInField fs (with_bindings m bs) rules x p rule k
  in_field_here rules x p rule k (field, lt, place) =
      (field_here rules p rule field, lt, (let same = address_is p in omega arith))

  in_field_there : (rules : List RelocRule) (x : ℕ) (p : Site) (rule : RelocRule) (k : ℕ) →
      IsInField fs (with_bindings m bs) rules x p rule k → IsInField gs m rules x p rule k
  in_field_there rules x p rule k (field, lt, place) =
      (field_there rules p rule field, lt, (let same = address_is p in omega arith))

  field_byte_here : (rules : List RelocRule) (x v : ℕ) → IsFieldByte gs m rules x v → IsFieldByte fs (with_bindings m bs) rules x v
  field_byte_here rules x v (p, rule, k, in_field, (z, number, byte)) = (
    p,
    rule,
    k,
    in_field_here rules x p rule k in_field,
    (z, number_is p rule rules in_field.0 ∙ number, byte ∙ byte_is p rule z k),
  )

  field_byte_there : (rules : List RelocRule) (x v : ℕ) → IsFieldByte fs (with_bindings m bs) rules x v → IsFieldByte gs m rules x v
  field_byte_there rules x v (p, rule, k, in_field, (z, number, byte)) =
      let there = in_field_there rules x p rule k in_field in (
        p,
        rule,
        k,
        there,
        (z, sym (number_is p rule rules there.0) ∙ number, byte ∙ sym (byte_is p rule z k)),
      )

  content_bytes : (f s : ℕ) → content_in gs f s ≡ content_in fs f s
  content_bytes = content_before fs gs at r opt m bs is also

  in_content_here : (x f s k : ℕ) → IsInContent gs m x f s k → IsInContent fs (with_bindings m bs) x f s k
  in_content_here x f s k (lt, placed) = (subst (λ (c : List ℕ). k < length c) (content_bytes f s) lt, placed)

  in_content_there : (x f s k : ℕ) → IsInContent fs (with_bindings m bs) x f s k → IsInContent gs m x f s k
  in_content_there x f s k (lt, placed) = (subst (λ (c : List ℕ). k < length c) (sym (content_bytes f s)) lt, placed)

  pub memory_here : (rules : List RelocRule) (x v : ℕ) → IsMemory gs m rules x v → IsMemory fs (with_bindings m bs) rules x v
  memory_here rules x v (inl byte) = inl (field_byte_here rules x v byte)
  memory_here rules x v (inr (no_field, rest)) = inr (
    (λ (p, rule, k, in_field). no_field (p, rule, k, in_field_there rules x p rule k in_field)),
    elim rest [
      | inl (f, s, k, content, byte) ↦ inl (
        f,
        s,
        k,
        in_content_here x f s k content,
        byte ∙ ap (λ (c : List ℕ). slice_index c k) (content_bytes f s),
      )
      | inr (no_content, there, zero_is) ↦ inr (
        (λ (f, s, k, content). no_content (f, s, k, in_content_there x f s k content)),
        there,
        zero_is,
      )
    ],
  )

  pub memory_there : (rules : List RelocRule) (x v : ℕ) → IsMemory fs (with_bindings m bs) rules x v → IsMemory gs m rules x v
  memory_there rules x v (inl byte) = inl (field_byte_there rules x v byte)
  memory_there rules x v (inr (no_field, rest)) = inr (
    (λ (p, rule, k, in_field). no_field (p, rule, k, in_field_here rules x p rule k in_field)),
    elim rest [
      | inl (f, s, k, content, byte) ↦ inl (
        f,
        s,
        k,
        in_content_there x f s k content,
        byte ∙ ap (λ (c : List ℕ). slice_index c k) (sym (content_bytes f s)),
      )
      | inr (no_content, there, zero_is) ↦ inr (
        (λ (f, s, k, content). no_content (f, s, k, in_content_here x f s k content)),
        there,
        zero_is,
      )
    ],
  )
