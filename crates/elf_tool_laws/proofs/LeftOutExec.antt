-- The same rule of relocations is broken first, at the same site, and the executable has the same bytes: it is made of memory, and of what
-- the link map has beside names.
use Rattle.std.proofs.Common.{◌≡◌, ◌∙◌, ◌<◌, ◌+◌, ◌*◌, ℕ, List, [], ◌∷◌, ap, arith, get_or, inl, inr, length, refl, subst, sym}
use Rattle.std.proofs.lemmas.Bool.{cases_lt}
use Rattle.std.proofs.lemmas.List.{get_or_past}
use Rattle.std.specs.List.{flat_map}
use Rattle.std.specs.Prelude.{MatchOption, None, Option, Some, slice_index}
use Rattle.elf_exec.specs.ExecWriting.{IsTooLongFor}
use Rattle.elf_exec.specs.Executable.{AreLoadBytes, ExecFits, ExecLaid, LoadsLink, bytes_from, exec_bytes, exec_header, header_bytes}
use Rattle.elf_exec.specs.Executable.{load_parts}
use Rattle.elf_exec.specs.Executable.{program_headers, table_bytes}
use Rattle.elf_exec.specs.Pages.{IsAskedFor, IsInSection, LoadsPages}
use Rattle.elf_extent.specs.Extent.{Never}
use Rattle.elf_extent.specs.Place.{Least}
use Rattle.elf_field.specs.Abi.{EHDR_SIZE, PHDR_SIZE}
use Rattle.elf_field.specs.Headers.{ehdr_bytes, phdr_bytes}
use Rattle.elf_field.specs.declared.number.Order.{Order}
use Rattle.elf_field.specs.declared.phdr.Phdr.{Phdr}
use Rattle.elf_image_rules.specs.Rows.{Row, Ruled}
use Rattle.elf_image_rules.specs.Tables.{program_header_of}
use Rattle.elf_image_type.specs.WrittenFile.{spread}
use Rattle.elf_link_field.specs.Field.{HasNoRelocationRule}
use Rattle.elf_link_field.specs.declared.rule.RelocRule.{RelocRule}
use Rattle.elf_link_files.specs.Files.{no_object, object_at, section_in}
use Rattle.elf_link_files.specs.Rows.{AreEach, FirstAt, IsFirstAt}
use Rattle.elf_link_files.specs.declared.fault.Options.{Options}
use Rattle.elf_link_files.specs.declared.site.Site.{Site}
use Rattle.elf_link_map.specs.LinkMap.{IsLinkMap, LinkMapValue}
use Rattle.elf_link_map.specs.declared.bindings.Binding.{Binding}
use Rattle.elf_link_relocate.specs.Fields.{HasOffset, IsWithin}
use Rattle.elf_link_relocate.specs.Fields.{applied_entry_rules, fields_overlap, no_rule, unplaced}
use Rattle.elf_link_relocate.specs.Fields.{field_out_of_range, value_out_of_range}
use Rattle.elf_link_relocate.specs.Linked.{IsMemory, identity_of}
use Rattle.elf_link_outputs.specs.Outputs.{memory_size}
use Rattle.elf_link_relocate.specs.Loads.{load_in, loads, no_load, segment_flags}
use Rattle.elf_link_relocate.specs.declared.linked.Identity.{Identity}
use Rattle.elf_link_relocate.specs.declared.load.Load.{Load}
use Rattle.elf_object_type.specs.Object.{ObjectValue}
use Rattle.elf_tool_laws.proofs.LeftOutNumbers.{value_same}
use Rattle.elf_tool_laws.proofs.LeftOutPlans.{body_before, flags_before, memory_by}
use Rattle.elf_tool_laws.proofs.LeftOutMemory.{applied_here, applied_there, content_is, field_here, field_there, kind_before, memory_here}
use Rattle.elf_tool_laws.proofs.LeftOutMemory.{memory_there, number_is, start_before, target_is}
use Rattle.elf_tool_laws.specs.LeftOut.{AreLessSymbols, with_bindings}

-- ---- lists of rules that are broken at the same sites

abbrev AreSameRules : List {1} (Ruled Site) → List {1} (Ruled Site) → Type 0
AreSameRules [] [] = Unit {0}
AreSameRules [] (s ∷ others) = ⊥
AreSameRules (r ∷ rules) [] = ⊥
AreSameRules (r ∷ rules) (s ∷ others) =
    ((r.number ≡ s.number) × (((p : Site) → r.row p → s.row p) × ((p : Site) → s.row p → r.row p))) × AreSameRules rules others

first_as : (R S : Row Site) → ((p : Site) → R p → S p) → ((p : Site) → S p → R p) → (p : Site) → IsFirstAt R p → IsFirstAt S p
first_as R S to from p first = record { stands = to p first.stands; first = λ q is. first.first q (from q is) }

never_as : (R S : Row Site) → ((p : Site) → S p → R p) → Never R → Never S
never_as R S from never p is = never p (from p is)

first_same : (rules others : List {1} (Ruled Site)) → AreSameRules rules others → (x : Option (ℕ × Site)) → FirstAt rules x →
    FirstAt others x
first_same [] [] are x first = first
first_same [] (s ∷ others) are x first = absurd are
first_same (r ∷ rules) [] are x first = absurd are
first_same (r ∷ rules) (s ∷ others) ((number, (to, from)), are) None (never, rest) =
    (never_as r.row s.row from never, first_same rules others are None rest)
first_same (r ∷ rules) (s ∷ others) ((number, (to, from)), are) (Some f) (inl (is, first)) =
    inl (is ∙ number, first_as r.row s.row to from f.1 first)
first_same (r ∷ rules) (s ∷ others) ((number, (to, from)), are) (Some f) (inr (never, rest)) =
    inr (never_as r.row s.row from never, first_same rules others are (Some f) rest)

-- ---- what is made of a link map does not look at its bindings

loads_alone : (m : LinkMapValue) (bs : List (List ℕ × Binding)) → loads (with_bindings m bs) ≡ loads m
unfolding loads
loads_alone m bs = refl

parts_alone : (m : LinkMapValue) (bs : List (List ℕ × Binding)) → load_parts (with_bindings m bs) ≡ load_parts m
unfolding loads load_parts
parts_alone m bs = refl

module _ (fs gs : List ObjectValue) (at : ℕ → ℕ → ℕ) (r : AreLessSymbols fs gs at) (opt : Options) (m : LinkMapValue)
    (bs : List (List ℕ × Binding)) (is : IsLinkMap opt fs (with_bindings m bs)) (also : IsLinkMap opt gs m) (rules : List RelocRule) where
  abbrev n : LinkMapValue
  n = with_bindings m bs

  -- ---- rules 12 to 16

  unruled_here : (p : Site) → no_rule gs rules p → no_rule fs rules p
  unruled_here p (applied, none) = (
    applied_here fs gs at r opt m bs is also p applied,
    subst (λ (kind : ℕ). HasNoRelocationRule kind rules) (kind_before fs gs at r opt m bs is also p) none,
  )

  unruled_there : (p : Site) → no_rule fs rules p → no_rule gs rules p
  unruled_there p (applied, none) = (
    applied_there fs gs at r opt m bs is also p applied,
    subst (λ (kind : ℕ). HasNoRelocationRule kind rules) (sym (kind_before fs gs at r opt m bs is also p)) none,
  )

  unplaced_here : (p : Site) → unplaced gs m rules p → unplaced fs n rules p
  unplaced_here p (rule, field, none) = (
    rule,
    field_here fs gs at r opt m bs is also rules p rule field,
    value_same fs gs at r opt m bs is also p field.applied.0.file ∙ none,
  )

  unplaced_there : (p : Site) → unplaced fs n rules p → unplaced gs m rules p
  unplaced_there p (rule, field, none) =
      let there = field_there fs gs at r opt m bs is also rules p rule field in
      (rule, there, sym (value_same fs gs at r opt m bs is also p there.applied.0.file) ∙ none)

  within_here : (p : Site) (rule : RelocRule) → IsWithin gs p rule → IsWithin fs p rule
  within_here p rule within =
      let start = start_before fs gs at r opt m bs is also p in
      let long = ap (λ (c : List ℕ). length c) (content_is fs gs at r opt m bs is also p) in
      omega arith

  within_there : (p : Site) (rule : RelocRule) → IsWithin fs p rule → IsWithin gs p rule
  within_there p rule within =
      let start = start_before fs gs at r opt m bs is also p in
      let long = ap (λ (c : List ℕ). length c) (content_is fs gs at r opt m bs is also p) in
      omega arith

  outside_here : (p : Site) → field_out_of_range gs rules p → field_out_of_range fs rules p
  outside_here p (rule, field, past) =
      (rule, field_here fs gs at r opt m bs is also rules p rule field, λ within. past (within_there p rule within))

  outside_there : (p : Site) → field_out_of_range fs rules p → field_out_of_range gs rules p
  outside_there p (rule, field, past) =
      (rule, field_there fs gs at r opt m bs is also rules p rule field, λ within. past (within_here p rule within))

  offset_here : (p : Site) (rule : RelocRule) (x : ℕ) → HasOffset gs p rule x → HasOffset fs p rule x
  offset_here p rule x (low, high) = (let start = start_before fs gs at r opt m bs is also p in (omega arith, omega arith))

  offset_there : (p : Site) (rule : RelocRule) (x : ℕ) → HasOffset fs p rule x → HasOffset gs p rule x
  offset_there p rule x (low, high) = (let start = start_before fs gs at r opt m bs is also p in (omega arith, omega arith))

  overlap_here : (p : Site) → fields_overlap gs rules p → fields_overlap fs rules p
  overlap_here p (rule, field, (q, other, before, also_field, ((file, target), (x, one, two)))) = (
    rule,
    field_here fs gs at r opt m bs is also rules p rule field,
    (
      q,
      other,
      before,
      field_here fs gs at r opt m bs is also rules q other also_field,
      (
        (file, sym (target_is fs gs at r opt m bs is also q) ∙ target ∙ target_is fs gs at r opt m bs is also p),
        (x, offset_here q other x one, offset_here p rule x two),
      ),
    ),
  )

  overlap_there : (p : Site) → fields_overlap fs rules p → fields_overlap gs rules p
  overlap_there p (rule, field, (q, other, before, also_field, ((file, target), (x, one, two)))) = (
    rule,
    field_there fs gs at r opt m bs is also rules p rule field,
    (
      q,
      other,
      before,
      field_there fs gs at r opt m bs is also rules q other also_field,
      (
        (file, target_is fs gs at r opt m bs is also q ∙ target ∙ sym (target_is fs gs at r opt m bs is also p)),
        (x, offset_there q other x one, offset_there p rule x two),
      ),
    ),
  )

  number_here : (p : Site) → value_out_of_range gs m rules p → value_out_of_range fs n rules p
  number_here p (rule, field, (within, (z, number, refused))) = (
    rule,
    field_here fs gs at r opt m bs is also rules p rule field,
    (within_here p rule within, (z, number_is fs gs at r opt m bs is also p rule rules field ∙ number, refused)),
  )

  number_there : (p : Site) → value_out_of_range fs n rules p → value_out_of_range gs m rules p
  number_there p (rule, field, (within, (z, number, refused))) =
      let there = field_there fs gs at r opt m bs is also rules p rule field in
      (rule, there, (within_there p rule within, (z, sym (number_is fs gs at r opt m bs is also p rule rules there) ∙ number, refused)))

  pub first_here : (x : Option (ℕ × Site)) → FirstAt (applied_entry_rules gs m rules) x → FirstAt (applied_entry_rules fs n rules) x
  first_here =
      first_same (applied_entry_rules gs m rules) (applied_entry_rules fs n rules) (
        (refl, (unruled_here, unruled_there)),
        (
          (refl, (unplaced_here, unplaced_there)),
          (
            (refl, (outside_here, outside_there)),
            (
              (refl, (overlap_here, overlap_there)),
              ((refl, (number_here, number_there)), tt),
            ),
          ),
        ),
      )

  -- ---- the executable

  identity_same : identity_of gs ≡ identity_of fs
  identity_same = elim (cases_lt 0 (length fs)) [
    | inl some ↦ (
        let of = r.each 0 some in
        let o = object_at gs 0 in
        let p = object_at fs 0 in
        ap (λ (x : Order). record { order = x; osabi = o.osabi; abi = o.abi; machine = o.machine; flags = o.flags }) of.order
        ∙ ap (λ (x : ℕ). record { order = p.order; osabi = x; abi = o.abi; machine = o.machine; flags = o.flags }) of.osabi
        ∙ ap (λ (x : ℕ). record { order = p.order; osabi = p.osabi; abi = x; machine = o.machine; flags = o.flags }) of.abi
        ∙ ap (λ (x : ℕ). record { order = p.order; osabi = p.osabi; abi = p.abi; machine = x; flags = o.flags }) of.machine
        ∙ ap (λ (x : ℕ). record { order = p.order; osabi = p.osabi; abi = p.abi; machine = p.machine; flags = x }) of.flags)
    | inr none ↦ (
        let files = r.files in
        let same : object_at gs 0 ≡ object_at fs 0 =
        get_or_past gs 0 no_object (omega arith) ∙ sym (get_or_past fs 0 no_object (omega arith)) in
        ap (λ (o : ObjectValue). record { order = o.order; osabi = o.osabi; abi = o.abi; machine = o.machine; flags = o.flags }) same)
  ]

  exec_same : (places : List ℕ) (contents : List (List ℕ)) → exec_bytes gs m places contents ≡ exec_bytes fs n places contents
  unfolding exec_bytes header_bytes table_bytes loads
  exec_same places contents =
      ap (λ (i : Identity). spread 0 (0 ∷ EHDR_SIZE ∷ places) (ehdr_bytes i.order (exec_header i m.entry (length (loads m))) ∷
      flat_map (phdr_bytes i.order) (program_headers m.page (loads m) places) ∷ contents)) identity_same

  load_bytes_here : (load : Load) (bytes : List ℕ) → AreLoadBytes gs m rules load bytes → AreLoadBytes fs n rules load bytes
  load_bytes_here load bytes are = record {
    long = are.long;
    memory = λ k lt. memory_here fs gs at r opt m bs is also rules (load.address + k) (slice_index bytes k) (are.memory k lt);
  }

  load_bytes_there : (load : Load) (bytes : List ℕ) → AreLoadBytes fs n rules load bytes → AreLoadBytes gs m rules load bytes
  load_bytes_there load bytes are = record {
    long = are.long;
    memory = λ k lt. memory_there fs gs at r opt m bs is also rules (load.address + k) (slice_index bytes k) (are.memory k lt);
  }

  laid_here : (b : List ℕ) → ExecLaid gs m rules b → ExecLaid fs n rules b
  laid_here b laid = record {
    places = laid.places;
    contents = laid.contents;
    least = subst (λ (ls : List Load). Least (load_parts n) (EHDR_SIZE + PHDR_SIZE * length ls) laid.places) (sym (loads_alone m bs))
        (subst (λ (ps : List (ℕ × ℕ)). Least ps (bytes_from m) laid.places) (sym (parts_alone m bs)) laid.least);
    memory = subst (λ (ls : List Load). AreEach [] (λ j. AreLoadBytes fs n rules (get_or ls j no_load)) (length ls) laid.contents)
        (sym (loads_alone m bs))
        (record {
          count = laid.memory.count;
          each = λ j lt. load_bytes_here (load_in m j) (get_or laid.contents j []) (laid.memory.each j lt);
        });
    bytes = laid.bytes ∙ exec_same laid.places laid.contents;
  }

  laid_there : (b : List ℕ) → ExecLaid fs n rules b → ExecLaid gs m rules b
  laid_there b laid = record {
    places = laid.places;
    contents = laid.contents;
    least = subst (λ (ls : List Load). Least (load_parts m) (EHDR_SIZE + PHDR_SIZE * length ls) laid.places) (loads_alone m bs)
        (subst (λ (ps : List (ℕ × ℕ)). Least ps (bytes_from n) laid.places) (parts_alone m bs) laid.least);
    memory = subst (λ (ls : List Load). AreEach [] (λ j. AreLoadBytes gs m rules (get_or ls j no_load)) (length ls) laid.contents)
        (loads_alone m bs)
        (record {
          count = laid.memory.count;
          each = λ j lt. load_bytes_there (load_in n j) (get_or laid.contents j []) (laid.memory.each j lt);
        });
    bytes = laid.bytes ∙ sym (exec_same laid.places laid.contents);
  }

  pub fits_here : (b : List ℕ) → ExecFits gs m rules b → ExecFits fs n rules b
  fits_here b fits = record {
    laid = laid_here b fits.laid;
    few = (let count = ap (λ (ls : List Load). length ls) (loads_alone m bs) in let few = fits.few in omega arith);
    short = fits.short;
  }

  found_here : (x : ℕ) (found : Option ℕ) → MatchOption found ((w : ℕ) → ¬ IsMemory gs m rules x w) (IsMemory gs m rules x) →
      MatchOption found ((w : ℕ) → ¬ IsMemory fs n rules x w) (IsMemory fs n rules x)
  found_here x None none = λ w there. none w (memory_there fs gs at r opt m bs is also rules x w there)
  found_here x (Some w) there = memory_here fs gs at r opt m bs is also rules x w there

  -- ---- its pages

  in_section_there : (f s x : ℕ) → IsInSection fs n f s x → IsInSection gs m f s x
  in_section_there f s x (a, begins, from, to) =
      let size = body_before fs gs at r memory_size memory_by f s in
      (a, begins, from, omega arith)

  flags_here : (f s : ℕ) → segment_flags (section_in gs f s).flags ≡ segment_flags (section_in fs f s).flags
  flags_here f s = ap segment_flags (flags_before fs gs at r f s)

  asked_here : (segment : Phdr) → IsAskedFor gs m segment → IsAskedFor fs n segment
  asked_here segment (inl (f, s, begins, flags)) = inl (f, s, begins, flags ∙ flags_here f s)
  asked_here segment (inr commons) = inr commons

  pages_here : (size : ℕ) (b : List ℕ) → LoadsPages size gs m rules b → LoadsPages size fs n rules b
  pages_here size b pages = record {
    own = pages.own;
    memory = λ v stands x w. (
      (λ given. memory_here fs gs at r opt m bs is also rules x w ((pages.memory v stands x w).0 given)),
      (λ there. (pages.memory v stands x w).1 (memory_there fs gs at r opt m bs is also rules x w there)),
    );
    asked = λ v stands j lt. (
        let (each, some) = pages.asked v stands j lt in (
          (λ f s x inside has. each f s x (in_section_there f s x inside) has ∙ flags_here f s),
          asked_here (program_header_of v.segments j) some,
        ));
  }

  pub loads_here : (b : List ℕ) → LoadsLink gs m rules b → LoadsLink fs n rules b
  loads_here b link = record {
    accepted = link.accepted;
    image = link.image;
    entry = link.entry;
    memory = λ v stands x w. (
      (λ given. memory_here fs gs at r opt m bs is also rules x w ((link.memory v stands x w).0 given)),
      (λ there. (link.memory v stands x w).1 (memory_there fs gs at r opt m bs is also rules x w there)),
    );
    load = λ v stands x found first. found_here x found (link.load v stands x found first);
    pages = λ size some divides. pages_here size b (link.pages size some divides);
    one = λ c laid. link.one c (laid_there c laid);
  }

  pub long_here : IsTooLongFor gs m rules → IsTooLongFor fs n rules
  long_here (inl many) = inl (let count = ap (λ (ls : List Load). length ls) (loads_alone m bs) in omega arith)
  long_here (inr (b, laid, long)) = inr (b, laid_here b laid, long)
