-- A system that loads an executable by pages loads the memory of its link. Segments begin at multiples of the page, and those of the file
-- at multiples too, so that a page of memory is one of the file (`paged_is_loaded`). A segment ends before the page of the next one
-- (`pages_apart`). Its permissions are those of its output, which are those of each member (`member_flags`).
use Rattle.std.proofs.Common.{◌≡◌, ◌<◌, ◌≤◌, ◌+◌, ◌-◌, ◌*◌, ◌/◌, ◌%◌, ◌^◌, ℕ, Bool, true, false, List, length, map, get_or, refl, sym, ap}
use Rattle.std.proofs.Common.{subst, ◌∙◌, arith, inl, inr, ap₂}
use Rattle.std.specs.Prelude.{bit_and, if◌then◌else◌, nat_lt, slice_index, ◌↔◌, ◌==◌}
use Rattle.std.proofs.Math.Nat.{add-mul, zero-mod}
use Rattle.std.proofs.lemmas.Bool.{cases_lt}
use Rattle.std.proofs.lemmas.Nat.{and_assoc, div-add-mod', div_below, le-div, mul-mod_second}
use Rattle.std.proofs.lemmas.List.{get_or-map, length-map}
use Rattle.elf_exec.proofs.ExecFile.{exec_read, outputs, page_multiple, paged as are_paged, segment_is, segments_long, stand}
use Rattle.elf_exec.proofs.ExecMemory.{loads_memory, memory_loads}
use Rattle.elf_exec.specs.Executable.{ExecFits, IsSoundLink, program_header, program_headers}
use Rattle.elf_exec.specs.Pages.{HaveOwnPages, IsAsAsked, IsAskedFor, IsInSection, LoadsByPage, LoadsPages, paged}
use Rattle.elf_field.specs.Abi.{PF_R, PF_W, PF_X, SHF_EXECINSTR, SHF_GROUP, SHF_WRITE}
use Rattle.elf_field.specs.declared.phdr.Phdr.{Phdr}
use Rattle.elf_image_outline.specs.Image.{ImageValue, Stands}
use Rattle.elf_image_rules.specs.Tables.{program_header_of}
use Rattle.elf_image_type.specs.ImageView.{HasAddress, loaded}
use Rattle.elf_link_field.specs.declared.rule.RelocRule.{RelocRule}
use Rattle.elf_link_files.specs.Files.{section_in}
use Rattle.elf_link_files.specs.Rows.{site}
use Rattle.elf_link_map.proofs.Public.{member_within}
use Rattle.elf_link_map.specs.LinkMap.{LinkMapValue}
use Rattle.elf_link_map.specs.Standing.{IsMemberAt, member_address, member_at, or_zero, output_at, output_end, size_in, BeginsAt}
use Rattle.elf_link_outputs.specs.Outputs.{output_flags}
use Rattle.elf_link_outputs.specs.Placed.{member_of, members_at}
use Rattle.elf_link_outputs.specs.declared.placing.Member.{Member}
use Rattle.elf_link_relocate.proofs.Public.{commons_some, load_of, load_some, load_stands, loads_apart}
use Rattle.elf_link_relocate.specs.Linked.{IsMemory}
use Rattle.elf_link_relocate.specs.Loads.{file_size, load_in, loads, segment_flags}
use Rattle.elf_link_relocate.specs.declared.load.Load.{Load}
use Rattle.elf_object_type.specs.Object.{ObjectValue}

-- ---- pages of one size

-- a multiple of a number is so many times that
whole : (n k : ℕ) → n % k ≡ 0 → n / k * k ≡ n
whole n k multiple = (let both = div-add-mod' n k in omega arith)

-- a multiple of the page is one of each size that divides the page
divided : (n page size : ℕ) → n % page ≡ 0 → page % size ≡ 0 → n % size ≡ 0
divided n page size multiple divides =
    ap (λ (x : ℕ). x % size) (sym (whole n page multiple)) ∙ sym (mul-mod_second (n / page) page size) ∙
    ap (λ (x : ℕ). (n / page * x) % size) divides ∙ ap (λ (x : ℕ). x % size) (times_zero (n / page)) ∙ zero-mod size
  where
    times_zero : (a : ℕ) → a * 0 ≡ 0
    times_zero a = omega arith

-- what ends where a page begins, or before, and what begins there, or after that, have no page together
pages_apart : (size start x y : ℕ) → 0 < size → start % size ≡ 0 → x < start → start ≤ y → x / size < y / size
pages_apart size start x y some multiple before after =
    let is = whole start size multiple in
    let low = div_below x size (start / size) some (omega arith) in
    let high = le-div (start / size) y size some (omega arith) in
    omega arith

-- where pages of a file become pages of memory, the bytes of a segment that begins at a multiple of the page in both stay in a row
offset_there : (size offset start x : ℕ) → 0 < size → offset % size ≡ 0 → start % size ≡ 0 → start ≤ x →
    (offset / size + (x / size - start / size)) * size + x % size ≡ offset + (x - start)
offset_there size offset start x some file_multiple multiple from =
    let file_is = whole offset size file_multiple in
    let start_is = whole start size multiple in
    let x_is = div-add-mod' x size in
    let ahead : start / size ≤ x / size = le-div (start / size) x size some (omega arith) in
    let pages = x / size - start / size in
    let split = add-mul (offset / size) pages size in
    let again = add-mul (start / size) pages size in
    let sum : start / size + pages ≡ x / size = omega arith in
    let product = ap (λ (n : ℕ). n * size) sum in
    omega arith

-- ---- permissions

kept_write : (flags : ℕ) → bit_and (output_flags flags) SHF_WRITE ≡ bit_and flags SHF_WRITE
kept_write flags = and_assoc SHF_WRITE flags (2 ^ 64 - 1 - SHF_GROUP)

kept_execute : (flags : ℕ) → bit_and (output_flags flags) SHF_EXECINSTR ≡ bit_and flags SHF_EXECINSTR
kept_execute flags = and_assoc SHF_EXECINSTR flags (2 ^ 64 - 1 - SHF_GROUP)

-- the flag GROUP asks for no permission
same_permissions : (flags : ℕ) → segment_flags (output_flags flags) ≡ segment_flags flags
same_permissions flags =
    ap₂ (λ (w e : ℕ). PF_R + (if w == 0 then 0 else PF_W) + (if e == 0 then 0 else PF_X)) (kept_write flags) (kept_execute flags)

module _ (fs : List ObjectValue) (m : LinkMapValue) (rules : List RelocRule) (link : IsSoundLink fs m rules) (b : List ℕ)
    (file : ExecFits fs m rules b) where
  abbrev count : ℕ
  count = length (loads m)

  abbrev places : List ℕ
  places = file.laid.places

  abbrev segments : List Phdr
  segments = program_headers m.page (loads m) places

  abbrev HasLoad : Load → ℕ → Type 0
  HasLoad load x = (load.address ≤ x) × (x < load.address + load.size)

  -- a segment has the addresses of its load
  in_load : (j x : ℕ) → j < count → HasAddress (program_header_of segments j) x → HasLoad (load_in m j) x
  in_load j x lt =
      subst (λ (g : Phdr). HasAddress g x → HasLoad (load_in m j) x) (sym (segment_is fs m rules link b file j lt))
      (λ (is_load, from, to). (from, to))

  -- ---- the members of an output have its flags

  member_flags : (k i : ℕ) → k < length m.outputs → i < length (output_at m k).members →
      (output_at m k).flags ≡
      output_flags (section_in fs (member_at (output_at m k) i).file (member_at (output_at m k) i).section).flags
  member_flags k i lt i_in =
      let (l, plan, of) = link.map.1 in
      let count_is = of.outputs.count in
      let output = of.outputs.each k (omega arith) in
      let sites = members_at l.plan.outputs k in
      let (openers, are, each) = plan.plan.outputs in
      let lists = each.each k (let many = each.count in omega arith) in
      let long = ap length output.members ∙ length-map sites member_of in
      let here = ap (λ (ms : List Member). get_or ms i (record { file = 0; section = 0 })) output.members ∙
      get_or-map member_of sites i (site 0 0) (record { file = 0; section = 0 }) (omega arith) in
      let first = lists.each 0 (omega arith) in
      let this = lists.each i (omega arith) in
      output.flags ∙ first.1.1 ∙ sym this.1.1 ∙
      ap (λ (p : Member). output_flags (section_in fs p.file p.section).flags) (sym here)

  module _ (size : ℕ) (some : 0 < size) (divides : m.page % size ≡ 0) where
    -- ---- pages

    begins : (j : ℕ) → j < count → (load_in m j).address % size ≡ 0
    begins j lt =
        let apart = stand fs m rules link b file in
        let all = outputs fs m rules link b file in
        let stands = load_stands fs m apart all (are_paged fs m rules link b file) j lt in
        divided (load_in m j).address m.page size stands.paged divides

    page_before : (i j x y : ℕ) → i < j → j < count → HasLoad (load_in m i) x → HasLoad (load_in m j) y → x / size < y / size
    page_before i j x y before lt (x_from, x_to) (y_from, y_to) =
        let apart = loads_apart fs m (stand fs m rules link b file) (outputs fs m rules link b file) i j before lt in
        pages_apart size (load_in m j).address x y some (begins j lt) (omega arith) y_from

    own_pages : HaveOwnPages size segments
    own_pages i j page i_in j_in (x, x_there, x_page) (y, y_there, y_page) =
        let long = segments_long fs m rules link b file in
        let x_load = in_load i x (omega arith) x_there in
        let y_load = in_load j y (omega arith) y_there in
        elim (cases_lt i j) [
          | inl before ↦ (let never = page_before i j x y before (omega arith) x_load y_load in absurd (omega arith))
          | inr not_before ↦ elim (cases_lt j i) [
            | inl after ↦ (let never = page_before j i y x after (omega arith) y_load x_load in absurd (omega arith))
            | inr not_after ↦ omega arith
          ]
        ]

    -- ---- bytes

    place_begins : (without : Bool) (place : ℕ) → (without ≡ false → place % size ≡ 0) → (if without then 0 else place) % size ≡ 0
    place_begins true place multiple = zero-mod size
    place_begins false place multiple = multiple refl

    paged_is_loaded : (j x : ℕ) → j < count → HasAddress (program_header_of segments j) x →
        paged size b (program_header_of segments j) x ≡ loaded b (program_header_of segments j) x
    paged_is_loaded j x lt =
        let load = load_in m j in
        let place = get_or places j 0 in
        subst (λ (g : Phdr). HasAddress g x → paged size b g x ≡ loaded b g x) (sym (segment_is fs m rules link b file j lt))
        (λ (is_load, from, to). ap
        (λ (offset : ℕ). if nat_lt (x - load.address) (file_size load) then slice_index b offset else 0)
        (offset_there size (if load.no_bits then 0 else place) load.address x some
        (place_begins load.no_bits place
        (λ with_bits. divided place m.page size (page_multiple fs m rules link b file j lt with_bits) divides))
        (begins j lt) from))

    paged_memory : (x w : ℕ) → LoadsByPage size b segments x w → IsMemory fs m rules x w
    paged_memory x w (j, lt, has, is) =
        let long = segments_long fs m rules link b file in
        loads_memory fs m rules link b file x w (j, lt, has, is ∙ paged_is_loaded j x (omega arith) has)

    memory_paged : (x w : ℕ) → IsMemory fs m rules x w → LoadsByPage size b segments x w
    memory_paged x w memory =
        let long = segments_long fs m rules link b file in
        let (j, lt, has, is) = memory_loads fs m rules link b file x w memory in
        (j, lt, has, is ∙ sym (paged_is_loaded j x (omega arith) has))

  -- ---- permissions

  -- what is in a section is in the output that the section is a member of
  in_member : (f s x : ℕ) → IsInSection fs m f s x →
      (k i : ℕ) × IsMemberAt m f s k i × ((output_at m k).address ≤ x) × (x < output_end m k)
  in_member f s x (a, there, from, to) =
      let all = outputs fs m rules link b file in
      let (k, i, (k_in, i_in, is)) = all.holds f s a there in
      let within = member_within fs m (output_at m k) (all.members k k_in) i i_in in
      let at = ap or_zero there in
      let bounds = subst
      (λ (p : Member). ((output_at m k).address ≤ member_address m p) ×
      (member_address m p + size_in fs p.file p.section ≤ output_end m k)) is within in
      (k, i, (k_in, i_in, is), omega arith, omega arith)

  -- an address in two outputs is in one
  one_output : (k l x : ℕ) → k < length m.outputs → l < length m.outputs → (output_at m k).address ≤ x → x < output_end m k →
      (output_at m l).address ≤ x → x < output_end m l → k ≡ l
  one_output k l x k_in l_in k_from k_to l_from l_to =
      let all = outputs fs m rules link b file in
      elim (cases_lt k l) [
        | inl before ↦ (let apart = all.apart k l before l_in in absurd (omega arith))
        | inr not_before ↦ elim (cases_lt l k) [
          | inl after ↦ (let apart = all.apart l k after k_in in absurd (omega arith))
          | inr not_after ↦ omega arith
        ]
      ]

  -- a member asks for the permissions of its output
  member_permissions : (f s k i : ℕ) → IsMemberAt m f s k i → segment_flags (output_at m k).flags ≡ segment_flags (section_in fs f s).flags
  member_permissions f s k i (k_in, i_in, is) =
      ap segment_flags (member_flags k i k_in i_in ∙ ap (λ (p : Member). output_flags (section_in fs p.file p.section).flags) is) ∙
      same_permissions (section_in fs f s).flags

  load_as_asked : (j f s x : ℕ) → j < count → IsInSection fs m f s x → HasLoad (load_in m j) x →
      (load_in m j).flags ≡ segment_flags (section_in fs f s).flags
  load_as_asked j f s x lt here there =
      let (k, i, member, from, to) = in_member f s x here in
      elim (load_of m j lt) [
        | inl found ↦ (
            let (l, l_in, is) = found in
            let (l_from, l_to) = subst (λ (load : Load). HasLoad load x) is there in
            let same = one_output l k x l_in member.0 l_from l_to from to in
            ap (λ (load : Load). load.flags) is ∙ ap (λ (n : ℕ). segment_flags (output_at m n).flags) same ∙
            member_permissions f s k i member)
        | inr is ↦ (
            let (l_from, l_to) = subst (λ (load : Load). HasLoad load x) is there in
            let commons = commons_some (length m.outputs) m.commons
            (subst (λ (load : Load). 0 < load.size) is (load_some m j lt)) in
            let after = (outputs fs m rules link b file).commons_after k 0 member.0 commons in
            absurd (omega arith))
      ]

  segment_as_asked : (j : ℕ) → j < count → IsAsAsked fs m (program_header_of segments j)
  segment_as_asked j lt f s x here has =
      ap (λ (g : Phdr). g.p_flags) (segment_is fs m rules link b file j lt) ∙ load_as_asked j f s x lt here (in_load j x lt has)

  load_asked : (j : ℕ) → j < count → IsAskedFor fs m (program_header m.page (load_in m j) (get_or places j 0))
  load_asked j lt = elim (load_of m j lt) [
    | inl found ↦ (
        let (k, k_in, is) = found in
        let stands = (outputs fs m rules link b file).members k k_in in
        let p = member_at (output_at m k) 0 in
        let at : (load_in m j).address ≡ member_address m p = ap (λ (load : Load). load.address) is ∙ stands.first in
        inl (
          p.file,
          p.section,
          subst (λ (a : ℕ). BeginsAt m p.file p.section a) (sym at) (stands.begins 0 stands.some),
          ap (λ (load : Load). load.flags) is ∙ member_permissions p.file p.section k 0 (k_in, stands.some, refl),
        ))
    | inr is ↦ inr (ap (λ (load : Load). load.flags) is)
  ]

  segment_asked : (j : ℕ) → j < count → IsAskedFor fs m (program_header_of segments j)
  segment_asked j lt = subst (λ (g : Phdr). IsAskedFor fs m g) (sym (segment_is fs m rules link b file j lt)) (load_asked j lt)

pub loads_pages : (size : ℕ) (fs : List ObjectValue) (m : LinkMapValue) (rules : List RelocRule) (b : List ℕ) → 0 < size →
    m.page % size ≡ 0 → IsSoundLink fs m rules → ExecFits fs m rules b → LoadsPages size fs m rules b
loads_pages size fs m rules b some divides link file =
    let read = λ (v : ImageValue) (stands : Stands v b). sym (exec_read fs m rules link b file v stands).segments in
    let long = segments_long fs m rules link b file in
    record {
      own = λ v stands. subst (HaveOwnPages size) (read v stands) (own_pages fs m rules link b file size some divides);
      memory = λ v stands. subst (λ (gs : List Phdr). (x w : ℕ) → LoadsByPage size b gs x w ↔ IsMemory fs m rules x w) (read v stands)
          (λ x w. (paged_memory fs m rules link b file size some divides x w, memory_paged fs m rules link b file size some divides x w));
      asked = λ v stands. subst
          (λ (gs : List Phdr). (j : ℕ) → j < length gs → IsAsAsked fs m (program_header_of gs j) × IsAskedFor fs m (program_header_of gs j))
          (read v stands)
          (λ j lt. (segment_as_asked fs m rules link b file j (omega arith), segment_asked fs m rules link b file j (omega arith)));
    }
