-- The segments of the executable of a sound link give memory's bytes (`loads_memory`), and all of them (`memory_loads`).
use Rattle.std.proofs.Common.{◌≡◌, ◌<◌, ◌≤◌, ◌+◌, ◌-◌, ℕ, Bool, true, false, List, [], length, get_or, refl, sym, ap, subst, ◌∙◌, inl, inr}
use Rattle.std.proofs.Common.{arith}
use Rattle.std.specs.Prelude.{◌⊎◌, if◌then◌else◌, nat_lt, slice_index}
use Rattle.std.proofs.lemmas.Bool.{le-ltb, lt-ltb}
use Rattle.elf_exec.proofs.ExecFile.{content_byte, content_long, outputs, segment_is, segments_long, size_with_bits, stand}
use Rattle.elf_link_relocate.proofs.Public.{load_of, load_there, at_commons, at_output, commons_ascend, commons_end, commons_some}
use Rattle.elf_link_relocate.proofs.Public.{any_options, field_in_content, memory_in, memory_zero, one_byte, some_byte}
use Rattle.elf_link_relocate.specs.Loads.{load_at, load_in, loads}
use Rattle.elf_exec.specs.Executable.{program_headers, ExecFits, IsSoundLink}
use Rattle.elf_link_relocate.specs.declared.load.Load.{Load}
use Rattle.elf_field.specs.declared.phdr.Phdr.{Phdr}
use Rattle.elf_image_rules.specs.Tables.{program_header_of}
use Rattle.elf_image_type.specs.ImageView.{HasAddress, Loads, loaded}
use Rattle.elf_link_field.specs.declared.rule.RelocRule.{RelocRule}
use Rattle.elf_link_files.specs.Files.{section_in}
use Rattle.elf_link_map.specs.LinkMap.{LinkMapValue}
use Rattle.elf_link_map.specs.Standing.{member_at, output_at}
use Rattle.elf_link_outputs.specs.Outputs.{is_no_bits, memory_size}
use Rattle.elf_link_outputs.specs.Placed.{common_at}
use Rattle.elf_link_relocate.specs.Fields.{content_of}
use Rattle.elf_link_relocate.specs.Linked.{HasContentAt, IsInMemory, IsInOutputAt, IsMemory}
use Rattle.elf_object_type.specs.Object.{BodyValue, ObjectValue, bits, group, no_bits, relocs}

-- The segments of an executable give an address a byte exactly if memory has that byte there. A segment gives memory's bytes, or zeros
-- without bits, where memory has zeros too. Each address of memory is in a segment, and memory has one byte there (`one_byte`).

-- ---- bodies

content_fits : (body : BodyValue) → length (content_of body) ≤ memory_size body
content_fits (bits type content) = omega arith
content_fits (no_bits size) = omega arith
content_fits (relocs rela target entries) = omega arith
content_fits (group comdat signature members) = omega arith

no_content : (body : BodyValue) → is_no_bits body ≡ true → length (content_of body) ≡ 0
no_content (bits type content) without = absurd (let never : false ≡ true = without in cc)
no_content (no_bits size) without = refl
no_content (relocs rela target entries) without = refl
no_content (group comdat signature members) without = refl

-- ---- one segment, with bits or without

-- byte k of a segment whose bytes are at a place of b
abbrev byte_of : List ℕ → Bool → ℕ → ℕ → ℕ → ℕ
byte_of b without size place k =
    if nat_lt k (if without then 0 else size) then slice_index b ((if without then 0 else place) + k) else 0

byte_with_bits : (b : List ℕ) (without : Bool) (size place k : ℕ) → without ≡ false → k < size →
    byte_of b without size place k ≡ slice_index b (place + k)
byte_with_bits b true size place k with_bits lt = absurd (let never : true ≡ false = with_bits in cc)
byte_with_bits b false size place k with_bits lt = rw (lt-ltb k size lt) refl

byte_without_bits : (b : List ℕ) (without : Bool) (size place k : ℕ) → without ≡ true → byte_of b without size place k ≡ 0
byte_without_bits b true size place k is = rw (le-ltb k 0 (omega arith)) refl
byte_without_bits b false size place k is = absurd (let never : false ≡ true = is in cc)

either : (b : Bool) → (b ≡ true) ⊎ (b ≡ false)
either true = inl refl
either false = inr refl

module _ (fs : List ObjectValue) (m : LinkMapValue) (rules : List RelocRule) (link : IsSoundLink fs m rules) (b : List ℕ)
    (file : ExecFits fs m rules b) where
  abbrev count : ℕ
  count = length (loads m)

  abbrev places : List ℕ
  places = file.laid.places

  abbrev contents : List (List ℕ)
  contents = file.laid.contents

  abbrev segments : List Phdr
  segments = program_headers m.page (loads m) places

  -- ---- memory where no bits are

  output_zero : (x k : ℕ) → k < length m.outputs → (output_at m k).no_bits ≡ true → IsInOutputAt m k x → IsMemory fs m rules x 0
  output_zero x k lt without here = memory_zero fs m rules (any_options fs m link.map) link.relocated x k lt here (λ i i_in (from, to). (
      let p = member_at (output_at m k) i in
      let empty = no_content (section_in fs p.file p.section).body
      (((outputs fs m rules link b file).members k lt).kind i i_in ∙ without) in
      omega arith))

  -- contents are before the commons
  no_content_after : (x : ℕ) → 0 < length m.commons → (common_at m.commons 0).address ≤ x → HasContentAt fs m x → ⊥
  no_content_after x some after (f, s, k, (k_in, (a, there, at))) =
      let before = (stand fs m rules link b file).commons_after f s a 0 there some in
      let fits = content_fits (section_in fs f s).body in
      omega arith

  zero_if_no_content : (x v : ℕ) → (HasContentAt fs m x → ⊥) → IsMemory fs m rules x v → v ≡ 0
  zero_if_no_content x v none (inl (p, r, k, at, byte)) =
      absurd (none (field_in_content fs m rules (any_options fs m link.map) link.relocated x (p, r, k, at)))
  zero_if_no_content x v none (inr (no_field, inl (f, s, k, at, byte))) = absurd (none (f, s, k, at))
  zero_if_no_content x v none (inr (no_field, inr (outside, area, zero_is))) = zero_is

  commons_zero : (x : ℕ) → 0 < length m.commons → (common_at m.commons 0).address ≤ x → IsInMemory m x → IsMemory fs m rules x 0
  commons_zero x some after area =
      let (v, memory) = some_byte fs m rules (any_options fs m link.map) link.relocated x area in
      subst (λ (w : ℕ). IsMemory fs m rules x w) (zero_if_no_content x v (no_content_after x some after) memory) memory

  -- ---- a segment gives its addresses memory's bytes

  abbrev HasLoad : Load → ℕ → Type 0
  HasLoad load x = (load.address ≤ x) × (x < load.address + load.size)

  with_bits : (j x : ℕ) → j < count → (load_in m j).no_bits ≡ false → HasLoad (load_in m j) x →
      IsMemory fs m rules x (byte_of b (load_in m j).no_bits (load_in m j).size (get_or places j 0) (x - (load_in m j).address))
  with_bits j x lt bits_there (from, to) =
      let load = load_in m j in
      let k = x - load.address in
      let size = content_long fs m rules link b file j lt ∙ size_with_bits load.no_bits load.size bits_there in
      let memory = (file.laid.memory.each j lt).memory k (omega arith) in
      let whole : load.address + k ≡ x = omega arith in
      let byte = byte_with_bits b load.no_bits load.size (get_or places j 0) k bits_there (omega arith) ∙
      content_byte fs m rules link b file j k lt (omega arith) in
      subst (λ (w : ℕ). IsMemory fs m rules x w) (sym byte)
      (subst (λ (y : ℕ). IsMemory fs m rules y (slice_index (get_or contents j []) k)) whole memory)

  zero_without_bits : (j x : ℕ) → j < count → (load_in m j).no_bits ≡ true → HasLoad (load_in m j) x → IsMemory fs m rules x 0
  zero_without_bits j x lt without here = elim (load_of m j lt) [
    | inl found ↦
        (let (k, k_in, is) = found in
        output_zero x k k_in (sym (ap (λ (load : Load). load.no_bits) is) ∙ without) (subst (λ (load : Load). HasLoad load x) is here))
    | inr is ↦
        (let (from, to) = subst (λ (load : Load). HasLoad load x) is here in
        let some = commons_some (length m.outputs) m.commons (omega arith) in
        let last = length m.commons - 1 in
        commons_zero x some from (inr (0, last, some, omega arith, from, omega arith)))
  ]

  load_memory : (j x : ℕ) → j < count → HasLoad (load_in m j) x →
      IsMemory fs m rules x (byte_of b (load_in m j).no_bits (load_in m j).size (get_or places j 0) (x - (load_in m j).address))
  load_memory j x lt here = elim (either (load_in m j).no_bits) [
    | inl without ↦
        subst (λ (w : ℕ). IsMemory fs m rules x w)
        (sym (byte_without_bits b (load_in m j).no_bits (load_in m j).size (get_or places j 0) (x - (load_in m j).address) without))
        (zero_without_bits j x lt without here)
    | inr bits_there ↦ with_bits j x lt bits_there here
  ]

  segment_memory : (j x : ℕ) → j < count → HasAddress (program_header_of segments j) x →
      IsMemory fs m rules x (loaded b (program_header_of segments j) x)
  segment_memory j x lt =
      subst (λ (g : Phdr). HasAddress g x → IsMemory fs m rules x (loaded b g x)) (sym (segment_is fs m rules link b file j lt))
      (λ (is_load, from, to). load_memory j x lt (from, to))

  -- ---- each address of memory is one of a segment

  load_by : (k x : ℕ) → k ≤ length m.outputs → HasLoad (load_at m k) x → (j : ℕ) × (j < count) × HasAddress (program_header_of segments j) x
  load_by k x le (from, to) =
      let (j, j_in, is) = load_there m k le (omega arith) in
      let here = subst (λ (load : Load). HasLoad load x) (sym is) (from, to) in
      (j, j_in, subst (λ (g : Phdr). HasAddress g x) (sym (segment_is fs m rules link b file j j_in)) (refl, here.0, here.1))

  segment_there : (x : ℕ) → IsInMemory m x → (j : ℕ) × (j < count) × HasAddress (program_header_of segments j) x
  segment_there x (inl (k, lt, here)) = load_by k x (omega arith) (subst (λ (load : Load). HasLoad load x) (sym (at_output m k lt)) here)
  segment_there x (inr (j, k, j_in, k_in, from, to)) =
      let first = commons_ascend fs m 0 j (stand fs m rules link b file) (omega arith) j_in in
      let last = commons_end fs m k (length m.commons - 1) (stand fs m rules link b file) (omega arith) (omega arith) in
      load_by (length m.outputs) x (omega arith)
      (subst (λ (load : Load). HasLoad load x) (sym (at_commons m (length m.outputs) (omega arith))) (omega arith, omega arith))

  pub loads_memory : (x w : ℕ) → Loads b (program_headers m.page (loads m) file.laid.places) x w → IsMemory fs m rules x w
  loads_memory x w (j, lt, has, is) =
      let long = segments_long fs m rules link b file in
      subst (λ (v : ℕ). IsMemory fs m rules x v) (sym is) (segment_memory j x (omega arith) has)

  pub memory_loads : (x w : ℕ) → IsMemory fs m rules x w → Loads b (program_headers m.page (loads m) file.laid.places) x w
  memory_loads x w memory =
      let long = segments_long fs m rules link b file in
      let (j, lt, has) = segment_there x (memory_in fs m rules (any_options fs m link.map) link.relocated x w memory) in (
        j,
        omega arith,
        has,
        one_byte fs m rules (any_options fs m link.map) link.relocated x w (loaded b (program_header_of segments j) x) memory
            (segment_memory j x lt has),
      )
