-- The executable of a sound link, if it is not too long, is an image with its own header and program headers. Its parts are in order, and
-- its records keep the rules: places and addresses are multiples of the page, and addresses ascend. So the laws of written files hold
-- (`IsWritable`).
use Rattle.std.proofs.Common.{◌≡◌, ◌≢◌, ◌<◌, ◌+◌, ◌^◌, ◌%◌, ℕ, zero, suc, Bool, true, false, List, [], ◌∷◌, length, map, get_or, refl, sym}
use Rattle.std.proofs.Common.{ap, subst, inl, inr, arith, ◌≤◌, ◌*◌, take, drop, ◌∙◌, length-drop}
use Rattle.std.specs.Prelude.{◌==◌, if◌then◌else◌, Some, None, slice_get, slice_index}
use Rattle.std.specs.List.{AllByRecursion, flat_map}
use Rattle.std.proofs.lemmas.Bool.{ne_eqb, cases_lt, cases_eq}
use Rattle.std.proofs.lemmas.List.{get_or_past, get_or-drop, get_or-take, length-map, length-take}
use Rattle.std.proofs.Math.Nat.{zero-mod}
use Rattle.std.proofs.lemmas.Nat.{pow_pos}
use Rattle.elf_link_relocate.proofs.Public.{load_some, load_stands, loads_apart, memory_bytes}
use Rattle.elf_link_relocate.specs.Loads.{file_size, no_load, load_in, loads}
use Rattle.elf_exec.specs.Executable.{exec_header, load_part, program_header, program_headers, bytes_from, exec_bytes, header_bytes}
use Rattle.elf_exec.specs.Executable.{load_parts, table_bytes, ExecFits, IsSoundLink}
use Rattle.elf_link_relocate.specs.declared.load.Load.{Load}
use Rattle.elf_extent.proofs.Public.{fits_length}
use Rattle.elf_extent.specs.Place.{Fits, alignment}
use Rattle.elf_field.proofs.RecordTableLaws.{IsBytes-table, length-table}
use Rattle.elf_field.specs.Abi.{EHDR_SIZE, PHDR_SIZE, PN_XNUM, PT_NULL}
use Rattle.elf_field.specs.Bytes.{IsBytes}
use Rattle.elf_field.specs.laws.Bytes.{IsBytes-nil}
use Rattle.elf_field.specs.Headers.{IsEhdr, ehdr_bytes, IsPhdr, phdr_bytes}
use Rattle.elf_field.specs.laws.Headers.{ehdr_laws, phdr_laws}
use Rattle.elf_field.specs.declared.ehdr.Ehdr.{Ehdr}
use Rattle.elf_field.specs.declared.number.Order.{Order}
use Rattle.elf_field.specs.declared.phdr.Phdr.{Phdr}
use Rattle.elf_image_outline.proofs.Standing.{mapped_at}
use Rattle.elf_image_outline.specs.Image.{ImageValue, Stands, value_names}
use Rattle.elf_image_outline.specs.declared.outline.Owner.TheVariants.{Gap, Header, ProgramTable, Content, SectionTable}
use Rattle.elf_image_outline.specs.declared.outline.Owner.{Owner}
use Rattle.elf_image_rules.specs.KeepsRules.{IsAlignment, KeepsEachRecordRule, KeepsProgramTableRules, KeepsSegmentRules}
use Rattle.elf_image_rules.specs.Rules.{IsFault, IsLoad}
use Rattle.elf_image_rules.specs.Tables.{order_of, program_header_of, program_header_count, section_header_of}
use Rattle.elf_image_type.proofs.Public.{IsBytes-identification, identification_kept, in_spread, order_identified, written_accepted}
use Rattle.elf_image_type.proofs.Public.{written_is_bytes, written_read}
use Rattle.elf_image_type.specs.WrittenFile.{WrittenPart, unaligned, AreFileParts, FileContents, HasContents, IsPartOf, IsWritable}
use Rattle.elf_image_type.specs.WrittenFile.{owner_bytes, owner_start, spread, written}
use Rattle.elf_link_field.specs.declared.rule.RelocRule.{RelocRule}
use Rattle.elf_link_files.specs.Files.{no_object, object_at}
use Rattle.elf_link_map.proofs.Public.{are_paged, outputs_stand, parts_apart}
use Rattle.elf_link_map.specs.LinkMap.{LinkMapValue}
use Rattle.elf_link_map.specs.Standing.{ObjectsFit, ArePaged, OutputsStand, ArePlacedApart}
use Rattle.elf_link_relocate.specs.Fields.{content_of}
use Rattle.elf_link_relocate.specs.Linked.{identity_of, HaveBytes}
use Rattle.elf_link_relocate.specs.declared.linked.Identity.{Identity}
use Rattle.elf_object_type.specs.Object.{BodyValue, ObjectValue, SectionValue, bits, group, no_bits, no_section, relocs, BodyFits}
use Rattle.elf_object_type.specs.Object.{ObjectFits, SectionFits}

-- The header of an executable fits its fields, if its identity does, and has a sound identification. By induction on the segments: each has
-- its program header, its place is aligned, and bytes of its size fit there. There are also small facts on the parts of the file, in which
-- the bytes of segments have no owner.

-- ---- the header

pub record IdentityFits (i : Identity) : Type 0 where
  pub osabi : i.osabi < 2 ^ 8
  pub abi : i.abi < 2 ^ 8
  pub machine : i.machine < 2 ^ 16
  pub flags : i.flags < 2 ^ 32

if_zero_fits : (b : Bool) (x n : ℕ) → x < n → (if b then 0 else x) < n
if_zero_fits true x n lt = omega arith
if_zero_fits false x n lt = lt

pub header_fits : (i : Identity) (entry count : ℕ) → IdentityFits i → entry < 2 ^ 64 → count < 2 ^ 16 → IsEhdr (exec_header i entry count)
header_fits i entry count fits entry_fits few = record {
  e_ident = refl;
  e_ident_bytes = IsBytes-identification i.order i.osabi i.abi fits.osabi fits.abi;
  e_type = omega arith;
  e_machine = fits.machine;
  e_version = omega arith;
  e_entry = entry_fits;
  e_phoff = if_zero_fits (count == 0) EHDR_SIZE (2 ^ 64) (omega arith);
  e_shoff = omega arith;
  e_flags = fits.flags;
  e_ehsize = omega arith;
  e_phentsize = if_zero_fits (count == 0) PHDR_SIZE (2 ^ 16) (omega arith);
  e_phnum = few;
  e_shentsize = omega arith;
  e_shnum = omega arith;
  e_shstrndx = omega arith;
}

-- the program header table is after the header, where there is one
pub table_offset : (i : Identity) (entry count : ℕ) → 0 < count → (exec_header i entry count).e_phoff ≡ EHDR_SIZE
table_offset i entry count some = rw (ne_eqb count 0 (λ none. omega arith)) refl

pub entry_size : (i : Identity) (entry count : ℕ) → count ≢ 0 → (exec_header i entry count).e_phentsize ≡ PHDR_SIZE
entry_size i entry count some = rw (ne_eqb count 0 some) refl

pub no_table : (i : Identity) (entry count : ℕ) → count ≡ 0 → (exec_header i entry count).e_phoff ≡ 0
no_table i entry count none = rw none refl

-- ---- the program headers

pub length-program_headers : (page : ℕ) (ls : List Load) (places : List ℕ) → length places ≡ length ls →
    length (program_headers page ls places) ≡ length ls
length-program_headers page [] places long = refl
length-program_headers page (load ∷ ls) [] long = absurd (omega arith)
length-program_headers page (load ∷ ls) (place ∷ places) long = ap suc (length-program_headers page ls places (omega arith))

pub program_header_is : (page : ℕ) (ls : List Load) (places : List ℕ) (j : ℕ) → length places ≡ length ls → j < length ls →
    program_header_of (program_headers page ls places) j ≡ program_header page (get_or ls j no_load) (get_or places j 0)
program_header_is page [] places j long lt = absurd (omega arith)
program_header_is page (load ∷ ls) [] j long lt = absurd (omega arith)
program_header_is page (load ∷ ls) (place ∷ places) zero long lt = refl
program_header_is page (load ∷ ls) (place ∷ places) (suc j) long lt = program_header_is page ls places j (omega arith) (omega arith)

-- something said of each program header
pub each_program_header : (P : Phdr → Type 0) (page : ℕ) (ls : List Load) (places : List ℕ) → length places ≡ length ls →
    ((j : ℕ) → j < length ls → P (program_header page (get_or ls j no_load) (get_or places j 0))) →
    AllByRecursion P (program_headers page ls places)
each_program_header P page [] places long each = tt
each_program_header P page (load ∷ ls) [] long each = absurd (omega arith)
each_program_header P page (load ∷ ls) (place ∷ places) long each =
    (each 0 (omega arith), each_program_header P page ls places (omega arith) (λ j lt. each (suc j) (omega arith)))

-- ---- the bytes of the segments

-- bytes of the segments' sizes fit where the segments do
pub contents_fit : (page : ℕ) (ls : List Load) (contents : List (List ℕ)) (from : ℕ) (places : List ℕ) → length contents ≡ length ls →
    ((j : ℕ) → j < length ls → length (get_or contents j []) ≡ file_size (get_or ls j no_load)) →
    Fits (map (load_part page) ls) from places → Fits (map unaligned contents) from places
contents_fit page [] [] from places long sizes fits = fits
contents_fit page [] (c ∷ contents) from places long sizes fits = absurd (omega arith)
contents_fit page (load ∷ ls) [] from places long sizes fits = absurd (omega arith)
contents_fit page (load ∷ ls) (c ∷ contents) from [] long sizes fits = absurd fits
contents_fit page (load ∷ ls) (c ∷ contents) from (place ∷ places) long sizes (multiple, le, rest) =
    let size : length c ≡ file_size load = sizes 0 (omega arith) in
    let later = contents_fit page ls contents (place + file_size load) places (omega arith) (λ j lt. sizes (suc j) (omega arith)) rest in
    (omega arith, le, subst (λ (n : ℕ). Fits (map unaligned contents) (place + n) places) (sym size) later)

-- each place is a multiple of the part's alignment
pub place_multiple : (page : ℕ) (ls : List Load) (from : ℕ) (places : List ℕ) (j : ℕ) → Fits (map (load_part page) ls) from places →
    j < length ls →
    get_or places j 0 % alignment (load_part page (get_or ls j no_load)).1 ≡ 0
place_multiple page [] from places j fits lt = absurd (omega arith)
place_multiple page (load ∷ ls) from [] j fits lt = absurd fits
place_multiple page (load ∷ ls) from (place ∷ places) zero (multiple, le, rest) lt = multiple
place_multiple page (load ∷ ls) from (place ∷ places) (suc j) (multiple, le, rest) lt =
    place_multiple page ls (place + file_size load) places j rest (omega arith)

-- ---- the parts of the file

-- a program header table without entries is none
pub table_owner : ℕ → Owner
table_owner count = if count == 0 then Gap else ProgramTable

pub table_owned : (count : ℕ) → 0 < count → table_owner count ≡ ProgramTable
unfolding table_owner
table_owned count some = rw (ne_eqb count 0 (λ none. omega arith)) refl

pub table_unowned : (count : ℕ) → count ≡ 0 → table_owner count ≡ Gap
unfolding table_owner
table_unowned count none = rw none refl

-- no owner is known of the bytes of a segment
abbrev pub gap_part : List ℕ → WrittenPart
gap_part content = record { owner = Gap; bytes = content }

abbrev pub exec_parts : List ℕ → Owner → List ℕ → List (List ℕ) → List WrittenPart
exec_parts header owner table contents =
    record { owner = Header; bytes = header } ∷ record { owner = owner; bytes = table } ∷ map gap_part contents

pub bytes_of_gaps : (contents : List (List ℕ)) → map (λ p. p.bytes) (map gap_part contents) ≡ contents
bytes_of_gaps [] = refl
bytes_of_gaps (c ∷ contents) = ap (λ (cs : List (List ℕ)). c ∷ cs) (bytes_of_gaps contents)

pub sizes_of_gaps : (contents : List (List ℕ)) → map (λ p. unaligned p.bytes) (map gap_part contents) ≡ map unaligned contents
sizes_of_gaps [] = refl
sizes_of_gaps (c ∷ contents) = ap (λ (sizes : List (ℕ × ℕ)). unaligned c ∷ sizes) (sizes_of_gaps contents)

pub gaps_are_bytes : (contents : List (List ℕ)) → ((j : ℕ) → j < length contents → IsBytes (get_or contents j [])) →
    AllByRecursion (λ p. IsBytes p.bytes) (map gap_part contents)
gaps_are_bytes [] are = tt
gaps_are_bytes (c ∷ contents) are = (are 0 (omega arith), gaps_are_bytes contents (λ j lt. are (suc j) (omega arith)))

-- The identity of the first object fits a header, and the contents of all sections are bytes: each object fits a file. The object and the
-- section read where there is none fit too.

section_fits : (ss : List SectionValue) (s : ℕ) → AllByRecursion SectionFits ss → s < length ss → SectionFits (get_or ss s no_section)
section_fits [] s fit lt = absurd (omega arith)
section_fits (x ∷ ss) zero fit lt = fit.0
section_fits (x ∷ ss) (suc s) fit lt = section_fits ss s fit.1 (omega arith)

body_bytes : (body : BodyValue) → BodyFits body → IsBytes (content_of body)
body_bytes (bits type content) fits = fits.1
body_bytes (no_bits size) fits = IsBytes-nil
body_bytes (relocs rela target entries) fits = IsBytes-nil
body_bytes (group comdat signature members) fits = IsBytes-nil

object_bytes : (o : ObjectValue) (s : ℕ) → ObjectFits o → IsBytes (content_of (get_or o.sections s no_section).body)
object_bytes o s fits = elim (cases_lt s (length o.sections)) [
  | inl lt ↦ body_bytes (get_or o.sections s no_section).body (section_fits o.sections s fits.sections lt).body
  | inr past ↦ subst (λ (x : SectionValue). IsBytes (content_of x.body)) (sym (get_or_past o.sections s no_section past)) IsBytes-nil
]

no_object_fits : ObjectFits no_object
no_object_fits = record { osabi = omega arith; abi = omega arith; machine = omega arith; flags = omega arith; sections = tt; symbols = tt }

-- also that which represents a file that isn't there
object_fits : (fs : List ObjectValue) (f : ℕ) → ObjectsFit fs → ObjectFits (object_at fs f)
object_fits fs f fit = elim (cases_lt f (length fs)) [
  | inl lt ↦ fit f lt
  | inr past ↦ subst ObjectFits (sym (get_or_past fs f no_object past)) no_object_fits
]

pub have_bytes : (fs : List ObjectValue) → ObjectsFit fs → HaveBytes fs
have_bytes fs fit f s = object_bytes (object_at fs f) s (object_fits fs f fit)

pub identity_fits : (fs : List ObjectValue) → ObjectsFit fs → IdentityFits (identity_of fs)
identity_fits fs fit =
    let o = object_fits fs 0 fit in
    record { osabi = o.osabi; abi = o.abi; machine = o.machine; flags = o.flags }

-- ---- one segment, with bits or without

file_size_below : (without : Bool) (size : ℕ) → (if without then 0 else size) ≤ size
file_size_below true size = omega arith
file_size_below false size = omega arith

offset_fits : (without : Bool) (place size : ℕ) → (without ≡ false → place + size < 2 ^ 64) → (if without then 0 else place) < 2 ^ 64
offset_fits true place size fits = omega arith
offset_fits false place size fits = (let whole = fits refl in omega arith)

bytes_within : (without : Bool) (place size len : ℕ) → (without ≡ false → 0 < size → place + size ≤ len) →
    0 < (if without then 0 else size) →
    (if without then 0 else place) + (if without then 0 else size) ≤ len
bytes_within true place size len within some = absurd (omega arith)
bytes_within false place size len within some = within refl some

congruent : (without : Bool) (address place page : ℕ) → address % page ≡ 0 → (without ≡ false → place % page ≡ 0) →
    address % page ≡ (if without then 0 else place) % page
congruent true address place page here there = here ∙ sym (zero-mod page)
congruent false address place page here there = here ∙ sym (there refl)

multiple_with_bits : (without : Bool) (page x : ℕ) → without ≡ false → 0 < page → x % alignment (if without then 1 else page) ≡ 0 →
    x % page ≡ 0
multiple_with_bits true page x with_bits some multiple = absurd (let never : true ≡ false = with_bits in cc)
multiple_with_bits false zero x with_bits some multiple = absurd (omega arith)
multiple_with_bits false (suc page) x with_bits some multiple = multiple

pub size_with_bits : (without : Bool) (size : ℕ) → without ≡ false → (if without then 0 else size) ≡ size
size_with_bits true size with_bits = absurd (let never : true ≡ false = with_bits in cc)
size_with_bits false size with_bits = refl

module _ (fs : List ObjectValue) (m : LinkMapValue) (rules : List RelocRule) (link : IsSoundLink fs m rules) (b : List ℕ)
    (file : ExecFits fs m rules b) where
  -- ---- what the link gives

  pub stand : ArePlacedApart fs m
  stand = parts_apart link.map.0 fs m link.map.1

  pub outputs : OutputsStand fs m
  outputs = outputs_stand link.map.0 fs m link.map.1

  pub paged : ArePaged m
  paged = are_paged link.map.0 fs m link.map.1 link.map.2 link.objects

  entry_fits : m.entry < 2 ^ 64
  entry_fits = (let (l, plan, of) = link.map.1 in of.entry.3)

  -- ---- its parts

  abbrev places : List ℕ
  places = file.laid.places

  abbrev contents : List (List ℕ)
  contents = file.laid.contents

  abbrev identity : Identity
  identity = identity_of fs

  abbrev count : ℕ
  count = length (loads m)

  abbrev header : Ehdr
  header = exec_header identity m.entry count

  abbrev segments : List Phdr
  segments = program_headers m.page (loads m) places

  abbrev pub exec_contents : FileContents
  exec_contents = record { header = header; sections = []; segments = segments; contents = [] }

  abbrev all_places : List ℕ
  all_places = 0 ∷ EHDR_SIZE ∷ places

  abbrev all_bytes : List (List ℕ)
  all_bytes = header_bytes fs m ∷ table_bytes fs m places ∷ contents

  abbrev parts : List WrittenPart
  parts = exec_parts (header_bytes fs m) (table_owner count) (table_bytes fs m places) contents

  pub places_long : length places ≡ count
  unfolding load_parts
  places_long = fits_length (load_parts m) (bytes_from m) places file.laid.least.fits ∙ length-map (loads m) (load_part m.page)

  pub segments_long : length segments ≡ count
  segments_long = length-program_headers m.page (loads m) places places_long

  header_is : header_bytes fs m ≡ ehdr_bytes (order_of header.e_ident) header
  unfolding header_bytes
  header_is = ap (λ (o : Order). ehdr_bytes o header) (sym (order_identified identity.order identity.osabi identity.abi))

  table_is : table_bytes fs m places ≡ flat_map (phdr_bytes (order_of header.e_ident)) segments
  unfolding table_bytes
  table_is = ap (λ (o : Order). flat_map (phdr_bytes o) segments) (sym (order_identified identity.order identity.osabi identity.abi))

  header_long : length (header_bytes fs m) ≡ EHDR_SIZE
  header_long = ap length header_is ∙ ehdr_laws.length_is (order_of header.e_ident) header

  table_long : length (table_bytes fs m places) ≡ PHDR_SIZE * count
  table_long = ap length table_is ∙ length-table phdr_laws (order_of header.e_ident) segments ∙ ap (λ (k : ℕ). PHDR_SIZE * k) segments_long

  pub content_long : (j : ℕ) → j < count → length (get_or contents j []) ≡ file_size (load_in m j)
  content_long j lt = (file.laid.memory.each j lt).long

  order : Fits (map unaligned all_bytes) 0 all_places
  unfolding load_parts
  order =
      let fit = contents_fit m.page (loads m) contents (bytes_from m) places file.laid.memory.count content_long file.laid.least.fits in
      let long = header_long in (
        omega arith,
        omega arith,
        (omega arith, omega arith, subst (λ (k : ℕ). Fits (map unaligned contents) (EHDR_SIZE + k) places) (sym table_long) fit),
      )

  -- each part is at its place in the file, and ends in it
  part_stands : (k : ℕ) → k < length all_bytes →
      take (length (get_or all_bytes k [])) (drop (get_or all_places k 0) b) ≡ get_or all_bytes k []
  unfolding exec_bytes
  part_stands k lt =
      ap (λ (s : List ℕ). take (length (get_or all_bytes k [])) (drop (get_or all_places k 0) s)) file.laid.bytes ∙
      in_spread [] 0 all_places all_bytes k refl order lt

  part_within : (k : ℕ) → k < length all_bytes → 0 < length (get_or all_bytes k []) →
      get_or all_places k 0 + length (get_or all_bytes k []) ≤ length b
  part_within k lt some =
      let long = ap length (part_stands k lt) in
      let taken = length-take (length (get_or all_bytes k [])) (drop (get_or all_places k 0) b) in
      let rest = length-drop (get_or all_places k 0) b in
      omega arith

  many : length all_bytes ≡ suc (suc count)
  many = (let long = file.laid.memory.count in omega arith)

  -- byte i of segment j
  pub content_byte : (j i : ℕ) → j < count → i < length (get_or contents j []) →
      slice_index b (get_or places j 0 + i) ≡ slice_index (get_or contents j []) i
  content_byte j i lt i_in =
      let long = many in
      let stands = part_stands (suc (suc j)) (omega arith) in
      sym (get_or-take (length (get_or contents j [])) (drop (get_or places j 0) b) i 0 i_in ∙ get_or-drop (get_or places j 0) b i 0) ∙
      ap (λ (s : List ℕ). get_or s i 0) stands

  content_within : (j : ℕ) → j < count → (load_in m j).no_bits ≡ false → 0 < (load_in m j).size →
      get_or places j 0 + (load_in m j).size ≤ length b
  content_within j lt with_bits some =
      let long = many in
      let size = content_long j lt ∙ size_with_bits (load_in m j).no_bits (load_in m j).size with_bits in
      let within = part_within (suc (suc j)) (omega arith) (omega arith) in
      omega arith

  parts_stand : AreFileParts exec_contents all_places parts
  parts_stand = record {
    order = subst
        (λ (sizes : List (ℕ × ℕ)). Fits (unaligned (header_bytes fs m) ∷ unaligned (table_bytes fs m places) ∷ sizes) 0 all_places)
        (sym (sizes_of_gaps contents)) order;
    owned = owned;
    each_owner = each_owner;
  }
    where
      owned : (k : ℕ) (p : WrittenPart) → slice_get parts k ≡ Some p → p.owner ≢ Gap →
          (get_or all_places k 0 ≡ owner_start exec_contents p.owner) × (p.bytes ≡ owner_bytes exec_contents p.owner)
      owned zero p at some =
          let same : record { owner = Header; bytes = header_bytes fs m } ≡ p = cc in
          subst (λ (q : WrittenPart). (0 ≡ owner_start exec_contents q.owner) × (q.bytes ≡ owner_bytes exec_contents q.owner)) same
          (refl, header_is)
      owned (suc zero) p at some =
          let same : record { owner = table_owner count; bytes = table_bytes fs m places } ≡ p = cc in
          let owner_is : p.owner ≡ table_owner count = ap (λ (q : WrittenPart). q.owner) (sym same) in
          elim (cases_eq count 0) [
            | inl none ↦ absurd (some (owner_is ∙ table_unowned count none))
            | inr other ↦
                (let owner : p.owner ≡ ProgramTable = owner_is ∙ table_owned count (omega arith) in (
                  sym (table_offset identity m.entry count (omega arith)) ∙ sym (ap (owner_start exec_contents) owner),
                  ap (λ (q : WrittenPart). q.bytes) (sym same) ∙ table_is ∙ sym (ap (owner_bytes exec_contents) owner),
                ))
          ]
      owned (suc (suc j)) p at some =
          let (content, here, is) = mapped_at gap_part contents j p at in
          absurd (some (ap (λ (q : WrittenPart). q.owner) (sym is)))

      each_owner : (o : Owner) → 0 < length (owner_bytes exec_contents o) → (k : ℕ) × IsPartOf parts k o
      each_owner Header some = (0, (record { owner = Header; bytes = header_bytes fs m }, refl, refl))
      each_owner SectionTable some = absurd (omega arith)
      each_owner ProgramTable some =
          let long = sym (ap length table_is) ∙ table_long in
          (1, (record { owner = table_owner count; bytes = table_bytes fs m places }, refl, table_owned count (omega arith)))
      each_owner (Content i) some = absurd (omega arith)
      each_owner Gap some = absurd (omega arith)

  bytes_are : b ≡ written all_places parts
  unfolding written exec_bytes
  bytes_are = file.laid.bytes ∙
      ap (λ (cs : List (List ℕ)). spread 0 all_places (header_bytes fs m ∷ table_bytes fs m places ∷ cs)) (sym (bytes_of_gaps contents))

  -- ---- its records fit, and keep the rules

  pub segment_is : (j : ℕ) → j < count → program_header_of segments j ≡ program_header m.page (load_in m j) (get_or places j 0)
  segment_is j lt = program_header_is m.page (loads m) places j places_long lt

  page_some : 0 < m.page
  page_some = (let (k, power) = paged.page in let some = pow_pos k in omega arith)

  segment_fits : (j : ℕ) → j < count → IsPhdr (program_header m.page (load_in m j) (get_or places j 0))
  segment_fits j lt =
      let load = load_in m j in
      let stands = load_stands fs m stand outputs paged j lt in
      let end = stands.end in
      let below = file_size_below load.no_bits load.size in
      let short = file.short in
      let some = load_some m j lt in
      record {
        p_type = omega arith;
        p_flags = stands.flags;
        p_offset = offset_fits load.no_bits (get_or places j 0) load.size
            (λ with_bits. (let within = content_within j lt with_bits some in omega arith));
        p_vaddr = omega arith;
        p_paddr = omega arith;
        p_filesz = omega arith;
        p_memsz = omega arith;
        p_align = link.page;
      }

  header_record : IsEhdr header
  header_record = header_fits identity m.entry count (identity_fits fs link.widths) entry_fits (let few = file.few in omega arith)

  segment_records : AllByRecursion IsPhdr segments
  segment_records = each_program_header IsPhdr m.page (loads m) places places_long segment_fits

  content_bytes : (j : ℕ) → j < length contents → IsBytes (get_or contents j [])
  content_bytes j lt i = elim (cases_lt i (length (get_or contents j []))) [
    | inl here ↦
        (let long = file.laid.memory.count in
        memory_bytes fs m rules (have_bytes fs link.widths) ((load_in m j).address + i) (slice_index (get_or contents j []) i)
        ((file.laid.memory.each j (omega arith)).memory i here))
    | inr past ↦ (let none = get_or_past (get_or contents j []) i 0 past in omega arith)
  ]

  bytes_fit : AllByRecursion (λ p. IsBytes p.bytes) parts
  bytes_fit = (
    subst IsBytes (sym header_is) (ehdr_laws.are_bytes (order_of header.e_ident) header header_record),
    (
      subst IsBytes (sym table_is) (IsBytes-table phdr_laws (order_of header.e_ident) segments segment_records),
      gaps_are_bytes contents content_bytes,
    ),
  )

  counted : program_header_count header (section_header_of [] 0) ≡ count
  counted = rw (ne_eqb count PN_XNUM (λ same. (let few = file.few in omega arith))) refl

  table_within : 0 < count → EHDR_SIZE + PHDR_SIZE * count ≤ length b
  table_within some =
      let long = many in
      let table = table_long in
      let within = part_within 1 (omega arith) (omega arith) in
      omega arith

  pub page_multiple : (j : ℕ) → j < count → (load_in m j).no_bits ≡ false → get_or places j 0 % m.page ≡ 0
  unfolding load_parts
  page_multiple j lt with_bits =
      multiple_with_bits (load_in m j).no_bits m.page (get_or places j 0) with_bits page_some
      (place_multiple m.page (loads m) (bytes_from m) places j file.laid.least.fits lt)

  program_table_kept : KeepsProgramTableRules (length b) header (section_header_of [] 0)
  program_table_kept = record {
    table_and_count = (
      (λ none. elim (cases_eq count 0) [
        | inl empty ↦ empty
        | inr other ↦ absurd (let there = table_offset identity m.entry count (omega arith) in omega arith)
      ]),
      no_table identity m.entry count,
      (λ same. absurd (let few = file.few in omega arith)),
    );
    program_header_size = entry_size identity m.entry count;
    extended_segment_count = λ there. absurd (there refl);
    program_table = λ some. (
        let are = counted in
        let there = table_offset identity m.entry count (omega arith) in
        let within = table_within (omega arith) in
        rw (are, there) within);
  }

  segments_kept : KeepsSegmentRules (length b) (program_header_count header (section_header_of [] 0)) (program_header_of segments)
  segments_kept = record {
    bytes = λ j lt. subst (λ (g : Phdr). g.p_type ≢ PT_NULL → 0 < g.p_filesz → g.p_offset + g.p_filesz ≤ length b)
        (sym (segment_is j (below j lt)))
        (λ typed. bytes_within (load_in m j).no_bits (get_or places j 0) (load_in m j).size (length b) (content_within j (below j lt)));
    sizes = λ j lt. subst (λ (g : Phdr). IsLoad g → g.p_filesz ≤ g.p_memsz) (sym (segment_is j (below j lt)))
        (λ is_load. file_size_below (load_in m j).no_bits (load_in m j).size);
    alignment = λ j lt. subst (λ (g : Phdr). IsLoad g → IsAlignment g.p_align) (sym (segment_is j (below j lt)))
        (λ is_load. inr paged.page);
    congruence =
        λ j lt. subst (λ (g : Phdr). IsLoad g → 1 < g.p_align → g.p_vaddr % g.p_align ≡ g.p_offset % g.p_align)
        (sym (segment_is j (below j lt)))
        (λ is_load some. congruent (load_in m j).no_bits (load_in m j).address (get_or places j 0) m.page
        (load_stands fs m stand outputs paged j (below j lt)).paged
        (page_multiple j (below j lt)));
    order = λ k j lt is_load before. (
        let earlier : k < j = before.below in
        let inside = below j lt in
        let first = ap (λ (g : Phdr). g.p_vaddr) (segment_is k (omega arith)) in
        let second = ap (λ (g : Phdr). g.p_vaddr) (segment_is j inside) in
        let apart = loads_apart fs m stand outputs k j earlier inside in
        omega arith);
  }
    where
      below : (j : ℕ) → j < program_header_count header (section_header_of [] 0) → j < count
      below j lt = (let are = counted in omega arith)

  records_kept : KeepsEachRecordRule (length b) header (section_header_of []) (program_header_of segments) (value_names header [] [])
  records_kept = record {
    file_length =
        record {
          not_too_long = file.short;
          not_too_short =
              (let long = many in let size = header_long in let within = part_within 0 (omega arith) (omega arith) in omega arith);
        };
    ident = identification_kept identity.order identity.osabi identity.abi;
    header = record {
      version = refl;
      header_size = refl;
      no_sections = λ none. (refl, refl);
      section_header_size = λ there. absurd (there refl);
      unreserved_count = omega arith;
      first_section_header = λ there. absurd (there refl);
    };
    section_table = record {
      null = λ there. absurd (there refl);
      extended_section_count = λ there. absurd (there refl);
      section_table = λ there. absurd (there refl);
      name_table_index = λ there. absurd (there refl);
      extended_name_table_index = λ there. absurd (there refl);
    };
    program_table = program_table_kept;
    sections = record {
      alignment = λ i from lt. absurd (omega arith);
      address = λ i from lt. absurd (omega arith);
      content = λ i from lt. absurd (omega arith);
    };
    segments = segments_kept;
    section_names = record {
      name_table_type = λ there. absurd (there refl);
      closed = λ some. absurd (omega arith);
      names_begin = λ i from lt. absurd (omega arith);
    };
  }

  writable : IsWritable exec_contents all_places parts
  writable = record {
    header = header_record;
    section_headers = tt;
    program_headers = segment_records;
    bytes = bytes_fit;
    section_count = refl;
    segment_count = segments_long ∙ sym counted;
    lengths = refl;
    placed = parts_stand;
    kept = subst (λ (n : ℕ). KeepsEachRecordRule n header (section_header_of []) (program_header_of segments) (value_names header [] []))
        (ap length bytes_are) records_kept;
  }

  -- ---- what is read of it

  pub exec_is_bytes : IsBytes b
  exec_is_bytes = subst IsBytes (sym bytes_are) (written_is_bytes exec_contents all_places parts writable)

  pub exec_accepted : IsFault b None
  exec_accepted = subst (λ (c : List ℕ). IsFault c None) (sym bytes_are) (written_accepted exec_contents all_places parts writable)

  pub exec_read : (v : ImageValue) → Stands v b → HasContents v exec_contents
  exec_read v stands = written_read exec_contents all_places parts writable v (subst (Stands v) bytes_are stands)
