-- An edit of the entry, of flags from section 1 on, of the gaps, or of a content keeps a sound image value sound. A content must keep its
-- length and not be the name table's, and new numbers must fit their fields. No rule looks at what is changed, so the rules stay kept; the
-- other fields follow one by one.
use Rattle.std.proofs.Common.{◌≡◌, ◌≢◌, ◌<◌, ◌≤◌, ℕ, Bor, List, [], length, map, get_or, refl, sym, ap, ◌∙◌, arith, inl, inr, ◌*◌, ◌^◌}
use Rattle.std.proofs.Common.{zero, suc, Bool, true, None, ◌∷◌, set, ap₂, subst, lit<}
use Rattle.std.specs.Prelude.{◌==◌, ◌+◌, if◌then◌else◌, replicate, Result, Ok, Err, OnOk, OnErr}
use Rattle.std.proofs.lemmas.Bool.{cases_eq, ne_eqb}
use Rattle.std.proofs.lemmas.List.{get_or-map, length-map, get_or-set_other, length-replicate, length-set}
use Rattle.std.proofs.lemmas.Option.{slice_get-get_or}
use Rattle.std.specs.List.{AllByRecursion}
use Rattle.elf_extent.specs.Account.{Accounts}
use Rattle.elf_extent.specs.declared.extent.Extent.{Extent}
use Rattle.elf_extent.specs.declared.extent.Piece.{Piece}
use Rattle.elf_field.specs.Abi.{SHDR_SIZE, SHN_XINDEX, EHDR_SIZE, PHDR_SIZE}
use Rattle.elf_field.specs.Bytes.{IsBytes}
use Rattle.elf_field.specs.laws.Bytes.{IsBytes-cons, IsBytes-nil}
use Rattle.elf_field.specs.Headers.{IsShdr}
use Rattle.elf_field.specs.declared.ehdr.Ehdr.{Ehdr}
use Rattle.elf_field.specs.declared.phdr.Phdr.{Phdr}
use Rattle.elf_field.specs.declared.shdr.Shdr.{Shdr}
use Rattle.elf_image_outline.proofs.Standing.{clean_of, content_within, counted_of, table_there}
use Rattle.elf_image_outline.specs.Image.{ImageValue, IsSoundImage, no_section_header, section_header_of, value_names, PlacedPart, gap_len}
use Rattle.elf_image_outline.specs.Image.{piece_of, program_header_of, value_extents, IsReplaceable, flagged, with_content, with_entry}
use Rattle.elf_image_outline.specs.Image.{with_flags, with_zero_gaps, zeroed}
use Rattle.elf_image_outline.specs.Outline.{OutlineValue, image_of, placed_part}
use Rattle.elf_image_outline.specs.declared.outline.Part.{Part}
use Rattle.elf_image_rules.specs.Rows.{FirstIn}
use Rattle.elf_image_rules.specs.Rules.{MAX_LEN, header_rules, header_entry_rules, header_table_rules, image_rules, record_rules}
use Rattle.elf_image_rules.specs.Rules.{section_name_rules, extents, program_table_rules, section_header_rules, section_table_rules}
use Rattle.elf_image_rules.specs.Rules.{segment_rules}
use Rattle.elf_image_rules.specs.Tables.{content_extent, name_table, shdr_offset, program_header_count, section_header_count}

-- A sound image value has one content for each section header, as long as it says; section headers and nonempty contents lie in the file.
-- The name table, if there is one, is the content of a section. Each follows from a field of the soundness or a kept rule; lengths and
-- names also hold of borrowed contents.

-- there is a content for each section header
pub contents_count : (v : ImageValue) → IsSoundImage v → length v.contents ≡ length v.sections
contents_count v sound =
    let same = ap (λ (ns : List ℕ). length ns) sound.lengths in
    let one = length-map v.contents (length {A = ℕ}) in
    let other = length-map v.sections (λ (s : Shdr). (content_extent s).len) in
    sym one ∙ same ∙ other

-- and each has the length that its section header says
pub content_len : (v : ImageValue) (i : ℕ) → IsSoundImage v → i < length v.sections →
    length (get_or v.contents i []) ≡ (content_extent (section_header_of v.sections i)).len
content_len v i sound within =
    let count = contents_count v sound in
    sym (get_or-map (length {A = ℕ}) v.contents i [] 0 (omega arith)) ∙
    ap (λ (ns : List ℕ). get_or ns i 0) sound.lengths ∙
    get_or-map (λ (s : Shdr). (content_extent s).len) v.sections i no_section_header 0 within

-- the section name string table is the table of a section
pub names_there : (v : ImageValue) → IsSoundImage v → name_table v.header (section_header_of v.sections 0) ≢ 0 →
    name_table v.header (section_header_of v.sections 0) < length v.sections
names_there v sound some =
    let clean = clean_of v (counted_of v sound) in
    let count = sound.section_count in
    elim (cases_eq v.header.e_shoff 0) [
      | inl none ↦
          let no_names = clean.no_names none in
          let is_none : name_table v.header (section_header_of v.sections 0) ≡ 0 =
          rw (ne_eqb v.header.e_shstrndx SHN_XINDEX (omega arith)) no_names in
          absurd (some is_none)
      | inr there ↦ let below = clean.name_table there in omega arith
    ]

-- ---- contents as they are held: borrowed from the file or the caller

pub content_held : (v : ImageValue) (xs : List (Bor (List ℕ))) (i : ℕ) → IsSoundImage v → v.contents ≡ map (λ x. x.now) xs →
    i < length v.sections → i < length xs
content_held v xs i sound same within =
    let count = contents_count v sound in
    let held = ap (λ (cs : List (List ℕ)). length cs) same in
    let long = length-map xs (λ (x : Bor (List ℕ)). x.now) in
    omega arith

pub held_at : (xs : List (Bor (List ℕ))) (i : ℕ) (x : Bor (List ℕ)) → i < length xs → x ≡ get_or xs i x →
    x.now ≡ get_or (map (λ x. x.now) xs) i []
held_at xs i x within is = ap (λ (y : Bor (List ℕ)). y.now) is ∙ sym (get_or-map (λ (y : Bor (List ℕ)). y.now) xs i x [] within)

pub content_size : (v : ImageValue) (xs : List (Bor (List ℕ))) (i : ℕ) (x : Bor (List ℕ)) → IsSoundImage v →
    v.contents ≡ map (λ x. x.now) xs → i < length v.sections →
    x ≡ get_or xs i x → length x.now ≡ (content_extent (section_header_of v.sections i)).len
content_size v xs i x sound same within is =
    let here = held_at xs i x (content_held v xs i sound same within) is in
    ap (λ (c : List ℕ). length c) here ∙ ap (λ (cs : List (List ℕ)). length (get_or cs i [])) (sym same) ∙ content_len v i sound within

pub names_index : (v : ImageValue) (xs : List (Bor (List ℕ))) (k : ℕ) → IsSoundImage v → v.contents ≡ map (λ x. x.now) xs →
    k ≡ name_table v.header (section_header_of v.sections 0) → k ≢ 0 → k < length xs
names_index v xs k sound same is some =
    let there = names_there v sound (λ none. some (is ∙ none)) in
    content_held v xs k sound same (omega arith)

pub names_held : (v : ImageValue) (xs : List (Bor (List ℕ))) (k : ℕ) (x : Bor (List ℕ)) → IsSoundImage v →
    v.contents ≡ map (λ x. x.now) xs →
    k ≡ name_table v.header (section_header_of v.sections 0) → k ≢ 0 → x ≡ get_or xs k x →
    x.now ≡ value_names v.header v.sections v.contents
names_held v xs k x sound same is some here =
    let Names : ℕ → List ℕ = λ j. if j == 0 then [] else get_or v.contents j [] in
    let at = held_at xs k x (names_index v xs k sound same is some) here in
    let found : Names k ≡ get_or v.contents k [] = rw (ne_eqb k 0 some) refl in
    at ∙ ap (λ (cs : List (List ℕ)). get_or cs k []) (sym same) ∙ sym found ∙ ap Names is

-- ---- where they lie in the file

pub len_short : (v : ImageValue) → IsSoundImage v → v.len ≤ MAX_LEN
len_short v sound = (clean_of v (counted_of v sound)).short

pub header_inside : (v : ImageValue) (i : ℕ) → IsSoundImage v → i < length v.sections → shdr_offset v.header i + SHDR_SIZE ≤ v.len
header_inside v i sound lt =
    let counted = counted_of v sound in
    let count = counted.section_count in
    let within = (clean_of v counted).section_table (table_there v counted (omega arith)) in
    omega arith

pub content_inside : (v : ImageValue) (i : ℕ) → IsSoundImage v → i < length v.sections →
    0 < (content_extent (section_header_of v.sections i)).len →
    (section_header_of v.sections i).sh_offset + (content_extent (section_header_of v.sections i)).len ≤ v.len
content_inside v i sound lt some =
    content_within v (counted_of v sound) i (section_header_of v.sections i) (slice_get-get_or v.sections i no_section_header lt) some

-- ---- lists with one element set

all_set : {A : Type 0} (P : A → Type 0) (xs : List A) (i : ℕ) (y : A) → AllByRecursion P xs → P y → AllByRecursion P (set xs i y)
all_set P [] i y all one = tt
all_set P (x ∷ xs) zero y all one = (one, all.1)
all_set P (x ∷ xs) (suc i) y all one = (all.0, all_set P xs i y all.1 one)

all_at : {A : Type 0} (P : A → Type 0) (xs : List A) (i : ℕ) (d : A) → AllByRecursion P xs → i < length xs → P (get_or xs i d)
all_at P [] i d all within = absurd (omega arith)
all_at P (x ∷ xs) zero d all within = all.0
all_at P (x ∷ xs) (suc i) d all within = all_at P xs i d all.1 (omega arith)

pub map-set_same : {A B : Type 0} (f : A → B) (xs : List A) (i : ℕ) (y d : A) → f y ≡ f (get_or xs i d) → map f (set xs i y) ≡ map f xs
map-set_same f [] i y d same = refl
map-set_same f (x ∷ xs) zero y d same = ap (λ (z : _). z ∷ map f xs) same
map-set_same f (x ∷ xs) (suc i) y d same = ap (λ (zs : List _). f x ∷ zs) (map-set_same f xs i y d same)

-- ---- e_entry

pub sound-with_entry : (v : ImageValue) (entry : ℕ) → IsSoundImage v → entry < 2 ^ 64 → IsSoundImage (with_entry v entry)
unfolding image_rules record_rules header_table_rules header_entry_rules header_rules section_table_rules program_table_rules
    section_header_rules segment_rules section_name_rules extents
sound-with_entry v entry sound fits = let h = sound.header in record {
  header = record {
    e_ident = h.e_ident;
    e_ident_bytes = h.e_ident_bytes;
    e_type = h.e_type;
    e_machine = h.e_machine;
    e_version = h.e_version;
    e_entry = fits;
    e_phoff = h.e_phoff;
    e_shoff = h.e_shoff;
    e_flags = h.e_flags;
    e_ehsize = h.e_ehsize;
    e_phentsize = h.e_phentsize;
    e_phnum = h.e_phnum;
    e_shentsize = h.e_shentsize;
    e_shnum = h.e_shnum;
    e_shstrndx = h.e_shstrndx;
  };
  section_headers = sound.section_headers;
  program_headers = sound.program_headers;
  section_count = sound.section_count;
  segment_count = sound.segment_count;
  lengths = sound.lengths;
  bytes = sound.bytes;
  accounts = sound.accounts;
  gaps = sound.gaps;
  clean = sound.clean;
}

-- ---- sh_flags

-- a section header but for its flags
abbrev plain : Shdr → Shdr
plain s = record s { sh_flags = 0 }

-- section headers are the same but for the flags of one
plain-flagged : (ss : List Shdr) (i flags k : ℕ) → plain (section_header_of ss k) ≡ plain (section_header_of (flagged ss i flags) k)
plain-flagged [] i flags k = refl
plain-flagged (s ∷ ss) zero flags zero = refl
plain-flagged (s ∷ ss) zero flags (suc k) = refl
plain-flagged (s ∷ ss) (suc i) flags zero = refl
plain-flagged (s ∷ ss) (suc i) flags (suc k) = plain-flagged ss i flags k

-- the flags that the rules read are those of section header 0
abbrev flags_at : ℕ → ℕ → ℕ
flags_at zero flags = flags
flags_at (suc k) flags = 0

abbrev plain_at : ℕ → Shdr → Shdr
plain_at k s = record s { sh_flags = flags_at k s.sh_flags }

plain_at-flagged : (ss : List Shdr) (i flags k : ℕ) → 0 < i →
    plain_at k (section_header_of ss k) ≡ plain_at k (section_header_of (flagged ss i flags) k)
plain_at-flagged [] i flags k above = refl
plain_at-flagged (s ∷ ss) zero flags k above = absurd (omega arith)
plain_at-flagged (s ∷ ss) (suc i) flags zero above = refl
plain_at-flagged (s ∷ ss) (suc i) flags (suc k) above = plain-flagged ss i flags k

extents-flagged : (h : Ehdr) (ss : List Shdr) (gs : List Phdr) (i flags : ℕ) →
    value_extents h ss gs ≡ value_extents h (flagged ss i flags) gs
extents-flagged h ss gs i flags =
    let s = section_header_of ss i in
    let Table : ℕ → List Extent → List Extent = λ n cs.
    record { start = 0; len = EHDR_SIZE } ∷ record { start = h.e_shoff; len = SHDR_SIZE * n } ∷ record
    { start = h.e_phoff; len = PHDR_SIZE * length gs } ∷ cs in
    ap₂ Table (sym (length-set ss i (record s { sh_flags = flags })))
    (sym (map-set_same content_extent ss i (record s { sh_flags = flags }) no_section_header refl))

flagged_fits : (s : Shdr) (flags : ℕ) → IsShdr s → flags < 2 ^ 64 → IsShdr (record s { sh_flags = flags })
flagged_fits s flags fits fit = record {
  sh_name = fits.sh_name;
  sh_type = fits.sh_type;
  sh_flags = fit;
  sh_addr = fits.sh_addr;
  sh_offset = fits.sh_offset;
  sh_size = fits.sh_size;
  sh_link = fits.sh_link;
  sh_info = fits.sh_info;
  sh_addralign = fits.sh_addralign;
  sh_entsize = fits.sh_entsize;
}

pub sound-with_flags : (v : ImageValue) (i flags : ℕ) → IsSoundImage v → 0 < i → i < length v.sections → flags < 2 ^ 64 →
    IsSoundImage (with_flags v i flags)
unfolding image_rules record_rules header_table_rules header_entry_rules header_rules section_table_rules program_table_rules
    section_header_rules segment_rules section_name_rules extents
sound-with_flags v i flags sound above within fits =
    let s = section_header_of v.sections i in
    let t : Shdr = record s { sh_flags = flags } in
    let first : section_header_of v.sections 0 ≡ section_header_of (flagged v.sections i flags) 0 =
    plain_at-flagged v.sections i flags 0 above in
    let Names : Shdr → List ℕ = λ e. let k = name_table v.header e in if k == 0 then [] else get_or v.contents k [] in
    let Keeps : (ℕ → Shdr) → Type 0 = λ e. FirstIn (image_rules v.len v.header e (program_header_of v.segments) (Names (e 0))) None in
    let all : (λ (k : ℕ). plain_at k (section_header_of v.sections k)) ≡
    (λ (k : ℕ). plain_at k (section_header_of (flagged v.sections i flags) k)) =
    λ j k. plain_at-flagged v.sections i flags k above j in
    record {
      header = sound.header;
      section_headers = all_set IsShdr v.sections i t sound.section_headers
          (flagged_fits s flags (all_at IsShdr v.sections i no_section_header sound.section_headers within) fits);
      program_headers = sound.program_headers;
      section_count = length-set v.sections i t ∙ sound.section_count ∙ ap (section_header_count v.header) first;
      segment_count = sound.segment_count ∙ ap (program_header_count v.header) first;
      lengths = sound.lengths ∙ sym (map-set_same (λ (e : Shdr). (content_extent e).len) v.sections i t no_section_header refl);
      bytes = sound.bytes;
      accounts = subst (λ (es : List Extent). Accounts es v.len 0 (map piece_of v.parts))
          (extents-flagged v.header v.sections v.segments i flags) sound.accounts;
      gaps = sound.gaps;
      clean = subst Keeps all sound.clean;
    }

-- ---- a content

names-set : (h : Ehdr) (ss : List Shdr) (cs : List (List ℕ)) (i : ℕ) (content : List ℕ) → (i ≡ name_table h (section_header_of ss 0) → ⊥) →
    value_names h ss cs ≡ value_names h ss (set cs i content)
names-set h ss cs i content other =
    let k = name_table h (section_header_of ss 0) in
    ap (λ (names : List ℕ). if k == 0 then [] else names) (sym (get_or-set_other cs i k content [] (λ same. other (sym same))))

pub sound-with_content : (v : ImageValue) (i : ℕ) (content : List ℕ) → IsSoundImage v → i < length v.sections →
    length content ≡ (content_extent (section_header_of v.sections i)).len →
    (i ≡ name_table v.header (section_header_of v.sections 0) → ⊥) → IsBytes content →
    IsSoundImage (with_content v i content)
sound-with_content v i content sound within long other are = record {
  header = sound.header;
  section_headers = sound.section_headers;
  program_headers = sound.program_headers;
  section_count = sound.section_count;
  segment_count = sound.segment_count;
  lengths = map-set_same length v.contents i content [] (long ∙ sym (content_len v i sound within)) ∙ sound.lengths;
  bytes = all_set IsBytes v.contents i content sound.bytes are;
  accounts = sound.accounts;
  gaps = sound.gaps;
  clean = subst
      (λ (names : List ℕ). FirstIn (image_rules v.len v.header (section_header_of v.sections) (program_header_of v.segments) names) None)
      (names-set v.header v.sections v.contents i content other) sound.clean;
}

-- ---- the gaps

pub IsBytes-zeros : (n : ℕ) → IsBytes (replicate n 0)
IsBytes-zeros zero = IsBytes-nil
IsBytes-zeros (suc n) = IsBytes-cons 0 (replicate n 0) (lit< tt) (IsBytes-zeros n)

pieces-zeroed : (ps : List PlacedPart) → map piece_of ps ≡ map piece_of (map zeroed ps)
pieces-zeroed [] = refl
pieces-zeroed (p ∷ ps) = ap (λ (qs : List Piece). piece_of p ∷ qs) (pieces-zeroed ps)

gaps-zeroed : (ps : List PlacedPart) → AllByRecursion (λ p. IsBytes p.gap × (length p.gap ≡ gap_len p.part)) (map zeroed ps)
gaps-zeroed [] = tt
gaps-zeroed (p ∷ ps) = ((IsBytes-zeros (gap_len p.part), length-replicate (gap_len p.part) 0), gaps-zeroed ps)

pub sound-with_zero_gaps : (v : ImageValue) → IsSoundImage v → IsSoundImage (with_zero_gaps v)
sound-with_zero_gaps v sound = record {
  header = sound.header;
  section_headers = sound.section_headers;
  program_headers = sound.program_headers;
  section_count = sound.section_count;
  segment_count = sound.segment_count;
  lengths = sound.lengths;
  bytes = sound.bytes;
  accounts = subst (λ (qs : List Piece). Accounts (value_extents v.header v.sections v.segments) v.len 0 qs)
      (pieces-zeroed v.parts) sound.accounts;
  gaps = gaps-zeroed v.parts;
  clean = sound.clean;
}

-- gaps that count as zeros are the file's, zeroed
pub placed-zeroed : (z : Bool) (file : List ℕ) (ps : List Part) → map (placed_part true file) ps ≡ map zeroed (map (placed_part z file) ps)
placed-zeroed z file [] = refl
placed-zeroed z file (p ∷ ps) = ap (λ (qs : List PlacedPart). placed_part true file p ∷ qs) (placed-zeroed z file ps)

pub parts-placed : (z : Bool) (file : List ℕ) (ps : List Part) → ps ≡ map (λ q. q.part) (map (placed_part z file) ps)
parts-placed z file [] = refl
parts-placed z file (p ∷ ps) = ap (λ (qs : List Part). p ∷ qs) (parts-placed z file ps)

pub image-zeroed : (o : OutlineValue) (cs : List (List ℕ)) (file : List ℕ) →
    image_of (record o { zeroed = true }) cs file ≡ with_zero_gaps (image_of o cs file)
image-zeroed o cs file =
    ap (λ (ps : List PlacedPart). let v : ImageValue =
    record { len = o.len; header = o.header; sections = o.sections; segments = o.segments; contents = cs; parts = ps } in v)
    (placed-zeroed o.zeroed file o.parts)

-- ---- what the calls answer

-- flags that were set or refused leave a sound image
pub sound-flagged : {E : Type 0} (r : Result (Unit {0}) E) (o new : OutlineValue) (cs : List (List ℕ)) (file : List ℕ) (i flags : ℕ) →
    OnOk r ((0 < i) × (i < length o.sections) × (new ≡ record o { sections = flagged o.sections i flags })) →
    OnErr r ((¬ ((0 < i) × (i < length o.sections))) × (new ≡ o)) → flags < 2 ^ 64 → IsSoundImage (image_of o cs file) →
    IsSoundImage (image_of new cs file)
sound-flagged (Ok u) o new cs file i flags done refused fits sound =
    subst (λ (w : OutlineValue). IsSoundImage (image_of w cs file)) (sym done.2)
    (sound-with_flags (image_of o cs file) i flags sound done.0 done.1 fits)
sound-flagged (Err e) o new cs file i flags done refused fits sound =
    subst (λ (w : OutlineValue). IsSoundImage (image_of w cs file)) (sym refused.1) sound

-- so does a content that was replaced
pub sound-replaced : (v : ImageValue) (i : ℕ) (content : List ℕ) → IsSoundImage v → IsReplaceable v i content → IsBytes content →
    IsSoundImage (with_content v i content)
sound-replaced v i content sound able are =
    let s = section_header_of v.sections i in
    let size : length content ≡ (content_extent s).len =
    rw (ne_eqb s.sh_type 0 able.section.1, ne_eqb s.sh_type 8 able.section.2) able.size in
    sound-with_content v i content sound able.section.0.1 size able.no_names are
