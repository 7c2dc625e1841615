-- The sections of a file whose records were validated, as they are read where they are: their number is the file's count, each header is
-- the one that the bytes have, and each content lies in the file, so that it is as long as its header says.
use Rattle.std.proofs.Common.{◌≡◌, ◌∙◌, ◌<◌, ◌≤◌, ◌+◌, ◌-◌, ℕ, zero, suc, List, [], length, get_or, map, ap, refl, subst, sym}
use Rattle.std.proofs.Common.{arith, zero-add, take, drop}
use Rattle.std.proofs.lemmas.List.{get_or-map, length-take-le, length-drop}
use Rattle.std.proofs.lemmas.List.FromFn.{get_or-map-range_with_len, length-map-range_with_len}
use Rattle.elf_field.specs.declared.shdr.Shdr.{Shdr}
use Rattle.elf_field.specs.declared.ehdr.Ehdr.{Ehdr}
use Rattle.elf_image_rules.proofs.Public.{content_some, sound_file, table_some}
use Rattle.elf_image_rules.specs.KeepsRules.{HasSoundTables}
use Rattle.elf_image_rules.specs.Rules.{KeepsRecordRules}
use Rattle.elf_image_rules.specs.Tables.{bytes_in, content_extent, file_counts, header, no_section_header, section_header_count, sections}
use Rattle.elf_table_symbols.specs.Sections.{content, count, section, sections_in}

pub count_read : (b : List ℕ) → count (sections_in b) ≡ (file_counts b).sections
unfolding sections_in
count_read b = length-map-range_with_len (sections b (header b)) 0 (file_counts b).sections

pub section_read : (b : List ℕ) (i : ℕ) → i < count (sections_in b) → section (sections_in b) i ≡ sections b (header b) i
unfolding sections_in
section_read b i within =
    get_or-map-range_with_len (sections b (header b)) 0 (file_counts b).sections i i no_section_header
    (subst (λ (n : ℕ). i < n) (count_read b) within) (zero-add i)

pub content_read : (b : List ℕ) (i : ℕ) → i < count (sections_in b) →
    content (sections_in b) i ≡ bytes_in b (content_extent (section (sections_in b) i))
unfolding sections_in
content_read b i within =
    get_or-map (λ (s : Shdr). bytes_in b (content_extent s)) (sections_in b).headers i no_section_header [] within

-- a content that is not empty lies in a file that keeps rules 1 to 32; section header 0 has none
content_inside : (len : ℕ) (h : Ehdr) (s : ℕ → Shdr) → HasSoundTables len h s → (i : ℕ) → i < section_header_count h (s 0) →
    0 < (content_extent (s i)).len → (s i).sh_offset + (content_extent (s i)).len ≤ len
content_inside len h s sound zero below some =
    absurd ((content_some (s 0) some).0 (sound.null (table_some h (s 0) (omega arith))))
content_inside len h s sound (suc i) below some =
    let (typed, bits, size) = content_some (s (suc i)) some in
    let inside = sound.content (suc i) (omega arith) below typed bits (omega arith) in
    omega arith

-- bytes that lie in the file are as many as the extent says
length_inside : (b : List ℕ) (start len : ℕ) → (0 < len → start + len ≤ length b) → length (take len (drop start b)) ≡ len
length_inside b start zero inside = refl
length_inside b start (suc len) inside =
    length-take-le (suc len) (drop start b) (let le = inside (omega arith) in omega (arith, length-drop start b))

pub content_long : (b : List ℕ) (i : ℕ) → KeepsRecordRules b → i < count (sections_in b) →
    length (content (sections_in b) i) ≡ (content_extent (section (sections_in b) i)).len
content_long b i kept within =
    let s = section (sections_in b) i in
    let below = subst (λ (n : ℕ). i < n) (count_read b) within in
    let sound = sound_file b (header b) refl kept in
    let inside : 0 < (content_extent s).len → s.sh_offset + (content_extent s).len ≤ length b =
    subst (λ (t : Shdr). 0 < (content_extent t).len → t.sh_offset + (content_extent t).len ≤ length b) (sym (section_read b i within))
    (λ some. content_inside (length b) (header b) (sections b (header b)) sound i below some) in
    ap (λ (c : List ℕ). length c) (content_read b i within) ∙ length_inside b s.sh_offset (content_extent s).len inside
