-- The records that are read of a file in memory are those that its bytes hold. So their extents are the file's (`extents_read`), and the
-- lowest byte that two of them hold is the file's fault where it keeps rules 1 to 32 (`stops_shared`). Without such a byte, the records and
-- their parts make the image of the file (`image_read`).
use Rattle.std.proofs.Common.{◌≡◌, ◌∙◌, ◌∷◌, ◌*◌, ℕ, List, None, Some, ap, length, map, refl, subst, sym}
use Rattle.std.specs.List.{range_with_len}
use Rattle.std.proofs.lemmas.List.FromFn.{length-map-range_with_len}
use Rattle.std.proofs.lemmas.Simd.{map-map}
use Rattle.elf_extent.specs.Account.{Accounts}
use Rattle.elf_extent.specs.Extent.{AreWithin, Doubly, IsLowest}
use Rattle.elf_extent.specs.declared.extent.Extent.{Extent}
use Rattle.elf_field.specs.Abi.{EHDR_SIZE, PHDR_SIZE, SHDR_SIZE}
use Rattle.elf_field.specs.Bytes.{IsBytes}
use Rattle.elf_field.specs.declared.ehdr.Ehdr.{Ehdr}
use Rattle.elf_field.specs.declared.phdr.Phdr.{Phdr}
use Rattle.elf_field.specs.declared.shdr.Shdr.{Shdr}
use Rattle.elf_image_outline.proofs.Theorem.{made_is_image}
use Rattle.elf_image_outline.specs.Image.{AreRecordsIn, IsImage, part_piece, value_extents}
use Rattle.elf_image_outline.specs.Outline.{image_in, outline_value}
use Rattle.elf_image_outline.specs.Scanning.{IsSharedFault, StopsInMemory}
use Rattle.elf_image_outline.specs.declared.outline.Part.{Part}
use Rattle.elf_image_rules.proofs.Public.{extents_within, fault_of_extents, sound_file}
use Rattle.elf_image_rules.specs.Rules.{IsFault, KeepsRecordRules, contents, extents, extents_of_file}
use Rattle.elf_image_rules.specs.Tables.{bytes_in, content_extent, file_counts, header, program_header_count, section_header_count}
use Rattle.elf_image_rules.specs.Tables.{sections}
use Rattle.elf_image_rules.specs.Tables.{segments}
use Rattle.elf_image_stream.specs.declared.fault.BytesFault.TheVariants.{OutOfMemory, Rule}
use Rattle.elf_image_stream.specs.declared.fault.BytesFault.{BytesFault}

-- what was read is the file's, whatever equal name the file has
pub records_read : (f b : List ℕ) (h : Ehdr) (ss : List Shdr) (gs : List Phdr) → f ≡ b → h ≡ header f →
    ss ≡ map (sections f (header f)) (range_with_len 0 (file_counts f).sections) →
    gs ≡ map (segments f (header f)) (range_with_len 0 (file_counts f).segments) → AreRecordsIn b h ss gs
records_read f b h ss gs same is sections_are segments_are =
    subst (λ (k : List ℕ). AreRecordsIn k h ss gs) same
    record {
      header = is;
      section_headers = subst (λ (k : Ehdr). ss ≡ map (sections f k) (range_with_len 0 (section_header_count k (sections f k 0))))
          (sym is) sections_are;
      program_headers = subst (λ (k : Ehdr). gs ≡ map (segments f k) (range_with_len 0 (program_header_count k (sections f k 0))))
          (sym is) segments_are;
    }

sections_many : (b : List ℕ) (h : Ehdr) (ss : List Shdr) (gs : List Phdr) → AreRecordsIn b h ss gs →
    length ss ≡ section_header_count h (sections b h 0)
sections_many b h ss gs records = ap length records.section_headers ∙ length-map-range_with_len (sections b h) 0 _

segments_many : (b : List ℕ) (h : Ehdr) (ss : List Shdr) (gs : List Phdr) → AreRecordsIn b h ss gs →
    length gs ≡ program_header_count h (sections b h 0)
segments_many b h ss gs records = ap length records.program_headers ∙ length-map-range_with_len (segments b h) 0 _

extents_read : (b : List ℕ) (h : Ehdr) (ss : List Shdr) (gs : List Phdr) → AreRecordsIn b h ss gs →
    value_extents h ss gs ≡ extents_of_file b
unfolding extents
extents_read b h ss gs records =
    let n = section_header_count h (sections b h 0) in
    let m = program_header_count h (sections b h 0) in
    let Extents : ℕ → ℕ → List Extent → List Extent = λ j k cs.
    record { start = 0; len = EHDR_SIZE } ∷ record { start = h.e_shoff; len = SHDR_SIZE * j } ∷ record
    { start = h.e_phoff; len = PHDR_SIZE * k } ∷ cs in
    let held : map content_extent ss ≡ contents n (sections b h) =
    ap (map content_extent) records.section_headers ∙ map-map content_extent (sections b h) (range_with_len 0 n) in
    ap (λ (j : ℕ). Extents j (length gs) (map content_extent ss)) (sections_many b h ss gs records)
    ∙ ap (λ (k : ℕ). Extents n k (map content_extent ss)) (segments_many b h ss gs records)
    ∙ ap (Extents n m) held
    ∙ ap (λ (k : Ehdr). extents k (section_header_count k (sections b k 0)) (program_header_count k (sections b k 0)) (sections b k))
    records.header

-- the extents lie in the file
pub read_within : (b : List ℕ) (h : Ehdr) (ss : List Shdr) (gs : List Phdr) → KeepsRecordRules b → AreRecordsIn b h ss gs →
    AreWithin (value_extents h ss gs) (length b)
read_within b h ss gs kept records =
    subst (λ (es : List Extent). AreWithin es (length b)) (sym (extents_read b h ss gs records))
    (extents_within (length b) (header b) (sections b (header b)) (sound_file b (header b) refl kept))

pub stops_shared : (b : List ℕ) (h : Ehdr) (ss : List Shdr) (gs : List Phdr) (fault : BytesFault) → KeepsRecordRules b →
    AreRecordsIn b h ss gs → IsSharedFault (value_extents h ss gs) fault → StopsInMemory b fault
stops_shared b h ss gs OutOfMemory kept records shared = kept
stops_shared b h ss gs (Rule number at) kept records (is, lowest) =
    subst (λ (n : ℕ). IsFault b (Some (n, at))) (sym is)
    (fault_of_extents b (Some at) kept
    (subst (λ (es : List Extent). IsLowest (Doubly es) (Some at)) (extents_read b h ss gs records) lowest))

pub image_read : (b : List ℕ) (h : Ehdr) (ss : List Shdr) (gs : List Phdr) (ps : List Part) → IsBytes b → KeepsRecordRules b →
    AreRecordsIn b h ss gs → IsLowest (Doubly (value_extents h ss gs)) None →
    Accounts (value_extents h ss gs) (length b) 0 (map part_piece ps) →
    IsImage (image_in (outline_value (length b) h ss gs ps) b) b
image_read b h ss gs ps are kept records unshared accounts =
    made_is_image b h ss gs (map (λ s. bytes_in b (content_extent s)) ss) ps are records refl accounts
    (fault_of_extents b None kept
    (subst (λ (es : List Extent). IsLowest (Doubly es) None) (extents_read b h ss gs records) unshared))
