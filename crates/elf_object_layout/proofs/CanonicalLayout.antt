-- An object has one canonical layout, because its parts have one list of least places, and these determine the bytes. If the parts are
-- placed in order, the file is as long as the end of the last part, the section header table. What is found for saturated sizes is true of
-- the object's layout (`layout_ok`, `layout_err`).
use Rattle.std.proofs.Common.{◌≡◌, ◌<◌, ◌≤◌, ◌+◌, ◌-◌, ◌⊎◌, min, ℕ, zero, suc, List, [], ◌∷◌, length, map, get_or, refl, ap, ap₂, subst}
use Rattle.std.proofs.Common.{inl, inr, arith, ◌*◌, ◌++◌, sym, ◌∙◌, ◌^◌, length-append}
use Rattle.std.proofs.lemmas.Bool.{cases_lt}
use Rattle.std.proofs.Math.Nat.{le-min, min-eq_left}
use Rattle.std.specs.Prelude.{Result, Ok, Err, IfErr, IfOk, codes}
use Rattle.std.proofs.lemmas.List.{length-map, get_or-map}
use Rattle.elf_extent.proofs.Public.{above_earlier, fits_length, same_least, least_places}
use Rattle.elf_extent.specs.Place.{Fits, IsOverflowAt, Least, end_of}
use Rattle.elf_field.proofs.RecordTableLaws.{length-table}
use Rattle.elf_field.specs.Abi.{EHDR_SIZE, SHDR_SIZE}
use Rattle.elf_field.specs.laws.Entries.{sym_laws, word_laws}
use Rattle.elf_field.specs.laws.Headers.{shdr_laws}
use Rattle.elf_field.specs.declared.ehdr.Ehdr.{Ehdr}
use Rattle.elf_field.specs.declared.shdr.Shdr.{Shdr}
use Rattle.elf_image_rules.specs.Rules.{MAX_LEN}
use Rattle.elf_image_rules.specs.Tables.{order_of}
use Rattle.elf_image_type.proofs.Public.{length-relocatable_bytes}
use Rattle.elf_image_type.specs.WrittenFile.{unaligned, all_headers, after_header, offsets, section_table}
use Rattle.elf_object_strings.proofs.Public.{holds_names}
use Rattle.elf_object_strings.specs.StringTable.{name_offset, string_table}
use Rattle.elf_object_type.specs.Object.{ObjectValue}
use Rattle.elf_object_layout.proofs.PlainSections.{names_found, strings_found, symbols_found, count_far, count_near, either_way, own_below}
use Rattle.elf_object_layout.specs.Laid.{LARGEST, saturated, AreTooLong, ArePlacedParts, LayoutValue, Laid, content_part, file_header}
use Rattle.elf_object_layout.specs.Laid.{layout_bytes, layout_parts, section_headers, ArePartsFault, IsLayoutFault, IsLayoutOf}
use Rattle.elf_object_layout.specs.Laid.{PlainSection, name_table_at, plain_sections, section_names, index_table_section, index_word}
use Rattle.elf_object_layout.specs.Laid.{null_symbol, sections_before_names, strings, symbol_entry, symbol_names, symbol_table_section}
use Rattle.elf_object_layout.specs.declared.layout.LayoutFault.TheVariants.{TooLong, OutOfMemory}
use Rattle.elf_object_layout.specs.declared.layout.LayoutFault.{LayoutFault}

-- The end of parts at their least places. Places ascend, so no part ends after the last one. A part that ends beyond 2^30, is larger than
-- that, or passes 64 bits makes the whole too long. What places of saturated sizes show, also that they are too long, is true of the sizes
-- themselves.

-- no part ends after the last one
pub end_last : (ps : List (ℕ × ℕ)) (from : ℕ) (q : List ℕ) (k : ℕ) → Fits ps from q → k < length ps →
    end_of ps q k ≤ end_of ps q (length ps - 1)
end_last ps from q k fits lt = elim (cases_lt k (length ps - 1)) [
  | inl earlier ↦ (let above = above_earlier ps from q k (length ps - 1) fits earlier (omega arith) in omega arith)
  | inr late ↦
      (let same : k ≡ length ps - 1 = omega arith in
      let equal = ap (end_of ps q) same in
      omega arith)
]

-- a part that ends far out makes the whole too long
pub too_long_at : (ps : List (ℕ × ℕ)) (k : ℕ) (q : List ℕ) → Least ps EHDR_SIZE q → k < length ps → MAX_LEN < end_of ps q k → AreTooLong ps
too_long_at ps k q least lt far r other =
    let same = same_least ps EHDR_SIZE q r least other in
    let last = end_last ps EHDR_SIZE q k least.fits lt in
    let moved = ap (λ (s : List ℕ). end_of ps s (length ps - 1)) same in
    omega arith

-- so does one that is larger than the longest file
pub too_long_by_size : (ps : List (ℕ × ℕ)) (k : ℕ) → k < length ps → MAX_LEN < get_or (map (λ (p : ℕ × ℕ). p.0) ps) k 0 → AreTooLong ps
too_long_by_size ps k lt large r least =
    let last = end_last ps EHDR_SIZE r k least.fits lt in
    omega arith

-- so does one that passes a u64
pub overflow_long : (ps : List (ℕ × ℕ)) (k : ℕ) → ((q : List ℕ) × IsOverflowAt ps EHDR_SIZE k q) → AreTooLong ps
overflow_long ps k (q, over) =
    let far = over.past in
    too_long_at ps k q over.least over.within (omega arith)

pub size_at : (ps : List (ℕ × ℕ)) (k : ℕ) → get_or (map (λ (p : ℕ × ℕ). p.0) ps) k 0 ≡ (get_or ps k (0, 0)).0
size_at [] k = refl
size_at (p ∷ ps) zero = refl
size_at (p ∷ ps) (suc k) = size_at ps k

-- an element that is there does not depend on what is used for a missing one
same_element : (xs : List ℕ) (k d e : ℕ) → k < length xs → get_or xs k d ≡ get_or xs k e
same_element [] k d e lt = absurd (omega arith)
same_element (x ∷ xs) zero d e lt = refl
same_element (x ∷ xs) (suc k) d e lt = same_element xs k d e (omega arith)

-- the last place and the last size, as code reads them
pub whole_end : (ps : List (ℕ × ℕ)) (q : List ℕ) (x : ℕ) → 0 < length ps → Least ps EHDR_SIZE q → x ≡ get_or q (length ps - 1) x →
    x + (get_or ps (length ps - 1) (0, 0)).0 ≡ end_of ps q (length ps - 1)
whole_end ps q x some least here =
    let many = fits_length ps EHDR_SIZE q least.fits in
    let place : get_or q (length ps - 1) x ≡ get_or q (length ps - 1) 0 = same_element q (length ps - 1) x 0 (omega arith) in
    let size = size_at ps (length ps - 1) in
    omega arith

-- ---- sizes of 64 bits

-- all sizes fit, or one is too large for any file
pub sizes_fit : (ps : List (ℕ × ℕ)) →
    (map saturated ps ≡ ps) ⊎ ((k : ℕ) × (k < length ps) × (LARGEST ≤ get_or (map (λ (p : ℕ × ℕ). p.0) ps) k 0))
sizes_fit [] = inl refl
sizes_fit (p ∷ ps) = elim (cases_lt p.0 LARGEST) [
  | inr large ↦ inr (0, omega arith, large)
  | inl small ↦ elim (sizes_fit ps) [
    | inl rest ↦ inl (ap₂ (λ (q : ℕ × ℕ) (qs : List (ℕ × ℕ)). q ∷ qs) (same_part p small) rest)
    | inr (k, lt, large) ↦ inr (suc k, omega arith, large)
  ]
]
  where
    same_part : (p : ℕ × ℕ) → p.0 < LARGEST → saturated p ≡ p
    same_part p small = let size : min p.0 LARGEST ≡ p.0 = min-eq_left (omega arith) in ap (λ (n : ℕ). let q : ℕ × ℕ = (n, p.1) in q) size

length-saturated : (ps : List (ℕ × ℕ)) → length (map saturated ps) ≡ length ps
length-saturated [] = refl
length-saturated (p ∷ ps) = ap suc (length-saturated ps)

saturated_size : (ps : List (ℕ × ℕ)) (k : ℕ) → LARGEST ≤ get_or (map (λ (p : ℕ × ℕ). p.0) ps) k 0 →
    LARGEST ≤ get_or (map (λ (p : ℕ × ℕ). p.0) (map saturated ps)) k 0
saturated_size [] k large = large
saturated_size (p ∷ ps) zero large = le-min large (omega arith)
saturated_size (p ∷ ps) (suc k) large = saturated_size ps k large

-- what places of such parts say about the parts
pub placed_parts : (ps : List (ℕ × ℕ)) (layout : LayoutValue) → ArePlacedParts (map saturated ps) layout → ArePlacedParts ps layout
placed_parts ps layout placed = elim (sizes_fit ps) [
  | inl same ↦ subst (λ (qs : List (ℕ × ℕ)). ArePlacedParts qs layout) same placed
  | inr (k, lt, large) ↦
      (let long = length-saturated ps in
      let size = saturated_size ps k large in
      let far = too_long_by_size (map saturated ps) k (omega arith) (omega arith) layout.places placed.least in
      let short = placed.short in
      let end = placed.file_len in
      absurd (omega arith))
]

pub too_long_parts : (ps : List (ℕ × ℕ)) → AreTooLong (map saturated ps) → AreTooLong ps
too_long_parts ps far = elim (sizes_fit ps) [
  | inl same ↦ subst AreTooLong same far
  | inr (k, lt, large) ↦ too_long_by_size ps k lt (omega arith)
]

pub some_layout : (o : ObjectValue) → (b : List ℕ) × Laid o b
some_layout o =
    let least = least_places (layout_parts (plain_sections o)) EHDR_SIZE in
    (layout_bytes o least.0, record { places = least.0; least = least.1; bytes = refl })

pub one_layout : (o : ObjectValue) (b c : List ℕ) → Laid o b → Laid o c → b ≡ c
one_layout o b c one other =
    let same = same_least (layout_parts (plain_sections o)) EHDR_SIZE one.places other.places one.least other.least in
    one.bytes ∙ ap (layout_bytes o) same ∙ sym other.bytes

-- ---- the length of the file

-- contents and the table by size alone
unaligned_parts : (sections : List PlainSection) (size : ℕ) (table : List ℕ) (from : ℕ) (places : List ℕ) → length table ≡ size →
    Fits (map content_part sections ++ ((size, 8) ∷ [])) from places →
    Fits (map unaligned (map (λ (s : PlainSection). s.content) sections ++ (table ∷ []))) from places
unaligned_parts [] size table from [] long fits = absurd fits
unaligned_parts [] size table from (x ∷ []) long fits = (omega arith, fits.1, tt)
unaligned_parts [] size table from (x ∷ (y ∷ places)) long fits = absurd fits.2
unaligned_parts (s ∷ sections) size table from [] long fits = absurd fits
unaligned_parts (s ∷ sections) size table from (x ∷ places) long fits =
    (omega arith, fits.1, unaligned_parts sections size table (x + length s.content) places long fits.2)

-- a section header for each section
length-section_headers : (name_at : List ℕ → ℕ) (sections : List PlainSection) (places : List ℕ) → length places ≡ suc (length sections) →
    length (section_headers name_at sections places) ≡ length sections
length-section_headers name_at [] places long = refl
length-section_headers name_at (s ∷ sections) [] long = absurd (omega arith)
length-section_headers name_at (s ∷ sections) (x ∷ places) long = ap suc (length-section_headers name_at sections places (omega arith))

pub offsets_are : (name_at : List ℕ → ℕ) (sections : List PlainSection) (places : List ℕ) → length places ≡ suc (length sections) →
    map (λ (s : Shdr). s.sh_offset) (section_headers name_at sections places) ++ (get_or places (length sections) 0 ∷ []) ≡ places
offsets_are name_at [] [] long = absurd (omega arith)
offsets_are name_at [] (x ∷ []) long = refl
offsets_are name_at [] (x ∷ (y ∷ places)) long = absurd (omega arith)
offsets_are name_at (s ∷ sections) [] long = absurd (omega arith)
offsets_are name_at (s ∷ sections) (x ∷ places) long = ap (λ (xs : List ℕ). x ∷ xs) (offsets_are name_at sections places (omega arith))

last_size : (sections : List PlainSection) (size : ℕ) →
    get_or (map (λ (p : ℕ × ℕ). p.0) (map content_part sections ++ ((size, 8) ∷ []))) (length sections) 0 ≡ size
last_size [] size = refl
last_size (s ∷ sections) size = last_size sections size

length-parts : (sections : List PlainSection) (size : ℕ) → length (map content_part sections ++ ((size, 8) ∷ [])) ≡ suc (length sections)
length-parts [] size = refl
length-parts (s ∷ sections) size = ap suc (length-parts sections size)

pub length-layout_parts : (sections : List PlainSection) → length (layout_parts sections) ≡ length sections + 1
unfolding layout_parts
length-layout_parts sections = let long = length-parts sections (SHDR_SIZE * (length sections + 1)) in omega arith

-- the header, section headers and contents of the file with these places
abbrev pub canonical_header : ObjectValue → List ℕ → Ehdr
canonical_header o places = let sections = plain_sections o in file_header o (length sections + 1) (get_or places (length sections) 0)

abbrev pub canonical_section_headers : ObjectValue → List ℕ → List Shdr
canonical_section_headers o places = section_headers (name_offset (section_names o)) (plain_sections o) places

abbrev pub contents_of : ObjectValue → List (List ℕ)
contents_of o = map (λ s. s.content) (plain_sections o)

pub length-canonical_section_headers : (o : ObjectValue) (places : List ℕ) → Fits (layout_parts (plain_sections o)) EHDR_SIZE places →
    length (canonical_section_headers o places) ≡ length (plain_sections o)
unfolding layout_parts
length-canonical_section_headers o places fits =
    let sections = plain_sections o in
    let parts_long = length-parts sections (SHDR_SIZE * (length sections + 1)) in
    let many = fits_length (layout_parts sections) EHDR_SIZE places fits in
    length-section_headers (name_offset (section_names o)) sections places (omega arith)

-- each part is after the one before it, as a relocatable file wants it
pub layout_order : (o : ObjectValue) (places : List ℕ) → Fits (layout_parts (plain_sections o)) EHDR_SIZE places →
    Fits (map unaligned (after_header (canonical_header o places) (canonical_section_headers o places) (contents_of o) (name_table_at o)))
    EHDR_SIZE (offsets (canonical_header o places) (canonical_section_headers o places))
unfolding layout_parts
layout_order o places fits =
    let sections = plain_sections o in
    let count = length sections + 1 in
    let h = canonical_header o places in
    let ss = canonical_section_headers o places in
    let parts_long = length-parts sections (SHDR_SIZE * count) in
    let places_long : length places ≡ suc (length sections) =
    (let many = fits_length (layout_parts sections) EHDR_SIZE places fits in omega arith) in
    let headers_long = length-section_headers (name_offset (section_names o)) sections places places_long in
    let table_long : length (section_table h ss (name_table_at o)) ≡ SHDR_SIZE * count =
    (let all = length-table shdr_laws (order_of h.e_ident) (all_headers ss (name_table_at o)) in omega arith) in
    let loose = unaligned_parts sections (SHDR_SIZE * count) (section_table h ss (name_table_at o)) EHDR_SIZE places table_long fits in
    subst (Fits (map unaligned (after_header h ss (contents_of o) (name_table_at o))) EHDR_SIZE)
    (sym (offsets_are (name_offset (section_names o)) sections places places_long)) loose

pub length-layout_bytes : (o : ObjectValue) (places : List ℕ) → Fits (layout_parts (plain_sections o)) EHDR_SIZE places →
    length (layout_bytes o places) ≡ end_of (layout_parts (plain_sections o)) places (length (layout_parts (plain_sections o)) - 1)
unfolding layout_bytes layout_parts
length-layout_bytes o places fits =
    let sections = plain_sections o in
    let count = length sections + 1 in
    let parts_long = length-parts sections (SHDR_SIZE * count) in
    let headers_long = length-canonical_section_headers o places fits in
    let contents_long = length-map sections (λ (s : PlainSection). s.content) in
    let whole = length-relocatable_bytes (canonical_header o places) (canonical_section_headers o places) (contents_of o) (name_table_at o)
    (omega arith) (layout_order o places fits) in
    let last : length (map content_part sections ++ ((SHDR_SIZE * count, 8) ∷ [])) - 1 ≡ length sections = omega arith in
    let size = last_size sections (SHDR_SIZE * count) in
    let end = ap (end_of (map content_part sections ++ ((SHDR_SIZE * count, 8) ∷ [])) places) last in
    omega arith

-- ---- what placed parts say about the object

pub layout_ok : (o : ObjectValue) (parts : List (ℕ × ℕ)) (layout : LayoutValue) → parts ≡ map saturated (layout_parts (plain_sections o)) →
    ArePlacedParts parts layout → IsLayoutOf o layout
layout_ok o parts layout is placed =
    let real = placed_parts (layout_parts (plain_sections o)) layout (subst (λ (ps : List (ℕ × ℕ)). ArePlacedParts ps layout) is placed) in
    let many = fits_length (layout_parts (plain_sections o)) EHDR_SIZE layout.places real.least.fits in
    record {
      least = real.least;
      count = many ∙ length-layout_parts (plain_sections o);
      file_len = real.file_len ∙ sym (length-layout_bytes o layout.places real.least.fits);
      short = real.short;
    }

pub layout_err : (o : ObjectValue) (parts : List (ℕ × ℕ)) (fault : LayoutFault) → parts ≡ map saturated (layout_parts (plain_sections o)) →
    ArePartsFault parts fault → IsLayoutFault o fault
layout_err o parts TooLong is far = λ b laid.
    let real = too_long_parts (layout_parts (plain_sections o)) (subst AreTooLong is far) laid.places laid.least in
    let long = length-layout_bytes o laid.places laid.least.fits in
    let same = ap length laid.bytes in
    omega arith
layout_err o parts OutOfMemory is far = tt

pub some_part : (o : ObjectValue) (parts : List (ℕ × ℕ)) → parts ≡ map saturated (layout_parts (plain_sections o)) → 0 < length parts
some_part o parts is =
    let all = ap length is in
    let same = length-map (layout_parts (plain_sections o)) saturated in
    let long = length-layout_parts (plain_sections o) in
    omega arith

pub if_ok : {T E : Type 0} (r : Result T E) (P Q : T → Type 0) → ((x : T) → P x → Q x) → IfOk r P → IfOk r Q
if_ok (Ok x) P Q more is = more x is
if_ok (Err e) P Q more is = tt

pub if_err : {T E : Type 0} (r : Result T E) (P Q : E → Type 0) → ((e : E) → P e → Q e) → IfErr r P → IfErr r Q
if_err (Ok x) P Q more is = tt
if_err (Err e) P Q more is = more e is

-- What follows for the numbers of an object from a layout that is not too long. Each part ends at 2^30 or below, so there are few sections
-- and symbols. A name's offset is below the length of its table, so it fits 32 bits. There are also small facts on how code reads names and
-- indexes.

-- ---- the sizes of the parts

content_size : (sections : List PlainSection) (table : ℕ × ℕ) (k : ℕ) (d : PlainSection) → k < length sections →
    get_or (map (λ (p : ℕ × ℕ). p.0) (map content_part sections ++ (table ∷ []))) k 0 ≡ length (get_or sections k d).content
content_size [] table k d lt = absurd (omega arith)
content_size (s ∷ sections) table zero d lt = refl
content_size (s ∷ sections) table (suc k) d lt = content_size sections table k d (omega arith)

table_size : (sections : List PlainSection) (table : ℕ × ℕ) →
    get_or (map (λ (p : ℕ × ℕ). p.0) (map content_part sections ++ (table ∷ []))) (length sections) 0 ≡ table.0
table_size [] table = refl
table_size (s ∷ sections) table = table_size sections table

-- no part ends after the longest file
part_end : (o : ObjectValue) (layout : LayoutValue) (k : ℕ) → IsLayoutOf o layout → k ≤ length (plain_sections o) →
    end_of (layout_parts (plain_sections o)) layout.places k ≤ MAX_LEN
part_end o layout k laid le =
    let parts = layout_parts (plain_sections o) in
    let long = length-layout_parts (plain_sections o) in
    let last = end_last parts EHDR_SIZE layout.places k laid.least.fits (omega arith) in
    let whole = length-layout_bytes o layout.places laid.least.fits in
    let same = laid.file_len in
    let short = laid.short in
    omega arith

pub content_end : (o : ObjectValue) (layout : LayoutValue) (k : ℕ) (d : PlainSection) → IsLayoutOf o layout →
    k < length (plain_sections o) →
    get_or layout.places k 0 + length (get_or (plain_sections o) k d).content ≤ 2 ^ 30
unfolding layout_parts
content_end o layout k d laid lt =
    let end = part_end o layout k laid (omega arith) in
    let size = content_size (plain_sections o) (SHDR_SIZE * (length (plain_sections o) + 1), 8) k d lt in
    omega arith

pub table_end : (o : ObjectValue) (layout : LayoutValue) → IsLayoutOf o layout →
    get_or layout.places (length (plain_sections o)) 0 + 64 * (length (plain_sections o) + 1) ≤ 2 ^ 30
unfolding layout_parts
table_end o layout laid =
    let end = part_end o layout (length (plain_sections o)) laid (omega arith) in
    let size = table_size (plain_sections o) (SHDR_SIZE * (length (plain_sections o) + 1), 8) in
    omega arith

-- ---- sections and symbols

pub few_sections : (o : ObjectValue) (layout : LayoutValue) → IsLayoutOf o layout → length (plain_sections o) < 2 ^ 24
few_sections o layout laid = let end = table_end o layout laid in omega arith

-- the content of a section that has a position
pub short_content : (o : ObjectValue) (layout : LayoutValue) (k : ℕ) (s : PlainSection) → IsLayoutOf o layout →
    k < length (plain_sections o) → get_or (plain_sections o) k s ≡ s →
    length s.content ≤ 2 ^ 30
short_content o layout k s laid lt at =
    let end = content_end o layout k s laid lt in
    let same = ap (λ (p : PlainSection). length p.content) at in
    omega arith

pub length-symbol_table_section : (o : ObjectValue) → length (symbol_table_section o).content ≡ 24 * (length o.symbols + 1)
length-symbol_table_section o =
    let whole = length-table sym_laws o.order (null_symbol ∷ map (symbol_entry o) o.symbols) in
    let same = length-map o.symbols (symbol_entry o) in
    omega arith

pub length-index_table_section : (o : ObjectValue) → length (index_table_section o).content ≡ 4 * (length o.symbols + 1)
length-index_table_section o =
    let whole = length-table word_laws o.order (0 ∷ map (λ s. index_word s.place) o.symbols) in
    let same = length-map o.symbols (λ s. index_word s.place) in
    omega arith

pub few_symbols : (o : ObjectValue) (layout : LayoutValue) → IsLayoutOf o layout → 24 * (length o.symbols + 1) ≤ 2 ^ 30
few_symbols o layout laid =
    let below = own_below o in
    let short = short_content o layout (length o.sections) (symbol_table_section o) laid (omega arith)
    (symbols_found o (length o.sections) _ refl) in
    let whole = length-symbol_table_section o in
    omega arith

-- ---- names

pub short_strings : (o : ObjectValue) (layout : LayoutValue) → IsLayoutOf o layout → length (string_table (symbol_names o)) ≤ 2 ^ 30
short_strings o layout laid =
    let below = own_below o in
    let k = length (plain_sections o) - 2 in
    short_content o layout k (strings (codes ".strtab") (symbol_names o)) laid (omega arith) (strings_found o k _ (omega arith))

pub short_names : (o : ObjectValue) (layout : LayoutValue) → IsLayoutOf o layout → length (string_table (section_names o)) ≤ 2 ^ 30
short_names o layout laid =
    let below = own_below o in
    let k = length (plain_sections o) - 1 in
    short_content o layout k (strings (codes ".shstrtab") (section_names o)) laid (omega arith) (names_found o k _ (omega arith))

name_below : (names : List (List ℕ)) (i : ℕ) → i < length names → length (string_table names) ≤ 2 ^ 30 →
    name_offset names (get_or names i []) < 2 ^ 32
name_below names i lt short = let within = (holds_names names).within i lt in omega arith

pub symbol_name_below : (o : ObjectValue) (layout : LayoutValue) (i : ℕ) → IsLayoutOf o layout → i < length o.symbols →
    name_offset (symbol_names o) (get_or (symbol_names o) i []) < 2 ^ 32
symbol_name_below o layout i laid lt =
    let many = length-map o.symbols (λ s. s.name) in
    name_below (symbol_names o) i (omega arith) (short_strings o layout laid)

pub length-section_names : (o : ObjectValue) → length (section_names o) ≡ length (plain_sections o)
unfolding section_names plain_sections
length-section_names o =
    let before = sections_before_names o in
    let a = length-append (map (λ (s : PlainSection). s.name) before) (codes ".shstrtab" ∷ []) in
    let b = length-map before (λ (s : PlainSection). s.name) in
    let c = length-append before (strings (codes ".shstrtab") (section_names o) ∷ []) in
    omega arith

pub section_name_below : (o : ObjectValue) (layout : LayoutValue) (i : ℕ) → IsLayoutOf o layout → i < length (plain_sections o) →
    name_offset (section_names o) (get_or (section_names o) i []) < 2 ^ 32
section_name_below o layout i laid lt =
    let many = length-section_names o in
    name_below (section_names o) i (omega arith) (short_names o layout laid)

-- the offset of a name, as code reads it
pub place_read : (names : List (List ℕ)) (places : List ℕ) (i x : ℕ) → places ≡ map (name_offset names) names → i < length names →
    x ≡ get_or places i x →
    x ≡ name_offset names (get_or names i [])
place_read names places i x are lt is = is ∙ ap (λ (q : List ℕ). get_or q i x) are ∙ get_or-map (name_offset names) names i [] x lt

pub length-places : (names : List (List ℕ)) (places : List ℕ) → places ≡ map (name_offset names) names → length places ≡ length names
length-places names places are = ap length are ∙ length-map names (name_offset names)

-- ---- the indexes of the last sections

pub names_at_is : (o : ObjectValue) → name_table_at o ≡ length (plain_sections o)
names_at_is o = elim (either_way o) [
  | inl near ↦ (let count = count_near o near in rw near (omega arith))
  | inr far ↦ (let count = count_far o far in rw far (omega arith))
]
