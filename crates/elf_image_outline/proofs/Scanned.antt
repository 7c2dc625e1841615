-- What a scan has read of a source is of the file, so what it returns is the file's own fault or outline.
use Rattle.std.proofs.Common.{◌≡◌, ℕ, ◌+◌, List, [], ◌∷◌, ◌++◌, ap, arith, map, sym, ◌∙◌, ◌<◌, None, Some, Option, Result, Ok, Err, length}
use Rattle.std.proofs.Common.{take, drop, refl, subst, inl, inr, ◌≢◌, ◌≤◌, ◌-◌, ◌⊎◌, min, length-drop, ◌^◌, suc, true, get_or, ap₂}
use Rattle.std.specs.List.{range_with_len, AllByRecursion}
use Rattle.std.proofs.lemmas.List.FromFn.{map-range_with_len_more, length-map-range_with_len}
use Rattle.std.specs.Prelude.{IfSome, IfErr, IfOk, OnOk, if◌then◌else◌, ◌==◌, replicate, slice_index}
use Rattle.std.proofs.lemmas.Bool.{cases_eq, cases_lt, ne_eqb}
use Rattle.std.specs.Result.{IsErrAnd}
use Rattle.std.proofs.lemmas.List.{take-take, length-take-le, take_all, get_or-map, get_or-replicate, length-replicate}
use Rattle.std.proofs.Math.Nat.{min-eq_left, min-eq_right, min-le_left}
use Rattle.std.proofs.lemmas.Option.{slice_get-get_or}
use Rattle.elf_extent.specs.Account.{Accounts}
use Rattle.elf_extent.specs.Extent.{AreWithin, Doubly, IsLowest}
use Rattle.elf_extent.specs.declared.extent.Extent.{Extent}
use Rattle.elf_extent.specs.declared.extent.Piece.{Piece}
use Rattle.elf_field.specs.Abi.{EHDR_SIZE, EI_NIDENT, PHDR_SIZE, SHDR_SIZE}
use Rattle.elf_field.specs.Bytes.{IsBytes}
use Rattle.elf_field.specs.Headers.{ehdr_at, shdr_at, phdr_at}
use Rattle.elf_field.specs.laws.Headers.{ehdr_laws}
use Rattle.elf_field.specs.declared.ehdr.Ehdr.{Ehdr}
use Rattle.elf_field.specs.declared.phdr.Phdr.{Phdr}
use Rattle.elf_field.specs.declared.shdr.Shdr.{Shdr}
use Rattle.elf_image_outline.proofs.Edited.{IsBytes-zeros, map-set_same, sound-with_flags, content_len, names_there}
use Rattle.elf_image_outline.proofs.Standing.{extents_are, element_made, first_of_none, at_mapped}
use Rattle.elf_image_outline.proofs.Theorem.{made_is_image, pieces_placed}
use Rattle.elf_image_outline.specs.Image.{AreRecordsIn, value_extents, IsImage, part_piece, flagged, ImageValue, IsSoundImage, gap_len}
use Rattle.elf_image_outline.specs.Image.{value_names}
use Rattle.elf_image_outline.specs.Outline.{image_in, outline_value, IsOutlineOf, IsSoundOutline, OutlineValue, blank_image, contents_in}
use Rattle.elf_image_outline.specs.Outline.{image_of, placed_part}
use Rattle.elf_image_outline.specs.Scanning.{KeepsHeadRules, KeepsTableRules, Scans, Stops, BreaksTables, HasTables, IsSharedFault, IsEndIn}
use Rattle.elf_image_outline.specs.Scanning.{AreCleanTables, KeepTables, names_extent, names_place}
use Rattle.elf_image_outline.specs.declared.outline.Part.{Part}
use Rattle.elf_image_rules.proofs.Public.{FirstIn-sooner, fault_of_records, from_header, from_ident, from_length, from_program_table}
use Rattle.elf_image_rules.proofs.Public.{from_section_table, from_tables, record_rules_of, sections_read_at, table_some, FirstIn-later}
use Rattle.elf_image_rules.proofs.Public.{extents_within, sound_tables, Agree, FirstIn-same, same_rules, sections_none, rules_kept}
use Rattle.elf_image_rules.proofs.Public.{rules_unbroken}
use Rattle.elf_image_rules.specs.KeepsRules.{KeepsRules}
use Rattle.elf_image_rules.specs.Rows.{FirstIn}
use Rattle.elf_image_rules.specs.Rules.{header_rules, ident_rules, length_rules, program_table_rules, section_table_rules}
use Rattle.elf_image_rules.specs.Rules.{header_entry_rules, header_table_rules, image_rules, record_rules, extents, AreEnds, IsFault}
use Rattle.elf_image_rules.specs.Rules.{rules_in}
use Rattle.elf_image_rules.specs.Tables.{counts_in, file_counts, header, order_of, program_header_count, section_header_count, sections}
use Rattle.elf_image_rules.specs.Tables.{segments, shdr_offset, program_header_of, section_header_of, bytes_in, content_extent, name_table}
use Rattle.elf_image_rules.specs.Tables.{names, names_at, no_program_header, no_section_header}
use Rattle.elf_image_rules.specs.Rows.{Broken}
use Rattle.elf_image_rules.specs.declared.name_rules.TableEnds.{TableEnds}
use Rattle.elf_image_rules.specs.declared.tables.Counts.{Counts}
use Rattle.elf_image_outline.specs.Records.{table_at}
use Rattle.elf_image_stream.specs.Faults.{bytes_fault}
use Rattle.elf_image_stream.specs.declared.fault.BytesFault.TheVariants.{OutOfMemory as NoRoom, Rule as Breaks}
use Rattle.elf_image_stream.specs.declared.fault.BytesFault.{BytesFault}
use Rattle.elf_image_stream.specs.declared.fault.Fault.TheVariants.{Rule}
use Rattle.elf_image_stream.specs.declared.fault.Fault.{Fault}

-- Records that are read one after the other.

pub read_more : {A : Type 0} (read : ℕ → A) (n : ℕ) (xs ys : List A) (x : A) → ys ≡ xs ++ x ∷ [] →
    xs ≡ map read (range_with_len 0 n) → x ≡ read n → ys ≡ map read (range_with_len 0 (n + 1))
read_more {A} read n xs ys x pushed before is =
    pushed
    ∙ ap (λ (rs : List A). rs ++ x ∷ []) before
    ∙ ap (λ (r : A). map read (range_with_len 0 n) ++ r ∷ []) is
    ∙ sym (map-range_with_len_more read 0 n n (omega arith))

-- If the length, header and section header 0 that were read are the bytes' own, a broken rule of 1 to 21 is their first. The runs of rules
-- that come first must have found nothing; they are chained by `from_ident`, `from_header` and the like. The tables read by the counts are
-- the bytes' records (`tables_read`).

-- the length that a source says is that of what it reports
pub known_length : (content : Option (List ℕ)) (b : List ℕ) (len : ℕ) → content ≡ Some b → IfSome content (λ c. len ≡ length c) →
    len ≡ length b
known_length content b len known says = subst (λ (k : Option (List ℕ)). IfSome k (λ c. len ≡ length c)) known says

-- the header in the first bytes of a file is the file's
pub header_of_block : (b block : List ℕ) → length block ≡ EHDR_SIZE → block ≡ take (length block) (drop 0 b) → header block ≡ header b
unfolding header
header_of_block b block long is =
    ap header (is ∙ ap (λ (n : ℕ). take n (drop 0 b)) long)
    ∙ ap (λ (ident : List ℕ). ehdr_at (order_of ident) (take EHDR_SIZE (drop 0 b)) 0) (take-take EI_NIDENT EHDR_SIZE b (omega arith))
    ∙ ehdr_laws.part (order_of (take EI_NIDENT b)) b 0

-- a broken rule of the file is what a stage answers
pub scans_rule : {T : Type 0} (b : List ℕ) (IsAnswer : T → Type 0) (broken : Broken ℕ) (result : Result T Fault) →
    FirstIn (record_rules_of b) (Some (broken.rule, broken.at)) → IsErrAnd result (λ fault. fault ≡ Rule broken.rule broken.at) →
    Scans b IsAnswer result
scans_rule b IsAnswer broken (Ok t) run same = absurd same
scans_rule b IsAnswer broken (Err fault) run same = subst (Stops b) (sym same) (fault_of_records b (broken.rule, broken.at) run)

pub length_broken : (b : List ℕ) (len : ℕ) (fault : ℕ × ℕ) → len ≡ length b → FirstIn (length_rules len) (Some fault) →
    FirstIn (record_rules_of b) (Some fault)
length_broken b len fault says run =
    from_length b (header b) (Some fault) refl
    (FirstIn-sooner (length_rules (length b)) _ fault (subst (λ (n : ℕ). FirstIn (length_rules n) (Some fault)) says run))

pub ident_broken : (b : List ℕ) (len : ℕ) (h : Ehdr) (fault : ℕ × ℕ) → len ≡ length b → h ≡ header b → FirstIn (length_rules len) None →
    FirstIn (ident_rules h.e_ident) (Some fault) → FirstIn (record_rules_of b) (Some fault)
ident_broken b len h fault says is lengths run =
    from_ident b h (Some fault) is (subst (λ (n : ℕ). FirstIn (length_rules n) None) says lengths)
    (FirstIn-sooner (ident_rules h.e_ident) _ fault run)

pub header_broken : (b : List ℕ) (len : ℕ) (h : Ehdr) (fault : ℕ × ℕ) → len ≡ length b → h ≡ header b → FirstIn (length_rules len) None →
    FirstIn (ident_rules h.e_ident) None → FirstIn (header_rules len h) (Some fault) → FirstIn (record_rules_of b) (Some fault)
header_broken b len h fault says is lengths ident run =
    from_header b h (Some fault) is (subst (λ (n : ℕ). FirstIn (length_rules n) None) says lengths) ident
    (FirstIn-sooner (header_rules (length b) h) _ fault (subst (λ (n : ℕ). FirstIn (header_rules n h) (Some fault)) says run))

-- what stopped a part of a stage stops the stage
pub scans_fault : {U : Type 0} (b : List ℕ) (IsAnswer : U → Type 0) (fault : Fault) (result : Result U Fault) →
    Stops b fault → IsErrAnd result (λ other. other ≡ fault) → Scans b IsAnswer result
scans_fault b IsAnswer fault (Ok u) stops same = absurd same
scans_fault b IsAnswer fault (Err other) stops same = subst (Stops b) (sym same) stops

head_of : (b : List ℕ) (len : ℕ) (h : Ehdr) → len ≡ length b → KeepsHeadRules len h → KeepsHeadRules (length b) h
head_of b len h says kept = subst (λ (n : ℕ). KeepsHeadRules n h) says kept

pub section_table_broken : (b : List ℕ) (len : ℕ) (h : Ehdr) (first : Shdr) (fault : ℕ × ℕ) → len ≡ length b → h ≡ header b →
    KeepsHeadRules len h →
    first ≡ sections b h 0 → FirstIn (section_table_rules len h first) (Some fault) → FirstIn (record_rules_of b) (Some fault)
section_table_broken b len h first fault says is kept read run =
    let head = head_of b len h says kept in
    from_tables b h (Some fault) is head.lengths head.ident head.header
    (from_section_table b h first (Some fault) read
    (FirstIn-sooner (section_table_rules (length b) h first) _ fault
    (subst (λ (n : ℕ). FirstIn (section_table_rules n h first) (Some fault)) says run)))

pub program_table_broken : (b : List ℕ) (len : ℕ) (h : Ehdr) (first : Shdr) (fault : ℕ × ℕ) → len ≡ length b → h ≡ header b →
    KeepsHeadRules len h →
    first ≡ sections b h 0 → FirstIn (section_table_rules len h first) None → FirstIn (program_table_rules len h first) (Some fault) →
    FirstIn (record_rules_of b) (Some fault)
program_table_broken b len h first fault says is kept read table run =
    let head = head_of b len h says kept in
    from_tables b h (Some fault) is head.lengths head.ident head.header
    (from_program_table b h first (Some fault) read (subst (λ (n : ℕ). FirstIn (section_table_rules n h first) None) says table)
    (FirstIn-sooner (program_table_rules (length b) h first) _ fault
    (subst (λ (n : ℕ). FirstIn (program_table_rules n h first) (Some fault)) says run)))

-- a file whose header and section header 0 keep rules 1 to 21 keeps them
pub table_rules_kept : (b : List ℕ) (len : ℕ) (h : Ehdr) (first : Shdr) → len ≡ length b → h ≡ header b → KeepsHeadRules len h →
    first ≡ sections b h 0 →
    FirstIn (section_table_rules len h first) None → FirstIn (program_table_rules len h first) None → KeepsTableRules b
table_rules_kept b len h first says is kept read table segments =
    let Keeps : ℕ → Ehdr → Shdr → Type 0 = λ n k s.
    KeepsHeadRules n k × FirstIn (section_table_rules n k s) None × FirstIn (program_table_rules n k s) None in
    let by_first : Keeps len h (sections b h 0) = subst (Keeps len h) read (kept, table, segments) in
    let by_header = subst (λ (k : Ehdr). Keeps len k (sections b k 0)) is by_first in
    let (head, sections_kept, segments_kept) = subst (λ (n : ℕ). Keeps n (header b) (sections b (header b) 0)) says by_header in
    record { head = head; section_table = sections_kept; program_table = segments_kept }

-- section header 0 is where the table begins
pub first_at : (b : List ℕ) (h : Ehdr) (first : Shdr) (count : ℕ) → first ≡ sections b h 0 → count ≡ section_header_count h first →
    0 < count →
    first ≡ shdr_at (order_of h.e_ident) b h.e_shoff
first_at b h first count read counted some =
    let place : shdr_offset h 0 ≡ h.e_shoff = omega arith in
    read
    ∙ ap (λ (f : ℕ → Shdr). f 0) (sections_read_at b h (table_some h first (omega (arith, counted))))
    ∙ ap (shdr_at (order_of h.e_ident) b) place

-- the counts by the header and section header 0 that were read are the file's
pub counts_are : (b : List ℕ) (h : Ehdr) (first : Shdr) (c : Counts) → h ≡ header b → first ≡ sections b h 0 → c ≡ counts_in h first →
    c ≡ file_counts b
counts_are b h first c is read counted = counted ∙ ap (counts_in h) read ∙ ap (λ (x : Ehdr). counts_in x (sections b x 0)) is

-- tables that were read of a file are those of its records
pub tables_read : (b : List ℕ) (h : Ehdr) (first : Shdr) (c : Counts) (ss : List Shdr) (gs : List Phdr) → h ≡ header b →
    first ≡ sections b h 0 →
    c ≡ counts_in h first → ss ≡ table_at (shdr_at (order_of h.e_ident)) SHDR_SIZE b h.e_shoff c.sections →
    gs ≡ table_at (phdr_at (order_of h.e_ident)) PHDR_SIZE b h.e_phoff c.segments → AreRecordsIn b h ss gs
unfolding segments
tables_read b h first c ss gs is read counted ss_e gs_e =
    let Sections : ℕ → List Shdr = λ n. table_at (shdr_at (order_of h.e_ident)) SHDR_SIZE b h.e_shoff n in
    let Segments : ℕ → List Phdr = λ n. table_at (phdr_at (order_of h.e_ident)) PHDR_SIZE b h.e_phoff n in
    let n_e : c.sections ≡ section_header_count h first = ap (λ (k : Counts). k.sections) counted in
    let m_e : c.segments ≡ program_header_count h first = ap (λ (k : Counts). k.segments) counted in
    let sections_e : Sections (section_header_count h first) ≡ map (sections b h) (range_with_len 0 (section_header_count h first)) =
    elim (cases_eq (section_header_count h first) 0) [
      | inl none ↦ rw none refl
      | inr some ↦ ap (λ (f : ℕ → Shdr). map f (range_with_len 0 (section_header_count h first)))
          (sym (sections_read_at b h (table_some h first (omega arith))))
    ] in
    record {
      header = is;
      section_headers = ss_e ∙ ap Sections n_e ∙ sections_e
          ∙ ap (λ (f : Shdr). map (sections b h) (range_with_len 0 (section_header_count h f))) read;
      program_headers = gs_e ∙ ap Segments m_e
          ∙ ap (λ (f : Shdr). map (segments b h) (range_with_len 0 (program_header_count h f))) read;
    }

-- If tables in memory keep rules 1 to 21, what rules 22 to 32 find is what rules 1 to 32 find (`entries_run`). If they find nothing, the
-- extents lie in the file, and the lowest byte that two of them hold breaks rule 33 (`sharing_broken`). If there is no such byte, no rule
-- is broken (`none_shared`).

-- the run of rules 1 to 32 that found this
abbrev pub Finds : ℕ → Ehdr → List Shdr → List Phdr → List ℕ → Option (ℕ × ℕ) → Type 0
Finds len h ss gs names found = FirstIn (record_rules len h (section_header_of ss) (program_header_of gs) names) found

-- what the run of rules 22 to 32 found is what rules 1 to 32 find
pub entries_run : (len : ℕ) (h : Ehdr) (c : Counts) (ss xs : List Shdr) (gs ys : List Phdr) (names : List ℕ) (found : Option (ℕ × ℕ)) →
    HasTables len h c ss gs → xs ≡ ss → ys ≡ gs →
    FirstIn (header_entry_rules len h c (section_header_of xs) (program_header_of ys) names) found → Finds len h ss gs names found
unfolding record_rules header_table_rules
entries_run len h c ss xs gs ys names found has sections segments run =
    let Entries : List Shdr → List Phdr → Counts → Type 0 =
    λ rs ps k. FirstIn (header_entry_rules len h k (section_header_of rs) (program_header_of ps) names) found in
    let validated : Entries ss gs c =
    subst (λ (rs : List Shdr). Entries rs gs c) sections (subst (λ (ps : List Phdr). Entries xs ps c) segments run) in
    FirstIn-later (length_rules len) _ found has.head.lengths
    (FirstIn-later (ident_rules h.e_ident) _ found has.head.ident
    (FirstIn-later (header_rules len h) _ found has.head.header
    (FirstIn-later (section_table_rules len h (section_header_of ss 0)) _ found has.section_table
    (FirstIn-later (program_table_rules len h (section_header_of ss 0)) _ found has.program_table
    (subst (Entries ss gs) has.counts validated)))))

-- a rule of 1 to 32 that is broken is what all rules find
pub rule_broken : (len : ℕ) (h : Ehdr) (ss : List Shdr) (gs : List Phdr) (names : List ℕ) (number at : ℕ) →
    Finds len h ss gs names (Some (number, at)) → BreaksTables len h ss gs names (Breaks number at)
unfolding image_rules
rule_broken len h ss gs names number at run =
    FirstIn-sooner (record_rules len h (section_header_of ss) (program_header_of gs) names) _ (number, at) run

-- what stopped a part of a call stops the call
pub stopped : {T E : Type 0} (Stops : E → Type 0) (fault : E) (result : Result T E) → Stops fault →
    IsErrAnd result (λ other. other ≡ fault) →
    IfErr result Stops
stopped Stops fault (Ok t) stops same = tt
stopped Stops fault (Err other) stops same = subst Stops (sym same) stops

tables_extents : (len : ℕ) (h : Ehdr) (c : Counts) (ss : List Shdr) (gs : List Phdr) → HasTables len h c ss gs →
    value_extents h ss gs ≡
    extents h (section_header_count h (section_header_of ss 0)) (program_header_count h (section_header_of ss 0)) (section_header_of ss)
tables_extents len h c ss gs has =
    sym (extents_are h ss gs _ _ (has.section_count ∙ ap (λ (k : Counts). k.sections) has.counts)
    (has.segment_count ∙ ap (λ (k : Counts). k.segments) has.counts))

-- the lowest byte that two of the extents hold is what all rules find where rules 1 to 32 are kept
pub sharing_broken : (len : ℕ) (h : Ehdr) (c : Counts) (ss : List Shdr) (gs : List Phdr) (names : List ℕ) (fault : BytesFault) →
    HasTables len h c ss gs →
    Finds len h ss gs names None → IsSharedFault (value_extents h ss gs) fault → BreaksTables len h ss gs names fault
unfolding image_rules
sharing_broken len h c ss gs names NoRoom has kept shared = kept
sharing_broken len h c ss gs names (Breaks number at) has kept (is, lowest) =
    subst (λ (n : ℕ). BreaksTables len h ss gs names (Breaks n at)) (sym is)
    (FirstIn-later (record_rules len h (section_header_of ss) (program_header_of gs) names) _ (Some (33, at)) kept
    (inl (refl, subst (λ (xs : List Extent). IsLowest (Doubly xs) (Some at)) (tables_extents len h c ss gs has) lowest)))

-- and where there is none no rule is broken
pub none_shared : (len : ℕ) (h : Ehdr) (c : Counts) (ss : List Shdr) (gs : List Phdr) (names : List ℕ) → HasTables len h c ss gs →
    Finds len h ss gs names None → IsLowest (Doubly (value_extents h ss gs)) None →
    FirstIn (image_rules len h (section_header_of ss) (program_header_of gs) names) None
unfolding image_rules
none_shared len h c ss gs names has kept lowest =
    FirstIn-later (record_rules len h (section_header_of ss) (program_header_of gs) names) _ None kept
    (subst (λ (xs : List Extent). IsLowest (Doubly xs) None) (tables_extents len h c ss gs has) lowest, tt)

-- the extents lie in the file where rules 1 to 32 are kept
pub extents_inside : (len : ℕ) (h : Ehdr) (c : Counts) (ss : List Shdr) (gs : List Phdr) (names : List ℕ) → HasTables len h c ss gs →
    Finds len h ss gs names None → AreWithin (value_extents h ss gs) len
extents_inside len h c ss gs names has kept =
    subst (λ (xs : List Extent). AreWithin xs len) (sym (tables_extents len h c ss gs has))
    (extents_within len h (section_header_of ss) (sound_tables len h (section_header_of ss) (program_header_of gs) names kept))

-- a call that ended well, with what that says by itself and of its value
pub ended_well : {T E : Type 0} (r : Result T E) (Alone : Type 0) (Value Says : T → Type 0) → OnOk r Alone → IfOk r Value →
    ((t : T) → Alone → Value t → Says t) →
    IfOk r Says
ended_well (Ok t) Alone Value Says alone value says = says t alone value
ended_well (Err e) Alone Value Says alone value says = tt

-- If tables were read from some bytes, they are the bytes' records, index by index, and the names are where the name table's header says.
-- The rules look at no more (`same_rules`), so what they find in the tables is the fault of the bytes (`verdict_of_tables`). Without a
-- fault, tables and parts make the image of the bytes.

-- section header 0 that was read is the file's
pub first_same : (len : ℕ) (b : List ℕ) (h : Ehdr) (c : Counts) (ss : List Shdr) (gs : List Phdr) → HasTables len h c ss gs →
    AreRecordsIn b h ss gs →
    sections b h 0 ≡ section_header_of ss 0
first_same len b h c ss gs has records =
    let n = section_header_count h (sections b h 0) in
    let count : length ss ≡ n = ap length records.section_headers ∙ length-map-range_with_len (sections b h) 0 n in
    elim (cases_eq h.e_shoff 0) [
      | inl none ↦
          (let no_sections : length ss ≡ 0 = count ∙ rw none refl in
          ap (λ (f : ℕ → Shdr). f 0) (sections_none b h none) ∙ sym (first_of_none ss no_sections))
      | inr there ↦
          (let named = has.named there in
          let many = has.section_count in
          element_made (sections b h) ss no_section_header n (sym records.section_headers) 0 (omega arith))
    ]

-- and so is each one below their count
pub section_same : (b : List ℕ) (h : Ehdr) (ss : List Shdr) (gs : List Phdr) (k : ℕ) → AreRecordsIn b h ss gs → k < length ss →
    sections b h k ≡ section_header_of ss k
section_same b h ss gs k records below =
    let n = section_header_count h (sections b h 0) in
    let count : length ss ≡ n = ap length records.section_headers ∙ length-map-range_with_len (sections b h) 0 n in
    element_made (sections b h) ss no_section_header n (sym records.section_headers) k (omega arith)

-- without a section table there is no name table
pub unnamed : (h : Ehdr) (first : Shdr) → h.e_shstrndx ≡ 0 → name_table h first ≡ 0
unnamed h first none = rw none refl

-- the file's names are the bytes where the table of section header names says
pub names_are : (len : ℕ) (b : List ℕ) (h : Ehdr) (c : Counts) (ss : List Shdr) (gs : List Phdr) → HasTables len h c ss gs →
    AreRecordsIn b h ss gs →
    names b h ≡ bytes_in b (names_extent ss c.name_table)
unfolding names names_at
names_are len b h c ss gs has records =
    let k = c.name_table in
    let named : k ≡ name_table h (section_header_of ss 0) = ap (λ (x : Counts). x.name_table) has.counts in
    let same : name_table h (sections b h 0) ≡ k = ap (name_table h) (first_same len b h c ss gs has records) ∙ sym named in
    let Names : ℕ → List ℕ = λ j. if j == 0 then [] else bytes_in b (content_extent (sections b h j)) in
    ap Names same ∙ elim (cases_eq k 0) [
      | inl none ↦ rw none refl
      | inr some ↦
          (let there : h.e_shoff ≢ 0 = λ none. some (named ∙ unnamed h (section_header_of ss 0) (has.head.nameless none)) in
          let below = has.named there in
          let many = has.section_count in
          rw (ne_eqb k 0 some) (ap (λ (e : Shdr). bytes_in b (content_extent e)) (section_same b h ss gs k records (omega arith))))
    ]

-- and that is where the file's name table is
pub place_is : (len : ℕ) (b : List ℕ) (h : Ehdr) (c : Counts) (ss : List Shdr) (gs : List Phdr) → HasTables len h c ss gs →
    AreRecordsIn b h ss gs →
    names_extent ss c.name_table ≡ names_place b
place_is len b h c ss gs has records =
    let k = c.name_table in
    let named : k ≡ name_table h (section_header_of ss 0) = ap (λ (x : Counts). x.name_table) has.counts in
    let same : name_table h (sections b h 0) ≡ k = ap (name_table h) (first_same len b h c ss gs has records) ∙ sym named in
    let Place : Ehdr → ℕ → Extent = λ g j. if j == 0 then record { start = 0; len = 0 } else content_extent (sections b g j) in
    let here : names_extent ss k ≡ Place h k = elim (cases_eq k 0) [
      | inl none ↦ rw none refl
      | inr some ↦
          (let there : h.e_shoff ≢ 0 = λ none. some (named ∙ unnamed h (section_header_of ss 0) (has.head.nameless none)) in
          let below = has.named there in
          let many = has.section_count in
          rw (ne_eqb k 0 some) (ap content_extent (sym (section_same b h ss gs k records (omega arith)))))
    ] in
    here ∙ ap (Place h) (sym same) ∙ ap (λ (g : Ehdr). Place g (name_table g (sections b g 0))) records.header

-- as many bytes as lie there are all that do
taken_there : (xs : List ℕ) (n m : ℕ) → m ≡ min (length xs) n → take m xs ≡ take n xs
taken_there xs n m is = elim (cases_lt n (length xs)) [
  | inl less ↦ ap (λ (k : ℕ). take k xs) (is ∙ min-eq_right (omega arith))
  | inr more ↦
      ap (λ (k : ℕ). take k xs) (is ∙ min-eq_left (omega arith))
      ∙ take_all (length xs) xs (omega arith) ∙ sym (take_all n xs (omega arith))
]

length_there : (b : List ℕ) (e : Extent) (len there : ℕ) → len ≡ length b → there ≡ min (len - e.start) e.len →
    length (bytes_in b e) ≡ there
length_there b e len there says is =
    let rest = length-drop e.start b in
    let m : there ≡ min (length (drop e.start b)) e.len = is ∙ ap (λ (k : ℕ). min k e.len) (ap (λ (k : ℕ). k - e.start) says ∙ sym rest) in
    let same : take there (drop e.start b) ≡ bytes_in b e = taken_there (drop e.start b) e.len there m in
    let below : there ≤ length (drop e.start b) = rw m (min-le_left (length (drop e.start b)) e.len) in
    ap length (sym same) ∙ length-take-le there (drop e.start b) below

-- a read of one of the ends of the bytes that lie there is one of an end of the extent
pub end_read : (b : List ℕ) (e : Extent) (len there at : ℕ) → len ≡ length b → there ≡ min (len - e.start) e.len →
    e.start ≤ at → at < e.start + there →
    (at ≡ e.start) ⊎ (at ≡ e.start + there - 1) → IsEndIn b e at
end_read b e len there at says is from to end =
    let long = length_there b e len there says is in
    (omega arith, subst (λ (n : ℕ). (at ≡ e.start) ⊎ (at ≡ e.start + n - 1)) (sym long) end)

-- the ends of the bytes that lie there are those of all
pub ends_there : (b : List ℕ) (ends : TableEnds) (e : Extent) (len there : ℕ) → len ≡ length b → there ≡ min (len - e.start) e.len →
    ends.len ≡ there →
    (e.start + there ≤ length b → AreEnds ends (take there (drop e.start b))) → AreEnds ends (bytes_in b e)
ends_there b ends e len there says is long known =
    let rest = length-drop e.start b in
    let m : there ≡ min (length (drop e.start b)) e.len = is ∙ ap (λ (k : ℕ). min k e.len) (ap (λ (k : ℕ). k - e.start) says ∙ sym rest) in
    let same : take there (drop e.start b) ≡ bytes_in b e = taken_there (drop e.start b) e.len there m in
    let below : there ≤ length (drop e.start b) = rw m (min-le_left (length (drop e.start b)) e.len) in
    elim (cases_lt 0 there) [
      | inl some ↦ subst (AreEnds ends) same (known (omega arith))
      | inr none ↦
          (let nothing : length (bytes_in b e) ≡ there = ap length (sym same) ∙ length-take-le there (drop e.start b) below in
          record { len = long ∙ sym nothing; first = λ some. absurd (omega arith); last = λ some. absurd (omega arith) })
    ]

-- program headers that were read are the file's
pub segment_same : (b : List ℕ) (h : Ehdr) (ss : List Shdr) (gs : List Phdr) (j : ℕ) → AreRecordsIn b h ss gs → j < length gs →
    segments b h j ≡ program_header_of gs j
segment_same b h ss gs j records below =
    let m = program_header_count h (sections b h 0) in
    let count : length gs ≡ m = ap length records.program_headers ∙ length-map-range_with_len (segments b h) 0 m in
    element_made (segments b h) gs no_program_header m (sym records.program_headers) j (omega arith)

-- what was read of a file agrees with it, as far as the rules look
agree_read : (len : ℕ) (b : List ℕ) (h : Ehdr) (c : Counts) (ss : List Shdr) (gs : List Phdr) → HasTables len h c ss gs →
    AreRecordsIn b h ss gs →
    Agree h (section_header_of ss) (sections b h) (program_header_of gs) (segments b h)
agree_read len b h c ss gs has records =
    let many = has.section_count in
    let several = has.segment_count in
    let n_e = ap (λ (x : Counts). x.sections) has.counts in
    let m_e = ap (λ (x : Counts). x.segments) has.counts in
    record {
      first = sym (first_same len b h c ss gs has records);
      sections = λ i below. sym (section_same b h ss gs i records (omega (arith, n_e)));
      segments = λ j below. sym (segment_same b h ss gs j records (omega (arith, m_e)));
    }

names_table_same : (len : ℕ) (b : List ℕ) (h : Ehdr) (c : Counts) (ss : List Shdr) (gs : List Phdr) → HasTables len h c ss gs →
    AreRecordsIn b h ss gs →
    section_header_of ss (name_table h (section_header_of ss 0)) ≡ sections b h (name_table h (section_header_of ss 0))
names_table_same len b h c ss gs has records =
    let k = name_table h (section_header_of ss 0) in
    let named : c.name_table ≡ k = ap (λ (x : Counts). x.name_table) has.counts in
    elim (cases_eq k 0) [
      | inl none ↦ rw none (sym (first_same len b h c ss gs has records))
      | inr some ↦
          (let there : h.e_shoff ≢ 0 = λ none. some (unnamed h (section_header_of ss 0) (has.head.nameless none)) in
          let below = has.named there in
          let many = has.section_count in
          sym (section_same b h ss gs k records (omega arith)))
    ]

-- what all rules find of tables that were read of a file is the file's fault
pub verdict_of_tables : (len : ℕ) (b : List ℕ) (h : Ehdr) (c : Counts) (ss : List Shdr) (gs : List Phdr) (found : Option (ℕ × ℕ)) →
    len ≡ length b →
    HasTables len h c ss gs → AreRecordsIn b h ss gs →
    FirstIn (image_rules len h (section_header_of ss) (program_header_of gs) (names b h)) found → IsFault b found
unfolding rules_in
verdict_of_tables len b h c ss gs found says has records run =
    let moved = FirstIn-same _ _ found
    (same_rules len h _ _ _ _ (names b h) (agree_read len b h c ss gs has records) (names_table_same len b h c ss gs has records)) run in
    let Finds : ℕ → Ehdr → Type 0 = λ n k. FirstIn (image_rules n k (sections b k) (segments b k) (names b k)) found in
    subst (Finds (length b)) records.header (subst (λ (n : ℕ). Finds n h) says moved)

-- what stops the validation of tables that were read of a file stops the scan
pub stops_of_tables : (len : ℕ) (b : List ℕ) (h : Ehdr) (c : Counts) (ss : List Shdr) (gs : List Phdr) (fault : BytesFault) →
    len ≡ length b →
    HasTables len h c ss gs → AreRecordsIn b h ss gs → BreaksTables len h ss gs (names b h) fault → Stops b (bytes_fault fault)
stops_of_tables len b h c ss gs NoRoom says has records breaks =
    table_rules_kept b len h (section_header_of ss 0) says records.header has.head (sym (first_same len b h c ss gs has records))
    has.section_table has.program_table
stops_of_tables len b h c ss gs (Breaks number at) says has records breaks =
    verdict_of_tables len b h c ss gs (Some (number, at)) says has records breaks

-- tables and parts that were read of a file that breaks no rule make its image
pub image_of_tables : (len : ℕ) (b : List ℕ) (h : Ehdr) (c : Counts) (ss : List Shdr) (gs : List Phdr) (ps : List Part) → len ≡ length b →
    IsBytes b →
    HasTables len h c ss gs → AreRecordsIn b h ss gs → KeepTables len h ss gs (names b h) ps →
    IsImage (image_in (outline_value len h ss gs ps) b) b
image_of_tables len b h c ss gs ps says are has records keep =
    let clean = verdict_of_tables len b h c ss gs None says has records keep.clean in
    let image = made_is_image b h ss gs (map (λ s. bytes_in b (content_extent s)) ss) ps are records refl
    (subst (λ (n : ℕ). Accounts (value_extents h ss gs) n 0 (map part_piece ps)) says keep.accounts) clean in
    subst (λ (n : ℕ). IsImage (image_in (outline_value n h ss gs ps) b) b) (sym says) image

-- An outline is a sound image with zeros for contents and gaps, if its tables and parts keep the rules and its names are whole
-- (`blank_sound`). So is an outline of some bytes (`blank_of`), and setting flags of a section from 1 on keeps both. The rules look at no
-- content but the names, and there at the length and the two ends, which may be zeros.

-- ---- zeros for contents and gaps

abbrev pub zeros_of : Shdr → List ℕ
zeros_of s = replicate (content_extent s).len 0

lengths_blank : (ss : List Shdr) → map length (map zeros_of ss) ≡ map (λ s. (content_extent s).len) ss
lengths_blank [] = refl
lengths_blank (s ∷ ss) = ap₂ (λ (n : ℕ) (ns : List ℕ). n ∷ ns) (length-replicate (content_extent s).len 0) (lengths_blank ss)

bytes_blank : (ss : List Shdr) → AllByRecursion IsBytes (map zeros_of ss)
bytes_blank [] = tt
bytes_blank (s ∷ ss) = (IsBytes-zeros (content_extent s).len, bytes_blank ss)

gaps_blank : (ps : List Part) → AllByRecursion (λ p. IsBytes p.gap × (length p.gap ≡ gap_len p.part)) (map (placed_part true []) ps)
gaps_blank [] = tt
gaps_blank (p ∷ ps) = ((IsBytes-zeros (gap_len p), length-replicate (gap_len p) 0), gaps_blank ps)

-- ---- the names: rules 1 to 33 look at how many bytes they have, and at their ends

-- the index of the name table is that of a section
named_below : (len : ℕ) (h : Ehdr) (c : Counts) (ss : List Shdr) (gs : List Phdr) → HasTables len h c ss gs → c.name_table ≢ 0 →
    c.name_table < length ss
named_below len h c ss gs has some =
    let named : c.name_table ≡ name_table h (section_header_of ss 0) = ap (λ (x : Counts). x.name_table) has.counts in
    let below = has.named (λ none. some (named ∙ unnamed h (section_header_of ss 0) (has.head.nameless none))) in
    let many = has.section_count in
    omega arith

names_blank : (len : ℕ) (h : Ehdr) (c : Counts) (ss : List Shdr) (gs : List Phdr) → HasTables len h c ss gs →
    value_names h ss (map zeros_of ss) ≡ replicate (names_extent ss c.name_table).len 0
names_blank len h c ss gs has =
    let k = c.name_table in
    let named : k ≡ name_table h (section_header_of ss 0) = ap (λ (x : Counts). x.name_table) has.counts in
    let Names : ℕ → List ℕ = λ j. if j == 0 then [] else get_or (map zeros_of ss) j [] in
    ap Names (sym named) ∙ elim (cases_eq k 0) [
      | inl none ↦ rw none refl
      | inr some ↦ rw (ne_eqb k 0 some) (get_or-map zeros_of ss k no_section_header [] (named_below len h c ss gs has some))
    ]

-- as much of it as lies in the file is all of it
inside_whole : (len : ℕ) (e : Extent) → (0 < e.len → e.start + e.len ≤ len) → min (len - e.start) e.len ≡ e.len
inside_whole len e inside = elim (cases_lt 0 e.len) [
  | inl some ↦ (let all = inside some in min-eq_right (omega arith))
  | inr none ↦ min-eq_right (omega arith)
]

names_inside : (len : ℕ) (h : Ehdr) (c : Counts) (ss : List Shdr) (gs : List Phdr) (names : List ℕ) → HasTables len h c ss gs →
    Finds len h ss gs names None →
    0 < (names_extent ss c.name_table).len → (names_extent ss c.name_table).start + (names_extent ss c.name_table).len ≤ len
names_inside len h c ss gs names has kept =
    let k = c.name_table in
    let all : AreWithin (value_extents h ss gs) len = extents_inside len h c ss gs names has kept in
    let Inside : Extent → Type 0 = λ e. 0 < e.len → e.start + e.len ≤ len in
    elim (cases_eq k 0) [
      | inl none ↦ rw none (λ some. absurd (omega arith))
      | inr some ↦
          rw (ne_eqb k 0 some) (all (suc (suc (suc k))) (content_extent (section_header_of ss k))
          (at_mapped content_extent ss k (section_header_of ss k)
          (slice_get-get_or ss k no_section_header (named_below len h c ss gs has some))))
    ]

pub whole_names : (len n : ℕ) (h : Ehdr) (c : Counts) (ss : List Shdr) (gs : List Phdr) (names : List ℕ) → HasTables len h c ss gs →
    Finds len h ss gs names None →
    n ≡ min (len - (names_extent ss c.name_table).start) (names_extent ss c.name_table).len → n ≡ (names_extent ss c.name_table).len
whole_names len n h c ss gs names has kept is =
    is ∙ inside_whole len (names_extent ss c.name_table) (names_inside len h c ss gs names has kept)

zero_at : (n i : ℕ) → i < n → slice_index (replicate n 0) i ≡ 0
zero_at n i below = get_or-replicate n i 0 0 below

renamed : (len n : ℕ) (h : Ehdr) (s : ℕ → Shdr) (g : ℕ → Phdr) (names : List ℕ) → length names ≡ n → KeepsRules len h s g names →
    KeepsRules len h s g (replicate n 0)
renamed len n h s g names long kept =
    let r = kept.records in
    let zeros : length (replicate n 0) ≡ n = length-replicate n 0 in
    record {
      records = record {
        file_length = r.file_length;
        ident = r.ident;
        header = r.header;
        section_table = r.section_table;
        program_table = r.program_table;
        sections = r.sections;
        segments = r.segments;
        section_names = record {
          name_table_type = r.section_names.name_table_type;
          closed = λ some. (
              let below : 0 < n = subst (λ (k : ℕ). 0 < k) zeros some in
              let last : n - 1 < n = omega arith in
              (zero_at n 0 below, zero_at n (length (replicate n 0) - 1) (subst (λ (k : ℕ). k - 1 < n) (sym zeros) last)));
          names_begin = λ i low high typed named.
              subst (λ (k : ℕ). (s i).sh_name < k) (long ∙ sym zeros) (r.section_names.names_begin i low high typed named);
        };
      };
      disjoint = kept.disjoint;
    }

-- ---- an outline as read, of whatever source

pub blank_sound : (len : ℕ) (h : Ehdr) (c : Counts) (ss : List Shdr) (gs : List Phdr) (names : List ℕ) (ps : List Part) →
    HasTables len h c ss gs →
    KeepTables len h ss gs names ps → length names ≡ (names_extent ss c.name_table).len → IsSoundOutline (outline_value len h ss gs ps)
blank_sound len h c ss gs names ps has keep long =
    let n = (names_extent ss c.name_table).len in
    let kept = rules_unbroken len h (section_header_of ss) (program_header_of gs) (replicate n 0)
    (renamed len n h (section_header_of ss) (program_header_of gs) names long
    (rules_kept len h (section_header_of ss) (program_header_of gs) names keep.clean)) in
    record {
      header = has.valid_header;
      section_headers = has.valid_sections;
      program_headers = has.valid_segments;
      section_count = has.section_count ∙ ap (λ (k : Counts). k.sections) has.counts;
      segment_count = has.segment_count ∙ ap (λ (k : Counts). k.segments) has.counts;
      lengths = lengths_blank ss;
      bytes = bytes_blank ss;
      accounts = subst (λ (qs : List Piece). Accounts (value_extents h ss gs) len 0 qs) (sym (pieces_placed true [] ps)) keep.accounts;
      gaps = gaps_blank ps;
      clean = subst (λ (zs : List ℕ). FirstIn (image_rules len h (section_header_of ss) (program_header_of gs) zs) None)
          (sym (names_blank len h c ss gs has)) kept;
    }

-- ---- an outline of bytes

-- the blank names are as many zeros as there are names
names_sized : (v : ImageValue) → IsSoundImage v →
    value_names v.header v.sections (map zeros_of v.sections) ≡ replicate (length (value_names v.header v.sections v.contents)) 0
names_sized v sound =
    let k = name_table v.header (section_header_of v.sections 0) in
    elim (cases_eq k 0) [
      | inl none ↦ rw none refl
      | inr some ↦
          (let below = names_there v sound some in
          rw (ne_eqb k 0 some) (get_or-map zeros_of v.sections k no_section_header [] below
          ∙ ap (λ (n : ℕ). replicate n 0) (sym (content_len v k sound below))))
    ]

-- what is an image with the contents of some bytes is one with zeros in their place
pub blank_of : (o : OutlineValue) (b : List ℕ) → IsOutlineOf o b → IsSoundOutline o
blank_of o b sound =
    let v = image_in o b in
    let names = value_names o.header o.sections v.contents in
    let s = section_header_of o.sections in
    let g = program_header_of o.segments in
    let kept = rules_unbroken o.len o.header s g (replicate (length names) 0)
    (renamed o.len (length names) o.header s g names refl (rules_kept o.len o.header s g names sound.clean)) in
    record {
      header = sound.header;
      section_headers = sound.section_headers;
      program_headers = sound.program_headers;
      section_count = sound.section_count;
      segment_count = sound.segment_count;
      lengths = lengths_blank o.sections;
      bytes = bytes_blank o.sections;
      accounts = subst (λ (qs : List Piece). Accounts (value_extents o.header o.sections o.segments) o.len 0 qs)
          (pieces_placed o.zeroed b o.parts ∙ sym (pieces_placed true [] o.parts)) sound.accounts;
      gaps = gaps_blank o.parts;
      clean = subst (λ (zs : List ℕ). FirstIn (image_rules o.len o.header s g zs) None) (sym (names_sized v sound)) kept;
    }

-- ---- flags that are set: what is made of each section header by its content's extent stays

pub blank-flagged : (o : OutlineValue) (i flags : ℕ) → IsSoundOutline o → 0 < i → i < length o.sections → flags < 2 ^ 64 →
    IsSoundOutline (record o { sections = flagged o.sections i flags })
blank-flagged o i flags sound above within fits =
    let t : Shdr = let s = section_header_of o.sections i in record s { sh_flags = flags } in
    subst (λ (cs : List (List ℕ)). IsSoundImage (image_of (record o { zeroed = true; sections = flagged o.sections i flags }) cs []))
    (sym (map-set_same zeros_of o.sections i t no_section_header refl))
    (sound-with_flags (blank_image o) i flags sound above within fits)

pub of-flagged : (o : OutlineValue) (b : List ℕ) (i flags : ℕ) → IsOutlineOf o b → 0 < i → i < length o.sections → flags < 2 ^ 64 →
    IsOutlineOf (record o { sections = flagged o.sections i flags }) b
of-flagged o b i flags sound above within fits =
    let t : Shdr = let s = section_header_of o.sections i in record s { sh_flags = flags } in
    subst (λ (cs : List (List ℕ)). IsSoundImage (image_of (record o { sections = flagged o.sections i flags }) cs b))
    (sym (map-set_same (λ (s : Shdr). bytes_in b (content_extent s)) o.sections i t no_section_header refl))
    (sound-with_flags (image_of o (contents_in o b) b) i flags sound above within fits)
