-- An object has a section for each index of its file that is kept, and a symbol for each entry of the symbol table but the first. So what a
-- rule of the link is about is a record of the file.
use Rattle.std.proofs.Common.{◌≡◌, ◌≢◌, ◌∙◌, ◌<◌, ◌≤◌, ◌⊎◌, ◌+◌, ℕ, List, zero, suc, [], ◌∷◌, ap, arith, get_or, inl, inr, length, refl}
use Rattle.std.proofs.Common.{subst, sym}
use Rattle.std.proofs.lemmas.List.{get_or-map, length-drop, length-map}
use Rattle.std.proofs.lemmas.List.FromFn.{length-map-range_with_len}
use Rattle.std.specs.Prelude.{MatchOption, None, Option, Some, drop}
use Rattle.elf_image_outline.specs.Image.{ImageValue, IsImage}
use Rattle.elf_image_rules.specs.Rules.{IsFault, rules_in}
use Rattle.elf_image_type.proofs.Public.{one_image}
use Rattle.elf_link_files.specs.Files.{object_at}
use Rattle.elf_link_files.specs.declared.site.Site.{Site}
use Rattle.elf_link_relocate.specs.Fields.{IsEntrySite, entries_of}
use Rattle.elf_object_layout.specs.SectionsLeftOut.{is_kept, left_out, symbol_table}
use Rattle.elf_object_reader.specs.Denotes.{Denotes, body_denoted, body_kind, kept, relocation_denoted, section_denoted, symbol_denoted}
use Rattle.elf_object_reader.specs.Denotes.{position_of, symbols_denoted}
use Rattle.elf_object_reader.specs.declared.object_file.BodyKind.TheVariants.{Bits, NoBits, Relocs, Group}
use Rattle.elf_object_reader.specs.declared.object_file.BodyKind.{BodyKind}
use Rattle.elf_object_type.specs.Object.{ObjectValue, SectionValue, SymbolValue, no_section, section_at}
use Rattle.elf_table_lists.specs.Relocations.{has_addends, relocation_count, relocation_in, relocations_in, relocations_of}
use Rattle.elf_table_symbols.specs.Sections.{Sections, content, count, order, section, sections_of}
use Rattle.elf_table_symbols.specs.Symbols.{entry_count, symbol_entry_in, symbol_parts, symbols_in, symbols_of}
use Rattle.elf_tool_check.proofs.SaysOne.{none_first, none_some, same_some}
use Rattle.elf_tool_laws.proofs.Kept.{at_position, index_at}
use Rattle.elf_tool_link.specs.ObjectFiles.{AreObjectFiles, IsObjectFile}
use Rattle.elf_tool_link.specs.Places.{HasEntryOf, HasSymbolAt, IsKeptAt, IsRecordAt, NoneKeptAt, entry_place_of, file_at}
use Rattle.elf_tool_link.specs.Places.{section_place_of, subject_of, symbol_place_of}
use Rattle.elf_tool_link.specs.declared.places.RecordPlace.{RecordPlace}

-- ---- a file

section_there : (f : Sections) (o : ObjectValue) (k : ℕ) → Denotes f o → k < length o.sections → (i : ℕ) × IsKeptAt f k i
section_there f o k denotes lt =
    let long = ap (λ (ss : List SectionValue). length ss) denotes.sections
    ∙ length-map (kept (left_out f) f) (section_denoted (left_out f) f) in
    let (i, i_in, is, at) = at_position (is_kept (left_out f) f) (count f) k (omega arith) in
    (i, (i_in, is, at))

symbol_in_table : (f : Sections) (x : Option ℕ) (k : ℕ) → k < length (symbols_denoted (left_out f) f x) →
    (t : ℕ) × (x ≡ Some t) × HasSymbolAt f t k
unfolding symbols_of symbols_in
symbol_in_table f None k lt = absurd (omega arith)
symbol_in_table f (Some t) k lt =
    let p = symbol_parts f t in
    let all = length-map-range_with_len (symbol_entry_in p.order p.table p.names p.words) 0 (entry_count p.table) in
    let but_first = length-drop 1 (symbols_of f t) in
    let long = length-map (drop 1 (symbols_of f t)) (symbol_denoted (left_out f) f) in
    (t, refl, omega arith)

symbol_there : (f : Sections) (o : ObjectValue) (k : ℕ) → Denotes f o → k < length o.symbols →
    (t : ℕ) × (symbol_table f ≡ Some t) × HasSymbolAt f t k
symbol_there f o k denotes lt =
    symbol_in_table f (symbol_table f) k (subst (λ (ss : List SymbolValue). k < length ss) denotes.symbols lt)

-- the section at the position of an index that is kept
section_is : (f : Sections) (o : ObjectValue) (k i : ℕ) → Denotes f o → IsKeptAt f k i → section_at o k ≡ section_denoted (left_out f) f i
section_is f o k i denotes (i_in, is, at) =
    let left = left_out f in
    let (within, here) = index_at (is_kept left f) (count f) i i_in is in
    let j = position_of left f i in
    ap (λ (m : ℕ). section_at o m) (sym at)
    ∙ ap (λ (ss : List SectionValue). get_or ss j no_section) denotes.sections
    ∙ get_or-map (section_denoted left f) (kept left f) j 0 no_section within ∙ ap (section_denoted left f) here

entry_in : (f : Sections) (i j : ℕ) (kind : BodyKind) → j < length (entries_of (body_denoted (left_out f) f i kind)) → HasEntryOf f i j
unfolding relocations_of relocations_in
entry_in f i j Bits lt = absurd (omega arith)
entry_in f i j NoBits lt = absurd (omega arith)
entry_in f i j Group lt = absurd (omega arith)
entry_in f i j Relocs lt =
    let addends = has_addends (section f i).sh_type in
    let table = content f i in
    let all = length-map-range_with_len (relocation_in addends (order f) table) 0 (relocation_count addends table) in
    let long = length-map (relocations_of f i) relocation_denoted in
    omega arith

entry_of_denoted : (f : Sections) (i j : ℕ) → j < length (entries_of (section_denoted (left_out f) f i).body) → HasEntryOf f i j
unfolding section_denoted
entry_of_denoted f i j lt = entry_in f i j (body_kind (section f i).sh_type) lt

entry_there : (f : Sections) (o : ObjectValue) (k i j : ℕ) → Denotes f o → IsKeptAt f k i → j < length (entries_of (section_at o k).body) →
    HasEntryOf f i j
entry_there f o k i j denotes is lt =
    entry_of_denoted f i j (subst (λ (s : SectionValue). j < length (entries_of s.body)) (section_is f o k i denotes is) lt)

-- ---- a record is found

file_is : (files : List (List ℕ)) (fs : List ObjectValue) (f : ℕ) → AreObjectFiles files fs → f < length fs →
    (f < length files) × IsObjectFile (file_at files f) (object_at fs f)
file_is [] [] f are lt = absurd (omega arith)
file_is [] (o ∷ fs) f are lt = absurd are
file_is (b ∷ files) [] f are lt = absurd are
file_is (b ∷ files) (o ∷ fs) zero (is, are) lt = (omega arith, is)
file_is (b ∷ files) (o ∷ fs) (suc f) (is, are) lt = (let (within, there) = file_is files fs f are (omega arith) in (omega arith, there))

-- what is said of a file's record, by when there is none
abbrev SaysRecord : List ℕ → (Sections → Type 0) → (Sections → RecordPlace → Type 0) → Option RecordPlace → Type 0
SaysRecord b NoneIn IsIn found =
    ((v : ImageValue) × IsImage v b × MatchOption found (NoneIn (sections_of v)) (IsIn (sections_of v)))
    ⊎ (((rule : ℕ) × (at : ℕ) × IsFault b (Some (rule, at))) × (found ≡ None))

abbrev SaysRecordAt : List (List ℕ) → ℕ → (Sections → Type 0) → (Sections → RecordPlace → Type 0) → Option RecordPlace → Type 0
SaysRecordAt files f NoneIn IsIn found =
    ((f < length files) × SaysRecord (file_at files f) NoneIn IsIn found) ⊎ ((length files ≤ f) × (found ≡ None))

-- it is found if no file that denotes the object has none
record_found : (files : List (List ℕ)) (fs : List ObjectValue) (f : ℕ) (NoneIn : Sections → Type 0)
    (IsIn : Sections → RecordPlace → Type 0) (found : Option RecordPlace) → AreObjectFiles files fs → f < length fs →
    ((s : Sections) → Denotes s (object_at fs f) → ¬ NoneIn s) → SaysRecordAt files f NoneIn IsIn found → found ≢ None
record_found files fs f NoneIn IsIn (Some place) are f_in some is same = absurd cc
record_found files fs f NoneIn IsIn None are f_in some is same =
    let (within, (v, image, clean, denotes)) = file_is files fs f are f_in in
    elim is [
      | inl (file, record_is) ↦ elim record_is [
        | inl (w, also, none) ↦
            some (sections_of v) denotes
            (subst (λ (i : ImageValue). NoneIn (sections_of i)) (one_image w v (file_at files f) also image) none)
        | inr ((rule, at, fault), none) ↦ none_first (rules_in (file_at files f)) (rule, at) image.clean fault
      ]
      | inr (past, none) ↦ omega arith
    ]

-- rules 3 to 5 are about a section, 6 to 9 about a symbol, and 12 to 16 about an entry
pub section_found : (files : List (List ℕ)) (fs : List ObjectValue) (p : Site) (found : Option RecordPlace) → AreObjectFiles files fs →
    p.file < length fs → p.index < length (object_at fs p.file).sections → IsRecordAt files (subject_of 3) p found → found ≢ None
section_found files fs p found are file index is =
    record_found files fs p.file (λ s. NoneKeptAt s p.index)
    (λ s place. (i : ℕ) × IsKeptAt s p.index i × (place ≡ section_place_of s i)) found are file
    (λ s denotes none. (let (i, kept_at) = section_there s (object_at fs p.file) p.index denotes index in none i kept_at)) is

pub symbol_found : (files : List (List ℕ)) (fs : List ObjectValue) (p : Site) (found : Option RecordPlace) → AreObjectFiles files fs →
    p.file < length fs → p.index < length (object_at fs p.file).symbols → IsRecordAt files (subject_of 6) p found → found ≢ None
symbol_found files fs p found are file index is =
    record_found files fs p.file
    (λ s. (symbol_table s ≡ None) ⊎ ((t : ℕ) × (symbol_table s ≡ Some t) × ¬ HasSymbolAt s t p.index))
    (λ s place. (t : ℕ) × (symbol_table s ≡ Some t) × HasSymbolAt s t p.index × (place ≡ symbol_place_of s t (p.index + 1))) found are file
    (λ s denotes none. (
    let (t, table, lt) = symbol_there s (object_at fs p.file) p.index denotes index in
    elim none [
      | inl no_table ↦ absurd (none_some t (sym no_table ∙ table))
      | inr (u, other, past) ↦ past (subst (λ (x : ℕ). HasSymbolAt s x p.index) (same_some t u (sym table ∙ other)) lt)
    ])) is

pub entry_found : (files : List (List ℕ)) (fs : List ObjectValue) (p : Site) (found : Option RecordPlace) → AreObjectFiles files fs →
    IsEntrySite fs p → IsRecordAt files (subject_of 12) p found → found ≢ None
entry_found files fs p found are at_site is =
    record_found files fs p.file
    (λ s. NoneKeptAt s p.index ⊎ ((i : ℕ) × IsKeptAt s p.index i × ¬ HasEntryOf s i p.entry))
    (λ s place. (i : ℕ) × IsKeptAt s p.index i × HasEntryOf s i p.entry × (place ≡ entry_place_of s i p.entry)) found are at_site.file
    (λ s denotes none. elim none [
      | inl nowhere ↦
          let (i, kept_at) = section_there s (object_at fs p.file) p.index denotes at_site.section in
          nowhere i kept_at
      | inr (i, kept_at, past) ↦ past (entry_there s (object_at fs p.file) p.index i p.entry denotes kept_at at_site.entry)
    ]) is
