-- Files that are opened as sources.
use Rattle.std.proofs.Common.{◌≡◌, ◌∙◌, ℕ, ◌+◌, ◌<◌, List, [], ◌∷◌, ◌++◌, None, Option, Some, IfSome, ap, arith, get_or, inl, inr, length}
use Rattle.std.proofs.Common.{subst, suc, sym, take, Bool, Result, Ok, Err, refl}
use Rattle.std.proofs.Math.Seq.{get_or-append_seam}
use Rattle.std.proofs.lemmas.Bool.{cases_lt}
use Rattle.std.proofs.lemmas.List.{get_or_append_left}
use Rattle.std.specs.Io.KnownBytes.{Appends}
use Rattle.std.proofs.lemmas.List.FromFn.{length-map-range_with_len}
use Rattle.elf_field.specs.declared.ehdr.Ehdr.{Ehdr}
use Rattle.elf_image_outline.specs.Image.{IsImage}
use Rattle.elf_image_outline.specs.Outline.{OutlineValue, image_in}
use Rattle.elf_image_rules.specs.Rows.{fault_of}
use Rattle.elf_image_rules.specs.Tables.{program_header_count, section_header_count, sections, segments}
use Rattle.elf_image_rules.specs.Rows.{Broken}
use Rattle.elf_tool_check.specs.Check.{CheckSays, file_sections, file_segments, verdict_of}
use Rattle.elf_tool_program.specs.CheckSource.{IsCheckLine, IsScanned, SourceSays, line_of_scan}
use Rattle.elf_tool_check.proofs.SaysOne.{one_check}
use Rattle.elf_tool_check.specs.Engine.{IsCutAt, IsOneReport, Prints}
use Rattle.elf_tool_check.specs.FileLines.{ok_line}
use Rattle.clap.specs.Walk.{Text}
use Rattle.elf_tool_check.specs.Ending.{AsksInOrder}
use Rattle.elf_tool_check.proofs.Asked.{asks_more}
use Rattle.elf_tool_check.specs.declared.calls.ToolFault.TheVariants.{Write}
use Rattle.elf_tool_check.specs.declared.calls.ToolFault.{ToolFault}
use Rattle.elf_tool_check.specs.declared.ending.Status.{Status}
use Rattle.elf_tool_program.specs.Program.{CallOnFiles, EndsFiles}
use Rattle.elf_tool_check.specs.declared.calls.Verdict.TheVariants.{Done}
use Rattle.elf_tool_check.specs.declared.calls.Verdict.{Verdict}

-- Of files that are opened one after the other.

-- the next reader has the bytes of its file
pub bytes_more : (holds : List ℕ → Option (List ℕ)) (names : List (List ℕ)) (inputs : List (Option (List ℕ))) (k : ℕ)
    (input : Option (List ℕ)) → length inputs ≡ k
    → ((j : ℕ) → j < k → IfSome (holds (get_or names j [])) (λ bytes. get_or inputs j None ≡ Some bytes))
    → IfSome (holds (get_or names k [])) (λ bytes. input ≡ Some bytes)
    → (j : ℕ) → j < k + 1 → IfSome (holds (get_or names j [])) (λ bytes. get_or (inputs ++ input ∷ []) j None ≡ Some bytes)
bytes_more holds names inputs k input same before next j below = elim (cases_lt j k) [
  | inl earlier ↦ subst (λ (o : Option (List ℕ)). IfSome (holds (get_or names j [])) (λ bytes. o ≡ Some bytes))
      (sym (get_or_append_left inputs (input ∷ []) None j (omega arith))) (before j earlier)
  | inr past ↦
      let at : get_or (inputs ++ input ∷ []) k None ≡ input =
      ap (λ (n : ℕ). get_or (inputs ++ input ∷ []) n None) (sym same) ∙ get_or-append_seam inputs input [] None in
      let here : k ≡ j = omega arith in
      subst (λ (n : ℕ). IfSome (holds (get_or names n [])) (λ bytes. get_or (inputs ++ input ∷ []) n None ≡ Some bytes)) here
      (subst (λ (o : Option (List ℕ)). IfSome (holds (get_or names k [])) (λ bytes. o ≡ Some bytes)) (sym at) next)
]

-- what is said of files that are opened after others, of all names from the first on
pub ends_after : (printed : Result Verdict ToolFault → List ℕ) (call : CallOnFiles) (holds : Text → Option (List ℕ)) (opens : Text → Bool)
    (a b c : Option (List Text)) (first names : List Text) (old new : Option (List ℕ)) (ends : Status → List ℕ → Type 0) →
    AsksInOrder a b first → EndsFiles printed call holds opens (AsksInOrder b c) names old new ends →
    EndsFiles printed call holds opens (λ more. AsksInOrder a c (first ++ more)) names old new ends
ends_after printed call holds opens a b c first names old new ends before (inl (inputs, rests, answer, opened, just, called, end)) =
    inl (inputs, rests, answer, opened, asks_more a b c first names before just, called, end)
ends_after printed call holds opens a b c first names old new ends before (inr (unopened, fault, just, end, kept)) =
    inr (unopened, fault, asks_more a b c first (take (suc unopened.position) names) before just, end, kept)

-- What is printed of a source that was scanned is what `check` prints of its bytes, if the source has known bytes. The outline is an image
-- with their contents, or the rule is the first that they break, so the line is the same. If the writer fails, the first bytes of that line
-- are written.

-- an image has as many sections and segments as its file says
image_says : (b : List ℕ) (o : OutlineValue) → IsImage (image_in o b) b →
    CheckSays b Done (ok_line o.len (length o.sections) (length o.segments))
image_says b o image =
    let records = image.stands.records in
    let section_count : length o.sections ≡ section_header_count o.header (sections b o.header 0) =
    ap length records.section_headers ∙
    length-map-range_with_len (sections b o.header) 0 (section_header_count o.header (sections b o.header 0)) in
    let segment_count : length o.segments ≡ program_header_count o.header (sections b o.header 0) =
    ap length records.program_headers ∙
    length-map-range_with_len (segments b o.header) 0 (program_header_count o.header (sections b o.header 0)) in
    let same_sections : length o.sections ≡ file_sections b =
    section_count ∙ ap (λ (h : Ehdr). section_header_count h (sections b h 0)) records.header in
    let same_segments : length o.segments ≡ file_segments b =
    segment_count ∙ ap (λ (h : Ehdr). program_header_count h (sections b h 0)) records.header in
    let same_length : o.len ≡ length b = image.stands.len in
    (image.clean, rw (same_length, same_sections, same_segments) refl)

check_says : (b : List ℕ) (validated : Result OutlineValue (Broken ℕ)) → IsScanned b validated →
    CheckSays b (verdict_of (fault_of validated)) (line_of_scan validated)
check_says b (Ok o) image = image_says b o image
check_says b (Err broken) is = (is, refl, refl)

is_line : (validated : Result OutlineValue (Broken ℕ)) → IsCheckLine (verdict_of (fault_of validated)) (line_of_scan validated)
is_line (Ok o) = (o.len, length o.sections, length o.segments, refl)
is_line (Err broken) = (refl, refl)

-- the line of what was scanned, with its verdict
source_says : (content : Option (List ℕ)) (validated : Result OutlineValue (Broken ℕ)) →
    ((b : List ℕ) → content ≡ Some b → IsScanned b validated)
    → SourceSays content (verdict_of (fault_of validated)) (line_of_scan validated)
source_says content validated scanned = (is_line validated, λ b same. check_says b validated (scanned b same))

-- what is said when the line is out, and when only its first bytes are
module _ (content old new : Option (List ℕ)) (validated : Result OutlineValue (Broken ℕ)) (bytes : List ℕ)
    (is : bytes ≡ line_of_scan validated)
    (scanned : (b : List ℕ) → content ≡ Some b → IsScanned b validated) where
  pub said_whole : (verdict : Verdict) → verdict ≡ verdict_of (fault_of validated) → Appends old new bytes →
      Prints (SourceSays content) old new (Ok verdict)
  said_whole verdict same out = (bytes, rw (same, is) (source_says content validated scanned), out)

  pub said_in_part : (written : ℕ) → IsCutAt old new bytes written → Prints (SourceSays content) old new (Err (Write written))
  said_in_part written cut = (verdict_of (fault_of validated), bytes, rw is (source_says content validated scanned), cut)

-- of a source that reports its bytes, one thing is said: what `check` says of these
pub one_source : IsOneReport (λ b. SourceSays (Some b))
one_source b v w s t here there = one_check b v w s t (here.1 b refl) (there.1 b refl)
