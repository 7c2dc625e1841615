-- How the program ends, and what was written then.
use Rattle.std.specs.Prelude.{◌≡◌, ℕ, ◌<◌, Bool, List, [], get_or, length, None, Option, Some, IfSome, ◌⊎◌, ◌+◌, ◌≤◌, false, map, Result}
use Rattle.std.specs.Prelude.{option_copied, ◌∷◌, ◌++◌, codes, suc, take}
use Rattle.std.specs.Fmt.{decimal}
use Rattle.std.specs.Io.KnownBytes.{Keeps}
use Rattle.clap.specs.Walk.{Text}
use Rattle.elf_image_rules.specs.Rules.{MAX_LEN}
use Rattle.elf_link_field.specs.declared.rule.RelocRule.{RelocRule}
use Rattle.elf_link_files.specs.declared.fault.Options.{Options}
use Rattle.elf_tool_check.specs.Check.{IsChecked}
use Rattle.elf_tool_check.specs.Ending.{IsOpenFault, EndsFile, EndsFileBy, ending_of, printed_of, printed_refusal, printed_refusal_in}
use Rattle.elf_tool_check.specs.Ending.{unopened_text}
use Rattle.elf_tool_check.specs.Engine.{fault_text}
use Rattle.elf_tool_check.specs.declared.ending.Status.TheVariants.{Usage, Failed}
use Rattle.elf_tool_check.specs.declared.ending.Status.{Status}
use Rattle.elf_tool_check.specs.declared.opener.OpenFault.TheVariants.{Refused}
use Rattle.elf_tool_check.specs.declared.calls.ToolFault.TheVariants as fault
use Rattle.elf_tool_link.specs.Link.{IsLinkCall}
use Rattle.elf_tool_link.specs.Map.{IsMappedExactly}
use Rattle.elf_tool_program.specs.CheckSource.{IsSourceChecked}
use Rattle.elf_tool_program.specs.declared.opening.NoRules.TheVariants.{Unopened as NoRulesUnopened, Unread, BadLine, OutOfMemory}
use Rattle.elf_tool_program.specs.declared.opening.NoRules.{NoRules}
use Rattle.elf_tool_program.specs.declared.opening.Unopened.{Unopened}
use Rattle.elf_tool_rewrite.specs.Rewrite.{IsRewritten}
use Rattle.elf_tool_rule_file.specs.RuleFile.{AreRules, IsBadLine}
use Rattle.elf_tool_show.specs.Show.{IsShown}
use Rattle.elf_tool_link.specs.Inputs.{GivesBytes, GivesFile}
use Rattle.elf_tool_check.specs.declared.calls.ToolFault.{ToolFault}
use Rattle.elf_tool_check.specs.declared.calls.Verdict.{Verdict}
use Rattle.elf_tool_words.specs.Words.{IsAskedBy, IsRefusedBy}
use Rattle.elf_tool_words.specs.declared.words.Request.TheVariants.{Check, CheckSource, Show, Rewrite, Map, Link}
use Rattle.elf_tool_words.specs.declared.words.Request.{Request}
use Rattle.elf_tool_words.specs.declared.words.WordsFault.TheVariants.{Words, TooManyFiles, BadNumber, OutOfMemory as WordsFaultOutOfMemory}
use Rattle.elf_tool_words.specs.declared.words.WordsFault.{WordsFault}
use Rattle.elf_tool_program.specs.declared.opening.NoRules.TheVariants as no_rules

-- Several files that are opened by their names.

-- the files of these names were opened in order: each reader has the bytes of its file, where these are known
pub record AreOpened (holds : List ℕ → Option (List ℕ)) (names : List (List ℕ)) (inputs : List (Option (List ℕ))) : Type 0 where
  pub count : length inputs ≡ length names
  pub bytes : (k : ℕ) → k < length names → IfSome (holds (get_or names k [])) (λ bytes. get_or inputs k None ≡ Some bytes)

-- one of them gave no reader: it is not known to open, or an allocation failed
pub record IsUnopened (opens : List ℕ → Bool) (names : List (List ℕ)) (unopened : Unopened) : Type 0 where
  pub within : unopened.position < length names
  pub fault : IsOpenFault (opens (get_or names unopened.position [])) unopened.fault

-- The file of relocation rules that `map` and `link` are given: what its reader gives, and what that says.

-- a reader that had `input` left and has `rest` gave a file of these relocation rules, of at most 2^30 bytes
abbrev pub ReadsRules : Option (List ℕ) → Option (List ℕ) → List RelocRule → Type 0
ReadsRules input rest rules = (file : List ℕ) × GivesFile input rest file × (length file ≤ MAX_LEN) × AreRules file rules

-- a line of what was read is bad; or all lines are those of rules, but the file is longer, and the line after them is reported
abbrev pub HasBadLine : List ℕ → ℕ → Type 0
HasBadLine file line =
    IsBadLine file line ⊎ ((MAX_LEN < length file) × ((rules : List RelocRule) × AreRules file rules × (line ≡ length rules + 1)))

-- or it gave none: a call failed after so many bytes, or a line is bad, or an allocation failed
abbrev pub ReadsNoRules : Option (List ℕ) → Option (List ℕ) → NoRules → Type 0
ReadsNoRules input rest NoRulesUnopened = ⊥
ReadsNoRules input rest (Unread at) = (bytes : List ℕ) × GivesBytes input rest bytes × (at ≡ length bytes)
ReadsNoRules input rest (BadLine line) = (file : List ℕ) × GivesFile input rest file × HasBadLine file line
ReadsNoRules input rest OutOfMemory = Unit {0}

-- the file whose bytes are `known` gives these relocation rules
abbrev pub GivesRules : Option (List ℕ) → List RelocRule → Type 0
GivesRules known rules = (input rest : Option (List ℕ)) × IfSome known (λ bytes. input ≡ Some bytes) × ReadsRules input rest rules

-- or none: the file did not open, and is not known to; or its reader gives none
abbrev pub GivesNoRules : Option (List ℕ) → Bool → NoRules → Type 0
GivesNoRules known opens NoRulesUnopened = opens ≡ false
GivesNoRules known opens (Unread at) =
    (input rest : Option (List ℕ)) × IfSome known (λ bytes. input ≡ Some bytes) × ReadsNoRules input rest (Unread at)
GivesNoRules known opens (BadLine line) =
    (input rest : Option (List ℕ)) × IfSome known (λ bytes. input ≡ Some bytes) × ReadsNoRules input rest (BadLine line)
GivesNoRules known opens OutOfMemory = Unit {0}

-- a call of an engine that takes several files: what its readers had and have left, what its writer held and holds, and its result
abbrev pub CallOnFiles : Type 1
CallOnFiles = List (Option (List ℕ)) → List (Option (List ℕ)) → Option (List ℕ) → Option (List ℕ) → Result Verdict ToolFault → Type 0

-- files were opened in order and each once, and an engine was called on their readers; or one of them gave no reader, none after it was
-- asked for, and nothing was written. `asked` says of names that just these were asked for, and `printed` what is printed of a result
abbrev pub EndsFiles : (Result Verdict ToolFault → List ℕ) → CallOnFiles → (Text → Option (List ℕ)) → (Text → Bool) →
    (List Text → Type 0) → List Text → Option (List ℕ) → Option (List ℕ) → (Status → List ℕ → Type 0) → Type 0
EndsFiles printed call holds opens asked names old new ends =
    ((inputs rests : List (Option (List ℕ))) × (answer : Result Verdict ToolFault) × AreOpened holds names inputs × asked names
    × call inputs rests old new answer × ends (ending_of answer) (printed answer))
    ⊎ ((unopened : Unopened) × IsUnopened opens names unopened × asked (take (suc unopened.position) names)
    × ends Failed (unopened_text unopened.fault (get_or names unopened.position [])) × Keeps old new)

-- how the program ends where the rule file gives none, and what is printed then
abbrev pub EndsUnruled : List ℕ → (Status → List ℕ → Type 0) → NoRules → Type 0
EndsUnruled file ends no_rules.Unopened = ends Failed (unopened_text Refused file)
EndsUnruled file ends (no_rules.Unread at) = ends Failed (fault_text (fault.Read at) ++ codes "\n")
EndsUnruled file ends (no_rules.BadLine line) = ends Usage ((codes "bad rule line " ++ decimal line) ++ codes "\n")
EndsUnruled file ends no_rules.OutOfMemory = ends Failed (fault_text fault.OutOfMemory ++ codes "\n")

-- a rule file gives relocation rules, and the program ends by these; or it gives none, no other file was asked for, and nothing was written
abbrev pub EndsByRules : (List RelocRule → Type 0) → Option (List ℕ) → Bool → (List Text → Type 0) → Text → Option (List ℕ) →
    Option (List ℕ) → (Status → List ℕ → Type 0) → Type 0
EndsByRules by known opens asked file old new ends =
    ((rules : List RelocRule) × GivesRules known rules × by rules)
    ⊎ ((fault : NoRules) × GivesNoRules known opens fault × asked (file ∷ []) × EndsUnruled file ends fault × Keeps old new)

-- `map`; with a rule file by its relocation rules
abbrev pub EndsMap : Options → (Text → Option (List ℕ)) → (Text → Bool) → (List Text → Type 0) → Option Text → List Text →
    Option (List ℕ) → Option (List ℕ) → (Status → List ℕ → Type 0) → Type 0
EndsMap opt holds opens asked None names old new ends =
    EndsFiles printed_of (IsMappedExactly opt None) holds opens asked names old new ends
EndsMap opt holds opens asked (Some file) names old new ends =
    EndsByRules (λ rules.
    EndsFiles printed_of (IsMappedExactly opt (Some rules)) holds opens (λ more. asked (file ∷ more)) names old new ends)
    (holds file) (opens file) asked file old new ends

-- `link`, by the relocation rules of a rule file
abbrev pub EndsLink : Options → (Text → Option (List ℕ)) → (Text → Bool) → (List Text → Type 0) → Text → List Text →
    Option (List ℕ) → Option (List ℕ) → (Status → List ℕ → Type 0) → Type 0
EndsLink opt holds opens asked file names old new ends =
    EndsByRules (λ rules. EndsFiles printed_refusal_in (IsLinkCall opt rules) holds opens (λ more. asked (file ∷ more)) names old new ends)
    (holds file) (opens file) asked file old new ends

-- the options of a link with this entry symbol
abbrev pub AreOptions : ℕ → ℕ → Text → Options → Type 0
AreOptions base page entry opt = (opt.base ≡ base) × (opt.page ≡ page) × (option_copied opt.entry ≡ Some entry)

-- each command, over the files' known bytes by name, and which are known to open
abbrev pub EndsRequest : (Text → Option (List ℕ)) → (Text → Bool) → (List Text → Type 0) → Option (List ℕ) → Option (List ℕ) →
    (Status → List ℕ → Type 0) → Request → Type 0
EndsRequest holds opens asked old new ends (Check file) =
    asked (file.now ∷ []) × EndsFile IsChecked (holds file.now) (opens file.now) file.now old new ends
EndsRequest holds opens asked old new ends (CheckSource file) =
    asked (file.now ∷ []) × EndsFile IsSourceChecked (holds file.now) (opens file.now) file.now old new ends
EndsRequest holds opens asked old new ends (Show file) =
    asked (file.now ∷ []) × EndsFile IsShown (holds file.now) (opens file.now) file.now old new ends
EndsRequest holds opens asked old new ends (Rewrite file) =
    asked (file.now ∷ []) × EndsFileBy printed_refusal IsRewritten (holds file.now) (opens file.now) file.now old new ends
EndsRequest holds opens asked old new ends (Map base page rules files) =
    EndsMap (record { base = base; page = page; entry = None }) holds opens asked (option_copied rules)
    (map (λ f. f.now) files.items) old new ends
EndsRequest holds opens asked old new ends (Link base page entry rules files) =
    (opt : Options) × AreOptions base page entry.now opt ×
    EndsLink opt holds opens asked rules.now (map (λ f. f.now) files.items) old new ends

-- how the program ends where its words ask for nothing, and what is printed then: of a mistake that clap finds, clap's own text
abbrev pub EndsUnasked : (Status → List ℕ → Type 0) → WordsFault → Type 0
EndsUnasked ends (Words error) = (text : List ℕ) × ends Usage text
EndsUnasked ends TooManyFiles = ends Usage (codes "too many files" ++ codes "\n")
EndsUnasked ends BadNumber = ends Usage (codes "bad number" ++ codes "\n")
EndsUnasked ends WordsFaultOutOfMemory = ends Failed (fault_text fault.OutOfMemory ++ codes "\n")

-- the whole program. Where the words ask for nothing, no file is opened, and nothing is written to standard output
abbrev pub EndsRun : List Text → (Text → Option (List ℕ)) → (Text → Bool) → (List Text → Type 0) → Option (List ℕ) → Option (List ℕ) →
    (Status → List ℕ → Type 0) → Type 0
EndsRun words holds opens asked old new ends =
    ((request : Request) × IsAskedBy words request × EndsRequest holds opens asked old new ends request)
    ⊎ ((fault : WordsFault) × IsRefusedBy words fault × asked [] × EndsUnasked ends fault × Keeps old new)
