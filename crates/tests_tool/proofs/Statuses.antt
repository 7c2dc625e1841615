-- What the exit status says of known bytes, if the arguments are `check a.o`, or the same with `--seek`. Without `--seek` the file has at
-- most 2^30 bytes. These arguments make no other request, so the status is the engine's: 0 means that no rule is broken, 1 that one is.
-- Nothing is claimed of any other status.
use Rattle.std.proofs.Common.{◌≡◌, ◌∙◌, ℕ, ◌^◌, ◌≤◌, inl, inr, true, false, List, [], ◌∷◌, ◌++◌, Option, Some, None, Result, Ok, Err}
use Rattle.std.proofs.Common.{length, ap, sym, subst, arith, length-append}
use Rattle.std.proofs.lemmas.List.{append-nil}
use Rattle.std.specs.Prelude.{codes}
use Rattle.std.specs.Io.KnownBytes.{Consumes}
use Rattle.clap.specs.Simple.{subcommand_of}
use Rattle.clap.specs.Walk.{Row, Text, walked}
use Rattle.elf_image_rules.specs.Rules.{IsFault}
use Rattle.elf_tool_check.specs.Check.{CheckSays}
use Rattle.elf_tool_program.specs.CheckSource.{IsSourceChecked}
use Rattle.elf_tool_check.specs.Ending.{EndsWith, code_of, ending_of}
use Rattle.elf_tool_check.specs.declared.ending.Ended.{Ended}
use Rattle.elf_tool_check.specs.declared.ending.Status.{Status}
use Rattle.elf_tool_check.specs.Engine.{IsFileCall, IsReadWhole, Report}
use Rattle.elf_tool_show.specs.Show.{ShowSays}
use Rattle.elf_tool_check.specs.declared.calls.Refusal.TheVariants.{File, Link, TooLong}
use Rattle.elf_tool_check.specs.declared.calls.ToolFault.{ToolFault}
use Rattle.elf_tool_check.specs.declared.calls.Verdict.{Verdict}
use Rattle.elf_tool_check.specs.declared.calls.Verdict.TheVariants.{Done, Refused}
use Rattle.elf_tool_words.specs.Words.{is_set}
use Rattle.elf_tool_words.specs.Command.{check, elfmap, map_command, rewrite, show}
use Rattle.elf_tool_program.specs.Program.{EndsRun}
use Rattle.elf_tool_words.specs.declared.words.Request.TheVariants.{Check, CheckSource, Show, Rewrite, Map, Link}
use Rattle.elf_tool_words.specs.declared.words.WordsFault.TheVariants as words_fault

-- some rule is broken
abbrev pub IsBroken : List ℕ → Type 0
IsBroken b = (fault : ℕ × ℕ) × IsFault b (Some fault)

-- what was read whole of known bytes within the limit is all of them
read_is_all : (bytes given : List ℕ) (rest : Option (List ℕ)) → length bytes ≤ 2 ^ 30 → Consumes (Some bytes) rest given →
    IsReadWhole rest given → given ≡ bytes
read_is_all bytes given None short taken whole = absurd taken
read_is_all bytes given (Some left) short taken (inl end) = sym (append-nil given) ∙ ap (λ (s : List ℕ). given ++ s) (sym end) ∙ sym taken
read_is_all bytes given (Some left) short taken (inr long) =
    let whole = ap length taken in
    let parts = length-append given left in
    absurd (omega arith)

-- what a status says about the bytes
pub record StatusSays (status : Status) (b : List ℕ) : Type 0 where
  pub done : code_of status ≡ 0 → IsFault b None
  pub refused : code_of status ≡ 1 → IsBroken b

-- any other status says nothing
neither : (status : Status) (b : List ℕ) (code : ℕ) → (code ≡ 0 → ⊥) → (code ≡ 1 → ⊥) → code_of status ≡ code → StatusSays status b
neither status b code some many is = record {
  done = λ zero. absurd (some (sym is ∙ zero));
  refused = λ one. absurd (many (sym is ∙ one));
}

-- what a verdict says of the bytes
abbrev pub Says : Verdict → List ℕ → Type 0
Says Done b = IsFault b None
Says (Refused refusal) b = IsBroken b

check_says : (b : List ℕ) (verdict : Verdict) (text : List ℕ) → CheckSays b verdict text → Says verdict b
check_says b Done text says = says.0
check_says b (Refused (File file rule at)) text says = ((rule, at), says.0)
check_says b (Refused (Link rule file index entry)) text says = absurd says
check_says b (Refused TooLong) text says = absurd says

show_says : (b : List ℕ) (verdict : Verdict) (text : List ℕ) → ShowSays b verdict text → Says verdict b
show_says b Done text (tables, are, is) = are.image.clean
show_says b (Refused (File file rule at)) text says = ((rule, at), says.0)
show_says b (Refused (Link rule file index entry)) text says = absurd says
show_says b (Refused TooLong) text says = absurd says

-- an engine that answers a verdict says it of the bytes
module _ (report : Report) (means : (b : List ℕ) (verdict : Verdict) (text : List ℕ) → report b verdict text → Says verdict b) where
  answered_says : (bytes : List ℕ) (input rest old new : Option (List ℕ)) (verdict : Verdict) → length bytes ≤ 2 ^ 30 → input ≡ Some bytes
      → IsFileCall report input rest old new (Ok verdict) → Says verdict bytes
  answered_says bytes input rest old new verdict short known call = elim call.answered [
    | inl given_up ↦ absurd given_up
    | inr (whole, reported) ↦
        let all = read_is_all bytes call.bytes rest short (rw known at call.taken) whole in
        rw (sym reported.answer) at (rw all at (means call.bytes reported.verdict reported.text reported.is))
  ]

  -- the statuses 0 and 1 say it
  status_says : (bytes : List ℕ) (input rest old new : Option (List ℕ)) (answer : Result Verdict ToolFault) (status : Status) →
      length bytes ≤ 2 ^ 30
      → input ≡ Some bytes → IsFileCall report input rest old new answer → status ≡ ending_of answer → StatusSays status bytes
  status_says bytes input rest old new (Ok Done) status short known call is = record {
    done = λ zero. answered_says bytes input rest old new Done short known call;
    refused = λ one. let e : 0 ≡ 1 = sym (ap code_of is) ∙ one in absurd (omega arith);
  }
  status_says bytes input rest old new (Ok (Refused refusal)) status short known call is = record {
    done = λ zero. let e : 1 ≡ 0 = sym (ap code_of is) ∙ zero in absurd (omega arith);
    refused = λ one. answered_says bytes input rest old new (Refused refusal) short known call;
  }
  status_says bytes input rest old new (Err fault) status short known call is =
      neither status bytes 3 (λ e. omega arith) (λ e. omega arith) (ap code_of is)

-- ---- the arguments of a check

abbrev pub check_words : List Text
check_words = codes "elfmap" ∷ codes "check" ∷ codes "a.o" ∷ []

-- the name beside some matches
abbrev name_of : Option (Text × List Row) → Text
name_of None = []
name_of (Some p) = p.0

-- they ask for nothing else
asks_check : (name : Text) (rows : List Row) → subcommand_of elfmap check_words ≡ Some (name, rows) → name ≡ codes "check"
unfolding check show rewrite map_command elfmap walked
asks_check name rows entered = sym (ap name_of entered)

-- the rows beside a name
abbrev rows_of : Option (Text × List Row) → List Row
rows_of None = []
rows_of (Some p) = p.1

asks_no_seek : (name : Text) (rows : List Row) → subcommand_of elfmap check_words ≡ Some (name, rows) → is_set (codes "seek") rows ≡ false
unfolding check show rewrite map_command elfmap walked
asks_no_seek name rows entered = sym (ap (λ (o : Option (Text × List Row)). is_set (codes "seek") (rows_of o)) entered)

no_seek : (name : Text) (rows : List Row) → subcommand_of elfmap check_words ≡ Some (name, rows) → is_set (codes "seek") rows ≡ true → ⊥
no_seek name rows entered given = let both : false ≡ true = sym (asks_no_seek name rows entered) ∙ given in cc

no_rewrite : (name : Text) → name ≡ codes "check" → name ≡ codes "rewrite" → ⊥
no_rewrite name one other = let both : codes "check" ≡ codes "rewrite" = sym one ∙ other in cc

no_map : (name : Text) → name ≡ codes "check" → name ≡ codes "map" → ⊥
no_map name one other = let both : codes "check" ≡ codes "map" = sym one ∙ other in cc

no_link : (name : Text) → name ≡ codes "check" → name ≡ codes "link" → ⊥
no_link name one other = let both : codes "check" ≡ codes "link" = sym one ∙ other in cc

-- the whole program says it
checked_says : (bytes : List ℕ) (asked : List Text → Type 0) (old new before after : Option (List ℕ)) (ended : Ended) →
    length bytes ≤ 2 ^ 30
    → EndsRun check_words (λ name. Some bytes) (λ name. true) asked old new (EndsWith before after ended) → StatusSays ended.status bytes
checked_says bytes asked old new before after ended short (inl (Check file, request, (just, inl (input, rest, answer, known, call, end)))) =
    status_says CheckSays check_says bytes input rest old new answer ended.status short known call.answered end.0
checked_says bytes asked old new before after ended short (inl (CheckSource file, request, ends)) =
    absurd (no_seek request.name request.rows request.entered request.holds.2)
checked_says bytes asked old new before after ended short (inl (Show file, request, (just, inl (input, rest, answer, known, call, end)))) =
    status_says ShowSays show_says bytes input rest old new answer ended.status short known call end.0
checked_says bytes asked old new before after ended short (inl (Rewrite file, request, ends)) =
    absurd (no_rewrite request.name (asks_check request.name request.rows request.entered) request.holds.0)
checked_says bytes asked old new before after ended short (inl (Map base page rules files, request, ends)) =
    absurd (no_map request.name (asks_check request.name request.rows request.entered) request.holds.0)
checked_says bytes asked old new before after ended short (inl (Link base page entry rules files, request, ends)) =
    absurd (no_link request.name (asks_check request.name request.rows request.entered) request.holds.0)
checked_says bytes asked old new before after ended short (inl (Check file, request, (just, inr (fault, why, end, kept)))) =
    neither ended.status bytes 3 (λ e. omega arith) (λ e. omega arith) (ap code_of end.0)
checked_says bytes asked old new before after ended short (inl (Show file, request, (just, inr (fault, why, end, kept)))) =
    neither ended.status bytes 3 (λ e. omega arith) (λ e. omega arith) (ap code_of end.0)
checked_says bytes asked old new before after ended short (inr (words_fault.Words error, refused, just, ends, kept)) =
    neither ended.status bytes 2 (λ e. omega arith) (λ e. omega arith) (ap code_of ends.1.0)
checked_says bytes asked old new before after ended short (inr (words_fault.TooManyFiles, refused, just, ends, kept)) =
    neither ended.status bytes 2 (λ e. omega arith) (λ e. omega arith) (ap code_of ends.0)
checked_says bytes asked old new before after ended short (inr (words_fault.BadNumber, refused, just, ends, kept)) =
    neither ended.status bytes 2 (λ e. omega arith) (λ e. omega arith) (ap code_of ends.0)
checked_says bytes asked old new before after ended short (inr (words_fault.OutOfMemory, refused, just, ends, kept)) =
    neither ended.status bytes 3 (λ e. omega arith) (λ e. omega arith) (ap code_of ends.0)

pub run_says : (words : List Text) (bytes : List ℕ) (asked : List Text → Type 0) (old new before after : Option (List ℕ))
    (ended : Ended) → words ≡ check_words →
    length bytes ≤ 2 ^ 30
    → EndsRun words (λ name. Some bytes) (λ name. true) asked old new (EndsWith before after ended) → StatusSays ended.status bytes
run_says words bytes asked old new before after ended same short ends =
    checked_says bytes asked old new before after ended short
    (subst (λ (ws : List Text). EndsRun ws (λ name. Some bytes) (λ name. true) asked old new (EndsWith before after ended)) same ends)

-- ---- and of a check that seeks

abbrev pub seek_words : List Text
seek_words = codes "elfmap" ∷ codes "check" ∷ codes "--seek" ∷ codes "a.o" ∷ []

seeks_by_check : (name : Text) (rows : List Row) → subcommand_of elfmap seek_words ≡ Some (name, rows) → name ≡ codes "check"
unfolding check show rewrite map_command elfmap walked
seeks_by_check name rows entered = sym (ap name_of entered)

seeks : (name : Text) (rows : List Row) → subcommand_of elfmap seek_words ≡ Some (name, rows) → is_set (codes "seek") rows ≡ true
unfolding check show rewrite map_command elfmap walked
seeks name rows entered = sym (ap (λ (o : Option (Text × List Row)). is_set (codes "seek") (rows_of o)) entered)

seeks_not : (name : Text) (rows : List Row) → subcommand_of elfmap seek_words ≡ Some (name, rows) → is_set (codes "seek") rows ≡ false → ⊥
seeks_not name rows entered none = let both : true ≡ false = sym (seeks name rows entered) ∙ none in cc

no_show : (name : Text) → name ≡ codes "check" → name ≡ codes "show" → ⊥
no_show name one other = let both : codes "check" ≡ codes "show" = sym one ∙ other in cc

source_says : (bytes : List ℕ) (content after old new : Option (List ℕ)) (answer : Result Verdict ToolFault) (status : Status)
    → content ≡ Some bytes → IsSourceChecked content after old new answer → status ≡ ending_of answer → StatusSays status bytes
source_says bytes content after old new (Ok Done) status known (kept, said) is = record {
  done = λ zero. check_says bytes Done said.0 (said.1.1 bytes known);
  refused = λ one. let e : 0 ≡ 1 = sym (ap code_of is) ∙ one in absurd (omega arith);
}
source_says bytes content after old new (Ok (Refused refusal)) status known (kept, said) is = record {
  done = λ zero. let e : 1 ≡ 0 = sym (ap code_of is) ∙ zero in absurd (omega arith);
  refused = λ one. check_says bytes (Refused refusal) said.0 (said.1.1 bytes known);
}
source_says bytes content after old new (Err fault) status known call is =
    neither status bytes 3 (λ e. omega arith) (λ e. omega arith) (ap code_of is)

sought_says : (bytes : List ℕ) (asked : List Text → Type 0) (old new before after : Option (List ℕ)) (ended : Ended)
    → EndsRun seek_words (λ name. Some bytes) (λ name. true) asked old new (EndsWith before after ended) → StatusSays ended.status bytes
sought_says bytes asked old new before after ended (inl (Check file, request, ends)) =
    absurd (seeks_not request.name request.rows request.entered request.holds.2)
sought_says bytes asked old new before after ended (inl (CheckSource file, request, (just, inl (content, rest, answer, known, call, e)))) =
    source_says bytes content rest old new answer ended.status known call e.0
sought_says bytes asked old new before after ended (inl (CheckSource file, request, (just, inr (fault, why, end, kept)))) =
    neither ended.status bytes 3 (λ e. omega arith) (λ e. omega arith) (ap code_of end.0)
sought_says bytes asked old new before after ended (inl (Show file, request, ends)) =
    absurd (no_show request.name (seeks_by_check request.name request.rows request.entered) request.holds.0)
sought_says bytes asked old new before after ended (inl (Rewrite file, request, ends)) =
    absurd (no_rewrite request.name (seeks_by_check request.name request.rows request.entered) request.holds.0)
sought_says bytes asked old new before after ended (inl (Map base page rules files, request, ends)) =
    absurd (no_map request.name (seeks_by_check request.name request.rows request.entered) request.holds.0)
sought_says bytes asked old new before after ended (inl (Link base page entry rules files, request, ends)) =
    absurd (no_link request.name (seeks_by_check request.name request.rows request.entered) request.holds.0)
sought_says bytes asked old new before after ended (inr (words_fault.Words error, refused, just, ends, kept)) =
    neither ended.status bytes 2 (λ e. omega arith) (λ e. omega arith) (ap code_of ends.1.0)
sought_says bytes asked old new before after ended (inr (words_fault.TooManyFiles, refused, just, ends, kept)) =
    neither ended.status bytes 2 (λ e. omega arith) (λ e. omega arith) (ap code_of ends.0)
sought_says bytes asked old new before after ended (inr (words_fault.BadNumber, refused, just, ends, kept)) =
    neither ended.status bytes 2 (λ e. omega arith) (λ e. omega arith) (ap code_of ends.0)
sought_says bytes asked old new before after ended (inr (words_fault.OutOfMemory, refused, just, ends, kept)) =
    neither ended.status bytes 3 (λ e. omega arith) (λ e. omega arith) (ap code_of ends.0)

pub seek_run_says : (words : List Text) (bytes : List ℕ) (asked : List Text → Type 0) (old new before after : Option (List ℕ))
    (ended : Ended) → words ≡ seek_words
    → EndsRun words (λ name. Some bytes) (λ name. true) asked old new (EndsWith before after ended) → StatusSays ended.status bytes
seek_run_says words bytes asked old new before after ended same ends =
    sought_says bytes asked old new before after ended
    (subst (λ (ws : List Text). EndsRun ws (λ name. Some bytes) (λ name. true) asked old new (EndsWith before after ended)) same ends)
