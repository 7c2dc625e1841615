-- The calls of the library for C that run a command on files in memory.
use Rattle.std.specs.Prelude.{◌≡◌, ◌<◌, ◌≤◌, ◌-◌, ◌^◌, ℕ, List, [], ◌∷◌, ◌++◌, length, ◌≢◌, ◌⊎◌, None, Option, Some}
use Rattle.std.specs.Prelude.{option_copied, drop, Result, Ok, Err}
use Rattle.elf_c_engines.specs.declared.calls.CallFault.TheVariants.{BadRules, OutOfMemory}
use Rattle.elf_c_engines.specs.declared.calls.CallFault.{CallFault}
use Rattle.elf_c_engines.specs.declared.calls.Outcome.{Outcome}
use Rattle.elf_c_engines.specs.declared.exports.LinkOptions.{LinkOptions}
use Rattle.elf_c_engines.specs.declared.said.Said.{Said}
use Rattle.elf_link_field.specs.declared.rule.RelocRule.{RelocRule}
use Rattle.elf_link_files.specs.declared.fault.Options.{Options}
use Rattle.elf_tool_link.specs.Link.{FilesLink}
use Rattle.elf_tool_link.specs.Map.{MapSays}
use Rattle.elf_tool_link.specs.Verdicts.{IsLinkVerdict}
use Rattle.elf_tool_rewrite.specs.Rewrite.{RewriteSays}
use Rattle.elf_tool_rule_file.specs.RuleFile.{AreRules, IsBadLine}
use Rattle.elf_tool_check.specs.declared.calls.Refusal.TheVariants.{File, Link, TooLong}
use Rattle.elf_tool_check.specs.declared.calls.Verdict.TheVariants.{Done, Refused}
use Rattle.elf_tool_check.specs.declared.calls.Verdict.{Verdict}

-- What `map` and `link` make of files, by the text of a file of relocation rules.

-- a text gives no relocation rules: the first line is reported that is bad, or an allocation failed
abbrev pub LacksRules : List ℕ → CallFault → Type 0
LacksRules rules OutOfMemory = Unit {0}
LacksRules rules (BadRules line) = IsBadLine rules line

-- ---- `map`

abbrev pub map_options : LinkOptions → Options
map_options options = record { base = options.base; page = options.page; entry = None }

-- its relocation rules: none, or those of the text where the options ask for them
abbrev pub UsesRules : LinkOptions → List ℕ → Option (List RelocRule) → Type 0
UsesRules options text rules =
    ((options.uses_rules ≡ 0) × (rules ≡ None))
    ⊎ ((options.uses_rules ≢ 0) × ((table : List RelocRule) × AreRules text table × (rules ≡ Some table)))

-- what it says by these rules of the files
abbrev pub MapCallSays : List (List ℕ) → LinkOptions → List ℕ → Verdict → List ℕ → Type 0
MapCallSays files options text verdict lines =
    (rules : Option (List RelocRule)) × UsesRules options text rules × MapSays (map_options options) rules files verdict lines

-- why it says nothing: bad rules, which are looked at only where they are asked for
abbrev pub MapCallFails : LinkOptions → List ℕ → CallFault → Type 0
MapCallFails options text OutOfMemory = Unit {0}
MapCallFails options text (BadRules line) = (options.uses_rules ≢ 0) × IsBadLine text line

-- ---- `link`

-- its options, with the name of an entry symbol
abbrev pub AreLinkOptions : LinkOptions → List ℕ → Options → Type 0
AreLinkOptions options entry opt = (opt.base ≡ options.base) × (opt.page ≡ options.page) × (option_copied opt.entry ≡ Some entry)

-- what it says by the rules of a text of the files
abbrev pub LinkCallSays : List (List ℕ) → LinkOptions → List ℕ → List ℕ → Verdict → List ℕ → Type 0
LinkCallSays files options entry text verdict file =
    (rules : List RelocRule) × AreRules text rules
    × ((opt : Options) × AreLinkOptions options entry opt × FilesLink opt rules files verdict file)

-- How a call ends: its status, the numbers beside it, and what the buffer holds then.

-- the status of a verdict: done, a file is refused, the files don't link, or what is to be written is too long for a file
abbrev pub verdict_status : Verdict → ℕ
verdict_status Done = 0
verdict_status (Refused (File file rule at)) = 1
verdict_status (Refused (Link rule file index entry)) = 2
verdict_status (Refused TooLong) = 3

-- that of a buffer that is too small
abbrev pub small_room_status : ℕ
small_room_status = 4

-- that of a call without output
abbrev pub fault_status : CallFault → ℕ
fault_status OutOfMemory = 5
fault_status (BadRules line) = 6

-- a length, and nothing beside it
abbrev pub length_alone : ℕ → Outcome
length_alone n = record { length = n; at = 0; file = 0; index = 0; rule = 0 }

-- the numbers of a verdict on a text of so many bytes: what is refused, by which rule and where
abbrev pub verdict_numbers : Verdict → ℕ → Outcome
verdict_numbers Done n = length_alone n
verdict_numbers (Refused (File file rule at)) n = record { length = n; at = at; file = file; index = 0; rule = rule }
verdict_numbers (Refused (Link rule file index entry)) n = record { length = n; at = entry; file = file; index = index; rule = rule }
verdict_numbers (Refused TooLong) n = length_alone n

-- those of a call without output: which line is bad
abbrev pub fault_numbers : CallFault → Outcome
fault_numbers OutOfMemory = length_alone 0
fault_numbers (BadRules line) = record { length = 0; at = line; file = 0; index = 0; rule = 0 }

-- the text fits: it is at the beginning of the buffer, whose other bytes are unchanged, and status and numbers are the verdict's
pub record IsPutInto (verdict : Verdict) (text old new : List ℕ) (outcome : Outcome) (code : ℕ) : Type 0 where
  pub fits : length text ≤ length old
  pub room : new ≡ text ++ drop (length text) old
  pub status : code ≡ verdict_status verdict
  pub numbers : outcome ≡ verdict_numbers verdict (length text)

-- it does not fit: the buffer is unchanged, and the numbers say how long it has to be
pub record IsTooSmallFor (text old new : List ℕ) (outcome : Outcome) (code : ℕ) : Type 0 where
  pub short : length old < length text
  pub room : new ≡ old
  pub status : code ≡ small_room_status
  pub numbers : outcome ≡ length_alone (length text)

-- the output of an engine is returned to a caller whose buffer held `old` and holds `new`
abbrev pub IsPutOrTooSmall : Verdict → List ℕ → List ℕ → List ℕ → Outcome → ℕ → Type 0
IsPutOrTooSmall verdict text old new outcome status =
    IsPutInto verdict text old new outcome status ⊎ IsTooSmallFor text old new outcome status

-- a call ends without output, and the buffer is unchanged
pub record IsWithoutAnswer (fault : CallFault) (old new : List ℕ) (outcome : Outcome) (code : ℕ) : Type 0 where
  pub room : new ≡ old
  pub status : code ≡ fault_status fault
  pub numbers : outcome ≡ fault_numbers fault

-- a call of an engine: it returns a verdict and a text of the engine, or no output, for a fault that can come
abbrev pub IsEngineCall : (Verdict → List ℕ → Type 0) → (CallFault → Type 0) → List ℕ → List ℕ → Outcome → ℕ → Type 0
IsEngineCall Says Fails old new outcome status =
    ((verdict : Verdict) × (text : List ℕ) × Says verdict text × IsPutOrTooSmall verdict text old new outcome status)
    ⊎ ((fault : CallFault) × Fails fault × IsWithoutAnswer fault old new outcome status)

-- What an engine says whose text is kept only if it has room in the buffer.

-- its verdict, the length of its text, and its text, if that is no longer than `most`
abbrev pub IsSaid : (Verdict → List ℕ → Type 0) → ℕ → Said → Type 0
IsSaid Says most said =
    (text : List ℕ) × Says said.verdict text × (said.length ≡ length text) × (said.length ≤ most → said.text.items ≡ text)

-- a verdict and the length of a text of which nothing is kept: it is longer than `most`, or there is nothing to keep; and 64 bits can say
-- it
pub record IsUnkept (verdict : Verdict) (n most : ℕ) (said : Said) : Type 0 where
  pub verdict_is : said.verdict ≡ verdict
  pub length_is : said.length ≡ n
  pub text : said.text.items ≡ []
  pub exact : n < 2 ^ 64 - 1
  pub long : n ≤ most → n ≡ 0

-- it is returned: a text that is longer than the buffer by its length, and another one as what is kept
abbrev pub IsToldSaid : Said → List ℕ → List ℕ → Outcome → ℕ → Type 0
IsToldSaid said old new outcome status =
    ((length old < said.length) × (new ≡ old) × (status ≡ small_room_status) × (outcome ≡ length_alone said.length))
    ⊎ ((said.length ≤ length old) × IsPutOrTooSmall said.verdict said.text.items old new outcome status)

-- or why nothing is said
abbrev pub IsAnswered : Result Said CallFault → List ℕ → List ℕ → Outcome → ℕ → Type 0
IsAnswered (Ok said) old new outcome status = IsToldSaid said old new outcome status
IsAnswered (Err fault) old new outcome status = IsWithoutAnswer fault old new outcome status

-- the only fault is out of memory
abbrev pub IsWantOfMemory : CallFault → Type 0
IsWantOfMemory OutOfMemory = Unit {0}
IsWantOfMemory (BadRules line) = ⊥

-- Calls that return a verdict alone.

-- a call that finds a verdict, with a length beside it, and has no output; or none, for a fault that can come
abbrev pub IsVerdictCall : (Verdict → ℕ → Type 0) → (CallFault → Type 0) → Outcome → ℕ → Type 0
IsVerdictCall Says Fails outcome status =
    ((verdict : Verdict) × (n : ℕ) × Says verdict n × (status ≡ verdict_status verdict) × (outcome ≡ verdict_numbers verdict n))
    ⊎ ((fault : CallFault) × Fails fault × (status ≡ fault_status fault) × (outcome ≡ fault_numbers fault))

-- the verdict on a file as an object, beside the length of what `rewrite` writes of it
abbrev pub IsObjectVerdict : List ℕ → Verdict → ℕ → Type 0
IsObjectVerdict b verdict n = (text : List ℕ) × RewriteSays b verdict text × (n ≡ length text)

-- the name of an entry symbol; a name of no bytes is that of none, and no entry point is looked for
abbrev pub entry_named : List ℕ → Option (List ℕ)
entry_named [] = None
entry_named (x ∷ xs) = Some (x ∷ xs)

abbrev pub AreVerdictOptions : LinkOptions → List ℕ → Options → Type 0
AreVerdictOptions options entry opt = (opt.base ≡ options.base) × (opt.page ≡ options.page) × (option_copied opt.entry ≡ entry_named entry)

-- the verdict on the link of the files, by the rules of a text where the options ask for them
abbrev pub LinkVerdictSays : List (List ℕ) → LinkOptions → List ℕ → List ℕ → Verdict → Type 0
LinkVerdictSays files options entry text verdict =
    (rules : Option (List RelocRule)) × UsesRules options text rules
    × ((opt : Options) × AreVerdictOptions options entry opt × IsLinkVerdict opt rules files verdict)

-- which has no length
abbrev pub IsLinkVerdictAlone : List (List ℕ) → LinkOptions → List ℕ → List ℕ → Verdict → ℕ → Type 0
IsLinkVerdictAlone files options entry text verdict n = LinkVerdictSays files options entry text verdict × (n ≡ 0)
