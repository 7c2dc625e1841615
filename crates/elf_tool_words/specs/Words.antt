-- What the arguments of a command line ask for: clap's definition of their matches, read.
use Rattle.std.specs.Prelude.{ℕ, ◌^◌, Bool, ◌&&◌, ◌||◌, List, codes, drop, length, nat_eq, nat_le, nat_lt, Option, None, Some}
use Rattle.std.specs.Prelude.{if◌then◌else◌, ◌≡◌, ◌≢◌, ◌⊎◌, ◌<◌, ◌≤◌, true, false, [], map, option_copied, unwrap_or}
use Rattle.std.specs.List.{list_all, starts_with}
use Rattle.std.specs.Str.Parse.{digits_value}
use Rattle.std.specs.Str.{bytes_eq}
use Rattle.clap.specs.Faults.{fault_of}
use Rattle.clap.specs.Kinds.{IsAmong}
use Rattle.clap.specs.Simple.{subcommand_of}
use Rattle.clap.specs.Takes.{takes}
use Rattle.clap.specs.Values.{kind_of}
use Rattle.clap.specs.Walk.{Row, Text, all_of, first_of}
use Rattle.clap.specs.declared.error.Error.{Error}
use Rattle.elf_tool_words.specs.Command.{elfmap}
use Rattle.elf_tool_words.specs.declared.words.Request.TheVariants.{Check, CheckSource, Show, Rewrite, Map, Link}
use Rattle.elf_tool_words.specs.declared.words.Request.{Request}
use Rattle.elf_tool_words.specs.declared.words.WordsFault.TheVariants.{Words, TooManyFiles, BadNumber, OutOfMemory}
use Rattle.elf_tool_words.specs.declared.words.WordsFault.{WordsFault}
use Rattle.clap.specs.declared.error.kind.ErrorKind.TheVariants as kind

-- The numbers of a command line.

-- from 0 to 9, and from a to f too
abbrev pub is_decimal_digit : ℕ → Bool
is_decimal_digit b = nat_le 48 b && nat_le b 57

abbrev pub is_hexadecimal_digit : ℕ → Bool
is_hexadecimal_digit b = is_decimal_digit b || (nat_le 97 b && nat_le b 102)

-- the number that one digit or more write, where it is below 2^64
abbrev pub numeral : ℕ → (ℕ → Bool) → List ℕ → Option ℕ
numeral radix is_digit text =
    if list_all is_digit text && (nat_lt 0 (length text) && nat_lt (digits_value radix text) (2 ^ 64)) then Some
    (digits_value radix text) else None

abbrev pub decimal_number : List ℕ → Option ℕ
decimal_number text = numeral 10 is_decimal_digit text

-- of 16 digits at most
abbrev pub hexadecimal_number : List ℕ → Option ℕ
hexadecimal_number text = if nat_le (length text) 16 then numeral 16 is_hexadecimal_digit text else None

-- decimal, or hexadecimal in lower case after 0x
abbrev pub number_of : List ℕ → Option ℕ
number_of text = if starts_with nat_eq text (codes "0x") then hexadecimal_number (drop 2 text) else decimal_number text

-- the value of an argument, empty where it has none
abbrev pub text_of : Text → List Row → Text
text_of id rows = unwrap_or (first_of id rows) []

-- all values of an argument
abbrev pub texts_of : Text → List Row → List Text
texts_of id rows = unwrap_or (all_of id rows) []

-- whether a flag is given: its value is `true` then, and else `false`
abbrev pub is_set : Text → List Row → Bool
is_set id rows = bytes_eq (text_of id rows) (codes "true")

-- the files that a command names, and the numbers of `--base` and `--page`, where these are some
abbrev pub files_of : List Row → List Text
files_of = texts_of (codes "FILE")

abbrev pub base_of : List Row → Option ℕ
base_of rows = number_of (text_of (codes "B") rows)

abbrev pub page_of : List Row → Option ℕ
page_of rows = number_of (text_of (codes "P") rows)

-- the file that `--rules` names, if it does
abbrev pub rule_file_of : List Row → Option Text
rule_file_of = first_of (codes "RULES")

-- the name that `--entry` gives
abbrev pub entry_name_of : List Row → Text
entry_name_of = text_of (codes "NAME")

-- the commands that link files
abbrev pub IsLinking : Text → Type 0
IsLinking name = (name ≡ codes "map") ⊎ (name ≡ codes "link")

-- the files, at most 64 of them, and the numbers of a link
abbrev pub AreLinkWords : List Row → ℕ → ℕ → List Text → Type 0
AreLinkWords rows base page files =
    (files ≡ files_of rows) × (length (files_of rows) ≤ 64) × (base_of rows ≡ Some base) × (page_of rows ≡ Some page)

-- the command of this name, with these matches, is the request: one equation a request
abbrev pub Asks : Text → List Row → Request → Type 0
Asks name rows (Check file) = (name ≡ codes "check") × (file.now ≡ text_of (codes "FILE") rows) × (is_set (codes "seek") rows ≡ false)
Asks name rows (CheckSource file) = (name ≡ codes "check") × (file.now ≡ text_of (codes "FILE") rows) × (is_set (codes "seek") rows ≡ true)
Asks name rows (Show file) = (name ≡ codes "show") × (file.now ≡ text_of (codes "FILE") rows)
Asks name rows (Rewrite file) = (name ≡ codes "rewrite") × (file.now ≡ text_of (codes "FILE") rows)
Asks name rows (Map base page rules files) =
    (name ≡ codes "map") × AreLinkWords rows base page (map (λ f. f.now) files.items) × (option_copied rules ≡ rule_file_of rows)
Asks name rows (Link base page entry rules files) =
    (name ≡ codes "link") × AreLinkWords rows base page (map (λ f. f.now) files.items)
    × (entry.now ≡ entry_name_of rows) × (rules.now ≡ text_of (codes "RULES") rows)

-- the files and numbers of a link are refused so: more than 64 files, or else a number that is none
abbrev pub RefusesLinkWords : List Row → WordsFault → Type 0
RefusesLinkWords rows (Words error) = ⊥
RefusesLinkWords rows TooManyFiles = 64 < length (files_of rows)
RefusesLinkWords rows BadNumber = (length (files_of rows) ≤ 64) × ((base_of rows ≡ None) ⊎ (page_of rows ≡ None))
RefusesLinkWords rows OutOfMemory = Unit {0}

-- the command of this name, with these matches, is refused so: it is one that links
abbrev pub CommandRefuses : Text → List Row → WordsFault → Type 0
CommandRefuses name rows (Words error) = ⊥
CommandRefuses name rows TooManyFiles = IsLinking name × RefusesLinkWords rows TooManyFiles
CommandRefuses name rows BadNumber = IsLinking name × RefusesLinkWords rows BadNumber
CommandRefuses name rows OutOfMemory = Unit {0}

-- clap's definition takes the arguments, and gives a command and matches of which this holds
pub record Gives (words : List Text) (P : Text → List Row → Type 0) : Type 0 where
  pub taken : fault_of elfmap words ≡ []
  pub name : Text
  pub rows : List Row
  pub entered : subcommand_of elfmap words ≡ Some (name, rows)
  pub holds : P name rows

-- the arguments ask for this
abbrev pub IsAskedBy : List Text → Request → Type 0
IsAskedBy words request = Gives words (λ name rows. Asks name rows request)

-- the arguments are refused so: clap's definition does not take them, and gives the error's kind; or it takes them, and the command is
-- refused; or an allocation failed
abbrev pub IsRefusedBy : List Text → WordsFault → Type 0
IsRefusedBy words (Words error) = (takes elfmap words ≡ false) × IsAmong (kind_of error) (fault_of elfmap words)
IsRefusedBy words TooManyFiles = Gives words (λ name rows. CommandRefuses name rows TooManyFiles)
IsRefusedBy words BadNumber = Gives words (λ name rows. CommandRefuses name rows BadNumber)
IsRefusedBy words OutOfMemory = Unit {0}

-- an error of clap as a fault: out of memory is a fault of its own
abbrev pub IsReportedAs : Error → WordsFault → Type 0
IsReportedAs error (Words e) = (e ≡ error) × (kind_of error ≢ kind.OutOfMemory)
IsReportedAs error TooManyFiles = ⊥
IsReportedAs error BadNumber = ⊥
IsReportedAs error OutOfMemory = kind_of error ≡ kind.OutOfMemory
