-- Words of the command line, and numbers in them.
use Rattle.std.proofs.Common.{◌≡◌, ◌∙◌, inl, inr, ap, refl, sym, Bool, true, false, not, cond, ◌&&◌, List, [], ◌∷◌, Option, Some, None}
use Rattle.std.proofs.Common.{is_some, ℕ, ◌^◌, ◌<◌, subst, arith, length, nat_lt, Result, Ok, Err, lt-ltb, if◌then◌else◌}
use Rattle.std.specs.Box.{box_value}
use Rattle.std.specs.Prelude.{Box, IfOk, IsOkAnd, find, option_map}
use Rattle.std.specs.List.{list_all}
use Rattle.std.specs.Char.{digit_value}
use Rattle.std.specs.Str.Parse.{AllDigits, IsNumeral, ParsesUnsigned, digits_value, without_leading_plus}
use Rattle.std.specs.Result.{result_ok, OkIff}
use Rattle.std.proofs.lemmas.Str.Parse.{without_leading_plus_none}
use Rattle.std.proofs.lemmas.Bool.{cases_lt, le-ltb}
use Rattle.std.proofs.lemmas.Bool.Decides.{nat_tests}
use Rattle.clap.specs.Faults.{check_fault, defaults_fault, entered_fault, fault_of, settle_fault, walk_fault}
use Rattle.clap.specs.Kinds.{Kinds, check_kinds, or_else}
use Rattle.clap.specs.Simple.{App, Shape, argument_words, built, entered, label_of, names_of, rows_at, shape_of, subcommand_of}
use Rattle.clap.specs.Simple.{subcommand_rows, subcommand_rows_of, with_subcommand}
use Rattle.clap.specs.Matches.{subcommand_name_of}
use Rattle.clap.specs.Walk.{Row, Text, answers_to, finished, nothing_held, settled, stop_after, walk, walk_from}
use Rattle.clap.specs.declared.builder.command.Command.{Command}
use Rattle.clap.specs.declared.parser.matches.ArgMatches.{ArgMatches}
use Rattle.clap.specs.declared.parser.matches.ArgMatches.TheViews.{out-ArgMatches, out-SubCommand}
use Rattle.clap.specs.declared.parser.matches.SubCommand.{SubCommand}
use Rattle.clap.proofs.WalkLemmas.{both}
use Rattle.elf_tool_words.specs.Command.{IsNameIn, check, elfmap, link_command, map_command, rewrite, show}
use Rattle.elf_tool_words.specs.Words.{is_decimal_digit, is_hexadecimal_digit, numeral}

-- a subcommand that could be made has the shape that it is said to have
pub joined : {E : Type 0} (before more : App) (shape : Shape) (made : Result Command E) →
    IsOkAnd made (λ sub. more ≡ with_subcommand before (shape_of sub)) → IfOk made (λ sub. shape_of sub ≡ shape) →
    more ≡ with_subcommand before shape
joined before more shape (Ok sub) added is = added ∙ ap (λ (s : Shape). with_subcommand before s) is
joined before more shape (Err refused) added is = absurd added

-- The subcommand that clap's definition enters. A command that requires a subcommand refuses words without one (`enters`), and the name
-- that is entered is one of those of the command. So a parse that succeeds has a subcommand, and its name is one of the program's.

-- where no kind comes at all, the second steps give none
or_else_nil : (first next : Kinds) → or_else first next ≡ [] → next ≡ []
or_else_nil [] next e = e
or_else_nil (k ∷ ks) next e = cc

-- a command that must be given and is not is a fault
given_of_check : (given wants_help wants_argument : Bool) → check_kinds wants_help (not given && true) wants_argument ≡ [] → given ≡ true
given_of_check true wants_help wants_argument e = refl
given_of_check false true wants_argument e = cc
given_of_check false false wants_argument e = cc

-- words that are taken enter a subcommand, where one is required
pub enters : (a : App) (words : List Text) → (built a).top.subcommand_required ≡ true → fault_of a words ≡ [] →
    is_some (subcommand_of a words) ≡ true
enters a words required taken =
    let b = built a in
    let ws = argument_words a words in
    let s = b.top in
    let names = names_of b in
    let stop = stop_after s.rules names ws in
    let end = (walk s.rules names nothing_held ws).held in
    let given = is_some (entered b stop) in
    let checks = check_fault s (finished s.rules end) given in
    let defaults = defaults_fault (settled s.rules end).rows s.rules in
    let settles = settle_fault s.rules s.args_override_self end in
    let below = entered_fault b stop in
    let step_1 : or_else below (or_else settles (or_else defaults checks)) ≡ [] =
    or_else_nil (walk_fault s names (walk_from nothing_held) ws) _ taken in
    let step_2 : or_else settles (or_else defaults checks) ≡ [] = or_else_nil below _ step_1 in
    let step_3 : or_else defaults checks ≡ [] = or_else_nil settles _ step_2 in
    let step_4 : checks ≡ [] = or_else_nil defaults _ step_3 in
    given_of_check given _ _ (rw required at step_4)

-- the name beside some matches
abbrev name_or : Option (Text × List Row) → Text → Text
name_or None name = name
name_or (Some p) name = p.0

-- the shape that a search finds is one of those searched
found_name : (test : Shape → Bool) (subs : List Shape) (words : List Text) (p : Text × List Row) →
    option_map (λ s. rows_at s words) (find test subs) ≡ Some p → IsNameIn p.0 subs
found_name test [] words p e = cc
found_name test (s ∷ rest) words p e = go (test s) e (found_name test rest words p)
  where
    go : (b : Bool) → option_map (λ s. rows_at s words) (cond b (Some s) (find test rest)) ≡ Some p
        → (option_map (λ s. rows_at s words) (find test rest) ≡ Some p → IsNameIn p.0 rest) → IsNameIn p.0 (s ∷ rest)
    go true e later = inl (sym (ap (λ (o : Option (Text × List Row)). name_or o s.name) e))
    go false e later = inr (later e)

-- the name of the subcommand that is entered is one of the command's
pub entered_name : (a : App) (stop : Option (Text × List Text)) (p : Text × List Row) → entered a stop ≡ Some p → IsNameIn p.0 a.subs
entered_name a None p e = cc
entered_name a (Some q) p e = found_name (λ s. answers_to q.0 (label_of s)) a.subs q.1 p e

module _ {Z : Type 0} where
  -- the name and the rows of a subcommand, from each of them
  both_parts : (o : Option (Box SubCommand Z)) (name : Text) (rows : List Row) →
      Some name ≡ option_map (λ b. (out-SubCommand (box_value b)).name.now) o
      → Some rows ≡ option_map (λ p. p.1) (subcommand_rows o) → subcommand_rows o ≡ Some (name, rows)
  both_parts None name rows e f = cc
  both_parts (Some b) name rows e f = cc

-- the subcommand that a parse reports is the one that the definition enters
pub entered_is : (words : List Text) (m : ArgMatches) (name : Text) (rows : List Row) → subcommand_rows_of m ≡ subcommand_of elfmap words
    → Some name ≡ subcommand_name_of m → Some rows ≡ option_map (λ p. p.1) (subcommand_rows_of m) →
    subcommand_of elfmap words ≡ Some (name, rows)
entered_is words m name rows same named rowed = sym same ∙ both_parts (out-ArgMatches m).subcommand name rows named rowed

-- and its name is one of the program's commands
pub is_command : (words : List Text) (p : Text × List Row) → subcommand_of elfmap words ≡ Some p → IsNameIn p.0 elfmap.subs
unfolding check show rewrite map_command link_command elfmap
is_command words p e =
    let b = built elfmap in
    entered_name b (stop_after b.top.rules (names_of b) (argument_words elfmap words)) p e

-- a parse that succeeds reports a subcommand
some_of_rows : (o : Option (Text × List Row)) → None ≡ option_map (λ p. p.1) o → is_some o ≡ true → ⊥
some_of_rows None e some = cc
some_of_rows (Some p) e some = cc

pub never_none : (words : List Text) (m : ArgMatches) → subcommand_rows_of m ≡ subcommand_of elfmap words →
    None ≡ option_map (λ p. p.1) (subcommand_rows_of m)
    → fault_of elfmap words ≡ [] → ⊥
unfolding elfmap
never_none words m same none taken = some_of_rows (subcommand_of elfmap words) (rw same at none) (enters elfmap words refl taken)

-- The numbers of a command line: a word of digits, decimal or lower-case hexadecimal. Each digit has a value below the radix and is no plus
-- sign. So the parser gives what the definition gives: the number, or none if there is no digit or it is past 64 bits.

-- a digit has a value below the radix, and is no plus
pub record AreDigitsOf (radix : ℕ) (is_digit : ℕ → Bool) : Type 0 where
  pub value : (b : ℕ) → is_digit b ≡ true → digit_value b < radix
  pub no_plus : (b : ℕ) → is_digit b ≡ true → (b ≡ 43) → ⊥

pub decimal : AreDigitsOf 10 is_decimal_digit
decimal = record { value = λ b is. grind (arith, nat_tests); no_plus = λ b is plus. grind (arith, nat_tests) }

pub hexadecimal : AreDigitsOf 16 is_hexadecimal_digit
hexadecimal = record { value = λ b is. grind (arith, nat_tests); no_plus = λ b is plus. grind (arith, nat_tests) }

module _ (radix : ℕ) (is_digit : ℕ → Bool) (are : AreDigitsOf radix is_digit) where
  all_digits : (text : List ℕ) → list_all is_digit text ≡ true → AllDigits radix text
  all_digits [] all = tt
  all_digits (b ∷ bs) all = let parts = both (is_digit b) (list_all is_digit bs) all in (are.value b parts.0, all_digits bs parts.1)

  no_leading_plus : (text : List ℕ) → list_all is_digit text ≡ true → without_leading_plus text ≡ text
  no_leading_plus [] all = refl
  no_leading_plus (b ∷ bs) all =
      let parts = both (is_digit b) (list_all is_digit bs) all in
      without_leading_plus_none (b ∷ bs) (are.no_plus b parts.0)

  module _ {E : Type 0} where
    -- a text of digits is read as the number that they write
    pub parsed : (text : List ℕ) (r : Result ℕ E) → list_all is_digit text ≡ true → ParsesUnsigned 64 radix text r →
        result_ok r ≡ numeral radix is_digit text
    parsed text r all parses =
        rw all (read r
        (subst (λ t. OkIff r (IsNumeral radix t × (digits_value radix t < 2 ^ 64)) (digits_value radix t))
        (no_leading_plus text all) parses))
      where
        read : (r : Result ℕ E) → OkIff r (IsNumeral radix text × (digits_value radix text < 2 ^ 64)) (digits_value radix text)
            → result_ok r ≡
            (if true && (nat_lt 0 (length text) && nat_lt (digits_value radix text) (2 ^ 64)) then Some (digits_value radix text) else None)
        read (Ok n) is = rw (lt-ltb 0 (length text) is.0.0.0, lt-ltb (digits_value radix text) (2 ^ 64) is.0.1) (ap Some is.1)
        read (Err e) none = elim (cases_lt 0 (length text)) [
          | inr past ↦ rw (le-ltb 0 (length text) past) refl
          | inl some ↦ elim (cases_lt (digits_value radix text) (2 ^ 64)) [
            | inl below ↦ absurd (none ((some, all_digits text all), below))
            | inr above ↦ rw (lt-ltb 0 (length text) some, le-ltb (digits_value radix text) (2 ^ 64) above) refl
          ]
        ]
