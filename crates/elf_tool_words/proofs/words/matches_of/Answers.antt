-- clap's contract is for simple commands, and `elfmap` is one, by computation. So words that are taken have no fault and enter the
-- subcommand of the definition. An error, other than out of memory, is of words that are not taken, and its kind is one of their faults.
use Rattle.std.proofs.Common.{◌≡◌, ◌∙◌, ap, inl, inr, sym, refl, subst, Bool, true, false, map, List}
use Rattle.std.proofs.lemmas.Result.{err_from_is_err_and}
use Rattle.clap.specs.Faults.{fault_of, is_simple_and_free}
use Rattle.clap.specs.Kinds.{HasKind, IsAmong}
use Rattle.clap.specs.Simple.{App, app_of, is_simple, subcommand_of}
use Rattle.clap.specs.Takes.{takes}
use Rattle.clap.specs.Values.{kind_of}
use Rattle.clap.specs.Walk.{Text}
use Rattle.clap.specs.declared.error.Error.{Error}
use Rattle.clap.specs.declared.error.kind.ErrorKind.TheVariants as kind
use Rattle.elf_tool_words.specs.Command.{check, elfmap, link_command, map_command, rewrite, show}
use Rattle.elf_tool_words.specs.Words.{IsRefusedBy, IsReportedAs}
use Rattle.elf_tool_words.specs.declared.words.WordsFault.{WordsFault}
use Rattle.elf_tool_words.specs.declared.words.WordsFault.TheVariants.{Words, TooManyFiles, BadNumber, OutOfMemory}
use Rattle.elf_tool_words.proofs.words.matches_of.Goals as goal

simple_and_free : is_simple_and_free elfmap ≡ true
unfolding check show rewrite map_command link_command elfmap
simple_and_free = refl

simple : is_simple elfmap ≡ true
unfolding check show rewrite map_command link_command elfmap
simple = refl

pub returns-clause-taken : goal.returns-clause-taken
returns-clause-taken g c =
    let is_elfmap = c.in_ok-command.ensures in
    sym (ap (λ (a : App). fault_of a (map g.S.AsStr.text c.args.words.now)) is_elfmap)
    ∙ c.in_ok-matches.ensures.kinds (ap is_simple_and_free is_elfmap ∙ simple_and_free)

pub returns-clause-entered : goal.returns-clause-entered
returns-clause-entered g c =
    let is_elfmap = c.in_ok-command.ensures in
    (c.in_ok-matches.ensures.matches (ap is_simple is_elfmap ∙ simple)).1 ∙
    ap (λ (a : App). subcommand_of a (map g.S.AsStr.text c.args.words.now)) is_elfmap

-- what is not true is false
false_from_not_true : (b : Bool) → ¬ (b ≡ true) → b ≡ false
false_from_not_true true not = absurd (not refl)
false_from_not_true false not = refl

-- an error of clap refuses the arguments as its fault reports it: other than out of memory it comes only where clap does not take them
refused_by : (a : App) (words : List Text) (error : Error) (fault : WordsFault) → a ≡ elfmap →
    (takes a words ≡ true → kind_of error ≡ kind.OutOfMemory) →
    HasKind (fault_of a words) error → IsReportedAs error fault → IsRefusedBy words fault
refused_by a words error OutOfMemory is_elfmap passes kind says = tt
refused_by a words error TooManyFiles is_elfmap passes kind says = absurd says
refused_by a words error BadNumber is_elfmap passes kind says = absurd says
refused_by a words error (Words e) is_elfmap passes (inl refused) says = absurd (says.1 refused)
refused_by a words error (Words e) is_elfmap passes (inr among) says =
    let of_elfmap = subst (λ (x : App). IsAmong (kind_of error) (fault_of x words)) is_elfmap among in (
      subst (λ (x : App). takes x words ≡ false) is_elfmap (false_from_not_true (takes a words) (λ taken. says.1 (passes taken))),
      subst (λ (x : Error). IsAmong (kind_of x) (fault_of elfmap words)) (sym says.0) of_elfmap,
    )

pub returns-in_err-matches-clause-err : goal.returns-in_err-matches-clause-err
returns-in_err-matches-clause-err g c =
    let is_elfmap = c.in_ok-command.ensures in
    let kinds = c.in_err-matches.ensures.kinds (ap is_simple_and_free is_elfmap ∙ simple_and_free) in
    let known = err_from_is_err_and c.from_residual-in_err-matches.result c.from_residual-in_err-matches.ensures.1 in
    rw known.1 (refused_by (app_of c.in_ok-command.command)
    (map g.S.AsStr.text c.args.words.now) c.in_err-matches.field-0.0 known.0 is_elfmap c.in_err-matches.ensures.passes kinds known.2)
