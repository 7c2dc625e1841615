use Rattle.std.proofs.Common.{◌≡◌, ℕ, List, Option, MatchResult, inr, map as map_list, option_copied, refl}
use Rattle.elf_link_field.specs.declared.rule.RelocRule.{RelocRule}
use Rattle.elf_link_files.specs.declared.fault.Options.{Options}
use Rattle.elf_tool_check.specs.declared.calls.Refusal.TheVariants.{File, Link, TooLong}
use Rattle.elf_tool_check.specs.declared.calls.ToolFault.TheVariants as fault
use Rattle.elf_tool_link.specs.Link.{unlinked_verdict}
use Rattle.elf_tool_link.specs.ObjectFiles.{IsUnlinked}
use Rattle.elf_tool_link.specs.Verdicts.{IsLinkVerdict}
use Rattle.elf_tool_link.specs.declared.mapped.Unlinked.TheVariants.{Refused, OutOfMemory}
use Rattle.elf_tool_link.specs.declared.mapped.Unlinked.{Unlinked}
use Rattle.elf_tool_link.proofs.verdicts.link_verdict.Goals as goal

-- what is refused before any entry is looked at is the verdict
unlinked_is : (opt : Options) (rules : Option (List RelocRule)) (files : List (List ℕ)) (unlinked : Unlinked) →
    IsUnlinked opt files unlinked
    → MatchResult (unlinked_verdict unlinked) (IsLinkVerdict opt rules files) (λ out. out ≡ fault.OutOfMemory)
unlinked_is opt rules files (Refused (File file rule at)) is = is
unlinked_is opt rules files (Refused (Link rule file index entry)) (fs, are, stands) =
    (fs, are, inr ((rule, record { file = file; index = index; entry = entry }, refl), stands))
unlinked_is opt rules files (Refused TooLong) is = absurd is
unlinked_is opt rules files OutOfMemory is = refl

pub returns-in-Err : goal.returns-in-Err
returns-in-Err c =
    rw c.verdict_of.ensures
    (unlinked_is c.args.options.now (option_copied c.args.rules)
    (map_list (λ f. f.now) c.args.files.now) c.in-Err.unlinked c.in-Err.ensures)
