-- What the commands on a link say together.
use Rattle.elf_tool_check.specs.declared.calls.Refusal.TheVariants.{File, Link, TooLong}
use Rattle.elf_tool_check.specs.declared.calls.Verdict.TheVariants.{Done, Refused}
use Rattle.elf_tool_check.specs.declared.calls.Verdict.{Verdict}

-- a verdict of `link` without the length of the executable: if that is too long, no rule is broken
abbrev pub but_length : Verdict → Verdict
but_length Done = Done
but_length (Refused (File file rule at)) = Refused (File file rule at)
but_length (Refused (Link rule file index entry)) = Refused (Link rule file index entry)
but_length (Refused TooLong) = Done
