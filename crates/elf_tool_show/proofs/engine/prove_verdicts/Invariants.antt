use Rattle.std.proofs.Common.{ℕ, ◌<◌, None, get_or}
use Rattle.elf_tool_show.specs.Show.{IsVerdictShort}
use Rattle.elf_tool_show.proofs.engine.prove_verdicts.Given as goal

abbrev pub invariant-loop-i : goal.invariant-loop-i
invariant-loop-i l = (k : ℕ) → k < l.i → IsVerdictShort (get_or l.tables.verdicts k None)
