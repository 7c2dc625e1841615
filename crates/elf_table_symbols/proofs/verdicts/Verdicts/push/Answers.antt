use Rattle.std.proofs.Common.{arith}
use Rattle.elf_table_symbols.proofs.ValidatedLemmas.{broken_added, length_verdicts, sound_added}
use Rattle.elf_table_symbols.proofs.verdicts.Verdicts.push.Goals.{in-Err+in_ok-insert, in_default}
use Rattle.elf_table_symbols.proofs.verdicts.Verdicts.push.Goals as goal

pub overflow_add-self : goal.overflow_add-self
overflow_add-self c =
    let short = rw (← c.self.view_is, length_verdicts c.self.inside.count c.self.inside.broken) at c.requires in
    elim c.match-verdict.branch [
      | in-Err+in_ok-insert w ↦ rw w.self-inside-is (omega arith)
      | in_default w ↦ rw w.self-inside-is (omega arith)
    ]

pub returns-clause-ok : goal.returns-clause-ok
returns-clause-ok c =
    let a = c.self.inside in
    elim c.match-verdict.branch [
      | in-Err+in_ok-insert w ↦
          rw (w.self-inside-is, ← c.self.view_is, w.in-Err.is)
          (broken_added a.count a.broken w.insert.new.self w.in-Err.broken w.in_ok-insert.ensures.updates)
      | in_default w ↦
          rw (w.self-inside-is, ← c.self.view_is, w.in_default.is) (sound_added a.count a.broken (c.self.invariant a.count (omega arith)))
    ]
