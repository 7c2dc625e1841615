use Rattle.elf_table_all.proofs.TableLinks.{sound_rules}
use Rattle.elf_table_all.proofs.tables.Tables.notes.Goals as goal

pub sound_notes-requires-clause-sound : goal.sound_notes-requires-clause-sound
sound_notes-requires-clause-sound c = sound_rules _ c.args.i _ c.self.invariant.verdicts (rw (← c.self.view_is) at c.requires)
