use Rattle.elf_c.proofs.WholeNotes.{whole_notes_listed}
use Rattle.elf_c.proofs.tables.elfmap_table.Goals as goal

pub returns-clause-notes : goal.returns-clause-notes
returns-clause-notes c is = whole_notes_listed _ c.args.bytes.now c.args.index is
