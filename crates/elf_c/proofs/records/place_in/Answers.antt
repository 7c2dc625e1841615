use Rattle.elf_c.proofs.NotePlaces.{note_as_place}
use Rattle.elf_c.proofs.records.place_in.Goals as goal

pub returns-in_default : goal.returns-in_default
returns-in_default c =
    note_as_place c.args.file.now c.args.bytes.now c.args.offset c.args.owner c.place_of_note.result c.in_default.ensures
    c.place_of_note.ensures
