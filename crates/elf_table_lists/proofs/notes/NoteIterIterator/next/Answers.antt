use Rattle.std.proofs.Common.{rules, sym, ◌∙◌, arith}
use Rattle.elf_table_lists.proofs.NoteLists.{end_above, first_whole, no_note_left, note_left, rest_whole}
use Rattle.elf_table_lists.proofs.notes.NoteIterIterator.next.Goals as goal

pub returns-then-self-clause-steps : goal.returns-then-self-clause-steps
returns-then-self-clause-steps c =
    let none = no_note_left c.self.inside.order c.self.inside.table.now c.self.inside.at c.if-self.true in
    (sym c.self.view_is ∙ none, sym c.self.view_is ∙ none)

pub note_at-note-requires : goal.note_at-note-requires
note_at-note-requires c = first_whole _ _ _ c.self.invariant c.if-self.false

pub invariant_of-header : goal.invariant_of-header
invariant_of-header c =
    let whole = first_whole _ _ _ c.self.invariant c.if-self.false in
    let above = end_above c.self.inside.order c.self.inside.table.now c.self.inside.at in
    record { inside = omega arith }

pub invariant_of-self : goal.invariant_of-self
invariant_of-self c = rw c.note_end-self-inside.ensures (rest_whole _ _ _ c.self.invariant)

pub returns-clause-steps : goal.returns-clause-steps
returns-clause-steps c =
    rw (← c.self.view_is, c.note_at-note.ensures, c.note_end-self-inside.ensures) (note_left _ _ _ c.if-self.false)

pub returns-clause-goes : goal.returns-clause-goes
returns-clause-goes c =
    let steps = note_left c.self.inside.order c.self.inside.table.now c.self.inside.at c.if-self.false in
    rw (← c.self.view_is, c.note_end-self-inside.ensures, steps) (search rules)
