-- By cases on what the slots report. A name with an entry keeps its position. One that finds a free slot gets an entry (`entered`); any
-- other has no entry, and the map places it (`tables_in_map`). All other names keep their positions.
use Rattle.std.proofs.Common.{◌≡◌, ◌+◌, ap, length, rules, sym}
use Rattle.std.specs.Prelude.{Option, ℕ}
use Rattle.elf_link_names.specs.declared.slots.Entry.{Entry}
use Rattle.elf_link_names.specs.Tables.{position_by, name_position, or_else}
use Rattle.elf_link_names.proofs.Tables.{absent_free, absent_taken, entered, here_position, no_position, not_in_map, placed_in_map}
use Rattle.elf_link_names.proofs.Tables.{placed_free, tables_in_map, tables_same}
use Rattle.elf_link_names.proofs.name_index.NameIndex.place_hashed.Goals as goal

pub invariant_of-self-in-Free : goal.invariant_of-self-in-Free
invariant_of-self-in-Free c =
    let p = c.self.inside in
    let e : Entry = record { name = c.args.name; position = c.args.next } in
    let says = rw (c.deref.ensures.value, c.deref-2.ensures.value, c.in-Free.is) at c.look.ensures in
    let ordinal : c.len.result ≡ length p.entries.items + 1 = search rules in
    rw (c.in_ok-push-in-Free.ensures.items, c.upper_of.ensures, c.requires, ordinal)
    (entered p.slots.items p.entries.items (position_by p.more) c.self.invariant e c.in-Free.at says)

pub invariant_of-self-in-Taken : goal.invariant_of-self-in-Taken
invariant_of-self-in-Taken c =
    let p = c.self.inside in
    let n = c.args.name.now in
    let old = position_by p.more in
    let says = rw (c.deref.ensures.value, c.deref-2.ensures.value, c.in-Taken.is) at c.look.ensures in
    let none = absent_taken p.slots.items p.entries.items old c.self.invariant n says in
    tables_in_map p.slots.items p.entries.items old
    (position_by c.place_ordered.new.positions) c.in_ok-place_ordered-in-Taken.field-0 n c.args.next c.self.invariant none
    says.0 c.in_ok-place_ordered-in-Taken.ensures.positions

pub invariant_of-self-in_err-place_ordered-in-Taken : goal.invariant_of-self-in_err-place_ordered-in-Taken
invariant_of-self-in_err-place_ordered-in-Taken c =
    let p = c.self.inside in
    tables_same p.slots.items p.entries.items (position_by p.more)
    (position_by c.place_ordered.new.positions) c.self.invariant c.in_err-place_ordered-in-Taken.ensures.err

pub returns-in-Here-clause-old : goal.returns-in-Here-clause-old
unfolding name_position
returns-in-Here-clause-old c =
    let p = c.self.inside in
    let q = c.args.name.now in
    let says = rw (c.deref.ensures.value, c.deref-2.ensures.value, c.in-Here.is) at c.look.ensures in
    let here = here_position p.slots.items p.entries.items (position_by p.more) c.self.invariant q c.in-Here.position says in
    rw (← c.self.view_is) (sym (ap (λ (found : Option ℕ). or_else found (position_by p.more q)) here))

pub returns-in_ok-push-in-Free-clause-old : goal.returns-in_ok-push-in-Free-clause-old
unfolding name_position
returns-in_ok-push-in-Free-clause-old c =
    let p = c.self.inside in
    let q = c.args.name.now in
    let says = rw (c.deref.ensures.value, c.deref-2.ensures.value, c.in-Free.is) at c.look.ensures in
    let none = no_position p.entries.items q
    (absent_free p.slots.items p.entries.items (position_by p.more) c.self.invariant q c.in-Free.at says) in
    rw (← c.self.view_is)
    (rw none (sym (not_in_map p.slots.items p.entries.items (position_by p.more) c.self.invariant q c.in-Free.at says)))

pub returns-in_ok-push-in-Free-clause-placed : goal.returns-in_ok-push-in-Free-clause-placed
unfolding name_position
returns-in_ok-push-in-Free-clause-placed c =
    let p = c.self.inside in
    let e : Entry = record { name = c.args.name; position = c.args.next } in
    let says = rw (c.deref.ensures.value, c.deref-2.ensures.value, c.in-Free.is) at c.look.ensures in
    let none = absent_free p.slots.items p.entries.items (position_by p.more) c.self.invariant e.name.now c.in-Free.at says in
    rw (← c.self.view_is) (rw c.in_ok-push-in-Free.ensures.items (placed_free p.entries.items (position_by p.more) e none))

pub returns-in_ok-place_ordered-in-Taken-clause-old : goal.returns-in_ok-place_ordered-in-Taken-clause-old
unfolding name_position
returns-in_ok-place_ordered-in-Taken-clause-old c =
    let p = c.self.inside in
    let q = c.args.name.now in
    let says = rw (c.deref.ensures.value, c.deref-2.ensures.value, c.in-Taken.is) at c.look.ensures in
    let none = no_position p.entries.items q (absent_taken p.slots.items p.entries.items (position_by p.more) c.self.invariant q says) in
    rw (← c.self.view_is) (rw none c.in_ok-place_ordered-in-Taken.ensures.old)

pub returns-in_ok-place_ordered-in-Taken-clause-placed : goal.returns-in_ok-place_ordered-in-Taken-clause-placed
unfolding name_position
returns-in_ok-place_ordered-in-Taken-clause-placed c =
    let p = c.self.inside in
    let n = c.args.name.now in
    let says = rw (c.deref.ensures.value, c.deref-2.ensures.value, c.in-Taken.is) at c.look.ensures in
    let none = absent_taken p.slots.items p.entries.items (position_by p.more) c.self.invariant n says in
    rw (← c.self.view_is)
    (placed_in_map p.entries.items (position_by p.more)
    (position_by c.place_ordered.new.positions) c.in_ok-place_ordered-in-Taken.field-0 n c.args.next none
    c.in_ok-place_ordered-in-Taken.ensures.positions)
