-- By cases on what the slots report. An entry has the name, and its position. A free slot shows that neither an entry nor the map has it.
-- Else no entry has it, and the map decides.
use Rattle.std.proofs.Common.{ℕ, ap, rules, sym}
use Rattle.std.specs.Prelude.{Option}
use Rattle.elf_link_names.specs.Tables.{position_by, name_position, or_else}
use Rattle.elf_link_names.proofs.Tables.{absent_free, absent_taken, here_position, no_position, not_in_map}
use Rattle.elf_link_names.proofs.name_index.NameIndex.get.Goals as goal

pub returns-in-Here : goal.returns-in-Here
unfolding name_position
returns-in-Here c =
    let p = c.self.inside in
    let q = c.args.name.now in
    let says = rw (c.deref.ensures.value, c.deref-2.ensures.value, c.in-Here.is) at c.look.ensures in
    let here = here_position p.slots.items p.entries.items (position_by p.more) c.self.invariant q c.in-Here.position says in
    rw (← c.self.view_is) (sym (ap (λ (found : Option ℕ). or_else found (position_by p.more q)) here))

pub returns-in-Free : goal.returns-in-Free
unfolding name_position
returns-in-Free c =
    let p = c.self.inside in
    let q = c.args.name.now in
    let says = rw (c.deref.ensures.value, c.deref-2.ensures.value, c.in-Free.is) at c.look.ensures in
    let none = no_position p.entries.items q
    (absent_free p.slots.items p.entries.items (position_by p.more) c.self.invariant q c.in-Free.field-0 says) in
    rw (← c.self.view_is)
    (rw none (sym (not_in_map p.slots.items p.entries.items (position_by p.more) c.self.invariant q c.in-Free.field-0 says)))

pub returns-in-Taken : goal.returns-in-Taken
unfolding name_position
returns-in-Taken c =
    let p = c.self.inside in
    let q = c.args.name.now in
    let says = rw (c.deref.ensures.value, c.deref-2.ensures.value, c.in-Taken.is) at c.look.ensures in
    let none = no_position p.entries.items q (absent_taken p.slots.items p.entries.items (position_by p.more) c.self.invariant q says) in
    rw (← c.self.view_is) (rw none (search rules))
