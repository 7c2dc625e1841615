-- If a DT_NULL ends the array inside the section, rule 63 is kept (`has_null_entry`). Then rule 64 is tested on the entries up to that one
-- alone, which is enough (`lowest_before_end`).
use Rattle.std.proofs.Common.{◌≡◌, ℕ, ◌+◌, ◌*◌, ◌<◌, ◌≤◌, List, Option, None, Some, length, inl, inr, refl, arith}
use Rattle.elf_extent.specs.Extent.{IsLowest, Never}
use Rattle.elf_field.specs.Abi.{D_UN_AT, DYN_SIZE}
use Rattle.elf_field.specs.declared.number.Order.{Order}
use Rattle.elf_image_rules.specs.Rows.{AtEntry}
use Rattle.elf_table_symbols.specs.Sections.{Sections, content, order, section, sections_seen}
use Rattle.elf_table_lists.specs.Dynamic.{IsNullEntry, dynamic_entry, dynamic_entry_count, IsDynamicStringPastEnd, dynamic_rules}
use Rattle.elf_table_lists.specs.Dynamic.{dynamic_string_past_end, no_null_entry}
use Rattle.elf_table_lists.proofs.EntryLists.{IsEnd, lowest_before_end}
use Rattle.elf_table_lists.proofs.dynamic.validate_dynamic_array.Goals as goal

ended : (o : Order) (table : List ℕ) (end : ℕ) → end ≤ dynamic_entry_count table →
    ((k : ℕ) → k < end → IsNullEntry (dynamic_entry o table k) → ⊥) →
    (end < dynamic_entry_count table → IsNullEntry (dynamic_entry o table end)) → IsEnd o table end
ended o table end within before found = record { within = within; before = before; found = found }

-- an array that has_null_entry before the end of its section keeps rule 63
has_null_entry : (f : Sections) (i end : ℕ) → IsEnd (order f) (content f i) end → (end ≡ dynamic_entry_count (content f i) → ⊥) →
    Never (no_null_entry f i)
has_null_entry f i end is other x broken =
    let within = is.within in
    let lt : end < dynamic_entry_count (content f i) = omega arith in
    broken.0 end lt (is.found lt)

-- the strings of the entries before its end are those of rule 64
strings : (f : Sections) (i end : ℕ) (found : Option ℕ) → IsEnd (order f) (content f i) end →
    IsLowest (AtEntry end (λ j. IsDynamicStringPastEnd (length (content f (section f i).sh_link)) (dynamic_entry (order f) (content f i) j))
    (λ j. (section f i).sh_offset + DYN_SIZE * j + D_UN_AT)) found → IsLowest (dynamic_string_past_end f i) found
strings f i end found is lowest =
    lowest_before_end (dynamic_entry_count (content f i)) end
    (λ k. IsNullEntry (dynamic_entry (order f) (content f i) k)) _ _ found is.within is.before is.found lowest

pub returns-in-Some : goal.returns-in-Some
unfolding dynamic_rules
returns-in-Some c =
    let is = rw (c.order-order.ensures, c.content-content.ensures.bytes) at
    (ended _ _ _ c.first_null_entry-end.ensures.within c.first_null_entry-end.ensures.before c.first_null_entry-end.ensures.found) in
    let other = rw (c.dynamic_entry_count.ensures, c.content-content.ensures.bytes) at c.if-end-dynamic_entry_count.false in
    let lowest =
    rw (c.order-order.ensures, c.content-content.ensures.bytes, c.linked_content-size.ensures.bytes, c.header-start.ensures) at
    c.in-Some.ensures in
    rw c.new-in-Some.ensures
    (inr (
      has_null_entry (sections_seen c.args.linked.table.sections) c.args.linked.table.index _ is other,
      inl (refl, strings (sections_seen c.args.linked.table.sections) c.args.linked.table.index _ (Some c.in-Some.at) is lowest),
    ))

pub returns-in-None : goal.returns-in-None
unfolding dynamic_rules
returns-in-None c =
    let is = rw (c.order-order.ensures, c.content-content.ensures.bytes) at
    (ended _ _ _ c.first_null_entry-end.ensures.within c.first_null_entry-end.ensures.before c.first_null_entry-end.ensures.found) in
    let other = rw (c.dynamic_entry_count.ensures, c.content-content.ensures.bytes) at c.if-end-dynamic_entry_count.false in
    let never = rw (c.order-order.ensures, c.content-content.ensures.bytes, c.linked_content-size.ensures.bytes, c.header-start.ensures) at
    c.in-None.ensures in (
      has_null_entry (sections_seen c.args.linked.table.sections) c.args.linked.table.index _ is other,
      (strings (sections_seen c.args.linked.table.sections) c.args.linked.table.index _ None is never, tt),
    )
