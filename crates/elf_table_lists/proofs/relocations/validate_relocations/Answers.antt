use Rattle.std.proofs.Common.{inl, inr, refl, arith}
use Rattle.elf_table_lists.specs.Relocations.{relocation_entry_rules}
use Rattle.elf_table_lists.proofs.relocations.validate_relocations.Goals as goal

pub returns-in-Some : goal.returns-in-Some
unfolding relocation_entry_rules
returns-in-Some c =
    let there = rw (c.header-section.ensures, c.section_count.ensures) at c.if-section-section_count.false in
    let lowest =
    rw (c.linked_content.ensures.bytes, c.content-content.ensures.bytes, c.order.ensures, c.header-section.ensures) at c.in-Some.ensures in
    rw c.new-in-Some.ensures (inr (λ x broken. (let past = broken.0 in omega arith), inl (refl, lowest)))

pub returns-in-None : goal.returns-in-None
unfolding relocation_entry_rules
returns-in-None c =
    let there = rw (c.header-section.ensures, c.section_count.ensures) at c.if-section-section_count.false in
    let never = rw (c.linked_content.ensures.bytes, c.content-content.ensures.bytes, c.order.ensures, c.header-section.ensures) at
    c.in-None.ensures in
    (λ x broken. (let past = broken.0 in omega arith), (never, tt))
