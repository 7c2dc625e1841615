-- The result is the first of rules 30 to 32 that is broken, or none is, for all names that have the given ends. The rules are tested in
-- this order, so those that passed are kept.
use Rattle.std.proofs.Common.{ℕ, inl, inr, refl, rules, subst}
use Rattle.elf_field.specs.declared.shdr.Shdr.{Shdr}
use Rattle.elf_extent.specs.Extent.{Never, IsLeast}
use Rattle.elf_image_rules.specs.Rules.{section_name_rules, wrong_name_table_type, UnclosedAt, IsNamePastEnd, SomeSectionHeader}
use Rattle.elf_image_rules.proofs.name_rules.validate_names.Goals as goal

pub returns-in-Some : goal.returns-in-Some
unfolding section_name_rules
returns-in-Some g c = λ names are.
    let s = g.T.Records.sections c.args.records.now in
    let typed : Never (wrong_name_table_type c.args.header.now c.args.table s) = search rules in
    let found = subst (λ (entry : Shdr). IsLeast (UnclosedAt names entry.sh_offset) c.in-Some.at)
    c.section-entry.ensures (c.in-Some.ensures names are) in
    rw c.new-in-Some.ensures (inr (typed, inl (refl, found)))

pub returns-in-Some-lowest_section : goal.returns-in-Some-lowest_section
unfolding section_name_rules
returns-in-Some-lowest_section g c = λ names are.
    let s = g.T.Records.sections c.args.records.now in
    let typed : Never (wrong_name_table_type c.args.header.now c.args.table s) = search rules in
    let closed = subst (λ (entry : Shdr). Never (UnclosedAt names entry.sh_offset))
    c.section-entry.ensures (c.in_default.ensures names are) in
    let found = subst
    (λ (size : ℕ). IsLeast (SomeSectionHeader c.args.header.now c.args.count s (IsNamePastEnd size) 0) c.in-Some-lowest_section.at)
    are.len c.in-Some-lowest_section.ensures in
    rw c.new-in-Some-lowest_section.ensures (inr (typed, inr (closed, inl (refl, found))))

pub returns : goal.returns
unfolding section_name_rules
returns g c = λ names are.
    let s = g.T.Records.sections c.args.records.now in
    let typed : Never (wrong_name_table_type c.args.header.now c.args.table s) = search rules in
    let closed = subst (λ (entry : Shdr). Never (UnclosedAt names entry.sh_offset))
    c.section-entry.ensures (c.in_default.ensures names are) in
    let named = subst (λ (size : ℕ). Never (SomeSectionHeader c.args.header.now c.args.count s (IsNamePastEnd size) 0))
    are.len c.in_default-lowest_section.ensures in
    (typed, (closed, (named, tt)))
