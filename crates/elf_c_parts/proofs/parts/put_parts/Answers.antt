-- The extents that hold a byte, sorted, are the same extents in ascending order (`held_moved`). So the lowest byte that two of them hold is
-- the file's fault, by rule 33. If there is none, no rule is broken and the extents are disjoint, as `put_account` requires.
use Rattle.std.proofs.Common.{None, Some, rules}
use Rattle.std.proofs.lemmas.List.Sorted.{IsNonDecreasingBy-from_sort_by_key}
use Rattle.elf_extent.proofs.Public.{disjoint_from_never, lowest_sorted, nonempty_sorted}
use Rattle.elf_image_rules.specs.Rules.{extents_of_file}
use Rattle.elf_image_rules.specs.ValidatedRecords.{file_of}
use Rattle.elf_image_rules.proofs.Public.{fault_of_extents}
use Rattle.elf_c_parts.specs.declared.parts.Part.{Part}
use Rattle.elf_c_parts.proofs.Slots.{held_moved, members_moved}
use Rattle.elf_c_parts.proofs.parts.put_parts.Goals as goal

pub lowest_double-requires-clause-ascending : goal.lowest_double-requires-clause-ascending
lowest_double-requires-clause-ascending c =
    IsNonDecreasingBy-from_sort_by_key (λ (p : Part). p.start) _ c.sort_unstable_by_key.ensures.sorted (λ a r q k. search rules)

pub lowest_double-requires-clause-nonempty : goal.lowest_double-requires-clause-nonempty
lowest_double-requires-clause-nonempty c =
    nonempty_sorted (extents_of_file (file_of c.args.records.now)) _
    (held_moved (extents_of_file (file_of c.args.records.now)) _ _ _ _
    (rw c.new-extents.ensures at c.put_members-count.ensures.held) c.split_at_mut-members.ensures.front
    c.sort_unstable_by_key.ensures.permutation)

pub put_account-requires-clause-disjoint : goal.put_account-requires-clause-disjoint
put_account-requires-clause-disjoint c =
    let es = extents_of_file (file_of c.args.records.now) in
    disjoint_from_never es (lowest_sorted es _ None
    (held_moved (extents_of_file (file_of c.args.records.now)) _ _ _ _
    (rw c.new-extents.ensures at c.put_members-count.ensures.held) c.split_at_mut-members.ensures.front
    c.sort_unstable_by_key.ensures.permutation)
    c.in-None.ensures)

pub put_account-requires-clause-members : goal.put_account-requires-clause-members
put_account-requires-clause-members c =
    members_moved _ _ _ _ _
    (rw c.new-extents.ensures at c.put_members-count.ensures.members) c.split_at_mut-members.ensures.front
    c.sort_unstable_by_key.ensures.permutation

pub put_account-requires-clause-ascending : goal.put_account-requires-clause-ascending
put_account-requires-clause-ascending c =
    IsNonDecreasingBy-from_sort_by_key (λ (p : Part). p.start) _ c.sort_unstable_by_key.ensures.sorted (λ a r q k. search rules)

pub returns-in-Some-clause-fault : goal.returns-in-Some-clause-fault
returns-in-Some-clause-fault c =
    let b = file_of c.args.records.now in
    let fault = fault_of_extents b (Some c.in-Some.at) c.requires.kept
    (lowest_sorted (extents_of_file b) _ (Some c.in-Some.at)
    (held_moved (extents_of_file (file_of c.args.records.now)) _ _ _ _
    (rw c.new-extents.ensures at c.put_members-count.ensures.held) c.split_at_mut-members.ensures.front
    c.sort_unstable_by_key.ensures.permutation)
    c.in-Some.ensures) in
    (fault, λ kept. c.requires.room)

pub returns-in-None-clause-kept : goal.returns-in-None-clause-kept
returns-in-None-clause-kept c =
    let b = file_of c.args.records.now in
    fault_of_extents b None c.requires.kept
    (lowest_sorted (extents_of_file b) _ None
    (held_moved (extents_of_file (file_of c.args.records.now)) _ _ _ _
    (rw c.new-extents.ensures at c.put_members-count.ensures.held) c.split_at_mut-members.ensures.front
    c.sort_unstable_by_key.ensures.permutation)
    c.in-None.ensures)
