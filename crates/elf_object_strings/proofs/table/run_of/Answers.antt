-- The walk back from a sorted name finds the start of its run, and its owner (`owner_found`). If the name just above the start ends with
-- it, the run of that name is joined. Otherwise, or at the first name, the run is complete. Indexes are below the count of owners.
use Rattle.std.proofs.Common.{◌≡◌, ◌<◌, ◌≤◌, ◌-◌, ℕ, min, List, [], get_or, length, sym, subst, ap, ◌∙◌, arith}
use Rattle.std.specs.Prelude.{◌==◌, if◌then◌else◌}
use Rattle.elf_object_strings.specs.declared.sorting.Numbered.{Numbered}
use Rattle.elf_object_strings.specs.StringTable.{IsSuffix}
use Rattle.elf_object_strings.specs.Sorting.{AreBelow, IsLeastOwner, IsRun, indexes_in, names_by_ends}
use Rattle.elf_object_strings.proofs.EndsOrder.{index_at, length-indexes_in, length-names_by_ends, no_name, no_suffix_at, suffix_at}
use Rattle.elf_object_strings.proofs.EndsOrder.{follow_one, none_before, owner_found, run_more}
use Rattle.elf_object_strings.proofs.table.run_of.Goals as goal

index_below : (sorted : List Numbered) (count : ℕ) → AreBelow (indexes_in sorted) count → (q : ℕ) → q < length sorted →
    (get_or sorted q no_name).index < count
index_below sorted count all q lt =
    let within : q < length (indexes_in sorted) = subst (λ n. q < n) (sym (length-indexes_in sorted)) lt in
    subst (λ i. i < count) (index_at sorted q lt) (all q within)

pub offset_bounds-owners-sorted : goal.offset_bounds-owners-sorted
offset_bounds-owners-sorted c =
    let below = index_below c.args.sorted.now (length c.args.owners.now) c.requires.indexes (c.loop-start.start - 1) (omega arith) in
    omega arith

pub bounds-owners-sorted : goal.bounds-owners-sorted
bounds-owners-sorted c = index_below c.args.sorted.now (length c.args.owners.now) c.requires.indexes (c.loop-start.start - 1) (omega arith)

pub is_tail-requires-clause-name : goal.is_tail-requires-clause-name
is_tail-requires-clause-name c = c.requires.ends c.args.position _ c.requires.within

pub is_tail-requires-clause-other : goal.is_tail-requires-clause-other
is_tail-requires-clause-other c = c.requires.ends (c.loop-start.start - 1) _ (omega arith)

pub loop-start-preserved : goal.loop-start-preserved
loop-start-preserved c =
    let sorted = c.args.sorted.now in
    let start = c.loop-start.start in
    let position = c.args.position in
    let before : start - 1 < length sorted = omega arith in
    let ends = suffix_at c.args.list.now sorted position (start - 1) c.requires.within before (sym c.is_tail.ensures ∙ c.if-is_tail.true) in
    let next = get_or c.args.starts.now (start - 1) 0 in
    let met = get_or c.args.owners.now (get_or (indexes_in sorted) (start - 1) 0) 0 in
    let read : met ≡ get_or c.args.owners.now (get_or sorted (start - 1) no_name).index 0 =
    ap (λ i. get_or c.args.owners.now i 0) (index_at sorted (start - 1) before) in
    let new : (if start == position then met else min c.loop-start.owner met) ≡ c.least_owner-owner.result =
    ap (λ m. if start == position then m else min c.loop-start.owner m) read ∙ sym c.least_owner-owner.ensures in
    let run : IsRun (names_by_ends c.args.list.now sorted) (start - 1) next = c.requires.runs.each (start - 1) (omega arith) in
    let low : next ≤ start - 1 = run.low in
    let some = c.loop-start-test.true in
    let so_far = c.loop-start.invariant in
    record {
      low = omega arith;
      ends = run_more (names_by_ends c.args.list.now sorted) position start next some so_far.low run ends so_far.ends;
      own = λ same. absurd (omega arith);
      met = λ names numbered owned less.
          subst (λ i. IsLeastOwner names (names_by_ends c.args.list.now sorted) position next i) new
          (follow_one names (names_by_ends c.args.list.now sorted) position start c.loop-start.owner next met some so_far.low run ends
          (owned.each (start - 1) (omega arith)) (so_far.met names numbered owned));
    }

pub returns-else-is_tail-clause-run : goal.returns-else-is_tail-clause-run
returns-else-is_tail-clause-run c =
    let sorted = c.args.sorted.now in
    let start = c.loop-start.start in
    let position = c.args.position in
    let within = subst (λ n. position < n) (sym (length-names_by_ends c.args.list.now sorted)) c.requires.within in
    let differs : ¬ IsSuffix (get_or (names_by_ends c.args.list.now sorted) position [])
    (get_or (names_by_ends c.args.list.now sorted) (start - 1) []) =
    no_suffix_at c.args.list.now sorted position (start - 1) c.requires.within (omega arith) (sym c.is_tail.ensures ∙ c.if-is_tail.false) in
    let low = c.loop-start.invariant.low in
    record {
      low = low;
      ends = c.loop-start.invariant.ends;
      none = none_before (names_by_ends c.args.list.now sorted) (indexes_in sorted) c.requires.order position start low within
          (λ some. differs);
    }

pub returns-else-is_tail-clause-owner : goal.returns-else-is_tail-clause-owner
returns-else-is_tail-clause-owner c names numbered owned =
    let sorted = c.args.sorted.now in
    let position = c.args.position in
    let within = subst (λ n. position < n) (sym (length-names_by_ends c.args.list.now sorted)) c.requires.within in
    owner_found names (names_by_ends c.args.list.now sorted)
    (indexes_in sorted) numbered c.requires.order position c.loop-start.start c.loop-start.owner
    within (returns-else-is_tail-clause-run c) c.loop-start.invariant.own (c.loop-start.invariant.met names numbered owned)

pub returns-after-loop-start-clause-owner : goal.returns-after-loop-start-clause-owner
returns-after-loop-start-clause-owner c names numbered owned =
    let sorted = c.args.sorted.now in
    let position = c.args.position in
    let within = subst (λ n. position < n) (sym (length-names_by_ends c.args.list.now sorted)) c.requires.within in
    let run : IsRun (names_by_ends c.args.list.now sorted) position c.loop-start.start =
    record { low = c.loop-start.invariant.low; ends = c.loop-start.invariant.ends; none = λ r lt. absurd (omega arith) } in
    owner_found names (names_by_ends c.args.list.now sorted)
    (indexes_in sorted) numbered c.requires.order position c.loop-start.start c.loop-start.owner
    within run c.loop-start.invariant.own (c.loop-start.invariant.met names numbered owned)
