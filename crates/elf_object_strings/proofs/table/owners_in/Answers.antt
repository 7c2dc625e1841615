-- At first each name is its own owner (`owners_none`). One pass of the loop adds the run and the owner of the next sorted name. After the
-- last one all names have their owners.
use Rattle.std.proofs.Common.{◌≡◌, set, ◌<◌, ◌≤◌, ◌+◌, ◌∙◌, ap, get_or, length, sym, subst, arith}
use Rattle.std.specs.List.{range_with_len}
use Rattle.std.proofs.lemmas.List.{with_items_is}
use Rattle.elf_object_strings.specs.Sorting.{AreRuns, HaveOwners, indexes_in, names_by_ends}
use Rattle.elf_object_strings.proofs.EndsOrder.{index_at, length-names_by_ends, no_name, owners_all, owners_more, owners_none, runs_more}
use Rattle.elf_object_strings.proofs.table.owners_in.Goals as goal

pub loop-position-init : goal.loop-position-init
loop-position-init c =
    let names = c.args.list.now in
    let sorted = c.args.sorted.now in
    let empty = c.in_ok-starts.ensures.items in
    record {
      runs = record {
        as_many = ap length empty;
        each = λ q lt. absurd (omega arith);
      };
      owned = subst (λ os. HaveOwners names (names_by_ends names sorted) (indexes_in sorted) os 0)
          (ap (range_with_len 0) (length-names_by_ends names sorted) ∙ sym c.in_ok-owners.ensures)
          (owners_none names (names_by_ends names sorted) (indexes_in sorted) c.requires.numbered);
    }

pub set_owner-requires-clause-within : goal.set_owner-requires-clause-within
set_owner-requires-clause-within c =
    let names = c.args.list.now in
    let sorted = c.args.sorted.now in
    let position = c.loop-position.position in
    let all = c.loop-position.invariant.owned.all in
    let many = length-names_by_ends names sorted in
    let below = c.requires.numbered.below position (omega arith) in
    let at = index_at sorted position c.loop-position-test.true in
    let long = ap length c.deref_mut.ensures.value in
    omega arith

pub set_owner-requires-clause-own : goal.set_owner-requires-clause-own
set_owner-requires-clause-own c =
    let sorted = c.args.sorted.now in
    let position = c.loop-position.position in
    let many = length-names_by_ends c.args.list.now sorted in
    let at = index_at sorted position c.loop-position-test.true in
    let own = c.loop-position.invariant.owned.rest position (omega arith) (omega arith) in
    rw c.deref_mut.ensures.value (ap (λ i. get_or c.loop-position.owners.items i 0) (sym at) ∙ own ∙ at)

pub loop-position-preserved : goal.loop-position-preserved
loop-position-preserved c =
    let sorted = c.args.sorted.now in
    let position = c.loop-position.position in
    let names = c.args.list.now in
    let owners = c.loop-position.owners.items in
    let (start, owner) = c.run_of-start.result in
    let within : position < length (names_by_ends c.args.list.now sorted) =
    subst (λ n. position < n) (sym (length-names_by_ends c.args.list.now sorted)) c.loop-position-test.true in
    let runs = c.loop-position.invariant.runs in
    let owned = c.loop-position.invariant.owned in
    let owns = c.run_of-start.ensures.owner names c.requires.numbered
    (subst (λ os. HaveOwners names (names_by_ends c.args.list.now sorted) (indexes_in sorted) os position)
    (sym c.deref-in-loop-position.ensures.value) owned) in
    let index = (get_or sorted position no_name).index in
    let new : c.set_owner.new.owners ≡ set owners index owner =
    c.set_owner.ensures ∙ ap (λ os. set os index owner) c.deref_mut.ensures.value in
    let kept : length c.set_owner.new.owners ≡ c.loop-position.owners.len = c.set_owner.auto.owners ∙ c.deref_mut.ensures.len in
    record {
      runs = subst (λ starts. AreRuns (names_by_ends c.args.list.now sorted) starts (position + 1)) (sym c.in_ok-push.ensures.items)
          (runs_more (names_by_ends c.args.list.now sorted) c.loop-position.starts.items position start runs c.run_of-start.ensures.run);
      owned = subst (λ os. HaveOwners names (names_by_ends c.args.list.now sorted) (indexes_in sorted) os (position + 1))
          (ap (λ i. set owners i owner) (index_at sorted position c.loop-position-test.true) ∙ sym new
          ∙ sym (with_items_is c.loop-position.owners c.set_owner.new.owners kept))
          (owners_more names (names_by_ends c.args.list.now sorted)
          (indexes_in sorted) owners position owner c.requires.numbered within owned owns);
    }

pub returns : goal.returns
returns c =
    let sorted = c.args.sorted.now in
    let position = c.loop-position.position in
    let all : length (names_by_ends c.args.list.now sorted) ≤ position =
    subst (λ n. n ≤ position) (sym (length-names_by_ends c.args.list.now sorted)) (omega arith) in
    owners_all c.args.list.now (names_by_ends c.args.list.now sorted)
    (indexes_in sorted) c.loop-position.owners.items position c.requires.numbered all
    c.loop-position.invariant.owned
