-- The last symbol of the path that is left has `s` as its chain word, whose chain is known, and `start` leads to it (`last_of`). This is
-- what `note` requires; after it the symbol's chain is known too.
use Rattle.std.proofs.Common.{◌≡◌, ◌≢◌, ℕ, ◌+◌, ◌-◌, ◌<◌, ◌≤◌, List, length, get_or, set, take, inr, refl, subst, arith}
use Rattle.std.proofs.Common.{get_or-set_same}
use Rattle.std.proofs.lemmas.List.{take_more}
use Rattle.elf_table_hash.specs.HashTable.{IsPath}
use Rattle.elf_table_hash.proofs.Chains.{deep_more, path_last}
use Rattle.elf_table_hash.proofs.hash_chains.settle.Goals as goal

-- what the last symbol of a path leads to, and what leads to it
last_of : (next : ℕ → ℕ) (start s left : ℕ) (path : List ℕ) (d : ℕ) → 0 < left → left ≤ length path →
    IsPath next start (take left path) s →
    (get_or path (left - 1) d ≢ 0) × IsPath next start (take (left - 1) path) (get_or path (left - 1) d) ×
    (next (get_or path (left - 1) d) ≡ s)
last_of next start s left path d some within p =
    let back : left ≡ left - 1 + 1 = omega arith in
    let all = subst (λ (k : ℕ). IsPath next start (take k path) s) back p in
    path_last next start s (get_or path (left - 1) d) (take (left - 1) path)
    (subst (λ (ws : List ℕ). IsPath next start ws s) (take_more path (left - 1) d (omega arith)) all)

-- its depth is noted
noted : (depth : List ℕ) (a d t : ℕ) → a < length depth → t ≡ a → 0 < get_or (set depth a (d + 1)) t 0
noted depth a d t within same = rw same (rw get_or-set_same (omega arith))

pub note-requires-clause-some : goal.note-requires-clause-some
note-requires-clause-some c =
    let was = c.steps.invariant in
    (last_of _ c.args.start c.steps.s c.steps.left c.args.path.now 0 c.steps-test.true was.few was.path).0

pub note-requires-clause-next : goal.note-requires-clause-next
note-requires-clause-next c =
    let was = c.steps.invariant in
    (last_of _ c.args.start c.steps.s c.steps.left c.args.path.now 0 c.steps-test.true was.few was.path).2

pub note-requires-clause-leads : goal.note-requires-clause-leads
note-requires-clause-leads c =
    let was = c.steps.invariant in (
      take (c.steps.left - 1) c.args.path.now,
      (last_of _ c.args.start c.steps.s c.steps.left c.args.path.now 0 c.steps-test.true was.few was.path).1,
    )

pub steps-preserved : goal.steps-preserved
steps-preserved c =
    let was = c.steps.invariant in
    let above = get_or c.args.path.now (c.steps.left - 1) 0 in
    let inside = c.note.ensures.inside in
    let few = was.few in
    record {
      few = omega arith;
      path = (last_of _ c.args.start c.steps.s c.steps.left c.args.path.now 0 c.steps-test.true was.few was.path).1;
      known = rw c.note.ensures.depth (inr (noted c.steps.depth above _ above inside refl));
      kept = λ s deep. rw c.note.ensures.depth (deep_more c.steps.depth above _ s inside (was.kept s deep));
      lists = c.note.ensures.lists;
    }
