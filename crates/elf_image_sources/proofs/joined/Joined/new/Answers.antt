-- The lists so far have ends, and one list more has one more. Where the next end is too large, so is the length of all lists.
use Rattle.std.proofs.Common.{◌∙◌, ap, subst, sym, take, ℕ, List, ◌++◌, ◌∷◌, [], ◌+◌}
use Rattle.elf_image_sources.specs.Joined.{AreListEnds}
use Rattle.elf_image_sources.proofs.Lists.{ends_so_far, next_end, too_long}
use Rattle.elf_image_sources.proofs.joined.Joined.new.Goals as goal

pub returns-in_default-clause-err : goal.returns-in_default-clause-err
returns-in_default-clause-err c =
    too_long _ _ _ c.loop-list-test.true _ _ c.loop-list.invariant.end c.length_of.ensures.length c.in_default.ensures

pub loop-list-preserved : goal.loop-list-preserved
loop-list-preserved c =
    let lists = c.args.lists.now in
    let before = c.loop-list.invariant in
    let next = c.in-Some.ensures in
    let ends = ends_so_far lists c.loop-list.list-index _ c.loop-list-test.true _ _ before.end c.length_of.ensures.length
    c.loop-list.ends.items c.length_of.ensures.bytes next.0 before.ends in
    record {
      ends = subst (λ (es : List ℕ). AreListEnds (take (c.loop-list.list-index + 1) lists) es)
          (sym (c.in_ok-push.ensures.items ∙ ap (λ (e : ℕ). c.loop-list.ends.items ++ e ∷ []) next.1)) ends;
      end = next.1 ∙ sym (next_end lists c.loop-list.list-index _ c.loop-list-test.true _ _ before.end c.length_of.ensures.length);
    }
