use Rattle.std.proofs.Common.{◌≡◌, ap, sym, subst, length, ◌∙◌, arith}
use Rattle.std.proofs.lemmas.List.{with_items_is}
use Rattle.elf_object_strings.specs.Leaders.{AreLasts}
use Rattle.elf_object_strings.specs.Sorting.{names_by_ends}
use Rattle.elf_object_strings.proofs.leaders.lasts_of.Goals as goal

pub loop-position-preserved : goal.loop-position-preserved
loop-position-preserved c =
    let low = c.loop-position.invariant.low in
    let some = c.loop-position-test.true in
    let kept : length c.set_lasts.new.lasts ≡ c.loop-position.lasts.len = c.set_lasts.ensures.len ∙ c.deref_mut.ensures.len in
    let items = with_items_is c.loop-position.lasts c.set_lasts.new.lasts kept in
    record {
      low = omega arith;
      all = ap length items ∙ kept ∙ sym c.deref_mut.ensures.len ∙ ap length c.deref_mut.ensures.value ∙ c.loop-position.invariant.all;
      lasts = subst (AreLasts (names_by_ends c.args.read.now c.args.leaders.now) c.args.read.now) (sym items) c.set_lasts.ensures.lasts;
      none = λ all. absurd (omega arith);
      bounds = λ lt. c.in_ok-step_back.ensures;
    }
