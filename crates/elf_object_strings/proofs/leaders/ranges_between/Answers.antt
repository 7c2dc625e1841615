use Rattle.std.proofs.Common.{◌+◌, ℕ, get_or, length, ap, sym, subst, ◌∙◌}
use Rattle.std.proofs.lemmas.List.{length_push}
use Rattle.elf_object_strings.specs.Leaders.{IsBetween}
use Rattle.elf_object_strings.proofs.LeaderOrder.{ranges_more}
use Rattle.elf_object_strings.proofs.leaders.ranges_between.Goals as goal

pub range_between-requires : goal.range_between-requires
range_between-requires c = c.requires.fit c.loop-i.i

pub loop-i-preserved : goal.loop-i-preserved
loop-i-preserved c =
    let all = c.loop-i.invariant.all in
    record {
      all = ap length c.in_ok-push.ensures.items ∙ length_push c.loop-i.ranges.items _ ∙ ap (λ (n : ℕ). n + 1) all;
      each = rw c.in_ok-push.ensures.items
          (ranges_more c.args.firsts.now c.args.lasts.now c.args.count c.loop-i.ranges.items c.range_between.result c.loop-i.invariant.each
          (λ some. subst
          (λ (k : ℕ). IsBetween (get_or c.args.firsts.now k 0) (get_or c.args.lasts.now k 0) c.args.count c.range_between.result) (sym all)
          (c.range_between.ensures some)));
    }
