use Rattle.std.proofs.Common.{◌∙◌, sym, arith}
use Rattle.std.proofs.lemmas.Bool.{true≢false}
use Rattle.elf_link_relocate.proofs.overlaps.first_sharer.Goals as goal

pub loop-shared-init : goal.loop-shared-init
loop-shared-init c = record {
  order = (let (j, k, lt, k_in, sharing) = c.requires.shared in omega arith);
  within = omega arith;
  none = λ (j, k, lt, k_in, sharing). omega arith;
  some = c.requires.shared;
}

pub loop-shared-preserved : goal.loop-shared-preserved
loop-shared-preserved c =
    let far = c.loop-shared-test.true in
    let within = c.loop-shared.invariant.within in
    record {
      order = omega arith;
      within = within;
      none = λ shared. true≢false (sym (c.in_ok-is_any_shared.ensures.1 shared) ∙ c.if-branch.false);
      some = c.loop-shared.invariant.some;
    }
