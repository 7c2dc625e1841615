use Rattle.std.proofs.Common.{rules, inl, inr}
use Rattle.elf_link_outputs.proofs.Numbers.{counted_all, counted_read}
use Rattle.elf_link_outputs.proofs.outputs.Sections.numbers.Goals.{then-ne, else-ne}
use Rattle.elf_link_outputs.proofs.outputs.Sections.numbers.Goals as goal

pub loop-i-preserved : goal.loop-i-preserved
loop-i-preserved c =
    counted_read c.args.self.now.objects c.args.self.now.sites c.in_ok-firsts.firsts.items c.in_ok-firsts.ensures c.in_ok-keyed.keyed.items
    (rw c.deref.ensures.value at c.in_ok-keyed.ensures.keyed) c.in_ok-keyed.ensures.ascending
    c.loop-i.i c.loop-i.number c.if-ne.number c.loop-i.numbers.items c.index.result.now c.index-in-loop-i.result.now
    (search rules) (search rules) c.index.ensures c.index-in-loop-i.ensures
    (elim c.if-ne.branch [
      | then-ne w ↦ inr (search rules, w.number-is)
      | else-ne w ↦ inl (search rules, w.number-is)
    ])
    c.loop-i.invariant

pub returns : goal.returns
returns c =
    counted_all c.args.self.now.objects c.args.self.now.sites c.in_ok-firsts.firsts.items c.in_ok-firsts.ensures c.in_ok-keyed.keyed.items
    (rw c.deref.ensures.value at c.in_ok-keyed.ensures.keyed) c.in_ok-keyed.ensures.ascending
    c.loop-i.i c.loop-i.number c.loop-i.numbers.items (search rules) c.loop-i.invariant
