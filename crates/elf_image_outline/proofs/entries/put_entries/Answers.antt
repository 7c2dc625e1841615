use Rattle.std.proofs.Common.{List, ℕ, drop, length, take, ap, arith, ◌∙◌}
use Rattle.elf_image_outline.proofs.EntriesOut.{in_records, length-put_mid, record_put, length-several, several_at}
use Rattle.elf_image_outline.proofs.entries.put_entries.Goals as goal

pub loop-i-preserved : goal.loop-i-preserved
loop-i-preserved g c =
    let all = g.E.Entries.entries c.args.entries.now in
    let here = take c.args.several (drop c.args.from all) in
    let size = g.E.Entry.Record.SIZE in
    let many = length-several c.args.from c.args.several all c.requires.within in
    let place = in_records size c.loop-i.i c.args.several c.loop-i-test.true in
    let long = g.met.E.Entry.Record.laws.length_is c.args.order c.entry.result in
    let put = c.put.ensures in
    let room = c.loop-i.invariant.long in
    rw (c.SIZE.ensures, c.SIZE-in-loop-i.ensures) (record {
      long = length-put_mid _ _ _ _ (omega arith) (ap (λ (s : List ℕ). length s) put ∙ omega arith) ∙ room;
      front = record_put (g.E.Entry.Record.bytes c.args.order) here size c.loop-i.i _ c.loop-i.bytes c.put.new.b c.entry.result
          (omega arith) (several_at c.args.from c.args.several c.loop-i.i all c.entry.result c.loop-i-test.true c.entry.ensures) long
          (omega arith) c.loop-i.invariant.front put;
    })
