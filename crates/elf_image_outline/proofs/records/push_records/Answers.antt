use Rattle.std.proofs.Common.{rules, ◌*◌}
use Rattle.elf_image_outline.proofs.RecordsOfSource.{all_more, extends_on}
use Rattle.elf_image_outline.proofs.records.push_records.Goals as goal

pub loop-i-preserved : goal.loop-i-preserved
loop-i-preserved g c =
    let before = c.loop-i.invariant in
    let push = c.in_ok-push.ensures in
    record {
      many = search rules;
      valid = λ all. rw push.items (all_more g.T.Record.IsValid c.loop-i.records.items _ (before.valid all) c.fits.ensures);
      known = extends_on (λ i. g.T.Record.at c.args.order c.args.bytes.now (g.T.Record.SIZE * i)) c.loop-i.i _ _ _ _ before.known
          (search rules) push.items;
    }
