use Rattle.std.proofs.Common.{rules, ◌≡◌, ◌∙◌, ◌*◌, ℕ, ap, drop, length, take}
use Rattle.elf_image_outline.proofs.RecordsOfSource.{table_on}
use Rattle.elf_image_outline.proofs.records.read_several.Goals as goal

pub returns-clause-known : goal.returns-clause-known
returns-clause-known g c = λ b table from known begins first.
    let read = c.in_ok-read_exactly.ensures in
    let long : length c.read_exactly.new.buf ≡ g.T.Record.SIZE * c.args.several = search rules in
    table_on g.met.T.Record.laws c.args.order b _ c.args.at table from c.args.several _ _
    (read.reads.1 b known ∙ ap (λ (n : ℕ). take n (drop c.args.at b)) long) begins c.in_ok-push_records.ensures.known first
