use Rattle.std.proofs.Common.{rules, arith, ◌+◌, ◌∙◌, ℕ, List, Option, drop, subst, IfSome}
use Rattle.elf_image_stream.specs.Source.{GivesAt}
use Rattle.elf_image_stream.proofs.Sources.{filled_on}
use Rattle.elf_image_stream.proofs.source.read_exactly.Goals as goal

pub loop-filled-preserved : goal.loop-filled-preserved
loop-filled-preserved g c =
    let before = c.loop-filled.invariant in
    let read = c.in-Ok.ensures in
    let n = c.loop-filled.filled in
    record {
      within = search rules;
      same = search rules;
      kept = read.kept ∙ before.kept;
      failures = read.failures.1 (λ dry. absurd (let none = dry.2 in omega arith)) ∙ before.failures;
      bytes = λ b known. filled_on b _ _ c.args.at n c.in-Ok.count read.front (before.bytes b known)
          (subst (λ (content : Option (List ℕ)). IfSome content (λ b. GivesAt b (c.args.at + n) c.in-Ok.count (drop n c.read_more.new.buf)))
          (before.kept ∙ known) read.bytes);
    }
