use Rattle.std.proofs.Common.{ap, false, ◌∙◌}
use Rattle.std.specs.Prelude.{IsTrue}
use Rattle.elf_c.specs.Files.{segment_shape}
use Rattle.elf_c.proofs.ReadFiles.{segment_at, segment_below}
use Rattle.elf_c.proofs.file.elfmap_segment.Goals as goal

pub returns-in-Some-clause-value : goal.returns-in-Some-clause-value
returns-in-Some-clause-value c is =
    let below = segment_below c.args.file.now c.args.bytes.now c.args.index _ is c.in-Some.ensures.0 in
    let at = segment_at c.args.file.now c.args.bytes.now c.args.index is below in
    c.new.ensures ∙ ap segment_shape (c.in-Some.ensures.1 ∙ at.read)

pub returns-in-None-clause-there : goal.returns-in-None-clause-there
returns-in-None-clause-there c is = (
  λ (wrong : IsTrue false). cc,
  λ below. absurd (c.in-None.ensures (segment_at c.args.file.now c.args.bytes.now c.args.index is below).there),
)
