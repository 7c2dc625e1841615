use Rattle.std.proofs.Common.{◌<◌, arith, subst, sym}
use Rattle.elf_image_rules.specs.declared.tables.Counts.{Counts}
use Rattle.elf_image_rules.proofs.Clean.{kept_segments}
use Rattle.elf_image_rules.proofs.validated_records.ValidatedRecords.segment.Goals as goal

pub segment_at-requires : goal.segment_at-requires
segment_at-requires c =
    let r = c.args.self.now in
    let below : c.args.index < r.counts.segments =
    subst (λ (d : Counts). c.args.index < d.segments) (sym r.own_counts) c.requires in
    let inside = kept_segments r.bytes.now r.header r.counts r.kept r.own_header r.own_counts (omega arith) in
    omega arith
