use Rattle.std.proofs.Common.{◌<◌, ◌≤◌, length, subst}
use Rattle.elf_field.specs.declared.ehdr.Ehdr.{Ehdr}
use Rattle.elf_image_rules.specs.Tables.{phdr_offset}
use Rattle.elf_image_rules.proofs.Clean.{kept_segments, kept_short}
use Rattle.elf_image_rules.proofs.validated_records.ValidatedRecords.segment_count.Goals as goal

pub returns-clause-inside : goal.returns-clause-inside
returns-clause-inside c =
    let r = c.args.self.now in
    subst (λ (h : Ehdr). 0 < r.counts.segments → phdr_offset h r.counts.segments ≤ length r.bytes.now) r.own_header
    (kept_segments r.bytes.now r.header r.counts r.kept r.own_header r.own_counts)

pub returns-clause-short : goal.returns-clause-short
returns-clause-short c = kept_short c.args.self.now.bytes.now c.args.self.now.kept
