use Rattle.std.proofs.Common.{◌<◌, arith, subst, sym}
use Rattle.elf_image_rules.specs.declared.tables.Counts.{Counts}
use Rattle.elf_image_rules.proofs.Clean.{kept_sections}
use Rattle.elf_image_rules.proofs.validated_records.ValidatedRecords.section.Goals as goal

pub section_at-requires : goal.section_at-requires
section_at-requires c there =
    let r = c.args.self.now in
    let inside = kept_sections r.bytes.now r.header r.counts r.kept r.own_header r.own_counts in
    let below : c.args.index < r.counts.sections =
    subst (λ (d : Counts). c.args.index < d.sections) (sym r.own_counts) c.requires in
    omega arith
