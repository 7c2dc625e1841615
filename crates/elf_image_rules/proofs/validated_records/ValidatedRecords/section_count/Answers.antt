use Rattle.std.proofs.Common.{◌≤◌, length, subst}
use Rattle.elf_field.specs.declared.ehdr.Ehdr.{Ehdr}
use Rattle.elf_image_rules.specs.Tables.{shdr_offset}
use Rattle.elf_image_rules.proofs.Clean.{kept_sections, kept_short}
use Rattle.elf_image_rules.proofs.validated_records.ValidatedRecords.section_count.Goals as goal

pub returns-clause-inside : goal.returns-clause-inside
returns-clause-inside c =
    let r = c.args.self.now in
    subst (λ (h : Ehdr). shdr_offset h r.counts.sections ≤ length r.bytes.now) r.own_header
    (kept_sections r.bytes.now r.header r.counts r.kept r.own_header r.own_counts)

pub returns-clause-short : goal.returns-clause-short
returns-clause-short c = kept_short c.args.self.now.bytes.now c.args.self.now.kept
