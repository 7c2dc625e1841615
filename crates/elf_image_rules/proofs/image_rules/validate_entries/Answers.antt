use Rattle.elf_image_rules.proofs.ImageRules.{FirstIn-stop, from_sections, from_segments, from_names}
use Rattle.elf_image_rules.proofs.image_rules.validate_entries.Goals as goal

pub returns-in_err-validate_sections : goal.returns-in_err-validate_sections
returns-in_err-validate_sections g c = λ names are.
    from_sections c.args.len c.args.header.now c.args.counts
    (g.T.Records.sections c.args.records.now) (g.T.Records.segments c.args.records.now) names _
    (FirstIn-stop _ _ _ _ c.in_err-validate_sections.ensures c.from_residual.ensures.1)

pub returns-in_err-validate_segments : goal.returns-in_err-validate_segments
returns-in_err-validate_segments g c = λ names are.
    from_segments c.args.len c.args.header.now c.args.counts
    (g.T.Records.sections c.args.records.now) (g.T.Records.segments c.args.records.now) names _ c.in_ok-validate_sections.ensures
    (FirstIn-stop _ _ _ _ c.in_err-validate_segments.ensures c.from_residual-in_err-validate_segments.ensures.1)

pub returns : goal.returns
returns g c = λ names are.
    from_names c.args.len c.args.header.now c.args.counts
    (g.T.Records.sections c.args.records.now) (g.T.Records.segments c.args.records.now) names _
    c.in_ok-validate_sections.ensures c.in_ok-validate_segments.ensures (c.validate_names.ensures names are)
