use Rattle.std.proofs.Common.{◌∙◌}
use Rattle.elf_object_writer.specs.PlacedObject.{plain_section}
use Rattle.elf_object_writer.specs.declared.placed_object.PlacedSection.TheVariants.{Names}
use Rattle.elf_object_writer.proofs.Going.{undone}
use Rattle.elf_object_writer.proofs.gathering.NextPart.gather.Goals as goal

pub returns-in-Err-clause-kept : goal.returns-in-Err-clause-kept
returns-in-Err-clause-kept c none =
    let d = plain_section c.args.self.now.placed.now.object Names in
    c.truncate.ensures.items ∙
    undone c.args.waiting.now.items _ _ c.args.self.now.out c.len-waited.result c.in-Err.field-0
    (c.len-waited.ensures ∙ c.args.waiting.now.ok.0) (c.in-Err.ensures d)
