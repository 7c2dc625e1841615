use Rattle.elf_image_rules.specs.Tables.{header, sections}
use Rattle.elf_image_rules.specs.ValidatedRecords.{file_of}
use Rattle.elf_image_outline.proofs.Scanned.{read_more}
use Rattle.elf_image_outline.proofs.in_memory.sections_of.Goals as goal

pub loop-i-preserved : goal.loop-i-preserved
loop-i-preserved c =
    let b = file_of c.args.records.now in
    read_more (sections b (header b)) c.loop-i.i _ _ _ c.in_ok-push.ensures.items c.loop-i.invariant c.section.ensures
