use Rattle.elf_image_rules.specs.Tables.{header, segments}
use Rattle.elf_image_rules.specs.ValidatedRecords.{file_of}
use Rattle.elf_image_outline.proofs.Scanned.{read_more}
use Rattle.elf_image_outline.proofs.in_memory.segments_of.Goals as goal

pub loop-j-preserved : goal.loop-j-preserved
loop-j-preserved c =
    let b = file_of c.args.records.now in
    read_more (segments b (header b)) c.loop-j.j _ _ _ c.in_ok-push.ensures.items c.loop-j.invariant c.segment.ensures
