use Rattle.std.proofs.Common.{replicate}
use Rattle.std.proofs.KnownBytes.{Appends-trans}
use Rattle.std.proofs.lemmas.List.{length-replicate}
use Rattle.elf_object_writer.proofs.Going.{first_cut, second_cut}
use Rattle.elf_object_writer.proofs.placed_object.LaidSection.write_padded.Goals as goal

pub returns-in-Err : goal.returns-in-Err
returns-in-Err g c = first_cut _ _ c.in-Err.fault.written (replicate c.args.padding 0) _ c.in-Err.ensures

pub returns-in-Ok-write_content : goal.returns-in-Ok-write_content
returns-in-Ok-write_content g c = Appends-trans _ _ _ (replicate c.args.padding 0) _ c.in-Ok.ensures c.in-Ok-write_content.ensures

pub returns-in-Err-write_content : goal.returns-in-Err-write_content
returns-in-Err-write_content g c =
    second_cut _ _ _ c.args.padding c.in-Err-write_content.fault.written (replicate c.args.padding 0) _
    (length-replicate c.args.padding 0) c.in-Ok.ensures
    c.in-Err-write_content.ensures
