use Rattle.std.proofs.Common.{replicate}
use Rattle.std.proofs.KnownBytes.{Appends-trans}
use Rattle.std.proofs.lemmas.List.{length-replicate}
use Rattle.elf_object_writer.proofs.Going.{first_cut, second_cut}
use Rattle.elf_object_writer.proofs.object_writing.write_padded_table.Goals as goal

pub returns-in-Err : goal.returns-in-Err
returns-in-Err g c = first_cut _ _ c.in-Err.fault.written (replicate c.args.padding 0) _ c.in-Err.ensures

pub returns-in-Ok-write_headers : goal.returns-in-Ok-write_headers
returns-in-Ok-write_headers g c = Appends-trans _ _ _ (replicate c.args.padding 0) _ c.in-Ok.ensures c.in-Ok-write_headers.ensures

pub returns-in-Err-write_headers : goal.returns-in-Err-write_headers
returns-in-Err-write_headers g c =
    second_cut _ _ _ c.args.padding c.in-Err-write_headers.fault.written (replicate c.args.padding 0) _
    (length-replicate c.args.padding 0) c.in-Ok.ensures
    c.in-Err-write_headers.ensures
