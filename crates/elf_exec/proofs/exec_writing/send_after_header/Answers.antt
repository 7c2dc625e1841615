use Rattle.elf_image_stream.proofs.Public.{sends_after}
use Rattle.elf_exec.specs.ExecWriting.{loads_text, placed_table}
use Rattle.elf_exec.proofs.exec_writing.send_after_header.Goals as goal

pub returns : goal.returns
returns g c =
    sends_after _ _ _ _ _ (placed_table c.args.placed.now)
    (loads_text c.args.placed.now) c.send_loads.result c.in_ok-out.ensures c.send_loads.ensures
