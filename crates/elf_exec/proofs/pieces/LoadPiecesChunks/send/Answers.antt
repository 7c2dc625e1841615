use Rattle.std.proofs.Common.{ap₂}
use Rattle.elf_exec.specs.ExecWriting.{load_content}
use Rattle.elf_exec.proofs.ExecText.{padded_sent}
use Rattle.elf_exec.proofs.pieces.LoadPiecesChunks.send.Goals as goal

pub returns : goal.returns
returns g c =
    padded_sent _ _ _ _ _ _ _ _ _ c.send_load.result c.in_ok-out.ensures c.load_padding-padding.ensures
    (ap₂ load_content c.linked.ensures.value c.load.ensures) c.send_load.ensures
