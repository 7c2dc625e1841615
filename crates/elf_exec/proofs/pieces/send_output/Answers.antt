use Rattle.std.proofs.Common.{List, ℕ, subst, sym}
use Rattle.elf_image_stream.specs.Output.{Sends}
use Rattle.elf_link_outputs.specs.Placed.{output_value}
use Rattle.elf_exec.proofs.ExecText.{output_text}
use Rattle.elf_exec.proofs.pieces.send_output.Goals as goal

pub returns : goal.returns
returns g c =
    subst (λ (t : List ℕ). Sends (g.W.Write.contents c.args.writer.now)
    (g.W.Write.contents c.send_all.new.writer) c.args.out t c.send_all.result)
    (sym (output_text c.args.linked.now (output_value c.args.output.now))) c.send_all.ensures
