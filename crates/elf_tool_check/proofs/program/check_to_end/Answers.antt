use Rattle.std.proofs.Common.{inr}
use Rattle.std.proofs.KnownBytes.{Keeps-refl}
use Rattle.elf_tool_check.proofs.Asked.{asks_none}
use Rattle.elf_tool_check.proofs.program.check_to_end.Goals as goal

pub returns-in-None : goal.returns-in-None
returns-in-None g c =
    inr (
      c.in-None.ensures,
      asks_none (g.O.Opener.asked c.args.files.now),
      (c.misused.ensures.status, c.misused.ensures.printed),
      Keeps-refl (g.W.Write.contents c.args.out.now),
    )
