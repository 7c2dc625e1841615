use Rattle.std.proofs.Common.{refl}
use Rattle.elf_c_engines.proofs.Kept.{called}
use Rattle.elf_c_engines.proofs.exports.elfmap_show.Goals as goal

pub returns : goal.returns
returns c = called _ _ _ _ _ _ _ c.show_within-said.result refl c.show_within-said.ensures c.answer.ensures
