use Rattle.std.proofs.Common.{refl}
use Rattle.elf_c_engines.proofs.Kept.{called}
use Rattle.elf_c_engines.proofs.exports.elfmap_map.Goals as goal

pub returns : goal.returns
returns c = called _ _ _ _ _ _ _ c.map_within-said.result refl c.map_within-said.ensures c.answer.ensures
