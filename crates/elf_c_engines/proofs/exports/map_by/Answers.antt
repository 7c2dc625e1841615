use Rattle.elf_c_engines.proofs.exports.map_by.Goals as goal

pub returns : goal.returns
returns c = c.map_of.ensures
