use Rattle.elf_object_type.proofs.PartsOfObjects.{relocations_fit}
use Rattle.elf_object_type.proofs.relocations.RelocationTable.prove_fits.Goals as goal

pub returns : goal.returns
returns c = let t = c.args.self.now in relocations_fit t.rela t.order t.bytes.now c.prove_bytes.ensures
