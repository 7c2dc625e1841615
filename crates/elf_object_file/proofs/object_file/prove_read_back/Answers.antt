use Rattle.elf_object_file.proofs.object_file.prove_read_back.Goals as goal

pub returns : goal.returns
returns c = (c.requires.written.denotes c.args.image.now c.requires.image.stands c.args.read.now).0 c.requires.denoted
