use Rattle.elf_object_file.proofs.ObjectFile.{file_written}
use Rattle.elf_object_file.proofs.object_file.write_object.Goals as goal

pub returns : goal.returns
returns g c =
    file_written c.args.object.now c.prove_rules.ensures.kept c.prove_rules.ensures.fits (g.W.Write.contents c.args.writer.now)
    (g.W.Write.contents c.write_layout.new.writer) c.write_layout.result c.write_layout.ensures
