use Rattle.elf_object_reader.proofs.KeptTypes.{group_ready}
use Rattle.elf_object_reader.proofs.reading.KeptSection.group.Goals as goal

pub group-requires : goal.group-requires
group-requires c = group_ready c.args.self.now c.requires
