use Rattle.elf_image_sources.proofs.Lists.{gives_from}
use Rattle.elf_image_sources.proofs.joined.JoinedSource.read_at.Goals as goal

pub returns-in-Some-clause-bytes : goal.returns-in-Some-clause-bytes
returns-in-Some-clause-bytes c = gives_from _ _ _ _ c.args.at _ c.in-Some.ensures.from c.copy_at.ensures.all c.copy_at.ensures.bytes
