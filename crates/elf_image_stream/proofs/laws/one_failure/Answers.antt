use Rattle.elf_image_stream.proofs.Sources.{one_failure}
use Rattle.elf_image_stream.proofs.laws.one_failure.Goals as goal

pub returns : goal.returns
returns c = one_failure
