use Rattle.std.proofs.Common.{rules}
use Rattle.elf_image_sources.proofs.Changed.{bytes_reported}
use Rattle.elf_image_sources.proofs.patched.PatchedSource.length.Goals as goal

pub returns-clause-bytes : goal.returns-clause-bytes
returns-clause-bytes g c = bytes_reported _ c.args.self.now.at c.args.self.now.value (search rules) c.length.ensures.bytes
