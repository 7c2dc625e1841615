use Rattle.std.proofs.Common.{rules}
use Rattle.elf_image_stream.proofs.Sources.{gives_up_to}
use Rattle.elf_image_stream.proofs.reading.read_on.Goals as goal

pub returns-clause-whole : goal.returns-clause-whole
returns-clause-whole g c =
    gives_up_to (g.R.Read.remaining c.args.reader.now)
    (g.R.Read.remaining c.fill-filled.new.reader) c.fill-filled.result.1 c.args.buf.now.items
    c.truncate.new.self.items 1073741825 (search rules) (search rules) (search rules)
