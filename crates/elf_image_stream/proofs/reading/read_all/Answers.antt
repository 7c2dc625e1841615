use Rattle.std.proofs.Common.{[]}
use Rattle.elf_image_stream.specs.Reading.{AppendsRead}
use Rattle.elf_image_stream.proofs.Sources.{after_nothing}
use Rattle.elf_image_stream.proofs.reading.read_all.Goals as goal

pub returns-clause-taken : goal.returns-clause-taken
returns-clause-taken g c =
    let read : AppendsRead (g.R.Read.remaining c.args.reader.now) (g.R.Read.remaining c.read_on.new.reader) [] c.read_on.new.buf.items =
    rw (← c.requires) c.read_on.ensures.taken in
    rw read.appended read.taken

pub returns-clause-whole : goal.returns-clause-whole
returns-clause-whole g c =
    after_nothing
    (g.R.Read.remaining c.args.reader.now) c.read_on.result c.args.buf.now.items c.read_on.new.buf.items 1073741825 c.requires
    c.read_on.ensures.whole
