use Rattle.elf_c.proofs.ReadEntries.{array_strings}
use Rattle.elf_c.proofs.entries.elfmap_string.Goals as goal

pub returns-then-offset-bytes_of-clause-dynamic : goal.returns-then-offset-bytes_of-clause-dynamic
returns-then-offset-bytes_of-clause-dynamic c i is = array_strings c.args.table.now c.args.bytes.now i is

pub returns-clause-dynamic : goal.returns-clause-dynamic
returns-clause-dynamic c i is = array_strings c.args.table.now c.args.bytes.now i is
