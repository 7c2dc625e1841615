use Rattle.elf_object_strings.specs.StringTable.{texts}
use Rattle.elf_object_strings.proofs.Names.{holds_of, least_of, shares_of}
use Rattle.elf_object_strings.proofs.table.shared_table_at.Goals as goal

pub returns-in-Ok-clause-shares : goal.returns-in-Ok-clause-shares
returns-in-Ok-clause-shares c = shares_of (texts c.args.names.now) _ _ c.in-Ok.ensures.bytes c.in-Ok.ensures.offsets

pub returns-in-Ok-clause-holds : goal.returns-in-Ok-clause-holds
returns-in-Ok-clause-holds c = holds_of (texts c.args.names.now) _ c.in-Ok.ensures.bytes

pub returns-in-Ok-clause-least : goal.returns-in-Ok-clause-least
returns-in-Ok-clause-least c = least_of (texts c.args.names.now) _ c.in-Ok.ensures.bytes
