use Rattle.elf_field.proofs.ehdr.EhdrRecord.get.Goals as goal

pub returns-in-Little : goal.returns-in-Little
returns-in-Little c = rw c.in-Little.is c.read.ensures

pub returns-in-Big : goal.returns-in-Big
returns-in-Big c = rw c.in-Big.is c.read-in-Big.ensures
