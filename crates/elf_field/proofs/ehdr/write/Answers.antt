-- The fields, put in their order, are the whole slice: each put lets the front grow by its number.
use Rattle.std.proofs.Common.{arith}
use Rattle.std.proofs.lemmas.List.{take_all}
use Rattle.elf_field.specs.Abi.{EHDR_SIZE}
use Rattle.elf_field.proofs.ehdr.write.Goals as goal

pub returns : goal.returns
returns c = let whole = take_all EHDR_SIZE c.put_u16-8.new.b (omega arith) in cc
