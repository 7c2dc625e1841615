-- The fields, put in their order, are the whole slice: each put lets the front grow by its number.
use Rattle.std.proofs.Common.{arith}
use Rattle.std.proofs.lemmas.List.{take_all}
use Rattle.elf_field.specs.Abi.{PHDR_SIZE}
use Rattle.elf_field.proofs.phdr.write.Goals as goal

pub returns : goal.returns
returns c = let whole = take_all PHDR_SIZE c.put_u64-6.new.b (omega arith) in cc
