-- What is counted is printed; and of few files the text is short, so that it is printed exactly.
use Rattle.std.proofs.Common.{Ok, Err, arith}
use Rattle.std.proofs.lemmas.List.{length-map}
use Rattle.elf_tool_link.proofs.FewFiles.{few_files_short}
use Rattle.elf_tool_link.proofs.MapPrints.{exactly}
use Rattle.elf_tool_link.proofs.mapping.map_files.Goals as goal

pub returns-in-Ok-clause-any : goal.returns-in-Ok-clause-any
returns-in-Ok-clause-any g c = (let (text, says, (count, out)) = c.in-Ok.ensures in (text, says, out))

pub returns-in-Ok-clause-few : goal.returns-in-Ok-clause-few
returns-in-Ok-clause-few g c few = (let (text, says, (count, out)) = c.in-Ok.ensures in (text, says, out))

pub returns-in-Err-clause-few : goal.returns-in-Err-clause-few
returns-in-Err-clause-few g c few =
    let contents = length-map c.args.files.now (λ f. f.now) in
    exactly _ _ _ (Err c.in-Err.fault) (λ text says. few_files_short _ _ _ text (omega arith) says) c.in-Err.ensures
