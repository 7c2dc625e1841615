use Rattle.elf_extent.proofs.Public.{some_account}
use Rattle.elf_extent.proofs.laws.some_account.Goals as goal

pub returns : goal.returns
returns c = some_account
