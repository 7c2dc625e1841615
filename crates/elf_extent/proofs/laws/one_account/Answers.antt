use Rattle.elf_extent.proofs.Public.{one_account}
use Rattle.elf_extent.proofs.laws.one_account.Goals as goal

pub returns : goal.returns
returns c = one_account
