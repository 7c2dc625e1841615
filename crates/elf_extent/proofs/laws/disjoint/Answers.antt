use Rattle.elf_extent.proofs.Public.{disjoint_from_never, never_from_disjoint}
use Rattle.elf_extent.proofs.laws.disjoint.Goals as goal

pub returns-clause-only : goal.returns-clause-only
returns-clause-only c = never_from_disjoint

pub returns-clause-from : goal.returns-clause-from
returns-clause-from c = disjoint_from_never
