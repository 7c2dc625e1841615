use Rattle.elf_object_strings.proofs.CommonEnd.{end_before}
use Rattle.elf_object_strings.proofs.sorting.common_end.Goals as goal

pub returns : goal.returns
returns c = end_before _ _ _ _ _ c.loop-less_left.invariant c.equal_bytes.ensures
