use Rattle.std.proofs.Common.{◌≡◌, map}
use Rattle.std.specs.List.{range_with_len}
use Rattle.elf_object_edit.specs.Without.{new_position}
use Rattle.elf_object_edit.proofs.staying.positions.Given as goal

abbrev pub invariant-loop-i : goal.invariant-loop-i
invariant-loop-i l = record {
  done : l.positions.items ≡ map (new_position l.marks) (range_with_len 0 l.i);
  kept : l.kept ≡ new_position l.marks l.i;
}
