use Rattle.std.proofs.Common.{◌≡◌, map}
use Rattle.std.specs.List.{range_with_len}
use Rattle.elf_object_reader.specs.Denotes.{position_of}
use Rattle.elf_object_reader.specs.FileRules.{sections_of_file}
use Rattle.elf_object_reader.proofs.object_file.ObjectFile.positions.Given as goal

abbrev pub invariant-loop-i : goal.invariant-loop-i
invariant-loop-i l =
    let f = sections_of_file l.self in
    record {
      done : l.positions.items ≡ map (position_of l.self.left f) (range_with_len 0 l.i);
      kept : l.kept ≡ position_of l.self.left f l.i;
    }
