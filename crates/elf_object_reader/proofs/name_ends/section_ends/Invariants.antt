use Rattle.std.proofs.Common.{◌≡◌, map}
use Rattle.std.specs.Prelude.{filter}
use Rattle.std.specs.List.{range_with_len}
use Rattle.elf_object_layout.specs.SectionsLeftOut.{is_kept}
use Rattle.elf_object_reader.specs.FileRules.{sections_of_file}
use Rattle.elf_object_reader.specs.NameEnds.{section_end}
use Rattle.elf_object_reader.proofs.name_ends.section_ends.Given as goal

-- the ends of the sections so far
abbrev pub invariant-loop-i : goal.invariant-loop-i
invariant-loop-i l =
    let file = l.reader.file in
    let f = sections_of_file file in
    l.ends.items ≡ map (section_end f) (filter (is_kept file.left f) (range_with_len 0 l.i))
