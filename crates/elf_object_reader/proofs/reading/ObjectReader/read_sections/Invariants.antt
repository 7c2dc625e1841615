use Rattle.std.proofs.Common.{◌≡◌, map}
use Rattle.std.specs.Prelude.{filter}
use Rattle.std.specs.List.{range_with_len}
use Rattle.elf_object_layout.specs.SectionsLeftOut.{is_kept}
use Rattle.elf_object_reader.specs.Denotes.{section_denoted}
use Rattle.elf_object_reader.specs.FileRules.{sections_of_file}
use Rattle.elf_object_type.specs.ObjectView.{section_value}
use Rattle.elf_object_reader.proofs.reading.ObjectReader.read_sections.Given as goal

-- the sections so far are read
abbrev pub invariant-loop-i : goal.invariant-loop-i
invariant-loop-i l =
    let f = sections_of_file l.self.file in
    let left = l.self.file.left in
    map section_value l.sections.items ≡ map (section_denoted left f) (filter (is_kept left f) (range_with_len 0 l.i))
