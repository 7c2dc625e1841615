use Rattle.std.proofs.Common.{◌-◌, ◌≤◌, length}
use Rattle.elf_link_files.specs.Files.{object_at}
use Rattle.elf_link_names.specs.KnownNames.{AreKnownBefore, IsIndexRow, KeepsPositions}
use Rattle.elf_link_names.specs.Tables.{name_position}
use Rattle.elf_link_names.proofs.known_names.pass_file.Given as goal

-- the symbols so far are passed: as many as the row has indexes
abbrev pub invariant-loop-names : goal.invariant-loop-names
invariant-loop-names l = record {
  within : length l.row.items ≤ length (object_at l.inputs l.file).symbols;
  names : AreKnownBefore l.inputs l.file (length l.row.items) (name_position l.names.positions) l.names.known;
  indexes : IsIndexRow l.inputs (name_position l.names.positions) l.file (length l.row.items) l.row.items;
  kept : KeepsPositions (name_position l.fn.names.positions) (name_position l.names.positions);
}

abbrev pub decreases-loop-names : goal.decreases-loop-names
decreases-loop-names l = length (object_at l.inputs l.file).symbols - length l.row.items
