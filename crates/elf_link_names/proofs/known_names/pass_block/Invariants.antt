use Rattle.std.proofs.Common.{◌≤◌}
use Rattle.elf_link_names.specs.KnownNames.{AreKnownBefore, IsIndexRow, KeepsPositions}
use Rattle.elf_link_names.specs.Tables.{name_position}
use Rattle.elf_link_names.proofs.known_names.pass_block.Given as goal

abbrev pub invariant-loop-index : goal.invariant-loop-index
invariant-loop-index l = record {
  begun : l.start ≤ l.index;
  names : AreKnownBefore l.inputs l.file l.index (name_position l.names.positions) l.names.known;
  indexes : IsIndexRow l.inputs (name_position l.names.positions) l.file l.index l.row.items;
  kept : KeepsPositions (name_position l.fn.names.positions) (name_position l.names.positions);
}
