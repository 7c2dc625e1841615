use Rattle.std.proofs.Common.{map}
use Rattle.elf_link_names.specs.KnownNames.{AreKnownBefore, AreIndexRows}
use Rattle.elf_link_names.specs.Tables.{name_position}
use Rattle.elf_link_names.proofs.known_names.known_names.Given as goal

abbrev pub invariant-loop-file : goal.invariant-loop-file
invariant-loop-file l = record {
  names : AreKnownBefore l.inputs l.file 0 (name_position l.names.positions) l.names.known;
  indexes : AreIndexRows l.inputs (name_position l.names.positions) l.file (map (λ row. row.items) l.indexes.items);
}
