use Rattle.std.proofs.Common.{◌≡◌, ◌≤◌, ◌-◌, length}
use Rattle.elf_link_names.specs.declared.name_index.TheConstants.{BLOCK}
use Rattle.elf_link_names.specs.Tables.{AreBlockLookups, name_position}
use Rattle.elf_link_names.proofs.name_index.block_lookups.Given as goal

-- the lookups so far
abbrev pub invariant-loop-index : goal.invariant-loop-index
invariant-loop-index l = record {
  begun : l.start ≤ l.index;
  room : length l.lookups ≡ BLOCK;
  lookups : AreBlockLookups l.inputs (name_position l.positions) l.file l.start (l.index - l.start) l.lookups;
}
