use Rattle.std.proofs.Common.{◌≡◌, ◌≤◌, ◌-◌, length}
use Rattle.elf_link_names.specs.declared.name_index.TheConstants.{BLOCK}
use Rattle.elf_link_names.specs.Tables.{AreBlockHashes}
use Rattle.elf_link_names.proofs.name_index.block_hashes.Given as goal

-- the hashes so far
abbrev pub invariant-loop-index : goal.invariant-loop-index
invariant-loop-index l = record {
  begun : l.start ≤ l.index;
  room : length l.hashes ≡ BLOCK;
  hashes : AreBlockHashes l.inputs l.file l.start (l.index - l.start) l.hashes;
}
