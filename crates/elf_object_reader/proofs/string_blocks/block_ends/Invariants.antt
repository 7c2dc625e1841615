use Rattle.std.proofs.Common.{◌≡◌, map}
use Rattle.std.specs.List.{range_with_len}
use Rattle.elf_object_reader.specs.FileRules.{block_end}
use Rattle.elf_object_reader.proofs.string_blocks.block_ends.Given as goal

-- the last end is that of the string at the beginning of the last block
abbrev pub invariant-loop-block : goal.invariant-loop-block
invariant-loop-block l = record {
  known : l.ends.items ≡ map (block_end l.table) (range_with_len 1 l.block);
  last : l.end ≡ block_end l.table l.block;
}
