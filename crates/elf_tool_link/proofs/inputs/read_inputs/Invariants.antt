use Rattle.std.proofs.Common.{◌≡◌, length, map}
use Rattle.elf_tool_link.specs.Inputs.{AreReadSoFar}
use Rattle.elf_tool_link.proofs.inputs.read_inputs.Given as goal

-- the first files are read, and the other readers are as they were
abbrev pub invariant-loop-i : goal.invariant-loop-i
invariant-loop-i g l = record {
  count : length l.files.items ≡ l.i;
  long : length l.readers ≡ length l.initial.readers;
  read : AreReadSoFar (map g.R.Read.remaining l.initial.readers) (map g.R.Read.remaining l.readers) (map (λ f. f.items) l.files.items);
}
