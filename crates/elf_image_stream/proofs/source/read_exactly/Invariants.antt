use Rattle.std.proofs.Common.{length, ◌-◌, ◌≡◌, ◌≤◌, take, drop, ℕ, List, Some}
use Rattle.elf_image_stream.proofs.source.read_exactly.Given as goal

-- exactly the first bytes are read
abbrev pub invariant-loop-filled : goal.invariant-loop-filled
invariant-loop-filled g l = record {
  within : l.filled ≤ length l.buf;
  same : length l.buf ≡ length l.initial.buf;
  kept : g.S.Source.content l.source ≡ g.S.Source.content l.initial.source;
  failures : g.S.Source.failures l.source ≡ g.S.Source.failures l.initial.source;
  bytes : (b : List ℕ) → g.S.Source.content l.initial.source ≡ Some b → take l.filled l.buf ≡ take l.filled (drop l.at b);
}

abbrev pub decreases-loop-filled : goal.decreases-loop-filled
decreases-loop-filled g l = length l.initial.buf - l.filled
