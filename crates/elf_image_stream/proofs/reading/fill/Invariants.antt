use Rattle.std.proofs.Common.{◌+◌, ◌-◌, ◌≤◌, vec_len, take}
use Rattle.elf_image_stream.specs.Reading.{AppendsRead}
use Rattle.elf_image_rule_names.specs.Longest.{MAX_LEN}
use Rattle.elf_image_stream.proofs.reading.fill.Given as goal

-- the front of the buffer is what it held, and what the reader gave
abbrev pub invariant-loop-filled : goal.invariant-loop-filled
invariant-loop-filled g l = record {
  within : l.filled ≤ vec_len l.buf;
  limit : l.filled ≤ MAX_LEN + 1;
  room : vec_len l.buf ≤ MAX_LEN + 1;
  taken : AppendsRead (g.R.Read.remaining l.initial.reader) (g.R.Read.remaining l.reader) l.initial.buf.items (take l.filled l.buf.items);
}

abbrev pub decreases-loop-filled : goal.decreases-loop-filled
decreases-loop-filled g l = MAX_LEN + 1 - l.filled
