-- The front of the buffer stays what it held, with all that was read after it. A read adds its bytes (`read_more`). A read of no byte, or
-- one that fails, adds none, and the function returns (`read_none`, `read_failed`).
use Rattle.std.proofs.Common.{rules}
use Rattle.elf_image_stream.proofs.Sources.{nothing_read, read_failed, read_more, read_none}
use Rattle.elf_image_stream.proofs.reading.fill.Goals as goal

pub loop-filled-preserved : goal.loop-filled-preserved
loop-filled-preserved g c =
    let read = c.in-Ok-read_at.ensures in
    record {
      within = read.fits;
      limit = search rules;
      room = search rules;
      taken = read_more _ _ _ _ _ _ _ c.loop-filled.filled c.in-Ok-read_at.count c.in-Ok.ensures.front read.front
          c.loop-filled.invariant.taken read.ok;
    }

pub loop-filled-init : goal.loop-filled-init
loop-filled-init g c = record {
  within = search rules;
  limit = search rules;
  room = search rules;
  taken = nothing_read _ _ _ (search rules);
}

pub returns-in-Ok-eq0-clause-taken : goal.returns-in-Ok-eq0-clause-taken
returns-in-Ok-eq0-clause-taken g c =
    let read = c.read_at.ensures in
    read_none _ _ _ _ _ _ _ c.loop-filled.filled c.in-Ok.ensures.front read.front c.loop-filled.invariant.taken (search rules)

pub returns-in-Err-clause-taken : goal.returns-in-Err-clause-taken
returns-in-Err-clause-taken g c =
    let read = c.read_at.ensures in
    read_failed _ _ _ _ _ _ _ c.loop-filled.filled c.in-Ok.ensures.front read.front c.loop-filled.invariant.taken (search rules)
