use Rattle.std.proofs.Common.{◌≡◌, ◌+◌}
use Rattle.elf_extent.proofs.ExtentLists.{IsSwept}
use Rattle.elf_extent.proofs.extent.sweep.Given as goal

-- the row shows the same extents, each of the first k was looked at once, and they share no byte
abbrev pub invariant-loop-k : goal.invariant-loop-k
invariant-loop-k g l =
    let row = g.R.Row in
    record {
      kept : row.extents l.row ≡ row.extents l.fn.row;
      counted : row.looks l.row ≡ row.looks l.fn.row + l.k;
      swept : IsSwept (row.extents l.fn.row) l.k l.last;
    }
