use Rattle.std.proofs.Common.{◌≤◌, ◌-◌, arith, length}
use Rattle.elf_table_hash.proofs.HashSound.{hash_from}
use Rattle.elf_table_hash.proofs.hash_lanes.hash_up_to.Goals as goal

pub returns : goal.returns
returns c =
    let long : c.args.to - c.args.from ≤ length c.string_at-own.result.now = omega arith in
    rw (c.elf_hash.ensures, c.string_at-own.ensures)
    (hash_from c.args.strings.now c.args.from c.args.to (omega arith) (omega arith) (rw c.string_at-own.ensures at long))
