use Rattle.std.proofs.Common.{◌≡◌, ◌-◌, ◌+◌, ◌∙◌, arith, drop, length, min, take}
use Rattle.std.proofs.lemmas.List.{length-drop}
use Rattle.elf_table_hash.proofs.HashSound.{near_whole, rest_from}
use Rattle.elf_table_hash.proofs.name_hashes.near_string.Goals as goal

pub returns : goal.returns
returns c = λ short. (
    let table = c.args.table.now in
    let rest : take (length table - c.min.result) (drop c.min.result table) ≡ drop c.args.offset table =
    rw c.min.ensures (rest_from table c.args.offset) in
    let read = rw rest at c.string_at.ensures in
    let long = length-drop c.args.offset table in
    let near : c.min-2.result ≡ min (length (drop c.args.offset table)) (64 + 1) = omega arith in
    read ∙ near_whole (drop c.args.offset table) c.min-2.result 64 near (rw read at short))
