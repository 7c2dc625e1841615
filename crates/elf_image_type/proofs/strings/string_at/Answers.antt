use Rattle.std.proofs.Common.{◌≡◌, ◌-◌, length, take, drop}
use Rattle.elf_image_type.proofs.ImageLemmas.{before_zero, no_zero, rest_from}
use Rattle.elf_image_type.proofs.strings.string_at.Goals as goal

pub returns-in-Some : goal.returns-in-Some
returns-in-Some c =
    let table = c.args.table.now in
    let rest : take (length table - c.min.result) (drop c.min.result table) ≡ drop c.args.offset table =
    rw c.min.ensures (rest_from table c.args.offset) in
    let found = rw rest at c.in-Some.ensures in
    rw rest (before_zero (drop c.args.offset table) c.in-Some.end found.0.high found.0.before found.1)

pub returns-in-None : goal.returns-in-None
returns-in-None c =
    let table = c.args.table.now in
    let rest : take (length table - c.min.result) (drop c.min.result table) ≡ drop c.args.offset table =
    rw c.min.ensures (rest_from table c.args.offset) in
    rw rest (no_zero (drop c.args.offset table) (rw rest at c.in-None.ensures))
