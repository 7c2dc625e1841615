use Rattle.std.proofs.Common.{◌≡◌, ◌-◌, ◌+◌, ◌∙◌, arith, drop, length, min, sym, take}
use Rattle.std.proofs.lemmas.List.{length-drop}
use Rattle.std.proofs.lemmas.Slice.Eq.{bytes_eq-Decides}
use Rattle.elf_table_hash.proofs.HashSound.{near_back, near_same, rest_from}
use Rattle.elf_table_hash.proofs.hash_words.is_string_at.Goals as goal

pub returns : goal.returns
returns c =
    let table = c.args.table.now in
    let name = c.args.name.now in
    let rest : take (length table - c.min.result) (drop c.min.result table) ≡ drop c.args.offset table =
    rw c.min.ensures (rest_from table c.args.offset) in
    let read = rw rest at c.string_at.ensures in
    let long = length-drop c.args.offset table in
    let near : c.min-2.result ≡ min (length (drop c.args.offset table)) (length name + 1) = omega arith in
    let known = bytes_eq-Decides c.string_at.result.now name in (
      λ equal. near_same (drop c.args.offset table) name c.min-2.result near (sym read ∙ known.0 (sym c.eq.ensures ∙ equal)),
      λ same. c.eq.ensures ∙ known.1 (read ∙ near_back (drop c.args.offset table) name c.min-2.result near same),
    )
