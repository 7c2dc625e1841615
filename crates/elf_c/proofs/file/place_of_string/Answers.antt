use Rattle.std.proofs.Common.{◌≡◌, ◌<◌, ◌+◌, ℕ, List, ap, arith, drop, length, subst, take, ◌∙◌}
use Rattle.elf_field.specs.Strings.{string}
use Rattle.elf_c.specs.Tables.{slot_bytes}
use Rattle.elf_c.proofs.ReadFiles.{string_in_file}
use Rattle.elf_c.proofs.file.place_of_string.Goals as goal

pub returns-clause-value : goal.returns-clause-value
returns-clause-value c =
    let b = c.args.bytes.now in
    let place = c.args.table in
    let x = c.args.offset in
    let found = c.string_at.result.now in
    let same : found ≡ string (slot_bytes b place) x =
    c.string_at.ensures ∙ ap (λ (strings : List ℕ). string strings x) c.bytes_of-strings.ensures.content in
    let some : 0 < length found = omega arith in
    ap (λ (s : List ℕ). take (length s) (drop (place.start + x) b)) same
    ∙ string_in_file b place.start place.len x (subst (λ (s : List ℕ). 0 < length s) same some)
