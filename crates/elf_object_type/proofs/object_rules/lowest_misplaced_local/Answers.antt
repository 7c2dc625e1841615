use Rattle.std.proofs.Common.{◌≡◌, length, arith, rules, vec_len}
use Rattle.std.proofs.lemmas.List.{length-map}
use Rattle.elf_object_type.specs.ObjectView.{symbol_value}
use Rattle.elf_object_type.proofs.object_rules.lowest_misplaced_local.Goals as goal

pub returns : goal.returns
returns c = λ x (i, within, broken, here).
    (let items = c.args.parts.now.symbols.items in
    let wide : length items ≡ vec_len c.args.parts.now.symbols = search rules in
    c.loop-i.invariant.never i (omega (arith, length-map items symbol_value)) broken)
