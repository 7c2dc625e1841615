use Rattle.std.proofs.Common.{◌≡◌, ℕ, ◌<◌, ◌+◌, ◌-◌, ◌∙◌, List, ap, arith, get_or, length, subst}
use Rattle.std.specs.Prelude.{IfSome, Some}
use Rattle.std.proofs.lemmas.List.{length-set}
use Rattle.elf_object_type.specs.Object.{SymbolValue}
use Rattle.elf_link_names.specs.Tables.{IsSymbolHash, IsSymbolLookup, no_lookup, name_position}
use Rattle.elf_link_names.proofs.Tables.{block_next}
use Rattle.elf_link_names.proofs.name_index.block_lookups.Goals as goal

pub loop-index-preserved : goal.loop-index-preserved
loop-index-preserved c =
    let before = c.loop-index.invariant in
    let fs = c.args.inputs.now in
    let step = c.loop-index.index - c.args.start in
    let here : c.args.start + step ≡ c.loop-index.index = (let begun = before.begun in omega arith) in
    let hash = subst (λ (i : ℕ). IsSymbolHash fs c.args.file i (get_or c.block_hashes-hashes.result step 0)) here
    (c.block_hashes-hashes.ensures step (let begun = before.begun in omega arith)) in
    let within : step < length c.loop-index.lookups = (let begun = before.begun in let room = before.room in omega arith) in
    record {
      begun = (let begun = before.begun in omega arith);
      room = length-set c.loop-index.lookups step c.look_up_short.result ∙ before.room;
      lookups = block_next no_lookup (IsSymbolLookup fs (name_position c.args.positions.now) c.args.file) c.args.start c.loop-index.index
          c.loop-index.lookups c.look_up_short.result before.begun within
          (λ not_local. (
            c.look_up_short.ensures.hash ∙ hash not_local,
            subst (λ (n : List ℕ). IfSome c.look_up_short.result.position (λ p. name_position c.args.positions.now n ≡ Some p))
                (ap (λ (s : SymbolValue). s.name) c.symbol.ensures) c.look_up_short.ensures.position,
          ))
          before.lookups;
    }
