use Rattle.std.proofs.Common.{◌+◌, ◌*◌, ◌++◌, ℕ, List, [], ◌∷◌, sym, ap₂, ◌∙◌, arith}
use Rattle.std.proofs.lemmas.List.FromFn.{map-range_with_len_more}
use Rattle.elf_object_reader.specs.FileRules.{block_end}
use Rattle.elf_object_reader.proofs.string_blocks.block_ends.Goals as goal

pub end_from-end-requires-clause-before : goal.end_from-end-requires-clause-before
end_from-end-requires-clause-before c = λ high. (4096 * c.loop-block.block, omega arith, sym c.loop-block.invariant.last)

pub loop-block-preserved : goal.loop-block-preserved
loop-block-preserved c =
    let table = c.args.table.now in
    let block = c.loop-block.block in
    record {
      known = c.in_ok-push.ensures.items
          ∙ ap₂ (λ (ends : List ℕ) (end : ℕ). ends ++ (end ∷ [])) c.loop-block.invariant.known c.end_from-end.ensures
          ∙ sym (map-range_with_len_more (block_end table) 1 block (block + 1) (omega arith));
      last = c.end_from-end.ensures;
    }
