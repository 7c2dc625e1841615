use Rattle.std.proofs.Common.{◌<◌, ◌-◌, ◌∙◌, arith, length}
use Rattle.std.proofs.lemmas.List.{length-set}
use Rattle.elf_link_names.specs.Tables.{IsSymbolHash}
use Rattle.elf_link_names.proofs.Tables.{block_next}
use Rattle.elf_link_names.proofs.name_index.block_hashes.Goals as goal

pub loop-index-preserved : goal.loop-index-preserved
loop-index-preserved c =
    let before = c.loop-index.invariant in
    let step = c.loop-index.index - c.args.start in
    let within : step < length c.loop-index.hashes = (let begun = before.begun in let room = before.room in omega arith) in
    record {
      begun = (let begun = before.begun in omega arith);
      room = length-set c.loop-index.hashes step c.symbol_hash.result ∙ before.room;
      hashes = block_next 0
          (IsSymbolHash c.args.inputs.now c.args.file) c.args.start c.loop-index.index c.loop-index.hashes c.symbol_hash.result
          before.begun within c.symbol_hash.ensures before.hashes;
    }
