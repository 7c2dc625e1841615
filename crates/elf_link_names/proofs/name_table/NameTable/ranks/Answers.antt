use Rattle.std.proofs.Common.{◌≡◌, length, rules, arith, vec_len}
use Rattle.elf_link_names.proofs.ChosenCommons.{index_by, ranks_more}
use Rattle.elf_link_names.proofs.name_table.NameTable.ranks.Goals as goal

pub index_mut-requires : goal.index_mut-requires
index_mut-requires c =
    let (firsts, lists, (lt, named)) = c.index_of-index.ensures in
    let long = (c.loop-k.invariant firsts lists).long in
    let wide : length c.loop-k.ranks.items ≡ vec_len c.loop-k.ranks = search rules in
    omega arith

pub loop-k-preserved : goal.loop-k-preserved
loop-k-preserved c = λ firsts lists.
    ranks_more c.args.self.now firsts c.args.commons.now c.loop-k.k c.index_of-index.result c.loop-k.ranks.items lists c.loop-k-test.true
    (index_by c.args.self.now _ c.index_of-index.result firsts lists c.index_of-index.ensures)
    (c.loop-k.invariant firsts lists)
