use Rattle.std.proofs.Common.{leb, rules, ℕ}
use Rattle.std.proofs.lemmas.Bool.{leb-false, leb-true}
use Rattle.std.proofs.lemmas.List.Sorted.{IsPartitionPoint-from_clause, IsPartitionedBy-leb}
use Rattle.elf_image_sources.proofs.joined.count_up_to.Goals as goal

pub returns-clause-count : goal.returns-clause-count
returns-clause-count c =
    let parted = IsPartitionedBy-leb (λ (e : ℕ). e) c.args.ends.now c.args.at c.requires.ascend in
    let point = IsPartitionPoint-from_clause (λ (e : ℕ). leb e c.args.at) _ _ c.partition_point.ensures.partitioned parted
    (λ a r q k. search rules) in
    (λ k d low high. leb-true _ c.args.at (point.0 k d low high), λ k d low high. leb-false _ c.args.at (point.1 k d low high))
