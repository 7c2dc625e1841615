use Rattle.std.proofs.Common.{rules, ltb}
use Rattle.std.proofs.lemmas.List.Sorted.{IsPartitionPoint-from_clause, IsPartitionedBy-ltb}
use Rattle.elf_object_strings.proofs.Reach.{bound_found}
use Rattle.elf_object_strings.proofs.bounds.bound_of.Goals as goal

pub returns : goal.returns
returns c =
    let (n, reach, le) = c.requires.reach in
    let parted = IsPartitionedBy-ltb (λ it. it.limit) c.args.bounds.now c.args.len reach.ascend in
    let point = IsPartitionPoint-from_clause (λ it. ltb it.limit c.args.len) _ _ c.partition_point.ensures.partitioned parted
    (λ a r q k. search rules) in
    bound_found c.args.bounds.now n c.args.len c.partition_point.result reach le c.partition_point.ensures.bound point
