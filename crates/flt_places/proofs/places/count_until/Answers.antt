use Rattle.std.proofs.Common.{leb, rules}
use Rattle.std.proofs.lemmas.List.Sorted.{IsPartitionPoint-from_clause, IsPartitionedBy-leb}
use Rattle.flt_places.proofs.places.count_until.Goals as goal

pub returns-clause-point : goal.returns-clause-point
returns-clause-point c =
    IsPartitionPoint-from_clause (λ n. leb n c.args.at) _ _ c.partition_point.ensures.partitioned
    (IsPartitionedBy-leb (λ n. n) _ c.args.at c.requires) (λ a r q k. search rules)
