use Rattle.std.proofs.Common.{ltb, rules}
use Rattle.std.proofs.lemmas.List.Sorted.{IsPartitionPoint-from_clause, IsPartitionedBy-ltb}
use Rattle.base.specs.Transactions.{Live}
use Rattle.ledger.proofs.Halving.{handles-rise, point-halved}
use Rattle.ledger.proofs.live.point_of.Goals as goal

pub returns : goal.returns
returns c =
    let live = c.args.live.now in
    let i = c.partition_point.result in
    point-halved c.args.handle live i c.partition_point.ensures.bound
    (IsPartitionPoint-from_clause (λ (t : Live). ltb t.handle c.args.handle) live i c.partition_point.ensures.partitioned
    (IsPartitionedBy-ltb (λ (t : Live). t.handle) live c.args.handle (handles-rise live c.requires)) (λ a r q k. search rules))
