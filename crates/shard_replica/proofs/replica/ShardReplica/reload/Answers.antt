use Rattle.std.proofs.Common.{◌∙◌, ap, length}
use Rattle.shard_replica.proofs.replica.ShardReplica.reload.Goals as goal

pub returns-clause-counted : goal.returns-clause-counted
returns-clause-counted g c = c.reload.ensures.counted ∙ ap (λ xs. length xs) c.reload.ensures.segments ∙ c.self.invariant.count
