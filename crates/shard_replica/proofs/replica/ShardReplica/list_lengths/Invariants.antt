use Rattle.shard_replica.proofs.Lengths.{LengthsTo}
use Rattle.shard_replica.proofs.replica.ShardReplica.list_lengths.Given as goal

abbrev pub invariant-loop-segment : goal.invariant-loop-segment
invariant-loop-segment g l = LengthsTo l.segment l.self.state.segments l.length
