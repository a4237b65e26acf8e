use Rattle.shard_registry.proofs.Orders.{HasRoomForEight-empty}
use Rattle.shard_registry.proofs.order.Registry.new.Goals as goal

pub invariant_of-result : goal.invariant_of-result
invariant_of-result c = HasRoomForEight-empty _ _ c.in_ok-shards.ensures.empty c.in_ok-shards.ensures.spare
