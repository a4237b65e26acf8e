use Rattle.std.proofs.Common.{arith}
use Rattle.shard_registry.proofs.Orders.{HasRoomForEight-empty}
use Rattle.shard_registry.proofs.order.Registry.clear.Goals as goal

pub invariant_of-self : goal.invariant_of-self
invariant_of-self c = HasRoomForEight-empty _ _ c.clear.ensures.empty (omega (arith, c.self.invariant.all_fit, c.clear.ensures.capacity))
