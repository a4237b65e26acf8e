-- The cluster of the tests.
use Rattle.std.specs.Prelude.{◌≡◌}
use Rattle.log_base.specs.ClusterShape.{Shape}
use Rattle.orderer_node.specs.Ordering.{Ordering}

-- one shard of one replica, one gatherer and three orderers, which are the nodes 2, 3 and 4
abbrev pub trio : Shape
trio = record { replicas = 1; shards = 1; orderers = 3; gatherers = 1 }

-- its orderer 1
abbrev pub IsSecond : {J : Type 0} → Ordering J → Type 0
IsSecond ordering = (ordering.memory.config ≡ trio) × (ordering.index ≡ 1)
