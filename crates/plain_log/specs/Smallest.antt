-- The smallest clusters.
use Rattle.log_base.specs.ClusterShape.{Shape}

-- one replica of one shard, one orderer and one gatherer
abbrev pub smallest : Shape
smallest = record { replicas = 1; shards = 1; orderers = 1; gatherers = 1 }

-- the same with two shards
abbrev pub two_shards : Shape
two_shards = record { replicas = 1; shards = 2; orderers = 1; gatherers = 1 }
