-- What clauses see of a config.
use Rattle.log_base.specs.ClusterShape.{Shape}
use Rattle.log_base.specs.declared.cluster_shape.Config.{Config}

-- the numbers of a config
abbrev pub shape : Config → Shape
shape config = record {
  replicas = config.replicas;
  shards = config.shards;
  orderers = config.orderers;
  gatherers = config.gatherers;
}
