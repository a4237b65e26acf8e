-- The numbers of the nodes: first the replicas of each shard in turn, then the gatherers, then the orderers.
use Rattle.std.specs.Prelude.{ℕ, ◌+◌, ◌-◌, ◌*◌, ◌/◌, ◌%◌, ◌<◌, nat_lt, if◌then◌else◌}
use Rattle.log_base.specs.ClusterShape.{Shape}
use Rattle.node_table.specs.declared.role.Role.{Role}
use Rattle.node_table.specs.declared.role.Role.TheVariants.{Storage, Gatherer, Orderer}

-- the node of a replica of a shard
abbrev pub storage_node : Shape → ℕ → ℕ → ℕ
storage_node shape shard replica = shard * shape.replicas + replica

-- the node of a gatherer
abbrev pub gatherer_node : Shape → ℕ → ℕ
gatherer_node shape index = shape.replicas * shape.shards + index

-- the node that gathers for a shard: the gatherers take the shards in turn
abbrev pub gatherer_of : Shape → ℕ → ℕ
gatherer_of shape shard = gatherer_node shape (shard % shape.gatherers)

-- the node of an orderer
abbrev pub orderer_node : Shape → ℕ → ℕ
orderer_node shape index = shape.replicas * shape.shards + shape.gatherers + index

-- how many nodes there are
abbrev pub nodes_of : Shape → ℕ
nodes_of shape = shape.replicas * shape.shards + shape.gatherers + shape.orderers

-- the role of a node: counting up, each shard takes as many numbers as it has replicas
abbrev pub role_at : Shape → ℕ → Role
role_at shape node =
    if nat_lt node (shape.replicas * shape.shards)
    then Storage (record { 0 = node / shape.replicas }) (record { 0 = node % shape.replicas })
    else if nat_lt node (shape.replicas * shape.shards + shape.gatherers)
    then Gatherer (node - shape.replicas * shape.shards)
    else Orderer (node - (shape.replicas * shape.shards + shape.gatherers))

-- the roles that a cluster has
abbrev pub IsRole : Shape → Role → Type 0
IsRole shape (Storage shard replica) = (shard.0 < shape.shards) × (replica.0 < shape.replicas)
IsRole shape (Gatherer index) = index < shape.gatherers
IsRole shape (Orderer index) = index < shape.orderers

-- the node of a role
abbrev pub node_of : Shape → Role → ℕ
node_of shape (Storage shard replica) = storage_node shape shard.0 replica.0
node_of shape (Gatherer index) = gatherer_node shape index
node_of shape (Orderer index) = orderer_node shape index

-- the disk on which a node keeps a segment: each node has eight numbers
abbrev pub disk_of : ℕ → ℕ → ℕ
disk_of node segment = node * 8 + segment
