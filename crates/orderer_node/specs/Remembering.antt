-- What contracts see of the memory of an orderer, and what it keeps true.
use Rattle.std.specs.Prelude.{◌≡◌, ℕ, ◌-◌, ◌*◌, ◌^◌, ◌<◌, ◌≤◌, [], Option, Some, None}
use Rattle.log_base.specs.ClusterShape.{InRange, Shape}
use Rattle.cut_chain.specs.Known.{Known, known_of}
use Rattle.node_model.specs.OrdererNode.{Change, Orderer}
use Rattle.node_model.specs.OrdererRow.{go_on, quiet}
use Rattle.paxos_model.specs.Leader.{Leader}
use Rattle.orderer_node.specs.Fine.{IsFineOrderer}

-- The cluster, what the orderer remembers, and for how many values, wishes and runs of places there is room.
pub record Remembered : Type 0 where
  pub config : Shape
  pub orderer : Orderer
  pub value_room : ℕ
  pub wish_room : ℕ
  pub run_room : ℕ

-- room for one event
pub record HasRoom (memory : Remembered) : Type 0 where
  pub value : 0 < memory.value_room
  pub wish : 0 < memory.wish_room
  pub runs : memory.config.replicas * memory.config.shards ≤ memory.run_room
  pub ticks : memory.orderer.ticks < 2 ^ 64 - 1

-- What the memory keeps true: the chain is that of the known values, and what the leader knows of the cluster is so.
pub record IsMemory (config : Shape) (orderer : Orderer) (chain : Known) (orderers : ℕ) : Type 0 where
  pub range : InRange config
  pub fine : IsFineOrderer config orderer
  pub chained : chain ≡ known_of config orderer.known
  pub counted : orderers ≡ config.orderers

-- an orderer goes on, if it leads
abbrev pub gone_on_as : Shape → Orderer → Option Leader → Change
gone_on_as config o None = quiet o
gone_on_as config o (Some leader) = go_on config o leader []

abbrev pub gone_on : Shape → Orderer → Change
gone_on config o = gone_on_as config o o.leader
