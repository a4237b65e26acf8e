-- What holds at each moment of every legal history with sound kept lists, of the nodes and of all letters ever sent.
use Rattle.std.specs.Prelude.{◌≡◌, ◌≢◌, ℕ, ◌+◌, ◌*◌, ◌<◌, ◌≤◌, List, length, Option, Some, None, slice_get, slice_index, slice_index_or}
use Rattle.aggregator.specs.Hearing.{Hearing}
use Rattle.history_frame.specs.declared.events.Sent.{Sent}
use Rattle.log_base.specs.ClusterShape.{Shape}
use Rattle.log_model.specs.Chain.{covered_of}
use Rattle.log_model.specs.Storage.{Knowledge, list_limit}
use Rattle.node_table.specs.declared.role.Role.{Role}
use Rattle.node_table.specs.declared.role.Role.TheVariants.{Storage, Gatherer, Orderer}
use Rattle.node_table.specs.Numbering.{nodes_of, role_at}
use Rattle.paxos_model.specs.Leader.{slot_limit}
use Rattle.record_frame.specs.declared.values.Lengths.{Lengths}
use Rattle.record_frame.specs.Entries.{IsEntry}
use Rattle.node_model.specs.GathererRow.{GathererNode}
use Rattle.node_model.specs.Marks.{Running, Stopped}
use Rattle.node_model.specs.NodeState.{NodeState, Storing, Gathering, Ordering}
use Rattle.node_model.specs.OrdererNode.{Node}
use Rattle.node_model.specs.StorageNode.{Put, Replica, StorageMode, StorageNode}
use Rattle.agreement_law.specs.Fine.{IsFineNode}
use Rattle.safety_law.specs.Letters.{AreGoodLetters, IsTrueReport}
use Rattle.safety_law.specs.Lists.{AreCopies, IsSafeValue, Lists, lists_at}
use Rattle.safety_law.specs.Numbers.{IsNumberedNode}

-- An entry that a replica may put at the end of a list: there is room in its own, and in a copy it is what the primary has
-- at that offset.
pub record IsPut (config : Shape) (lists : Lists) (shard replica : ℕ) (put : Put) : Type 0 where
  pub segment : put.segment < config.replicas
  pub entry : IsEntry put.entry
  pub room : length (lists shard replica put.segment) < list_limit
  pub copied : put.segment ≢ replica
      → slice_get (lists shard put.segment put.segment) (length (lists shard replica put.segment)) ≡ Some put.entry

-- what is in flight still may be put
abbrev pub CanPut : Shape → Lists → ℕ → ℕ → Option Put → Type 0
CanPut config lists shard replica None = Unit {0}
CanPut config lists shard replica (Some put) = IsPut config lists shard replica put

-- what a replica knows covers no more than it holds
pub record IsKnowing (config : Shape) (lists : Lists) (shard replica : ℕ) (known : Knowledge) : Type 0 where
  pub covered : (segment : ℕ) → segment < config.replicas → covered_of known.chain shard segment ≤ length (lists shard replica segment)
  pub few : known.count ≤ slot_limit

-- a running replica: what a peer acknowledged, it holds
pub record IsReplica (config : Shape) (lists : Lists) (shard replica : ℕ) (memory : Replica) : Type 0 where
  pub knows : IsKnowing config lists shard replica memory.known
  pub acked : (peer : ℕ) → peer < config.replicas → peer ≢ replica
      → slice_index memory.copying.acked peer ≤ length (lists shard peer replica)

abbrev pub IsReplicaMode : Shape → Lists → ℕ → ℕ → StorageMode → Type 0
IsReplicaMode config lists shard replica (Stopped flight known) =
    CanPut config lists shard replica flight × IsKnowing config lists shard replica known
IsReplicaMode config lists shard replica (Running memory) = IsReplica config lists shard replica memory

pub record IsReplicaNode (config : Shape) (lists : Lists) (shard replica : ℕ) (node : StorageNode) : Type 0 where
  pub size : length node.durable ≡ config.replicas
  pub mode : IsReplicaMode config lists shard replica node.mode

-- what a gatherer heard from a replica, the replica holds
pub record IsHearing (config : Shape) (lists : Lists) (hearing : Hearing) : Type 0 where
  pub replicas : hearing.replicas ≡ config.replicas
  pub size : length hearing.cells ≡ 32
  pub heard : (shard replica : ℕ) → shard < config.shards → replica < config.replicas → (said : Lengths)
      → slice_index_or hearing.cells (shard * config.replicas + replica) None ≡ Some said → IsTrueReport config lists shard replica said

abbrev pub IsGatherer : Shape → Lists → GathererNode → Type 0
IsGatherer config lists node = (hearing : Hearing) → node.mode ≡ Running hearing → IsHearing config lists hearing

-- each value that an orderer holds covers no more than every replica holds
pub record IsOrderer (config : Shape) (lists : Lists) (node : Node) : Type 0 where
  pub values : IsFineNode (IsSafeValue config lists) node
  pub numbers : IsNumberedNode node

-- a node of a role
abbrev pub IsGoodNode : Shape → Lists → Role → NodeState → Type 0
IsGoodNode config lists (Storage shard replica) (Storing node) = IsReplicaNode config lists shard.0 replica.0 node
IsGoodNode config lists (Gatherer index) (Gathering node) = IsGatherer config lists node
IsGoodNode config lists (Orderer index) (Ordering node) = IsOrderer config lists node
IsGoodNode config lists _ _ = ⊥

-- all of it, of nodes by their numbers and the letters that were sent
pub record Fit (config : Shape) (state : ℕ → NodeState) (sent : List Sent) : Type 0 where
  pub copies : AreCopies config (lists_at config state)
  pub nodes : (node : ℕ) → node < nodes_of config → IsGoodNode config (lists_at config state) (role_at config node) (state node)
  pub letters : AreGoodLetters config (lists_at config state) sent
