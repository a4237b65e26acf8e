-- A node of any role as contracts see it, as a node of the rules, and as a machine.
use Rattle.std.specs.Prelude.{◌≡◌, ℕ}
use Rattle.history_frame.specs.declared.inputs.Input.{Input}
use Rattle.log_base.specs.ClusterShape.{Shape}
use Rattle.log_base.specs.Outgoing.{Outgoing}
use Rattle.node_model.specs.Machine.{ClusterNode}
use Rattle.node_model.specs.NodeState.{NodeState, Storing, Gathering, Ordering}
use Rattle.node_table.specs.declared.role.Role.{Role}
use Rattle.node_table.specs.declared.role.Role.TheVariants.{Storage as StorageRole, Gatherer as GathererRole, Orderer as OrdererRole}
use Rattle.node_table.specs.Numbering.{role_at}
use Rattle.segment_journal.specs.Journalled.{Journalled}
use Rattle.gatherer_node.specs.Gatherer.{Gatherer, IsReady as IsGathererReady}
use Rattle.orderer_node.specs.Ordering.{Ordering as Orderer, IsReady as IsOrdererReady, node_of as orderer_state}
use Rattle.storage_node.specs.Preparing.{IsReady as IsStorageReady}
use Rattle.storage_node.specs.StorageState.{StorageState, config_of, node_of as storage_state}
use Rattle.core_step.specs.declared.part.Part.{Part}
use Rattle.core_step.specs.declared.part.Part.TheVariants.{Storage as Stores, Gatherer as Gathers, Orderer as Orders}

-- which node of its cluster it is, and what it does there
pub record Standing (J P : Type 0) : Type 0 where
  pub config : Shape
  pub number : ℕ
  pub part : Part J P

-- its state in the rules
abbrev pub state_of : {J P : Type 0} → (J → Journalled) → Part J P → NodeState
state_of journalled (Stores node) = Storing (storage_state node)
state_of journalled (Gathers node) = Gathering node.node
state_of journalled (Orders node) = Ordering (orderer_state journalled node)

abbrev pub cluster_node : {J P : Type 0} → (J → Journalled) → Standing J P → ClusterNode
cluster_node journalled standing =
    record { config = standing.config; number = standing.number; state = state_of journalled standing.part }

-- the role of a replica
abbrev pub role_in : StorageState → Role
role_in node = StorageRole (record { 0 = node.replica.state.shard }) (record { 0 = node.replica.state.own })

-- the cluster that a part is made for, and its role there
abbrev pub cluster_of : {J P : Type 0} → Part J P → Shape
cluster_of (Stores node) = config_of node
cluster_of (Gathers node) = node.config
cluster_of (Orders node) = node.memory.config

abbrev pub role_of : {J P : Type 0} → Part J P → Role
role_of (Stores node) = role_in node
role_of (Gathers node) = GathererRole node.index
role_of (Orders node) = OrdererRole node.index

-- its part is that of its number in its cluster
pub record IsSeated {J P : Type 0} (config : Shape) (number : ℕ) (part : Part J P) : Type 0 where
  pub cluster : cluster_of part ≡ config
  pub role : role_at config number ≡ role_of part

-- it has the memory for an event
abbrev pub IsReadyFor : {J P : Type 0} → (J → Journalled) → Part J P → Input → Outgoing → Type 0
IsReadyFor journalled (Stores node) input out = IsStorageReady node input out
IsReadyFor journalled (Gathers node) input out = IsGathererReady node out.rooms input
IsReadyFor journalled (Orders node) input out = IsOrdererReady journalled node input out
