-- Nodes of the three roles as they begin: each is down.
use Rattle.std.specs.Prelude.{◌≡◌, List, [], map}
use Rattle.log_base.specs.ClusterShape.{Shape}
use Rattle.log_model.specs.Storage.{Member, knowledge_of}
use Rattle.node_model.specs.Marks.{Stopped}
use Rattle.node_model.specs.NodeState.{NodeState, Storing, Ordering}
use Rattle.node_model.specs.StorageNode.{member_of}
use Rattle.node_table.specs.declared.role.Role.{Role}
use Rattle.node_table.specs.declared.role.Role.TheVariants.{Storage as StorageRole, Gatherer as GathererRole, Orderer as OrdererRole}
use Rattle.segment_journal.specs.Journalled.{Journalled}
use Rattle.shard_replica.specs.Lists.{Segment}
use Rattle.orderer_node.specs.Ordering.{flight_in as put_in_flight}
use Rattle.paxos_acceptor.specs.Listed.{list_of}
use Rattle.storage_node.specs.StorageState.{flight_in}

-- a role is of a kind
abbrev pub IsStorage : Role → Type 0
IsStorage (StorageRole shard own) = Unit {0}
IsStorage (GathererRole index) = ⊥
IsStorage (OrdererRole index) = ⊥

abbrev pub IsGatherer : Role → Type 0
IsGatherer (StorageRole shard own) = ⊥
IsGatherer (GathererRole index) = Unit {0}
IsGatherer (OrdererRole index) = ⊥

abbrev pub IsOrderer : Role → Type 0
IsOrderer (StorageRole shard own) = ⊥
IsOrderer (GathererRole index) = ⊥
IsOrderer (OrdererRole index) = Unit {0}

-- a replica that is down, with these lists
abbrev pub storing : Member → List Segment → NodeState
storing member segments =
    Storing (record { durable = map (λ (s : Segment). s.entries) segments; mode = Stopped (flight_in segments) (knowledge_of member []) })

-- a state is that of the replica of a role, which is down and has these lists
abbrev pub IsStoring : Shape → Role → List Segment → NodeState → Type 0
IsStoring config (StorageRole shard own) segments state = state ≡ storing (member_of config shard.0 own.0) segments
IsStoring config (GathererRole index) segments state = ⊥
IsStoring config (OrdererRole index) segments state = ⊥

-- an orderer that is down, with the list of its journal
abbrev pub ordering : Journalled → NodeState
ordering journal = Ordering (record { durable = list_of journal; mode = Stopped (put_in_flight journal) [] })
