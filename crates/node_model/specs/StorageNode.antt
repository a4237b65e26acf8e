-- A storage node: a replica of a shard. It stores a list of entries for each segment of the shard.
use Rattle.std.specs.Prelude.{ℕ, List, []}
use Rattle.log_base.specs.ClusterShape.{Shape}
use Rattle.log_model.specs.Storage.{Member, Knowledge, knowledge_of}
use Rattle.peer_copy.specs.Copying.{Copying, fresh as no_acks}
use Rattle.record_frame.specs.declared.entries.Entry.{Entry}
use Rattle.node_model.specs.Marks.{ChangeOf, Mode, NodeOf, OutcomeOf}

-- what a running replica holds: what the known values make known, what its peers acknowledged, and how many ticks it had
pub record Replica : Type 0 where
  pub known : Knowledge
  pub copying : Copying
  pub ticks : ℕ

-- an entry that is put at the end of the list of a segment
pub record Put : Type 0 where
  pub segment : ℕ
  pub entry : Entry

-- which replica it is
abbrev pub member_of : Shape → ℕ → ℕ → Member
member_of config shard replica = record { shard = shard; own = replica; replicas = config.replicas }

-- a replica that has just started knows no value, and nothing is acknowledged
abbrev pub fresh : Member → Replica
fresh member = record { known = knowledge_of member []; copying = no_acks member.replicas member.own; ticks = 0 }

-- its modes, its nodes, its rows and what its events make
abbrev pub StorageMode : Type 0
StorageMode = Mode Put Knowledge Replica

abbrev pub StorageNode : Type 0
StorageNode = NodeOf (List (List Entry)) Put Knowledge Replica

abbrev pub StorageChange : Type 0
StorageChange = ChangeOf Put Replica

abbrev pub StorageOutcome : Type 0
StorageOutcome = OutcomeOf (List (List Entry)) Put Knowledge Replica
