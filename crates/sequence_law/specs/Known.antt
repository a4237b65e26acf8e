-- The one list of decided values: what nodes know of it, and which of its entries replicas hold.
use Rattle.std.specs.Prelude.{◌≡◌, ℕ, ◌<◌, ◌≤◌, List, [], ◌++◌, length, Some, slice_get}
use Rattle.history_frame.specs.declared.events.Event.{Event}
use Rattle.log_base.specs.ClusterShape.{Shape}
use Rattle.log_model.specs.Chain.{chain_of, covered_of}
use Rattle.log_model.specs.Spelling.{spell}
use Rattle.log_model.specs.Storage.{Knowledge, Member, knowledge_of}
use Rattle.node_table.specs.Numbering.{orderer_node, storage_node}
use Rattle.record_frame.specs.declared.entries.Entry.{Entry}
use Rattle.record_frame.specs.declared.values.Value.{Value}
use Rattle.node_model.specs.Marks.{known_in}
use Rattle.node_model.specs.NodeState.{KeptLists, Ordering, Storing, node_after}
use Rattle.node_model.specs.OrdererNode.{Node, known_of}
use Rattle.node_model.specs.Sequence.{IsChosenBy, decided_by, segment_list, sequence}
use Rattle.node_model.specs.StorageNode.{StorageNode, member_of}
use Rattle.node_model.specs.StorageRow.{storage_role}
use Rattle.agreement_law.specs.Elements.{IsPrefix}
use Rattle.safety_law.specs.Lists.{IsSegment}

-- a replica knows what some values make known, which are the beginning of others
pub record KnowsBeginning (member : Member) (decided : List Value) (known : Knowledge) : Type 0 where
  pub values : List Value
  pub beginning : IsPrefix values decided
  pub knows : known ≡ knowledge_of member values

-- what each node knows, up or down, is the beginning of the decided list
pub record DecidedIsKnown (config : Shape) (kept : KeptLists) (events : List Event) : Type 0 where
  pub storage : (shard replica : ℕ) (node : StorageNode) → shard < config.shards → replica < config.replicas
      → node_after config kept events (storage_node config shard replica) ≡ Storing node
      → KnowsBeginning (member_of config shard replica) (decided_by config kept events)
      (known_in (storage_role config (member_of config shard replica)) node.mode)
  pub orderers : (i : ℕ) (node : Node) → i < config.orderers → node_after config kept events (orderer_node config i) ≡ Ordering node
      → IsPrefix (known_of node.mode) (decided_by config kept events)

-- At most one value is chosen for a slot. At each moment the decided list is the beginning of that of the whole history, and
-- what each node knows is the beginning of it.
pub record OneDecidedList (config : Shape) (kept : KeptLists) (events : List Event) : Type 0 where
  pub one_value : (slot : ℕ) (one other : Value) → IsChosenBy config kept events slot one → IsChosenBy config kept events slot other → one ≡ other
  pub stays : (before more : List Event) → before ++ more ≡ events → IsPrefix (decided_by config kept before) (decided_by config kept events)
  pub known : (before more : List Event) → before ++ more ≡ events → DecidedIsKnown config kept before

-- Every replica holds what the decided values cover of its shard, so each place that they spell has its entry.
pub record DecidedIsHeld (config : Shape) (kept : KeptLists) (events : List Event) : Type 0 where
  pub covered : (shard replica segment : ℕ) → IsSegment config shard replica segment
      → covered_of (chain_of config.replicas (decided_by config kept events)) shard segment
      ≤ length (segment_list config kept events shard replica segment)
  pub entries : (position : ℕ) → position < length (spell config.replicas (decided_by config kept events))
      → (entry : Entry) × (slice_get (sequence config kept events) position ≡ Some (Some entry))

-- The decided list and the sequence of a part of a history are the beginning of those of the whole.
pub record SequenceStays (config : Shape) (kept : KeptLists) (before more : List Event) : Type 0 where
  pub decided : IsPrefix (decided_by config kept before) (decided_by config kept (before ++ more))
  pub sequence_is : IsPrefix (sequence config kept before) (sequence config kept (before ++ more))

-- The decided list and the sequence with which a run begins have those of the history that left its disks at their beginning.
pub record SequenceGoesOn (config : Shape) (kept : KeptLists) (events : List Event) (left : KeptLists) : Type 0 where
  pub decided : IsPrefix (decided_by config kept events) (decided_by config left [])
  pub sequence_is : IsPrefix (sequence config kept events) (sequence config left [])
