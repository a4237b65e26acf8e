-- What the laws say of a history and of a cluster of nodes.
use Rattle.std.specs.Prelude.{◌≡◌, ◌≢◌, ℕ, ◌<◌, ◌≤◌, List, length, Some, None, slice_get, slice_index, slice_index_or, ◌+◌, ◌*◌}
use Rattle.aggregator.specs.Hearing.{Hearing}
use Rattle.history_frame.specs.declared.events.Event.{Event}
use Rattle.history_frame.specs.declared.inputs.Input.TheVariants.{Deliver}
use Rattle.log_base.specs.ClusterShape.{Shape}
use Rattle.log_base.specs.Machines.{Event as MachineEvent, IsLegal as AreRows, IsOutput, of_node, state_after}
use Rattle.history_frame.specs.declared.events.Happened.{Happened}
use Rattle.log_model.specs.Chain.{chain_of, covered_of}
use Rattle.log_model.specs.Storage.{HoldsCovered, Knowledge, knowledge_of}
use Rattle.message_frame.specs.declared.messages.Message.{Message}
use Rattle.message_frame.specs.declared.messages.Vote.{Vote}
use Rattle.message_frame.specs.Spelling.{IsMessage, message_spelling}
use Rattle.node_table.specs.Numbering.{gatherer_node, orderer_node, role_at, storage_node}
use Rattle.record_frame.specs.declared.entries.Entry.{Entry}
use Rattle.record_frame.specs.declared.values.Lengths.{Lengths}
use Rattle.record_frame.specs.declared.values.Value.{Value}
use Rattle.node_model.specs.Fits.{Fits, IsMessageOf}
use Rattle.node_model.specs.GathererRow.{GathererNode}
use Rattle.node_model.specs.Histories.{sent_in}
use Rattle.node_model.specs.Machine.{ClusterNode, IsSoundStart, node_meanings}
use Rattle.node_model.specs.Marks.{Running, Stopped, known_in}
use Rattle.node_model.specs.Messages.{accept_message, copied_message, copy_message, decide_message, least_message, promised_message, report_message}
use Rattle.node_model.specs.Nodes.{letter}
use Rattle.node_model.specs.NodeState.{Gathering, KeptLists, Ordering, Storing, node_after}
use Rattle.node_model.specs.OrdererNode.{Node, known_of}
use Rattle.node_model.specs.Sequence.{decided_by, primary_list, segment_list}
use Rattle.node_model.specs.StorageNode.{Put, Replica, StorageNode, member_of}
use Rattle.node_model.specs.StorageRow.{storage_role}
use Rattle.agreement_law.specs.Elements.{In, IsPrefix}
use Rattle.agreement_law.specs.Fine.{IsFineNode}
use Rattle.safety_law.specs.Fit.{IsPut}
use Rattle.safety_law.specs.Letters.{AreHeldBy, IsTrueLeast}
use Rattle.safety_law.specs.Lists.{IsHeldValue, IsSafeValue, IsSegment, Lists, lists_at}

-- a message was sent to a node
abbrev pub IsSentTo : List Event → ℕ → Message → Type 0
IsSentTo events node message = In (letter node message) (sent_in events)

-- the lists of entries after a history
abbrev pub lists_after : Shape → KeptLists → List Event → Lists
lists_after config kept events = lists_at config (node_after config kept events)

-- A copy is a prefix of its primary's list, and an entry that was ever sent as a copy stands at its offset there.
pub record CopiesAgree (config : Shape) (kept : KeptLists) (events : List Event) : Type 0 where
  pub prefix : (shard replica segment : ℕ) → IsSegment config shard replica segment
      → IsPrefix (segment_list config kept events shard replica segment) (primary_list config kept events shard segment)
  pub stands : (shard replica segment offset : ℕ) (entry : Entry) → shard < config.shards → replica < config.replicas
      → IsSentTo events (storage_node config shard replica) (copy_message segment offset entry)
      → slice_get (primary_list config kept events shard segment) offset ≡ Some entry

-- Lengths that were ever reported or acknowledged, and what nodes noted of them, are held by the replica that they speak of.
pub record LengthsAreHeld (config : Shape) (kept : KeptLists) (events : List Event) : Type 0 where
  pub reported : (node shard replica : ℕ) (lengths : Lengths) → IsSentTo events node (report_message shard replica lengths)
      → AreHeldBy config (lists_after config kept events) shard replica lengths
  pub acknowledged : (shard primary peer held : ℕ) → shard < config.shards → primary < config.replicas
      → IsSentTo events (storage_node config shard primary) (copied_message peer held)
      → held ≤ length (segment_list config kept events shard peer primary)
  pub acked : (shard replica : ℕ) (node : StorageNode) (memory : Replica) → shard < config.shards → replica < config.replicas
      → node_after config kept events (storage_node config shard replica) ≡ Storing node → node.mode ≡ Running memory
      → (peer : ℕ) → peer < config.replicas → peer ≢ replica
      → slice_index memory.copying.acked peer ≤ length (segment_list config kept events shard peer replica)
  pub noted : (index : ℕ) (node : GathererNode) (hearing : Hearing) → index < config.gatherers
      → node_after config kept events (gatherer_node config index) ≡ Gathering node → node.mode ≡ Running hearing
      → (shard replica : ℕ) → shard < config.shards → replica < config.replicas → (said : Lengths)
      → slice_index_or hearing.cells (shard * config.replicas + replica) None ≡ Some said
      → AreHeldBy config (lists_after config kept events) shard replica said

-- Lengths of a Least, and of a cut that was ever sent or that an orderer holds in its list, in flight, as known, heard,
-- wished, reported or proposed, are held by every replica.
pub record CutsAreHeld (config : Shape) (kept : KeptLists) (events : List Event) : Type 0 where
  pub leasts : (node shard : ℕ) (lengths : Lengths) → IsSentTo events node (least_message shard lengths)
      → IsTrueLeast config (lists_after config kept events) shard lengths
  pub accepts : (node ballot slot : ℕ) (value : Value) → IsSentTo events node (accept_message ballot slot value)
      → IsHeldValue config (lists_after config kept events) value
  pub decides : (node slot : ℕ) (value : Value) → IsSentTo events node (decide_message slot value)
      → IsHeldValue config (lists_after config kept events) value
  pub promises : (node ballot slot who : ℕ) (votes : List Vote) → IsSentTo events node (promised_message ballot slot who votes)
      → (vote : Vote) → In vote votes → IsHeldValue config (lists_after config kept events) vote.value
  pub orderers : (i : ℕ) (node : Node) → i < config.orderers → node_after config kept events (orderer_node config i) ≡ Ordering node
      → IsFineNode (IsSafeValue config (lists_after config kept events)) node

-- A replica holds all that its known values cover, and what is in flight to it still may be put.
pub record ReplicasHold (config : Shape) (kept : KeptLists) (events : List Event) : Type 0 where
  pub covered : (shard replica : ℕ) (node : StorageNode) → shard < config.shards → replica < config.replicas
      → node_after config kept events (storage_node config shard replica) ≡ Storing node
      → HoldsCovered (member_of config shard replica) node.durable (known_in (storage_role config (member_of config shard replica)) node.mode)
  pub in_flight : (shard replica : ℕ) (node : StorageNode) (put : Put) (known : Knowledge) → shard < config.shards → replica < config.replicas
      → node_after config kept events (storage_node config shard replica) ≡ Storing node → node.mode ≡ Stopped (Some put) known
      → IsPut config (lists_after config kept events) shard replica put

-- Every message that was ever sent has numbers of the formats and of the cluster, so that it has one spelling.
abbrev pub LettersAreSpelled : Shape → List Event → Type 0
LettersAreSpelled config events = (node : ℕ) (message : Message) → IsSentTo events node message → IsMessage message × IsMessageOf config message

-- Every letter that was ever sent fits its addressee as it is now.
abbrev pub LettersFit : Shape → KeptLists → List Event → Type 0
LettersFit config kept events = (node place index : ℕ) (message : Message) → IsSentTo events node message
    → Fits config (role_at config node) (node_after config kept events node) (Deliver place index (Some message))

-- What is decided, and what an orderer knows, covers no more than every replica holds.
pub record DecidedIsHeld (config : Shape) (kept : KeptLists) (events : List Event) : Type 0 where
  pub decided : (shard replica segment : ℕ) → IsSegment config shard replica segment
      → covered_of (chain_of config.replicas (decided_by config kept events)) shard segment ≤ length (segment_list config kept events shard replica segment)
  pub known : (i : ℕ) (node : Node) → i < config.orderers → node_after config kept events (orderer_node config i) ≡ Ordering node
      → (shard replica segment : ℕ) → IsSegment config shard replica segment
      → covered_of (chain_of config.replicas (known_of node.mode)) shard segment ≤ length (segment_list config kept events shard replica segment)

-- A replica knows the beginning of the decided list.
abbrev pub KnownIsDecided : Shape → KeptLists → List Event → Type 0
KnownIsDecided config kept events = (shard replica : ℕ) (node : StorageNode) → shard < config.shards → replica < config.replicas
    → node_after config kept events (storage_node config shard replica) ≡ Storing node
    → (values : List Value) × (known_in (storage_role config (member_of config shard replica)) node.mode ≡ knowledge_of (member_of config shard replica) values)
    × IsPrefix values (decided_by config kept events)
