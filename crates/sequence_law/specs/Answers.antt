-- What is so where a client was answered.
use Rattle.std.specs.Prelude.{◌≡◌, ℕ, ◌<◌, ◌≤◌, List, ◌∷◌, ◌++◌, length, Some, slice_get}
use Rattle.reply_frame.specs.declared.replies.Reply.{At, Finalised, FinalisedAt, Found, PendingAsk, PendingRead, PendingWish}
use Rattle.history_frame.specs.declared.events.Event.{Event}
use Rattle.history_frame.specs.declared.inputs.Call.TheVariants.{Ask, Read, Settled}
use Rattle.history_frame.specs.declared.inputs.Input.{Input}
use Rattle.history_frame.specs.declared.inputs.Input.TheVariants.{Call as ACall}
use Rattle.log_base.specs.ClusterShape.{Shape}
use Rattle.log_model.specs.Storage.{covered_length_of, list_in}
use Rattle.node_table.specs.Numbering.{orderer_node, storage_node}
use Rattle.record_frame.specs.declared.entries.Entry.{Entry}
use Rattle.record_frame.specs.declared.values.Value.{Value}
use Rattle.node_model.specs.Marks.{Running}
use Rattle.node_model.specs.NodeState.{KeptLists, Ordering, Storing, node_after}
use Rattle.node_model.specs.OrdererNode.{Node, Orderer}
use Rattle.node_model.specs.Sequence.{HasSeen, caller, sequence}
use Rattle.node_model.specs.StorageNode.{Replica, StorageNode, member_of}
use Rattle.agreement_law.specs.Elements.{In}
use Rattle.sequence_law.specs.Pairs.{IsPair, IsUpToFirst, Stands, Submits}

-- an event of a history, after some others
pub record IsAfter (events before : List Event) (event : Event) : Type 0 where
  pub more : List Event
  pub parts : before ++ event ∷ more ≡ events

-- the calls, by their numbers
abbrev pub asks : ℕ → ℕ → Input
asks client number = ACall (Ask (record { 0 = client }) (record { 0 = number }))

abbrev pub reads : ℕ → ℕ → Input
reads client position = ACall (Read (record { 0 = client }) (record { 0 = position }))

abbrev pub asks_settled : ℕ → Value → ℕ → Input
asks_settled client value from = ACall (Settled (record { 0 = client }) value from)

-- an event at a running replica, and what it was before
pub record IsAtReplica (config : Shape) (kept : KeptLists) (before : List Event) (event : Event) (shard replica : ℕ) (node : StorageNode) (memory : Replica) : Type 0 where
  pub shard_below : shard < config.shards
  pub replica_below : replica < config.replicas
  pub here : event.node.0 ≡ storage_node config shard replica
  pub state : node_after config kept before event.node.0 ≡ Storing node
  pub running : node.mode ≡ Running memory

-- an event at a running orderer, and what it was before
pub record IsAtOrderer (config : Shape) (kept : KeptLists) (before : List Event) (event : Event) (i : ℕ) (node : Node) (orderer : Orderer) : Type 0 where
  pub below : i < config.orderers
  pub here : event.node.0 ≡ orderer_node config i
  pub state : node_after config kept before event.node.0 ≡ Ordering node
  pub running : node.mode ≡ Running orderer

-- a client is told that a pair stands at a position
pub record IsAcknowledged (client number position : ℕ) (event : Event) : Type 0 where
  pub asked : event.happened.input ≡ asks client number
  pub told : event.happened.reply ≡ At (record { 0 = position })

-- The pair stands in the sequence at the position and nowhere else, with the bytes that were submitted for it, if it was
-- submitted. Whatever a client, its own or another, had seen before its first submission stands before it.
pub record StandsOnce (config : Shape) (kept : KeptLists) (events : List Event) (client number position : ℕ) : Type 0 where
  pub entry : Entry
  pub stands : Stands config kept events client number position entry
  pub alone : (other : ℕ) (one : Entry) → Stands config kept events client number other one → other ≡ position
  pub bytes : (event : Event) (one : Entry) → In event events → Submits client number event one → one ≡ entry
  pub after : (before : List Event) → IsUpToFirst client number events before → (who seen : ℕ) → HasSeen before who seen → seen < position

-- what is acknowledged stands in the sequence once
abbrev pub AcknowledgedOnce : Shape → KeptLists → List Event → Type 0
AcknowledgedOnce config kept events = (event : Event) (client number position : ℕ) → In event events → IsAcknowledged client number position event
    → StandsOnce config kept events client number position

-- the submission of a pair is refused since its shard is finalised, or who asks for the pair is told so
pub data IsRefused (client number : ℕ) (event : Event) : Type 0 where
  AtSubmission : (entry : Entry) → Submits client number event entry → event.happened.reply ≡ Finalised → IsRefused client number event
  AtQuestion : (frozen : ℕ) → event.happened.input ≡ asks client number → event.happened.reply ≡ FinalisedAt frozen → IsRefused client number event

-- what is refused as finalised stands nowhere in the sequence
abbrev pub RefusedNowhere : Shape → KeptLists → List Event → Type 0
RefusedNowhere config kept events = (event : Event) (client number position : ℕ) (entry : Entry) → In event events → IsRefused client number event
    → Stands config kept events client number position entry → ⊥

-- The entry that was found stands in the sequence at its position, which is at or above the mark that the replica knew.
pub record IsRead (config : Shape) (kept : KeptLists) (events before : List Event) (event : Event) (position : ℕ) (entry : Entry) : Type 0 where
  pub shard : ℕ
  pub replica : ℕ
  pub node : StorageNode
  pub memory : Replica
  pub by : IsAtReplica config kept before event shard replica node memory
  pub above : memory.known.chain.mark ≤ position
  pub stands : slice_get (sequence config kept events) position ≡ Some (Some entry)

abbrev pub ReadsAgree : Shape → KeptLists → List Event → Type 0
ReadsAgree config kept events = (before : List Event) (event : Event) (client position : ℕ) (entry : Entry) → IsAfter events before event
    → caller event.happened.input ≡ Some client → event.happened.reply ≡ Found (record { 0 = position }) entry → IsRead config kept events before event position entry

-- who asks for a pair that waits: what the replica knows covers no place in which it has the pair
pub record IsUncovered (config : Shape) (kept : KeptLists) (before : List Event) (event : Event) (client number : ℕ) : Type 0 where
  pub shard : ℕ
  pub replica : ℕ
  pub node : StorageNode
  pub memory : Replica
  pub by : IsAtReplica config kept before event shard replica node memory
  pub uncovered : (offset : ℕ) (entry : Entry) → slice_get (list_in node.durable replica) offset ≡ Some entry → IsPair client number entry
      → covered_length_of (member_of config shard replica) memory.known ≤ offset

-- who reads a position that waits: it is at or past the end of what the replica knows
pub record IsPastEnd (config : Shape) (kept : KeptLists) (before : List Event) (event : Event) (position : ℕ) : Type 0 where
  pub shard : ℕ
  pub replica : ℕ
  pub node : StorageNode
  pub memory : Replica
  pub by : IsAtReplica config kept before event shard replica node memory
  pub past : length memory.known.places ≤ position

-- who asks for a value that waits: no slot that the orderer knows, from the asked one on, holds it
pub record IsUnsettled (config : Shape) (kept : KeptLists) (before : List Event) (event : Event) (value : Value) (from : ℕ) : Type 0 where
  pub i : ℕ
  pub node : Node
  pub orderer : Orderer
  pub by : IsAtOrderer config kept before event i node orderer
  pub none : (slot : ℕ) → from ≤ slot → slice_get orderer.known slot ≡ Some value → ⊥

-- an answer that something waits comes only where it is not known
pub record PendingIsUnknown (config : Shape) (kept : KeptLists) (events : List Event) : Type 0 where
  pub asked : (before : List Event) (event : Event) (client number covered : ℕ) → IsAfter events before event
      → event.happened.input ≡ asks client number → event.happened.reply ≡ PendingAsk covered
      → IsUncovered config kept before event client number
  pub read : (before : List Event) (event : Event) (client position end : ℕ) → IsAfter events before event
      → event.happened.input ≡ reads client position → event.happened.reply ≡ PendingRead (record { 0 = end })
      → IsPastEnd config kept before event position
  pub wished : (before : List Event) (event : Event) (client from known : ℕ) (value : Value) → IsAfter events before event
      → event.happened.input ≡ asks_settled client value from → event.happened.reply ≡ PendingWish known
      → IsUnsettled config kept before event value from
