-- The one sequence that a history makes: what is decided, the entry at each position, and what a client has seen of it.
use Rattle.std.specs.Prelude.{◌≡◌, ℕ, List, [], map, nat_lt, if◌then◌else◌, Option, Some, None, slice_get}
use Rattle.reply_frame.specs.declared.replies.Reply.{Reply, At, Found}
use Rattle.history_frame.specs.declared.events.Event.{Event}
use Rattle.history_frame.specs.declared.inputs.Call.{Call}
use Rattle.history_frame.specs.declared.inputs.Call.TheVariants.{Submit, Ask, Read, Request, Settled}
use Rattle.history_frame.specs.declared.inputs.Input.{Input}
use Rattle.history_frame.specs.declared.inputs.Input.TheVariants.{Call as ACall}
use Rattle.log_base.specs.ClusterShape.{Shape}
use Rattle.log_base.specs.declared.numbers.Place.{Place}
use Rattle.log_model.specs.Spelling.{spell}
use Rattle.log_model.specs.Storage.{list_in}
use Rattle.node_table.specs.Numbering.{orderer_node, storage_node}
use Rattle.paxos_model.specs.Votes.{Payload}
use Rattle.record_frame.specs.declared.entries.Entry.{Entry}
use Rattle.record_frame.specs.declared.values.Value.{Value}
use Rattle.node_model.specs.Chosen.{IsChosen, decided}
use Rattle.node_model.specs.NodeState.{KeptLists, NodeState, Storing, Gathering, Ordering, node_after}

-- the durable lists of a node that stores entries, and of one that stores promises and votes
abbrev pub lists_of : NodeState → List (List Entry)
lists_of (Storing node) = node.durable
lists_of (Gathering node) = []
lists_of (Ordering node) = []

abbrev pub promises_of : NodeState → List Payload
promises_of (Storing node) = []
promises_of (Gathering node) = []
promises_of (Ordering node) = node.durable

-- the durable list of an orderer after a history; there are no lists past the last orderer
abbrev pub orderer_list : Shape → KeptLists → List Event → ℕ → List Payload
orderer_list config kept events i =
    if nat_lt i config.orderers then promises_of (node_after config kept events (orderer_node config i)) else []

-- the durable list of a segment after a history, at a replica of its shard, and at its primary
abbrev pub segment_list : Shape → KeptLists → List Event → ℕ → ℕ → ℕ → List Entry
segment_list config kept events shard replica segment =
    list_in (lists_of (node_after config kept events (storage_node config shard replica))) segment

abbrev pub primary_list : Shape → KeptLists → List Event → ℕ → ℕ → List Entry
primary_list config kept events shard segment = segment_list config kept events shard segment segment

-- a value is chosen for a slot
abbrev pub IsChosenBy : Shape → KeptLists → List Event → ℕ → Value → Type 0
IsChosenBy config kept events slot value = IsChosen config.orderers (orderer_list config kept events) slot value

-- the values that a history decided
abbrev pub decided_by : Shape → KeptLists → List Event → List Value
decided_by config kept events = decided config.orderers (orderer_list config kept events)

-- the entry at a place
abbrev pub entry_at_place : Shape → KeptLists → List Event → Place → Option Entry
entry_at_place config kept events place =
    slice_get (primary_list config kept events place.shard.0 place.segment.0) place.offset

-- the sequence: the entry at each place that the decided values spell, where its primary has one
unfoldable pub sequence : Shape → KeptLists → List Event → List (Option Entry)
sequence config kept events =
    map (entry_at_place config kept events) (spell config.replicas (decided_by config kept events))

-- the client that calls
abbrev pub client_of : Call → ℕ
client_of (Submit client number bytes) = client.0
client_of (Ask client number) = client.0
client_of (Read client position) = client.0
client_of (Request client value) = client.0
client_of (Settled client value from) = client.0

abbrev pub caller : Input → Option ℕ
caller (ACall call) = Some (client_of call)
caller _ = None

-- the position that a reply tells
abbrev pub position_told : Reply → Option ℕ
position_told (At position) = Some position.0
position_told (Found position entry) = Some position.0
position_told _ = None

-- a client is told of a position
pub record IsTold (client position : ℕ) (event : Event) : Type 0 where
  pub called : caller event.happened.input ≡ Some client
  pub told : position_told event.happened.reply ≡ Some position

-- a client has seen a position in some events
pub record HasSeen (events : List Event) (client position : ℕ) : Type 0 where
  pub place : ℕ
  pub event : Event
  pub at : slice_get events place ≡ Some event
  pub is_told : IsTold client position event
