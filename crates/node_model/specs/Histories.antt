-- Histories: the events at a node, the letters that were sent, and the state of an orderer after its events.
use Rattle.std.specs.Prelude.{◌≡◌, ℕ, List, [], ◌∷◌, ◌++◌, Bool, ◌==◌, nat_lt, if◌then◌else◌, Some, None, slice_get}
use Rattle.std.specs.List.{filter}
use Rattle.history_frame.specs.declared.events.Event.{Event}
use Rattle.history_frame.specs.declared.events.Sent.{Sent}
use Rattle.history_frame.specs.declared.inputs.Input.{Input}
use Rattle.history_frame.specs.declared.inputs.Input.TheVariants.{Deliver, Call as ACall, Tick, Lead, Stop, Restart}
use Rattle.log_base.specs.ClusterShape.{Shape}
use Rattle.message_frame.specs.declared.messages.Message.{Message}
use Rattle.node_table.specs.Numbering.{orderer_node}
use Rattle.paxos_model.specs.Votes.{Payload}
use Rattle.node_model.specs.Marks.{node_or}
use Rattle.node_model.specs.Nodes.{letter}
use Rattle.node_model.specs.OrdererNode.{Node, at_first}
use Rattle.node_model.specs.OrdererRow.{outcome}

-- whether an event is at a node, and the events there
abbrev pub is_at : ℕ → Event → Bool
is_at node event = event.node.0 == node

abbrev pub events_at : ℕ → List Event → List Event
events_at node events = filter (is_at node) events

-- all letters that were sent
abbrev pub letters_of : Event → List Sent
letters_of event = event.happened.outputs

abbrev pub sent_in : List Event → List Sent
sent_in [] = []
sent_in (event ∷ events) = letters_of event ++ sent_in events

-- A letter that is delivered was sent to this node: it is the output that is named, of an earlier event.
pub record IsSent (before : List Event) (node place index : ℕ) (message : Message) : Type 0 where
  pub event : Event
  pub at : slice_get before place ≡ Some event
  pub output : slice_get event.happened.outputs index ≡ Some (letter node message)

-- a letter, if the input is one, was sent to the node before
abbrev pub IsDelivered : List Event → ℕ → Input → Type 0
IsDelivered before node (Deliver place index None) = ⊥
IsDelivered before node (Deliver place index (Some message)) = IsSent before node place index message
IsDelivered before node (ACall call) = Unit {0}
IsDelivered before node Tick = Unit {0}
IsDelivered before node Lead = Unit {0}
IsDelivered before node Stop = Unit {0}
IsDelivered before node Restart = Unit {0}

-- an orderer after an event, and after events
abbrev pub after_event : Shape → ℕ → Node → Event → Node
after_event shape i node event = node_or node (outcome shape i node event.happened.input event.happened.mark)

abbrev pub after_events : Shape → ℕ → Node → List Event → Node
after_events shape i node [] = node
after_events shape i node (event ∷ events) = after_events shape i (after_event shape i node event) events

-- what the disks of the orderers kept; there are no lists past the last orderer
abbrev pub kept_list : Shape → (ℕ → List Payload) → ℕ → List Payload
kept_list shape kept i = if nat_lt i shape.orderers then kept i else []

-- orderer i after events, from a node that is down with its kept list
abbrev pub orderer_after : Shape → (ℕ → List Payload) → List Event → ℕ → Node
orderer_after shape kept events i =
    if nat_lt i shape.orderers then after_events shape i (at_first (kept i)) (events_at (orderer_node shape i) events)
    else at_first []

-- the durable lists of the orderers
abbrev pub durable_after : Shape → (ℕ → List Payload) → List Event → ℕ → List Payload
durable_after shape kept events i = (orderer_after shape kept events i).durable
