-- The nodes of a cluster, each by its role: what it is at first, what an event makes of it, and what stands after its
-- events.
use Rattle.std.specs.Prelude.{◌≡◌, ℕ, zero, suc, List, [], ◌∷◌, Option, Some, None}
use Rattle.reply_frame.specs.declared.replies.Reply.{Reply}
use Rattle.history_frame.specs.declared.events.Event.{Event}
use Rattle.history_frame.specs.declared.events.Happened.{Happened}
use Rattle.history_frame.specs.declared.events.Sent.{Sent}
use Rattle.history_frame.specs.declared.inputs.Input.{Input}
use Rattle.history_frame.specs.declared.inputs.Mark.{Mark}
use Rattle.log_base.specs.ClusterShape.{Shape}
use Rattle.log_model.specs.Storage.{entries_in}
use Rattle.node_table.specs.declared.role.Role.{Role}
use Rattle.node_table.specs.declared.role.Role.TheVariants.{Storage, Gatherer, Orderer}
use Rattle.node_table.specs.Numbering.{disk_of, orderer_node, role_at}
use Rattle.paxos_model.specs.Payloads.{payloads_in}
use Rattle.paxos_model.specs.Votes.{Payload}
use Rattle.record_frame.specs.declared.entries.Entry.{Entry}
use Rattle.node_model.specs.GathererRow.{GathererNode, gatherer_role, outcome as gatherer_outcome}
use Rattle.node_model.specs.Histories.{events_at}
use Rattle.node_model.specs.Marks.{NodeOf, OutcomeOf, begun}
use Rattle.node_model.specs.OrdererNode.{Node, at_first}
use Rattle.node_model.specs.OrdererRow.{outcome as orderer_outcome}
use Rattle.node_model.specs.StorageNode.{StorageNode, member_of}
use Rattle.node_model.specs.StorageRow.{storage_role, outcome as storage_outcome}

pub data NodeState : Type 0 where
  Storing : (node : StorageNode) → NodeState
  Gathering : (node : GathererNode) → NodeState
  Ordering : (node : Node) → NodeState

-- what an event makes of a node of any role
pub record NodeOutcome : Type 0 where
  pub state : NodeState
  pub outputs : List Sent
  pub reply : Reply

abbrev pub as_outcome : {D P K M : Type 0} → (NodeOf D P K M → NodeState) → Option (OutcomeOf D P K M) → Option NodeOutcome
as_outcome state None = None
as_outcome state (Some made) = Some (record { state = state made.node; outputs = made.outputs; reply = made.reply })

-- the payloads that each disk kept, by its number
abbrev pub KeptLists : Type 0
KeptLists = ℕ → List (List ℕ)

-- the lists of entries of so many segments of a storage node, from one on
abbrev pub segments_kept : KeptLists → ℕ → ℕ → ℕ → List (List Entry)
segments_kept kept node segment zero = []
segments_kept kept node segment (suc count) = entries_in (kept (disk_of node segment)) ∷ segments_kept kept node (suc segment) count

-- a node at first, with what its disks kept: it is down
abbrev pub begun_as : Shape → KeptLists → ℕ → Role → NodeState
begun_as config kept node (Storage shard replica) =
    Storing (begun (storage_role config (member_of config shard.0 replica.0)) (segments_kept kept node 0 config.replicas))
begun_as config kept node (Gatherer index) = Gathering (begun (gatherer_role config index) tt)
begun_as config kept node (Orderer index) = Ordering (at_first (payloads_in (kept (disk_of node 0))))

abbrev pub node_at_first : Shape → KeptLists → ℕ → NodeState
node_at_first config kept node = begun_as config kept node (role_at config node)

-- what the disks of the orderers kept
abbrev pub orderers_kept : Shape → KeptLists → ℕ → List Payload
orderers_kept config kept i = payloads_in (kept (disk_of (orderer_node config i) 0))

-- what an event makes of a node, by its role
abbrev pub outcome_as : Shape → Role → NodeState → Input → Mark → Option NodeOutcome
outcome_as config (Storage shard replica) (Storing node) input mark =
    as_outcome Storing (storage_outcome config (member_of config shard.0 replica.0) node input mark)
outcome_as config (Gatherer index) (Gathering node) input mark = as_outcome Gathering (gatherer_outcome config index node input mark)
outcome_as config (Orderer index) (Ordering node) input mark = as_outcome Ordering (orderer_outcome config index node input mark)
outcome_as config _ _ input mark = None

abbrev pub node_outcome : Shape → ℕ → NodeState → Input → Mark → Option NodeOutcome
node_outcome config node state input mark = outcome_as config (role_at config node) state input mark

-- the state that an outcome leaves; an event that no rule allows leaves it as it was
abbrev pub state_or : NodeState → Option NodeOutcome → NodeState
state_or state None = state
state_or state (Some made) = made.state

-- a node after something happened, and after events
abbrev pub state_after : Shape → ℕ → NodeState → Happened → NodeState
state_after config node state happened = state_or state (node_outcome config node state happened.input happened.mark)

abbrev pub states_after : Shape → ℕ → NodeState → List Event → NodeState
states_after config node state [] = state
states_after config node state (event ∷ events) = states_after config node (state_after config node state event.happened) events

-- a node after the events of a history, from what its disks kept
abbrev pub node_after : Shape → KeptLists → List Event → ℕ → NodeState
node_after config kept events node = states_after config node (node_at_first config kept node) (events_at node events)

-- A row of the rules: the letters and the reply are those for the state, the input and the mark, which can be.
pub record IsRow (config : Shape) (node : ℕ) (state : NodeState) (happened : Happened) : Type 0 where
  pub made : NodeOutcome
  pub rule : node_outcome config node state happened.input happened.mark ≡ Some made
  pub outputs : happened.outputs ≡ made.outputs
  pub reply : happened.reply ≡ made.reply
