-- A node as a machine: its rows, and what its inputs and its events mean to those who hand letters on.
use Rattle.std.specs.Prelude.{◌≡◌, ℕ, ◌<◌, List, length, map, if◌then◌else◌, Option, Some, None, slice_get}
use Rattle.history_frame.specs.declared.events.Happened.{Happened}
use Rattle.history_frame.specs.declared.events.Sent.{Sent}
use Rattle.history_frame.specs.declared.inputs.Input.{Input}
use Rattle.history_frame.specs.declared.inputs.Input.TheVariants.{Deliver}
use Rattle.history_frame.specs.Spelling.{event_size}
use Rattle.log_base.specs.ClusterShape.{InRange, Shape}
use Rattle.log_base.specs.Machines.{Letter, Meanings}
use Rattle.message_frame.specs.Spelling.{message_spelling}
use Rattle.node_table.specs.Numbering.{nodes_of, role_at}
use Rattle.node_model.specs.Fits.{Fits}
use Rattle.node_model.specs.GathererRow.{gatherer_role}
use Rattle.node_model.specs.Marks.{begun}
use Rattle.node_model.specs.NodeState.{Gathering, IsRow, KeptLists, NodeState, node_at_first, state_after}
use Rattle.node_model.specs.Ranges.{is_message}
use Rattle.node_model.specs.Sound.{AreSound}

-- a node among the others of its cluster: which one it is, and its state
pub record ClusterNode : Type 0 where
  pub config : Shape
  pub number : ℕ
  pub state : NodeState

-- a node of an empty cluster, which stands for a value that is never made
abbrev pub no_cluster : Shape
no_cluster = record { replicas = 0; shards = 0; orderers = 0; gatherers = 0 }

abbrev pub no_node : ClusterNode
no_node = record { config = no_cluster; number = 0; state = Gathering (begun (gatherer_role no_cluster 0) tt) }

-- a letter as an addressee and bytes
abbrev pub posted : Sent → ℕ × List ℕ
posted sent = (sent.to.0, message_spelling sent.message)

-- The letter that an input delivers. A message whose numbers are out of range has no spelling, so no letter carries it.
abbrev pub delivery : Input → Option Letter
delivery (Deliver place index (Some message)) =
    if is_message message then Some (place, (index, message_spelling message)) else None
delivery _ = None

-- any number
abbrev pub IsAny : ℕ → Type 0
IsAny number = Unit {0}

-- A sound start: the nodes of a cluster, each down, with lists that are sound, whatever the numbers of their entries.
pub record IsSoundStart (nodes : List ClusterNode) : Type 0 where
  pub config : Shape
  pub kept : KeptLists
  pub in_range : InRange config
  pub sound : AreSound config IsAny kept
  pub all : length nodes ≡ nodes_of config
  pub each : (number : ℕ) → number < nodes_of config
      → slice_get nodes number ≡ Some (record { config = config; number = number; state = node_at_first config kept number })

-- the meanings of a node
abbrev pub node_meanings : Meanings ClusterNode Input Happened
node_meanings = record {
  fits = λ node input. Fits node.config (role_at node.config node.number) node.state input;
  input = λ happened. happened.input;
  outputs = λ happened. map posted happened.outputs;
  is_row = λ node happened. IsRow node.config node.number node.state happened;
  after = λ node happened. record node { state = state_after node.config node.number node.state happened };
  delivers = delivery;
  size = event_size;
  is_sound = IsSoundStart;
}
