-- What the nodes of a cluster begin with, and what its passes keep true.
use Rattle.std.specs.Prelude.{◌≡◌, ℕ, ◌<◌, List, length, map, slice_get, Some}
use Rattle.answer_law.specs.Frames.{FitsFrame}
use Rattle.atomic_table.specs.Seated.{TableId}
use Rattle.atomic_table.specs.declared.shared.Seat.{Seat}
use Rattle.counted_node.specs.Counted.{CountedState, node_in}
use Rattle.history_frame.specs.declared.events.Happened.{Happened}
use Rattle.log_base.specs.ClusterShape.{Shape}
use Rattle.node_model.specs.Machine.{ClusterNode}
use Rattle.node_model.specs.NodeState.{KeptLists, node_at_first}
use Rattle.node_model.specs.Sound.{IsSound}
use Rattle.node_table.specs.Numbering.{nodes_of}
use Rattle.tied_cells.specs.declared.board.Own.{Own}
use Rattle.tied_cells.specs.declared.board.Stored.{Stored}
use Rattle.tied_cells.specs.declared.board.View.{View}
use Rattle.tied_cells.specs.Turns.{HoldsNothing}
use Rattle.cluster.specs.Submitting.{SubmitsAlone}

-- a node of a cluster as its run begins: it is down, with what its disks kept
abbrev pub first_node : Shape → KeptLists → ℕ → ClusterNode
first_node config kept number = record { config = config; number = number; state = node_at_first config kept number }

-- the nodes of a cluster as its run begins, in order of their numbers
pub record AreFirst (config : Shape) (kept : KeptLists) (nodes : List ClusterNode) : Type 0 where
  pub all : length nodes ≡ nodes_of config
  pub each : (number : ℕ) → number < nodes_of config → slice_get nodes number ≡ Some (first_node config kept number)

-- What a cluster was begun with: sound lists on its disks, and its nodes down with them.
pub record IsBegun (config : Shape) (run : ℕ) (kept : KeptLists) (starts : List ClusterNode) : Type 0 where
  pub sound : IsSound config run kept
  pub first : AreFirst config kept starts

-- what a pass knows, and the seat that it has
abbrev pub PassView : Type 0
PassView = View CountedState Happened

abbrev pub PassSeat : Type 0 → Type 0
PassSeat A = Seat (Stored A Happened) PassView

-- each event fits a frame
abbrev pub AllFit : List (Own Happened) → Type 0
AllFit own = (k : ℕ) (event : Own Happened) → slice_get own k ≡ Some event → FitsFrame event.happened

-- A pass of a cluster between its calls: it has this number and is of these cells, which began with the cluster's nodes, it
-- has no turn, it submitted under its number alone, and its events fit their frames.
pub record IsPassOf {A : Type 0} (config : Shape) (run : ℕ) (kept : KeptLists) (table : TableId) (number : ℕ) (seat : PassSeat A) : Type 0 where
  pub table_is : seat.table_id ≡ table
  pub number_is : seat.me.0.number ≡ number
  pub first : AreFirst config kept (map node_in seat.me.0.deal.starts)
  pub free : HoldsNothing seat.me
  pub submits : SubmitsAlone run number seat.me.0.own
  pub fit : AllFit seat.me.0.own
