-- The opening of a cluster: each node starts, in order, and then orderer 0 is ordered to lead.
use Rattle.std.specs.Prelude.{◌≡◌, ℕ, zero, suc, List, [], ◌∷◌, ◌++◌, map}
use Rattle.counted_node.specs.Counted.{CountedState, counted_meanings}
use Rattle.history_frame.specs.declared.events.Happened.{Happened}
use Rattle.history_frame.specs.declared.inputs.Input.{Input}
use Rattle.history_frame.specs.declared.inputs.Input.TheVariants.{Lead, Restart}
use Rattle.log_base.specs.ClusterShape.{Shape}
use Rattle.log_base.specs.Machines.{Event, IsLegal}
use Rattle.log_base.specs.declared.numbers.NodeId.{NodeId}
use Rattle.node_table.specs.Numbering.{nodes_of, orderer_node}
use Rattle.atomic_table.specs.Seated.{TableId}
use Rattle.tied_cells.specs.Opening.{ArePasses, asked_by, owns_from}
use Rattle.tied_cells.specs.declared.account.Account.{Account}
use Rattle.tied_cells.specs.declared.board.Deal.{Deal}
use Rattle.cluster.specs.Clusters.{PassSeat}

-- so many nodes start, from one on
abbrev pub restarts_from : ℕ → ℕ → List (NodeId × Input)
restarts_from node zero = []
restarts_from node (suc count) = (record { 0 = node }, Restart) ∷ restarts_from (suc node) count

-- the inputs of the opening, each with its node
abbrev pub opening : Shape → List (NodeId × Input)
opening config = restarts_from 0 (nodes_of config) ++ (record { 0 = orderer_node config 0 }, Lead) ∷ []

-- how many bytes the events of the opening count with
abbrev pub opening_room : ℕ
opening_room = 10000

-- The passes that a cluster is begun with, in order of their numbers: each is new, and the last has the events of the opening.
pub record AreHandedOut {A : Type 0} (config : Shape) (deal : Deal CountedState) (table : TableId) (room : ℕ) (passes : List (PassSeat A × Account)) : Type 0 where
  pub log : List (Event Happened)
  pub asked : map (asked_by counted_meanings) log ≡ opening config
  pub legal : IsLegal counted_meanings deal.starts log
  pub passes_are : ArePasses table deal (owns_from 0 log) opening_room room passes
