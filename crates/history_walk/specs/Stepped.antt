-- What one node of a cluster made of an input, after events.
use Rattle.std.specs.Prelude.{◌≡◌, ℕ, List, [], ◌∷◌, ◌++◌, map, Some}
use Rattle.history_frame.specs.declared.events.Event.{Event}
use Rattle.history_frame.specs.declared.events.Happened.{Happened}
use Rattle.history_frame.specs.declared.inputs.Input.{Input}
use Rattle.history_frame.specs.declared.inputs.Mark.{Mark}
use Rattle.log_base.specs.ClusterShape.{Shape}
use Rattle.node_model.specs.Legal.{IsLegal}
use Rattle.node_model.specs.Machine.{posted}
use Rattle.node_model.specs.NodeState.{IsRow, KeptLists, NodeOutcome, node_after, node_outcome}
use Rattle.history_walk.specs.Beginning.{AreNodes, MemoryNode}
use Rattle.history_walk.specs.Filling.{IsOffered}

-- The nodes are those after legal events, and the input may be handed to this one.
pub record MayStep (config : Shape) (run : ℕ) (kept : KeptLists) (events : List Event) (nodes : List MemoryNode) (node : ℕ) (input : Input) : Type 0 where
  pub legal : IsLegal config run kept events
  pub stand : AreNodes config kept events nodes
  pub offered : IsOffered config node events input

-- It made a row of the rules, with the mark that was asked for where a row has that, and the nodes are those after it.
pub record HasStepped (config : Shape) (kept : KeptLists) (events : List Event) (node : ℕ) (input : Input) (mark : Mark) (made : Happened) (letters : List (ℕ × List ℕ)) (nodes : List MemoryNode) : Type 0 where
  pub input_is : made.input ≡ input
  pub row : IsRow config node (node_after config kept events node) made
  pub marked : (other : NodeOutcome) → node_outcome config node (node_after config kept events node) input mark ≡ Some other → made.mark ≡ mark
  pub letters_are : letters ≡ map posted made.outputs
  pub stand : (event : Event) → event.node.0 ≡ node → event.happened.input ≡ made.input → event.happened.mark ≡ made.mark → AreNodes config kept (events ++ event ∷ []) nodes
