-- A node among others takes a turn.
use Rattle.std.specs.Prelude.{◌≡◌, ◌≢◌, ℕ, ◌≤◌, List, length, Some, slice_get, slice_set}
use Rattle.history_frame.specs.declared.events.Happened.{Happened}
use Rattle.history_frame.specs.declared.inputs.Input.{Input}
use Rattle.history_frame.specs.declared.inputs.Mark.{Mark}
use Rattle.node_model.specs.Machine.{ClusterNode, node_meanings}
use Rattle.shard_replica.specs.Lists.{Medium}
use Rattle.counted_node.specs.Causes.{HasCause, journals_at, media_at}

-- there is a node of this number, and the input fits it
pub record IsAt (nodes : List ClusterNode) (number : ℕ) (input : Input) : Type 0 where
  pub node : ClusterNode
  pub at : slice_get nodes number ≡ Some node
  pub fits : node_meanings.fits node input

-- The node of this number follows a row of its rules, and the others stay as they were.
pub record TakesTurn (number : ℕ) (input : Input) (happened : Happened) (old new : List ClusterNode) : Type 0 where
  pub node : ClusterNode
  pub at : slice_get old number ≡ Some node
  pub input_is : happened.input ≡ input
  pub row : node_meanings.is_row node happened
  pub few : length happened.outputs ≤ 255
  pub size : node_meanings.size happened ≤ 2097152
  pub after : new ≡ slice_set old number (node_meanings.after node happened)

-- What is told of the journals of this node goes on with the cause of the mark, and of the others it stays.
pub record ShowsMark (number : ℕ) (mark : Mark) (nodes : List ClusterNode) (old new : List (List Medium)) : Type 0 where
  pub node : ClusterNode
  pub at : slice_get nodes number ≡ Some node
  pub here : HasCause (journals_at node.config node.number) mark (media_at old number) (media_at new number)
  pub others : (other : ℕ) → other ≢ number → media_at new other ≡ media_at old other
