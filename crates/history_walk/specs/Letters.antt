-- Letters that were sent, by the events that sent them.
use Rattle.std.specs.Prelude.{◌≡◌, ℕ, List, Some, slice_get}
use Rattle.history_frame.specs.declared.events.Sent.{Sent}
use Rattle.message_frame.specs.declared.messages.Message.{Message}
use Rattle.node_model.specs.Nodes.{letter}

-- the output with this index of the event at this place is this message to the node
pub record IsLetterAt (sent : List (List Sent)) (node place index : ℕ) (message : Message) : Type 0 where
  pub outputs : List Sent
  pub at : slice_get sent place ≡ Some outputs
  pub is : slice_get outputs index ≡ Some (letter node message)
