-- The history that written events stand for: the message of a letter is not written, and is that of the output that the
-- letter names. Where it names no output of an earlier event, it has none.
use Rattle.std.specs.Prelude.{◌≡◌, ℕ, List, [], ◌∷◌, ◌++◌, Option, Some, None, slice_get}
use Rattle.history_frame.specs.declared.events.Event.{Event}
use Rattle.history_frame.specs.declared.events.Sent.{Sent}
use Rattle.history_frame.specs.declared.inputs.Input.{Input}
use Rattle.history_frame.specs.declared.inputs.Input.TheVariants.{Deliver, Call as ACall, Tick, Lead, Stop, Restart}
use Rattle.log_base.specs.ClusterShape.{Shape}
use Rattle.message_frame.specs.declared.messages.Message.{Message}
use Rattle.node_table.specs.Numbering.{role_at}
use Rattle.node_model.specs.Fits.{IsInput}
use Rattle.node_model.specs.Histories.{IsDelivered}
use Rattle.history_walk.specs.declared.walker.Following.{Following}
use Rattle.history_walk.specs.declared.walker.Following.TheVariants.{Follows, Breaks}

-- the outputs of an event that may not be there, and the message of an output that may not be
abbrev pub outputs_in : Option Event → List Sent
outputs_in None = []
outputs_in (Some event) = event.happened.outputs

abbrev pub message_in : Option Sent → Option Message
message_in None = None
message_in (Some sent) = Some sent.message

-- the message of the output with this index of the event at this place
abbrev pub named_message : List Event → ℕ → ℕ → Option Message
named_message before place index = message_in (slice_get (outputs_in (slice_get before place)) index)

abbrev pub filled_input : List Event → Input → Input
filled_input before (Deliver place index message) = Deliver place index (named_message before place index)
filled_input before (ACall call) = ACall call
filled_input before Tick = Tick
filled_input before Lead = Lead
filled_input before Stop = Stop
filled_input before Restart = Restart

abbrev pub filled_event : List Event → Event → Event
filled_event before event = record event { happened = record event.happened { input = filled_input before event.happened.input } }

-- the events that written ones stand for, which come after others
abbrev pub filled : List Event → List Event → List Event
filled before [] = []
filled before (event ∷ events) = filled_event before event ∷ filled (before ++ event ∷ []) events

-- An input may be handed to a node after events: a letter was sent to it, and any other input is one of its role.
abbrev pub IsOffered : Shape → ℕ → List Event → Input → Type 0
IsOffered config node before (Deliver place index message) = IsDelivered before node (Deliver place index message)
IsOffered config node before (ACall call) = IsInput config (role_at config node) (ACall call)
IsOffered config node before Tick = IsInput config (role_at config node) Tick
IsOffered config node before Lead = IsInput config (role_at config node) Lead
IsOffered config node before Stop = IsInput config (role_at config node) Stop
IsOffered config node before Restart = IsInput config (role_at config node) Restart

-- the input that a written one stands for was found, where it may be handed to the node
abbrev pub IsFilled : Shape → ℕ → List Event → Input → Option Input → Type 0
IsFilled config node before input None = IsOffered config node before (filled_input before input) → ⊥
IsFilled config node before input (Some found) = (found ≡ filled_input before input) × IsOffered config node before found

-- what was found, where it is put in the place of the written input
abbrev pub filling : Following → Input → Option Input
filling Follows input = Some input
filling Breaks input = None
