-- Which histories are legal as far as orderers go: their events follow their rule, and other nodes, which are free,
-- send no message of the orderers.
use Rattle.std.specs.Prelude.{◌≡◌, ℕ, List, [], ◌∷◌, ◌++◌, length, Option, Some, None}
use Rattle.std.specs.List.{AllByRecursion}
use Rattle.history_frame.specs.declared.events.Event.{Event}
use Rattle.history_frame.specs.declared.events.Sent.{Sent}
use Rattle.log_base.specs.ClusterShape.{Shape}
use Rattle.message_frame.specs.declared.messages.Message.{Message}
use Rattle.message_frame.specs.declared.messages.Message.TheVariants.{Prepare, Promised, Lower, Accept, Accepted, Decide}
use Rattle.node_table.specs.declared.role.Role.TheVariants.{Orderer}
use Rattle.paxos_model.specs.Votes.{Payload}
use Rattle.node_model.specs.Fits.{IsInput}
use Rattle.node_model.specs.Histories.{IsDelivered, orderer_after}
use Rattle.node_model.specs.Nodes.{orderer_of}
use Rattle.node_model.specs.OrdererNode.{Outcome}
use Rattle.node_model.specs.OrdererRow.{outcome}

-- an event at orderer i: its input is one that it may take, and its letters and reply are those of the rule
pub record IsOrdererEvent (shape : Shape) (kept : ℕ → List Payload) (before : List Event) (i : ℕ) (event : Event) : Type 0 where
  pub input : IsInput shape (Orderer i) event.happened.input
  pub delivered : IsDelivered before event.node.0 event.happened.input
  pub made : Outcome
  pub rule : outcome shape i (orderer_after shape kept before i) event.happened.input event.happened.mark ≡ Some made
  pub outputs : event.happened.outputs ≡ made.outputs
  pub reply : event.happened.reply ≡ made.reply

-- a letter that is no message of the orderers
abbrev pub IsOther : Message → Type 0
IsOther (Prepare ballot slot) = ⊥
IsOther (Promised ballot slot who votes) = ⊥
IsOther (Lower ballot promise) = ⊥
IsOther (Accept ballot slot value) = ⊥
IsOther (Accepted ballot slot who) = ⊥
IsOther (Decide slot value) = ⊥
IsOther _ = Unit {0}

abbrev pub IsOtherLetter : Sent → Type 0
IsOtherLetter sent = IsOther sent.message

-- what an event has to be, at an orderer or elsewhere
abbrev pub IsEventOf : Shape → (ℕ → List Payload) → List Event → Option ℕ → Event → Type 0
IsEventOf shape kept before None event = AllByRecursion IsOtherLetter event.happened.outputs
IsEventOf shape kept before (Some i) event = IsOrdererEvent shape kept before i event

abbrev pub IsLegalEvent : Shape → (ℕ → List Payload) → List Event → Event → Type 0
IsLegalEvent shape kept before event =
    (event.place ≡ length before) × IsEventOf shape kept before (orderer_of shape event.node.0) event

-- each of some events is legal after those before it
abbrev pub IsLegalAfter : Shape → (ℕ → List Payload) → List Event → List Event → Type 0
IsLegalAfter shape kept before [] = Unit {0}
IsLegalAfter shape kept before (event ∷ events) =
    IsLegalEvent shape kept before event × IsLegalAfter shape kept (before ++ event ∷ []) events

-- the history is legal at its orderers
abbrev pub IsOrdererLegal : Shape → (ℕ → List Payload) → List Event → Type 0
IsOrdererLegal shape kept events = IsLegalAfter shape kept [] events
