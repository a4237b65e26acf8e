-- A walker of the rules: where it stands after the events so far.
use Rattle.std.specs.Prelude.{◌≡◌, ℕ, List, [], ◌∷◌, ◌++◌, length, map}
use Rattle.std.specs.List.{AllByRecursion}
use Rattle.reply_frame.specs.declared.replies.Reply.{Reply}
use Rattle.history_frame.specs.declared.events.Event.{Event}
use Rattle.history_frame.specs.declared.events.Sent.{Sent}
use Rattle.history_frame.specs.declared.inputs.Input.{Input}
use Rattle.history_frame.specs.declared.inputs.Mark.{Mark}
use Rattle.history_frame.specs.Spelling.{IsSent}
use Rattle.log_base.specs.Shape.{shape}
use Rattle.node_model.specs.Histories.{letters_of}
use Rattle.node_model.specs.Legal.{IsLegal, IsNext}
use Rattle.node_model.specs.NodeState.{KeptLists}
use Rattle.history_walk.specs.Beginning.{AreNodes}
use Rattle.history_walk.specs.Filling.{IsOffered, filled_event}
use Rattle.history_walk.specs.Submitting.{AreNoted, MaySubmit}
use Rattle.history_walk.specs.declared.walker.Following.{Following}
use Rattle.history_walk.specs.declared.walker.Following.TheVariants.{Follows, Breaks}
use Rattle.history_walk.specs.declared.walker.Walker.{Walker}

-- These events are legal, and the walker holds the nodes as they are after them, the letters that they sent and what they
-- submitted.
pub record StandsAfter (walker : Walker) (kept : KeptLists) (events : List Event) : Type 0 where
  pub legal : IsLegal (shape walker.config) walker.run kept events
  pub stand : AreNodes (shape walker.config) kept events walker.nodes.items
  pub letters : walker.sent.items ≡ map letters_of events
  pub spelled : AllByRecursion (AllByRecursion IsSent) walker.sent.items
  pub noted : AreNoted walker.submissions events

-- it stands after some events
abbrev pub Stands : Walker → Type 0
Stands walker = (kept : KeptLists) × (events : List Event) × StandsAfter walker kept events

-- What the answer to an event says, which comes after others: the event that was written may come next, or it may not.
abbrev pub IsAnswer : Walker → Walker → KeptLists → List Event → Event → Following → Type 0
IsAnswer old new kept events event Follows =
    IsNext (shape old.config) old.run kept events (filled_event events event) × StandsAfter new kept (events ++ filled_event events event ∷ [])
IsAnswer old new kept events event Breaks = IsNext (shape old.config) old.run kept events (filled_event events event) → ⊥

-- an event of these parts, which comes after others
abbrev pub event_of : List Event → ℕ → Input → Mark → List Sent → Reply → Event
event_of events node input mark outputs reply = record {
  place = length events;
  node = record { 0 = node };
  happened = record { input = input; mark = mark; outputs = outputs; reply = reply };
}

-- the walker stands after these events, and the input may be handed to this node, and submits what may be submitted
pub record MayTake (walker : Walker) (kept : KeptLists) (events : List Event) (node : ℕ) (input : Input) : Type 0 where
  pub stands : StandsAfter walker kept events
  pub offered : IsOffered (shape walker.config) node events input
  pub submits : (mark : Mark) (outputs : List Sent) (reply : Reply) → MaySubmit walker.run events (event_of events node input mark outputs reply)

abbrev pub IsTaken : Walker → Walker → KeptLists → List Event → ℕ → Input → Mark → List Sent → Reply → Following → Type 0
IsTaken old new kept events node input mark outputs reply Follows =
    IsNext (shape old.config) old.run kept events (event_of events node input mark outputs reply)
    × StandsAfter new kept (events ++ event_of events node input mark outputs reply ∷ [])
IsTaken old new kept events node input mark outputs reply Breaks = IsNext (shape old.config) old.run kept events (event_of events node input mark outputs reply) → ⊥
