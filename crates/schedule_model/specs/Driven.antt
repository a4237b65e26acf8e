-- Histories that follow the schedule of a run.
use Rattle.std.specs.Prelude.{◌≡◌, ℕ, List, [], ◌∷◌, Option, Some, None}
use Rattle.log_base.specs.ClusterShape.{Shape}
use Rattle.command_frame.specs.declared.items.Item.{Item}
use Rattle.reply_frame.specs.declared.replies.Reply.{Reply}
use Rattle.history_frame.specs.declared.events.Event.{Event}
use Rattle.schedule_model.specs.declared.duties.Planned.{Planned}
use Rattle.schedule_model.specs.declared.turns.Turn.{Turn}
use Rattle.schedule_model.specs.Scheduling.{Scheduled, at_first, given, next_plans, next_turn, noted, ready}

-- the turn that an event is
abbrev pub turn_of : Event → Turn
turn_of event = record { node = event.node; input = event.happened.input }

-- the schedule after an event, and after events
abbrev pub after_event : Scheduled → Event → Scheduled
after_event s event = noted (given s) event.happened.outputs event.happened.reply

abbrev pub after_events : Scheduled → List Event → Scheduled
after_events s [] = s
after_events s (event ∷ events) = after_events (after_event s event) events

-- each event is the turn that comes next after those before it
abbrev pub Follow : Scheduled → List Event → Type 0
Follow s [] = Unit {0}
Follow s (event ∷ events) = (next_turn s ≡ Some (turn_of event)) × Follow (after_event s event) events

-- ---- a run of items

-- the schedule of a run after events
abbrev pub scheduled_after : Shape → ℕ → List Item → List Event → Scheduled
scheduled_after config run items events = after_events (at_first config run items) events

-- the node and the input that come next after events; none, where the run is over
abbrev pub next_turn_after : Shape → ℕ → List Item → List Event → Option Turn
next_turn_after config run items events = next_turn (scheduled_after config run items events)

-- what disks are told then, before that turn or at the end
abbrev pub next_plans_after : Shape → ℕ → List Item → List Event → List Planned
next_plans_after config run items events = next_plans (scheduled_after config run items events)

-- events follow the schedule of a run
abbrev pub IsFollowed : Shape → ℕ → List Item → List Event → Type 0
IsFollowed config run items events = Follow (at_first config run items) events

-- events are driven by the items: they follow the schedule to its end
pub record IsDriven (config : Shape) (run : ℕ) (items : List Item) (events : List Event) : Type 0 where
  pub followed : IsFollowed config run items events
  pub over : next_turn_after config run items events ≡ None

-- the replies to the items, as far as they are done
abbrev pub replies_of : Shape → ℕ → List Item → List Event → List Reply
replies_of config run items events = (ready (scheduled_after config run items events)).replies
