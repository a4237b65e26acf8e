-- The events of several nodes, put in order of place.
use Rattle.std.specs.Prelude.{◌≡◌, ℕ, ◌+◌, List, [], ◌∷◌, ◌++◌, map}
use Rattle.std.specs.List.Sorted.{IsPermutation}
use Rattle.log_base.specs.declared.machine.Committed.{Committed}
use Rattle.history_frame.specs.declared.events.Happened.{Happened}
use Rattle.history_frame.specs.declared.events.Event.{Event}
use Rattle.history_frame.specs.Spelling.{InPlace}

-- what was committed, as an event at a node
abbrev pub event_at : ℕ → Committed Happened → Event
event_at node committed = record { place = committed.place; node = record { 0 = node }; happened = committed.happened }

-- the events of lists, one list behind the other, the first at this node and each other at the next
abbrev pub events_from : ℕ → List (List (Committed Happened)) → List Event
events_from node [] = []
events_from node (list ∷ lists) = map (event_at node) list ++ events_from (node + 1) lists

-- the events are those of the lists, in order of place
pub record IsMerged (lists : List (List (Committed Happened))) (events : List Event) : Type 0 where
  pub events_are : IsPermutation (events_from 0 lists) events
  pub places : InPlace 0 events

-- each place from 0 up stands in the lists once: their events can be put in order
pub record IsComplete (lists : List (List (Committed Happened))) : Type 0 where
  pub events : List Event
  pub merged : IsMerged lists events

-- there is one order
abbrev pub OneOrder : Type 0
OneOrder = (lists : List (List (Committed Happened))) (one other : List Event) → IsMerged lists one → IsMerged lists other → one ≡ other
