use Rattle.std.proofs.Common.{◌≡◌, ◌++◌, drop}
use Rattle.std.specs.List.{flat_map, AllByRecursion}
use Rattle.history_frame.specs.Spelling.{IsEvent, event_spelling}
use Rattle.history_frame.specs.Writing.{Extends}
use Rattle.history_frame.proofs.writing.put_events.Given as goal

-- what is there and the events left are what was there and all of them
abbrev pub invariant-loop-event : goal.invariant-loop-event
invariant-loop-event l = record {
  each : AllByRecursion IsEvent (drop l.event-index l.events);
  items : l.out.items ++ flat_map event_spelling (drop l.event-index l.events) ≡ l.initial.out.items ++ flat_map event_spelling l.events;
  extends : Extends l.initial.out.items l.out.items;
}
