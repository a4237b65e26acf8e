-- Events that are due, one after another.
use Rattle.std.proofs.Common.{◌≡◌, List, [], ◌∷◌, ◌++◌, refl}
use Rattle.history_frame.specs.declared.events.Happened.{Happened}
use Rattle.log_base.specs.ClusterShape.{Shape}
use Rattle.tied_cells.specs.declared.board.Own.{Own}
use Rattle.lane_work.specs.declared.stages.Stage.{Stage}
use Rattle.lane_work.specs.Stages.{AreDue, IsDue, after_event, after_events}

-- one event more
pub after_events-push : (config : Shape) (stage : Stage) (events : List (Own Happened)) (event : Own Happened)
    → after_events config stage (events ++ event ∷ []) ≡ after_event config (after_events config stage events) event
after_events-push config stage [] event = refl
after_events-push config stage (first ∷ events) event = after_events-push config (after_event config stage first) events event

pub are_due-push : (config : Shape) (stage : Stage) (events : List (Own Happened)) (event : Own Happened)
    → AreDue config stage events → IsDue (after_events config stage events) event → AreDue config stage (events ++ event ∷ [])
are_due-push config stage [] event all last = (last, tt)
are_due-push config stage (first ∷ events) event all last = (all.0, are_due-push config (after_event config stage first) events event all.1 last)
