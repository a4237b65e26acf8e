-- What fits the frame of an event.
use Rattle.std.specs.Prelude.{◌≤◌, length}
use Rattle.history_frame.specs.declared.events.Happened.{Happened}
use Rattle.history_frame.specs.Spelling.{event_size}

-- What happened fits a frame: it has few letters, and few bytes.
pub record FitsFrame (happened : Happened) : Type 0 where
  pub few : length happened.outputs ≤ 255
  pub small : event_size happened ≤ 2097152
