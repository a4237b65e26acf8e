-- The limits of a run: how many events it may have, how many values a node may know, and how many bytes the frames of the
-- events may have.
use Rattle.std.specs.Prelude.{ℕ, zero, suc, List, length, Bool, false, ◌||◌, ◌&&◌, nat_le, nat_lt, is_some, sum_by, if◌then◌else◌, Option, Some, None}
use Rattle.history_frame.specs.declared.events.Event.{Event}
use Rattle.history_frame.specs.Spelling.{event_size}
use Rattle.node_model.specs.NodeState.{node_after}
use Rattle.node_table.specs.Numbering.{nodes_of}
use Rattle.schedule_model.specs.Driven.{next_turn_after}
use Rattle.core_step.specs.Known.{known_count}
use Rattle.quiet_run.specs.Standing.{Job}

abbrev pub event_limit : ℕ
event_limit = 131072

abbrev pub value_limit : ℕ
value_limit = 16384

abbrev pub byte_limit : ℕ
byte_limit = 536870912

-- whether one of so many numbers from one on passes a test
abbrev pub is_one_from : (ℕ → Bool) → ℕ → ℕ → Bool
is_one_from test first zero = false
is_one_from test first (suc count) = test first || is_one_from test (suc first) count

-- how many values a node of the run knows after events
abbrev pub known_by : Job → List Event → ℕ → ℕ
known_by job events number = known_count (node_after job.config job.kept events number)

-- whether a node knows as many values as there may be
abbrev pub is_one_full : Job → List Event → Bool
is_one_full job events = is_one_from (λ number. nat_le value_limit (known_by job events number)) 0 (nodes_of job.config)

-- how many bytes the frames of events have
abbrev pub bytes_of : List Event → ℕ
bytes_of events = sum_by (λ (event : Event). event_size event.happened) events

-- The limit that stops a run: too many events, if one more is due; a node that knows too many values; or too many bytes. Where
-- there are several it is the first of these. The numbers are the causes that a run tells.
abbrev pub limit_of : Bool → ℕ → Bool → ℕ → Option ℕ
limit_of due events full bytes =
    if due && nat_le event_limit events then Some 3
    else if full then Some 4
    else if nat_lt byte_limit bytes then Some 5
    else None

-- the limit that a run is at after events, if it is at one
abbrev pub limit_passed : Job → List Event → Option ℕ
limit_passed job events =
    limit_of (is_some (next_turn_after job.config job.run job.items events)) (length events) (is_one_full job events) (bytes_of events)
