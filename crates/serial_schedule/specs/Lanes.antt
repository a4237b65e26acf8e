-- The lanes of a run: each is a client with a session of its own.
use Rattle.std.specs.Prelude.{◌≡◌, ℕ, zero, suc, ◌<◌, List, [], ◌∷◌, ◌++◌, length, map, slice_index_or, Option, Some, None}
use Rattle.log_base.specs.declared.numbers.NodeId.{NodeId}
use Rattle.log_base.specs.Draws.{number_of_draw}
use Rattle.client_session.specs.declared.pair.Pair.{Pair}
use Rattle.client_session.specs.Sessions.{Drawing, fresh}
use Rattle.schedule_model.specs.declared.duties.Duty.{Duty}
use Rattle.schedule_model.specs.Courses.{submission}

-- the sessions of so many lanes at first: nothing is drawn
abbrev pub fresh_lanes : ℕ → ℕ → List Drawing
fresh_lanes run zero = []
fresh_lanes run (suc lane) = fresh_lanes run lane ++ fresh lane run ∷ []

-- the session of a lane
abbrev pub lane_at : List Drawing → ℕ → Drawing
lane_at lanes lane = slice_index_or lanes lane (fresh 0 0)

-- the run in which the lanes draw
abbrev pub run_of : List Drawing → ℕ
run_of lanes = (lane_at lanes 0).run

-- how many numbers each lane has drawn
abbrev pub draws_of : List Drawing → List ℕ
draws_of lanes = map (λ (session : Drawing). session.draws) lanes

-- the node of the pair that was drawn last
abbrev pub node_of : Option Pair → Option NodeId
node_of None = None
node_of (Some pair) = Some pair.node

-- the primary of each lane's last append
abbrev pub primaries_of : List Drawing → List (Option NodeId)
primaries_of lanes = map (λ (session : Drawing). node_of session.last) lanes

-- there are 64 lanes, and each draws for its client, all in one run
pub record AreLanes (lanes : List Drawing) : Type 0 where
  pub all : length lanes ≡ 64
  pub client : (lane : ℕ) → lane < 64 → (lane_at lanes lane).client ≡ lane
  pub of_run : (lane : ℕ) → lane < 64 → (lane_at lanes lane).run ≡ run_of lanes

-- the submission of a record under the pair that a session draws next, to its primary
abbrev pub submitted : Drawing → NodeId → List ℕ → Duty
submitted session primary bytes = submission primary (record { 0 = session.client }) (record { 0 = number_of_draw session.run session.draws }) bytes
