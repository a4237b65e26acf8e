-- What runs of lanes and workers leave.
use Rattle.std.specs.Prelude.{◌≡◌, ℕ, ◌<◌, List, length, slice_index_or, Some, None}
use Rattle.node_threads.specs.declared.slots.Slot.{Slot}

-- each thing that was handed in has run: the tokens after the runs and the answers stand in the same order
pub record AllRan {H T A : Type 0} (gives : H → T → A → Type 0) (handed : List H) (after : List T) (answers : List A) : Type 0 where
  pub tokens : length after ≡ length handed
  pub answered : length answers ≡ length handed
  pub ran : (k : ℕ) (h : H) (t : T) (a : A) → k < length handed → gives (slice_index_or handed k h) (slice_index_or after k t) (slice_index_or answers k a)

-- a lane and a worker before they run
abbrev pub fresh_lane : {T A : Type 0} → ℕ × T → Slot ℕ T A
fresh_lane lane = record { key = lane.0; token = lane.1; answer = None }

abbrev pub fresh_worker : {T A : Type 0} → T → Slot (Unit {0}) T A
fresh_worker t = record { key = tt; token = t; answer = None }

-- the slot after a run that makes of its token the next one and gives an answer
pub record HasRun {K T A : Type 0} (gives : T → T → A → Type 0) (before after : Slot K T A) : Type 0 where
  pub answer : A
  pub answered : after.answer ≡ Some answer
  pub gave : gives before.token after.token answer

-- each lane has run, by its number; and each worker
pub record LanesRun {T A : Type 0} (gives : ℕ → T → T → A → Type 0) (before after : List (Slot ℕ T A)) : Type 0 where
  pub len : length after ≡ length before
  pub each : (k : ℕ) (d : Slot ℕ T A) → k < length before → HasRun (gives (slice_index_or before k d).key) (slice_index_or before k d) (slice_index_or after k d)

pub record WorkersRun {T A : Type 0} (gives : T → T → A → Type 0) (before after : List (Slot (Unit {0}) T A)) : Type 0 where
  pub len : length after ≡ length before
  pub each : (k : ℕ) (d : Slot (Unit {0}) T A) → k < length before → HasRun gives (slice_index_or before k d) (slice_index_or after k d)

-- each slot's token fits its lane's number; and in a list of workers, a worker
abbrev pub LanesFit : {T A : Type 0} → (ℕ → T → Type 0) → List (Slot ℕ T A) → Type 0
LanesFit {T} {A} fits lanes = (k : ℕ) (d : Slot ℕ T A) → k < length lanes → fits (slice_index_or lanes k d).key (slice_index_or lanes k d).token

abbrev pub WorkersFit : {T A : Type 0} → (T → Type 0) → List (Slot (Unit {0}) T A) → Type 0
WorkersFit {T} {A} fits workers = (k : ℕ) (d : Slot (Unit {0}) T A) → k < length workers → fits (slice_index_or workers k d).token
