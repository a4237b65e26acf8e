-- Who made the events of a run: each was made by one pass, at its place.
use Rattle.std.specs.Prelude.{◌≡◌, ℕ, ◌≤◌, List, length, slice_get, Some}
use Rattle.cluster.specs.History.{as_event}
use Rattle.history_frame.specs.declared.events.Event.{Event}
use Rattle.history_frame.specs.declared.events.Happened.{Happened}
use Rattle.node_model.specs.Machine.{node_meanings}
use Rattle.tied_cells.specs.Closing.{OwnRises}
use Rattle.tied_cells.specs.Sizes.{sizes_of}
use Rattle.tied_cells.specs.declared.account.Account.{Account}
use Rattle.tied_cells.specs.declared.board.Own.{Own}
use Rattle.cluster_run.specs.Seats.{PassNow}

-- A maker of events: those that it made, and what it may use and has used.
pub record Maker : Type 0 where
  pub own : List (Own Happened)
  pub account : Account

-- its account counts its events
pub record Counts (maker : Maker) : Type 0 where
  pub places : maker.account.used ≡ length maker.own
  pub bytes : sizes_of node_meanings maker.own ≤ maker.account.bytes

-- an event was made by one of these
pub record IsMadeBy (makers : List Maker) (event : Event) : Type 0 where
  pub k : ℕ
  pub maker : Maker
  pub there : slice_get makers k ≡ Some maker
  pub j : ℕ
  pub own : Own Happened
  pub among : slice_get maker.own j ≡ Some own
  pub event_is : event ≡ as_event own

-- The events of the makers are the history: those of each stand there at their places, which rise, and each event there was made by
-- one of them.
pub record MakeAll (makers : List Maker) (events : List Event) : Type 0 where
  pub each : (k : ℕ) (maker : Maker) → slice_get makers k ≡ Some maker
      → (j : ℕ) (own : Own Happened) → slice_get maker.own j ≡ Some own → slice_get events own.place ≡ Some (as_event own)
  pub rise : (k : ℕ) (maker : Maker) → slice_get makers k ≡ Some maker → OwnRises maker.own
  pub all : (place : ℕ) (event : Event) → slice_get events place ≡ Some event → IsMadeBy makers event

-- a pass as a maker
abbrev pub maker_of : {A : Type 0} → PassNow A → Maker
maker_of pass = record { own = pass.0.me.0.own; account = pass.1 }
