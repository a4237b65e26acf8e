-- The history of a cluster that is closed, and where its nodes stand.
use Rattle.std.specs.Prelude.{◌≡◌, ℕ, suc, ◌<◌, List, [], ◌∷◌, length, slice_get, Some}
use Rattle.history_frame.specs.declared.events.Event.{Event}
use Rattle.history_frame.specs.declared.events.Happened.{Happened}
use Rattle.history_frame.specs.declared.events.History.{History}
use Rattle.history_frame.specs.declared.events.Kept.{Kept}
use Rattle.log_base.specs.ClusterShape.{Shape}
use Rattle.log_base.specs.Shape.{shape}
use Rattle.node_model.specs.Legal.{IsLawful}
use Rattle.node_model.specs.Machine.{ClusterNode}
use Rattle.node_model.specs.NodeState.{KeptLists, node_after}
use Rattle.node_model.specs.Sound.{payloads_on}
use Rattle.node_table.specs.Numbering.{nodes_of}
use Rattle.tied_cells.specs.Closing.{OwnRises}
use Rattle.tied_cells.specs.History.{Entry}
use Rattle.tied_cells.specs.declared.account.Account.{Account}
use Rattle.tied_cells.specs.declared.board.Own.{Own}
use Rattle.cluster.specs.Clusters.{PassSeat}

-- what happened at a node, as the event at a place
abbrev pub event_at : ℕ → Entry Happened → Event
event_at place entry = record { place = place; node = record { 0 = entry.event.node }; happened = entry.event.happened }

-- the events of all nodes, the first at this place
abbrev pub history_from : ℕ → List (Entry Happened) → List Event
history_from place [] = []
history_from place (entry ∷ log) = event_at place entry ∷ history_from (suc place) log

-- an event of a pass
abbrev pub as_event : Own Happened → Event
as_event own = record { place = own.place; node = record { 0 = own.node }; happened = own.happened }

module _ {A : Type 0} where
  -- an event is one of a pass among these
  pub record IsOneOf (passes : List (PassSeat A × Account)) (event : Event) : Type 0 where
    pub k : ℕ
    pub pass : PassSeat A × Account
    pub there : slice_get passes k ≡ Some pass
    pub j : ℕ
    pub own : Own Happened
    pub among : slice_get pass.0.me.0.own j ≡ Some own
    pub event_is : event ≡ as_event own

  -- The events of the passes are the history: those of each stand there at their places, which rise, and each event there is
  -- one of theirs.
  pub record AreAllEvents (passes : List (PassSeat A × Account)) (events : List Event) : Type 0 where
    pub each : (k : ℕ) (pass : PassSeat A × Account) → slice_get passes k ≡ Some pass
        → (j : ℕ) (own : Own Happened) → slice_get pass.0.me.0.own j ≡ Some own → slice_get events own.place ≡ Some (as_event own)
    pub rise : (k : ℕ) (pass : PassSeat A × Account) → slice_get passes k ≡ Some pass → OwnRises pass.0.me.0.own
    pub all : (place : ℕ) (event : Event) → slice_get events place ≡ Some event → IsOneOf passes event

-- the nodes of a cluster stand after the events of its history
pub record StandAfter (config : Shape) (kept : KeptLists) (events : List Event) (nodes : List ClusterNode) : Type 0 where
  pub all : length nodes ≡ nodes_of config
  pub each : (number : ℕ) → number < nodes_of config
      → slice_get nodes number ≡ Some (record { config = config; number = number; state = node_after config kept events number })

-- What a closed cluster leaves: a legal history of its run, which has the events of its passes and no others, and its nodes as
-- they stand after it.
pub record IsClosed {A : Type 0} (config : Shape) (run : ℕ) (kept : List Kept) (passes : List (PassSeat A × Account))
    (nodes : List ClusterNode) (history : History) : Type 0 where
  pub config_is : shape history.config ≡ config
  pub run_is : history.run ≡ run
  pub kept_is : history.kept ≡ kept
  pub lawful : IsLawful history
  pub events_are : AreAllEvents passes history.events
  pub stand : StandAfter config (payloads_on kept) history.events nodes
