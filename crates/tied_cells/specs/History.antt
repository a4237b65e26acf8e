-- The one history of all nodes with the makers of its events, and the lists that cells and passes keep of it.
use Rattle.std.specs.Prelude.{◌≡◌, ℕ, suc, ◌==◌, Bool, List, [], ◌∷◌, map, slice_get, Some, if◌then◌else◌}
use Rattle.log_base.specs.Machines.{Meanings, Event, state_after}
use Rattle.log_base.specs.declared.machine.Committed.{Committed}
use Rattle.tied_cells.specs.declared.board.Own.{Own}

-- An event of the history, with the number of the pass that made it. Its place is its index.
pub record Entry (H : Type 0) : Type 0 where
  pub maker : ℕ
  pub event : Event H

module _ {H : Type 0} where
  abbrev pub event_of : Entry H → Event H
  event_of entry = entry.event

  -- the history without the makers
  abbrev pub events : List (Entry H) → List (Event H)
  events log = map event_of log

  abbrev pub own_of : ℕ → Entry H → Own H
  own_of place entry = record { place = place; node = entry.event.node; happened = entry.event.happened }

  -- the entries that pass a test, each with its place, where the first stands at this place
  abbrev pub picked : (Entry H → Bool) → ℕ → List (Entry H) → List (Own H)
  picked test place [] = []
  picked test place (entry ∷ log) = if test entry then own_of place entry ∷ picked test (suc place) log else picked test (suc place) log

  abbrev pub is_made_by : ℕ → Entry H → Bool
  is_made_by number entry = entry.maker == number

  abbrev pub is_at : ℕ → Entry H → Bool
  is_at node entry = entry.event.node == node

  -- the events of one pass
  abbrev pub own_list : ℕ → List (Entry H) → List (Own H)
  own_list number log = picked (is_made_by number) 0 log

  abbrev pub committed_of : Own H → Committed H
  committed_of own = record { place = own.place; happened = own.happened }

  -- the events of one node
  abbrev pub cell_list : ℕ → List (Entry H) → List (Committed H)
  cell_list node log = map committed_of (picked (is_at node) 0 log)

  abbrev pub happened_of : Committed H → H
  happened_of committed = committed.happened

module _ {A S I H : Type 0} (state : A → S) (m : Meanings S I H) where
  -- the machine of the node stands after these events
  abbrev pub StandsAfter : List S → ℕ → A → List (Committed H) → Type 0
  StandsAfter starts node machine es = (start : S) × (slice_get starts node ≡ Some start) × (state machine ≡ state_after m start (map happened_of es))
