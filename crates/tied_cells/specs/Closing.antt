-- What is left when the cells are closed: the machines and the events of each node, and what the passes know of them.
use Rattle.std.specs.Prelude.{◌≡◌, ℕ, ◌+◌, ◌<◌, ◌≤◌, ◌⊎◌, List, [], ◌∷◌, length, slice_get, Some, None}
use mathlib.Core.Option.{some}
use lib.ListN.{get_elem?}
use Rattle.atomic_table.specs.Seated.{TableId}
use Rattle.atomic_table.specs.declared.shared.Seat.{Seat}
use Rattle.log_base.specs.Machines.{Meanings, IsLegal}
use Rattle.log_base.specs.declared.machine.Committed.{Committed}
use Rattle.tied_cells.specs.declared.board.Cell.{Cell}
use Rattle.tied_cells.specs.declared.board.Stored.{Stored}
use Rattle.tied_cells.specs.declared.board.Stored.TheVariants.{Home}
use Rattle.tied_cells.specs.declared.board.Deal.{Deal}
use Rattle.tied_cells.specs.declared.board.Own.{Own}
use Rattle.tied_cells.specs.declared.board.Joined.{Joined}
use Rattle.tied_cells.specs.declared.board.View.{View}
use Rattle.tied_cells.specs.declared.account.Account.{Account}
use Rattle.tied_cells.specs.History.{Entry, events, own_list, cell_list, StandsAfter}

module _ {H : Type 0} where
  -- an event stands at a place of a node's list, and there it has this place in the history
  abbrev pub StandsIn : List (List (Committed H)) → ℕ → ℕ → ℕ → Type 0
  StandsIn lists place node k = (list : List (Committed H)) × (event : Committed H) × (slice_get lists node ≡ Some list) × (slice_get list k ≡ Some event) × (event.place ≡ place)

  -- each place below the number of events stands in the lists once, and no other place does
  pub record StandOnce (lists : List (List (Committed H))) (places : ℕ) : Type 0 where
    pub each : (place : ℕ) → place < places → (node : ℕ) × (k : ℕ) × StandsIn lists place node k
    pub once : (place node other k j : ℕ) → StandsIn lists place node k → StandsIn lists place other j → (node ≡ other) × (k ≡ j)
    pub below : (place node k : ℕ) → StandsIn lists place node k → place < places

  -- the places of each list rise
  abbrev pub PlacesRise : List (Committed H) → Type 0
  PlacesRise list = (k : ℕ) (event next : Committed H) → slice_get list k ≡ Some event → slice_get list (k + 1) ≡ Some next → event.place < next.place

  abbrev pub OwnRises : List (Own H) → Type 0
  OwnRises list = (k : ℕ) (event next : Own H) → slice_get list k ≡ Some event → slice_get list (k + 1) ≡ Some next → event.place < next.place

module _ {A S I H : Type 0} (state : A → S) (m : Meanings S I H) where
  -- One history is in the lists of all nodes: it is legal, each machine stands after its node's events, and each place
  -- stands once.
  pub record IsOneHistory (starts : List S) (machines : List A) (lists : List (List (Committed H))) (log : List (Entry H)) : Type 0 where
    pub legal : IsLegal m starts (events log)
    pub machines_are : length machines ≡ length starts
    pub lists_are : length lists ≡ length starts
    pub nodes : (node : ℕ) → node < length starts → (machine : A) × (slice_get machines node ≡ Some machine) × (slice_get lists node ≡ Some (cell_list node log)) × StandsAfter state m starts node machine (cell_list node log)
    pub rise : (node : ℕ) (list : List (Committed H)) → slice_get lists node ≡ Some list → PlacesRise list
    pub once : StandOnce lists (length log)
    pub few : length log ≤ 131072

-- The own lists of the passes are all of the history: each is what the history has of its pass, its places rise, and each
-- event is of one of the passes.
pub record AreAll {A S H : Type 0} (passes : List (Seat (Stored A H) (View S H) × Account)) (log : List (Entry H)) : Type 0 where
  pub each : (k : ℕ) (pass : Seat (Stored A H) (View S H) × Account) → slice_get passes k ≡ Some pass → (pass.0.me.0.own ≡ own_list pass.1.number log) × OwnRises pass.0.me.0.own
  pub all : (place : ℕ) (entry : Entry H) → slice_get log place ≡ Some entry → (k : ℕ) × (pass : Seat (Stored A H) (View S H) × Account) × (slice_get passes k ≡ Some pass) × (entry.maker ≡ pass.1.number)

-- the passes that are handed back are all there are, they are of these cells, and none has a turn
pub record AreBack {A S H : Type 0} (table : TableId) (count : ℕ) (passes : List (Seat (Stored A H) (View S H) × Account)) : Type 0 where
  pub of_these : (k : ℕ) (pass : Seat (Stored A H) (View S H) × Account) → slice_get passes k ≡ Some pass → pass.0.table_id ≡ table
  pub no_turn : (k : ℕ) (pass : Seat (Stored A H) (View S H) × Account) → slice_get passes k ≡ Some pass → (pass.0.me.0.turn ≡ None) × (pass.0.me.1 ≡ [])
  pub all_there : (number : ℕ) → number < count → (k : ℕ) × (pass : Seat (Stored A H) (View S H) × Account) × (slice_get passes k ≡ Some pass) × (pass.1.number ≡ number)

module _ {H : Type 0} where
  -- the events are among those of the passes that were joined
  abbrev pub IsAmong : ℕ → List (Own H) → List (Joined H) → Type 0
  IsAmong number own [] = ⊥
  IsAmong number own (part ∷ joined) = ((part.number ≡ number) × (part.own ≡ own)) ⊎ IsAmong number own joined

-- the pass, or one that was joined to it, has this number and these events
abbrev pub IsPartOf : {S H : Type 0} → ℕ → List (Own H) → View S H → Type 0
IsPartOf number own view = ((view.number ≡ number) × (view.own ≡ own)) ⊎ IsAmong number own view.joined

-- the machines and the events of the cells in these slots, in order
pub record AreTaken {A H : Type 0} (nodes : ℕ) (slots : List (Stored A H)) (machines : List A) (lists : List (List (Committed H))) : Type 0 where
  pub machines_are : length machines ≡ nodes
  pub lists_are : length lists ≡ nodes
  pub each : (node : ℕ) → node < nodes → (cell : Cell A H) × (get_elem? slots node ≡ some (Home cell)) × (slice_get machines node ≡ Some cell.machine) × (slice_get lists node ≡ Some cell.events.items)

-- The lists are one history, and each part of a pass is what it has of that part's number.
pub record IsClosed {A S I H : Type 0} (state : A → S) (m : Meanings S I H) (deal : Deal S) (view : View S H) (machines : List A) (lists : List (List (Committed H))) : Type 0 where
  pub log : List (Entry H)
  pub one : IsOneHistory state m deal.starts machines lists log
  pub makers : (place : ℕ) (entry : Entry H) → slice_get log place ≡ Some entry → entry.maker < deal.passes
  pub parts : (number : ℕ) (own : List (Own H)) → IsPartOf number own view → (own ≡ own_list number log) × OwnRises own
