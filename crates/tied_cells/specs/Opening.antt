-- The opening: events that are made before there are passes.
use Rattle.std.specs.Prelude.{◌≡◌, ℕ, ◌+◌, ◌*◌, ◌<◌, ◌≤◌, List, [], ◌∷◌, ◌++◌, map, length, replicate, slice_get, slice_set, suc, Some, None}
use Rattle.log_base.specs.Machines.{Meanings, Event, IsLegal, of_node, state_after}
use Rattle.log_base.specs.declared.numbers.NodeId.{NodeId}
use Rattle.atomic_table.specs.Table.{Me}
use Rattle.atomic_table.specs.Seated.{TableId}
use Rattle.atomic_table.specs.declared.shared.Seat.{Seat}
use Rattle.tied_cells.specs.declared.board.Cell.{Cell}
use Rattle.tied_cells.specs.declared.board.Stored.{Stored}
use Rattle.tied_cells.specs.declared.board.Stored.TheVariants.{Nothing, Home, Mail, Said}
use Rattle.tied_cells.specs.declared.board.Deal.{Deal}
use Rattle.tied_cells.specs.declared.board.Own.{Own}
use Rattle.tied_cells.specs.declared.board.Opened.{Opened}
use Rattle.tied_cells.specs.declared.board.View.{View}
use Rattle.tied_cells.specs.declared.account.Account.{Account}
use Rattle.tied_cells.specs.History.{Entry, cell_list, StandsAfter}

module _ {S I H : Type 0} (m : Meanings S I H) where
  -- the node and the input that an event answers
  abbrev pub asked_by : Event H → NodeId × I
  asked_by event = (record { 0 = event.node }, m.input event.happened)

  -- the sizes of these events together
  abbrev pub sizes_of_events : List (Event H) → ℕ
  sizes_of_events [] = 0
  sizes_of_events (event ∷ log) = m.size event.happened + sizes_of_events log

  -- The inputs may be made events, one after another: each is at a node, delivers no letter and fits its machine, whatever
  -- the earlier steps said.
  pub record MayOpen (starts : List S) (opening : List (NodeId × I)) : Type 0 where
    pub nodes : (k : ℕ) (asked : NodeId × I) → slice_get opening k ≡ Some asked → asked.0.0 < length starts
    pub quiet : (k : ℕ) (asked : NodeId × I) → slice_get opening k ≡ Some asked → m.delivers asked.1 ≡ None
    pub fits : (log : List (Event H)) (asked : NodeId × I) (rest : List (NodeId × I)) → opening ≡ map asked_by log ++ asked ∷ rest → IsLegal m starts log
        → (start : S) → slice_get starts asked.0.0 ≡ Some start → m.fits (state_after m start (of_node asked.0.0 log)) asked.1

  -- the events have this room together, whatever the steps say
  abbrev pub HasRoomFor : List S → List (NodeId × I) → ℕ → Type 0
  HasRoomFor starts opening room = (log : List (Event H)) → opening ≡ map asked_by log → IsLegal m starts log → sizes_of_events log ≤ room

module _ {H : Type 0} where
  abbrev pub opened_event : Opened H → Event H
  opened_event opened = record { node = opened.node; happened = opened.happened.value }

  -- all these events are one pass's
  abbrev pub made_by : ℕ → List (Event H) → List (Entry H)
  made_by maker log = map (λ event. record { maker = maker; event = event }) log

  abbrev pub owns_from : ℕ → List (Event H) → List (Own H)
  owns_from place [] = []
  owns_from place (event ∷ log) = record { place = place; node = event.node; happened = event.happened } ∷ owns_from (suc place) log

module _ {A H : Type 0} where
  -- the slots of the table, with all cells at home and all boxes empty
  abbrev pub laid : List (Cell A H) → List (Stored A H)
  laid cells = map Home cells ++ replicate (16 * length cells) Nothing

  -- the machines in some slots, in order
  abbrev pub machines_in : List (Stored A H) → List A
  machines_in [] = []
  machines_in (Home cell ∷ slots) = cell.machine ∷ machines_in slots
  machines_in (Nothing ∷ slots) = machines_in slots
  machines_in (Mail letter ∷ slots) = machines_in slots
  machines_in (Said happened ∷ slots) = machines_in slots

  -- each machine has a cell with no events
  pub record AreFresh (machines : List A) (cells : List (Cell A H)) : Type 0 where
    pub as_many : length cells ≡ length machines
    pub each : (n : ℕ) (cell : Cell A H) → slice_get cells n ≡ Some cell → (slice_get machines n ≡ Some cell.machine) × (cell.events.items ≡ [])

module _ {A S I H : Type 0} (state : A → S) (m : Meanings S I H) where
  -- a cell after one more event, which got this place
  pub record CellOpens (old new : Cell A H) (place : ℕ) (input : I) (happened : H) : Type 0 where
    pub input_is : m.input happened ≡ input
    pub row : m.is_row (state old.machine) happened
    pub after : state new.machine ≡ m.after (state old.machine) happened
    pub events : new.events.items ≡ old.events.items ++ record { place = place; happened = happened } ∷ []

  -- the cells after these events, which are legal
  pub record AreOpened (starts : List S) (cells : List (Cell A H)) (log : List (Event H)) : Type 0 where
    pub as_many : length cells ≡ length starts
    pub legal : IsLegal m starts log
    pub each : (n : ℕ) (cell : Cell A H) → slice_get cells n ≡ Some cell → ((maker : ℕ) → cell.events.items ≡ cell_list n (made_by maker log)) × StandsAfter state m starts n cell.machine cell.events.items

  -- the machines after those events of the opening that were made
  pub record AreLeft (starts : List S) (opening : List (NodeId × I)) (machines : List A) : Type 0 where
    pub log : List (Event H)
    pub rest : List (NodeId × I)
    pub begins : opening ≡ map (asked_by m) log ++ rest
    pub legal : IsLegal m starts log
    pub as_many : length machines ≡ length starts
    pub each : (n : ℕ) (machine : A) → slice_get machines n ≡ Some machine → (start : S) × (slice_get starts n ≡ Some start) × (state machine ≡ state_after m start (of_node n log))

-- A new pass: nothing in hand, no letters, no notes, and these events.
pub record IsNew {A S H : Type 0} (deal : Deal S) (number : ℕ) (own : List (Own H)) (bytes room : ℕ) (me : Me (Stored A H) (View S H)) (account : Account) : Type 0 where
  pub deal_is : me.0.deal ≡ deal
  pub own_is : me.0.own ≡ own
  pub turn_is : me.0.turn ≡ None
  pub fetched_is : me.0.fetched ≡ None
  pub posted_is : me.0.posted ≡ []
  pub notes_are : me.0.notes ≡ []
  pub slots_are : me.1 ≡ []
  pub alone : me.0.joined ≡ []
  pub account_is : account ≡ record { number = number; used = length own; places = deal.quota; bytes = bytes; room = room }

module _ {A S I H : Type 0} (state : A → S) (m : Meanings S I H) where
  -- one of the cells in some slots answers an input, at the next place
  pub record OpensAt (old new : List (Stored A H)) (made more : List (Opened H)) (asked : NodeId × I) : Type 0 where
    pub before : Cell A H
    pub after : Cell A H
    pub opened : Opened H
    pub there : slice_get old asked.0.0 ≡ Some (Home before)
    pub now : new ≡ slice_set old asked.0.0 (Home after)
    pub made_is : more ≡ made ++ opened ∷ []
    pub node_is : opened.node ≡ asked.0.0
    pub opens : CellOpens state m before after (length made) asked.1 opened.happened.value

  -- the cell is as it was, but for its memory
  pub record StaysAt (old new : List (Stored A H)) (asked : NodeId × I) : Type 0 where
    pub before : Cell A H
    pub after : Cell A H
    pub there : slice_get old asked.0.0 ≡ Some (Home before)
    pub now : new ≡ slice_set old asked.0.0 (Home after)
    pub state_is : state after.machine ≡ state before.machine
    pub events_are : after.events.items ≡ before.events.items

  -- the slots after these inputs were made events
  pub record IsOpening (starts : List S) (done : List (NodeId × I)) (slots : List (Stored A H)) (made : List (Opened H)) : Type 0 where
    pub cells : List (Cell A H)
    pub laid_so : slots ≡ laid cells
    pub opened : AreOpened state m starts cells (map opened_event made)
    pub asked : done ≡ map (asked_by m) (map opened_event made)

-- The passes that the cells are made with, in order of their numbers: each is new, and the last has the events of the opening.
pub record ArePasses {A S H : Type 0} (table : TableId) (deal : Deal S) (own : List (Own H)) (bytes room : ℕ) (passes : List (Seat (Stored A H) (View S H) × Account)) : Type 0 where
  pub as_many : length passes ≡ deal.passes
  pub tables : (k : ℕ) (pass : Seat (Stored A H) (View S H) × Account) → slice_get passes k ≡ Some pass → pass.0.table_id ≡ table
  pub others : (k : ℕ) (pass : Seat (Stored A H) (View S H) × Account) → slice_get passes k ≡ Some pass → k + 1 < deal.passes → IsNew deal k [] 0 room pass.0.me pass.1
  pub last : (k : ℕ) (pass : Seat (Stored A H) (View S H) × Account) → slice_get passes k ≡ Some pass → k + 1 ≡ deal.passes → IsNew deal k own bytes room pass.0.me pass.1
