-- The rule of the table: what holds between any two steps of its words, of what is at home, and of what the passes know.
use Rattle.std.specs.Prelude.{◌≡◌, ◌≢◌, ℕ, suc, ◌+◌, ◌-◌, ◌*◌, ◌/◌, ◌<◌, ◌≤◌, ◌⊎◌, Bool, true, false, List, [], ◌∷◌, map, length, slice_get, slice_index, Option, Some, None}
use mathlib.Core.Option.{some}
use mathlib.Core.Option as maybe
use lib.ListN.{get_elem?}
use Rattle.atomic_table.specs.Table.{State}
use Rattle.log_base.specs.Machines.{Meanings, Event, Letter as Told, IsLegal, IsOutput}
use Rattle.tied_cells.specs.declared.letter.Letter.{Letter}
use Rattle.tied_cells.specs.declared.board.Cell.{Cell}
use Rattle.tied_cells.specs.declared.board.Stored.{Stored}
use Rattle.tied_cells.specs.declared.board.Stored.TheVariants.{Nothing, Home, Mail}
use Rattle.tied_cells.specs.declared.board.Deal.{Deal}
use Rattle.tied_cells.specs.declared.board.Own.{Own}
use Rattle.tied_cells.specs.declared.board.Turn.{Turn}
use Rattle.tied_cells.specs.declared.board.Addressed.{Addressed}
use Rattle.tied_cells.specs.declared.board.Joined.{Joined}
use Rattle.tied_cells.specs.declared.board.View.{View}
use Rattle.tied_cells.specs.declared.board.Opened.{Opened}
use Rattle.tied_cells.specs.declared.board.Key.{Key}
use Rattle.tied_cells.specs.History.{Entry, events, own_list, cell_list, StandsAfter}

-- What no word and no slot shows: the history, which seat has the pass of a number, the seat of the pass that was
-- made first, and how many passes were split from it.
pub record World (H : Type 0) : Type 0 where
  pub log : List (Entry H)
  pub seat_of : ℕ → ℕ
  pub first : ℕ
  pub given : ℕ

-- how many nodes there are
abbrev pub nodes_of : {S : Type 0} → Deal S → ℕ
nodes_of deal = length deal.starts

-- the node whose box a slot is
abbrev pub box_node : ℕ → ℕ → ℕ
box_node nodes slot = (slot - nodes) / 16

-- a letter as machines speak of it
abbrev pub told : Letter → Told
told letter = (letter.place, (letter.index, letter.bytes))

-- The pass that was made first has the greatest number, and those split from it have the numbers from 0.
abbrev pub IsGiven : ℕ → ℕ → ℕ → Type 0
IsGiven passes given number = (number < given) ⊎ (number + 1 ≡ passes)

-- the table has a word and a slot for each node and each box, and a word for the next place
pub record IsSized (nodes : ℕ) (words slots : ℕ) : Type 0 where
  pub words_are : words ≡ 17 * nodes + 1
  pub slots_are : slots ≡ 17 * nodes

-- The history: its length is the next place, it is legal, each event has a maker among the passes there are, and
-- no pass has used more places than it may.
pub record IsRun {S I H : Type 0} (m : Meanings S I H) (deal : Deal S) (world : World H) (next : ℕ) : Type 0 where
  pub next_is : next ≡ length world.log
  pub legal : IsLegal m deal.starts (events world.log)
  pub makers : (k : ℕ) (entry : Entry H) → slice_get world.log k ≡ Some entry → IsGiven deal.passes world.given entry.maker
  pub within : (number : ℕ) → length (own_list number world.log) ≤ deal.quota
  pub given_below : world.given < deal.passes

module _ {H : Type 0} (nodes : ℕ) (words : List ℕ) (log : List (Entry H)) (number : ℕ) where
  -- a turn in hand: the word names the pass, which has the node's events
  abbrev pub KnowsTurn : Option (Turn H) → Type 0
  KnowsTurn None = Unit {0}
  KnowsTurn (Some turn) = (turn.node < nodes) × (slice_index words (turn.node + 1) ≡ number + 1) × (turn.events ≡ cell_list turn.node log)

-- a box in hand: the word names the pass
abbrev pub KnowsBox : ℕ → List ℕ → ℕ → Option ℕ → Type 0
KnowsBox nodes words number None = Unit {0}
KnowsBox nodes words number (Some slot) = (nodes ≤ slot) × (slot < 17 * nodes) × (slice_index words (slot + 1) ≡ number + 2)

module _ {S I H : Type 0} (m : Meanings S I H) where
  -- a fetched letter is an output of the history, addressed to the node whose box it was in
  abbrev pub KnowsLetter : List (Event H) → Option Addressed → Type 0
  KnowsLetter log None = Unit {0}
  KnowsLetter log (Some addressed) = IsOutput m log addressed.node (told addressed.letter)

module _ {H : Type 0} (passes : ℕ) (world : World H) (number seat : ℕ) where
  -- the numbers and the events of the passes that were joined to this one
  abbrev pub KnowsJoined : List (Joined H) → Type 0
  KnowsJoined [] = Unit {0}
  KnowsJoined (part ∷ joined) = ((part.number ≢ number) × IsGiven passes world.given part.number × (world.seat_of part.number ≡ seat)
      × (part.own ≡ own_list part.number world.log)) × KnowsJoined joined

-- the pass that was made first has the count of those split from it
abbrev pub KnowsGiven : {H : Type 0} → World H → ℕ → Option ℕ → Type 0
KnowsGiven world seat None = Unit {0}
KnowsGiven world seat (Some given) = (given ≡ world.given) × (seat ≡ world.first)

-- what a pass knows is so
pub record Knows {S I H : Type 0} (m : Meanings S I H) (deal : Deal S) (world : World H) (words : List ℕ) (seat : ℕ) (view : View S H) : Type 0 where
  pub deal_is : view.deal ≡ deal
  pub number_is : IsGiven deal.passes world.given view.number
  pub seat_is : world.seat_of view.number ≡ seat
  pub own_is : view.own ≡ own_list view.number world.log
  pub joined_are : KnowsJoined deal.passes world view.number seat view.joined
  pub given_is : KnowsGiven world seat view.given
  pub turn_is : KnowsTurn (nodes_of deal) words world.log view.number view.turn
  pub boxed_is : KnowsBox (nodes_of deal) words view.number view.boxed
  pub fetched_is : KnowsLetter m (events world.log) view.fetched

module _ {S I H : Type 0} (m : Meanings S I H) (deal : Deal S) (world : World H) (words : List ℕ) (seat : ℕ) (view : View S H) where
  -- a pass that was joined to another has nothing in hand, and nothing else is said of it
  abbrev pub StandsAs : Bool → Type 0
  StandsAs true = Knows m deal world words seat view
  StandsAs false = (view.turn ≡ None) × (view.boxed ≡ None)

  abbrev pub Stands : Type 0
  Stands = StandsAs view.alive

-- where the word is 0 the cell is at home, with the node's events and the machine as it stands after them
abbrev pub IsCell : {A S I H : Type 0} → (A → S) → Meanings S I H → Deal S → List (Entry H) → ℕ → ℕ → maybe.Option (maybe.Option (Stored A H)) → Type 0
IsCell {A} {H = H} state m deal log slot word home =
    word ≡ 0 → (cell : Cell A H) × (home ≡ some (some (Home cell))) × (cell.events.items ≡ cell_list slot log) × StandsAfter state m deal.starts slot cell.machine cell.events.items

-- an empty box is at home and has nothing, and a full one has an output of the history, addressed to the box's node
pub record IsBox {A S I H : Type 0} (m : Meanings S I H) (deal : Deal S) (log : List (Entry H)) (slot word : ℕ) (home : maybe.Option (maybe.Option (Stored A H))) : Type 0 where
  pub empty : word ≡ 0 → home ≡ some (some Nothing)
  pub full : word ≡ 1 → (letter : Letter) × (home ≡ some (some (Mail letter))) × IsOutput m (events log) (box_node (nodes_of deal) slot) (told letter)

-- the word says that the slot is in a pass's hands
abbrev pub IsOut : ℕ → ℕ → ℕ → Type 0
IsOut nodes slot word = (slot < nodes → 0 < word) × (nodes ≤ slot → 1 < word)

module _ {H : Type 0} where
  abbrev pub HasTurnAt : ℕ → Option (Turn H) → Type 0
  HasTurnAt slot None = ⊥
  HasTurnAt slot (Some turn) = turn.node ≡ slot

-- a pass has the slot in hand, by its turn or as a box
abbrev pub InHand : {S H : Type 0} → ℕ → ℕ → View S H → Type 0
InHand nodes slot view = (slot < nodes → HasTurnAt slot view.turn) × (nodes ≤ slot → view.boxed ≡ Some slot)

-- one of the passes has the slot in hand
abbrev pub IsKept : {S H : Type 0} → ℕ → ℕ → List (View S H) → Type 0
IsKept {S} {H} nodes slot views = (seat : ℕ) × (view : View S H) × (get_elem? views seat ≡ some view) × InHand nodes slot view

pub record Holds {A S I H : Type 0} (state : A → S) (m : Meanings S I H) (deal : Deal S) (s : State (Stored A H) (View S H)) : Type 0 where
  pub world : World H
  pub sized : IsSized (nodes_of deal) (length s.words) (length s.homes)
  pub small : deal.passes * deal.quota ≤ 131072
  pub sound : m.is_sound deal.starts
  pub run : IsRun m deal world (slice_index s.words 0)
  pub passes : (seat : ℕ) (view : View S H) → get_elem? s.views seat ≡ some view → Stands m deal world s.words seat view
  pub cells : (slot : ℕ) → slot < nodes_of deal → IsCell state m deal world.log slot (slice_index s.words (slot + 1)) (get_elem? s.homes slot)
  pub boxes : (slot : ℕ) → nodes_of deal ≤ slot → slot < 17 * nodes_of deal → IsBox m deal world.log slot (slice_index s.words (slot + 1)) (get_elem? s.homes slot)
  pub kept : (slot : ℕ) → slot < 17 * nodes_of deal → IsOut (nodes_of deal) slot (slice_index s.words (slot + 1)) → IsKept (nodes_of deal) slot s.views

module _ {A S H : Type 0} (state : A → S) where
  -- what the table was told
  abbrev pub deal_of : Key A H → Deal S
  deal_of key = record { starts = map state key.starts.value.items; passes = key.passes; quota = key.quota }

module _ {H : Type 0} where
  -- the events of the opening, from this place on
  abbrev pub opened_from : ℕ → List (Opened H) → List (Own H)
  opened_from place [] = []
  opened_from place (event ∷ opening) = record { place = place; node = event.node; happened = event.happened.value } ∷ opened_from (suc place) opening

-- what the pass knows that is made first
abbrev pub first_view : {S H : Type 0} → Deal S → List (Opened H) → View S H
first_view deal opening = record {
  alive = true;
  deal = deal;
  number = deal.passes - 1;
  own = opened_from 0 opening;
  joined = [];
  given = Some 0;
  turn = None;
  boxed = None;
  fetched = None;
  posted = [];
  notes = [];
}
