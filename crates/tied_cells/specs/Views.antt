-- What a pass knows after each of its steps.
use Rattle.std.specs.Prelude.{◌≡◌, ℕ, ◌+◌, true, false, List, [], ◌∷◌, ◌++◌, map, length, slice_get, Option, Some, None}
use Rattle.log_base.specs.Machines.{Meanings, Event, Letter as Told, IsLegal, of_node, state_after}
use Rattle.log_base.specs.declared.machine.Committed.{Committed}
use Rattle.tied_cells.specs.declared.letter.Letter.{Letter}
use Rattle.tied_cells.specs.declared.board.Turn.{Turn}
use Rattle.tied_cells.specs.declared.board.Addressed.{Addressed}
use Rattle.tied_cells.specs.declared.board.Joined.{Joined}
use Rattle.tied_cells.specs.declared.board.View.{View}
use Rattle.tied_cells.specs.History.{happened_of}
use Rattle.tied_cells.specs.Rule.{told}

abbrev pub addressed : ℕ → Letter → Addressed
addressed node letter = record { node = node; letter = letter }

module _ {S H : Type 0} where
  -- it tried a word in vain
  abbrev pub noted : View S H → ℕ → ℕ → View S H
  noted view word found = record view { notes = view.notes ++ record { word = word; found = found } ∷ [] }

  -- it has the turn at a node, with the node's events
  abbrev pub holding : View S H → ℕ → List (Committed H) → View S H
  holding view node es = record view { turn = Some (record { node = node; events = es }) }

  abbrev pub let_go : View S H → View S H
  let_go view = record view { turn = None }

  -- it has a box in hand
  abbrev pub boxing : View S H → ℕ → View S H
  boxing view slot = record view { boxed = Some slot }

  abbrev pub unboxed : View S H → View S H
  unboxed view = record view { boxed = None }

  -- it put a letter into the box in hand, which is full from now on
  abbrev pub posting : View S H → Addressed → View S H
  posting view letter = record view { boxed = None; posted = view.posted ++ letter ∷ [] }

  -- it took a letter out of a box, which it has in hand
  abbrev pub fetching : View S H → ℕ → Addressed → View S H
  fetching view slot letter = record view { boxed = Some slot; fetched = Some letter }

module _ {H : Type 0} where
  abbrev pub turn_node : Option (Turn H) → ℕ
  turn_node None = 0
  turn_node (Some turn) = turn.node

  -- the node's events, with one more
  abbrev pub grown_turn : ℕ → H → Option (Turn H) → Option (Turn H)
  grown_turn place happened None = None
  grown_turn place happened (Some turn) = Some (record turn { events = turn.events ++ record { place = place; happened = happened } ∷ [] })

-- the fetched letter, unless the event delivered it
abbrev pub undelivered : Option Told → Option Addressed → Option Addressed
undelivered None fetched = fetched
undelivered (Some letter) fetched = None

module _ {S I H : Type 0} (m : Meanings S I H) where
  -- its event, at the node whose turn it has, got this place
  abbrev pub grown : View S H → ℕ → H → View S H
  grown view place happened = record view {
    own = view.own ++ record { place = place; node = turn_node view.turn; happened = happened } ∷ [];
    turn = grown_turn place happened view.turn;
    fetched = undelivered (m.delivers (m.input happened)) view.fetched;
  }

  -- where the pass has the node's turn, an input that delivers the letter fits the machine as it stands after the node's events
  abbrev pub FitsTurn : View S H → ℕ → Letter → Type 0
  FitsTurn view node letter = (turn : Turn H) → view.turn ≡ Some turn → turn.node ≡ node → (start : S) → slice_get view.deal.starts node ≡ Some start
      → (input : I) → m.delivers input ≡ Some (told letter) → m.fits (state_after m start (map happened_of turn.events)) input

-- An event that got its place: it stands there in a legal history from a sound start, and the events at its node before it
-- are those that came with the turn.
pub record IsPlaced {S I H : Type 0} (m : Meanings S I H) (starts : List S) (turn : Turn H) (place : ℕ) (happened : H) : Type 0 where
  pub before : List (Event H)
  pub sound : m.is_sound starts
  pub legal : IsLegal m starts (before ++ record { node = turn.node; happened = happened } ∷ [])
  pub place_is : length before ≡ place
  pub at_node : of_node turn.node before ≡ map happened_of turn.events

abbrev pub one_more : Option ℕ → Option ℕ
one_more None = None
one_more (Some given) = Some (given + 1)

abbrev pub next_number : Option ℕ → ℕ
next_number None = 0
next_number (Some given) = given

module _ {S H : Type 0} where
  -- one more pass was split from it
  abbrev pub split_left : View S H → View S H
  split_left view = record view { given = one_more view.given }

  -- a pass that has just been split from another
  abbrev pub split_right : View S H → View S H
  split_right view = record {
    alive = true;
    deal = view.deal;
    number = next_number view.given;
    own = [];
    joined = [];
    given = None;
    turn = None;
    boxed = None;
    fetched = None;
    posted = [];
    notes = [];
  }

  abbrev pub part_of : View S H → Joined H
  part_of view = record { number = view.number; own = view.own }

  -- another pass was joined to it, with those that were joined to that one
  abbrev pub joined_with : View S H → View S H → View S H
  joined_with view other = record view { joined = part_of other ∷ other.joined ++ view.joined }

  -- a pass that was joined to another
  abbrev pub spent_view : View S H
  spent_view = record {
    alive = false;
    deal = record { starts = []; passes = 0; quota = 0 };
    number = 0;
    own = [];
    joined = [];
    given = None;
    turn = None;
    boxed = None;
    fetched = None;
    posted = [];
    notes = [];
  }
