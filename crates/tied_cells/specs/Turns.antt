-- What the calls on turns and letters ask of a pass, and what they say of it.
use Rattle.std.specs.Prelude.{◌≡◌, ◌≢◌, ℕ, ◌+◌, ◌<◌, ◌≤◌, ◌⊎◌, List, [], ◌∷◌, ◌++◌, map, slice_get, Option, Some, None}
use Rattle.atomic_table.specs.Table.{Me}
use Rattle.log_base.specs.Machines.{Meanings, Letter as Told, state_after}
use Rattle.log_base.specs.declared.machine.Committed.{Committed}
use Rattle.tied_cells.specs.declared.letter.Letter.{Letter}
use Rattle.tied_cells.specs.declared.board.Cell.{Cell}
use Rattle.tied_cells.specs.declared.board.Stored.{Stored}
use Rattle.tied_cells.specs.declared.board.Stored.TheVariants.{Nothing}
use Rattle.tied_cells.specs.declared.board.Own.{Own}
use Rattle.tied_cells.specs.declared.turns.Taken.{Taken}
use Rattle.tied_cells.specs.declared.turns.Taken.TheVariants.{Held, Busy}
use Rattle.tied_cells.specs.declared.account.Account.{Account}
use Rattle.tied_cells.specs.declared.board.Turn.{Turn}
use Rattle.tied_cells.specs.declared.board.Addressed.{Addressed}
use Rattle.tied_cells.specs.declared.board.View.{View}
use Rattle.tied_cells.specs.History.{happened_of, StandsAfter}
use Rattle.tied_cells.specs.Rule.{told}
use Rattle.tied_cells.specs.Views.{noted, holding}

-- a letter is the last that the pass fetched, and was fetched at this node
abbrev pub IsLastFetched : ℕ → Option Told → Option Addressed → Type 0
IsLastFetched node None fetched = Unit {0}
IsLastFetched node (Some letter) fetched = (addressed : Addressed) × (fetched ≡ Some addressed) × (addressed.node ≡ node) × (told addressed.letter ≡ letter)

module _ {S I H : Type 0} (m : Meanings S I H) where
  -- what happened may come next at the node whose turn the pass has
  pub record Steps (view : View S H) (turn : Turn H) (happened : H) : Type 0 where
    pub start : S
    pub starts_so : slice_get view.deal.starts turn.node ≡ Some start
    pub fits : m.fits (state_after m start (map happened_of turn.events)) (m.input happened)
    pub row : m.is_row (state_after m start (map happened_of turn.events)) happened
    pub delivered : IsLastFetched turn.node (m.delivers (m.input happened)) view.fetched

  -- the letter is an output of an event of the pass, addressed to the node
  abbrev pub IsOwnOutput : View S H → ℕ → Letter → Type 0
  IsOwnOutput view node letter = (k : ℕ) × (own : Own H) × (slice_get view.own k ≡ Some own) × (own.place ≡ letter.place)
      × (slice_get (m.outputs own.happened) letter.index ≡ Some (node, letter.bytes))

-- the pass has no turn, and nothing of the table
abbrev pub HoldsNothing : {A S H : Type 0} → Me (Stored A H) (View S H) → Type 0
HoldsNothing me = (me.0.turn ≡ None) × (me.1 ≡ [])

-- the pass has the turn at the node, with these events, and the cell is out of its slot
abbrev pub HasTurn : {A S H : Type 0} → Me (Stored A H) (View S H) → ℕ → Cell A H → Type 0
HasTurn me node cell = (me.0.turn ≡ Some (record { node = node; events = cell.events.items })) × (me.1 ≡ (node, Nothing) ∷ [])

module _ {A S I H : Type 0} (state : A → S) (m : Meanings S I H) where
  -- a try to take the turn at a node: the turn with the node's cell, or a note that the node's word named a pass
  abbrev pub Takes : ℕ → Me (Stored A H) (View S H) → Me (Stored A H) (View S H) → Taken A H → Type 0
  Takes node old new (Held held) = (held.node.0 ≡ node) × (new ≡ (holding old.0 node held.cell.events.items, (node, Nothing) ∷ []))
      × StandsAfter state m old.0.deal.starts node held.cell.machine held.cell.events.items
  Takes node old new Busy = (found : ℕ) × (found ≢ 0) × (new ≡ (noted old.0 (node + 1) found, []))

  -- the machine of the cell made this step, from where it stood after the node's events, and the step may come next
  abbrev pub HasStepped : View S H → ℕ → Cell A H → H → Type 0
  HasStepped view node cell happened = (steps : Steps m view (record { node = node; events = cell.events.items }) happened)
      × (state cell.machine ≡ m.after (state_after m steps.start (map happened_of cell.events.items)) happened)

-- the cell with one more event
abbrev pub with_event : {A H : Type 0} → Cell A H → ℕ → H → List (Committed H)
with_event cell place happened = cell.events.items ++ record { place = place; happened = happened } ∷ []

-- no place is left to the pass, or fewer bytes of events than one event may have
abbrev pub IsSpent : Account → Type 0
IsSpent account = (account.places ≤ account.used) ⊎ (account.room < account.bytes + 2097152)

abbrev pub HasLeft : Account → Type 0
HasLeft account = (account.used < account.places) × (account.bytes + 2097152 ≤ account.room)

-- the account after an event of this size
abbrev pub charged : Account → ℕ → Account
charged account size = record account { used = account.used + 1; bytes = account.bytes + size }
