-- What each step on the table tells the pass that makes it: of the step, the pass and its slots before, the number found, and the pass and its slots after.
use Rattle.std.specs.Prelude.{◌≡◌, ◌≢◌, ℕ, ◌+◌, ◌<◌, List, ◌∷◌, Some}
use Rattle.atomic_table.specs.Table.{Me, Step, rest}
use Rattle.log_base.specs.Machines.{Meanings}
use Rattle.tied_cells.specs.declared.letter.Letter.{Letter}
use Rattle.tied_cells.specs.declared.board.Cell.{Cell}
use Rattle.tied_cells.specs.declared.board.Stored.{Stored}
use Rattle.tied_cells.specs.declared.board.Stored.TheVariants.{Nothing, Home, Mail, Said}
use Rattle.tied_cells.specs.declared.board.Turn.{Turn}
use Rattle.tied_cells.specs.declared.board.View.{View}
use Rattle.tied_cells.specs.History.{StandsAfter}
use Rattle.tied_cells.specs.Rule.{nodes_of, box_node}
use Rattle.tied_cells.specs.Views.{noted, holding, let_go, boxing, unboxed, posting, fetching, addressed, grown, FitsTurn, IsPlaced}

module _ {A S I H : Type 0} (state : A → S) (m : Meanings S I H) where
  -- the turn at a node, with its cell
  abbrev pub took : Step (Stored A H) → Me (Stored A H) (View S H) → ℕ → Me (Stored A H) (View S H) → Type 0
  took at me found me' = (found ≡ 0 → (node : ℕ) × (cell : Cell A H) × (at.word ≡ node + 1) × (me' ≡ (holding me.0 node cell.events.items, (node, Home cell) ∷ me.1))
      × StandsAfter state m me.0.deal.starts node cell.machine cell.events.items)
      × (found ≢ 0 → me' ≡ (noted me.0 at.word found, me.1))

module _ {A S I H : Type 0} (m : Meanings S I H) where
  -- the place of the event that lies in the slot in hand, and that it stands there
  abbrev pub placed : Step (Stored A H) → Me (Stored A H) (View S H) → ℕ → Me (Stored A H) (View S H) → Type 0
  placed at me found me' = (found < 131072) × ((slot : ℕ) (happened : H) (others : List (ℕ × Stored A H)) → me.1 ≡ (slot, Said happened) ∷ others → (me' ≡ (grown m me.0 found happened, me.1))
      × ((turn : Turn H) → me.0.turn ≡ Some turn → IsPlaced m me.0.deal.starts turn found happened))

  -- a letter, with its box
  abbrev pub fetched : Step (Stored A H) → Me (Stored A H) (View S H) → ℕ → Me (Stored A H) (View S H) → Type 0
  fetched at me found me' = (found ≡ 1 → (slot : ℕ) × (letter : Letter) × (at.word ≡ slot + 1)
      × (me' ≡ (fetching me.0 slot (addressed (box_node (nodes_of me.0.deal) slot) letter), (slot, Mail letter) ∷ me.1)) × FitsTurn m me.0 (box_node (nodes_of me.0.deal) slot) letter)
      × (found ≢ 1 → me' ≡ (noted me.0 at.word found, me.1))

module _ {A S H : Type 0} where
  -- the turn is given back, with the slot
  abbrev pub released : Step (Stored A H) → Me (Stored A H) (View S H) → ℕ → Me (Stored A H) (View S H) → Type 0
  released at me found me' = me' ≡ (let_go me.0, rest me.1)

  -- an empty box
  abbrev pub claimed : Step (Stored A H) → Me (Stored A H) (View S H) → ℕ → Me (Stored A H) (View S H) → Type 0
  claimed at me found me' = (found ≡ 0 → (slot : ℕ) × (at.word ≡ slot + 1) × (me' ≡ (boxing me.0 slot, (slot, Nothing) ∷ me.1)))
      × (found ≢ 0 → me' ≡ (noted me.0 at.word found, me.1))

  -- the box is full
  abbrev pub posted : Step (Stored A H) → Me (Stored A H) (View S H) → ℕ → Me (Stored A H) (View S H) → Type 0
  posted at me found me' = (slot : ℕ) (letter : Letter) (others : List (ℕ × Stored A H)) → me.1 ≡ (slot, Mail letter) ∷ others
      → me' ≡ (posting me.0 (addressed (box_node (nodes_of me.0.deal) slot) letter), others)

  -- the box is empty again
  abbrev pub freed : Step (Stored A H) → Me (Stored A H) (View S H) → ℕ → Me (Stored A H) (View S H) → Type 0
  freed at me found me' = me' ≡ (unboxed me.0, rest me.1)
