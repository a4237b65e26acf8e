-- What posting and fetching say of a pass.
use Rattle.std.specs.Prelude.{◌≡◌, ◌≢◌, ℕ, ◌+◌, ◌*◌, ◌<◌, List, ◌++◌, length, slice_get, Some}
use Rattle.atomic_table.specs.Table.{Me}
use Rattle.log_base.specs.Machines.{Meanings}
use Rattle.tied_cells.specs.declared.letter.Letter.{Letter}
use Rattle.tied_cells.specs.declared.board.Stored.{Stored}
use Rattle.tied_cells.specs.declared.board.Note.{Note}
use Rattle.tied_cells.specs.declared.board.View.{View}
use Rattle.tied_cells.specs.declared.mail.Posted.{Posted}
use Rattle.tied_cells.specs.declared.mail.Posted.TheVariants.{Posted as WasPosted, NoRoom}
use Rattle.tied_cells.specs.declared.mail.Fetched.{Fetched}
use Rattle.tied_cells.specs.declared.mail.Fetched.TheVariants.{Letter as GotLetter, Empty}
use Rattle.tied_cells.specs.Rule.{nodes_of, box_node}
use Rattle.tied_cells.specs.Views.{noted, posting, addressed, FitsTurn}

-- the first box of a node
abbrev pub first_box : ℕ → ℕ → ℕ
first_box nodes node = nodes + 16 * node

-- for each of so many boxes there is a note, in order, that its word was not as it had to be
pub record IsTried (Bad : ℕ → Type 0) (first count : ℕ) (added : List Note) : Type 0 where
  pub as_many : length added ≡ count
  pub each : (k : ℕ) → k < count → (found : ℕ) × (slice_get added k ≡ Some (record { word = first + k + 1; found = found })) × Bad found

module _ {S H : Type 0} where
  -- the pass noted these
  abbrev pub noting : View S H → List Note → View S H
  noting view added = record view { notes = view.notes ++ added }

  abbrev pub got : View S H → ℕ → Letter → View S H
  got view node letter = record view { fetched = Some (addressed node letter) }

module _ {A S H : Type 0} where
  -- a try to post a letter into one box
  abbrev pub PostsInto : ℕ → Letter → Me (Stored A H) (View S H) → Me (Stored A H) (View S H) → Posted → Type 0
  PostsInto slot letter old new WasPosted = new ≡ (posting old.0 (addressed (box_node (nodes_of old.0.deal) slot) letter), old.1)
  PostsInto slot letter old new (NoRoom back) = (back ≡ letter) × ((found : ℕ) × (found ≢ 0) × (new ≡ (noted old.0 (slot + 1) found, old.1)))

  -- a letter is posted to a node, or for each of its 16 boxes there is a new note that it was not empty
  abbrev pub Posts : ℕ → Letter → Me (Stored A H) (View S H) → Me (Stored A H) (View S H) → Posted → Type 0
  Posts node letter old new WasPosted = (added : List Note) × (new ≡ (posting (noting old.0 added) (addressed node letter), old.1))
  Posts node letter old new (NoRoom back) = (back ≡ letter) × ((added : List Note) × IsTried (λ found. found ≢ 0) (first_box (nodes_of old.0.deal) node) 16 added × (new ≡ (noting old.0 added, old.1)))

module _ {A S I H : Type 0} (m : Meanings S I H) where
  -- a try to fetch a letter from one box
  abbrev pub FetchesFrom : ℕ → Me (Stored A H) (View S H) → Me (Stored A H) (View S H) → Fetched → Type 0
  FetchesFrom slot old new (GotLetter letter) = (new ≡ (got old.0 (box_node (nodes_of old.0.deal) slot) letter, old.1)) × FitsTurn m old.0 (box_node (nodes_of old.0.deal) slot) letter
  FetchesFrom slot old new Empty = (found : ℕ) × (found ≢ 1) × (new ≡ (noted old.0 (slot + 1) found, old.1))

  -- A letter for a node is fetched, which fits its machine where the pass has the turn, or for each of its 16 boxes there
  -- is a new note that it was not full.
  abbrev pub Fetches : ℕ → Me (Stored A H) (View S H) → Me (Stored A H) (View S H) → Fetched → Type 0
  Fetches node old new (GotLetter letter) = ((added : List Note) × (new ≡ (got (noting old.0 added) node letter, old.1))) × FitsTurn m old.0 node letter
  Fetches node old new Empty = (added : List Note) × IsTried (λ found. found ≢ 1) (first_box (nodes_of old.0.deal) node) 16 added × (new ≡ (noting old.0 added, old.1))
