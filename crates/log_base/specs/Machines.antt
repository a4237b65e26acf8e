-- What a deterministic machine is to the layers above it, and which lists of events of several such
-- machines, the nodes, are legal.
use Rattle.std.specs.Prelude.{◌≡◌, ℕ, List, [], ◌∷◌, Option, Some, None, take, slice_get, ◌==◌, if◌then◌else◌}
use Rattle.std.specs.List.{fold}

-- A letter as its addressee sees it: the place of the event that put it out, its index among that event's
-- letters, and its bytes.
abbrev pub Letter : Type 0
Letter = ℕ × (ℕ × List ℕ)

-- The meanings of a machine, over its states, its inputs and what its steps say that happened. A happened
-- says an input, a mark, outputs as pairs of addressee and bytes, and a reply.
pub record Meanings (S I H : Type 0) : Type 1 where
  -- the input fits the state
  pub fits : S → I → Type 0
  -- what a happened says
  pub input : H → I
  pub outputs : H → List (ℕ × List ℕ)
  -- the row of rules: its outputs and reply are those for the state, its input and its mark, which can be
  pub is_row : S → H → Type 0
  -- the row's new state
  pub after : S → H → S
  -- the letter that an input delivers
  pub delivers : I → Option Letter
  -- the size that an event is counted with
  pub size : H → ℕ
  -- the states of a list of machines, a node each, are a sound start
  pub is_sound : List S → Type 0

-- what happened at a node
pub record Event (H : Type 0) : Type 0 where
  pub node : ℕ
  pub happened : H

module _ {H : Type 0} where
  -- what happened at one node, in order
  abbrev pub of_node : ℕ → List (Event H) → List H
  of_node node [] = []
  of_node node (event ∷ log) = if event.node == node then event.happened ∷ of_node node log else of_node node log

module _ {S I H : Type 0} (m : Meanings S I H) where
  -- the state after these rows
  abbrev pub state_after : S → List H → S
  state_after start happened = fold m.after start happened

  -- the letter is an output, addressed to the node, of an event of the log
  abbrev pub IsOutput : List (Event H) → ℕ → Letter → Type 0
  IsOutput log node letter = (event : Event H) × (slice_get log letter.0 ≡ Some event)
      × (slice_get (m.outputs event.happened) letter.1.0 ≡ Some (node, letter.1.1))

  -- a letter, if there is one, is an output of an earlier event
  abbrev pub IsDelivered : List (Event H) → ℕ → Option Letter → Type 0
  IsDelivered before node None = Unit {0}
  IsDelivered before node (Some letter) = IsOutput before node letter

  -- what may happen at a node in this state, after these events
  pub record Follows (now : S) (before : List (Event H)) (node : ℕ) (happened : H) : Type 0 where
    pub fits : m.fits now (m.input happened)
    pub row : m.is_row now happened
    pub delivered : IsDelivered before node (m.delivers (m.input happened))

  -- the event may come next
  abbrev pub IsNext : List S → List (Event H) → Event H → Type 0
  IsNext starts before event = (start : S) × (slice_get starts event.node ≡ Some start)
      × Follows (state_after start (of_node event.node before)) before event.node event.happened

  -- each event may come after those before it
  abbrev pub IsLegal : List S → List (Event H) → Type 0
  IsLegal starts log = (k : ℕ) (event : Event H) → slice_get log k ≡ Some event → IsNext starts (take k log) event

  -- The law of a machine: after a legal list of events from a sound start, an input that delivers an output
  -- of the list at its addressee fits the addressee's state.
  abbrev pub DeliveriesFit : Type 0
  DeliveriesFit = (starts : List S) (log : List (Event H)) → m.is_sound starts → IsLegal starts log
      → (node : ℕ) (start : S) (input : I) (letter : Letter) → slice_get starts node ≡ Some start
      → m.delivers input ≡ Some letter → IsOutput log node letter → m.fits (state_after start (of_node node log)) input
