-- What a pass submits: under its own number alone, so that no two passes submit one pair.
use Rattle.std.specs.Prelude.{◌≡◌, ℕ, ◌/◌, ◌^◌, List, slice_get, Some}
use Rattle.history_frame.specs.declared.events.Happened.{Happened}
use Rattle.history_frame.specs.declared.inputs.Input.{Input}
use Rattle.node_model.specs.Legal.{submitted}
use Rattle.record_frame.specs.declared.entries.Entry.{Entry}
use Rattle.tied_cells.specs.declared.board.Own.{Own}

-- an entry that an input submits has the number of the pass as its client, and its own number is of the run
abbrev pub IsOfPass : ℕ → ℕ → Input → Type 0
IsOfPass run number input = (entry : Entry) → submitted input ≡ Some entry → (entry.client.0 ≡ number) × (entry.number.0 / 2 ^ 32 ≡ run)

-- an input at a node submits no pair that an event submitted, or the same bytes to the same node
abbrev pub SubmitsLike : ℕ → Input → Own Happened → Type 0
SubmitsLike node input event = (one other : Entry) → submitted input ≡ Some one → submitted event.happened.input ≡ Some other
    → one.client ≡ other.client → one.number ≡ other.number → (node ≡ event.node) × (one.bytes ≡ other.bytes)

-- a pass of this number that has these events may give an input to a node
pub record MaySubmit (run number node : ℕ) (own : List (Own Happened)) (input : Input) : Type 0 where
  pub of_pass : IsOfPass run number input
  pub like : (k : ℕ) (event : Own Happened) → slice_get own k ≡ Some event → SubmitsLike node input event

-- A pass submits under its own number alone, and entries of one pair go to one node with equal bytes.
pub record SubmitsAlone (run number : ℕ) (own : List (Own Happened)) : Type 0 where
  pub of_pass : (k : ℕ) (event : Own Happened) → slice_get own k ≡ Some event → IsOfPass run number event.happened.input
  pub like : (k j : ℕ) (event other : Own Happened) → slice_get own k ≡ Some event → slice_get own j ≡ Some other
      → SubmitsLike event.node event.happened.input other
