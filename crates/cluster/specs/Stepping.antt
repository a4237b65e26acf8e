-- A step of a node.
use Rattle.std.specs.Prelude.{◌≡◌, ℕ, ◌≤◌, List, length, map}
use Rattle.counted_node.specs.Counted.{CountedState, counted_meanings}
use Rattle.history_frame.specs.declared.events.Happened.{Happened}
use Rattle.history_frame.specs.declared.inputs.Input.{Input}
use Rattle.node_model.specs.Machine.{posted}

-- A node takes an input: what happened is a row of the rules, and its letters are these.
pub record Acts (old new : CountedState) (input : Input) (happened : Happened) (letters : List (ℕ × List ℕ)) : Type 0 where
  pub input_is : happened.input ≡ input
  pub row : counted_meanings.is_row old happened
  pub after : new ≡ counted_meanings.after old happened
  pub letters_are : letters ≡ map posted happened.outputs
  pub few : length happened.outputs ≤ 255
  pub size : counted_meanings.size happened ≤ 2097152
