-- The starts that a run begins with, and items that start no node again.
use Rattle.std.specs.Prelude.{◌≡◌, ℕ}
use Rattle.fault_script.specs.declared.fault.Fault.TheVariants as fault
use Rattle.command_frame.specs.declared.items.Item.{Item}
use Rattle.command_frame.specs.declared.items.Item.TheVariants.{Fault as FaultItem}
use Rattle.history_frame.specs.declared.events.Event.{Event}
use Rattle.history_frame.specs.declared.inputs.Input.TheVariants.{Restart}

-- an event starts the node of this number
pub record IsStartOf (number : ℕ) (event : Event) : Type 0 where
  pub node : event.node.0 ≡ number
  pub input : event.happened.input ≡ Restart

-- an item starts no node
abbrev pub IsNoRestart : Item → Type 0
IsNoRestart (FaultItem lane (fault.Restart node)) = ⊥
IsNoRestart item = Unit {0}
