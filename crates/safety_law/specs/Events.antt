-- An event at a node: what is so of its input, and the nodes after it.
use Rattle.std.specs.Prelude.{ℕ, ◌==◌, if◌then◌else◌, Some, None}
use Rattle.history_frame.specs.declared.inputs.Input.{Input}
use Rattle.history_frame.specs.declared.inputs.Input.TheVariants.{Deliver, Call as ACall, Tick, Lead, Stop, Restart}
use Rattle.log_base.specs.ClusterShape.{Shape}
use Rattle.node_table.specs.declared.role.Role.{Role}
use Rattle.node_model.specs.Fits.{IsCallOf}
use Rattle.node_model.specs.NodeState.{NodeState}
use Rattle.safety_law.specs.Letters.{IsGoodMessage}
use Rattle.safety_law.specs.Lists.{Lists}

-- an input of which all is so: its letter is good, and the numbers of its call are in range
abbrev pub IsGoodInput : Shape → Lists → Role → Input → Type 0
IsGoodInput config lists role (Deliver place index (Some message)) = IsGoodMessage config lists role message
IsGoodInput config lists role (Deliver place index None) = Unit {0}
IsGoodInput config lists role (ACall call) = IsCallOf config call
IsGoodInput config lists role Tick = Unit {0}
IsGoodInput config lists role Lead = Unit {0}
IsGoodInput config lists role Stop = Unit {0}
IsGoodInput config lists role Restart = Unit {0}

-- the nodes after one of them is replaced
abbrev pub with_state : (ℕ → NodeState) → ℕ → NodeState → ℕ → NodeState
with_state state node new other = if other == node then new else state other
