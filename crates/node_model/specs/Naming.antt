-- Which inputs are answered by a row of a role: a stop and a restart are the same for every role.
use Rattle.std.specs.Prelude.{Bool, true, false}
use Rattle.history_frame.specs.declared.inputs.Input.{Input}
use Rattle.history_frame.specs.declared.inputs.Input.TheVariants.{Deliver, Call as ACall, Tick, Lead, Stop, Restart}

abbrev pub is_row_input : Input → Bool
is_row_input (Deliver place index message) = true
is_row_input (ACall call) = true
is_row_input Tick = true
is_row_input Lead = true
is_row_input Stop = false
is_row_input Restart = false
