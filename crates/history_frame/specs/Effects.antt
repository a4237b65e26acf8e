-- What happened where a node did something with an input.
use Rattle.history_frame.specs.declared.events.Effect.{Effect}
use Rattle.history_frame.specs.declared.events.Happened.{Happened}
use Rattle.history_frame.specs.declared.inputs.Input.{Input}

abbrev pub happened : Input → Effect → Happened
happened taken effect = record { input = taken; mark = effect.mark; outputs = effect.outputs; reply = effect.reply }
