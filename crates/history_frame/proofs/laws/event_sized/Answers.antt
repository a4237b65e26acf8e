use Rattle.std.proofs.Common.{◌∷◌, ◌+◌, length, length-append, arith}
use Rattle.log_base.specs.Wide.{be2, be4}
use Rattle.log_base.proofs.Wide.{length-be2, length-be4}
use Rattle.history_frame.specs.Spelling.{event_body, happened_spelling}
use Rattle.history_frame.proofs.laws.event_sized.Goals as goal

pub returns : goal.returns
returns c = λ event.
    omega (
      arith,
      length-append (be4 (length (event_body event) + 1)) (98 ∷ event_body event),
      length-be4 (length (event_body event) + 1),
      length-append (be2 event.node.0) (happened_spelling event.happened),
      length-be2 event.node.0,
    )
