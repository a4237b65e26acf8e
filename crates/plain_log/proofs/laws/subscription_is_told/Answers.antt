use Rattle.plain_log.specs.Log.{start, state_after}
use Rattle.plain_log.proofs.Coherent.{coherent_start, coherent_state_after}
use Rattle.plain_log.proofs.Taking.{taken_in}
use Rattle.command_frame.specs.Streams.{room_of_stream}
use Rattle.plain_log.proofs.laws.subscription_is_told.Goals as goal

pub returns-clause-taken : goal.returns-clause-taken
returns-clause-taken c = λ shape run items from count all.
    taken_in shape (state_after shape run (start shape) items) room_of_stream from count
    (coherent_state_after shape run (start shape) items all (coherent_start shape))
