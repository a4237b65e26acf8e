use Rattle.plain_log.specs.Log.{start, state_after}
use Rattle.plain_log.proofs.Answering.{append_told, append_not_added}
use Rattle.plain_log.proofs.Coherent.{coherent_start, coherent_state_after}
use Rattle.plain_log.proofs.laws.append_is_told.Goals as goal

pub returns-clause-told : goal.returns-clause-told
returns-clause-told c = λ shape run items lane shard replica bytes all item live.
    append_told shape run (state_after shape run (start shape) items) lane shard replica bytes item live
    (coherent_state_after shape run (start shape) items all (coherent_start shape))

pub returns-clause-not_added : goal.returns-clause-not_added
returns-clause-not_added c = append_not_added
