use Rattle.plain_log.specs.Log.{start, state_after}
use Rattle.plain_log.proofs.Answering.{read_finds, read_past_end}
use Rattle.plain_log.proofs.Coherent.{coherent_start, coherent_state_after}
use Rattle.plain_log.proofs.Joining.{untrimmed}
use Rattle.plain_log.proofs.laws.read_finds_entry.Goals as goal

pub returns-clause-found : goal.returns-clause-found
returns-clause-found c = λ shape run items lane shard replica position all from within.
    read_finds shape (state_after shape run (start shape) items) position
    (coherent_state_after shape run (start shape) items all (coherent_start shape)) from within

pub returns-clause-untrimmed : goal.returns-clause-untrimmed
returns-clause-untrimmed c = untrimmed

pub returns-clause-pending : goal.returns-clause-pending
returns-clause-pending c = λ shape run state lane shard replica position past. read_past_end shape.replicas state position past
