use Rattle.plain_log.proofs.Sequence.{replies_from-append, state_after-append}
use Rattle.plain_log.proofs.laws.answers_go_on.Goals as goal

pub returns : goal.returns
returns c = record { replies = replies_from-append; state = state_after-append }
