use Rattle.plain_log.proofs.Sequence.{length-log_with_halt}
use Rattle.plain_log.proofs.laws.halt_goes_on.Goals as goal

pub returns-clause-each : goal.returns-clause-each
returns-clause-each c = length-log_with_halt
