use Rattle.quiet_law.proofs.Items.{run_answered}
use Rattle.quiet_law.proofs.answers.run_is_answered_as_the_log.Goals as goal

pub returns : goal.returns
returns c = run_answered
