use Rattle.quiet_model.proofs.Voting.{promises}
use Rattle.quiet_model.proofs.steps.nothing_is_reported.Goals as goal

pub returns : goal.returns
returns c = promises
