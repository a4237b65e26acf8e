use Rattle.quiet_model.proofs.Calling.{submitted}
use Rattle.quiet_model.proofs.calls.submission_goes_ahead.Goals as goal

pub returns : goal.returns
returns c = submitted
