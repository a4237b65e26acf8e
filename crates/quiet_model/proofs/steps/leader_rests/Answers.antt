use Rattle.quiet_model.proofs.Leading.{rests}
use Rattle.quiet_model.proofs.steps.leader_rests.Goals as goal

pub returns : goal.returns
returns c = rests
